use Rattle.std.proofs.Common.{◌≡◌, take, fold}
use Rattle.lg_macro.specs.Arguments.{with_feed}
use Rattle.lg_macro.proofs.arguments.push_feeds_of.Given as goal

abbrev pub invariant-loop-b : goal.invariant-loop-b
invariant-loop-b l = l.out ≡ fold (with_feed l.line) l.fn.out (take l.b-index l.text)
