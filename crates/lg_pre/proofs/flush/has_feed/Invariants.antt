use Rattle.std.proofs.Common.{◌≡◌, [], take}
use Rattle.lg_macro.specs.Text.{feeds_in}
use Rattle.lg_pre.proofs.flush.has_feed.Given as goal

abbrev pub invariant-loop-b : goal.invariant-loop-b
invariant-loop-b l = feeds_in (take l.b-index l.text) ≡ []
