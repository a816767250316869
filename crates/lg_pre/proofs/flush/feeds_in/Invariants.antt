use Rattle.std.proofs.Common.{◌≡◌, take}
use Rattle.lg_macro.specs.Text.{feeds_in}
use Rattle.lg_pre.specs.Given.{}
use Rattle.lg_pre.proofs.flush.feeds_in.Given as goal

abbrev pub invariant-loop-b : goal.invariant-loop-b
invariant-loop-b l = l.feeds ≡ feeds_in (take l.b-index l.text)
