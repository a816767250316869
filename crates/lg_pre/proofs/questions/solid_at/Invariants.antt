use Rattle.std.proofs.Common.{◌≡◌, ◌≤◌, ◌-◌, length}
use Rattle.lg_pre.specs.Questions.{solid_at}
use Rattle.lg_pre.proofs.questions.solid_at.Given as goal

abbrev pub invariant-white : goal.invariant-white
invariant-white l = (l.at ≤ length l.pieces) × (l.from ≤ l.at) × (solid_at l.pieces l.at ≡ solid_at l.pieces l.from)

abbrev pub decreases-white : goal.decreases-white
decreases-white l = length l.pieces - l.at
