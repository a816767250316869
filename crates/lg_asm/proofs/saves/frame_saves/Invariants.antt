use Rattle.std.proofs.Common.{◌≡◌}
use Rattle.lg_asm.specs.Lowered.{saves_in}
use Rattle.lg_asm.proofs.saves.frame_saves.Given as goal

abbrev pub invariant-nodes : goal.invariant-nodes
invariant-nodes l = l.saves ≡ saves_in l.nodes.nodes l.live l.index
