-- Live sets are what carrying asks of the registers that are live.
use Rattle.std.specs.Prelude.{◌≡◌, ℕ, ◌<◌, Bool, true, List, slice_index_or}
use Rattle.std.specs.List.{All}
use Rattle.lg_op.specs.Nodes.{InForm}
use Rattle.lg_op.specs.declared.operand.Reg.{Reg}
use Rattle.lg_node.specs.Shapes.{IsShapeOf}
use Rattle.lg_live.specs.RegSets.{has}
use Rattle.lg_live.specs.declared.reg_set.RegSet.{RegSet}
use Rattle.lg_live.specs.Liveness.{LiveSets, AreLive}
use Rattle.lg_op.specs.Operands.{number_of}
use Rattle.lg_carry.specs.FinalNodes.{Code}
use Rattle.lg_carry.specs.NodeCode.{numbered, IsLiveness}

-- of each node the registers of its set, by their numbers; a node that is not there has none
abbrev pub live_at : List RegSet → ℕ → ℕ → Bool
live_at sets i = numbered (has (slice_index_or sets i (record { 0 = 0 })))

abbrev pub LiveSetsAreLiveness : Type 0
LiveSetsAreLiveness = (c : Code) (sets : LiveSets) → IsShapeOf c.nodes c.shape → All InForm c.nodes.nodes → AreLive c.nodes c.shape sets
    → IsLiveness c (live_at sets.before) (live_at sets.behind)

-- with every register live everywhere, too
abbrev pub AllIsLiveness : Type 0
AllIsLiveness = (c : Code) (all : Reg → Bool) → ((q : Reg) → number_of q < 6 → all q ≡ true) → IsLiveness c (λ i. numbered all) (λ i. numbered all)
