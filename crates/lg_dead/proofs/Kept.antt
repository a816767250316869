-- What the rewrites keep of each other's work.
use Rattle.std.specs.Prelude.{◌≡◌, ℕ, Bool, Option}
use Rattle.std.specs.List.{All}
use Rattle.lg_op.specs.Nodes.{InForm}
use Rattle.lg_op.specs.declared.operand.Label.{Label}
use Rattle.lg_op.specs.declared.operand.Reg.{Reg}
use Rattle.lg_node.specs.Checks.{IsAccepted}
use Rattle.lg_node.specs.Nodes.{LabelledNodes}
use Rattle.lg_node.specs.Shapes.{TextShape, IsShapeOf}
use Rattle.lg_dead.specs.Needs.{AreNeeds}
use Rattle.lg_opt.specs.Goals as goals
use Rattle.lg_opt.specs.Moves as moves
use Rattle.lg_opt.specs.Remaining.{rewritten, no_targets}
use Rattle.lg_opt.specs.Targets.{AreTargets}
use Rattle.lg_dead.specs.Dead.{HasNoDeadButMoves}
use Rattle.lg_dead.specs.Known.{HasNoFolds}

-- dropping definitions that are not needed, moves that do nothing, and threading make no node one that can be folded
abbrev pub DeadKeepsNoFolds : Type 0
DeadKeepsNoFolds =
    (l : LabelledNodes) (shape : TextShape) (stays : ℕ → Bool) (needs : ℕ → Reg → Bool) → All InForm l.nodes → AreNeeds l shape stays needs → HasNoFolds l → HasNoFolds (rewritten l stays no_targets)

abbrev pub MovesKeepNoFolds : Type 0
MovesKeepNoFolds = (l : LabelledNodes) → IsAccepted l → All InForm l.nodes → HasNoFolds l → HasNoFolds (rewritten l (moves.stays l) no_targets)

abbrev pub ThreadsKeepNoFolds : Type 0
ThreadsKeepNoFolds =
    (l : LabelledNodes) (targets : ℕ → Option Label) → IsAccepted l → All InForm l.nodes → AreTargets l targets → HasNoFolds l → HasNoFolds (rewritten l (goals.stays l) targets)

-- threading leaves no definition dead but a `movr`, where none was
abbrev pub ThreadsKeepNoDead : Type 0
ThreadsKeepNoDead =
    (l : LabelledNodes) (shape new_shape : TextShape) (targets : ℕ → Option Label) → IsShapeOf l shape → All InForm l.nodes → AreTargets l targets → new_shape.taken ≡ shape.taken
    → HasNoDeadButMoves l shape → HasNoDeadButMoves (rewritten l (goals.stays l) targets) new_shape
