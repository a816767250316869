-- What dropping dead definitions makes of nodes.
use Rattle.std.specs.Prelude.{◌≡◌, ℕ, ◌<◌, Bool, false, List, length}
use Rattle.lg_op.specs.declared.operand.Reg.{Reg}
use Rattle.lg_op.specs.declared.operand.Reg.TheVariants.{Fp}
use Rattle.lg_live.specs.declared.reg_set.RegSet.{RegSet}
use Rattle.lg_node.specs.Nodes.{LabelledNodes}
use Rattle.lg_node.specs.Shapes.{TextShape, IsShapeOf}
use Rattle.lg_opt.specs.Remaining.{rewritten, no_targets, origins}
use Rattle.lg_opt.specs.Rewritings.{marked}
use Rattle.lg_dead.specs.Dead.{stays, needs_in, AreExact}

-- a table has of each node whether it stays
abbrev pub AreStays : LabelledNodes → List RegSet → List Bool → Type 0
AreStays l sets table = (i : ℕ) → i < length table → marked table i ≡ stays (needs_in sets) l i

-- the definitions that are not needed are gone
pub record IsDroppedTo (l : LabelledNodes) (shape : TextShape) (m : LabelledNodes) (new_shape : TextShape) (origin : List ℕ) : Type 0 where
  pub needs : ℕ → Reg → Bool
  pub exact : AreExact l shape needs
  pub fp : (i : ℕ) → needs i Fp ≡ false
  pub nodes : m ≡ rewritten l (stays needs l) no_targets
  pub shaped : IsShapeOf m new_shape
  pub taken : new_shape.taken ≡ shape.taken
  pub from : origin ≡ origins (stays needs l) (length l.nodes)
