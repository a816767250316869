-- Where the portable machine is before a step that is undefined.
use Rattle.std.specs.Prelude.{◌≡◌, ℕ, List, [], ◌∷◌, Option, Some}
use Rattle.lg_meaning.specs.Reasons.{why}
use Rattle.lg_meaning.specs.States.{State, reg}
use Rattle.lg_node.specs.Nodes.{LabelledNodes}
use Rattle.lg_node.specs.Shapes.{TextShape}
use Rattle.lg_op.specs.declared.operand.Reg.{Reg}
use Rattle.lg_op.specs.declared.operand.Reg.TheVariants.{R0, R1, R2, V0, V1, V2, Fp}
use Rattle.lg_explain.specs.declared.stop.StuckAt.{StuckAt}

-- what each register holds, where it is defined
abbrev pub registers_of : State → List (Reg × Option ℕ)
registers_of s = (R0, reg s R0) ∷ (R1, reg s R1) ∷ (R2, reg s R2) ∷ (V0, reg s V0) ∷ (V1, reg s V1) ∷ (V2, reg s V2) ∷ (Fp, reg s Fp) ∷ []

-- the step from a state is undefined for a reason, the first row of the table of undefined steps that holds, and the registers hold this
pub record IsStuck (l : LabelledNodes) (shape : TextShape) (addresses : List ℕ) (s : State) (stuck : StuckAt) : Type 0 where
  pub reason : why l shape addresses s ≡ Some stuck.reason
  pub registers : stuck.registers ≡ registers_of s
