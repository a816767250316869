-- The forms of RV64's code that leads to a label: back to one that is bound the shortest, and ahead the one that a reach asks for.
use Rattle.std.specs.Prelude.{◌≡◌, ℕ, ◌+◌, Bool, true, false, pos, ◌-ℤ◌, ℤ, List, [], ◌∷◌}
use Rattle.lg_buf.specs.Fixing.{Fits}
use Rattle.lg_buf.specs.declared.fixes.FixKind.TheVariants.{RvBranch, RvJal}
use Rattle.lg_rv.specs.declared.instruction.BranchOp.{BranchOp}
use Rattle.lg_rv.specs.declared.instruction.Instr.{Instr}
use Rattle.lg_rv.specs.declared.instruction.Instr.TheVariants as instr
use Rattle.lg_rv.specs.declared.instruction.ImmOp.TheVariants.{Jalr}
use Rattle.lg_rv.specs.declared.instruction.UpperOp.TheVariants.{Auipc}
use Rattle.lg_sel.specs.declared.reach.Reach.{Reach}
use Rattle.lg_sel.specs.declared.reach.Reach.TheVariants.{Short, Near, Far}

-- the instructions that count from their own place
abbrev pub rv_is_relative : Instr → Bool
rv_is_relative (instr.Branch o rs1 rs2 offset) = true
rv_is_relative (instr.Jal rd offset) = true
rv_is_relative (instr.Upper Auipc rd imm) = true
rv_is_relative i = false

-- the register that holds where a jump came from, and the one that a far jump goes through: none and x31 at a jump, the link at a call
pub record RvLink : Type 0 where
  pub holds : ℕ
  pub through : ℕ

abbrev pub of_jumps : RvLink
of_jumps = record { holds = 0; through = 31 }

abbrev pub of_calls : RvLink
of_calls = record { holds = 1; through = 1 }

-- ---- back, of what leads from a place to a goal
-- a branch, wherever it reaches, and where it does not, a branch over a `jal`, wherever that reaches
pub record IsShortRvBranch (goal from : ℕ) (is : List Instr) : Type 0 where
  pub word : Fits RvBranch from goal → (o : BranchOp) × (rs1 : ℕ) × (rs2 : ℕ) × (is ≡ instr.Branch o rs1 rs2 (pos goal -ℤ pos from) ∷ [])
  pub over : (Fits RvBranch from goal → ⊥) → Fits RvJal (from + 4) goal
      → (o : BranchOp) × (rs1 : ℕ) × (rs2 : ℕ) × (is ≡ instr.Branch o rs1 rs2 (pos 8) ∷ instr.Jal 0 (pos goal -ℤ pos (from + 4)) ∷ [])

-- and a `jal` into a register, wherever it reaches
abbrev pub IsShortRvJump : ℕ → ℕ → ℕ → List Instr → Type 0
IsShortRvJump rd goal from is = Fits RvJal from goal → is ≡ instr.Jal rd (pos goal -ℤ pos from) ∷ []

-- ---- ahead, to a label that is not bound yet. Where they lead is not said: they begin at any place, with any distance
-- a branch, or one over a `jal`, or over `auipc` and `jalr`
abbrev pub IsRvBranchAhead : Reach → ℕ → List Instr → Type 0
IsRvBranchAhead Short from is = (o : BranchOp) × (rs1 : ℕ) × (rs2 : ℕ) × (distance : ℤ) × (is ≡ instr.Branch o rs1 rs2 distance ∷ [])
IsRvBranchAhead Near from is =
    (o : BranchOp) × (rs1 : ℕ) × (rs2 : ℕ) × (distance : ℤ) × (is ≡ instr.Branch o rs1 rs2 (pos 8) ∷ instr.Jal 0 distance ∷ [])
IsRvBranchAhead Far from is =
    (o : BranchOp) × (rs1 : ℕ) × (rs2 : ℕ) × (high : ℕ) × (low : ℤ)
    × (is ≡ instr.Branch o rs1 rs2 (pos 12) ∷ instr.Upper Auipc of_jumps.through high ∷ instr.Imm Jalr of_jumps.holds of_jumps.through low ∷ [])

-- and a `jal`, or `auipc` and `jalr`
abbrev pub IsRvJumpAhead : RvLink → Reach → ℕ → List Instr → Type 0
IsRvJumpAhead link Short from is = (distance : ℤ) × (is ≡ instr.Jal link.holds distance ∷ [])
IsRvJumpAhead link Near from is = (distance : ℤ) × (is ≡ instr.Jal link.holds distance ∷ [])
IsRvJumpAhead link Far from is =
    (high : ℕ) × (low : ℤ) × (is ≡ instr.Upper Auipc link.through high ∷ instr.Imm Jalr link.holds link.through low ∷ [])
