-- The forms of AArch64's code that leads to a label: back to one that is bound the shortest, and ahead the one that a reach asks for.
use Rattle.std.specs.Prelude.{◌≡◌, ℕ, Bool, true, false, pos, ◌+ℤ◌, ◌*ℤ◌, ℤ, List, [], ◌∷◌}
use Rattle.lg_a64.specs.declared.instruction.BranchOp.TheVariants.{B}
use Rattle.lg_a64.specs.declared.instruction.Cond.{Cond}
use Rattle.lg_a64.specs.declared.instruction.Instr.{Instr}
use Rattle.lg_a64.specs.declared.instruction.Instr.TheVariants as instr
use Rattle.lg_buf.specs.Fixing.{Fits}
use Rattle.lg_buf.specs.declared.fixes.FixKind.TheVariants.{A64Cond19}
use Rattle.lg_sel.specs.declared.reach.Reach.{Reach}
use Rattle.lg_sel.specs.declared.reach.Reach.TheVariants.{Short, Near, Far}

-- the instructions that count from their own place
abbrev pub a64_is_relative : Instr → Bool
a64_is_relative (instr.Branch o words) = true
a64_is_relative (instr.BranchIf cond words) = true
a64_is_relative i = false

-- ---- back, of what leads from a place to a goal
-- a branch on a condition, wherever it reaches
abbrev pub IsShortBranchIf : ℕ → ℕ → List Instr → Type 0
IsShortBranchIf goal from is =
    Fits A64Cond19 from goal → (cond : Cond) × (words : ℤ) × (is ≡ instr.BranchIf cond words ∷ []) × (pos from +ℤ (words *ℤ pos 4) ≡ pos goal)

-- ---- ahead, to a label that is not bound yet. Where they lead is not said: they begin at any place, with any distance
-- a branch on a condition, or one over a branch
abbrev pub IsBranchIfAhead : Reach → ℕ → List Instr → Type 0
IsBranchIfAhead Short from is = (cond : Cond) × (words : ℤ) × (is ≡ instr.BranchIf cond words ∷ [])
IsBranchIfAhead Near from is = (cond : Cond) × (words : ℤ) × (is ≡ instr.BranchIf cond words ∷ [])
IsBranchIfAhead Far from is =
    (cond : Cond) × (words : ℤ) × (is ≡ instr.BranchIf cond (pos 2) ∷ instr.Branch B words ∷ [])
