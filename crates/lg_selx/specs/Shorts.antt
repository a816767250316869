-- The forms of x86-64's code that leads to a label: back to one that is bound the shortest, and ahead the near one.
use Rattle.std.specs.Prelude.{◌≡◌, ℕ, ◌+◌, Bool, true, false, pos, ◌-ℤ◌, ℤ, List, [], ◌∷◌}
use Rattle.lg_buf.specs.Fixing.{Fits}
use Rattle.lg_buf.specs.declared.fixes.FixKind.TheVariants.{X86Rel8}
use Rattle.lg_x86.specs.declared.instruction.Cond.{Cond}
use Rattle.lg_x86.specs.declared.instruction.Instr.{Instr}
use Rattle.lg_x86.specs.declared.instruction.Instr.TheVariants as instr
use Rattle.lg_x86.specs.declared.instruction.JumpNearOp.TheVariants.{Jmp32}

-- the instructions that count from their own place
abbrev pub x86_is_relative : Instr → Bool
x86_is_relative (instr.JumpIfShort cond distance) = true
x86_is_relative (instr.JumpIfNear cond distance) = true
x86_is_relative (instr.JumpShort distance) = true
x86_is_relative (instr.JumpNear o distance) = true
x86_is_relative i = false

-- ---- back, of what leads from a place to a goal
-- a jump on a condition of two bytes, wherever its byte reaches
abbrev pub IsShortJumpIf : ℕ → ℕ → List Instr → Type 0
IsShortJumpIf goal from is = Fits X86Rel8 (from + 1) goal → (cond : Cond) × (is ≡ instr.JumpIfShort cond (pos goal -ℤ pos (from + 2)) ∷ [])

-- and a jump of two bytes
abbrev pub IsShortX86Jump : ℕ → ℕ → List Instr → Type 0
IsShortX86Jump goal from is = Fits X86Rel8 (from + 1) goal → is ≡ instr.JumpShort (pos goal -ℤ pos (from + 2)) ∷ []

-- ---- ahead, to a label that is not bound yet. Where they lead is not said: they begin at any place, with any distance
-- a jump on a condition of six bytes
abbrev pub IsJumpIfAhead : ℕ → List Instr → Type 0
IsJumpIfAhead from is = (cond : Cond) × (distance : ℤ) × (is ≡ instr.JumpIfNear cond distance ∷ [])

-- and a jump of five bytes
abbrev pub IsX86JumpAhead : ℕ → List Instr → Type 0
IsX86JumpAhead from is = (distance : ℤ) × (is ≡ instr.JumpNear Jmp32 distance ∷ [])
