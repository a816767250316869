-- What a branch compares, and the condition on which it is taken.
use Rattle.std.specs.Prelude.{ℕ, ◌%◌, ◌^◌, ◌==◌, ◌&&◌, nat_lt, Bool, true, false, if◌then◌else◌, ℤ, pos, negsuc, List, [], ◌∷◌, Option, Some, None}
use Rattle.lg_base.specs.Words.{signed_view, is_half}
use Rattle.lg_base.specs.declared.target.Target.TheVariants.{X86_64}
use Rattle.lg_op.specs.declared.op.Condition.{Condition}
use Rattle.lg_op.specs.declared.op.Condition.TheVariants as condition
use Rattle.lg_op.specs.declared.operand.Operand.{Operand}
use Rattle.lg_op.specs.declared.operand.Operand.TheVariants as operand
use Rattle.lg_op.specs.declared.operand.Reg.{Reg}
use Rattle.lg_x86.specs.declared.instruction.Cond.{Cond}
use Rattle.lg_x86.specs.declared.instruction.Cond.TheVariants as cond
use Rattle.lg_x86.specs.declared.instruction.ImmOp.TheVariants.{Andi, Cmpi}
use Rattle.lg_x86.specs.declared.instruction.Instr.{Instr}
use Rattle.lg_x86.specs.declared.instruction.Instr.TheVariants as instr
use Rattle.lg_x86.specs.declared.instruction.RmRegOp.{RmRegOp}
use Rattle.lg_x86.specs.declared.instruction.RmRegOp.TheVariants as row
use Rattle.lg_temp.specs.Abis.{register_of}
use Rattle.lg_selx_values.specs.Processor.Numbers.{number_row}
use Rattle.lg_carry.specs.Nodes.Immediates.{immediate}
use Rattle.lg_selx_values.specs.Scratch.{again}

-- the flags are those of the difference of two words, and for bits those of their conjunction
abbrev pub comparison : Condition → RmRegOp
comparison condition.Ms = row.Test
comparison condition.Mc = row.Test
comparison o = row.Cmp

-- whether a difference is asked for: no row tests the bits of a number
abbrev pub is_difference : Condition → Bool
is_difference condition.Ms = false
is_difference condition.Mc = false
is_difference o = true

-- and what then holds of them where the condition holds
abbrev pub taken : Condition → Cond
taken condition.Lt = cond.Less
taken condition.LtU = cond.Below
taken condition.Le = cond.LessOrEqual
taken condition.LeU = cond.BelowOrEqual
taken condition.Ge = cond.GreaterOrEqual
taken condition.GeU = cond.AboveOrEqual
taken condition.Gt = cond.Greater
taken condition.GtU = cond.Above
taken condition.Eq = cond.Equal
taken condition.Ne = cond.NotEqual
taken condition.Ms = cond.NotEqual
taken condition.Mc = cond.Equal

-- FP, rbp, 5, is below 2 ^ 30: of a number of more than 32 bits it lies on the same side as of this one
abbrev pub far_number : ℕ → ℤ
far_number v = if nat_lt v (2 ^ 63) then pos 0x7FFFFFFF else negsuc 0x7FFFFFFF

-- so FP is compared with this one. Its bits are tested in FP itself, which has none but the lowest 30, and is made again; that changes no flag
abbrev pub pointer_comparison : Condition → ℕ → ℕ → List Instr
pointer_comparison o frame v =
    if is_difference o then instr.Imm Cmpi 5 (far_number v) ∷ [] else instr.Imm Andi 5 (pos (v % 2 ^ 30)) ∷ again frame

-- a number of more than 32 bits, and for bits any, is loaded into FP, which is made again from the stack pointer, rsp, 4; but where FP is compared
abbrev pub wide_comparison : Condition → ℕ → ℕ → ℕ → List Instr
wide_comparison o frame a v =
    if a == 5 then pointer_comparison o frame v else number_row 5 v ∷ (instr.RmReg (comparison o) a 5 ∷ again frame)

abbrev pub number_comparison : Condition → ℕ → ℕ → ℕ → List Instr
number_comparison o frame a v =
    if is_difference o && is_half v then instr.Imm Cmpi a (signed_view v) ∷ [] else wide_comparison o frame a v

abbrev pub word_comparison : Condition → ℕ → ℕ → Option ℕ → List Instr
word_comparison o frame a None = []
word_comparison o frame a (Some v) = number_comparison o frame a v

-- what is before the jump of a branch
abbrev pub before_branch : ℕ → Condition → Reg → Operand → List Instr
before_branch frame o a (operand.Reg b) = instr.RmReg (comparison o) (register_of X86_64 a) (register_of X86_64 b) ∷ []
before_branch frame o a x = word_comparison o frame (register_of X86_64 a) (immediate x)
