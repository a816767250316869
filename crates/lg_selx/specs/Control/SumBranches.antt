-- The branches that add and subtract: the sum or difference sets the flags, and a jump is taken where they say that the exact result does not fit, or that it
-- does.
use Rattle.std.specs.Prelude.{ℕ, if◌then◌else◌, List, [], ◌∷◌, Option, Some, None}
use Rattle.lg_base.specs.Words.{signed_view, is_half}
use Rattle.lg_base.specs.declared.target.Target.TheVariants.{X86_64}
use Rattle.lg_op.specs.declared.op.BranchSumOp.{BranchSumOp}
use Rattle.lg_op.specs.declared.op.BranchSumOp.TheVariants as sum
use Rattle.lg_op.specs.declared.operand.Operand.{Operand}
use Rattle.lg_op.specs.declared.operand.Operand.TheVariants as operand
use Rattle.lg_op.specs.declared.operand.Reg.{Reg}
use Rattle.lg_x86.specs.declared.instruction.Cond.{Cond}
use Rattle.lg_x86.specs.declared.instruction.Cond.TheVariants as cond
use Rattle.lg_x86.specs.declared.instruction.ImmOp.{ImmOp}
use Rattle.lg_x86.specs.declared.instruction.ImmOp.TheVariants.{Addi, Subi}
use Rattle.lg_x86.specs.declared.instruction.Instr.{Instr}
use Rattle.lg_x86.specs.declared.instruction.Instr.TheVariants as instr
use Rattle.lg_x86.specs.declared.instruction.RmRegOp.{RmRegOp}
use Rattle.lg_x86.specs.declared.instruction.RmRegOp.TheVariants.{Add, Sub}
use Rattle.lg_temp.specs.Abis.{register_of}
use Rattle.lg_selx_values.specs.Processor.Numbers.{number_row}
use Rattle.lg_carry.specs.Nodes.Immediates.{immediate}
use Rattle.lg_selx_values.specs.Scratch.{again}

-- the first operand gets the sum or difference with a register
abbrev pub sum_row : BranchSumOp → RmRegOp
sum_row sum.OverflowAdd = Add
sum_row sum.OverflowAddU = Add
sum_row sum.OverflowSub = Sub
sum_row sum.OverflowSubU = Sub
sum_row sum.FitAdd = Add
sum_row sum.FitAddU = Add
sum_row sum.FitSub = Sub
sum_row sum.FitSubU = Sub

-- or with a number of 32 bits
abbrev pub sum_number : BranchSumOp → ImmOp
sum_number sum.OverflowAdd = Addi
sum_number sum.OverflowAddU = Addi
sum_number sum.OverflowSub = Subi
sum_number sum.OverflowSubU = Subi
sum_number sum.FitAdd = Addi
sum_number sum.FitAddU = Addi
sum_number sum.FitSub = Subi
sum_number sum.FitSubU = Subi

-- what then holds of the flags where the node goes to its label: OF says of signed words, and CF of unsigned ones
abbrev pub sum_taken : BranchSumOp → Cond
sum_taken sum.OverflowAdd = cond.Overflow
sum_taken sum.OverflowAddU = cond.Below
sum_taken sum.OverflowSub = cond.Overflow
sum_taken sum.OverflowSubU = cond.Below
sum_taken sum.FitAdd = cond.NoOverflow
sum_taken sum.FitAddU = cond.AboveOrEqual
sum_taken sum.FitSub = cond.NoOverflow
sum_taken sum.FitSubU = cond.AboveOrEqual

-- a number of more bits is loaded into FP, which is no first operand and is made again; that changes no flag
abbrev pub number_sum : BranchSumOp → ℕ → ℕ → ℕ → List Instr
number_sum o frame a v =
    if is_half v then instr.Imm (sum_number o) a (signed_view v) ∷ [] else number_row 5 v ∷ (instr.RmReg (sum_row o) a 5 ∷ again frame)

abbrev pub word_sum : BranchSumOp → ℕ → ℕ → Option ℕ → List Instr
word_sum o frame a None = []
word_sum o frame a (Some v) = number_sum o frame a v

-- what is before the jump of such a branch
abbrev pub before_sum_branch : ℕ → BranchSumOp → Reg → Operand → List Instr
before_sum_branch frame o a (operand.Reg b) = instr.RmReg (sum_row o) (register_of X86_64 a) (register_of X86_64 b) ∷ []
before_sum_branch frame o a x = word_sum o frame (register_of X86_64 a) (immediate x)
