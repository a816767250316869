-- The code of branches on RV64: a branch, or the turned branch over a jump.
use Rattle.std.specs.Prelude.{ℕ, ◌+◌, ◌*◌, ◌==◌, if◌then◌else◌, pos, ◌-ℤ◌, List, [], ◌∷◌, ◌++◌, length, Option, Some, None}
use Rattle.lg_base.specs.declared.target.Target.TheVariants.{Riscv64}
use Rattle.lg_op.specs.declared.op.BranchSumOp.{BranchSumOp}
use Rattle.lg_op.specs.declared.op.Condition.{Condition}
use Rattle.lg_op.specs.declared.operand.Operand.{Operand}
use Rattle.lg_op.specs.declared.operand.Operand.TheVariants as operand
use Rattle.lg_op.specs.declared.operand.Reg.{Reg}
use Rattle.lg_rv.specs.declared.instruction.BranchOp.{BranchOp}
use Rattle.lg_rv.specs.declared.instruction.Instr.{Instr}
use Rattle.lg_rv.specs.declared.instruction.Instr.TheVariants as instr
use Rattle.lg_temp.specs.Abis.{register_of}
use Rattle.lg_selr_values.specs.Processor.Numbers.{number_code}
use Rattle.lg_sel.specs.declared.reach.Reach.{Reach}
use Rattle.lg_sel.specs.declared.reach.Reach.TheVariants.{Short, Near, Far}
use Rattle.lg_selr_values.specs.Items.{far_jump}
use Rattle.lg_carry.specs.Nodes.Immediates.{immediate}
use Rattle.lg_selr.specs.Control.Branches.{turned, failing, left_of, right_of, bits_code}
use Rattle.lg_selr.specs.Control.ControlItems.{second_register}
use Rattle.lg_selr.specs.Control.SumBranches.{sum_code, staying}

-- from an address to another one, unless a branch is taken: the turned branch, or the branch over a jump, which goes by way of x31 where it is far
abbrev pub leads_unless : Reach → BranchOp → ℕ → ℕ → ℕ → ℕ → List Instr
leads_unless Short o a b at to = instr.Branch (turned o) a b (pos to -ℤ pos at) ∷ []
leads_unless Near o a b at to = instr.Branch o a b (pos 8) ∷ instr.Jal 0 (pos to -ℤ pos (at + 4)) ∷ []
leads_unless Far o a b at to = instr.Branch o a b (pos 12) ∷ far_jump 0 31 (at + 4) to

-- front is before it
abbrev pub branch_after : Reach → List Instr → BranchOp → ℕ → ℕ → ℕ → ℕ → List Instr
branch_after r front o a b from to = front ++ leads_unless r o a b (from + 4 * length front) to

-- what puts the second operand into its register
abbrev pub word_code : Option ℕ → List Instr
word_code None = []
word_code (Some v) = number_code 1 v

abbrev pub second_code : Operand → List Instr
second_code (operand.Reg b) = []
second_code (operand.Number v) = if v == 0 then [] else number_code 1 v
second_code x = word_code (immediate x)

-- a branch on a condition; the size of the frame does not matter
abbrev pub before_branch : Condition → Reg → Operand → List Instr
before_branch o a x = second_code x ++ bits_code o (register_of Riscv64 a) (second_register x)

abbrev pub branch_code : Reach → ℕ → Condition → Reg → Operand → ℕ → ℕ → List Instr
branch_code r frame o a x from to =
    branch_after r (before_branch o a x) (failing o) (left_of o (register_of Riscv64 a) (second_register x))
    (right_of o (register_of Riscv64 a) (second_register x)) from to

-- one on a sum or difference
abbrev pub before_sum_branch : BranchSumOp → Reg → Operand → List Instr
before_sum_branch o a x = second_code x ++ sum_code o (register_of Riscv64 a) (second_register x)

abbrev pub sum_branch_code : Reach → ℕ → BranchSumOp → Reg → Operand → ℕ → ℕ → List Instr
sum_branch_code r frame o a x from to = branch_after r (before_sum_branch o a x) (staying o) 31 0 from to
