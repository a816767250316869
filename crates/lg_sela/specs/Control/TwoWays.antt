-- The code of branches on AArch64: a branch on a condition, after an instruction that sets the flags.
use Rattle.std.specs.Prelude.{ℕ, ◌+◌, ◌*◌, if◌then◌else◌, pos, List, [], ◌∷◌, ◌++◌, length, Option, Some, None}
use Rattle.lg_base.specs.declared.target.Target.TheVariants.{Aarch64}
use Rattle.lg_op.specs.declared.op.BranchSumOp.{BranchSumOp}
use Rattle.lg_op.specs.declared.op.Condition.{Condition}
use Rattle.lg_op.specs.declared.operand.Operand.{Operand}
use Rattle.lg_op.specs.declared.operand.Operand.TheVariants as operand
use Rattle.lg_op.specs.declared.operand.Reg.{Reg}
use Rattle.lg_a64.specs.declared.instruction.BranchOp.TheVariants.{B}
use Rattle.lg_a64.specs.declared.instruction.Cond.{Cond}
use Rattle.lg_a64.specs.declared.instruction.Instr.{Instr}
use Rattle.lg_a64.specs.declared.instruction.Instr.TheVariants as instr
use Rattle.lg_temp.specs.Abis.{register_of}
use Rattle.lg_sela_values.specs.Processor.A64Rows.{link}
use Rattle.lg_sela_values.specs.Processor.Numbers.{number_code}
use Rattle.lg_sel.specs.declared.reach.Reach.{Reach}
use Rattle.lg_sel.specs.declared.reach.Reach.TheVariants.{Far}
use Rattle.lg_carry.specs.Nodes.Immediates.{immediate}
use Rattle.lg_sela_values.specs.Items.{words_between}
use Rattle.lg_sela.specs.Control.Branches.{is_held, taken, turned}
use Rattle.lg_sela.specs.Control.ControlItems.{second_register, comparing}
use Rattle.lg_sela.specs.Control.SumBranches.{sum_instruction, sum_taken}

-- from an address to another one where the condition holds: a branch, or where it is far the turned branch over one without a condition
abbrev pub leads_if : Reach → Cond → ℕ → ℕ → List Instr
leads_if Far holds at to = instr.BranchIf (turned holds) (pos 2) ∷ instr.Branch B (words_between (at + 4) to) ∷ []
leads_if r holds at to = instr.BranchIf holds (words_between at to) ∷ []

-- front is before it
abbrev pub branch_if : Reach → List Instr → Cond → ℕ → ℕ → List Instr
branch_if r front holds from to = front ++ leads_if r holds (from + 4 * length front) to

-- what puts the second operand into its register
abbrev pub word_code : Option ℕ → List Instr
word_code None = []
word_code (Some v) = number_code link v

abbrev pub second_code : Operand → List Instr
second_code (operand.Reg b) = []
second_code x = word_code (immediate x)

-- what puts it there for a comparison, which may hold a number itself
abbrev pub compared_code : Condition → Operand → List Instr
compared_code o (operand.Number v) = if is_held o v then [] else number_code link v
compared_code o x = second_code x

-- a branch on a condition; the size of the frame does not matter
abbrev pub before_branch : Condition → Reg → Operand → List Instr
before_branch o a x = compared_code o x ++ (comparing o (register_of Aarch64 a) x ∷ [])

abbrev pub branch_code : Reach → ℕ → Condition → Reg → Operand → ℕ → ℕ → List Instr
branch_code r frame o a x from to = branch_if r (before_branch o a x) (taken o) from to

-- one on a sum or difference
abbrev pub before_sum_branch : BranchSumOp → Reg → Operand → List Instr
before_sum_branch o a x = second_code x ++ (sum_instruction o (register_of Aarch64 a) (second_register x) ∷ [])

abbrev pub sum_branch_code : Reach → ℕ → BranchSumOp → Reg → Operand → ℕ → ℕ → List Instr
sum_branch_code r frame o a x from to = branch_if r (before_sum_branch o a x) (sum_taken o) from to
