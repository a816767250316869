-- The code of branches on x86-64: a jump on a condition, after code that sets the flags.
use Rattle.std.specs.Prelude.{ℕ, ◌+◌, pos, ◌-ℤ◌, List, [], ◌∷◌, ◌++◌, length}
use Rattle.lg_op.specs.declared.op.BranchSumOp.{BranchSumOp}
use Rattle.lg_op.specs.declared.op.Condition.{Condition}
use Rattle.lg_op.specs.declared.operand.Operand.{Operand}
use Rattle.lg_op.specs.declared.operand.Reg.{Reg}
use Rattle.lg_x86.specs.Spelling.{spelling}
use Rattle.lg_x86.specs.declared.instruction.Cond.{Cond}
use Rattle.lg_x86.specs.declared.instruction.Instr.{Instr}
use Rattle.lg_x86.specs.declared.instruction.Instr.TheVariants as instr
use Rattle.lg_carry.specs.Blocks.{spellings}
use Rattle.lg_sel.specs.declared.reach.Reach.{Reach}
use Rattle.lg_sel.specs.declared.reach.Reach.TheVariants.{Short}
use Rattle.lg_selx.specs.Control.Branches.{before_branch, taken}
use Rattle.lg_selx.specs.Control.SumBranches.{before_sum_branch, sum_taken}

-- a jump where a condition holds, from an address to another one: its distance counts from its end
abbrev pub jump_if : Reach → Cond → ℕ → ℕ → Instr
jump_if Short holds at to = instr.JumpIfShort holds (pos to -ℤ pos (at + 2))
jump_if r holds at to = instr.JumpIfNear holds (pos to -ℤ pos (at + 6))

-- front is before it, from an address on
abbrev pub branch_if : Reach → List Instr → Cond → ℕ → ℕ → List Instr
branch_if r front holds from to = front ++ (jump_if r holds (from + length (spellings spelling front)) to ∷ [])

abbrev pub branch_code : Reach → ℕ → Condition → Reg → Operand → ℕ → ℕ → List Instr
branch_code r frame o a x from to = branch_if r (before_branch frame o a x) (taken o) from to

abbrev pub sum_branch_code : Reach → ℕ → BranchSumOp → Reg → Operand → ℕ → ℕ → List Instr
sum_branch_code r frame o a x from to = branch_if r (before_sum_branch frame o a x) (sum_taken o) from to
