-- The items of the nodes that branch, jump, call and return, of `prolog`, of `.align`, and of those without code.
use Rattle.std.specs.Prelude.{ℕ, ◌==◌, if◌then◌else◌, Bool, pos, List, [], ◌∷◌, ◌++◌, Option, Some, None}
use Rattle.lg_base.specs.declared.target.Target.TheVariants.{Riscv64}
use Rattle.lg_op.specs.declared.op.BranchSumOp.{BranchSumOp}
use Rattle.lg_op.specs.declared.op.Condition.{Condition}
use Rattle.lg_op.specs.declared.op.ControlOp.{ControlOp}
use Rattle.lg_op.specs.declared.op.ControlOp.TheVariants as control
use Rattle.lg_op.specs.declared.op.LastOperand.{LastOperand}
use Rattle.lg_op.specs.declared.op.LastOperand.TheVariants as last_operand
use Rattle.lg_op.specs.declared.op.Op.{Op}
use Rattle.lg_op.specs.declared.op.Op.TheVariants as op
use Rattle.lg_op.specs.declared.op.PlainOp.{PlainOp}
use Rattle.lg_op.specs.declared.op.PlainOp.TheVariants as plain
use Rattle.lg_op.specs.declared.operand.Label.{Label}
use Rattle.lg_op.specs.declared.operand.Operand.{Operand}
use Rattle.lg_op.specs.declared.operand.Operand.TheVariants as operand
use Rattle.lg_rv.specs.declared.instruction.BranchOp.{BranchOp}
use Rattle.lg_rv.specs.declared.instruction.Instr.TheVariants as instr
use Rattle.lg_rv.specs.declared.instruction.ImmOp.TheVariants.{Addi}
use Rattle.lg_temp.specs.Abis.{register_of}
use Rattle.lg_selr_values.specs.Processor.Numbers.{number_code}
use Rattle.lg_sel.specs.declared.reach.Reach.{Reach}
use Rattle.lg_sel.specs.declared.reach.Reach.TheVariants.{Short, Near, Far}
use Rattle.lg_selr_values.specs.declared.items.Item.{Item}
use Rattle.lg_selr_values.specs.declared.items.Item.TheVariants.{One, Branch, Jump, FarJump, Address}
use Rattle.lg_selr_values.specs.Items.{ones}
use Rattle.lg_selr.specs.Control.Alignments.{align_code}
use Rattle.lg_selr.specs.Control.Branches.{turned, failing, left_of, right_of, bits_code}
use Rattle.lg_selr.specs.Control.HostCalls.{host_code}
use Rattle.lg_sel.specs.Control.Control as target_control
use Rattle.lg_carry.specs.Nodes.Immediates.{immediate}
use Rattle.lg_selr.specs.Control.Prologs.{prolog_code}
use Rattle.lg_selr.specs.Control.RegisterLeaps.{register_leap_code}
use Rattle.lg_selr.specs.Control.Returns.{return_code}
use Rattle.lg_selr.specs.Control.SumBranches.{sum_code, staying}

-- ---- operands
-- the register in which an operand is: its own, x0 for the number 0, or x1, into which its word is put
abbrev pub second_register : Operand → ℕ
second_register (operand.Reg b) = register_of Riscv64 b
second_register (operand.Number v) = if v == 0 then 0 else 1
second_register x = 1

abbrev pub word_items : ℕ → Option ℕ → List Item
word_items t None = []
word_items t (Some v) = ones (number_code t v)

abbrev pub second_items : Operand → List Item
second_items (operand.Reg b) = []
second_items (operand.Number v) = if v == 0 then [] else ones (number_code 1 v)
second_items x = word_items 1 (immediate x)

-- ---- branches
-- to a label, unless a branch is taken: the turned branch, or the branch over a jump
abbrev pub jump_unless_items : Reach → BranchOp → ℕ → ℕ → Label → List Item
jump_unless_items Short o a b l = Branch (turned o) a b l.0 ∷ []
jump_unless_items Near o a b l = One (instr.Branch o a b (pos 8)) ∷ Jump 0 l.0 ∷ []
jump_unless_items Far o a b l = One (instr.Branch o a b (pos 12)) ∷ FarJump 0 31 l.0 ∷ []

abbrev pub branch_items : Reach → Condition → List Operand → List Item
branch_items r o (operand.Label l ∷ operand.Reg a ∷ x ∷ []) =
    second_items x ++ (ones (bits_code o (register_of Riscv64 a) (second_register x))
    ++ jump_unless_items r (failing o) (left_of o (register_of Riscv64 a) (second_register x)) (right_of o (register_of Riscv64 a) (second_register x)) l)
branch_items r o xs = []

abbrev pub sum_items : Reach → BranchSumOp → List Operand → List Item
sum_items r o (operand.Label l ∷ operand.Reg a ∷ x ∷ []) =
    second_items x ++ (ones (sum_code o (register_of Riscv64 a) (second_register x)) ++ jump_unless_items r (staying o) 31 0 l)
sum_items r o xs = []

-- ---- jumps, calls and returns
-- a jump to a label that puts the address after it into a register, by way of another one where it is far
abbrev pub label_items : Reach → ℕ → ℕ → Label → List Item
label_items Far rd base l = FarJump rd base l.0 ∷ []
label_items r rd base l = Jump rd l.0 ∷ []

abbrev pub jump_items : Reach → List Operand → List Item
jump_items r (operand.Label l ∷ []) = label_items r 0 31 l
jump_items r xs = []

abbrev pub call_items : Reach → List Operand → List Item
call_items r (operand.Label l ∷ []) = label_items r 1 1 l
call_items r (operand.Host name ∷ []) = ones (host_code name)
call_items r xs = []

-- the word of the result, into x10
abbrev pub result_items : Operand → List Item
result_items (operand.Reg a) = One (instr.Imm Addi 10 (register_of Riscv64 a) (pos 0)) ∷ []
result_items (operand.Label l) = Address 10 l.0 ∷ []
result_items x = word_items 10 (immediate x)

abbrev pub ret_items : ℕ → ℕ → List Operand → List Item
ret_items frame saved (x ∷ []) = result_items x ++ ones (return_code saved frame)
ret_items frame saved xs = []

-- a jump to the word of a register, which puts the address after it into another
abbrev pub register_leap_items : ℕ → List Operand → List Item
register_leap_items rd (operand.Reg a ∷ []) = ones (register_leap_code rd a)
register_leap_items rd xs = []

abbrev pub leap_items : Reach → ℕ → ℕ → ControlOp → LastOperand → List Operand → List Item
leap_items r frame saved control.Jmp last_operand.Immediate xs = jump_items r xs
leap_items r frame saved control.Jmp last_operand.Register xs = register_leap_items 0 xs
leap_items r frame saved control.Call last_operand.Immediate xs = call_items r xs
leap_items r frame saved control.Call last_operand.Register xs = register_leap_items 1 xs
leap_items r frame saved control.Finish last_operand.Immediate xs = call_items r xs
leap_items r frame saved control.Finish last_operand.Register xs = register_leap_items 1 xs
leap_items r frame saved control.Ret last xs = ret_items frame saved xs
leap_items r frame saved o last xs = []

-- ---- the others
abbrev pub align_items : ℕ → List Operand → List Item
align_items at (operand.Number n ∷ []) = ones (align_code at n)
align_items at xs = []

abbrev pub plain_items : PlainOp → List Operand → ℕ → ℕ → ℕ → ℕ → List Item
plain_items plain.Prolog xs frame homes saved at = ones (prolog_code saved frame homes)
plain_items plain.Epilog xs frame homes saved at = ones (return_code saved frame)
plain_items plain.Ret xs frame homes saved at = ones (return_code saved frame)
plain_items plain.Align xs frame homes saved at = align_items at xs
plain_items o xs frame homes saved at = []

-- ---- of a node in a function with a frame of this many bytes and this many homes that are read, which saves this many of V0 to V2, whose code begins at an
-- address, or a place of the buffer, and has a reach
abbrev pub control_items : Reach → Op → List Operand → ℕ → ℕ → ℕ → ℕ → List Item
control_items r (op.Branch o last) xs frame homes saved at = branch_items r o xs
control_items r (op.BranchSum o last) xs frame homes saved at = sum_items r o xs
control_items r (op.Control o last) xs frame homes saved at = leap_items r frame saved o last xs
control_items r (op.Plain o) xs frame homes saved at = plain_items o xs frame homes saved at
control_items r o xs frame homes saved at = []

-- the operations whose nodes have these items
abbrev pub is_control : Op → Bool
is_control o = target_control.is_control o
