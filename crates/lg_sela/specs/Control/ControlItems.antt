-- The items of the nodes that branch, jump, call and return, of `prolog`, of `.align`, and of those without code.
use Rattle.std.specs.Prelude.{ℕ, if◌then◌else◌, Bool, pos, List, [], ◌∷◌, ◌++◌, Option, Some, None}
use Rattle.lg_base.specs.declared.target.Target.TheVariants.{Aarch64}
use Rattle.lg_op.specs.declared.op.BranchSumOp.{BranchSumOp}
use Rattle.lg_op.specs.declared.op.Condition.{Condition}
use Rattle.lg_op.specs.declared.op.ControlOp.{ControlOp}
use Rattle.lg_op.specs.declared.op.ControlOp.TheVariants as control
use Rattle.lg_op.specs.declared.op.LastOperand.{LastOperand}
use Rattle.lg_op.specs.declared.op.LastOperand.TheVariants as last_operand
use Rattle.lg_op.specs.declared.op.Op.{Op}
use Rattle.lg_op.specs.declared.op.Op.TheVariants as op
use Rattle.lg_op.specs.declared.op.PlainOp.{PlainOp}
use Rattle.lg_op.specs.declared.op.PlainOp.TheVariants as plain
use Rattle.lg_op.specs.declared.operand.Label.{Label}
use Rattle.lg_op.specs.declared.operand.Operand.{Operand}
use Rattle.lg_op.specs.declared.operand.Operand.TheVariants as operand
use Rattle.lg_a64.specs.declared.instruction.BranchOp.TheVariants.{B, Bl}
use Rattle.lg_a64.specs.declared.instruction.BranchRegOp.{BranchRegOp}
use Rattle.lg_a64.specs.declared.instruction.BranchRegOp.TheVariants.{Br, Blr}
use Rattle.lg_a64.specs.declared.instruction.Cond.{Cond}
use Rattle.lg_a64.specs.declared.instruction.Instr.{Instr}
use Rattle.lg_a64.specs.declared.instruction.Instr.TheVariants as instr
use Rattle.lg_a64.specs.declared.instruction.RegOp.TheVariants.{Orr}
use Rattle.lg_temp.specs.Abis.{register_of}
use Rattle.lg_sela_values.specs.Processor.A64Rows.{zero_register, link}
use Rattle.lg_sela_values.specs.Processor.Numbers.{number_code}
use Rattle.lg_sel.specs.declared.reach.Reach.{Reach}
use Rattle.lg_sel.specs.declared.reach.Reach.TheVariants.{Far}
use Rattle.lg_sela_values.specs.declared.items.Item.{Item}
use Rattle.lg_sela_values.specs.declared.items.Item.TheVariants.{One, Branch, CondBranch, Address}
use Rattle.lg_sela_values.specs.Items.{ones}
use Rattle.lg_sela.specs.Control.Alignments.{align_code}
use Rattle.lg_sela.specs.Control.Branches.{comparison, is_held, number_comparison, taken, turned}
use Rattle.lg_sel.specs.Control.Control as target_control
use Rattle.lg_carry.specs.Nodes.Immediates.{immediate}
use Rattle.lg_sela.specs.Control.Prologs.{prolog_code}
use Rattle.lg_sela.specs.Control.RegisterLeaps.{register_leap_code}
use Rattle.lg_sela.specs.Control.Returns.{result, return_code}
use Rattle.lg_sela.specs.Control.SumBranches.{sum_instruction, sum_taken}

-- ---- operands
-- the register in which an operand is: its own, or the link, into which its word is put
abbrev pub second_register : Operand → ℕ
second_register (operand.Reg b) = register_of Aarch64 b
second_register x = link

abbrev pub word_items : ℕ → Option ℕ → List Item
word_items t None = []
word_items t (Some v) = ones (number_code t v)

abbrev pub second_items : Operand → List Item
second_items (operand.Reg b) = []
second_items x = word_items link (immediate x)

-- ---- branches
-- to a label where the condition holds
abbrev pub leads_items : Reach → Cond → Label → List Item
leads_items Far holds l = One (instr.BranchIf (turned holds) (pos 2)) ∷ Branch B l.0 ∷ []
leads_items r holds l = CondBranch holds l.0 ∷ []

-- after an instruction that sets the flags
abbrev pub branch_if_items : Reach → Instr → Cond → Label → List Item
branch_if_items r sets holds l = One sets ∷ leads_items r holds l

-- what is before the comparison with an operand: nothing where an instruction holds it
abbrev pub compared_items : Condition → Operand → List Item
compared_items o (operand.Number v) = if is_held o v then [] else second_items (operand.Number v)
compared_items o x = second_items x

abbrev pub comparing : Condition → ℕ → Operand → Instr
comparing o a (operand.Number v) = if is_held o v then number_comparison a v else comparison o a link
comparing o a x = comparison o a (second_register x)

abbrev pub branch_items : Reach → Condition → List Operand → List Item
branch_items r o (operand.Label l ∷ operand.Reg a ∷ x ∷ []) =
    compared_items o x ++ branch_if_items r (comparing o (register_of Aarch64 a) x) (taken o) l
branch_items r o xs = []

abbrev pub sum_items : Reach → BranchSumOp → List Operand → List Item
sum_items r o (operand.Label l ∷ operand.Reg a ∷ x ∷ []) =
    second_items x ++ branch_if_items r (sum_instruction o (register_of Aarch64 a) (second_register x)) (sum_taken o) l
sum_items r o xs = []

-- ---- jumps, calls and returns
abbrev pub jump_items : List Operand → List Item
jump_items (operand.Label l ∷ []) = Branch B l.0 ∷ []
jump_items xs = []

abbrev pub call_items : List Operand → List Item
call_items (operand.Label l ∷ []) = Branch Bl l.0 ∷ []
call_items (operand.Host name ∷ []) = word_items link (immediate (operand.Host name)) ++ ones (instr.BranchReg Blr link ∷ [])
call_items xs = []

-- the word of the result, into its register
abbrev pub result_items : Operand → List Item
result_items (operand.Reg a) = One (instr.Reg Orr result zero_register (register_of Aarch64 a)) ∷ []
result_items (operand.Label l) = Address result l.0 ∷ []
result_items x = word_items result (immediate x)

abbrev pub ret_items : ℕ → ℕ → List Operand → List Item
ret_items frame saved (x ∷ []) = result_items x ++ ones (return_code saved frame)
ret_items frame saved xs = []

-- a branch to the word of a register
abbrev pub register_leap_items : BranchRegOp → List Operand → List Item
register_leap_items o (operand.Reg a ∷ []) = ones (register_leap_code o a)
register_leap_items o xs = []

abbrev pub leap_items : ℕ → ℕ → ControlOp → LastOperand → List Operand → List Item
leap_items frame saved control.Jmp last_operand.Immediate xs = jump_items xs
leap_items frame saved control.Jmp last_operand.Register xs = register_leap_items Br xs
leap_items frame saved control.Call last_operand.Immediate xs = call_items xs
leap_items frame saved control.Call last_operand.Register xs = register_leap_items Blr xs
leap_items frame saved control.Finish last_operand.Immediate xs = call_items xs
leap_items frame saved control.Finish last_operand.Register xs = register_leap_items Blr xs
leap_items frame saved control.Ret last xs = ret_items frame saved xs
leap_items frame saved o last xs = []

-- ---- the others
abbrev pub align_items : ℕ → List Operand → List Item
align_items at (operand.Number n ∷ []) = ones (align_code at n)
align_items at xs = []

abbrev pub plain_items : PlainOp → List Operand → ℕ → ℕ → ℕ → ℕ → List Item
plain_items plain.Prolog xs frame homes saved at = ones (prolog_code saved frame homes)
plain_items plain.Epilog xs frame homes saved at = ones (return_code saved frame)
plain_items plain.Ret xs frame homes saved at = ones (return_code saved frame)
plain_items plain.Align xs frame homes saved at = align_items at xs
plain_items o xs frame homes saved at = []

-- ---- of a node in a function with a frame of this many bytes and this many homes that are read, where frames save this many of V0, V1 and V2, whose code
-- begins at an address, or a place of the buffer, and has a reach
abbrev pub control_items : Reach → Op → List Operand → ℕ → ℕ → ℕ → ℕ → List Item
control_items r (op.Branch o last) xs frame homes saved at = branch_items r o xs
control_items r (op.BranchSum o last) xs frame homes saved at = sum_items r o xs
control_items r (op.Control o last) xs frame homes saved at = leap_items frame saved o last xs
control_items r (op.Plain o) xs frame homes saved at = plain_items o xs frame homes saved at
control_items r o xs frame homes saved at = []

-- the operations whose nodes have these items
abbrev pub is_control : Op → Bool
is_control o = target_control.is_control o
