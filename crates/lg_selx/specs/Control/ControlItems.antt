-- The items of the nodes that branch, jump, call and return, of `prolog`, of `.align`, and of those without code.
use Rattle.std.specs.Prelude.{ℕ, Bool, List, [], ◌∷◌, ◌++◌, Option, Some, None}
use Rattle.lg_base.specs.declared.target.Target.TheVariants.{X86_64}
use Rattle.lg_op.specs.declared.op.BranchSumOp.{BranchSumOp}
use Rattle.lg_op.specs.declared.op.Condition.{Condition}
use Rattle.lg_op.specs.declared.op.ControlOp.{ControlOp}
use Rattle.lg_op.specs.declared.op.ControlOp.TheVariants as control
use Rattle.lg_op.specs.declared.op.LastOperand.{LastOperand}
use Rattle.lg_op.specs.declared.op.LastOperand.TheVariants as last_operand
use Rattle.lg_op.specs.declared.op.Op.{Op}
use Rattle.lg_op.specs.declared.op.Op.TheVariants as op
use Rattle.lg_op.specs.declared.op.PlainOp.{PlainOp}
use Rattle.lg_op.specs.declared.op.PlainOp.TheVariants as plain
use Rattle.lg_op.specs.declared.operand.Label.{Label}
use Rattle.lg_op.specs.declared.operand.Operand.{Operand}
use Rattle.lg_op.specs.declared.operand.Operand.TheVariants as operand
use Rattle.lg_x86.specs.declared.instruction.Cond.{Cond}
use Rattle.lg_x86.specs.declared.instruction.Instr.{Instr}
use Rattle.lg_x86.specs.declared.instruction.Instr.TheVariants as instr
use Rattle.lg_x86.specs.declared.instruction.JumpNearOp.TheVariants.{Jmp32, Call32}
use Rattle.lg_x86.specs.declared.instruction.RmRegOp.TheVariants.{Mov}
use Rattle.lg_op.specs.declared.operand.Reg.TheVariants.{R0}
use Rattle.lg_temp.specs.Abis.{register_of}
use Rattle.lg_selx_values.specs.Processor.Numbers.{number_row}
use Rattle.lg_sel.specs.declared.reach.Reach.{Reach}
use Rattle.lg_sel.specs.declared.reach.Reach.TheVariants.{Short}
use Rattle.lg_selx_values.specs.declared.items.Item.{Item}
use Rattle.lg_selx_values.specs.declared.items.Item.TheVariants.{One, Jump, Address}
use Rattle.lg_selx_values.specs.declared.items.JumpKind.{JumpKind}
use Rattle.lg_selx_values.specs.declared.items.JumpKind.TheVariants.{Near, NearIf, ShortIf}
use Rattle.lg_selx_values.specs.declared.items.JumpKind.TheVariants as kind
use Rattle.lg_selx_values.specs.Items.{ones}
use Rattle.lg_selx.specs.Control.Alignments.{align_code}
use Rattle.lg_selx.specs.Control.Branches.{before_branch, taken}
use Rattle.lg_sel.specs.Control.Control as target_control
use Rattle.lg_carry.specs.Nodes.Immediates.{immediate}
use Rattle.lg_selx.specs.Control.HostCalls.{host_code}
use Rattle.lg_selx.specs.Control.Prologs.{prolog_code}
use Rattle.lg_selx.specs.Control.RegisterLeaps.{register_jump_code, register_call_code}
use Rattle.lg_selx.specs.Control.Returns.{result, return_code}
use Rattle.lg_selx.specs.Control.SumBranches.{before_sum_branch, sum_taken}

-- ---- branches
-- a jump to a label where the condition holds, after code that sets the flags
abbrev pub jump_kind : Reach → Cond → JumpKind
jump_kind Short holds = ShortIf holds
jump_kind r holds = NearIf holds

abbrev pub branch_if_items : Reach → List Instr → Cond → Label → List Item
branch_if_items r front holds l = ones front ++ (Jump (jump_kind r holds) l.0 ∷ [])

abbrev pub branch_items : Reach → ℕ → Condition → List Operand → List Item
branch_items r frame o (operand.Label l ∷ operand.Reg a ∷ x ∷ []) = branch_if_items r (before_branch frame o a x) (taken o) l
branch_items r frame o xs = []

abbrev pub sum_items : Reach → ℕ → BranchSumOp → List Operand → List Item
sum_items r frame o (operand.Label l ∷ operand.Reg a ∷ x ∷ []) = branch_if_items r (before_sum_branch frame o a x) (sum_taken o) l
sum_items r frame o xs = []

-- ---- jumps, calls and returns
abbrev pub plain_kind : Reach → JumpKind
plain_kind Short = kind.Short
plain_kind r = Near Jmp32

abbrev pub jump_items : Reach → List Operand → List Item
jump_items r (operand.Label l ∷ []) = Jump (plain_kind r) l.0 ∷ []
jump_items r xs = []

abbrev pub call_items : List Operand → List Item
call_items (operand.Label l ∷ []) = Jump (Near Call32) l.0 ∷ []
call_items (operand.Host name ∷ []) = ones (host_code name)
call_items xs = []

-- the word of the result, into its register
abbrev pub word_items : Option ℕ → List Item
word_items None = []
word_items (Some v) = One (number_row result v) ∷ []

abbrev pub result_items : Operand → List Item
result_items (operand.Reg R0) = []
result_items (operand.Reg a) = One (instr.RmReg Mov result (register_of X86_64 a)) ∷ []
result_items (operand.Label l) = Address result l.0 ∷ []
result_items x = word_items (immediate x)

-- where frames save this many of V0, V1 and V2
abbrev pub ret_items : ℕ → List Operand → List Item
ret_items saved (x ∷ []) = result_items x ++ ones (return_code saved)
ret_items saved xs = []

-- a jump to the word of a register, and a call of it
abbrev pub register_jump_items : List Operand → List Item
register_jump_items (operand.Reg a ∷ []) = ones (register_jump_code 0 a)
register_jump_items xs = []

abbrev pub register_call_items : List Operand → List Item
register_call_items (operand.Reg a ∷ []) = ones (register_call_code 0 a)
register_call_items xs = []

abbrev pub leap_items : Reach → ℕ → ControlOp → LastOperand → List Operand → List Item
leap_items r saved control.Jmp last_operand.Immediate xs = jump_items r xs
leap_items r saved control.Jmp last_operand.Register xs = register_jump_items xs
leap_items r saved control.Call last_operand.Immediate xs = call_items xs
leap_items r saved control.Call last_operand.Register xs = register_call_items xs
leap_items r saved control.Finish last_operand.Immediate xs = call_items xs
leap_items r saved control.Finish last_operand.Register xs = register_call_items xs
leap_items r saved control.Ret last xs = ret_items saved xs
leap_items r saved o last xs = []

-- ---- the others
abbrev pub align_items : ℕ → List Operand → List Item
align_items at (operand.Number n ∷ []) = ones (align_code at n)
align_items at xs = []

abbrev pub plain_items : PlainOp → List Operand → ℕ → ℕ → ℕ → ℕ → List Item
plain_items plain.Prolog xs frame homes saved at = ones (prolog_code saved frame homes)
plain_items plain.Epilog xs frame homes saved at = ones (return_code saved)
plain_items plain.Ret xs frame homes saved at = ones (return_code saved)
plain_items plain.Align xs frame homes saved at = align_items at xs
plain_items o xs frame homes saved at = []

-- ---- of a node in a function with a frame of this many bytes and this many homes that are read, where frames save this many of V0, V1 and V2, whose code
-- begins at an address, or a place of the buffer, and has a reach
abbrev pub control_items : Reach → Op → List Operand → ℕ → ℕ → ℕ → ℕ → List Item
control_items r (op.Branch o last) xs frame homes saved at = branch_items r frame o xs
control_items r (op.BranchSum o last) xs frame homes saved at = sum_items r frame o xs
control_items r (op.Control o last) xs frame homes saved at = leap_items r saved o last xs
control_items r (op.Plain o) xs frame homes saved at = plain_items o xs frame homes saved at
control_items r o xs frame homes saved at = []

-- the operations whose nodes have these items
abbrev pub is_control : Op → Bool
is_control o = target_control.is_control o
