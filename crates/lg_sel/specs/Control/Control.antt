-- The code of every node that branches, jumps, calls or returns, of `prolog`, `.align` and those without code, on a target, and that it carries them.
use Rattle.std.specs.Prelude.{◌≡◌, ℕ, Bool, true, false, List, [], ◌∷◌, slice_index}
use Rattle.lg_base.specs.HostNames.{host_address}
use Rattle.lg_base.specs.declared.host_name.HostName.{HostName}
use Rattle.lg_op.specs.declared.op.Op.{Op}
use Rattle.lg_op.specs.declared.op.Op.TheVariants as op
use Rattle.lg_op.specs.declared.op.BranchSumOp.{BranchSumOp}
use Rattle.lg_op.specs.declared.op.Condition.{Condition}
use Rattle.lg_op.specs.declared.op.ControlOp.{ControlOp}
use Rattle.lg_op.specs.declared.op.ControlOp.TheVariants as control
use Rattle.lg_op.specs.declared.op.LastOperand.{LastOperand}
use Rattle.lg_op.specs.declared.op.LastOperand.TheVariants as last_operand
use Rattle.lg_op.specs.declared.op.PlainOp.{PlainOp}
use Rattle.lg_op.specs.declared.op.PlainOp.TheVariants as plain
use Rattle.lg_op.specs.declared.operand.Operand.{Operand}
use Rattle.lg_op.specs.declared.operand.Operand.TheVariants as operand
use Rattle.lg_op.specs.declared.operand.Reg.{Reg}
use Rattle.lg_op.specs.declared.node.Node.{Node}
use Rattle.lg_carry.specs.FinalNodes.{Code, saved_at}
use Rattle.lg_sel.specs.Control.Prologs.{IsHomesOf}
use Rattle.lg_carry.specs.NodeCode.{CarriesNode}
use Rattle.lg_carry.specs.Passages.{IsNodeCode}
use Rattle.lg_carry.specs.Rows.{Rows}
use Rattle.lg_carry.specs.TextNodes.{IsInText, IsFrameOf}
use Rattle.lg_carry.specs.Nodes.Isas.{IsIsa}
use Rattle.lg_carry.specs.Nodes.Leaps.{HasPlaces, BranchesLead, CallsLead, HostCallsLead, EntersHosts}
use Rattle.lg_sel.specs.Control.Prologs.{PrologsLead}
use Rattle.lg_sel.specs.Control.RegisterLeaps.{RegisterJumpsWalk, RegisterCallsLead, RegisterHostCallsLead}
use Rattle.lg_sel.specs.Control.Returns.{Returned, NoWord, OfRegister, OfNumber, OfLabel, ReturnsLead}
use Rattle.lg_sel.specs.Control.SumBranches.{SumBranchesLead}
use Rattle.lg_sel.specs.Control.Walks.{JumpsWalk, AlignmentsWalk}
use Rattle.lg_carry.specs.Nodes.Operands.{AreWords}

-- ---- the code
-- the code of each family: those with a frame take its size first, a `prolog` the number of homes that it stores after it, and those that lead to an address
-- take their own and then that one
pub record Codes (I : Type 0) : Type 0 where
  pub branch : ℕ → Condition → Reg → Operand → ℕ → ℕ → List I
  pub sum_branch : ℕ → BranchSumOp → Reg → Operand → ℕ → ℕ → List I
  pub jump : ℕ → ℕ → List I
  pub register_jump : ℕ → Reg → List I
  pub call : ℕ → ℕ → List I
  pub host_call : HostName → List I
  pub register_call : ℕ → Reg → List I
  pub ret : ℕ → Returned → List I
  pub prolog : ℕ → ℕ → List I
  pub align : ℕ → ℕ → List I

-- what a return with an operand gives back, where labels have these addresses
abbrev pub returned_of : (ℕ → ℕ) → Operand → Returned
returned_of to (operand.Reg a) = OfRegister a
returned_of to (operand.Number v) = OfNumber v
returned_of to (operand.Host name) = OfNumber (host_address name)
returned_of to (operand.Label l) = OfLabel (to l.0)
returned_of to (operand.Slot k) = NoWord

abbrev pub jump_of : {I : Type 0} → Codes I → (ℕ → ℕ) → ℕ → List Operand → List I
jump_of C to at (operand.Label l ∷ []) = C.jump at (to l.0)
jump_of C to at xs = []

abbrev pub call_of : {I : Type 0} → Codes I → (ℕ → ℕ) → ℕ → List Operand → List I
call_of C to at (operand.Label l ∷ []) = C.call at (to l.0)
call_of C to at (operand.Host name ∷ []) = C.host_call name
call_of C to at xs = []

abbrev pub register_leap_of : {I : Type 0} → (ℕ → Reg → List I) → ℕ → List Operand → List I
register_leap_of code frame (operand.Reg a ∷ []) = code frame a
register_leap_of code frame xs = []

abbrev pub return_of : {I : Type 0} → Codes I → (ℕ → ℕ) → ℕ → List Operand → List I
return_of C to frame (x ∷ []) = C.ret frame (returned_of to x)
return_of C to frame xs = []

abbrev pub leap_of : {I : Type 0} → Codes I → (ℕ → ℕ) → ℕ → ℕ → ControlOp → LastOperand → List Operand → List I
leap_of C to frame at control.Jmp last_operand.Immediate xs = jump_of C to at xs
leap_of C to frame at control.Jmp last_operand.Register xs = register_leap_of C.register_jump frame xs
leap_of C to frame at control.Call last_operand.Immediate xs = call_of C to at xs
leap_of C to frame at control.Call last_operand.Register xs = register_leap_of C.register_call frame xs
leap_of C to frame at control.Finish last_operand.Immediate xs = call_of C to at xs
leap_of C to frame at control.Finish last_operand.Register xs = register_leap_of C.register_call frame xs
leap_of C to frame at control.Ret last xs = return_of C to frame xs
leap_of C to frame at o last xs = []

abbrev pub branch_of : {I : Type 0} → Codes I → (ℕ → ℕ) → ℕ → ℕ → Condition → List Operand → List I
branch_of C to frame at o (operand.Label l ∷ operand.Reg a ∷ x ∷ []) = C.branch frame o a x at (to l.0)
branch_of C to frame at o xs = []

abbrev pub sum_branch_of : {I : Type 0} → Codes I → (ℕ → ℕ) → ℕ → ℕ → BranchSumOp → List Operand → List I
sum_branch_of C to frame at o (operand.Label l ∷ operand.Reg a ∷ x ∷ []) = C.sum_branch frame o a x at (to l.0)
sum_branch_of C to frame at o xs = []

abbrev pub align_of : {I : Type 0} → Codes I → ℕ → List Operand → List I
align_of C at (operand.Number n ∷ []) = C.align at n
align_of C at xs = []

abbrev pub plain_of : {I : Type 0} → Codes I → ℕ → ℕ → ℕ → PlainOp → List Operand → List I
plain_of C frame homes at plain.Prolog xs = C.prolog frame homes
plain_of C frame homes at plain.Epilog xs = C.ret frame NoWord
plain_of C frame homes at plain.Ret xs = C.ret frame NoWord
plain_of C frame homes at plain.Align xs = align_of C at xs
plain_of C frame homes at o xs = []

-- of a node in a function with a frame of this many bytes and this many homes that are read, which is at an address
abbrev pub control_code : {I : Type 0} → Codes I → (ℕ → ℕ) → ℕ → ℕ → ℕ → Op → List Operand → List I
control_code C to frame homes at (op.Branch o last) xs = branch_of C to frame at o xs
control_code C to frame homes at (op.BranchSum o last) xs = sum_branch_of C to frame at o xs
control_code C to frame homes at (op.Control o last) xs = leap_of C to frame at o last xs
control_code C to frame homes at (op.Plain o) xs = plain_of C frame homes at o xs
control_code C to frame homes at o xs = []

-- ---- the nodes
-- the operations whose nodes have this code
abbrev pub is_control : Op → Bool
is_control (op.Branch o last) = true
is_control (op.BranchSum o last) = true
is_control (op.Control control.Pusharg last) = false
is_control (op.Control o last) = true
is_control (op.Plain plain.Movi) = false
is_control (op.Plain plain.VaStart) = false
is_control (op.Plain plain.VaArg) = false
is_control (op.Plain o) = true
is_control o = false

-- a branch compares with no label
abbrev pub ends_in_label : List Operand → Bool
ends_in_label (x ∷ y ∷ operand.Label l ∷ xs) = true
ends_in_label xs = false

-- what the code of each family does wherever it is, where frames save this many of V0 to V2
pub record Controls {Q I : Type 0} (R : Rows Q I) (scratch : ℕ → Bool) (fits : I → Type 0) (ready : HostName → (ℕ → ℕ) → Bool) (saved : ℕ) (C : Codes I)
    : Type 0 where
  pub isa : IsIsa R scratch fits
  pub branches : BranchesLead R scratch fits C.branch
  pub sum_branches : SumBranchesLead R scratch fits C.sum_branch
  pub jumps : JumpsWalk R fits C.jump
  pub register_jumps : RegisterJumpsWalk R fits C.register_jump
  pub calls : CallsLead R fits C.call
  pub host_calls : HostCallsLead R ready fits C.host_call
  pub register_calls : RegisterCallsLead R fits C.register_call
  pub register_host_calls : RegisterHostCallsLead R ready fits C.register_call
  pub hosts : EntersHosts R.processor ready
  pub returns : ReturnsLead R fits saved C.ret
  pub prologs : PrologsLead R fits saved C.prolog
  pub alignments : AlignmentsWalk R fits C.align

-- each such node is carried by its code
abbrev pub ControlNodesCarry : {Q I : Type 0} → Rows Q I → (I → Type 0) → ℕ → Codes I → Type 0
ControlNodesCarry R fits saved C =
    (c : Code) (i : ℕ) (n : Node) (frame homes : ℕ) (S : ℕ → Bool) → is_control n.op ≡ true → HasPlaces R c → AreWords c.addresses n.operands
    → ends_in_label n.operands ≡ false → IsFrameOf c i frame → IsHomesOf c i homes → saved_at c i ≡ saved → IsInText c i n
    → IsNodeCode R fits c i (control_code C (slice_index c.addresses) frame homes (c.place i) n.op n.operands)
    → CarriesNode R.processor c i n S
