-- What each row of the table of undefined steps says of the state before the step.
use Rattle.std.specs.Prelude.{◌≡◌, ℕ, ◌+◌, ◌-◌, true, false, nat_le, List, Some, None, slice_get}
use Rattle.lg_base.specs.Spaces.{loaded}
use Rattle.lg_cells.specs.Memories.{writable}
use Rattle.lg_host.specs.Host.{host_of, memory}
use Rattle.lg_host.specs.Host as host
use Rattle.lg_meaning.specs.Reasons.{called_from, called_here, call_of, cannot_divide, cannot_divide_widely, passed_by, register, why}
use Rattle.lg_meaning.specs.States.{State, is_open, value}
use Rattle.lg_meaning.specs.Steps.{Text, address, is_marked, jump_target, operand_at, slot}
use Rattle.lg_meaning.specs.Texts.{text}
use Rattle.lg_meaning.specs.declared.reason.Called.TheVariants.{OfHost, OfText}
use Rattle.lg_meaning.specs.declared.reason.Reason.{Reason}
use Rattle.lg_meaning.specs.declared.reason.Reason.TheVariants.{Unset, NoCarry, NoQuotient, Outside, Unwritten, NoLabel, NoFunction, NoRoom, NoResult, NoArgument, NotAllowed, NoVariable}
use Rattle.lg_node.specs.Functions.{frame_of}
use Rattle.lg_node.specs.Nodes.{LabelledNodes}
use Rattle.lg_node.specs.Shapes.{TextShape}
use Rattle.lg_node.specs.declared.function.Function.{Function}
use Rattle.lg_op.specs.Operators.{carry_in}
use Rattle.lg_op.specs.declared.node.Node.{Node}
use Rattle.lg_op.specs.declared.op.Addressing.{Addressing}
use Rattle.lg_op.specs.declared.op.BinaryOp.{BinaryOp}
use Rattle.lg_op.specs.declared.op.LastOperand.{LastOperand}
use Rattle.lg_op.specs.declared.op.Op.{Op}
use Rattle.lg_op.specs.declared.op.Op.TheVariants as op
use Rattle.lg_op.specs.declared.op.WideOp.{WideOp}
use Rattle.lg_op.specs.declared.operand.Reg.{Reg}

-- an operand that names the register has no word
pub record IsUnset (t : Text) (n : Node) (s : State) (r : Reg) : Type 0 where
  pub index : ℕ
  pub names : register (operand_at n index) ≡ r
  pub none : value t.addresses s (operand_at n index) ≡ None

-- the carry is none that the operation takes in
pub record HasNoCarry (o : Op) (s : State) : Type 0 where
  pub binary : BinaryOp
  pub last : LastOperand
  pub is : o ≡ op.Binary binary last
  pub none : carry_in binary s.carry ≡ None

-- the operands from a place on hold these words, and the operation does not divide them
pub data HasNoQuotient (t : Text) (n : Node) (s : State) (a b : ℕ) : Op → Type 0 where
  of_words : (o : BinaryOp) (last : LastOperand) → value t.addresses s (operand_at n 1) ≡ Some a → value t.addresses s (operand_at n 2) ≡ Some b
      → cannot_divide o a b ≡ true → HasNoQuotient t n s a b (op.Binary o last)
  of_two_words : (o : WideOp) (last : LastOperand) → value t.addresses s (operand_at n 2) ≡ Some a → value t.addresses s (operand_at n 3) ≡ Some b
      → cannot_divide_widely o a b ≡ true → HasNoQuotient t n s a b (op.Wide o last)

-- this is the address of the access
pub record IsAccessAt (t : Text) (n : Node) (s : State) (a : ℕ) : Type 0 where
  pub addressing : Addressing
  pub index : ℕ
  pub is : address t.addresses s addressing n index ≡ Some a

-- a call by this word leads nowhere
pub record HasNoFunction (t : Text) (n : Node) (o : Op) (s : State) (w : ℕ) : Type 0 where
  pub last : LastOperand
  pub calls : call_of o ≡ Some last
  pub word : value t.addresses s (operand_at n 0) ≡ Some w
  pub none : called_here t n last s ≡ None

-- a function is called whose frame has this size, and that is more than there is
pub record HasNoRoom (t : Text) (n : Node) (o : Op) (s : State) (size : ℕ) : Type 0 where
  pub function : Function
  pub called : called_from t n o s ≡ Some (OfText function)
  pub frame : size ≡ frame_of function
  pub more : nat_le (0x3FF00010 + size) (s.frame.sp - s.frame.size) ≡ false

abbrev pub Holds : Text → Node → Op → State → Reason → Type 0
Holds t n o s (Unset r) = IsUnset t n s r
Holds t n o s NoCarry = HasNoCarry o s
Holds t n o s (NoQuotient a b) = HasNoQuotient t n s a b o
Holds t n o s (Outside w a) = IsAccessAt t n s a × (writable (is_open s) a w ≡ false)
Holds t n o s (Unwritten w a) = IsAccessAt t n s a × (loaded s.mem a w ≡ None)
Holds t n o s (NoLabel w) = (value t.addresses s (operand_at n 0) ≡ Some w) × (jump_target t s.at w ≡ None)
Holds t n o s (NoFunction w) = HasNoFunction t n o s w
Holds t n o s (NoRoom size) = HasNoRoom t n o s size
Holds t n o s NoResult = s.answer ≡ None
Holds t n o s (NoArgument i) = (slot (operand_at n 1) ≡ i) × (slice_get s.frame.args i ≡ None)
Holds t n o s (NotAllowed name) =
    (called_from t n o s ≡ Some (OfHost name))
    × (host_of name (passed_by o s) (is_marked s.variadic) (memory s.mem (is_open s) s.mark) ≡ host.Undefined)
Holds t n o s (NoVariable i) = (value t.addresses s (operand_at n 1) ≡ Some i) × (slice_get s.frame.args i ≡ None)

-- a reason that is given holds of the node at the state's place
pub record HoldsThere (l : LabelledNodes) (shape : TextShape) (addresses : List ℕ) (s : State) (reason : Reason) : Type 0 where
  pub node : Node
  pub here : slice_get l.nodes s.at ≡ Some node
  pub holds : Holds (text l shape addresses) node node.op s reason

abbrev pub ReasonsHold : Type 0
ReasonsHold = (l : LabelledNodes) (shape : TextShape) (addresses : List ℕ) (s : State) (reason : Reason)
    → why l shape addresses s ≡ Some reason → HoldsThere l shape addresses s reason
