-- What holds of the items of each family holds of those of each node.
use Rattle.std.proofs.Common.{◌≡◌, ℕ, Bool, true, false, List, refl}
use Rattle.lg_base.specs.declared.target.Target.{Target}
use Rattle.lg_carry.specs.Outside.{moves_stack}
use Rattle.lg_op.specs.declared.node.Node.{Node}
use Rattle.lg_op.specs.declared.op.Addressing.{Addressing}
use Rattle.lg_op.specs.declared.op.ControlOp.TheVariants as control
use Rattle.lg_op.specs.declared.op.LastOperand.{LastOperand}
use Rattle.lg_op.specs.declared.op.Op.{Op}
use Rattle.lg_op.specs.declared.op.Op.TheVariants as op
use Rattle.lg_op.specs.declared.op.PlainOp.TheVariants as plain
use Rattle.lg_op.specs.declared.op.StoreType.{StoreType}
use Rattle.lg_op.specs.declared.op.ValueType.{ValueType}
use Rattle.lg_op.specs.declared.operand.Operand.{Operand}
use Rattle.lg_sel.specs.Families.{Families, staged_count, items_of, node_items}
use Rattle.lg_carry.specs.Carries.{leaps}
use Rattle.lg_sel.specs.Control.Control.{is_control}
use Rattle.lg_carry.specs.Values.ValueNodes.{is_value}
use Rattle.lg_temp.specs.declared.choice.Choice.{Choice}

abbrev pub node_of : Op → List Operand → ℕ → Node
node_of o xs line = record { op = o; operands = xs; line = line }

-- a fact of a node and its items, for each family
pub record HoldsOfFamilies {L : Type 0} (F : Families L) (P : Node → List L → Type 0) (frame : ℕ) (choices : List Choice) (staged : List Bool) (place : ℕ) : Type 0 where
  pub values : (n : Node) → is_value n.op ≡ true → P n (F.values frame n choices)
  pub loads : (n : Node) (t : ValueType) (at : Addressing) → n.op ≡ op.Load t at → P n (F.load frame t at n choices)
  pub stores : (n : Node) (t : StoreType) (at : Addressing) → n.op ≡ op.Store t at → P n (F.store frame t at n choices)
  pub arguments : (n : Node) (t : ValueType) → n.op ≡ op.Getarg t → P n (F.argument frame t n)
  pub next_arguments : (n : Node) → n.op ≡ op.Plain plain.VaArg → P n (F.next_argument n)
  pub pushes : (n : Node) (last : LastOperand) → n.op ≡ op.Control control.Pusharg last → P n (F.push frame (staged_count staged) n)
  pub controls : (n : Node) → is_control n.op ≡ true → P n (F.control n.op n.operands frame place)

module _ {L : Type 0} (F : Families L) (P : Node → List L → Type 0) (frame : ℕ) (choices : List Choice) (staged : List Bool) (place : ℕ)
    (h : HoldsOfFamilies F P frame choices staged place) where
  by : (o : Op) (xs : List Operand) (line : ℕ) → P (node_of o xs line) (items_of F o (node_of o xs line) frame choices staged place)
  by (op.Binary o last) xs line = h.values (node_of (op.Binary o last) xs line) refl
  by (op.Wide o last) xs line = h.values (node_of (op.Wide o last) xs line) refl
  by (op.Unary o) xs line = h.values (node_of (op.Unary o) xs line) refl
  by (op.Plain plain.Movi) xs line = h.values (node_of (op.Plain plain.Movi) xs line) refl
  by (op.Plain plain.VaStart) xs line = h.values (node_of (op.Plain plain.VaStart) xs line) refl
  by (op.Plain plain.VaArg) xs line = h.next_arguments (node_of (op.Plain plain.VaArg) xs line) refl
  by (op.Plain plain.VaEnd) xs line = h.controls (node_of (op.Plain plain.VaEnd) xs line) refl
  by (op.Load t at) xs line = h.loads (node_of (op.Load t at) xs line) t at refl
  by (op.Store t at) xs line = h.stores (node_of (op.Store t at) xs line) t at refl
  by (op.Getarg t) xs line = h.arguments (node_of (op.Getarg t) xs line) t refl
  by (op.Retval t) xs line = h.values (node_of (op.Retval t) xs line) refl
  by (op.Control control.Pusharg last) xs line = h.pushes (node_of (op.Control control.Pusharg last) xs line) last refl
  by (op.Control control.Jmp last) xs line = h.controls (node_of (op.Control control.Jmp last) xs line) refl
  by (op.Control control.Call last) xs line = h.controls (node_of (op.Control control.Call last) xs line) refl
  by (op.Control control.Finish last) xs line = h.controls (node_of (op.Control control.Finish last) xs line) refl
  by (op.Control control.Ret last) xs line = h.controls (node_of (op.Control control.Ret last) xs line) refl
  by (op.Branch o last) xs line = h.controls (node_of (op.Branch o last) xs line) refl
  by (op.BranchSum o last) xs line = h.controls (node_of (op.BranchSum o last) xs line) refl
  by (op.Plain plain.Prepare) xs line = h.controls (node_of (op.Plain plain.Prepare) xs line) refl
  by (op.Plain plain.Ellipsis) xs line = h.controls (node_of (op.Plain plain.Ellipsis) xs line) refl
  by (op.Plain plain.Prolog) xs line = h.controls (node_of (op.Plain plain.Prolog) xs line) refl
  by (op.Plain plain.Epilog) xs line = h.controls (node_of (op.Plain plain.Epilog) xs line) refl
  by (op.Plain plain.Ret) xs line = h.controls (node_of (op.Plain plain.Ret) xs line) refl
  by (op.Plain plain.Arg) xs line = h.controls (node_of (op.Plain plain.Arg) xs line) refl
  by (op.Plain plain.Allocai) xs line = h.controls (node_of (op.Plain plain.Allocai) xs line) refl
  by (op.Plain plain.Align) xs line = h.controls (node_of (op.Plain plain.Align) xs line) refl

  pub of-node : (n : Node) → P n (node_items F n frame choices staged place)
  of-node n = by n.op n.operands n.line

-- the nodes that compute values continue after them
pub value-still : (target : Target) (o : Op) → is_value o ≡ true → moves_stack target o ≡ false
value-still target (op.Binary o last) is = refl
value-still target (op.Wide o last) is = refl
value-still target (op.Unary o) is = refl
value-still target (op.Plain plain.Movi) is = refl
value-still target (op.Plain plain.VaStart) is = refl
value-still target (op.Retval t) is = refl
value-still target o is = cc

pub value-stays : (o : Op) → is_value o ≡ true → leaps o ≡ false
value-stays (op.Binary o last) is = refl
value-stays (op.Wide o last) is = refl
value-stays (op.Unary o) is = refl
value-stays (op.Plain plain.Movi) is = refl
value-stays (op.Plain plain.VaStart) is = refl
value-stays (op.Retval t) is = refl
value-stays o is = cc
