-- The items of each node, by the families of nodes.
use Rattle.std.specs.Prelude.{ℕ, Bool, List, count_by}
use Rattle.lg_op.specs.declared.node.Node.{Node}
use Rattle.lg_op.specs.declared.op.Addressing.{Addressing}
use Rattle.lg_op.specs.declared.op.ControlOp.TheVariants as control
use Rattle.lg_op.specs.declared.op.Op.{Op}
use Rattle.lg_op.specs.declared.op.Op.TheVariants as op
use Rattle.lg_op.specs.declared.op.PlainOp.TheVariants as plain
use Rattle.lg_op.specs.declared.op.StoreType.{StoreType}
use Rattle.lg_op.specs.declared.op.ValueType.{ValueType}
use Rattle.lg_op.specs.declared.operand.Operand.{Operand}
use Rattle.lg_temp.specs.declared.choice.Choice.{Choice}

-- those of nodes that compute values with these choices, that load and store with them, read an argument, read the next variable argument, and pass argument
-- j; and those of the nodes that branch, jump, call or return, of `prolog`, `.align` and those without code, with their operands and the place; each in a
-- function with a frame of this many bytes
pub record Families (L : Type 0) : Type 0 where
  pub values : ℕ → Node → List Choice → List L
  pub load : ℕ → ValueType → Addressing → Node → List Choice → List L
  pub store : ℕ → StoreType → Addressing → Node → List Choice → List L
  pub argument : ℕ → ValueType → Node → List L
  pub next_argument : Node → List L
  pub push : ℕ → ℕ → Node → List L
  pub control : Op → List Operand → ℕ → ℕ → List L

-- how many arguments are staged
abbrev pub staged_count : List Bool → ℕ
staged_count staged = count_by (λ b. b) staged

-- those of a node with this operation, in a function with such a frame, with these choices, where these arguments are staged and the code begins at a place
abbrev pub items_of : {L : Type 0} → Families L → Op → Node → ℕ → List Choice → List Bool → ℕ → List L
items_of F (op.Binary o last) n frame choices staged place = F.values frame n choices
items_of F (op.Wide o last) n frame choices staged place = F.values frame n choices
items_of F (op.Unary o) n frame choices staged place = F.values frame n choices
items_of F (op.Plain plain.Movi) n frame choices staged place = F.values frame n choices
items_of F (op.Plain plain.VaStart) n frame choices staged place = F.values frame n choices
items_of F (op.Plain plain.VaArg) n frame choices staged place = F.next_argument n
items_of F (op.Load t at) n frame choices staged place = F.load frame t at n choices
items_of F (op.Store t at) n frame choices staged place = F.store frame t at n choices
items_of F (op.Getarg t) n frame choices staged place = F.argument frame t n
items_of F (op.Retval t) n frame choices staged place = F.values frame n choices
items_of F (op.Control control.Pusharg last) n frame choices staged place = F.push frame (staged_count staged) n
items_of F o n frame choices staged place = F.control n.op n.operands frame place

abbrev pub node_items : {L : Type 0} → Families L → Node → ℕ → List Choice → List Bool → ℕ → List L
node_items F n frame choices staged place = items_of F n.op n frame choices staged place
