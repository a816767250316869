-- A text with its shape, the addresses of its labels, and tables in which its steps look up where words lead.
use Rattle.std.specs.Prelude.{◌≡◌, ℕ, ◌&&◌, Bool, false, nat_eq, nat_lt, if◌then◌else◌, Option, Some, None, List, length, slice_get, slice_index_or}
use Rattle.std.specs.Map.{lookup}
use Rattle.lg_op.specs.declared.node.Node.{Node}
use Rattle.lg_node.specs.declared.function.Function.{Function}
use Rattle.lg_node.specs.Nodes.{LabelledNodes}
use Rattle.lg_node.specs.Functions.{IsFunction}
use Rattle.lg_node.specs.Shapes.{TextShape, IsShapeOf}
use Rattle.lg_meaning.specs.Steps.{Text, last_landing, function_here, is_after, is_entry_label}
use Rattle.lg_meaning.specs.Texts.{text}
use Rattle.lg_mean.specs.declared.resolved.ResolvedNode.{ResolvedNode}
use Rattle.lg_mean.specs.Resolved.{IsResolved}

-- the address of each label; the nodes to which `jmpr` goes, by the node of the function's `prolog` and the address; the nodes to
-- which a call of an address goes; and each node with its operands looked up
pub record LabelTable : Type 0 where
  pub addresses : List ℕ
  pub jumps : List ((ℕ × ℕ) × ℕ)
  pub calls : List (ℕ × ℕ)
  pub resolved : List ResolvedNode

pub record KnownText : Type 0 where
  pub nodes : LabelledNodes
  pub shape : TextShape
  pub labels : LabelTable

abbrev pub text_of : KnownText → Text
text_of p = text p.nodes p.shape p.labels.addresses

-- ---- what is in the tables
abbrev pub pair_eq : ℕ × ℕ → ℕ × ℕ → Bool
pair_eq x y = nat_eq x.0 y.0 && nat_eq x.1 y.1

-- a taken label that is bound in a function after its `prolog`
abbrev pub lands_in : Text → Function → ℕ → ℕ → Bool
lands_in t f l k = slice_index_or t.taken l false && is_after (Some f) k

-- the node to which `jmpr` goes in a function, among n labels
abbrev pub jump_in : Text → Function → ℕ → ℕ → Option ℕ
jump_in t f w labels = last_landing (lands_in t f) t.places t.addresses w labels

-- the node to which a call of an address goes, among n labels
abbrev pub call_among : Text → ℕ → ℕ → Option ℕ
call_among t w labels = last_landing (is_entry_label t) t.places t.addresses w labels

-- the tables hold where the first n labels lead
pub record LeadsAmong (l : LabelledNodes) (t : Text) (jumps : List ((ℕ × ℕ) × ℕ)) (calls : List (ℕ × ℕ)) (labels : ℕ) : Type 0 where
  pub jumped : (f : Function) → IsFunction l.nodes f → (w : ℕ) → lookup (pair_eq (f.entry, w)) jumps ≡ jump_in t f w labels
  pub called : (w : ℕ) → lookup (nat_eq w) calls ≡ call_among t w labels

-- each node is looked up
pub record AreResolved (nodes : List Node) (t : Text) (resolved : List ResolvedNode) : Type 0 where
  pub as_many : length resolved ≡ length nodes
  pub each : (i : ℕ) (n : Node) (q : ResolvedNode) → slice_get nodes i ≡ Some n → slice_get resolved i ≡ Some q → IsResolved t n q

-- the tables are those of accepted nodes with their shape and the addresses of their labels
pub record IsTableOf (l : LabelledNodes) (shape : TextShape) (labels : LabelTable) : Type 0 where
  pub shaped : IsShapeOf l shape
  pub same : length labels.addresses ≡ length l.words
  pub leads : LeadsAmong l (text l shape labels.addresses) labels.jumps labels.calls (length l.places)
  pub resolved : AreResolved l.nodes (text l shape labels.addresses) labels.resolved

-- ---- how a label gets into them
-- the `prolog` of a function to whose node a label is bound after it
abbrev pub entry_after : Option Function → ℕ → Option ℕ
entry_after None k = None
entry_after (Some f) k = if nat_lt f.entry k then Some f.entry else None

-- the `prolog` of the function in which `jmpr` can go to a label that is bound at a node
abbrev pub jump_entry : Text → ℕ → ℕ → Option ℕ
jump_entry t l k = if slice_index_or t.taken l false then entry_after (function_here t.functions k) k else None

-- the place of the table in which such a label stands
abbrev pub is_jump_key : Option ℕ → ℕ → ℕ × ℕ → Bool
is_jump_key None address key = false
is_jump_key (Some entry) address key = pair_eq (entry, address) key
