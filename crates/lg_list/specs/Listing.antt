-- The listing of code.
use Rattle.std.specs.Prelude.{ℕ, zero, suc, ◌+◌, ◌-◌, ◌≡◌, ◌≤◌, ◌<◌, if◌then◌else◌, List, [], ◌∷◌, ◌++◌, Option, length, take, drop, map, slice_index, slice_get, Some, None}
use Rattle.lg_base.specs.Layout.{code_base, most_code}
use Rattle.lg_base.specs.declared.target.Target.{Target}
use Rattle.lg_op.specs.declared.node.Node.{Node}
use Rattle.lg_node.specs.declared.place.Place.{Place}
use Rattle.lg_node.specs.declared.place.Place.TheVariants as place
use Rattle.lg_node.specs.Labels.{is_at}
use Rattle.lg_node.specs.Nodes.{LabelledNodes}
use Rattle.lg_list.specs.Instructions.{instructions}
use Rattle.lg_list.specs.Lines.{Entry, rendered, first_line}
use Rattle.lg_list.specs.Lines.Entry.{Label, Node as NodeEntry, Code}

-- the labels bound at a node, in the order of their first mention
abbrev pub labels_at : ℕ → List (List ℕ) → List (Option Place) → List Entry
labels_at i [] places = []
labels_at i (word ∷ words) [] = []
labels_at i (word ∷ words) (place ∷ places) = if is_at i place then (Label word ∷ labels_at i words places) else labels_at i words places

-- the bytes of node i, which are between its place and the next
abbrev pub bytes_between : List ℕ → List ℕ → ℕ → List ℕ
bytes_between bytes places i = take (slice_index places (i + 1) - slice_index places i) (drop (slice_index places i) bytes)

-- the lines of node i, whose bytes these are
abbrev pub entry_of : Option Node → List Entry
entry_of None = []
entry_of (Some n) = NodeEntry n.line n.op ∷ []

abbrev pub node_entries : Target → List ℕ → LabelledNodes → ℕ → List Entry
node_entries t bytes l i = labels_at i l.words l.places ++ (entry_of (slice_get l.nodes i) ++ map Code (instructions t bytes))

-- this many nodes from node i on; the labels that are bound after the last node come last
abbrev pub nodes_from : Target → List ℕ → List ℕ → LabelledNodes → ℕ → ℕ → List ℕ
nodes_from t bytes places l i zero = rendered (code_base + slice_index places i) (labels_at i l.words l.places)
nodes_from t bytes places l i (suc k) = rendered (code_base + slice_index places i) (node_entries t (bytes_between bytes places i) l i)
    ++ nodes_from t bytes places l (i + 1) k

abbrev pub listing : Target → List ℕ → List ℕ → LabelledNodes → List ℕ
listing t bytes places l = first_line t (length bytes) ++ nodes_from t bytes places l 0 (length l.nodes)

-- there is one place more than nodes, the first is 0, the last is the number of bytes, and none is below the one before it
pub record Placed (places : List ℕ) (nodes len : ℕ) : Type 0 where
  pub count : length places ≡ nodes + 1
  pub first : slice_index places 0 ≡ 0
  pub last : slice_index places nodes ≡ len
  pub rise : (i : ℕ) → i < nodes → slice_index places i ≤ slice_index places (i + 1)
  pub small : len ≤ most_code

-- each label that is bound at a node has the address of the node's place
abbrev pub AreAddressed : List (Option Place) → List ℕ → List ℕ → Type 0
AreAddressed bound places labels = (x i : ℕ) → slice_get bound x ≡ Some (Some (place.Node i)) → slice_get labels x ≡ Some (code_base + slice_index places i)
