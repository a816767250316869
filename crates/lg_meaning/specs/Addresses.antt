-- The addresses of the labels of a text.
use Rattle.std.specs.Prelude.{◌≡◌, ℕ, ◌+◌, ◌*◌, ◌<◌, ◌≤◌, true, List, Option, Some, None, length, map, slice_get, slice_index}
use Rattle.lg_base.specs.Layout.{code_base}
use Rattle.lg_base.specs.Parts.{data_base}
use Rattle.lg_node.specs.declared.place.Place.{Place}
use Rattle.lg_node.specs.declared.place.Place.TheVariants as place
use Rattle.lg_node.specs.Nodes.{LabelledNodes}
use Rattle.lg_node.specs.Functions.{is_prolog_at}

-- a label is bound at a place
abbrev pub IsBound : LabelledNodes → ℕ → Place → Type 0
IsBound l x p = slice_get l.places x ≡ Some (Some p)

-- a label is bound at a node that is a `prolog`
pub record BeginsAt (l : LabelledNodes) (x i : ℕ) : Type 0 where
  pub bound : IsBound l x (place.Node i)
  pub begins : is_prolog_at (slice_get l.nodes i) ≡ true

-- addresses of the labels, over code of this many bytes: one for each label; that of a data label is its byte's; that of a code label is one of the code
-- part, or the one after its last, and they never fall in the order of the text, and rise from one `prolog` to the next
pub record AreAddresses (l : LabelledNodes) (size : ℕ) (addresses : List ℕ) : Type 0 where
  pub count : length addresses ≡ length l.places
  pub images : (x k : ℕ) → IsBound l x (place.Image k) → slice_index addresses x ≡ data_base + k
  pub within : (x i : ℕ) → IsBound l x (place.Node i) → (code_base ≤ slice_index addresses x) × (slice_index addresses x ≤ code_base + size)
  pub order : (x y i j : ℕ) → IsBound l x (place.Node i) → IsBound l y (place.Node j) → i ≤ j → slice_index addresses x ≤ slice_index addresses y
  pub entries : (x y i j : ℕ) → BeginsAt l x i → BeginsAt l y j → i < j → slice_index addresses x < slice_index addresses y

-- labels that are bound at nodes are bound at nodes of the text, or after the last one
abbrev pub AreWithin : LabelledNodes → Type 0
AreWithin l = (x i : ℕ) → IsBound l x (place.Node i) → i ≤ length l.nodes

-- the plain addresses: 256 bytes for each node
abbrev pub plain_address : Option Place → ℕ
plain_address None = 0
plain_address (Some (place.Node i)) = code_base + 256 * i
plain_address (Some (place.Image k)) = data_base + k

abbrev pub plain_addresses : LabelledNodes → List ℕ
plain_addresses l = map plain_address l.places
