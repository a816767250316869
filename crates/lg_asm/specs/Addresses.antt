-- The addresses of labels over code.
use Rattle.std.specs.Prelude.{◌≡◌, ℕ, ◌+◌, ◌<◌, ◌≤◌, List, length, slice_get, slice_index, Option, Some}
use Rattle.lg_base.specs.Layout.{code_base}
use Rattle.lg_base.specs.Parts.{data_base}
use Rattle.lg_meaning.specs.Addresses.{IsBound}
use Rattle.lg_node.specs.declared.place.Place.{Place}
use Rattle.lg_node.specs.declared.place.Place.TheVariants as place
use Rattle.lg_node.specs.Nodes.{LabelledNodes}

-- that of a label that is bound here, where the node lies at a place of the code
abbrev pub address_of : Option Place → ℕ → ℕ
address_of (Some (place.Node i)) at = code_base + at
address_of (Some (place.Image k)) at = data_base + k
address_of p at = 0

-- the addresses of the first labels, where the places of those that are bound at nodes are these
pub record AreMade (places : List (Option Place)) (tags addresses : List ℕ) (count : ℕ) : Type 0 where
  pub long : length addresses ≡ count
  pub each : (x : ℕ) (p : Option Place) → x < count → slice_get places x ≡ Some p → slice_index addresses x ≡ address_of p (slice_index tags x)

-- the data part has this many bytes, at most 16 MiB, and no data label is bound after its end
pub record AreInside (l : LabelledNodes) (image : ℕ) : Type 0 where
  pub small : image ≤ 0x1000000
  pub labels : (x k : ℕ) → IsBound l x (place.Image k) → k ≤ image
