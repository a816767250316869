-- Which label of a node comes next, in the order of first mention.
use Rattle.std.specs.Prelude.{◌≡◌, true, false, ℕ, ◌<◌, ◌≤◌, List, Option, None, length, slice_index_or}
use Rattle.lg_node.specs.declared.place.Place.{Place}
use Rattle.lg_node.specs.Labels.{is_at}

-- the first label from a number on that is bound at a node
pub record NextAt (places : List (Option Place)) (i from label : ℕ) : Type 0 where
  pub later : from ≤ label
  pub within : label < length places
  pub bound : is_at i (slice_index_or places label None) ≡ true
  pub none : (k : ℕ) → from ≤ k → k < label → is_at i (slice_index_or places k None) ≡ false

-- there is no such label
abbrev pub NoneAt : List (Option Place) → ℕ → ℕ → Type 0
NoneAt places i from = (k : ℕ) → from ≤ k → k < length places → is_at i (slice_index_or places k None) ≡ false
