-- How the labels of each node are held: each leads to the next one that is bound at the same node.
use Rattle.std.specs.Prelude.{◌≡◌, ◌≢◌, true, false, Bool, ℕ, ◌+◌, ◌<◌, ◌≤◌, List, Option, Some, None, length, slice_index_or}
use Rattle.std.specs.List.{All}
use Rattle.lg_op.specs.declared.operand.Label.{Label}
use Rattle.lg_node.specs.Labels.{is_at}
use Rattle.lg_node.specs.Nodes.{MayStand}
use Rattle.lg_node.specs.declared.place.Place.{Place}
use Rattle.lg_node.specs.declared.chain.Ends.{Ends}
use Rattle.lg_node.specs.declared.bindings.Bindings.TheInside.{Inside}

-- whether a label is bound at node i
abbrev pub bound_at : List (Option Place) → ℕ → ℕ → Bool
bound_at places i k = is_at i (slice_index_or places k None)

-- no label from a number on is one of a set
abbrev pub NoneFrom : (ℕ → Bool) → ℕ → Type 0
NoneFrom at from = (k : ℕ) → from ≤ k → at k ≡ false

-- the first label of a set from a number on
pub record FirstFrom (at : ℕ → Bool) (from label : ℕ) : Type 0 where
  pub later : from ≤ label
  pub bound : at label ≡ true
  pub none : (k : ℕ) → from ≤ k → k < label → at k ≡ false

-- the first label of a set from a number on, or that there is none
abbrev pub IsFirst : (ℕ → Bool) → ℕ → Option Label → Type 0
IsFirst at from None = NoneFrom at from
IsFirst at from (Some l) = FirstFrom at from l.0

-- the first and the last label of a set, or that it is empty
abbrev pub AreEnds : (ℕ → Bool) → Option Ends → Type 0
AreEnds at None = NoneFrom at 0
AreEnds at (Some e) = FirstFrom at 0 e.first.0 × (at e.last.0 ≡ true) × NoneFrom at (e.last.0 + 1)

-- the labels of a set: each leads to the next
pub record IsChain (at : ℕ → Bool) (next : List (Option Label)) (ends : Option Ends) : Type 0 where
  pub bounds : AreEnds at ends
  pub links : (k : ℕ) → at k ≡ true → IsFirst at (k + 1) (slice_index_or next k None)
  pub within : (k : ℕ) → at k ≡ true → k < length next

-- a set with one label more
pub record IsJoined (at more : ℕ → Bool) (label : ℕ) : Type 0 where
  pub joined : more label ≡ true
  pub others : (k : ℕ) → k ≢ label → more k ≡ at k

-- the places of labels, and how many nodes there are
pub record BoundLabels : Type 0 where
  pub places : List (Option Place)
  pub nodes : ℕ

abbrev pub bindings_of : Inside → BoundLabels
bindings_of b = record { places = b.places.items; nodes = length b.ends.items }

-- the labels of each node are a chain, and so are those after the last
pub record AreBindings (b : Inside) : Type 0 where
  pub paired : length b.places.items ≤ length b.next.items
  pub placed : All (MayStand (length b.ends.items)) b.places.items
  pub nodes : (i : ℕ) → i < length b.ends.items → IsChain (bound_at b.places.items i) b.next.items (slice_index_or b.ends.items i None)
  pub end : IsChain (bound_at b.places.items (length b.ends.items)) b.next.items b.end
