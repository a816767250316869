-- Which node's bytes hold a place of the code. Node i has the bytes from place i to before place i + 1.
use Rattle.std.specs.Prelude.{◌≡◌, ℕ, ◌+◌, ◌<◌, ◌≤◌, List, length, slice_get, slice_index, Some}
use Rattle.lg_op.specs.declared.node.Node.{Node}

pub record Holds (places : List ℕ) (i place : ℕ) : Type 0 where
  pub within : i + 1 < length places
  pub from : slice_index places i ≤ place
  pub to : place < slice_index places (i + 1)

-- no place is below the one before it
abbrev pub NeverFall : List ℕ → Type 0
NeverFall places = (i : ℕ) → i + 1 < length places → slice_index places i ≤ slice_index places (i + 1)

-- the places of nodes and of the end: the first is 0, and none is below the one before it
pub record ArePlaced (nodes : List Node) (places : List ℕ) : Type 0 where
  pub count : length places ≡ length nodes + 1
  pub first : slice_index places 0 ≡ 0
  pub order : NeverFall places

-- a table has for each place the line of the node whose bytes hold it, and ends after the last place that a node's bytes hold
pub record AreLines (nodes : List Node) (places lines : List ℕ) : Type 0 where
  pub each : (i place : ℕ) (n : Node) → slice_get nodes i ≡ Some n → Holds places i place → slice_get lines place ≡ Some n.line
  pub only : (place : ℕ) → place < length lines → (i : ℕ) × Holds places i place
