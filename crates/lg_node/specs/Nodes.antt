-- A list of nodes with its labels.
use Rattle.std.specs.Prelude.{ℕ, ◌≤◌, Bool, false, ◌&&◌, if◌then◌else◌, List, [], ◌∷◌, ◌++◌, Option, Some, None, slice_set}
use Rattle.std.specs.List.{list_all, list_any, position_or_len}
use Rattle.std.specs.Str.{bytes_eq}
use Rattle.lg_base.specs.WordBytes.{is_word_start, is_word_byte}
use Rattle.lg_op.specs.declared.node.Node.{Node}
use Rattle.lg_node.specs.declared.place.Place.{Place}
use Rattle.lg_node.specs.declared.place.Place.TheVariants as place

-- a word of a text
abbrev pub is_word : List ℕ → Bool
is_word [] = false
is_word (b ∷ bs) = is_word_start b && list_all is_word_byte bs

-- the nodes, and for each label in the order of their first mention its word and the place at which it is bound
pub record LabelledNodes : Type 0 where
  pub nodes : List Node
  pub words : List (List ℕ)
  pub places : List (Option Place)

abbrev pub with_node : LabelledNodes → Node → LabelledNodes
with_node l node = record l { nodes = l.nodes ++ node ∷ [] }

-- the number of a word: its place among the words, or the next number
abbrev pub number_of : List (List ℕ) → List ℕ → ℕ
number_of words word = position_or_len (bytes_eq word) words

-- a word that is new is the last label, and is not bound
abbrev pub mentioned : LabelledNodes → List ℕ → LabelledNodes
mentioned l word = if list_any (bytes_eq word) l.words then l else record l { words = l.words ++ word ∷ []; places = l.places ++ None ∷ [] }

abbrev pub with_place : LabelledNodes → ℕ → Place → LabelledNodes
with_place l label p = record l { places = slice_set l.places label (Some p) }

-- a place that is a node is at one of n nodes, or after the last
abbrev pub IsWithin : ℕ → Place → Type 0
IsWithin len (place.Node k) = k ≤ len
IsWithin len (place.Image k) = Unit {0}

-- the same of a label that may not be bound
abbrev pub MayStand : ℕ → Option Place → Type 0
MayStand len None = Unit {0}
MayStand len (Some p) = IsWithin len p
