-- Words that no label has yet.
use Rattle.std.specs.Prelude.{◌≡◌, ℕ, ◌+◌, ◌/◌, ◌%◌, ◌<◌, ◌≤◌, Bool, true, false, List, [], ◌∷◌, ◌++◌, None, length, map}
use Rattle.std.specs.List.{list_any}
use Rattle.std.specs.Str.{bytes_eq}
use Rattle.lg_node.specs.Nodes.{LabelledNodes}

-- the decimal digit of a number at a power of ten
abbrev pub digit_of : ℕ → ℕ → ℕ
digit_of number power = 48 + number / power % 10

-- the word of a number: `_` and ten decimal digits
abbrev pub numbered : ℕ → List ℕ
numbered number = 95 ∷ map (digit_of number) (1000000000 ∷ 100000000 ∷ 10000000 ∷ 1000000 ∷ 100000 ∷ 10000 ∷ 1000 ∷ 100 ∷ 10 ∷ 1 ∷ [])

abbrev pub is_mentioned : List (List ℕ) → List ℕ → Bool
is_mentioned words word = list_any (bytes_eq word) words

-- the first number, from the count of the words on, whose word is not one of them
pub record IsUnused (words : List (List ℕ)) (number : ℕ) : Type 0 where
  pub from : length words ≤ number
  pub unused : is_mentioned words (numbered number) ≡ false
  pub first : (k : ℕ) → length words ≤ k → k < number → is_mentioned words (numbered k) ≡ true

-- one label more, with this word, which is not bound
abbrev pub with_label : LabelledNodes → List ℕ → LabelledNodes
with_label l word = record l { words = l.words ++ word ∷ []; places = l.places ++ None ∷ [] }
