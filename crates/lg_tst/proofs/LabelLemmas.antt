-- The number of a word's label is one of the list's.
use Rattle.std.proofs.Common.{◌≡◌, ℕ, ◌+◌, ◌<◌, Bool, true, false, not, ◌||◌, cond, if◌then◌else◌, List, [], ◌∷◌, ◌++◌, None, length, length-append, refl, arith}
use Rattle.std.specs.List.{list_any, position_or_len}
use Rattle.std.specs.Str.{bytes_eq}
use Rattle.std.proofs.lemmas.Bool.{false≢true}
use Rattle.std.proofs.lemmas.List.Sums.{prefix_len-le-length}
use Rattle.lg_node.specs.Nodes.{LabelledNodes, number_of, mentioned}

module _ {A : Type 0} (p : A → Bool) where
  any_within : (xs : List A) → list_any p xs ≡ true → position_or_len p xs < length xs
  any_within [] e = absurd (false≢true e)
  any_within (x ∷ xs) e = by (p x) refl e (any_within xs)
    where
      by : (b : Bool) → p x ≡ b → (b || list_any p xs) ≡ true → (list_any p xs ≡ true → position_or_len p xs < length xs) → cond (not b) (1 + position_or_len p xs) 0 < length (x ∷ xs)
      by true t f rest = omega arith
      by false t f rest = let more = rest f in omega (arith, more)

pub label_within : (l : LabelledNodes) (word : List ℕ) → number_of l.words word < length (mentioned l word).words
label_within l word = by (list_any (bytes_eq word) l.words) refl
  where
    by : (b : Bool) → list_any (bytes_eq word) l.words ≡ b → number_of l.words word < length (if b then l else record l { words = l.words ++ word ∷ []; places = l.places ++ None ∷ [] }).words
    by true e = any_within (bytes_eq word) l.words e
    by false e =
        let most = prefix_len-le-length (λ w. not (bytes_eq word w)) l.words in
        let more = length-append l.words (word ∷ []) in
        omega (arith, most, more)
