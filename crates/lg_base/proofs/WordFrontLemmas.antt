-- Instruction words of 32 bits in lists of bytes: from laws on words to laws on bytes.
use Rattle.std.proofs.Common.{◌≡◌, ℕ, ◌+◌, ◌*◌, ◌^◌, ◌<◌, ◌≤◌, List, [], ◌∷◌, ◌++◌, length, take, drop, get_or, Option, Some, None, false, refl, sym, ap, ◌∙◌, arith, add-zero, length-drop, length-take, nat_lt, ⊎_elim}
use Rattle.std.specs.Prelude.{IfSome, IfNone, if◌then◌else◌}
use Rattle.std.specs.Option.{option_map}
use Rattle.std.specs.Int.{w32, from_le_bytes, to_le_bytes}
use Rattle.std.proofs.lemmas.Nat.{le_bytes_4, from_le_bytes-to_le_bytes_4}
use Rattle.std.proofs.lemmas.List.{get_or-drop, get_or-take, get_or_past}
use Rattle.std.proofs.lemmas.Bool.{cases_lt}
use Rattle.lg_base.specs.WordFronts.{word_at, word_front}

first_word : (xs : List ℕ) → 4 ≤ length xs → from_le_bytes w32 (take 4 xs) ≡ get_or xs 0 0 + 256 * get_or xs 1 0 + 65536 * get_or xs 2 0 + 16777216 * get_or xs 3 0
first_word [] h = omega (arith, h)
first_word (a ∷ []) h = omega (arith, h)
first_word (a ∷ b ∷ []) h = omega (arith, h)
first_word (a ∷ b ∷ c ∷ []) h = omega (arith, h)
first_word (a ∷ b ∷ c ∷ d ∷ rest) h = grind arith

-- the word at a place is what a decoder reads there
pub word_is : (bytes : List ℕ) (p : ℕ) → p + 4 ≤ length bytes → from_le_bytes w32 (take 4 (drop p bytes)) ≡ word_at bytes p
word_is bytes p h =
    let e = get_or-drop p bytes 0 0 ∙ ap (λ k. get_or bytes k 0) (add-zero p) in
    first_word (drop p bytes) (let l = length-drop p bytes in omega arith)
    ∙ (λ j. e j + 256 * get_or-drop p bytes 1 0 j + 65536 * get_or-drop p bytes 2 0 j + 16777216 * get_or-drop p bytes 3 0 j)

-- where each spelling that begins the bytes is what was read, nothing read means that none begins them
pub none_from : {I : Type 0} (Begins : I → Type 0) (r : Option (I × ℕ)) → ((i : I) → Begins i → (n : ℕ) × (r ≡ Some (i, n))) → IfNone r ((i : I) → Begins i → ⊥)
none_from Begins None h = λ i b. none_some (h i b).1
  where
    none_some : {A : Type 0} {x : A} → None ≡ Some x → ⊥
    none_some e = cc
none_from Begins (Some x) h = tt

four_is : (xs more : List ℕ) → length xs ≡ 4 → (nat_lt (length (xs ++ more)) 4 ≡ false) × (take 4 (xs ++ more) ≡ xs)
four_is [] more h = absurd (omega (arith, h))
four_is (a ∷ []) more h = absurd (omega (arith, h))
four_is (a ∷ b ∷ []) more h = absurd (omega (arith, h))
four_is (a ∷ b ∷ c ∷ []) more h = absurd (omega (arith, h))
four_is (a ∷ b ∷ c ∷ d ∷ []) more h = (grind arith, refl)
four_is (a ∷ b ∷ c ∷ d ∷ e ∷ xs) more h = absurd (omega (arith, h))

front_fits : (a b c d : ℕ) → a < 256 → b < 256 → c < 256 → d < 256 → from_le_bytes w32 (a ∷ b ∷ c ∷ d ∷ []) < 2 ^ 32
front_fits a b c d p q r s = omega arith

front_small : (bytes : List ℕ) → ((i : ℕ) → get_or bytes i 0 < 256) → (i : ℕ) → get_or (take 4 bytes) i 0 < 256
front_small bytes small i = ⊎_elim
    (λ lt. let e = get_or-take 4 bytes i 0 lt in omega (arith, e, small i))
    (λ ge. let e = get_or_past (take 4 bytes) i 0 (omega (arith, length-take 4 bytes)) in omega (arith, e))
    (cases_lt i 4)

module _ {I : Type 0} (read : ℕ → Option I) (word : I → ℕ) (Is : I → Type 0) where
  abbrev paired : I → I × ℕ
  paired i = (i, 4)

  -- a reader that reads each instruction's word again reads the front of its bytes
  pub word_again : ((i : I) → Is i → read (word i) ≡ Some i) → ((i : I) → Is i → word i < 2 ^ 32) → (i : I) (more : List ℕ) → Is i → word_front read (to_le_bytes w32 (word i) ++ more) ≡ Some (i, 4)
  unfolding word_front
  word_again again fits i more ok =
      let four = four_is (to_le_bytes w32 (word i)) more refl in
      let same = from_le_bytes-to_le_bytes_4 (word i) (fits i ok) in
      ap (λ short. if short then None else option_map paired (read (from_le_bytes w32 (take 4 (to_le_bytes w32 (word i) ++ more))))) four.0
      ∙ ap (λ w. option_map paired (read w)) same
      ∙ ap (option_map paired) (again i ok)

  spelled : (o : Option I) (n : ℕ) (bytes more four : List ℕ) → four ++ more ≡ bytes → to_le_bytes w32 n ≡ four → IfSome o (λ i. (word i ≡ n) × Is i)
      → IfSome {T = I × ℕ} (option_map paired o) (λ found. (Is found.0 × (more : List ℕ) × (bytes ≡ to_le_bytes w32 (word found.0) ++ more)) × (found.1 ≡ 4))
  spelled None n bytes more four split back h = tt
  spelled (Some i) n bytes more four split back h =
      ((h.1, more, sym split ∙ ap (λ x. x ++ more) (sym back ∙ ap (to_le_bytes w32) (sym h.0))), refl)

  -- a reader whose answer has the word that was read spells the front of the bytes
  pub word_spells : ((w : ℕ) → w < 2 ^ 32 → IfSome (read w) (λ i. (word i ≡ w) × Is i)) → (bytes : List ℕ) → ((i : ℕ) → get_or bytes i 0 < 256)
      → IfSome (word_front read bytes) (λ found. (Is found.0 × (more : List ℕ) × (bytes ≡ to_le_bytes w32 (word found.0) ++ more)) × (found.1 ≡ 4))
  unfolding word_front
  word_spells spells [] small = tt
  word_spells spells (a ∷ []) small = tt
  word_spells spells (a ∷ b ∷ []) small = tt
  word_spells spells (a ∷ b ∷ c ∷ []) small = tt
  word_spells spells (a ∷ b ∷ c ∷ d ∷ rest) small =
      let four = a ∷ b ∷ c ∷ d ∷ [] in
      let bytes = a ∷ b ∷ c ∷ d ∷ rest in
      let long : nat_lt (length bytes) 4 ≡ false = grind arith in
      let fits = front_fits a b c d (small 0) (small 1) (small 2) (small 3) in
      rw long (spelled (read (from_le_bytes w32 four)) (from_le_bytes w32 four) bytes rest four refl (le_bytes_4 four (from_le_bytes w32 four) refl (front_small bytes small) refl) (spells (from_le_bytes w32 four) fits))
