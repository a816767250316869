-- The number of strings of an argument part.
use Rattle.std.proofs.Common.{◌≡◌, ◌≢◌, ℕ, zero, suc, ◌+◌, ◌-◌, ◌*◌, ◌/◌, ◌^◌, ◌<◌, ◌≤◌, List, [], ◌∷◌, ◌++◌, length, take, drop, false, refl, sym, ap, ◌∙◌, arith, append_assoc}
use Rattle.std.specs.Prelude.{sum_by, slice_index, ◌==◌, if◌then◌else◌}
use Rattle.std.specs.Int.{w64, from_le_bytes, to_le_bytes}
use Rattle.std.proofs.Math.Seq.{take-append_seam, drop-append_seam}
use Rattle.std.proofs.lemmas.Nat.{from_le_bytes-to_le_bytes_8}
use Rattle.std.proofs.lemmas.Bool.{eq-eqb}
use Rattle.std.proofs.lemmas.List.{drop-drop}
use Rattle.std.proofs.lemmas.List.Sums.{sum_by-cons}
use Rattle.lg_base.specs.Parts.{args_base}
use Rattle.lg_base.specs.Arguments.{strings, pointers, args_of, words_before_zero, CountsArguments}
use Rattle.lg_base.proofs.ArgumentLemmas.{length-args_of}

-- one word of a list
pub take_more : (n k : ℕ) (xs : List ℕ) → k < length xs → take (suc n) (drop k xs) ≡ slice_index xs k ∷ take n (drop (suc k) xs)
take_more n zero (x ∷ xs) lt = refl
take_more n (suc k) (x ∷ xs) lt = take_more n k xs (omega (arith, lt))
take_more n zero [] lt = absurd (let never : ⊥ = omega (arith, lt) in never)
take_more n (suc k) [] lt = absurd (let never : ⊥ = omega (arith, lt) in never)

then_next : (n k m : ℕ) (xs : List ℕ) → m ≡ suc k → k < length xs → take (suc n) (drop k xs) ≡ slice_index xs k ∷ take n (drop m xs)
then_next n k m xs e lt = take_more n k xs lt ∙ ap (λ j. slice_index xs k ∷ take n (drop j xs)) (sym e)

pub eight : (k : ℕ) (xs : List ℕ) → k + 8 ≤ length xs
    → take 8 (drop k xs) ≡ slice_index xs k ∷ slice_index xs (k + 1) ∷ slice_index xs (k + 2) ∷ slice_index xs (k + 3) ∷ slice_index xs (k + 4) ∷ slice_index xs (k + 5) ∷ slice_index xs (k + 6) ∷ slice_index xs (k + 7) ∷ []
eight k xs fits =
    then_next 7 k (k + 1) xs (omega arith) (omega (arith, fits)) ∙ ap (λ ys. slice_index xs k ∷ ys)
    (then_next 6 (k + 1) (k + 2) xs (omega arith) (omega (arith, fits)) ∙ ap (λ ys. slice_index xs (k + 1) ∷ ys)
    (then_next 5 (k + 2) (k + 3) xs (omega arith) (omega (arith, fits)) ∙ ap (λ ys. slice_index xs (k + 2) ∷ ys)
    (then_next 4 (k + 3) (k + 4) xs (omega arith) (omega (arith, fits)) ∙ ap (λ ys. slice_index xs (k + 3) ∷ ys)
    (then_next 3 (k + 4) (k + 5) xs (omega arith) (omega (arith, fits)) ∙ ap (λ ys. slice_index xs (k + 4) ∷ ys)
    (then_next 2 (k + 5) (k + 6) xs (omega arith) (omega (arith, fits)) ∙ ap (λ ys. slice_index xs (k + 5) ∷ ys)
    (then_next 1 (k + 6) (k + 7) xs (omega arith) (omega (arith, fits)) ∙ ap (λ ys. slice_index xs (k + 6) ∷ ys)
    (then_next 0 (k + 7) (k + 8) xs (omega arith) (omega (arith, fits)))))))))

-- a word that is not 0, and one that is
pub word_more : (n j : ℕ) (xs : List ℕ) → n ≡ suc j → from_le_bytes w64 (take 8 xs) ≢ 0 → words_before_zero n xs ≡ suc (words_before_zero j (drop 8 xs))
unfolding words_before_zero
word_more n j xs e other =
    let test : (from_le_bytes w64 (take 8 xs) == 0) ≡ false = grind (arith, other) in
    ap (λ k. words_before_zero k xs) e ∙ ap (λ b. if b then 0 else suc (words_before_zero j (drop 8 xs))) test

pub word_stop : (n j : ℕ) (xs : List ℕ) → n ≡ suc j → from_le_bytes w64 (take 8 xs) ≡ 0 → words_before_zero n xs ≡ 0
unfolding words_before_zero
word_stop n j xs e same = ap (λ k. words_before_zero k xs) e ∙ ap (λ b. if b then 0 else suc (words_before_zero j (drop 8 xs))) (eq-eqb (from_le_bytes w64 (take 8 xs)) 0 same)

pub one_more : (args : List ℕ) (words count : ℕ) → count < words → from_le_bytes w64 (take 8 (drop (8 * count) args)) ≢ 0
    → count + 1 + words_before_zero (words - (count + 1)) (drop (8 * (count + 1)) args) ≡ count + words_before_zero (words - count) (drop (8 * count) args)
one_more args words count lt other =
    let here : drop 8 (drop (8 * count) args) ≡ drop (8 * (count + 1)) args = drop-drop 8 (8 * count) args ∙ ap (λ k. drop k args) (let e : 8 * count + 8 ≡ 8 * (count + 1) = omega arith in e) in
    let more = word_more (words - count) (words - (count + 1)) (drop (8 * count) args) (omega (arith, lt)) other in
    let next : words_before_zero (words - count) (drop (8 * count) args) ≡ suc (words_before_zero (words - (count + 1)) (drop (8 * (count + 1)) args)) = more ∙ ap (λ ys. suc (words_before_zero (words - (count + 1)) ys)) here in
    omega (arith, next)

pub no_more : (args : List ℕ) (words count : ℕ) → count < words → from_le_bytes w64 (take 8 (drop (8 * count) args)) ≡ 0
    → count ≡ count + words_before_zero (words - count) (drop (8 * count) args)
no_more args words count lt same =
    let none = word_stop (words - count) (words - (count + 1)) (drop (8 * count) args) (omega (arith, lt)) same in
    omega (arith, none)

pub all_counted : (args : List ℕ) (words count : ℕ) → words ≤ count → count ≡ count + words_before_zero (words - count) (drop (8 * count) args)
unfolding words_before_zero
all_counted args words count le =
    let none : words - count ≡ 0 = omega (arith, le) in
    let stop : words_before_zero (words - count) (drop (8 * count) args) ≡ 0 = ap (λ k. words_before_zero k (drop (8 * count) args)) none in
    omega (arith, stop)

-- ---- the words of an argument part
first_word : (a : ℕ) (more : List ℕ) → a < 2 ^ 64 → from_le_bytes w64 (take 8 (to_le_bytes w64 a ++ more)) ≡ a
first_word a more fits = ap (from_le_bytes w64) (take-append_seam (to_le_bytes w64 a) more) ∙ from_le_bytes-to_le_bytes_8 a fits

counted : (ws : List (List ℕ)) (address n : ℕ) (tail : List ℕ) → 0 < address → address + sum_by (λ w. length w + 1) ws < 2 ^ 64 → length ws < n
    → words_before_zero n (pointers address ws ++ (to_le_bytes w64 0 ++ tail)) ≡ length ws
counted [] address n tail some fits lt = word_stop n (n - 1) (to_le_bytes w64 0 ++ tail) (omega (arith, lt)) (first_word 0 tail (omega arith))
counted (w ∷ ws) address n tail some fits lt =
    let rest = pointers (address + (length w + 1)) ws in
    let more = rest ++ (to_le_bytes w64 0 ++ tail) in
    let split : pointers address (w ∷ ws) ++ (to_le_bytes w64 0 ++ tail) ≡ to_le_bytes w64 address ++ more = append_assoc (to_le_bytes w64 address) rest (to_le_bytes w64 0 ++ tail) in
    let sum = sum_by-cons (λ (x : List ℕ). length x + 1) w ws in
    let word : from_le_bytes w64 (take 8 (to_le_bytes w64 address ++ more)) ≡ address = first_word address more (omega (arith, fits, sum)) in
    let other : from_le_bytes w64 (take 8 (to_le_bytes w64 address ++ more)) ≢ 0 = λ e. absurd (let never : ⊥ = omega (arith, word, e, some) in never) in
    ap (words_before_zero n) split
    ∙ word_more n (n - 1) (to_le_bytes w64 address ++ more) (omega (arith, lt)) other
    ∙ ap (λ ys. suc (words_before_zero (n - 1) ys)) (drop-append_seam (to_le_bytes w64 address) more)
    ∙ ap suc (counted ws (address + (length w + 1)) (n - 1) tail (omega (arith, some)) (omega (arith, fits, sum)) (omega (arith, lt)))

pub arguments-counted : CountsArguments
arguments-counted words few =
    let long = length-args_of words in
    let front = pointers (args_base + 8 * (length words + 1)) words in
    ap (words_before_zero (length (args_of words) / 8)) (append_assoc front (to_le_bytes w64 0) (strings words))
    ∙ counted words (args_base + 8 * (length words + 1)) (length (args_of words) / 8) (strings words) (omega arith) (omega (arith, few, long)) (omega (arith, long))
