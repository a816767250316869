-- Words in lists of bytes, and the numbers in patched fields.
use Rattle.std.proofs.Common.{◌≡◌, ℕ, ◌+◌, ◌^◌, ◌<◌, ◌≤◌, List, ◌++◌, length, take, drop, get_or, Bool, true, false, nat_lt, pos, ◌+ℤ◌, ◌≤ℤ◌, refl, sym, ap, ◌∙◌, arith, length-drop, length-take, ⊎_elim}
use Rattle.std.specs.Int.{w32, from_le_bytes, to_le_bytes}
use Rattle.std.proofs.lemmas.Int.{ints}
use Rattle.std.proofs.lemmas.Bool.Decides.{nat_tests}
use Rattle.std.proofs.lemmas.List.{take-append-drop, drop-drop, get_or-drop, get_or-take, get_or_past}
use Rattle.std.proofs.lemmas.Bool.{cases_lt}
use Rattle.std.proofs.lemmas.Nat.{le_bytes_4, from_le_bytes-to_le_bytes_4}
use Rattle.lg_base.specs.Fields.{signed}
use Rattle.lg_base.specs.WordFronts.{word_at}
use Rattle.lg_base.proofs.WordFrontLemmas.{word_is}
use Rattle.lg_cpu.specs.Laws.{AreBytes}

front-small : (bytes : List ℕ) → ((i : ℕ) → get_or bytes i 0 < 256) → (i : ℕ) → get_or (take 4 bytes) i 0 < 256
front-small bytes small i = ⊎_elim
    (λ lt. let e = get_or-take 4 bytes i 0 lt in omega (arith, e, small i))
    (λ ge. let e = get_or_past (take 4 bytes) i 0 (omega (arith, length-take 4 bytes)) in omega (arith, e))
    (cases_lt i 4)

-- the bytes from a place on are those of the word there, and those after it
pub split-word : (bytes : List ℕ) (p : ℕ) → AreBytes bytes → p + 4 ≤ length bytes → drop p bytes ≡ to_le_bytes w32 (word_at bytes p) ++ drop (p + 4) bytes
split-word bytes p small long =
    let front : List ℕ = take 4 (drop p bytes) in
    let l : length front ≡ 4 = length-take 4 (drop p bytes) ∙ (let d = length-drop p bytes in omega (arith, d)) in
    let s : (i : ℕ) → get_or front i 0 < 256 = λ i. front-small (drop p bytes) (λ k. rw get_or-drop (small (p + k))) i in
    let e : to_le_bytes w32 (word_at bytes p) ≡ front = le_bytes_4 front (word_at bytes p) l s (sym (word_is bytes p long)) in
    sym (take-append-drop 4 (drop p bytes)) ∙ (λ j. sym e j ++ drop-drop 4 p bytes j)

-- where the bytes of a word are at a place, it is the word there
pub record IsWordAt (bytes rest : List ℕ) (p n : ℕ) : Type 0 where
  pub long : p + 4 ≤ length bytes
  pub word : word_at bytes p ≡ n
  pub behind : drop (p + 4) bytes ≡ rest

pub word-stands : (bytes rest : List ℕ) (p n : ℕ) → n < 2 ^ 32 → drop p bytes ≡ to_le_bytes w32 n ++ rest → IsWordAt bytes rest p n
word-stands bytes rest p n fits e =
    let l : p + 4 ≤ length bytes = (let d = length-drop p bytes in let a = ap length e in omega (arith, d, a)) in record {
      long = l;
      word = sym (word_is bytes p l) ∙ (ap (λ xs. from_le_bytes w32 (take 4 xs)) e ∙ from_le_bytes-to_le_bytes_4 n fits);
      behind = sym (drop-drop 4 p bytes) ∙ ap (drop 4) e;
    }

-- a number of either sign, of the bits of its field, is in the range of the field
pub field-range : (half bits : ℕ) → bits < half + half → (pos 0 ≤ℤ (signed half bits +ℤ pos half)) × ((signed half bits +ℤ pos 1) ≤ℤ pos half)
field-range half bits h = cases (nat_lt bits half) refl
  where
    cases : (b : Bool) → nat_lt bits half ≡ b → (pos 0 ≤ℤ (signed half bits +ℤ pos half)) × ((signed half bits +ℤ pos 1) ≤ℤ pos half)
    cases true e = rw e (let lt : bits < half = grind (arith, nat_tests) in (omega (arith, ints), omega (arith, ints)))
    cases false e = rw e (let ge : half ≤ bits = grind (arith, nat_tests) in (omega (arith, ints), omega (arith, ints)))
