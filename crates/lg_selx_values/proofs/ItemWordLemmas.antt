-- Bytes that stay where fixes are patched, and fields that were patched.
use Rattle.std.proofs.Common.{◌≡◌, ℕ, suc, ◌+◌, ◌-◌, ◌%◌, ◌^◌, ◌<◌, ◌≤◌, List, [], ◌∷◌, ◌++◌, length, drop, get_or, Bool, true, false, nat_lt, ℤ, pos, negsuc, refl, sym, ap, ◌∙◌, subst, arith, length-drop, length-append}
use Rattle.std.specs.Prelude.{◌==◌, if◌then◌else◌, slice_index}
use Rattle.std.specs.Int.{w32, to_le_bytes}
use Rattle.std.proofs.lemmas.Int.{ints}
use Rattle.std.proofs.lemmas.Bool.Decides.{nat_tests}
use Rattle.std.proofs.lemmas.List.{drop_more}
use Rattle.lg_base.specs.Fields.{signed, bits_of}
use Rattle.lg_base.specs.WordFronts.{word_at}
use Rattle.lg_base.proofs.NumberLemmas.{bits_of-signed}
use Rattle.lg_cpu.specs.Laws.{AreBytes}
use Rattle.lg_sel.proofs.WordLemmas.{split-word}
use Rattle.lg_x86.specs.Spelling.{short_bytes, long_bytes, extension, spelling, IsNumber8, IsNumber32}
use Rattle.lg_x86.specs.Rows.{movi32_row}
use Rattle.lg_x86.specs.declared.instruction.Instr.TheVariants.{Movi32}
use Rattle.lg_selx_values.specs.Items.{move_size}

-- ---- bytes that stay
-- a list that is at a place, where its bytes are as they were
pub front-stays : (xs rest emitted finished : List ℕ) (p : ℕ) → length finished ≡ length emitted → drop p emitted ≡ xs ++ rest
    → ((i : ℕ) → p ≤ i → i < p + length xs → slice_index finished i ≡ slice_index emitted i) → drop p finished ≡ xs ++ drop (p + length xs) finished
front-stays [] rest emitted finished p long e same = let z : p ≡ p + 0 = omega arith in ap (λ n. drop n finished) z
front-stays (x ∷ xs) rest emitted finished p long e same =
    let l : p < length emitted = (let d = length-drop p emitted in let a = ap length e in omega (arith, d, a)) in
    let more : get_or emitted p 0 ∷ drop (p + 1) emitted ≡ x ∷ (xs ++ rest) = sym (drop_more emitted p 0 l) ∙ e in
    let head : get_or emitted p 0 ≡ x = ap (λ (k : List ℕ). get_or k 0 0) more in
    let tail : drop (p + 1) emitted ≡ xs ++ rest = ap (drop 1) more in
    let here : get_or finished p 0 ≡ x = same p (omega arith) (omega arith) ∙ head in
    let behind = front-stays xs rest emitted finished (p + 1) long tail (λ i from below. same i (omega (arith, from)) (omega (arith, below))) in
    let z : p + 1 + length xs ≡ p + length (x ∷ xs) = omega arith in
    drop_more finished p 0 (omega (arith, l, long)) ∙ (λ j. here j ∷ (behind ∙ ap (λ n. xs ++ drop n finished) z) j)

-- how far a list reaches that is at a place
pub reaches : (xs rest bytes : List ℕ) (p : ℕ) → 0 < length xs → drop p bytes ≡ xs ++ rest → p + length xs ≤ length bytes
reaches xs rest bytes p some e = let d = length-drop p bytes in let a : length (drop p bytes) ≡ length xs + length rest = ap length e ∙ length-append xs rest in omega (arith, d, a, some)

-- ---- words
word-small : (bytes : List ℕ) (q : ℕ) → AreBytes bytes → word_at bytes q < 2 ^ 32
word-small bytes q small = let a = small q in let b = small (q + 1) in let c = small (q + 2) in let d = small (q + 3) in omega (arith, a, b, c, d)

-- ---- fields
number-8 : (n : ℕ) → n < 256 → IsNumber8 (signed 128 n)
number-8 n h = by (nat_lt n 128) refl
  where
    by : (b : Bool) → nat_lt n 128 ≡ b → IsNumber8 (if b then pos n else negsuc (128 + 128 - suc n))
    by true e = let lt : n < 128 = grind (arith, nat_tests) in (omega (arith, ints), omega (arith, ints, lt))
    by false e = let ge : 128 ≤ n = grind (arith, nat_tests) in (omega (arith, ints, ge), omega (arith, ints))

number-32 : (n : ℕ) → n < 2 ^ 32 → IsNumber32 (signed 2147483648 n)
number-32 n h = by (nat_lt n 2147483648) refl
  where
    by : (b : Bool) → nat_lt n 2147483648 ≡ b → IsNumber32 (if b then pos n else negsuc (2147483648 + 2147483648 - suc n))
    by true e = let lt : n < 2147483648 = grind (arith, nat_tests) in (omega (arith, ints), omega (arith, ints, lt))
    by false e = let ge : 2147483648 ≤ n = grind (arith, nat_tests) in (omega (arith, ints, ge), omega (arith, ints))

-- the field of a distance holds the bytes of the number that is in it
pub near-field : (bytes : List ℕ) (q : ℕ) (z : ℤ) → AreBytes bytes → q + 4 ≤ length bytes → signed 2147483648 (word_at bytes q) ≡ z → (drop q bytes ≡ long_bytes z ++ drop (q + 4) bytes) × IsNumber32 z
near-field bytes q z small long e =
    let fits = word-small bytes q small in
    let same : word_at bytes q ≡ bits_of 2147483648 z = sym (bits_of-signed 2147483648 (word_at bytes q) (omega (arith, fits))) ∙ ap (bits_of 2147483648) e in
    (split-word bytes q small long ∙ ap (λ n. to_le_bytes w32 n ++ drop (q + 4) bytes) same, subst IsNumber32 e (number-32 (word_at bytes q) fits))

pub short-field : (bytes : List ℕ) (q : ℕ) (z : ℤ) → AreBytes bytes → q + 1 ≤ length bytes → signed 128 (slice_index bytes q) ≡ z → (drop q bytes ≡ short_bytes z ++ drop (q + 1) bytes) × IsNumber8 z
short-field bytes q z small long e =
    let fits : slice_index bytes q < 256 = small q in
    let same : slice_index bytes q ≡ bits_of 128 z = sym (bits_of-signed 128 (slice_index bytes q) (omega (arith, fits))) ∙ ap (bits_of 128) e in
    (drop_more bytes q 0 (omega (arith, long)) ∙ ap (λ n. n ∷ drop (q + 1) bytes) same, subst IsNumber8 e (number-8 (slice_index bytes q) fits))

-- that of an address holds its bytes
pub address-field : (bytes : List ℕ) (q v : ℕ) → AreBytes bytes → q + 4 ≤ length bytes → word_at bytes q ≡ v → (drop q bytes ≡ to_le_bytes w32 v ++ drop (q + 4) bytes) × (v < 2 ^ 32)
address-field bytes q v small long e =
    let fits = word-small bytes q small in
    (split-word bytes q small long ∙ ap (λ n. to_le_bytes w32 n ++ drop (q + 4) bytes) e, omega (arith, fits, e))

-- ---- a move of 32 bits
pub record IsMove (reg : ℕ) : Type 0 where
  pub front : List ℕ
  pub size : length front ≡ move_size reg
  pub some : 0 < length front
  pub spelled : (v : ℕ) → spelling (Movi32 reg v) ≡ front ++ to_le_bytes w32 v

-- registers from 8 on need a prefix
no-prefix : (reg : ℕ) → nat_lt reg 8 ≡ true → (extension 0 0 reg == 0) ≡ true
no-prefix reg e = let lt : reg < 8 = grind (arith, nat_tests) in let z : extension 0 0 reg ≡ 0 = omega (arith, lt) in ap (λ n. n == 0) z

a-prefix : (reg : ℕ) → reg < 16 → nat_lt reg 8 ≡ false → (extension 0 0 reg == 0) ≡ false
a-prefix reg few e = let ge : 8 ≤ reg = grind (arith, nat_tests) in let z : extension 0 0 reg ≡ 1 = omega (arith, ge, few) in ap (λ n. n == 0) z

abbrev opcode : ℕ → List ℕ
opcode reg = (movi32_row.number + reg % 8) ∷ []

abbrev prefix : Bool → ℕ → List ℕ
prefix b reg = if b then [] else (0x40 + extension 0 0 reg) ∷ []

pub move-is : (reg : ℕ) → reg < 16 → IsMove reg
move-is reg few = by (nat_lt reg 8) refl
  where
    by : (b : Bool) → nat_lt reg 8 ≡ b → IsMove reg
    by true e = record {
      front = opcode reg;
      size = ap (λ (b : Bool). if b then 1 else 2) (sym e);
      some = omega arith;
      spelled = λ v. ap (λ b. (prefix b reg ++ opcode reg) ++ to_le_bytes w32 v) (no-prefix reg e);
    }
    by false e = record {
      front = prefix false reg ++ opcode reg;
      size = ap (λ (b : Bool). if b then 1 else 2) (sym e);
      some = omega arith;
      spelled = λ v. ap (λ b. (prefix b reg ++ opcode reg) ++ to_le_bytes w32 v) (a-prefix reg few e);
    }
