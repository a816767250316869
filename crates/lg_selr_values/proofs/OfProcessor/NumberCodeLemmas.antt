-- Code that loads a number into a register.
use Rattle.std.proofs.Common.{◌≡◌, ◌≢◌, ℕ, zero, suc, ◌+◌, ◌-◌, ◌*◌, ◌/◌, ◌%◌, ◌^◌, ◌<◌, ◌≤◌, Bool, true, false, List, [], ◌∷◌, ◌++◌, refl, ap, ◌∙◌, arith, length, length-append}
use Rattle.std.specs.Prelude.{◌==◌, nat_lt, pos, negsuc, if◌then◌else◌, ◌≤ℤ◌}
use Rattle.std.proofs.lemmas.List.Elements.{All-head, All-tail}
use Rattle.std.specs.List.{All}
use Rattle.std.proofs.lemmas.Bool.{and_parts}
use Rattle.lg_base.specs.Fields.{word_of}
use Rattle.lg_base.specs.Words.{add_words, sign_32, shifted_left, is_half}
use Rattle.lg_rv.specs.Spelling.{IsInstr}
use Rattle.lg_rv.specs.declared.instruction.Instr.{Instr}
use Rattle.lg_rv.specs.declared.instruction.Instr.TheVariants.{Upper, Imm, Shift}
use Rattle.lg_rv.specs.declared.instruction.UpperOp.TheVariants.{Lui}
use Rattle.lg_rv.specs.declared.instruction.ImmOp.TheVariants.{Addi, Addiw}
use Rattle.lg_rv.specs.declared.instruction.ShiftOp.TheVariants.{Slli}
use Rattle.lg_cpu.specs.HostSteps.{put}
use Rattle.lg_selr_values.specs.Processor.RvRows.{is_straight}
use Rattle.lg_selr_values.specs.Processor.Computations.{computed, computes, all_compute}
use Rattle.lg_selr_values.specs.Processor.Numbers.{is_short, high_part, low_part, short_code, half_code, above, low_code, wide_code, long_code, number_code, LoadsNumber, NumbersAreLoaded}
use Rattle.lg_selr_values.proofs.OfProcessor.ComputationLemmas.{put-again, computes-straight, computed-append, all-compute-append}

-- ---- words
pub low-small : (v : ℕ) → (negsuc 2047 ≤ℤ low_part v) × (low_part v ≤ℤ pos 2047)
low-small v = by (nat_lt (v % 4096) 2048) refl
  where
    by : (b : Bool) → nat_lt (v % 4096) 2048 ≡ b → (negsuc 2047 ≤ℤ (if b then pos (v % 4096) else negsuc (4095 - v % 4096))) × ((if b then pos (v % 4096) else negsuc (4095 - v % 4096)) ≤ℤ pos 2047)
    by true h = (grind (arith, h), grind (arith, h))
    by false h = (grind (arith, h), grind (arith, h))

pub short-word : (v : ℕ) → v < 2 ^ 64 → is_short v ≡ true → word_of (low_part v) ≡ v
short-word v small near = by (nat_lt (v % 4096) 2048) refl
  where
    by : (b : Bool) → nat_lt (v % 4096) 2048 ≡ b → word_of (if b then pos (v % 4096) else negsuc (4095 - v % 4096)) ≡ v
    by true h = grind (arith, small, near, h)
    by false h = grind (arith, small, near, h)

short-sum : (v : ℕ) → v < 2 ^ 64 → is_short v ≡ true → add_words 0 (word_of (low_part v)) ≡ v
short-sum v small near = ap (λ z. add_words 0 z) (short-word v small near) ∙ grind (arith, small)

half-made : (v : ℕ) → v < 2 ^ 64 → sign_32 (add_words (sign_32 (high_part v * 4096)) (word_of (low_part v))) ≡ sign_32 v
half-made v small = by (nat_lt (v % 4096) 2048) refl
  where
    by : (b : Bool) → nat_lt (v % 4096) 2048 ≡ b → sign_32 (add_words (sign_32 (high_part v * 4096)) (word_of (if b then pos (v % 4096) else negsuc (4095 - v % 4096)))) ≡ sign_32 v
    by true h = grind (arith, small, h)
    by false h = grind (arith, small, h)

half-same : (v : ℕ) → v < 2 ^ 64 → is_half v ≡ true → sign_32 v ≡ v
half-same v small near = grind (arith, small, near)

high-small : (v : ℕ) → high_part v < 2 ^ 20
high-small v = omega arith

half-whole : (v : ℕ) → v < 2 ^ 64 → is_half v ≡ true → (v % 4096 == 0) ≡ true → sign_32 (high_part v * 4096) ≡ v
half-whole v small near even = grind (arith, small, near, even)

-- ---- what is above the low 12 bits
above-small : (v : ℕ) → above v < 2 ^ 64
above-small v = by (nat_lt (add_words v 2048) (2 ^ 63))
  where
    by : (b : Bool) → (if b then add_words v 2048 / 4096 else add_words v 2048 / 4096 + (2 ^ 64 - 2 ^ 52)) < 2 ^ 64
    by true = omega arith
    by false = omega arith

-- it has 12 bits less
abbrev Spans : ℕ → ℕ → Type 0
Spans zero v = (v + 2 ^ 27) % 2 ^ 64 ≤ 2 ^ 28
Spans (suc zero) v = (v + 2 ^ 39) % 2 ^ 64 ≤ 2 ^ 40
Spans (suc (suc zero)) v = (v + 2 ^ 51) % 2 ^ 64 ≤ 2 ^ 52
Spans n v = Unit {0}

spans-above : (n v : ℕ) → v < 2 ^ 64 → Spans (suc n) v → Spans n (above v)
spans-above zero v small h = by (nat_lt (add_words v 2048) (2 ^ 63)) refl
  where
    by : (b : Bool) → nat_lt (add_words v 2048) (2 ^ 63) ≡ b → ((if b then add_words v 2048 / 4096 else add_words v 2048 / 4096 + (2 ^ 64 - 2 ^ 52)) + 2 ^ 27) % 2 ^ 64 ≤ 2 ^ 28
    by true e = grind (arith, small, h, e)
    by false e = grind (arith, small, h, e)
spans-above (suc zero) v small h = by (nat_lt (add_words v 2048) (2 ^ 63)) refl
  where
    by : (b : Bool) → nat_lt (add_words v 2048) (2 ^ 63) ≡ b → ((if b then add_words v 2048 / 4096 else add_words v 2048 / 4096 + (2 ^ 64 - 2 ^ 52)) + 2 ^ 39) % 2 ^ 64 ≤ 2 ^ 40
    by true e = grind (arith, small, h, e)
    by false e = grind (arith, small, h, e)
spans-above (suc (suc zero)) v small h = by (nat_lt (add_words v 2048) (2 ^ 63)) refl
  where
    by : (b : Bool) → nat_lt (add_words v 2048) (2 ^ 63) ≡ b → ((if b then add_words v 2048 / 4096 else add_words v 2048 / 4096 + (2 ^ 64 - 2 ^ 52)) + 2 ^ 51) % 2 ^ 64 ≤ 2 ^ 52
    by true e = grind (arith, small, e)
    by false e = grind (arith, small, e)
spans-above n v small h = tt

spans-half : (v : ℕ) → v < 2 ^ 64 → Spans zero v → is_half v ≡ true
spans-half v small h = grind (arith, small, h)

-- the low bits after it make the number
whole-made : (v : ℕ) → v < 2 ^ 64 → (v % 4096 == 0) ≡ true → shifted_left (above v) 12 ≡ v
whole-made v small even = by (nat_lt (add_words v 2048) (2 ^ 63))
  where
    none : v % 4096 ≡ 0
    none = grind (arith, even)

    by : (b : Bool) → shifted_left (if b then add_words v 2048 / 4096 else add_words v 2048 / 4096 + (2 ^ 64 - 2 ^ 52)) 12 ≡ v
    by true = omega (arith, small, none)
    by false = omega (arith, small, none)

low-made : (v : ℕ) → v < 2 ^ 64 → add_words (shifted_left (above v) 12) (word_of (low_part v)) ≡ v
low-made v small = by (nat_lt (add_words v 2048) (2 ^ 63)) (nat_lt (v % 4096) 2048) refl
  where
    by : (b c : Bool) → nat_lt (v % 4096) 2048 ≡ c
        → add_words (shifted_left (if b then add_words v 2048 / 4096 else add_words v 2048 / 4096 + (2 ^ 64 - 2 ^ 52)) 12) (word_of (if c then pos (v % 4096) else negsuc (4095 - v % 4096))) ≡ v
    by true true e = grind (arith, small, e)
    by true false e = grind (arith, small, e)
    by false true e = grind (arith, small, e)
    by false false e = grind (arith, small, e)

-- ---- instructions
all-nil : {A : Type 0} (P : A → Type 0) → All P []
all-nil P k d lt = absurd (omega (arith, lt))

pub all-cons : {A : Type 0} (P : A → Type 0) (x : A) (xs : List A) → P x → All P xs → All P (x ∷ xs)
all-cons P x xs h hs zero d lt = h
all-cons P x xs h hs (suc k) d lt = hs k d (omega (arith, lt))

all-straight : (is : List Instr) → all_compute is ≡ true → All (λ i. is_straight i ≡ true) is
all-straight [] h = all-nil (λ i. is_straight i ≡ true)
all-straight (i ∷ is) h = let b = and_parts (computes i) (all_compute is) h in all-cons (λ x. is_straight x ≡ true) i is (computes-straight i b.0) (all-straight is b.1)

shift-fits : (rd n : ℕ) → rd < 32 → n < 64 → IsInstr (Shift Slli rd rd n)
shift-fits rd n h lt = (h, h, lt, λ e. absurd (omega (arith, e)))

all-append : {A : Type 0} (P : A → Type 0) (xs ys : List A) → All P xs → All P ys → All P (xs ++ ys)
all-append P [] ys h k = k
all-append P (x ∷ xs) ys h k = all-cons P x (xs ++ ys) (All-head P x xs h) (all-append P xs ys (All-tail P x xs h) k)

short-fits : (rd v : ℕ) → rd < 32 → All IsInstr (short_code rd v)
short-fits rd v h = let l = low-small v in all-cons IsInstr (Imm Addi rd 0 (low_part v)) [] (h, omega arith, l.0, l.1) (all-nil IsInstr)

half-fits : (rd v : ℕ) → rd < 32 → All IsInstr (half_code rd v)
half-fits rd v h = by (v % 4096 == 0)
  where
    by : (b : Bool) → All IsInstr (if b then Upper Lui rd (high_part v) ∷ [] else Upper Lui rd (high_part v) ∷ Imm Addiw rd rd (low_part v) ∷ [])
    by true = all-cons IsInstr (Upper Lui rd (high_part v)) [] (h, high-small v) (all-nil IsInstr)
    by false =
        let l = low-small v in
        all-cons IsInstr (Upper Lui rd (high_part v)) (Imm Addiw rd rd (low_part v) ∷ []) (h, high-small v) (all-cons IsInstr (Imm Addiw rd rd (low_part v)) [] (h, h, l.0, l.1) (all-nil IsInstr))

low-fits : (rd v : ℕ) → rd < 32 → All IsInstr (low_code rd v)
low-fits rd v h = by (v % 4096 == 0)
  where
    by : (b : Bool) → All IsInstr (if b then Shift Slli rd rd 12 ∷ [] else Shift Slli rd rd 12 ∷ Imm Addi rd rd (low_part v) ∷ [])
    by true = all-cons IsInstr (Shift Slli rd rd 12) [] (shift-fits rd 12 h (omega arith)) (all-nil IsInstr)
    by false =
        let l = low-small v in
        all-cons IsInstr (Shift Slli rd rd 12) (Imm Addi rd rd (low_part v) ∷ []) (shift-fits rd 12 h (omega arith)) (all-cons IsInstr (Imm Addi rd rd (low_part v)) [] (h, h, l.0, l.1) (all-nil IsInstr))

wide-fits : (n rd v : ℕ) → rd < 32 → All IsInstr (wide_code n rd v)
wide-fits zero rd v h = half-fits rd v h
wide-fits (suc n) rd v h = by (is_short v) (is_half v) (wide-fits n rd (above v) h)
  where
    by : (b c : Bool) → All IsInstr (wide_code n rd (above v)) → All IsInstr (if b then short_code rd v else if c then half_code rd v else wide_code n rd (above v) ++ low_code rd v)
    by true c k = short-fits rd v h
    by false true k = half-fits rd v h
    by false false k = all-append IsInstr (wide_code n rd (above v)) (low_code rd v) k (low-fits rd v h)

long-fits : (rd v : ℕ) → rd < 32 → All IsInstr (long_code rd v)
unfolding long_code
long-fits rd v h = all-append IsInstr (wide_code 2 rd (above v)) (low_code rd v) (wide-fits 2 rd (above v) h) (low-fits rd v h)

pub number-fits : (rd v : ℕ) → rd < 32 → All IsInstr (number_code rd v)
number-fits rd v h = by (is_short v) (is_half v)
  where
    by : (b c : Bool) → All IsInstr (if b then short_code rd v else if c then half_code rd v else long_code rd v)
    by true c = short-fits rd v h
    by false true = half-fits rd v h
    by false false = long-fits rd v h

-- ---- how many instructions
half-few : (rd v : ℕ) → length (half_code rd v) ≤ 2
half-few rd v = by (v % 4096 == 0)
  where
    by : (b : Bool) → length (if b then Upper Lui rd (high_part v) ∷ [] else Upper Lui rd (high_part v) ∷ Imm Addiw rd rd (low_part v) ∷ []) ≤ 2
    by true = omega arith
    by false = omega arith

low-few : (rd v : ℕ) → length (low_code rd v) ≤ 2
low-few rd v = by (v % 4096 == 0)
  where
    by : (b : Bool) → length (if b then Shift Slli rd rd 12 ∷ [] else Shift Slli rd rd 12 ∷ Imm Addi rd rd (low_part v) ∷ []) ≤ 2
    by true = omega arith
    by false = omega arith

wide-few : (n rd v : ℕ) → length (wide_code n rd v) ≤ 2 + 2 * n
wide-few zero rd v = half-few rd v
wide-few (suc n) rd v = by (is_short v) (is_half v) (wide-few n rd (above v))
  where
    by : (b c : Bool) → length (wide_code n rd (above v)) ≤ 2 + 2 * n → length (if b then short_code rd v else if c then half_code rd v else wide_code n rd (above v) ++ low_code rd v) ≤ 2 + 2 * suc n
    by true c h = omega arith
    by false true h = let f = half-few rd v in omega (arith, f)
    by false false h = let l = length-append (wide_code n rd (above v)) (low_code rd v) in let k = low-few rd v in omega (arith, l, h, k)

pub long_few : (rd v : ℕ) → length (long_code rd v) ≤ 8
unfolding long_code
long_few rd v = let l = length-append (wide_code 2 rd (above v)) (low_code rd v) in let h = wide-few 2 rd (above v) in let k = low-few rd v in omega (arith, l, h, k)

-- any number
pub number_few : (rd v : ℕ) → length (number_code rd v) ≤ 8
number_few rd v = by (is_short v) (is_half v)
  where
    by : (b c : Bool) → length (if b then short_code rd v else if c then half_code rd v else long_code rd v) ≤ 8
    by true c = omega arith
    by false true = let h = half-few rd v in omega (arith, h)
    by false false = long_few rd v

short-one : (rd v : ℕ) → is_short v ≡ true → length (number_code rd v) ≤ 1
short-one rd v near = by (is_short v) near
  where
    by : (b : Bool) → b ≡ true → length (if b then short_code rd v else if is_half v then half_code rd v else long_code rd v) ≤ 1
    by true e = omega arith
    by false e = cc

half-two : (rd v : ℕ) → is_half v ≡ true → length (number_code rd v) ≤ 2
half-two rd v near = by (is_short v) (is_half v) near
  where
    by : (b c : Bool) → c ≡ true → length (if b then short_code rd v else if c then half_code rd v else long_code rd v) ≤ 2
    by true c e = omega arith
    by false true e = half-few rd v
    by false false e = cc

above-half : (v : ℕ) → v < 2 ^ 32 → is_half (above v) ≡ true
above-half v small = by (nat_lt (add_words v 2048) (2 ^ 63)) refl
  where
    by : (b : Bool) → nat_lt (add_words v 2048) (2 ^ 63) ≡ b → is_half (if b then add_words v 2048 / 4096 else add_words v 2048 / 4096 + (2 ^ 64 - 2 ^ 52)) ≡ true
    by true e = grind (arith, small)
    by false e = absurd (grind (arith, small, e))

wide-two : (n rd v : ℕ) → is_half v ≡ true → length (wide_code (suc n) rd v) ≤ 2
wide-two n rd v near = by (is_short v) (is_half v) near
  where
    by : (b c : Bool) → c ≡ true → length (if b then short_code rd v else if c then half_code rd v else wide_code n rd (above v) ++ low_code rd v) ≤ 2
    by true c e = omega arith
    by false true e = half-few rd v
    by false false e = cc

long-four : (rd v : ℕ) → v < 2 ^ 32 → length (long_code rd v) ≤ 4
unfolding long_code
long-four rd v small =
    let l = length-append (wide_code 2 rd (above v)) (low_code rd v) in let h = wide-two 1 rd (above v) (above-half v small) in let k = low-few rd v in omega (arith, l, h, k)

unsigned-four : (rd v : ℕ) → v < 2 ^ 32 → length (number_code rd v) ≤ 4
unsigned-four rd v small = by (is_short v) (is_half v)
  where
    by : (b c : Bool) → length (if b then short_code rd v else if c then half_code rd v else long_code rd v) ≤ 4
    by true c = omega arith
    by false true = let h = half-few rd v in omega (arith, h)
    by false false = long-four rd v small

-- ---- code
-- what is said of code that loads a number
record Loads (rd v : ℕ) (is : List Instr) : Type 0 where
  computes : all_compute is ≡ true
  whole : (w : ℕ → ℕ) → computed is w ≡ put w rd v
  any : 0 < length is

some-append : (xs ys : List Instr) → 0 < length xs → 0 < length (xs ++ ys)
some-append xs ys h = let l = length-append xs ys in omega (arith, l, h)

module _ (rd : ℕ) (some : rd ≢ 0) where
  short-loads : (v : ℕ) → v < 2 ^ 64 → is_short v ≡ true → Loads rd v (short_code rd v)
  short-loads v small near = record { computes = refl; whole = λ w. ap (put w rd) (short-sum v small near); any = omega arith }

  half-loads : (v : ℕ) → v < 2 ^ 64 → is_half v ≡ true → Loads rd v (half_code rd v)
  half-loads v small near = by (v % 4096 == 0) refl
    where
      by : (b : Bool) → (v % 4096 == 0) ≡ b → Loads rd v (if b then Upper Lui rd (high_part v) ∷ [] else Upper Lui rd (high_part v) ∷ Imm Addiw rd rd (low_part v) ∷ [])
      by true e = record { computes = refl; whole = λ w. ap (put w rd) (half-whole v small near e); any = omega arith }
      by false e = record {
        computes = refl;
        whole = λ w. put-again w rd (sign_32 (high_part v * 4096)) (λ z. sign_32 (add_words z (word_of (low_part v)))) some ∙ ap (put w rd) (half-made v small ∙ half-same v small near);
        any = omega arith;
      }

  -- the low bits after what is above them
  low-loads : (v : ℕ) → v < 2 ^ 64 → (all_compute (low_code rd v) ≡ true) × ((w : ℕ → ℕ) → computed (low_code rd v) (put w rd (above v)) ≡ put w rd v)
  low-loads v small = by (v % 4096 == 0) refl
    where
      by : (b : Bool) → (v % 4096 == 0) ≡ b → (all_compute (if b then Shift Slli rd rd 12 ∷ [] else Shift Slli rd rd 12 ∷ Imm Addi rd rd (low_part v) ∷ []) ≡ true)
          × ((w : ℕ → ℕ) → computed (if b then Shift Slli rd rd 12 ∷ [] else Shift Slli rd rd 12 ∷ Imm Addi rd rd (low_part v) ∷ []) (put w rd (above v)) ≡ put w rd v)
      by true e = (refl, λ w. put-again w rd (above v) (λ z. shifted_left z 12) some ∙ ap (put w rd) (whole-made v small e))
      by false e = (
        refl,
        λ w. ap (computed (Imm Addi rd rd (low_part v) ∷ [])) (put-again w rd (above v) (λ z. shifted_left z 12) some)
            ∙ put-again w rd (shifted_left (above v) 12) (λ z. add_words z (word_of (low_part v))) some ∙ ap (put w rd) (low-made v small),
      )

  after-loads : (v : ℕ) (xs : List Instr) → v < 2 ^ 64 → Loads rd (above v) xs → Loads rd v (xs ++ low_code rd v)
  after-loads v xs small l =
      let low = low-loads v small in
      record {
        computes = all-compute-append xs (low_code rd v) l.computes low.0;
        whole = λ w. computed-append xs (low_code rd v) w ∙ ap (computed (low_code rd v)) (l.whole w) ∙ low.1 w;
        any = some-append xs (low_code rd v) l.any;
      }

  wide-loads : (n v : ℕ) → v < 2 ^ 64 → Spans n v → Loads rd v (wide_code n rd v)
  wide-loads zero v small h = half-loads v small (spans-half v small h)
  wide-loads (suc n) v small h = by (is_short v) refl (is_half v) refl (wide-loads n (above v) (above-small v) (spans-above n v small h))
    where
      by : (b : Bool) → is_short v ≡ b → (c : Bool) → is_half v ≡ c → Loads rd (above v) (wide_code n rd (above v))
          → Loads rd v (if b then short_code rd v else if c then half_code rd v else wide_code n rd (above v) ++ low_code rd v)
      by true near c e l = short-loads v small near
      by false far true near l = half-loads v small near
      by false far false e l = after-loads v (wide_code n rd (above v)) small l

  long-loads : (v : ℕ) → v < 2 ^ 64 → Loads rd v (long_code rd v)
  unfolding long_code
  long-loads v small = after-loads v (wide_code 2 rd (above v)) small (wide-loads 2 (above v) (above-small v) (spans-above 2 v small tt))

module _ (rd v : ℕ) (some : rd ≢ 0) (within : rd < 32) (small : v < 2 ^ 64) where
  loads : Loads rd v (number_code rd v)
  loads = by (is_short v) refl (is_half v) refl
    where
      by : (b : Bool) → is_short v ≡ b → (c : Bool) → is_half v ≡ c → Loads rd v (if b then short_code rd v else if c then half_code rd v else long_code rd v)
      by true near c e = short-loads rd some v small near
      by false far true near = half-loads rd some v small near
      by false far false e = long-loads rd some v small

  pub loaded-number : LoadsNumber rd v
  loaded-number = record {
    computes = loads.computes;
    value = λ w r. ap (λ u. u r) (loads.whole w);
    some = loads.any;
    few = number_few rd v;
    one = short-one rd v;
    two = half-two rd v;
    four = unsigned-four rd v;
    fits = number-fits rd v within;
    straight = all-straight (number_code rd v) loads.computes;
  }

  pub number-computed : (w : ℕ → ℕ) → computed (number_code rd v) w ≡ put w rd v
  number-computed w = loads.whole w

pub numbers-are-loaded : NumbersAreLoaded
numbers-are-loaded rd v some within small = loaded-number rd v some within small
