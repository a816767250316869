-- Code that loads a number into a register.
use Rattle.std.proofs.Common.{◌≡◌, ℕ, zero, suc, ◌*◌, ◌/◌, ◌%◌, ◌^◌, ◌<◌, ◌≤◌, Bool, true, false, List, [], ◌∷◌, ◌++◌, refl, ap, ◌∙◌, arith, length, length-append}
use Rattle.std.specs.Prelude.{◌==◌, ◌||◌, not, nat_lt, if◌then◌else◌}
use Rattle.std.specs.List.{All}
use Rattle.lg_base.specs.Words.{complement}
use Rattle.lg_a64.specs.Spelling.{IsInstr}
use Rattle.lg_a64.specs.declared.instruction.Instr.{Instr}
use Rattle.lg_a64.specs.declared.instruction.Instr.TheVariants.{Wide}
use Rattle.lg_a64.specs.declared.instruction.WideOp.TheVariants.{Movz, Movn, Movk}
use Rattle.lg_cpu.specs.HostSteps.{put}
use Rattle.lg_cpu.specs.A64Operators.{replaced, quarter}
use Rattle.lg_cpu.specs.A64Step.{read, write}
use Rattle.lg_carry.specs.Values.Computers.{Held}
use Rattle.lg_carry.proofs.OfValues.ComputationLemmas.{computed-append}
use Rattle.lg_sela_values.specs.Processor.Computations.{holding, all_compute, computed, computed_by}
use Rattle.lg_sela_values.specs.Processor.Numbers.{quarter_code, first_code, second_code, third_code, fourth_code, is_low, upper_code, positive_code, negative_code, number_code, LoadsNumber, NumbersAreLoaded}
use Rattle.lg_sela_values.proofs.OfProcessor.HeldLemmas.{read-is, write-is, put-same, put-twice}

all-nil : {A : Type 0} (P : A → Type 0) → All P []
all-nil P k d lt = absurd (omega (arith, lt))

pub all-cons : {A : Type 0} (P : A → Type 0) (x : A) (xs : List A) → P x → All P xs → All P (x ∷ xs)
all-cons P x xs h hs zero d lt = h
all-cons P x xs h hs (suc k) d lt = hs k d (omega (arith, lt))

all-append : {A : Type 0} (P : A → Type 0) (xs ys : List A) → All P xs → All P ys → All P (xs ++ ys)
all-append P [] ys h k = k
all-append P (x ∷ xs) ys h k = all-cons P x (xs ++ ys) (h 0 x (omega arith)) (all-append P xs ys (λ j d lt. h (suc j) d (omega (arith, lt))) k)

-- ---- words
second-quarter : (v : ℕ) → replaced (v % 2 ^ 16) (2 ^ 16) (v / 2 ^ 16 % 2 ^ 16) ≡ v % 2 ^ 32
second-quarter v = omega arith

third-quarter : (v : ℕ) → replaced (v % 2 ^ 32) (2 ^ 32) (v / 2 ^ 32 % 2 ^ 16) ≡ v % 2 ^ 48
third-quarter v = omega arith

last-quarter : (v : ℕ) → v < 2 ^ 64 → replaced (v % 2 ^ 48) (2 ^ 48) (v / 2 ^ 48 % 2 ^ 16) ≡ v
last-quarter v small = omega (arith, small)

second-none : (v : ℕ) → v / 2 ^ 16 % 2 ^ 16 ≡ 0 → v % 2 ^ 16 ≡ v % 2 ^ 32
second-none v e = omega (arith, e)

third-none : (v : ℕ) → v / 2 ^ 32 % 2 ^ 16 ≡ 0 → v % 2 ^ 32 ≡ v % 2 ^ 48
third-none v e = omega (arith, e)

last-none : (v : ℕ) → v < 2 ^ 64 → v / 2 ^ 48 % 2 ^ 16 ≡ 0 → v % 2 ^ 48 ≡ v
last-none v small e = omega (arith, small, e)

-- the quarters below are 0
second-alone : (v : ℕ) → v % 2 ^ 16 ≡ 0 → v / 2 ^ 16 % 2 ^ 16 * 2 ^ 16 ≡ v % 2 ^ 32
second-alone v e = omega (arith, e)

third-alone : (v : ℕ) → v % 2 ^ 32 ≡ 0 → v / 2 ^ 32 % 2 ^ 16 * 2 ^ 32 ≡ v % 2 ^ 48
third-alone v e = omega (arith, e)

fourth-alone : (v : ℕ) → v < 2 ^ 64 → v % 2 ^ 48 ≡ 0 → v / 2 ^ 48 % 2 ^ 16 * 2 ^ 48 ≡ v
fourth-alone v small e = omega (arith, small, e)

not-low : (v : ℕ) → is_low v ≡ false → v % 2 ^ 16 ≡ 0
not-low v h = by (nat_lt v (2 ^ 16)) (v % 2 ^ 16 == 0) refl h
  where
    by : (a b : Bool) → (v % 2 ^ 16 == 0) ≡ b → (a || not b) ≡ false → v % 2 ^ 16 ≡ 0
    by true b e h = cc
    by false true e h = grind (arith, e)
    by false false e h = cc

negative-done : (v : ℕ) → v < 2 ^ 64 → complement v < 2 ^ 32 → v / 2 ^ 16 % 2 ^ 16 ≡ 65535 → complement (complement v % 2 ^ 16 * 1) ≡ v
negative-done v small near e = omega (arith, small, near, e)

negative-more : (v : ℕ) → v < 2 ^ 64 → complement v < 2 ^ 32 → replaced (complement (complement v % 2 ^ 16 * 1)) (2 ^ 16) (v / 2 ^ 16 % 2 ^ 16) ≡ v
negative-more v small near = omega (arith, small, near)

-- ---- code
module _ (rd : ℕ) (within : rd < 31) where
  pub first : (w : Held) (x : ℕ) → holding (write w.registers rd x) w.flags ≡ holding (put w.registers rd x) w.flags
  first w x = ap (λ r. holding r w.flags) (write-is w.registers rd x within)

  pub more : (w : Held) (x part hw : ℕ) → computed (Wide Movk rd part hw ∷ []) (holding (put w.registers rd x) w.flags) ≡ holding (put w.registers rd (replaced x (quarter hw) part)) w.flags
  more w x part hw =
      ap (λ r. holding r w.flags) (write-is (put w.registers rd x) rd (replaced (read (put w.registers rd x) rd) (quarter hw) part) within
      ∙ ap (λ z. put (put w.registers rd x) rd (replaced z (quarter hw) part)) (read-is (put w.registers rd x) rd within ∙ put-same w.registers rd x)
      ∙ put-twice w.registers rd x (replaced x (quarter hw) part))

  -- a quarter that is 0 is left out
  put-quarter : (w : Held) (x y part hw : ℕ) → (part ≡ 0 → x ≡ y) → replaced x (quarter hw) part ≡ y → computed (quarter_code rd part hw) (holding (put w.registers rd x) w.flags) ≡ holding (put w.registers rd y) w.flags
  put-quarter w x y part hw none some = by (part == 0) refl
    where
      by : (b : Bool) → (part == 0) ≡ b → computed (if b then [] else Wide Movk rd part hw ∷ []) (holding (put w.registers rd x) w.flags) ≡ holding (put w.registers rd y) w.flags
      by true e = ap (λ z. holding (put w.registers rd z) w.flags) (none (grind (arith, e)))
      by false e = more w x part hw ∙ ap (λ z. holding (put w.registers rd z) w.flags) some

  module _ (v : ℕ) (small : v < 2 ^ 64) where
    abbrev p1 : List Instr
    p1 = quarter_code rd (v / 2 ^ 16 % 2 ^ 16) 1

    abbrev p2 : List Instr
    p2 = quarter_code rd (v / 2 ^ 32 % 2 ^ 16) 2

    abbrev p3 : List Instr
    p3 = quarter_code rd (v / 2 ^ 48 % 2 ^ 16) 3

    one : (w : Held) → holding (write w.registers rd (v % 2 ^ 16 * 1)) w.flags ≡ holding (put w.registers rd (v % 2 ^ 16)) w.flags
    one w = first w (v % 2 ^ 16 * 1) ∙ ap (λ z. holding (put w.registers rd z) w.flags) (let z : v % 2 ^ 16 * 1 ≡ v % 2 ^ 16 = omega arith in z)

    from-first : (w : Held) → computed (first_code rd v) w ≡ holding (put w.registers rd v) w.flags
    from-first w =
        ap (computed (p1 ++ (p2 ++ p3))) (one w)
        ∙ computed-append computed_by p1 (p2 ++ p3) (holding (put w.registers rd (v % 2 ^ 16)) w.flags)
        ∙ ap (computed (p2 ++ p3)) (put-quarter w (v % 2 ^ 16) (v % 2 ^ 32) (v / 2 ^ 16 % 2 ^ 16) 1 (second-none v) (second-quarter v))
        ∙ computed-append computed_by p2 p3 (holding (put w.registers rd (v % 2 ^ 32)) w.flags)
        ∙ ap (computed p3) (put-quarter w (v % 2 ^ 32) (v % 2 ^ 48) (v / 2 ^ 32 % 2 ^ 16) 2 (third-none v) (third-quarter v))
        ∙ put-quarter w (v % 2 ^ 48) v (v / 2 ^ 48 % 2 ^ 16) 3 (last-none v small) (last-quarter v small)

    from-second : v % 2 ^ 16 ≡ 0 → (w : Held) → computed (second_code rd v) w ≡ holding (put w.registers rd v) w.flags
    from-second none w =
        ap (computed (p2 ++ p3)) (first w (v / 2 ^ 16 % 2 ^ 16 * 2 ^ 16) ∙ ap (λ z. holding (put w.registers rd z) w.flags) (second-alone v none))
        ∙ computed-append computed_by p2 p3 (holding (put w.registers rd (v % 2 ^ 32)) w.flags)
        ∙ ap (computed p3) (put-quarter w (v % 2 ^ 32) (v % 2 ^ 48) (v / 2 ^ 32 % 2 ^ 16) 2 (third-none v) (third-quarter v))
        ∙ put-quarter w (v % 2 ^ 48) v (v / 2 ^ 48 % 2 ^ 16) 3 (last-none v small) (last-quarter v small)

    from-third : v % 2 ^ 32 ≡ 0 → (w : Held) → computed (third_code rd v) w ≡ holding (put w.registers rd v) w.flags
    from-third none w =
        ap (computed p3) (first w (v / 2 ^ 32 % 2 ^ 16 * 2 ^ 32) ∙ ap (λ z. holding (put w.registers rd z) w.flags) (third-alone v none))
        ∙ put-quarter w (v % 2 ^ 48) v (v / 2 ^ 48 % 2 ^ 16) 3 (last-none v small) (last-quarter v small)

    from-fourth : v % 2 ^ 48 ≡ 0 → (w : Held) → computed (fourth_code rd v) w ≡ holding (put w.registers rd v) w.flags
    from-fourth none w = first w (v / 2 ^ 48 % 2 ^ 16 * 2 ^ 48) ∙ ap (λ z. holding (put w.registers rd z) w.flags) (fourth-alone v small none)

    negative : complement v < 2 ^ 32 → (w : Held) → computed (negative_code rd v) w ≡ holding (put w.registers rd v) w.flags
    negative near w = by (v / 2 ^ 16 % 2 ^ 16 == 65535) refl
      where
        by : (b : Bool) → (v / 2 ^ 16 % 2 ^ 16 == 65535) ≡ b → computed (Wide Movn rd (complement v % 2 ^ 16) 0 ∷ (if b then [] else Wide Movk rd (v / 2 ^ 16 % 2 ^ 16) 1 ∷ [])) w ≡ holding (put w.registers rd v) w.flags
        by true e = first w (complement (complement v % 2 ^ 16 * 1)) ∙ ap (λ z. holding (put w.registers rd z) w.flags) (negative-done v small near (grind (arith, e)))
        by false e =
            ap (computed (Wide Movk rd (v / 2 ^ 16 % 2 ^ 16) 1 ∷ [])) (first w (complement (complement v % 2 ^ 16 * 1)))
            ∙ more w (complement (complement v % 2 ^ 16 * 1)) (v / 2 ^ 16 % 2 ^ 16) 1
            ∙ ap (λ z. holding (put w.registers rd z) w.flags) (negative-more v small near)

    -- what is said of the code of either form
    record IsLoad (is : List Instr) : Type 0 where
      computes : all_compute is ≡ true
      whole : (w : Held) → computed is w ≡ holding (put w.registers rd v) w.flags
      some : 0 < length is
      few : length is ≤ 4
      fits : All IsInstr is

    quarter-computes : (part hw : ℕ) (is : List Instr) → all_compute is ≡ true → all_compute (quarter_code rd part hw ++ is) ≡ true
    quarter-computes part hw is h = by (part == 0)
      where
        by : (b : Bool) → all_compute ((if b then [] else Wide Movk rd part hw ∷ []) ++ is) ≡ true
        by true = h
        by false = h

    quarter-few : (part hw : ℕ) → length (quarter_code rd part hw) ≤ 1
    quarter-few part hw = by (part == 0)
      where
        by : (b : Bool) → length (if b then [] else Wide Movk rd part hw ∷ []) ≤ 1
        by true = omega arith
        by false = omega arith

    quarter-fits : (part hw : ℕ) → part < 2 ^ 16 → hw < 4 → All IsInstr (quarter_code rd part hw)
    quarter-fits part hw lt few = by (part == 0)
      where
        by : (b : Bool) → All IsInstr (if b then [] else Wide Movk rd part hw ∷ [])
        by true = all-nil IsInstr
        by false = all-cons IsInstr (Wide Movk rd part hw) [] (omega (arith, within), lt, few) (all-nil IsInstr)

    few-four : (a b c : List Instr) → length a ≤ 1 → length b ≤ 1 → length c ≤ 1 → length (a ++ (b ++ c)) ≤ 3
    few-four a b c x y z = let l = length-append a (b ++ c) in let k = length-append b c in omega (arith, l, k, x, y, z)

    last-computes : (b : Bool) → all_compute (if b then [] else Wide Movk rd (v / 2 ^ 48 % 2 ^ 16) 3 ∷ []) ≡ true
    last-computes true = refl
    last-computes false = refl

    fits-2 : All IsInstr p2
    fits-2 = quarter-fits (v / 2 ^ 32 % 2 ^ 16) 2 (omega arith) (omega arith)

    fits-3 : All IsInstr p3
    fits-3 = quarter-fits (v / 2 ^ 48 % 2 ^ 16) 3 (omega arith) (omega arith)

    second-load : v % 2 ^ 16 ≡ 0 → IsLoad (second_code rd v)
    second-load none = record {
      computes = quarter-computes (v / 2 ^ 32 % 2 ^ 16) 2 p3 (last-computes (v / 2 ^ 48 % 2 ^ 16 == 0));
      whole = from-second none;
      some = omega arith;
      few = let l = length-append p2 p3 in
          let a = quarter-few (v / 2 ^ 32 % 2 ^ 16) 2 in
          let b = quarter-few (v / 2 ^ 48 % 2 ^ 16) 3 in omega (arith, l, a, b);
      fits = all-cons IsInstr (Wide Movz rd (v / 2 ^ 16 % 2 ^ 16) 1) (p2 ++ p3) (omega (arith, within), omega arith, omega arith)
          (all-append IsInstr p2 p3 fits-2 fits-3);
    }

    third-load : v % 2 ^ 32 ≡ 0 → IsLoad (third_code rd v)
    third-load none = record {
      computes = last-computes (v / 2 ^ 48 % 2 ^ 16 == 0);
      whole = from-third none;
      some = omega arith;
      few = let b = quarter-few (v / 2 ^ 48 % 2 ^ 16) 3 in omega (arith, b);
      fits = all-cons IsInstr (Wide Movz rd (v / 2 ^ 32 % 2 ^ 16) 2) p3 (omega (arith, within), omega arith, omega arith) fits-3;
    }

    fourth-load : v % 2 ^ 48 ≡ 0 → IsLoad (fourth_code rd v)
    fourth-load none = record {
      computes = refl;
      whole = from-fourth none;
      some = omega arith;
      few = omega arith;
      fits = all-cons IsInstr (Wide Movz rd (v / 2 ^ 48 % 2 ^ 16) 3) [] (omega (arith, within), omega arith, omega arith) (all-nil IsInstr);
    }

    upper-load : v % 2 ^ 16 ≡ 0 → IsLoad (upper_code rd v)
    upper-load none = by (v % 2 ^ 32 == 0) (v % 2 ^ 48 == 0) refl refl
      where
        by : (a b : Bool) → (v % 2 ^ 32 == 0) ≡ a → (v % 2 ^ 48 == 0) ≡ b
            → IsLoad (if a then (if b then fourth_code rd v else third_code rd v) else second_code rd v)
        by true true e f = fourth-load (grind (arith, f))
        by true false e f = third-load (grind (arith, e))
        by false b e f = second-load none

    first-load : IsLoad (first_code rd v)
    first-load = record {
      computes = quarter-computes (v / 2 ^ 16 % 2 ^ 16) 1 (p2 ++ p3) (quarter-computes (v / 2 ^ 32 % 2 ^ 16) 2 p3 (last-computes (v / 2 ^ 48 % 2 ^ 16 == 0)));
      whole = from-first;
      some = omega arith;
      few = let m = few-four p1 p2 p3 (quarter-few (v / 2 ^ 16 % 2 ^ 16) 1) (quarter-few (v / 2 ^ 32 % 2 ^ 16) 2) (quarter-few (v / 2 ^ 48 % 2 ^ 16) 3) in omega (arith, m);
      fits = all-cons IsInstr (Wide Movz rd (v % 2 ^ 16) 0) (p1 ++ (p2 ++ p3)) (omega (arith, within), omega arith, omega arith)
          (all-append IsInstr p1 (p2 ++ p3) (quarter-fits (v / 2 ^ 16 % 2 ^ 16) 1 (omega arith) (omega arith)) (all-append IsInstr p2 p3 fits-2 fits-3));
    }

    positive-load : IsLoad (positive_code rd v)
    positive-load = by (is_low v) refl
      where
        by : (b : Bool) → is_low v ≡ b → IsLoad (if b then first_code rd v else upper_code rd v)
        by true e = first-load
        by false e = upper-load (not-low v e)

    negative-load : complement v < 2 ^ 32 → IsLoad (negative_code rd v)
    negative-load near = by (v / 2 ^ 16 % 2 ^ 16 == 65535) refl
      where
        by : (b : Bool) → (v / 2 ^ 16 % 2 ^ 16 == 65535) ≡ b → IsLoad (Wide Movn rd (complement v % 2 ^ 16) 0 ∷ (if b then [] else Wide Movk rd (v / 2 ^ 16 % 2 ^ 16) 1 ∷ []))
        by true e = record {
          computes = refl;
          whole = λ w. first w (complement (complement v % 2 ^ 16 * 1)) ∙ ap (λ z. holding (put w.registers rd z) w.flags) (negative-done v small near (grind (arith, e)));
          some = omega arith;
          few = omega arith;
          fits = all-cons IsInstr (Wide Movn rd (complement v % 2 ^ 16) 0) [] (omega (arith, within), omega arith, omega arith) (all-nil IsInstr);
        }
        by false e = record {
          computes = refl;
          whole = λ w.
              ap (computed (Wide Movk rd (v / 2 ^ 16 % 2 ^ 16) 1 ∷ [])) (first w (complement (complement v % 2 ^ 16 * 1)))
              ∙ more w (complement (complement v % 2 ^ 16 * 1)) (v / 2 ^ 16 % 2 ^ 16) 1
              ∙ ap (λ z. holding (put w.registers rd z) w.flags) (negative-more v small near);
          some = omega arith;
          few = omega arith;
          fits = all-cons IsInstr (Wide Movn rd (complement v % 2 ^ 16) 0) (Wide Movk rd (v / 2 ^ 16 % 2 ^ 16) 1 ∷ []) (omega (arith, within), omega arith, omega arith)
              (all-cons IsInstr (Wide Movk rd (v / 2 ^ 16 % 2 ^ 16) 1) [] (omega (arith, within), omega arith, omega arith) (all-nil IsInstr));
        }

    loads : IsLoad (number_code rd v)
    loads = by (nat_lt (complement v) (2 ^ 32)) refl
      where
        by : (b : Bool) → nat_lt (complement v) (2 ^ 32) ≡ b → IsLoad (if b then negative_code rd v else positive_code rd v)
        by true e = negative-load (grind (arith, e))
        by false e = positive-load

    pub loaded-number : LoadsNumber rd v
    loaded-number = record { computes = loads.computes; value = loads.whole; some = loads.some; few = loads.few; fits = loads.fits }

pub numbers-are-loaded : NumbersAreLoaded
numbers-are-loaded rd v within small = loaded-number rd within v small

-- for any number
pub number-few : (rd v : ℕ) → length (number_code rd v) ≤ 4
number-few rd v = by (nat_lt (complement v) (2 ^ 32)) (v / 2 ^ 16 % 2 ^ 16 == 65535)
  where
    quarter-short : (part hw : ℕ) → length (quarter_code rd part hw) ≤ 1
    quarter-short part hw = one (part == 0)
      where
        one : (b : Bool) → length (if b then [] else Wide Movk rd part hw ∷ []) ≤ 1
        one true = omega arith
        one false = omega arith

    three : (a b c : List Instr) → length a ≤ 1 → length b ≤ 1 → length c ≤ 1 → length (a ++ (b ++ c)) ≤ 3
    three a b c x y z = let l = length-append a (b ++ c) in let k = length-append b c in omega (arith, l, k, x, y, z)

    q1 : length (quarter_code rd (v / 2 ^ 16 % 2 ^ 16) 1) ≤ 1
    q1 = quarter-short (v / 2 ^ 16 % 2 ^ 16) 1

    q2 : length (quarter_code rd (v / 2 ^ 32 % 2 ^ 16) 2) ≤ 1
    q2 = quarter-short (v / 2 ^ 32 % 2 ^ 16) 2

    q3 : length (quarter_code rd (v / 2 ^ 48 % 2 ^ 16) 3) ≤ 1
    q3 = quarter-short (v / 2 ^ 48 % 2 ^ 16) 3

    positive : (a b c : Bool) → length (if a then first_code rd v else if b then (if c then fourth_code rd v else third_code rd v) else second_code rd v) ≤ 4
    positive true b c =
        let m = three (quarter_code rd (v / 2 ^ 16 % 2 ^ 16) 1) (quarter_code rd (v / 2 ^ 32 % 2 ^ 16) 2) (quarter_code rd (v / 2 ^ 48 % 2 ^ 16) 3) q1 q2 q3 in
        omega (arith, m)
    positive false true true = omega arith
    positive false true false = omega (arith, q3)
    positive false false c =
        let l = length-append (quarter_code rd (v / 2 ^ 32 % 2 ^ 16) 2) (quarter_code rd (v / 2 ^ 48 % 2 ^ 16) 3) in omega (arith, l, q2, q3)

    by : (a b : Bool) → length (if a then Wide Movn rd (complement v % 2 ^ 16) 0 ∷ (if b then [] else Wide Movk rd (v / 2 ^ 16 % 2 ^ 16) 1 ∷ []) else positive_code rd v) ≤ 4
    by true true = omega arith
    by true false = omega arith
    by false b = positive (is_low v) (v % 2 ^ 32 == 0) (v % 2 ^ 48 == 0)
