-- The code of the operations that set the carry computes their words and the carry.
use Rattle.std.proofs.Common.{◌≡◌, ◌≢◌, ℕ, ◌+◌, ◌-◌, ◌%◌, ◌^◌, ◌<◌, Bool, true, false, [], ◌∷◌, refl, sym, ap, ◌∙◌, arith}
use Rattle.std.specs.Prelude.{◌||◌, bit_or, if◌then◌else◌}
use Rattle.lg_base.specs.Words.{add_words, sub_words, is_less, word_of_test, carry_out, borrow_out}
use Rattle.lg_op.specs.declared.op.BinaryOp.{BinaryOp}
use Rattle.lg_op.specs.declared.op.BinaryOp.TheVariants as binary
use Rattle.lg_op.specs.Operators.{is_sum, value_with_carry}
use Rattle.lg_rv.specs.declared.instruction.Instr.TheVariants.{Reg}
use Rattle.lg_rv.specs.declared.instruction.RegOp.TheVariants as row
use Rattle.lg_cpu.specs.HostSteps.{put}
use Rattle.lg_cpu.specs.RvStep.{read}
use Rattle.lg_selr_values.specs.Processor.Computations.{all_compute, computed}
use Rattle.lg_selr_values.proofs.OfProcessor.ComputationLemmas.{read-put, read-other, put-same, put-other}
use Rattle.lg_selr_values.specs.CarryCode.{carry_code}

-- ---- words
sum-carry : (a b : ℕ) → a < 2 ^ 64 → b < 2 ^ 64 → word_of_test (is_less (add_words a b) b) ≡ word_of_test (carry_out a b 0)
sum-carry a b h k = grind (arith, h, k)

sum-value : (a b : ℕ) → add_words a b ≡ (a + b + 0) % 2 ^ 64
sum-value a b = omega arith

difference-carry : (a b : ℕ) → word_of_test (is_less a b) ≡ word_of_test (borrow_out a b 0)
difference-carry a b = grind arith

difference-value : (a b : ℕ) → a < 2 ^ 64 → b < 2 ^ 64 → sub_words a b ≡ (a + (2 ^ 65 - (b + 0))) % 2 ^ 64
difference-value a b h k = omega (arith, h, k)

add-twice : (a b c : ℕ) → add_words (add_words a b) c ≡ (a + b + c) % 2 ^ 64
add-twice a b c = omega arith

sub-twice : (a b c : ℕ) → a < 2 ^ 64 → b < 2 ^ 64 → c < 2 → sub_words (sub_words a b) c ≡ (a + (2 ^ 65 - (b + c))) % 2 ^ 64
sub-twice a b c h k l = omega (arith, h, k, l)

or-tests : (b c : Bool) → bit_or (word_of_test b) (word_of_test c) ≡ word_of_test (b || c)
or-tests true true = refl
or-tests true false = refl
or-tests false true = refl
or-tests false false = refl

either-carries : (a b c : ℕ) → a < 2 ^ 64 → b < 2 ^ 64 → c < 2 → (is_less (add_words (add_words a b) c) c || is_less (add_words a b) b) ≡ carry_out a b c
either-carries a b c h k l = grind (arith, h, k, l)

either-borrows : (a b c : ℕ) → a < 2 ^ 64 → b < 2 ^ 64 → c < 2 → (is_less (sub_words a b) c || is_less a b) ≡ borrow_out a b c
either-borrows a b c h k l = grind (arith, h, k, l)

-- ---- the carry or the borrow after the operation
abbrev pub carry_after : BinaryOp → ℕ → ℕ → ℕ → Bool
carry_after o a b c = if is_sum o then carry_out a b c else borrow_out a b c

-- the registers after the code hold the word and the carry
pub record HoldsWithCarry (o : BinaryOp) (d x y c : ℕ) (u : ℕ → ℕ) : Type 0 where
  pub value : u d ≡ value_with_carry o x y c
  pub carry : u 31 ≡ word_of_test (carry_after o x y c)

-- the operations that take no carry
module _ (u d a : ℕ) (d1 : d ≢ 1) (d31 : d ≢ 31) (d0 : d ≢ 0) (a31 : a ≢ 31) (w : ℕ → ℕ) (x y : ℕ) (xs : x < 2 ^ 64) (ys : y < 2 ^ 64) (ex : read w a ≡ x) (ey : w 1 ≡ y) where
  addc-after : computed (carry_code binary.Addc u d a) w ≡ put (put w d (add_words x y)) 31 (word_of_test (is_less (add_words x y) y))
  addc-after =
      let w1 = put w d (add_words x y) in
      let e1 : put w d (add_words (read w a) (w 1)) ≡ w1 = λ i. put w d (add_words (ex i) (ey i)) in
      let r1 : read w1 d ≡ add_words x y = read-put w d (add_words x y) d0 in
      let r2 : w1 1 ≡ y = put-other w d (add_words x y) 1 (λ e. d1 (sym e)) ∙ ey in
      ap (λ v. computed (Reg row.Sltu 31 d 1 ∷ []) v) e1 ∙ (λ i. put w1 31 (word_of_test (is_less (r1 i) (r2 i))))

  pub addc-holds : HoldsWithCarry binary.Addc d x y 0 (computed (carry_code binary.Addc u d a) w)
  addc-holds = record {
    value = ap (λ v. v d) addc-after ∙ put-other (put w d (add_words x y)) 31 _ d d31 ∙ put-same w d (add_words x y) ∙ sum-value x y;
    carry = ap (λ v. v 31) addc-after ∙ put-same (put w d (add_words x y)) 31 _ ∙ sum-carry x y xs ys;
  }

  subc-after : computed (carry_code binary.Subc u d a) w ≡ put (put w 31 (word_of_test (is_less x y))) d (sub_words x y)
  subc-after =
      let w1 = put w 31 (word_of_test (is_less x y)) in
      let e1 : put w 31 (word_of_test (is_less (read w a) (w 1))) ≡ w1 = λ i. put w 31 (word_of_test (is_less (ex i) (ey i))) in
      let r1 : read w1 a ≡ x = read-other w 31 (word_of_test (is_less x y)) a a31 ∙ ex in
      let r2 : w1 1 ≡ y = put-other w 31 (word_of_test (is_less x y)) 1 (λ e. absurd (omega (arith, e))) ∙ ey in
      ap (λ v. computed (Reg row.Sub d a 1 ∷ []) v) e1 ∙ (λ i. put w1 d (sub_words (r1 i) (r2 i)))

  pub subc-holds : HoldsWithCarry binary.Subc d x y 0 (computed (carry_code binary.Subc u d a) w)
  subc-holds = record {
    value = ap (λ v. v d) subc-after ∙ put-same (put w 31 (word_of_test (is_less x y))) d (sub_words x y) ∙ difference-value x y xs ys;
    carry = ap (λ v. v 31) subc-after ∙ put-other (put w 31 (word_of_test (is_less x y))) d _ 31 (λ e. d31 (sym e)) ∙ put-same w 31 (word_of_test (is_less x y)) ∙ difference-carry x y;
  }

-- those that take one, over a temporary
module _ (u d a : ℕ) (u0 : u ≢ 0) (u1 : u ≢ 1) (u31 : u ≢ 31) (ud : u ≢ d) (d1 : d ≢ 1) (d31 : d ≢ 31) (d0 : d ≢ 0) (a1 : a ≢ 1) (au : a ≢ u)
    (w : ℕ → ℕ) (x y : ℕ) (c : Bool) (xs : x < 2 ^ 64) (ys : y < 2 ^ 64) (ex : read w a ≡ x) (ey : w 1 ≡ y) (ec : w 31 ≡ word_of_test c) where
  abbrev k : ℕ
  k = word_of_test c

  k-small : k < 2
  k-small = by c
    where
      by : (b : Bool) → word_of_test b < 2
      by true = omega arith
      by false = omega arith

  one-apart : ◌≢◌ {A = ℕ} 1 31
  one-apart = λ e. absurd (omega (arith, e))

  carry-apart : ◌≢◌ {A = ℕ} 31 1
  carry-apart = λ e. absurd (omega (arith, e))

  abbrev s : ℕ
  s = add_words x y

  abbrev t1 : ℕ
  t1 = word_of_test (is_less s y)

  abbrev v : ℕ
  v = add_words s k

  abbrev t2 : ℕ
  t2 = word_of_test (is_less v k)

  addx-after : computed (carry_code binary.Addx u d a) w ≡ put (put (put (put (put w u s) 1 t1) d v) 31 t2) 31 (bit_or t2 t1)
  addx-after =
      let w1 = put w u s in
      let w2 = put w1 1 t1 in
      let w3 = put w2 d v in
      let w4 = put w3 31 t2 in
      let e1 : put w u (add_words (read w a) (w 1)) ≡ w1 = λ i. put w u (add_words (ex i) (ey i)) in
      let a1 : read w1 u ≡ s = read-put w u s u0 in
      let b1 : w1 1 ≡ y = put-other w u s 1 (λ e. u1 (sym e)) ∙ ey in
      let e2 : put w1 1 (word_of_test (is_less (read w1 u) (w1 1))) ≡ w2 = λ i. put w1 1 (word_of_test (is_less (a1 i) (b1 i))) in
      let a2 : read w2 u ≡ s = read-other w1 1 t1 u u1 ∙ a1 in
      let b2 : w2 31 ≡ k = put-other w1 1 t1 31 carry-apart ∙ put-other w u s 31 (λ e. u31 (sym e)) ∙ ec in
      let e3 : put w2 d (add_words (read w2 u) (w2 31)) ≡ w3 = λ i. put w2 d (add_words (a2 i) (b2 i)) in
      let a3 : read w3 d ≡ v = read-put w2 d v d0 in
      let b3 : w3 31 ≡ k = put-other w2 d v 31 (λ e. d31 (sym e)) ∙ b2 in
      let e4 : put w3 31 (word_of_test (is_less (read w3 d) (w3 31))) ≡ w4 = λ i. put w3 31 (word_of_test (is_less (a3 i) (b3 i))) in
      let a4 : w4 31 ≡ t2 = put-same w3 31 t2 in
      let b4 : w4 1 ≡ t1 = put-other w3 31 t2 1 one-apart ∙ put-other w2 d v 1 (λ e. d1 (sym e)) ∙ put-same w1 1 t1 in
      ap (λ z. computed (Reg row.Sltu 1 u 1 ∷ Reg row.Add d u 31 ∷ Reg row.Sltu 31 d 31 ∷ Reg row.Or 31 31 1 ∷ []) z) e1
      ∙ ap (λ z. computed (Reg row.Add d u 31 ∷ Reg row.Sltu 31 d 31 ∷ Reg row.Or 31 31 1 ∷ []) z) e2
      ∙ ap (λ z. computed (Reg row.Sltu 31 d 31 ∷ Reg row.Or 31 31 1 ∷ []) z) e3
      ∙ ap (λ z. computed (Reg row.Or 31 31 1 ∷ []) z) e4
      ∙ (λ i. put w4 31 (bit_or (a4 i) (b4 i)))

  pub addx-holds : HoldsWithCarry binary.Addx d x y k (computed (carry_code binary.Addx u d a) w)
  addx-holds =
      let w2 = put (put w u s) 1 t1 in
      record {
        value = ap (λ z. z d) addx-after ∙ put-other (put (put w2 d v) 31 t2) 31 _ d d31 ∙ put-other (put w2 d v) 31 t2 d d31 ∙ put-same w2 d v ∙ add-twice x y k;
        carry = ap (λ z. z 31) addx-after ∙ put-same (put (put w2 d v) 31 t2) 31 (bit_or t2 t1) ∙ or-tests (is_less v k) (is_less s y) ∙ ap word_of_test (either-carries x y k xs ys k-small);
      }

  abbrev b : ℕ
  b = word_of_test (is_less x y)

  abbrev f : ℕ
  f = sub_words x y

  abbrev g : ℕ
  g = word_of_test (is_less f k)

  subx-after : computed (carry_code binary.Subx u d a) w ≡ put (put (put (put (put w u b) 1 f) d (sub_words f k)) 31 g) 31 (bit_or g b)
  subx-after =
      let w1 = put w u b in
      let w2 = put w1 1 f in
      let w3 = put w2 d (sub_words f k) in
      let w4 = put w3 31 g in
      let e1 : put w u (word_of_test (is_less (read w a) (w 1))) ≡ w1 = λ i. put w u (word_of_test (is_less (ex i) (ey i))) in
      let p1 : read w1 a ≡ x = read-other w u b a au ∙ ex in
      let q1 : w1 1 ≡ y = put-other w u b 1 (λ e. u1 (sym e)) ∙ ey in
      let e2 : put w1 1 (sub_words (read w1 a) (w1 1)) ≡ w2 = λ i. put w1 1 (sub_words (p1 i) (q1 i)) in
      let p2 : w2 1 ≡ f = put-same w1 1 f in
      let q2 : w2 31 ≡ k = put-other w1 1 f 31 carry-apart ∙ put-other w u b 31 (λ e. u31 (sym e)) ∙ ec in
      let e3 : put w2 d (sub_words (w2 1) (w2 31)) ≡ w3 = λ i. put w2 d (sub_words (p2 i) (q2 i)) in
      let p3 : w3 1 ≡ f = put-other w2 d (sub_words f k) 1 (λ e. d1 (sym e)) ∙ p2 in
      let q3 : w3 31 ≡ k = put-other w2 d (sub_words f k) 31 (λ e. d31 (sym e)) ∙ q2 in
      let e4 : put w3 31 (word_of_test (is_less (w3 1) (w3 31))) ≡ w4 = λ i. put w3 31 (word_of_test (is_less (p3 i) (q3 i))) in
      let p4 : w4 31 ≡ g = put-same w3 31 g in
      let q4 : read w4 u ≡ b = read-other w3 31 g u u31 ∙ read-other w2 d (sub_words f k) u ud ∙ read-other w1 1 f u u1 ∙ read-put w u b u0 in
      ap (λ z. computed (Reg row.Sub 1 a 1 ∷ Reg row.Sub d 1 31 ∷ Reg row.Sltu 31 1 31 ∷ Reg row.Or 31 31 u ∷ []) z) e1
      ∙ ap (λ z. computed (Reg row.Sub d 1 31 ∷ Reg row.Sltu 31 1 31 ∷ Reg row.Or 31 31 u ∷ []) z) e2
      ∙ ap (λ z. computed (Reg row.Sltu 31 1 31 ∷ Reg row.Or 31 31 u ∷ []) z) e3
      ∙ ap (λ z. computed (Reg row.Or 31 31 u ∷ []) z) e4
      ∙ (λ i. put w4 31 (bit_or (p4 i) (q4 i)))

  pub subx-holds : HoldsWithCarry binary.Subx d x y k (computed (carry_code binary.Subx u d a) w)
  subx-holds =
      let w2 = put (put w u b) 1 f in
      record {
        value = ap (λ z. z d) subx-after ∙ put-other (put (put w2 d (sub_words f k)) 31 g) 31 _ d d31 ∙ put-other (put w2 d (sub_words f k)) 31 g d d31 ∙ put-same w2 d (sub_words f k) ∙ sub-twice x y k xs ys k-small;
        carry = ap (λ z. z 31) subx-after ∙ put-same (put (put w2 d (sub_words f k)) 31 g) 31 (bit_or g b) ∙ or-tests (is_less f k) (is_less x y) ∙ ap word_of_test (either-borrows x y k xs ys k-small);
      }

-- other registers are kept; only the operations that take a carry write the temporary
abbrev pub IsOtherThan : BinaryOp → ℕ → ℕ → Type 0
IsOtherThan binary.Addx u r = r ≢ u
IsOtherThan binary.Subx u r = r ≢ u
IsOtherThan o u r = Unit {0}

pub carried-keeps : (o : BinaryOp) (u d a : ℕ) (w : ℕ → ℕ) (r : ℕ) → IsOtherThan o u r → r ≢ d → r ≢ 1 → r ≢ 31 → computed (carry_code o u d a) w r ≡ w r
carried-keeps binary.Addc u d a w r ru rd r1 r31 = put-other (put w d _) 31 _ r r31 ∙ put-other w d _ r rd
carried-keeps binary.Subc u d a w r ru rd r1 r31 = put-other (put w 31 _) d _ r rd ∙ put-other w 31 _ r r31
carried-keeps binary.Addx u d a w r ru rd r1 r31 =
    put-other (put (put (put (put w u _) 1 _) d _) 31 _) 31 _ r r31 ∙ put-other (put (put (put w u _) 1 _) d _) 31 _ r r31 ∙ put-other (put (put w u _) 1 _) d _ r rd ∙ put-other (put w u _) 1 _ r r1 ∙ put-other w u _ r ru
carried-keeps binary.Subx u d a w r ru rd r1 r31 =
    put-other (put (put (put (put w u _) 1 _) d _) 31 _) 31 _ r r31 ∙ put-other (put (put (put w u _) 1 _) d _) 31 _ r r31 ∙ put-other (put (put w u _) 1 _) d _ r rd ∙ put-other (put w u _) 1 _ r r1 ∙ put-other w u _ r ru
carried-keeps o u d a w r ru rd r1 r31 = refl

pub carried-computes : (o : BinaryOp) (u d a : ℕ) → all_compute (carry_code o u d a) ≡ true
carried-computes binary.Addc u d a = refl
carried-computes o u d a = refl
