-- What the code of the operations with two results computes.
use Rattle.std.proofs.Common.{◌≡◌, ◌≢◌, ℕ, ◌^◌, ◌<◌, Bool, true, false, Some, refl, sym, ap, ◌∙◌, arith}
use Rattle.std.specs.Prelude.{◌==◌, not, bit_or}
use Rattle.std.specs.Int.Bits.{or_zero_l}
use Rattle.lg_base.specs.Words.{add_words, mul_words, sub_words, high_product, high_product_signed, quotient, quotient_signed, remainder, remainder_signed}
use Rattle.lg_op.specs.declared.op.WideOp.{WideOp}
use Rattle.lg_op.specs.declared.op.WideOp.TheVariants as wide
use Rattle.lg_op.specs.Operators.{wide_value, pair_where, divides, is_least_by_minus_one}
use Rattle.lg_cpu.specs.A64Operators.{divided, divided_signed}
use Rattle.lg_cpu.specs.A64Step.{read, write}
use Rattle.lg_carry.specs.Values.Computers.{Held}
use Rattle.lg_carry.specs.Values.Values.{HoldsPair}
use Rattle.lg_sela_values.specs.Processor.Computations.{all_compute, computed}
use Rattle.lg_sela_values.proofs.OfProcessor.HeldLemmas.{read-is}
use Rattle.lg_sela_values.specs.WideCode.{wide_code}
use Rattle.lg_sela_values.proofs.BinaryCodeLemmas.{write-other, write-same, add-none, otherwise, no-zero, not-true}
use Rattle.lg_sela_values.proofs.DivisionLemmas.{left-over, left-over-signed}

pub pair-given : (b : Bool) (m n : ℕ) (p : ℕ × ℕ) → pair_where b m n ≡ Some p → (b ≡ true) × (m ≡ p.0) × (n ≡ p.1)
pair-given true m n p e = let z : ◌≡◌ {A = ℕ × ℕ} (m, n) p = cc in (refl, ap (λ q. q.0) z, ap (λ q. q.1) z)
pair-given false m n p e = cc

module _ (d e a b : ℕ) (dl : d < 30) (el : e < 30) (apart : d ≢ e) (al : a < 30) (bl : b < 30) (w : ℕ → ℕ) (xs : w a < 2 ^ 64) (ys : w b < 2 ^ 64) where
  abbrev x : ℕ
  x = w a

  abbrev y : ℕ
  y = w b

  -- the first word waits in the link, and the second is made of the two and of it
  made : (f : ℕ → ℕ → ℕ) (g : ℕ → ℕ → ℕ → ℕ) (p : ℕ × ℕ) → f x y ≡ p.0 → g p.0 x y ≡ p.1
      → HoldsPair d e p (let v = write w 30 (f (read w a) (read w b)) in let u = write v e (g (read v 30) (read v a) (read v b)) in write u d (bit_or (read u 31) (read u 30)))
  made f g p first second =
      let v = write w 30 (f (read w a) (read w b)) in
      let f1 : read v 30 ≡ p.0 = (λ i. f (read-is w a (omega (arith, al)) i) (read-is w b (omega (arith, bl)) i)) ∙ first in
      let va : read v a ≡ x = read-is v a (omega (arith, al)) ∙ write-other w 30 (f (read w a) (read w b)) a (λ z. absurd (omega (arith, al, z))) in
      let vb : read v b ≡ y = read-is v b (omega (arith, bl)) ∙ write-other w 30 (f (read w a) (read w b)) b (λ z. absurd (omega (arith, bl, z))) in
      let n = g (read v 30) (read v a) (read v b) in
      let u = write v e n in
      let f2 : read u 30 ≡ p.0 = read-link u ∙ write-other v e n 30 (λ z. absurd (omega (arith, el, z))) ∙ link v f1 in
      let g1 : n ≡ p.1 = (λ i. g (f1 i) (va i) (vb i)) ∙ second in
      record {
        first = write-same u d _ (omega (arith, dl)) ∙ or_zero_l (read u 30) ∙ f2;
        second = write-other u d _ e (λ z. apart (sym z)) ∙ write-same v e n (omega (arith, el)) ∙ g1;
      }
    where
      read-link : (u : ℕ → ℕ) → read u 30 ≡ u 30
      read-link u = refl

      link : (v : ℕ → ℕ) → read v 30 ≡ p.0 → v 30 ≡ p.0
      link v h = h

pub wide-value : (d e a b : ℕ) → d < 30 → e < 30 → d ≢ e → a < 30 → b < 30 → (w : Held) → w.registers a < 2 ^ 64 → w.registers b < 2 ^ 64 → (o : WideOp) (p : ℕ × ℕ) → wide_value o (w.registers a) (w.registers b) ≡ Some p
    → HoldsPair d e p (computed (wide_code o d e a b) w).registers
wide-value d e a b dl el apart al bl w xs ys wide.Mul p h =
    let g = pair-given true (mul_words (w.registers a) (w.registers b)) (high_product_signed (w.registers a) (w.registers b)) p h in
    made d e a b dl el apart al bl w.registers xs ys (λ m n. add_words 0 (mul_words m n)) (λ q m n. high_product_signed m n) p (add-none _ ∙ g.1) g.2
wide-value d e a b dl el apart al bl w xs ys wide.MulU p h =
    let g = pair-given true (mul_words (w.registers a) (w.registers b)) (high_product (w.registers a) (w.registers b)) p h in
    made d e a b dl el apart al bl w.registers xs ys (λ m n. add_words 0 (mul_words m n)) (λ q m n. high_product m n) p (add-none _ ∙ g.1) g.2
wide-value d e a b dl el apart al bl w xs ys wide.Div p h =
    let g = pair-given (divides (w.registers a) (w.registers b)) (quotient_signed (w.registers a) (w.registers b)) (remainder_signed (w.registers a) (w.registers b)) p h in
    let q : divided_signed (w.registers a) (w.registers b) ≡ quotient_signed (w.registers a) (w.registers b) = otherwise (w.registers b == 0) 0 (quotient_signed (w.registers a) (w.registers b)) (quotient_signed (w.registers a) (w.registers b)) (no-zero (w.registers b == 0) (is_least_by_minus_one (w.registers a) (w.registers b)) g.0) refl in
    made d e a b dl el apart al bl w.registers xs ys divided_signed (λ q m n. sub_words m (mul_words q n)) p (q ∙ g.1) (ap (λ z. sub_words (w.registers a) (mul_words z (w.registers b))) (sym g.1) ∙ left-over-signed (w.registers a) (w.registers b) xs ys ∙ g.2)
wide-value d e a b dl el apart al bl w xs ys wide.DivU p h =
    let g = pair-given (not (w.registers b == 0)) (quotient (w.registers a) (w.registers b)) (remainder (w.registers a) (w.registers b)) p h in
    let q : divided (w.registers a) (w.registers b) ≡ quotient (w.registers a) (w.registers b) = otherwise (w.registers b == 0) 0 (quotient (w.registers a) (w.registers b)) (quotient (w.registers a) (w.registers b)) (not-true (w.registers b == 0) g.0) refl in
    made d e a b dl el apart al bl w.registers xs ys divided (λ q m n. sub_words m (mul_words q n)) p (q ∙ g.1) (ap (λ z. sub_words (w.registers a) (mul_words z (w.registers b))) (sym g.1) ∙ left-over (w.registers a) (w.registers b) xs ∙ g.2)

-- three writes
kept : (w : ℕ → ℕ) (x y z d e r : ℕ) → r ≢ d → r ≢ e → r ≢ 30 → write (write (write w 30 x) e y) d z r ≡ w r
kept w x y z d e r nd ne nl = write-other (write (write w 30 x) e y) d z r nd ∙ write-other (write w 30 x) e y r ne ∙ write-other w 30 x r nl

pub wide-keeps : (o : WideOp) (d e a b : ℕ) (w : Held) (r : ℕ) → r ≢ d → r ≢ e → r ≢ 30 → (computed (wide_code o d e a b) w).registers r ≡ w.registers r
wide-keeps wide.Mul d e a b w r nd ne nl = kept w.registers _ _ _ d e r nd ne nl
wide-keeps o d e a b w r nd ne nl = kept w.registers _ _ _ d e r nd ne nl

pub wide-computes : (o : WideOp) (d e a b : ℕ) → all_compute (wide_code o d e a b) ≡ true
wide-computes wide.Mul d e a b = refl
wide-computes o d e a b = refl
