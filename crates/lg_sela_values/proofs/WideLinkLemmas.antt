-- What the code of the operations with two results computes of a register and the word in the link.
use Rattle.std.proofs.Common.{◌≡◌, ◌≢◌, ℕ, ◌^◌, ◌<◌, Bool, true, false, [], ◌∷◌, Some, refl, sym, ap, ◌∙◌, arith}
use Rattle.std.specs.Prelude.{◌==◌, not, bit_or, if◌then◌else◌}
use Rattle.std.specs.Int.Bits.{or_zero_l}
use Rattle.std.proofs.lemmas.Bool.Decides.{nat_tests}
use Rattle.lg_base.specs.Words.{add_words, mul_words, sub_words, high_product, high_product_signed, quotient, quotient_signed, remainder, remainder_signed}
use Rattle.lg_op.specs.declared.op.WideOp.{WideOp}
use Rattle.lg_op.specs.declared.op.WideOp.TheVariants as wide
use Rattle.lg_op.specs.Operators.{wide_value, divides, is_least_by_minus_one}
use Rattle.lg_a64.specs.declared.instruction.Instr.TheVariants.{Reg, MulAdd}
use Rattle.lg_a64.specs.declared.instruction.MulAddOp.TheVariants.{Madd, Msub}
use Rattle.lg_a64.specs.declared.instruction.RegOp.{RegOp}
use Rattle.lg_a64.specs.declared.instruction.RegOp.TheVariants as row
use Rattle.lg_cpu.specs.A64Operators.{divided, divided_signed}
use Rattle.lg_cpu.specs.A64Step.{read, write}
use Rattle.lg_carry.specs.Values.Computers.{Held}
use Rattle.lg_carry.specs.Values.Values.{HoldsPair}
use Rattle.lg_sela_values.specs.Processor.Computations.{all_compute, computed}
use Rattle.lg_sela_values.proofs.OfProcessor.HeldLemmas.{read-is}
use Rattle.lg_sela_values.specs.WideCode.{product_by_link, quotient_by_link, wide_by_link}
use Rattle.lg_sela_values.proofs.BinaryCodeLemmas.{write-other, write-same, add-none, otherwise, no-zero, not-true}
use Rattle.lg_sela_values.proofs.DivisionLemmas.{left-over, left-over-signed}
use Rattle.lg_sela_values.proofs.WideCodeLemmas.{pair-given}

same : (m n : ℕ) → (m == n) ≡ true → m ≡ n
same m n e = grind (arith, nat_tests)

differ : (m n : ℕ) → (m == n) ≡ false → m ≢ n
differ m n e = λ z. absurd (grind (arith, nat_tests))

-- ---- two writes
module _ (s t a : ℕ) (sl : s < 30) (tl : t < 30) (apart : s ≢ t) (al : a < 30) (off : a ≢ s) (w : ℕ → ℕ) where
  -- a word of a and the link into s, and then one of these and it into t
  record Two (f : ℕ → ℕ → ℕ) (g : ℕ → ℕ → ℕ → ℕ) (u : ℕ → ℕ) : Type 0 where
    first : u s ≡ f (w a) (w 30)
    second : u t ≡ g (f (w a) (w 30)) (w a) (w 30)

  two : (f : ℕ → ℕ → ℕ) (g : ℕ → ℕ → ℕ → ℕ) → Two f g (let v = write w s (f (read w a) (read w 30)) in write v t (g (read v s) (read v a) (read v 30)))
  two f g =
      let v = write w s (f (read w a) (read w 30)) in
      let made : f (read w a) (read w 30) ≡ f (w a) (w 30) = ap (λ z. f z (read w 30)) (read-is w a (omega (arith, al))) in
      let vs : read v s ≡ f (w a) (w 30) = read-is v s (omega (arith, sl)) ∙ write-same w s (f (read w a) (read w 30)) (omega (arith, sl)) ∙ made in
      let va : read v a ≡ w a = read-is v a (omega (arith, al)) ∙ write-other w s (f (read w a) (read w 30)) a off in
      let vl : v 30 ≡ w 30 = write-other w s (f (read w a) (read w 30)) 30 (λ z. absurd (omega (arith, sl, z))) in
      let n = g (read v s) (read v a) (read v 30) in
      record {
        first = write-other v t n s apart ∙ write-same w s (f (read w a) (read w 30)) (omega (arith, sl)) ∙ made;
        second = write-same v t n (omega (arith, tl)) ∙ (λ i. g (vs i) (va i) (vl i));
      }

-- ---- the pairs
module _ (d e a : ℕ) (dl : d < 30) (el : e < 30) (apart : d ≢ e) (al : a < 30) (w : ℕ → ℕ) where
  abbrev x : ℕ
  x = w a

  abbrev y : ℕ
  y = w 30

  -- the word for d is made first, since e is a
  first-then : (f : ℕ → ℕ → ℕ) (g : ℕ → ℕ → ℕ → ℕ) (p : ℕ × ℕ) → e ≡ a → f x y ≡ p.0 → g p.0 x y ≡ p.1
      → HoldsPair d e p (let v = write w d (f (read w a) (read w 30)) in write v e (g (read v d) (read v a) (read v 30)))
  first-then f g p is m n =
      let t = two d e a dl el apart al (λ z. apart (sym (is ∙ z))) w f g in
      record { first = t.first ∙ m; second = t.second ∙ ap (λ z. g z x y) m ∙ n }

  -- the word for e is made first
  second-then : (g : ℕ → ℕ → ℕ) (f : ℕ → ℕ → ℕ → ℕ) (p : ℕ × ℕ) → e ≢ a → g x y ≡ p.1 → f p.1 x y ≡ p.0
      → HoldsPair d e p (let v = write w e (g (read w a) (read w 30)) in write v d (f (read v e) (read v a) (read v 30)))
  second-then g f p off m n =
      let t = two e d a el dl (λ z. apart (sym z)) al (λ z. off (sym z)) w g f in
      record { first = t.second ∙ ap (λ z. f z x y) m ∙ n; second = t.first ∙ m }

  -- the quotient is made in e, what is left in the link, and both are moved
  moved : (divide : ℕ → ℕ → ℕ) (p : ℕ × ℕ) → e ≢ a → divide x y ≡ p.0 → sub_words x (mul_words p.0 y) ≡ p.1
      → HoldsPair d e p (let v = write w e (divide (read w a) (read w 30)) in
      let u = write v 30 (sub_words (read v a) (mul_words (read v e) (read v 30))) in
      let s = write u d (bit_or (read u 31) (read u e)) in write s e (bit_or (read s 31) (read s 30)))
  moved divide p off m n =
      let v = write w e (divide (read w a) (read w 30)) in
      let made : divide (read w a) (read w 30) ≡ p.0 = ap (λ z. divide z (read w 30)) (read-is w a (omega (arith, al))) ∙ m in
      let ve : read v e ≡ p.0 = read-is v e (omega (arith, el)) ∙ write-same w e (divide (read w a) (read w 30)) (omega (arith, el)) ∙ made in
      let va : read v a ≡ x = read-is v a (omega (arith, al)) ∙ write-other w e (divide (read w a) (read w 30)) a (λ z. off (sym z)) in
      let vl : v 30 ≡ y = write-other w e (divide (read w a) (read w 30)) 30 (λ z. absurd (omega (arith, el, z))) in
      let left : sub_words (read v a) (mul_words (read v e) (read v 30)) ≡ p.1 = (λ i. sub_words (va i) (mul_words (ve i) (vl i))) ∙ n in
      let k = sub_words (read v a) (mul_words (read v e) (read v 30)) in
      let u = write v 30 k in
      let ue : read u e ≡ p.0 = read-is u e (omega (arith, el)) ∙ write-other v 30 k e (λ z. absurd (omega (arith, el, z))) ∙ sym (read-is v e (omega (arith, el))) ∙ ve in
      let s = write u d (bit_or (read u 31) (read u e)) in
      let sl : s 30 ≡ p.1 = write-other u d (bit_or (read u 31) (read u e)) 30 (λ z. absurd (omega (arith, dl, z))) ∙ write-same v 30 k (omega arith) ∙ left in
      record {
        first = write-other s e _ d apart ∙ write-same u d _ (omega (arith, dl)) ∙ or_zero_l (read u e) ∙ ue;
        second = write-same s e _ (omega (arith, el)) ∙ or_zero_l (read s 30) ∙ sl;
      }

module _ (d e a : ℕ) (dl : d < 30) (el : e < 30) (apart : d ≢ e) (al : a < 30) (w : Held) (xs : w.registers a < 2 ^ 64) (ys : w.registers 30 < 2 ^ 64) where
  abbrev r : ℕ → ℕ
  r = w.registers

  signed : (p : ℕ × ℕ) → mul_words (r a) (r 30) ≡ p.0 → high_product_signed (r a) (r 30) ≡ p.1 → HoldsPair d e p (computed (product_by_link row.Smulh d e a) w).registers
  signed p m n = by (e == a) refl
    where
      by : (b : Bool) → (e == a) ≡ b → HoldsPair d e p (computed (if b then MulAdd Madd d a 30 31 ∷ Reg row.Smulh e a 30 ∷ [] else Reg row.Smulh e a 30 ∷ MulAdd Madd d a 30 31 ∷ []) w).registers
      by true z = first-then d e a dl el apart al r (λ k l. add_words 0 (mul_words k l)) (λ q k l. high_product_signed k l) p (same e a z) (add-none _ ∙ m) n
      by false z = second-then d e a dl el apart al r high_product_signed (λ q k l. add_words 0 (mul_words k l)) p (differ e a z) n (add-none _ ∙ m)

  unsigned : (p : ℕ × ℕ) → mul_words (r a) (r 30) ≡ p.0 → high_product (r a) (r 30) ≡ p.1 → HoldsPair d e p (computed (product_by_link row.Umulh d e a) w).registers
  unsigned p m n = by (e == a) refl
    where
      by : (b : Bool) → (e == a) ≡ b → HoldsPair d e p (computed (if b then MulAdd Madd d a 30 31 ∷ Reg row.Umulh e a 30 ∷ [] else Reg row.Umulh e a 30 ∷ MulAdd Madd d a 30 31 ∷ []) w).registers
      by true z = first-then d e a dl el apart al r (λ k l. add_words 0 (mul_words k l)) (λ q k l. high_product k l) p (same e a z) (add-none _ ∙ m) n
      by false z = second-then d e a dl el apart al r high_product (λ q k l. add_words 0 (mul_words k l)) p (differ e a z) n (add-none _ ∙ m)

  divided-signed : (p : ℕ × ℕ) → divided_signed (r a) (r 30) ≡ p.0 → sub_words (r a) (mul_words p.0 (r 30)) ≡ p.1 → HoldsPair d e p (computed (quotient_by_link row.Sdiv d e a) w).registers
  divided-signed p m n = by (e == a) refl
    where
      by : (b : Bool) → (e == a) ≡ b → HoldsPair d e p (computed (if b then Reg row.Sdiv d a 30 ∷ MulAdd Msub e d 30 a ∷ [] else Reg row.Sdiv e a 30 ∷ MulAdd Msub 30 e 30 a ∷ Reg row.Orr d 31 e ∷ Reg row.Orr e 31 30 ∷ []) w).registers
      by true z = first-then d e a dl el apart al r divided_signed (λ q k l. sub_words k (mul_words q l)) p (same e a z) m n
      by false z = moved d e a dl el apart al r divided_signed p (differ e a z) m n

  divided-unsigned : (p : ℕ × ℕ) → divided (r a) (r 30) ≡ p.0 → sub_words (r a) (mul_words p.0 (r 30)) ≡ p.1 → HoldsPair d e p (computed (quotient_by_link row.Udiv d e a) w).registers
  divided-unsigned p m n = by (e == a) refl
    where
      by : (b : Bool) → (e == a) ≡ b → HoldsPair d e p (computed (if b then Reg row.Udiv d a 30 ∷ MulAdd Msub e d 30 a ∷ [] else Reg row.Udiv e a 30 ∷ MulAdd Msub 30 e 30 a ∷ Reg row.Orr d 31 e ∷ Reg row.Orr e 31 30 ∷ []) w).registers
      by true z = first-then d e a dl el apart al r divided (λ q k l. sub_words k (mul_words q l)) p (same e a z) m n
      by false z = moved d e a dl el apart al r divided p (differ e a z) m n

  pub link-value : (o : WideOp) (p : ℕ × ℕ) → wide_value o (r a) (r 30) ≡ Some p → HoldsPair d e p (computed (wide_by_link o d e a) w).registers
  link-value wide.Mul p h = let g = pair-given true (mul_words (r a) (r 30)) (high_product_signed (r a) (r 30)) p h in signed p g.1 g.2
  link-value wide.MulU p h = let g = pair-given true (mul_words (r a) (r 30)) (high_product (r a) (r 30)) p h in unsigned p g.1 g.2
  link-value wide.Div p h =
      let g = pair-given (divides (r a) (r 30)) (quotient_signed (r a) (r 30)) (remainder_signed (r a) (r 30)) p h in
      let q : divided_signed (r a) (r 30) ≡ quotient_signed (r a) (r 30) = otherwise (r 30 == 0) 0 (quotient_signed (r a) (r 30)) (quotient_signed (r a) (r 30)) (no-zero (r 30 == 0) (is_least_by_minus_one (r a) (r 30)) g.0) refl in
      divided-signed p (q ∙ g.1) (ap (λ z. sub_words (r a) (mul_words z (r 30))) (sym g.1) ∙ left-over-signed (r a) (r 30) xs ys ∙ g.2)
  link-value wide.DivU p h =
      let g = pair-given (not (r 30 == 0)) (quotient (r a) (r 30)) (remainder (r a) (r 30)) p h in
      let q : divided (r a) (r 30) ≡ quotient (r a) (r 30) = otherwise (r 30 == 0) 0 (quotient (r a) (r 30)) (quotient (r a) (r 30)) (not-true (r 30 == 0) g.0) refl in
      divided-unsigned p (q ∙ g.1) (ap (λ z. sub_words (r a) (mul_words z (r 30))) (sym g.1) ∙ left-over (r a) (r 30) xs ∙ g.2)

-- ---- what else the code does
twice : (w : ℕ → ℕ) (s t x y r : ℕ) → r ≢ s → r ≢ t → write (write w s x) t y r ≡ w r
twice w s t x y r ns nt = write-other (write w s x) t y r nt ∙ write-other w s x r ns

four : (w : ℕ → ℕ) (d e x y z v r : ℕ) → r ≢ d → r ≢ e → r ≢ 30 → write (write (write (write w e x) 30 y) d z) e v r ≡ w r
four w d e x y z v r nd ne nl = twice (write (write w e x) 30 y) d e z v r nd ne ∙ twice w e 30 x y r ne nl

product-keeps : (high : RegOp) (d e a : ℕ) (w : Held) (r : ℕ) → r ≢ d → r ≢ e → (computed (product_by_link high d e a) w).registers r ≡ w.registers r
product-keeps high d e a w r nd ne = by (e == a)
  where
    by : (b : Bool) → (computed (if b then MulAdd Madd d a 30 31 ∷ Reg high e a 30 ∷ [] else Reg high e a 30 ∷ MulAdd Madd d a 30 31 ∷ []) w).registers r ≡ w.registers r
    by true = twice w.registers d e _ _ r nd ne
    by false = twice w.registers e d _ _ r ne nd

quotient-keeps : (divide : RegOp) (d e a : ℕ) (w : Held) (r : ℕ) → r ≢ d → r ≢ e → r ≢ 30 → (computed (quotient_by_link divide d e a) w).registers r ≡ w.registers r
quotient-keeps divide d e a w r nd ne nl = by (e == a)
  where
    by : (b : Bool) → (computed (if b then Reg divide d a 30 ∷ MulAdd Msub e d 30 a ∷ [] else Reg divide e a 30 ∷ MulAdd Msub 30 e 30 a ∷ Reg row.Orr d 31 e ∷ Reg row.Orr e 31 30 ∷ []) w).registers r ≡ w.registers r
    by true = twice w.registers d e _ _ r nd ne
    by false = four w.registers d e _ _ _ _ r nd ne nl

pub link-keeps : (o : WideOp) (d e a : ℕ) (w : Held) (r : ℕ) → r ≢ d → r ≢ e → r ≢ 30 → (computed (wide_by_link o d e a) w).registers r ≡ w.registers r
link-keeps wide.Mul d e a w r nd ne nl = product-keeps row.Smulh d e a w r nd ne
link-keeps wide.MulU d e a w r nd ne nl = product-keeps row.Umulh d e a w r nd ne
link-keeps wide.Div d e a w r nd ne nl = quotient-keeps row.Sdiv d e a w r nd ne nl
link-keeps wide.DivU d e a w r nd ne nl = quotient-keeps row.Udiv d e a w r nd ne nl

product-computes : (high : RegOp) (d e a : ℕ) → all_compute (product_by_link high d e a) ≡ true
product-computes high d e a = by (e == a)
  where
    by : (b : Bool) → all_compute (if b then MulAdd Madd d a 30 31 ∷ Reg high e a 30 ∷ [] else Reg high e a 30 ∷ MulAdd Madd d a 30 31 ∷ []) ≡ true
    by true = refl
    by false = refl

quotient-computes : (divide : RegOp) (d e a : ℕ) → all_compute (quotient_by_link divide d e a) ≡ true
quotient-computes divide d e a = by (e == a)
  where
    by : (b : Bool) → all_compute (if b then Reg divide d a 30 ∷ MulAdd Msub e d 30 a ∷ [] else Reg divide e a 30 ∷ MulAdd Msub 30 e 30 a ∷ Reg row.Orr d 31 e ∷ Reg row.Orr e 31 30 ∷ []) ≡ true
    by true = refl
    by false = refl

pub link-computes : (o : WideOp) (d e a : ℕ) → all_compute (wide_by_link o d e a) ≡ true
link-computes wide.Mul d e a = product-computes row.Smulh d e a
link-computes wide.MulU d e a = product-computes row.Umulh d e a
link-computes wide.Div d e a = quotient-computes row.Sdiv d e a
link-computes wide.DivU d e a = quotient-computes row.Udiv d e a
