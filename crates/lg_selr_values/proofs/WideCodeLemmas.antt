-- The code of the operations with two results computes both.
use Rattle.std.proofs.Common.{◌≡◌, ◌≢◌, ℕ, ◌-◌, ◌*◌, ◌/◌, ◌%◌, ◌^◌, ◌<◌, ◌≤◌, Bool, true, false, [], ◌∷◌, Some, refl, sym, ap, ◌∙◌, arith}
use Rattle.std.specs.Prelude.{◌==◌, ◌||◌, not, pos, if◌then◌else◌}
use Rattle.std.proofs.Math.Nat.{mul-le-mul_left}
use Rattle.lg_base.specs.Words.{add_words, mul_words, magnitude, with_sign, high_product, high_product_signed, quotient, remainder, quotient_signed, remainder_signed}
use Rattle.lg_op.specs.declared.op.WideOp.{WideOp}
use Rattle.lg_op.specs.declared.op.WideOp.TheVariants as wide
use Rattle.lg_op.specs.Operators.{pair_where, is_least_by_minus_one, divides, wide_value}
use Rattle.lg_rv.specs.declared.instruction.Instr.TheVariants.{Imm, Reg}
use Rattle.lg_rv.specs.declared.instruction.ImmOp.TheVariants.{Addi}
use Rattle.lg_rv.specs.declared.instruction.RegOp.{RegOp}
use Rattle.lg_rv.specs.declared.instruction.RegOp.TheVariants as row
use Rattle.lg_cpu.specs.HostSteps.{put}
use Rattle.lg_cpu.specs.RvOperators.{reg_value}
use Rattle.lg_cpu.specs.RvStep.{read}
use Rattle.lg_selr_values.specs.Processor.Computations.{all_compute, computed}
use Rattle.lg_selr_values.proofs.OfProcessor.ComputationLemmas.{read-other, put-same, put-other}
use Rattle.lg_selr_values.specs.WideCode.{wide_code}
use Rattle.lg_carry.specs.Values.Values.{HoldsPair}
use Rattle.lg_selr_values.proofs.LoadCodeLemmas.{read-small, some-same}

-- ---- words
one-less : (n : ℕ) → n < 2 ^ 64 → n ≤ 2 ^ 64 - 1
one-less n h = omega (arith, h)

product-small : (a b p : ℕ) → a < 2 ^ 64 → p ≤ a * (2 ^ 64 - 1) → p / 2 ^ 64 < 2 ^ 64
product-small a b p h k = omega (arith, h, k)

high-small : (a b : ℕ) → a < 2 ^ 64 → b < 2 ^ 64 → high_product a b < 2 ^ 64
high-small a b h k = product-small a b (a * b) h (mul-le-mul_left a (one-less b k))

part-small : (t : ℕ) → t % 2 ^ 128 / 2 ^ 64 < 2 ^ 64
part-small t = omega arith

quotient-small : (a b : ℕ) → a < 2 ^ 64 → quotient a b < 2 ^ 64
quotient-small a b h = let e = div-le a b in omega (arith, h, e)
  where
    div-le : (a b : ℕ) → a / b ≤ a
    div-le a b = grind arith

signed-small : (s : Bool) (n : ℕ) → n < 2 ^ 64 → with_sign s n < 2 ^ 64
signed-small true n h = omega arith
signed-small false n h = h

magnitude-small : (a : ℕ) → a < 2 ^ 64 → magnitude a < 2 ^ 64
magnitude-small a h = grind (arith, h)

add-none : (a : ℕ) → a < 2 ^ 64 → add_words a 0 ≡ a
add-none a h = omega (arith, h)

-- a pair of words that is given only where a test holds
pub record IsPair (b : Bool) (m n : ℕ) (p : ℕ × ℕ) : Type 0 where
  pub test : b ≡ true
  pub first : m ≡ p.0
  pub second : n ≡ p.1

pair-is : (m n : ℕ) (p : ℕ × ℕ) → Some (m, n) ≡ Some p → IsPair true m n p
pair-is m n p e = let z = some-same (m, n) p e in record { test = refl; first = ap (λ t. t.0) z; second = ap (λ t. t.1) z }

given-pair : (b : Bool) (m n : ℕ) (p : ℕ × ℕ) → pair_where b m n ≡ Some p → IsPair b m n p
given-pair true m n p e = pair-is m n p e
given-pair false m n p e = cc

no-zero : (b c : Bool) → not (b || c) ≡ true → b ≡ false
no-zero true c e = cc
no-zero false c e = refl

not-true : (b : Bool) → not b ≡ true → b ≡ false
not-true true e = cc
not-true false e = refl

otherwise : (b : Bool) (x y : ℕ) → b ≡ false → (if b then x else y) ≡ y
otherwise b x y e = ap (λ c. if c then x else y) e

-- ---- the code
module _ (d e a b : ℕ) (d1 : d ≢ 1) (e1 : e ≢ 1) (de : d ≢ e) (a1 : a ≢ 1) (b1 : b ≢ 1) (w : ℕ → ℕ) where
  abbrev x : ℕ
  x = read w a

  abbrev y : ℕ
  y = read w b

  -- the first word waits in the link while the second is computed
  module _ (f g : RegOp) (m n : ℕ) (first : reg_value f x y ≡ m) (second : reg_value g x y ≡ n) (small : m < 2 ^ 64) (s t : ℕ) (s1 : s ≢ 1) where
    waited : computed (Reg f 1 a b ∷ Reg g s a b ∷ Imm Addi t 1 (pos 0) ∷ []) w ≡ put (put (put w 1 m) s n) t m
    waited =
        let w1 = put w 1 m in
        let w2 = put w1 s n in
        let ea : read w1 a ≡ x = read-other w 1 m a a1 in
        let eb : read w1 b ≡ y = read-other w 1 m b b1 in
        let e2 : put w1 s (reg_value g (read w1 a) (read w1 b)) ≡ w2 = let same : reg_value g (read w1 a) (read w1 b) ≡ n = (λ i. reg_value g (ea i) (eb i)) ∙ second in ap (put w1 s) same in
        let e3 : w2 1 ≡ m = put-other w1 s n 1 (λ z. s1 (sym z)) ∙ put-same w 1 m in
        ap (λ z. computed (Reg g s a b ∷ Imm Addi t 1 (pos 0) ∷ []) (put w 1 z)) first ∙ ap (computed (Imm Addi t 1 (pos 0) ∷ [])) e2 ∙ ap (put w2 t) (ap (λ z. add_words z 0) e3 ∙ add-none m small)

    waited-first : s ≢ t → computed (Reg f 1 a b ∷ Reg g s a b ∷ Imm Addi t 1 (pos 0) ∷ []) w s ≡ n
    waited-first st = ap (λ z. z s) waited ∙ put-other (put (put w 1 m) s n) t m s st ∙ put-same (put w 1 m) s n

    waited-second : computed (Reg f 1 a b ∷ Reg g s a b ∷ Imm Addi t 1 (pos 0) ∷ []) w t ≡ m
    waited-second = ap (λ z. z t) waited ∙ put-same (put (put w 1 m) s n) t m

  module _ (words : (r : ℕ) → w r < 2 ^ 64) (p : ℕ × ℕ) where
    xs : x < 2 ^ 64
    xs = read-small w a words

    ys : y < 2 ^ 64
    ys = read-small w b words

    pub wide-value : (o : WideOp) → wide_value o x y ≡ Some p → HoldsPair d e p (computed (wide_code o d e a b) w)
    wide-value wide.Mul h =
        let g = pair-is _ _ p h in
        record {
          first = waited-first row.Mulh row.Mul (high_product_signed x y) (mul_words x y) refl refl (part-small _) d e d1 de ∙ g.first;
          second = waited-second row.Mulh row.Mul (high_product_signed x y) (mul_words x y) refl refl (part-small _) d e d1 ∙ g.second;
        }
    wide-value wide.MulU h =
        let g = pair-is _ _ p h in
        record {
          first = waited-first row.Mulhu row.Mul (high_product x y) (mul_words x y) refl refl (high-small x y xs ys) d e d1 de ∙ g.first;
          second = waited-second row.Mulhu row.Mul (high_product x y) (mul_words x y) refl refl (high-small x y xs ys) d e d1 ∙ g.second;
        }
    wide-value wide.Div h =
        let g = given-pair (divides x y) (quotient_signed x y) (remainder_signed x y) p h in
        let z = no-zero (y == 0) (is_least_by_minus_one x y) g.test in
        let small : quotient_signed x y < 2 ^ 64 = signed-small _ _ (quotient-small (magnitude x) (magnitude y) (magnitude-small x xs)) in
        record {
          first = waited-second row.Div row.Rem (quotient_signed x y) (remainder_signed x y) (otherwise (y == 0) _ _ z) (otherwise (y == 0) _ _ z) small e d e1 ∙ g.first;
          second = waited-first row.Div row.Rem (quotient_signed x y) (remainder_signed x y) (otherwise (y == 0) _ _ z) (otherwise (y == 0) _ _ z) small e d e1 (λ k. de (sym k)) ∙ g.second;
        }
    wide-value wide.DivU h =
        let g = given-pair (not (y == 0)) (quotient x y) (remainder x y) p h in
        let z = not-true (y == 0) g.test in
        record {
          first = waited-second row.Divu row.Remu (quotient x y) (remainder x y) (otherwise (y == 0) _ _ z) (otherwise (y == 0) _ _ z) (quotient-small x y xs) e d e1 ∙ g.first;
          second = waited-first row.Divu row.Remu (quotient x y) (remainder x y) (otherwise (y == 0) _ _ z) (otherwise (y == 0) _ _ z) (quotient-small x y xs) e d e1 (λ k. de (sym k)) ∙ g.second;
        }

pub wide-keeps : (o : WideOp) (d e a b : ℕ) (w : ℕ → ℕ) (r : ℕ) → r ≢ d → r ≢ e → r ≢ 1 → computed (wide_code o d e a b) w r ≡ w r
wide-keeps wide.Mul d e a b w r rd re r1 = put-other (put (put w 1 _) d _) e _ r re ∙ put-other (put w 1 _) d _ r rd ∙ put-other w 1 _ r r1
wide-keeps wide.MulU d e a b w r rd re r1 = put-other (put (put w 1 _) d _) e _ r re ∙ put-other (put w 1 _) d _ r rd ∙ put-other w 1 _ r r1
wide-keeps wide.Div d e a b w r rd re r1 = put-other (put (put w 1 _) e _) d _ r rd ∙ put-other (put w 1 _) e _ r re ∙ put-other w 1 _ r r1
wide-keeps wide.DivU d e a b w r rd re r1 = put-other (put (put w 1 _) e _) d _ r rd ∙ put-other (put w 1 _) e _ r re ∙ put-other w 1 _ r r1

pub wide-computes : (o : WideOp) (d e a b : ℕ) → all_compute (wide_code o d e a b) ≡ true
wide-computes wide.Mul d e a b = refl
wide-computes o d e a b = refl
