-- The code of the operations with two results.
use Rattle.std.proofs.Common.{◌≡◌, ◌≢◌, ℕ, ◌-◌, ◌<◌, ◌^◌, Bool, true, false, List, ◌++◌, Some, refl, ap, ◌∙◌}
use Rattle.std.specs.Prelude.{◌==◌, ◌||◌, not}
use Rattle.std.specs.Option.{option_and_then}
use Rattle.std.proofs.lemmas.Bool.{or_parts}
use Rattle.lg_base.specs.Words.{add_words, mul_words, high_product, high_product_signed, quotient, remainder, quotient_signed, remainder_signed}
use Rattle.lg_base.specs.Wide.{quotient_wide, quotient_wide_signed}
use Rattle.lg_op.specs.declared.op.WideOp.{WideOp}
use Rattle.lg_op.specs.declared.op.WideOp.TheVariants as wide
use Rattle.lg_op.specs.Operators.{divides, pair_where, wide_value}
use Rattle.lg_x86.specs.declared.instruction.Instr.{Instr}
use Rattle.lg_cpu.specs.HostSteps.{put}
use Rattle.lg_cpu.specs.X86Operators.{no_flags, product_flags, needs_high, needs_high_signed, sign_word}
use Rattle.lg_cpu.specs.X86Step.{sets_quotient}
use Rattle.lg_temp.specs.declared.choice.Choice.{Choice}
use Rattle.lg_selx_values.specs.Processor.Makings.{makes}
use Rattle.lg_selx_values.specs.Processor.MakingNodes.{scene}
use Rattle.lg_carry.specs.Nodes.Straight.{is_taken}
use Rattle.lg_carry.specs.Values.Computers.{Held}
use Rattle.lg_selx_values.specs.Scratch.{again}
use Rattle.lg_selx_values.specs.WideCode.{results, wide_code}
use Rattle.lg_selx_values.specs.WordLaws.{WidePairsAreMade}
use Rattle.lg_selx_values.specs.Words.{MakesPair}
use Rattle.lg_selx_values.proofs.EndLemmas.{ends, ends-first, ends-second, ends-other, remade, remade-keeps}
use Rattle.lg_selx_values.proofs.RegisterLemmas.{put-other, apart}
use Rattle.lg_selx_values.proofs.QuotientLemmas.{signed-quotient, unsigned-quotient}

pub some-same : {A : Type 0} (x y : A) → Some x ≡ Some y → x ≡ y
some-same x y e = cc

pub record IsPairWhere (b : Bool) (m n : ℕ) (p : ℕ × ℕ) : Type 0 where
  pub holds : b ≡ true
  pub is : (m, n) ≡ p

pub pair-is : (b : Bool) (m n : ℕ) (p : ℕ × ℕ) → pair_where b m n ≡ Some p → IsPairWhere b m n p
pair-is true m n p e = record { holds = refl; is = some-same (m, n) p e }
pair-is false m n p e = cc

module _ (choices : List Choice) (frame d e a b : ℕ) (q : Held) (de : d ≢ e) (d2 : d ≢ 2) (e2 : e ≢ 2) (d5 : d ≢ 5) (e5 : e ≢ 5) (d4 : d ≢ 4) (e4 : e ≢ 4) (a2 : a ≢ 2) (words : (r : ℕ) → q.registers r < 2 ^ 64) (pointer : add_words (q.registers 4) (frame - 16) ≡ q.registers 5)
    (lends : (r : ℕ) → is_taken choices r ≡ false → r ≢ d → r ≢ e → ((r == 0) || (r == 2)) ≡ false) where
  abbrev w : ℕ → ℕ
  w = q.registers

  abbrev u1 : ℕ → ℕ
  u1 = put w 2 (w b)

  abbrev u2 : ℕ → ℕ
  u2 = put u1 0 (u1 a)

  first-word : u1 a ≡ w a
  first-word = put-other w 2 (w b) a a2

  -- products
  abbrev product : ℕ → ℕ → ℕ → ℕ
  product high low = put (put u2 0 low) 2 high

  product-keeps : (high low r : ℕ) → r ≢ d → r ≢ e → is_taken choices r ≡ false → ends d e (product high low) r ≡ w r
  product-keeps high low r ne ne' free =
      let off = or_parts (r == 0) (r == 2) (lends r free ne ne') in
      ends-other d e (product high low) r ne ne' ∙ put-other (put u2 0 low) 2 high r (apart r 2 off.1) ∙ put-other u2 0 low r (apart r 0 off.0) ∙ put-other u1 0 (u1 a) r (apart r 0 off.0) ∙ put-other w 2 (w b) r (apart r 2 off.1)

  -- quotients
  abbrev u3 : ℕ → ℕ
  u3 = put u2 5 (w b)

  abbrev quotients : ℕ → ℕ → ℕ → ℕ → ℕ
  quotients high x y = put (put (put u3 2 high) 0 x) 2 y

  all-keeps : (high x y r : ℕ) → r ≢ d → r ≢ e → is_taken choices r ≡ false → remade frame d e (quotients high x y) r ≡ w r
  all-keeps high x y r ne ne' free =
      let off = or_parts (r == 0) (r == 2) (lends r free ne ne') in
      remade-keeps frame d e d4 e4 w (quotients high x y) pointer refl r ne ne'
      (λ n5. put-other (put (put u3 2 high) 0 x) 2 y r (apart r 2 off.1) ∙ put-other (put u3 2 high) 0 x r (apart r 0 off.0)
      ∙ put-other u3 2 high r (apart r 2 off.1) ∙ put-other u2 5 (w b) r n5 ∙ put-other u1 0 (u1 a) r (apart r 0 off.0) ∙ put-other w 2 (w b) r (apart r 2 off.1))

  abbrev rest : List Instr
  rest = results d e ++ again frame

  pub wide-pair : (o : WideOp) (p : ℕ × ℕ) → wide_value o (w a) (w b) ≡ Some p → MakesPair choices (wide_code o frame d e a b) d e p q
  wide-pair wide.Mul p is =
      let z : (mul_words (w a) (w b), high_product_signed (w a) (w b)) ≡ p = some-same _ p is in
      let m : ℕ = u1 a in
      record {
        registers = ends d e (product (high_product_signed m (w b)) (mul_words m (w b)));
        first = ends-first d e de (product (high_product_signed m (w b)) (mul_words m (w b))) p.0 (ap (λ n. mul_words n (w b)) first-word ∙ ap (λ t. t.0) z);
        second = ends-second d e d2 (product (high_product_signed m (w b)) (mul_words m (w b))) p.1 (ap (λ n. high_product_signed n (w b)) first-word ∙ ap (λ t. t.1) z);
        keeps = product-keeps (high_product_signed m (w b)) (mul_words m (w b));
        flags = product_flags (needs_high_signed m (w b));
        makes_it = λ bytes. refl;
      }
  wide-pair wide.MulU p is =
      let z : (mul_words (w a) (w b), high_product (w a) (w b)) ≡ p = some-same _ p is in
      let m : ℕ = u1 a in
      record {
        registers = ends d e (product (high_product m (w b)) (mul_words m (w b)));
        first = ends-first d e de (product (high_product m (w b)) (mul_words m (w b))) p.0 (ap (λ n. mul_words n (w b)) first-word ∙ ap (λ t. t.0) z);
        second = ends-second d e d2 (product (high_product m (w b)) (mul_words m (w b))) p.1 (ap (λ n. high_product n (w b)) first-word ∙ ap (λ t. t.1) z);
        keeps = product-keeps (high_product m (w b)) (mul_words m (w b));
        flags = product_flags (needs_high m (w b));
        makes_it = λ bytes. refl;
      }
  wide-pair wide.Div p is =
      let m = pair-is (divides (w a) (w b)) (quotient_signed (w a) (w b)) (remainder_signed (w a) (w b)) p is in
      let high : ℕ = sign_word (u1 a) in
      let x : ℕ = quotient_signed (w a) (w b) in
      let y : ℕ = remainder_signed (w a) (w b) in
      record {
        registers = remade frame d e (quotients high x y);
        first = put-other (ends d e (quotients high x y)) 5 _ d d5 ∙ ends-first d e de (quotients high x y) p.0 (ap (λ t. t.0) m.is);
        second = put-other (ends d e (quotients high x y)) 5 _ e e5 ∙ ends-second d e d2 (quotients high x y) p.1 (ap (λ t. t.1) m.is);
        keeps = all-keeps high x y;
        flags = no_flags;
        makes_it = λ bytes. ap (λ o. option_and_then (makes rest) (sets_quotient (scene (put u3 2 high) q.flags bytes) o)) (ap (λ n. quotient_wide_signed (sign_word n) n (w b)) first-word ∙ signed-quotient (w a) (w b) (words a) (words b) m.holds);
      }
  wide-pair wide.DivU p is =
      let m = pair-is (not (w b == 0)) (quotient (w a) (w b)) (remainder (w a) (w b)) p is in
      let x : ℕ = quotient (w a) (w b) in
      let y : ℕ = remainder (w a) (w b) in
      record {
        registers = remade frame d e (quotients 0 x y);
        first = put-other (ends d e (quotients 0 x y)) 5 _ d d5 ∙ ends-first d e de (quotients 0 x y) p.0 (ap (λ t. t.0) m.is);
        second = put-other (ends d e (quotients 0 x y)) 5 _ e e5 ∙ ends-second d e d2 (quotients 0 x y) p.1 (ap (λ t. t.1) m.is);
        keeps = all-keeps 0 x y;
        flags = no_flags;
        makes_it = λ bytes. ap (λ o. option_and_then (makes rest) (sets_quotient (scene (put u3 2 0) q.flags bytes) o)) (ap (λ n. quotient_wide 0 n (w b)) first-word ∙ unsigned-quotient (w a) (w b) m.holds);
      }

pub wide-pairs-are-made : WidePairsAreMade
wide-pairs-are-made choices frame d e a b q de d2 e2 d5 e5 d4 e4 a2 f lends o p is = wide-pair choices frame d e a b q de d2 e2 d5 e5 d4 e4 a2 f.words f.pointer lends o p is
