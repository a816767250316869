-- The code of the operations with two results on a register and a number.
use Rattle.std.proofs.Common.{◌≡◌, ◌≢◌, ℕ, ◌-◌, ◌<◌, ◌^◌, false, List, ◌∷◌, ◌++◌, Some, refl, ap, ◌∙◌, arith}
use Rattle.std.specs.Prelude.{◌==◌, ◌||◌, not}
use Rattle.std.specs.Option.{option_and_then}
use Rattle.std.proofs.lemmas.Bool.{or_parts}
use Rattle.lg_base.specs.Words.{add_words, mul_words, high_product, high_product_signed, quotient, remainder, quotient_signed, remainder_signed}
use Rattle.lg_op.specs.declared.op.WideOp.{WideOp}
use Rattle.lg_op.specs.declared.op.WideOp.TheVariants as wide
use Rattle.lg_op.specs.Operators.{divides, wide_value}
use Rattle.lg_x86.specs.declared.instruction.Instr.{Instr}
use Rattle.lg_x86.specs.declared.instruction.Instr.TheVariants.{Movi32, Unary, Bare}
use Rattle.lg_x86.specs.declared.instruction.BareOp.TheVariants.{Cqo}
use Rattle.lg_x86.specs.declared.instruction.UnaryOp.TheVariants.{Mul, Imul1, Div, Idiv}
use Rattle.lg_cpu.specs.HostSteps.{put}
use Rattle.lg_cpu.specs.X86Operators.{no_flags, product_flags, needs_high, needs_high_signed, sign_word}
use Rattle.lg_cpu.specs.X86Step.{sets_quotient}
use Rattle.lg_temp.specs.declared.choice.Choice.{Choice}
use Rattle.lg_selx_values.specs.Processor.Makings.{makes}
use Rattle.lg_selx_values.specs.Processor.MakingNodes.{scene}
use Rattle.lg_selx_values.proofs.OfProcessor.NumberCodeLemmas.{row-loads}
use Rattle.lg_carry.specs.Nodes.Straight.{is_taken}
use Rattle.lg_carry.specs.Values.Computers.{Held}
use Rattle.lg_selx_values.specs.NumberWords.{WideNumbersAreMade}
use Rattle.lg_selx_values.specs.Scratch.{again}
use Rattle.lg_selx_values.specs.WideCode.{results, wide_number_code}
use Rattle.lg_selx_values.specs.Words.{MakesPair}
use Rattle.lg_selx_values.proofs.EndLemmas.{ends, ends-first, ends-second, ends-other, remade, remade-keeps}
use Rattle.lg_selx_values.proofs.QuotientLemmas.{signed-quotient, unsigned-quotient}
use Rattle.lg_selx_values.proofs.RegisterLemmas.{put-other, apart}
use Rattle.lg_selx_values.proofs.WideCodeLemmas.{some-same, pair-is}

module _ (choices : List Choice) (frame d e a v : ℕ) (q : Held) (de : d ≢ e) (d2 : d ≢ 2) (e2 : e ≢ 2) (d5 : d ≢ 5) (e5 : e ≢ 5) (d4 : d ≢ 4) (e4 : e ≢ 4) (small : v < 2 ^ 64) (words : (r : ℕ) → q.registers r < 2 ^ 64) (pointer : add_words (q.registers 4) (frame - 16) ≡ q.registers 5)
    (lends : (r : ℕ) → is_taken choices r ≡ false → r ≢ d → r ≢ e → ((r == 0) || (r == 2)) ≡ false) where
  abbrev w : ℕ → ℕ
  w = q.registers

  abbrev u1 : ℕ → ℕ
  u1 = put w 0 (w a)

  -- products
  abbrev product : ℕ → ℕ → ℕ → ℕ
  product high low = put (put (put u1 2 v) 0 low) 2 high

  product-keeps : (high low r : ℕ) → r ≢ d → r ≢ e → is_taken choices r ≡ false → ends d e (product high low) r ≡ w r
  product-keeps high low r ne ne' free =
      let off = or_parts (r == 0) (r == 2) (lends r free ne ne') in
      ends-other d e (product high low) r ne ne' ∙ put-other (put (put u1 2 v) 0 low) 2 high r (apart r 2 off.1) ∙ put-other (put u1 2 v) 0 low r (apart r 0 off.0) ∙ put-other u1 2 v r (apart r 2 off.1) ∙ put-other w 0 (w a) r (apart r 0 off.0)

  -- quotients
  abbrev u5 : ℕ → ℕ
  u5 = put u1 5 v

  abbrev quotients : ℕ → ℕ → ℕ → ℕ → ℕ
  quotients high x y = put (put (put u5 2 high) 0 x) 2 y

  all-keeps : (high x y r : ℕ) → r ≢ d → r ≢ e → is_taken choices r ≡ false → remade frame d e (quotients high x y) r ≡ w r
  all-keeps high x y r ne ne' free =
      let off = or_parts (r == 0) (r == 2) (lends r free ne ne') in
      remade-keeps frame d e d4 e4 w (quotients high x y) pointer refl r ne ne'
      (λ n5. put-other (put (put u5 2 high) 0 x) 2 y r (apart r 2 off.1) ∙ put-other (put u5 2 high) 0 x r (apart r 0 off.0) ∙ put-other u5 2 high r (apart r 2 off.1) ∙ put-other u1 5 v r n5 ∙ put-other w 0 (w a) r (apart r 0 off.0))

  abbrev rest : List Instr
  rest = results d e ++ again frame

  pub wide-number-pair : (o : WideOp) (p : ℕ × ℕ) → wide_value o (w a) v ≡ Some p → MakesPair choices (wide_number_code o frame d e a v) d e p q
  wide-number-pair wide.Mul p is =
      let z : (mul_words (w a) v, high_product_signed (w a) v) ≡ p = some-same _ p is in
      let high : ℕ = high_product_signed (w a) v in
      let low : ℕ = mul_words (w a) v in
      record {
        registers = ends d e (product high low);
        first = ends-first d e de (product high low) p.0 (ap (λ t. t.0) z);
        second = ends-second d e d2 (product high low) p.1 (ap (λ t. t.1) z);
        keeps = product-keeps high low;
        flags = product_flags (needs_high_signed (w a) v);
        makes_it = λ bytes. ap (option_and_then (makes (Unary Imul1 2 ∷ results d e))) ((row-loads 2 v (omega arith) small).value (scene u1 q.flags bytes));
      }
  wide-number-pair wide.MulU p is =
      let z : (mul_words (w a) v, high_product (w a) v) ≡ p = some-same _ p is in
      let high : ℕ = high_product (w a) v in
      let low : ℕ = mul_words (w a) v in
      record {
        registers = ends d e (product high low);
        first = ends-first d e de (product high low) p.0 (ap (λ t. t.0) z);
        second = ends-second d e d2 (product high low) p.1 (ap (λ t. t.1) z);
        keeps = product-keeps high low;
        flags = product_flags (needs_high (w a) v);
        makes_it = λ bytes. ap (option_and_then (makes (Unary Mul 2 ∷ results d e))) ((row-loads 2 v (omega arith) small).value (scene u1 q.flags bytes));
      }
  wide-number-pair wide.Div p is =
      let m = pair-is (divides (w a) v) (quotient_signed (w a) v) (remainder_signed (w a) v) p is in
      let high : ℕ = sign_word (w a) in
      let x : ℕ = quotient_signed (w a) v in
      let y : ℕ = remainder_signed (w a) v in
      record {
        registers = remade frame d e (quotients high x y);
        first = put-other (ends d e (quotients high x y)) 5 _ d d5 ∙ ends-first d e de (quotients high x y) p.0 (ap (λ t. t.0) m.is);
        second = put-other (ends d e (quotients high x y)) 5 _ e e5 ∙ ends-second d e d2 (quotients high x y) p.1 (ap (λ t. t.1) m.is);
        keeps = all-keeps high x y;
        flags = no_flags;
        makes_it = λ bytes. ap (option_and_then (makes (Bare Cqo ∷ Unary Idiv 5 ∷ rest))) ((row-loads 5 v (omega arith) small).value (scene u1 q.flags bytes))
            ∙ ap (λ o. option_and_then (makes rest) (sets_quotient (scene (put u5 2 high) q.flags bytes) o)) (signed-quotient (w a) v (words a) small m.holds);
      }
  wide-number-pair wide.DivU p is =
      let m = pair-is (not (v == 0)) (quotient (w a) v) (remainder (w a) v) p is in
      let x : ℕ = quotient (w a) v in
      let y : ℕ = remainder (w a) v in
      record {
        registers = remade frame d e (quotients 0 x y);
        first = put-other (ends d e (quotients 0 x y)) 5 _ d d5 ∙ ends-first d e de (quotients 0 x y) p.0 (ap (λ t. t.0) m.is);
        second = put-other (ends d e (quotients 0 x y)) 5 _ e e5 ∙ ends-second d e d2 (quotients 0 x y) p.1 (ap (λ t. t.1) m.is);
        keeps = all-keeps 0 x y;
        flags = no_flags;
        makes_it = λ bytes. ap (option_and_then (makes (Movi32 2 0 ∷ Unary Div 5 ∷ rest))) ((row-loads 5 v (omega arith) small).value (scene u1 q.flags bytes))
            ∙ ap (λ o. option_and_then (makes rest) (sets_quotient (scene (put u5 2 0) q.flags bytes) o)) (unsigned-quotient (w a) v m.holds);
      }

pub wide-numbers-are-made : WideNumbersAreMade
wide-numbers-are-made choices frame d e a v q de d2 e2 d5 e5 d4 e4 small f lends o p is = wide-number-pair choices frame d e a v q de d2 e2 d5 e5 d4 e4 small f.words f.pointer lends o p is
