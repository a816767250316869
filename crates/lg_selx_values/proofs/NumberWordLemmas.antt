-- The code of the operations on a register and a number.
use Rattle.std.proofs.Common.{◌≡◌, ◌≢◌, ℕ, ◌+◌, ◌-◌, ◌*◌, ◌/◌, ◌%◌, ◌^◌, ◌<◌, Bool, true, false, List, [], ◌∷◌, ◌++◌, Option, Some, refl, sym, ap, subst, ◌∙◌, arith}
use Rattle.std.specs.Prelude.{◌==◌, ◌||◌, not, if◌then◌else◌, bit_and, bit_or, bit_xor}
use Rattle.std.specs.Option.{option_and_then}
use Rattle.std.proofs.lemmas.Bool.{or_parts}
use Rattle.lg_base.specs.Words.{add_words, sub_words, mul_words, negated, signed_view, word_of_test, quotient, remainder, quotient_signed, remainder_signed, shifted_left, shifted_right, shifted_right_signed, is_half}
use Rattle.lg_base.specs.Wide.{zero_part_of, quotient_wide, quotient_wide_signed}
use Rattle.lg_base.specs.declared.flags.Flags.{Flags}
use Rattle.lg_op.specs.declared.op.BinaryOp.{BinaryOp}
use Rattle.lg_op.specs.declared.op.BinaryOp.TheVariants as binary
use Rattle.lg_op.specs.Operators.{word_where, divides, binary_value, sets_carry}
use Rattle.lg_x86.specs.declared.instruction.BareOp.TheVariants.{Cqo}
use Rattle.lg_x86.specs.declared.instruction.Cond.{Cond}
use Rattle.lg_x86.specs.declared.instruction.Cond.TheVariants as cond
use Rattle.lg_x86.specs.declared.instruction.ImmOp.{ImmOp}
use Rattle.lg_x86.specs.declared.instruction.ImmOp.TheVariants as imm
use Rattle.lg_base.specs.Flags.{carry_of}
use Rattle.lg_x86.specs.declared.instruction.Instr.{Instr}
use Rattle.lg_x86.specs.declared.instruction.Instr.TheVariants.{RmReg, Imm, RegRm, Load, Unary, Shift, Set, Bare, Movi32}
use Rattle.lg_x86.specs.declared.instruction.LoadOp.TheVariants.{Lea}
use Rattle.lg_x86.specs.declared.instruction.RegRmOp.TheVariants.{Imul, Ext8u}
use Rattle.lg_x86.specs.declared.instruction.RmRegOp.TheVariants as alu
use Rattle.lg_x86.specs.declared.instruction.ShiftOp.{ShiftOp}
use Rattle.lg_x86.specs.declared.instruction.ShiftOp.TheVariants.{Shli, Shri, Sari}
use Rattle.lg_x86.specs.declared.instruction.UnaryOp.TheVariants.{Neg, Div, Idiv}
use Rattle.lg_cpu.specs.HostSteps.{put}
use Rattle.lg_cpu.specs.X86Operators.{no_flags, bit, alu_of, alu_value, carry_for, is_kept_by, difference_flags, product_flags, needs_high_signed, negation_flags, shift_value, shift_flags, condition_holds, sign_word}
use Rattle.lg_cpu.specs.X86Step.{sets_byte, sets_quotient}
use Rattle.lg_temp.specs.declared.choice.Choice.{Choice}
use Rattle.lg_carry.specs.Nodes.Straight.{is_taken}
use Rattle.lg_carry.specs.Values.Computers.{Held}
use Rattle.lg_selx_values.specs.Processor.MakingNodes.{scene}
use Rattle.lg_selx_values.specs.Processor.Makings.{makes}
use Rattle.lg_selx_values.specs.Processor.Numbers.{number_row}
use Rattle.lg_selx_values.proofs.OfProcessor.NumberCodeLemmas.{view-word, row-value, row-loads}
use Rattle.lg_selx_values.specs.BinaryCode.{with_number, is_near, answer, compared_number, product_number, shifted_number, high_half, division, is_dividend, divided_number, number_form_code}
use Rattle.lg_selx_values.specs.NumberWords.{number_spoils, NumbersAreMade}
use Rattle.lg_selx_values.specs.Scratch.{moved, again}
use Rattle.lg_selx_values.specs.Words.{MakesWord}
use Rattle.lg_selx_values.proofs.AluLemmas.{put-word}
use Rattle.lg_selx_values.proofs.BinaryCodeLemmas.{mul-swap, some-same, less-tells, below-tells, less-or-equal-tells, below-or-equal-tells, greater-or-equal-tells, above-or-equal-tells, greater-tells, above-tells, equal-tells, not-equal-tells}
use Rattle.lg_selx_values.proofs.NumberLemmas.{number-row-word}
use Rattle.lg_selx_values.proofs.QuotientLemmas.{signed-quotient, unsigned-quotient}
use Rattle.lg_selx_values.proofs.RegisterLemmas.{put-same, put-other, put-twice, equal, apart, moved-makes}
use Rattle.lg_selx_values.proofs.WordLemmas.{answer-word}

-- more registers may be taken
as-word : (choices : List Choice) (body : List Instr) (d x z : ℕ) (q : Held) → MakesWord [] body d x q → x ≡ z → MakesWord choices body d z q
as-word choices body d x z q s e = record { registers = s.registers; flags = s.flags; value = s.value ∙ e; keeps = λ r ne free. s.keeps r ne refl; makes_it = s.makes_it }

record IsWhere (b : Bool) (n z : ℕ) : Type 0 where
  holds : b ≡ true
  is : n ≡ z

where-is : (b : Bool) (n z : ℕ) → word_where b n ≡ Some z → IsWhere b n z
where-is true n z e = record { holds = refl; is = some-same n z e }
where-is false n z e = cc

add-negated : (a v : ℕ) → a < 2 ^ 64 → v < 2 ^ 64 → add_words (negated a) v ≡ sub_words v a
add-negated a v h k = grind (arith, h, k)

module _ (frame d a v : ℕ) (q : Held) (d5 : d ≢ 5) (d4 : d ≢ 4) (small : v < 2 ^ 64) (words : (r : ℕ) → q.registers r < 2 ^ 64) (pointer : add_words (q.registers 4) (frame - 16) ≡ q.registers 5) where
  abbrev w : ℕ → ℕ
  w = q.registers

  abbrev u : ℕ → ℕ
  u = put w d (w a)

  abbrev u5 : ℕ → ℕ
  u5 = put u 5 v

  first : u5 d ≡ w a
  first = put-other u 5 v d d5 ∙ put-same w d (w a)

  -- after code that wrote d and rbp, FP is made again
  abbrev all : ℕ → ℕ → ℕ
  all z = put (put u5 d z) 5 (add_words (put u5 d z 4) (frame - 16))

  all-value : (z : ℕ) → all z d ≡ z
  all-value z = put-other (put u5 d z) 5 _ d d5 ∙ put-same u5 d z

  all-keeps : (z x : ℕ) → x ≢ d → all z x ≡ w x
  all-keeps z x ne = by (x == 5) refl
    where
      by : (k : Bool) → (x == 5) ≡ k → all z x ≡ w x
      by true e =
          let y : x ≡ 5 = equal x 5 e in
          ap (all z) y ∙ ap (λ n. add_words n (frame - 16)) (put-other u5 d z 4 (λ f. d4 (sym f)) ∙ put-other w d (w a) 4 (λ f. d4 (sym f))) ∙ pointer ∙ ap w (sym y)
      by false e = put-other (put u5 d z) 5 _ x (apart x 5 e) ∙ put-other u5 d z x ne ∙ put-other u 5 v x (apart x 5 e) ∙ put-other w d (w a) x ne

  -- the number is loaded after a move
  loads : (rest : List Instr) (bytes : ℕ → Option ℕ) → makes (moved d a ++ (number_row 5 v ∷ rest)) (scene w q.flags bytes) ≡ makes rest (scene u5 q.flags bytes)
  loads rest bytes = moved-makes d a (number_row 5 v ∷ rest) w q.flags bytes ∙ ap (option_and_then (makes rest)) ((row-loads 5 v (omega arith) small).value (scene u q.flags bytes))

  product-by-rbp : MakesWord [] (moved d a ++ (number_row 5 v ∷ (RegRm Imul d 5 ∷ again frame))) d (mul_words (w a) v) q
  product-by-rbp = record {
    registers = all (mul_words (w a) v);
    flags = product_flags (needs_high_signed (w a) v);
    value = all-value (mul_words (w a) v);
    keeps = λ x ne free. all-keeps (mul_words (w a) v) x ne;
    makes_it = λ bytes. loads (RegRm Imul d 5 ∷ again frame) bytes
        ∙ ap (λ x. makes (again frame) (scene (put u5 d (mul_words x v)) (product_flags (needs_high_signed x v)) bytes)) first;
  }

  pub product-word : MakesWord [] (product_number frame d a v) d (mul_words (w a) v) q
  product-word = by (d == a) refl
    where
      rest : List Instr
      rest = number_row 5 v ∷ RegRm Imul d 5 ∷ again frame

      by : (k : Bool) → (d == a) ≡ k → MakesWord [] (if k then rest else number_row d v ∷ RegRm Imul d a ∷ []) d (mul_words (w a) v) q
      by true e = subst (λ k. MakesWord [] ((if k then [] else RmReg alu.Mov d a ∷ []) ++ rest) d (mul_words (w a) v) q) e product-by-rbp
      by false e =
          let s : ℕ → ℕ = put w d v in
          let held : s d ≡ v = put-same w d v in
          let other : s a ≡ w a = put-other w d v a (λ z. apart d a e (sym z)) in
          let behind : Flags = product_flags (needs_high_signed v (w a)) in
          put-word [] (number_row d v ∷ RegRm Imul d a ∷ []) d (mul_words (w a) v) q behind
          (λ bytes. ap (option_and_then (makes (RegRm Imul d a ∷ []))) (row-value d v small (scene w q.flags bytes))
          ∙ (λ i. Some (scene (put s d (mul_words (held i) (other i))) (product_flags (needs_high_signed (held i) (other i))) bytes))
          ∙ ap (λ g. Some (scene g behind bytes)) (put-twice w d v (mul_words v (w a)))
          ∙ ap (λ x. Some (scene (put w d x) behind bytes)) (mul-swap v (w a)))

  pub shift-number : (by : ShiftOp) → MakesWord [] (shifted_number by d a v) d (shift_value by (w a) (v % 64)) q
  shift-number by =
      put-word [] (shifted_number by d a v) d (shift_value by (w a) (v % 64)) q (shift_flags by q.flags (w a) (v % 64))
      (λ bytes. moved-makes d a (Shift by d (v % 64) ∷ []) w q.flags bytes
      ∙ (λ i. Some (scene (put u d (shift_value by (put-same w d (w a) i) (v % 64))) (shift_flags by q.flags (put-same w d (w a) i) (v % 64)) bytes))
      ∙ ap (λ g. Some (scene g (shift_flags by q.flags (w a) (v % 64)) bytes)) (put-twice w d (w a) (shift_value by (w a) (v % 64))))

  abbrev seen : Flags
  seen = difference_flags (w a) v 0 (sub_words (w a) v)

  held-answer : (c : Cond) (t : Bool) → condition_holds c seen ≡ Some t → MakesWord [] (Imm imm.Cmpi a (signed_view v) ∷ answer c d) d (word_of_test t) q
  held-answer c t e =
      let x : ℕ = w d / 256 * 256 + bit t in
      put-word [] (Imm imm.Cmpi a (signed_view v) ∷ answer c d) d (word_of_test t) q seen
      (λ bytes. ap (λ y. makes (answer c d) (scene w (difference_flags (w a) y 0 (sub_words (w a) y)) bytes)) (view-word v small)
      ∙ ap (λ o. option_and_then (makes (RegRm Ext8u d d ∷ [])) (sets_byte d (scene w seen bytes) o)) e
      ∙ ap (λ y. Some (scene (put (put w d x) d (zero_part_of y 1)) seen bytes)) (put-same w d x)
      ∙ ap (λ g. Some (scene g seen bytes)) (put-twice w d x (zero_part_of x 1))
      ∙ ap (λ y. Some (scene (put w d y) seen bytes)) (answer-word (w d) t))

  loaded-answer : (c : Cond) (t : Bool) → condition_holds c seen ≡ Some t → MakesWord [] (moved d a ++ (number_row 5 v ∷ (RmReg alu.Cmp d 5 ∷ Set c d ∷ RegRm Ext8u d d ∷ again frame))) d (word_of_test t) q
  loaded-answer c t e =
      let x : ℕ = u5 d / 256 * 256 + bit t in
      record {
        registers = all (word_of_test t);
        flags = seen;
        value = all-value (word_of_test t);
        keeps = λ r ne free. all-keeps (word_of_test t) r ne;
        makes_it = λ bytes. loads (RmReg alu.Cmp d 5 ∷ Set c d ∷ RegRm Ext8u d d ∷ again frame) bytes
            ∙ ap (λ y. makes (Set c d ∷ RegRm Ext8u d d ∷ again frame) (scene u5 (difference_flags y v 0 (sub_words y v)) bytes)) first
            ∙ ap (λ o. option_and_then (makes (RegRm Ext8u d d ∷ again frame)) (sets_byte d (scene u5 seen bytes) o)) e
            ∙ ap (λ y. makes (again frame) (scene (put (put u5 d x) d (zero_part_of y 1)) seen bytes)) (put-same u5 d x)
            ∙ ap (λ g. makes (again frame) (scene g seen bytes)) (put-twice u5 d x (zero_part_of x 1))
            ∙ ap (λ y. makes (again frame) (scene (put u5 d y) seen bytes)) (answer-word (u5 d) t);
      }

  pub answer-number : (c : Cond) (t : Bool) → condition_holds c seen ≡ Some t → MakesWord [] (compared_number c frame d a v) d (word_of_test t) q
  answer-number c t e = by (is_half v)
    where
      by : (b : Bool) → MakesWord [] (if b then Imm imm.Cmpi a (signed_view v) ∷ answer c d else moved d a ++ (number_row 5 v ∷ (RmReg alu.Cmp d 5 ∷ Set c d ∷ RegRm Ext8u d d ∷ again frame))) d (word_of_test t) q
      by true = held-answer c t e
      by false = loaded-answer c t e

  abbrev turned : ℕ → ℕ
  turned = put w d (negated (w a))

  turned-pointer : add_words (turned 4) (frame - 16) ≡ turned 5
  turned-pointer = ap (λ n. add_words n (frame - 16)) (put-other w d (negated (w a)) 4 (λ f. d4 (sym f))) ∙ pointer ∙ sym (put-other w d (negated (w a)) 5 (λ f. d5 (sym f)))

  pub turned-number : MakesWord [] (moved d a ++ (Unary Neg d ∷ with_number imm.Addi alu.Add frame d d v)) d (sub_words v (w a)) q
  turned-number =
      let m = (number-row-word imm.Addi frame d d v false record { registers = turned; flags = negation_flags (w a) } refl refl d5 d4 small turned-pointer).word in
      let rest : List Instr = with_number imm.Addi alu.Add frame d d v in
      record {
        registers = m.registers;
        flags = m.flags;
        value = m.value ∙ ap (λ n. add_words n v) (put-same w d (negated (w a))) ∙ add-negated (w a) v (words a) small;
        keeps = λ r ne free. m.keeps r ne refl ∙ put-other w d (negated (w a)) r ne;
        makes_it = λ bytes. moved-makes d a (Unary Neg d ∷ rest) w q.flags bytes
            ∙ ap (λ x. makes rest (scene (put u d (negated x)) (negation_flags x) bytes)) (put-same w d (w a))
            ∙ ap (λ g. makes rest (scene g (negation_flags (w a)) bytes)) (put-twice w d (w a) (negated (w a)))
            ∙ m.makes_it bytes;
      }

-- ---- quotients
module _ (choices : List Choice) (frame r d a v : ℕ) (q : Held) (d5 : d ≢ 5) (d4 : d ≢ 4) (small : v < 2 ^ 64) (pointer : add_words (q.registers 4) (frame - 16) ≡ q.registers 5)
    (lends : (t : ℕ) → is_taken choices t ≡ false → t ≢ d → ((t == 0) || (t == 2)) ≡ false) (x y : ℕ) where
  abbrev wq : ℕ → ℕ
  wq = q.registers

  abbrev wr : ℕ → ℕ
  wr = put wq 0 (wq a)

  off : (t : ℕ) → t ≢ d → is_taken choices t ≡ false → ((t == 0) ≡ false) × ((t == 2) ≡ false)
  off t ne free = or_parts (t == 0) (t == 2) (lends t free ne)

  -- the number goes to rbp
  abbrev u2 : ℕ → ℕ
  u2 = put wr 5 v

  abbrev x5 : ℕ → ℕ → ℕ
  x5 high = put (put (put u2 2 high) 0 x) 2 y

  abbrev x6 : ℕ → ℕ → ℕ
  x6 high = put (x5 high) d (x5 high r)

  abbrev x7 : ℕ → ℕ → ℕ
  x7 high = put (x6 high) 5 (add_words (x6 high 4) (frame - 16))

  x7-value : (high z : ℕ) → x5 high r ≡ z → x7 high d ≡ z
  x7-value high z e = put-other (x6 high) 5 _ d d5 ∙ put-same (x5 high) d (x5 high r) ∙ e

  x7-keeps : (high t : ℕ) → t ≢ d → is_taken choices t ≡ false → x7 high t ≡ wq t
  x7-keeps high t ne free = by (t == 5) refl
    where
      by : (k : Bool) → (t == 5) ≡ k → x7 high t ≡ wq t
      by true e =
          let z : t ≡ 5 = equal t 5 e in
          ap (x7 high) z ∙ ap (λ n. add_words n (frame - 16)) (put-other (x5 high) d _ 4 (λ f. d4 (sym f))) ∙ pointer ∙ ap wq (sym z)
      by false e =
          let o = off t ne free in
          put-other (x6 high) 5 _ t (apart t 5 e) ∙ put-other (x5 high) d _ t ne ∙ put-other (put (put u2 2 high) 0 x) 2 y t (apart t 2 o.1) ∙ put-other (put u2 2 high) 0 x t (apart t 0 o.0)
          ∙ put-other u2 2 high t (apart t 2 o.1) ∙ put-other wr 5 v t (apart t 5 e) ∙ put-other wq 0 (wq a) t (apart t 0 o.0)

  abbrev tail : List Instr
  tail = RmReg alu.Mov d r ∷ again frame

  abbrev far : Bool → List Instr
  far signed = moved 0 a ++ (number_row 5 v ∷ high_half signed ∷ division signed 5 ∷ tail)

  -- it goes to the result's register
  abbrev z2 : ℕ → ℕ
  z2 = put wr d v

  abbrev z5 : ℕ → ℕ → ℕ
  z5 high = put (put (put z2 2 high) 0 x) 2 y

  abbrev z6 : ℕ → ℕ → ℕ
  z6 high = put (z5 high) d (z5 high r)

  z6-keeps : (high t : ℕ) → t ≢ d → is_taken choices t ≡ false → z6 high t ≡ wq t
  z6-keeps high t ne free =
      let o = off t ne free in
      put-other (z5 high) d _ t ne ∙ put-other (put (put z2 2 high) 0 x) 2 y t (apart t 2 o.1) ∙ put-other (put z2 2 high) 0 x t (apart t 0 o.0)
      ∙ put-other z2 2 high t (apart t 2 o.1) ∙ put-other wr d v t ne ∙ put-other wq 0 (wq a) t (apart t 0 o.0)

  abbrev near : Bool → List Instr
  near signed = moved 0 a ++ (number_row d v ∷ high_half signed ∷ division signed d ∷ RmReg alu.Mov d r ∷ [])

  -- the dividend, and the divisor
  dividend : is_dividend d ≡ false → z2 0 ≡ wq a
  dividend e = let o = or_parts (d == 0) (d == 2) e in put-other wr d v 0 (λ z. apart d 0 o.0 (sym z))

  divisor : is_dividend d ≡ false → (high : ℕ) → put z2 2 high d ≡ v
  divisor e high = let o = or_parts (d == 0) (d == 2) e in put-other z2 2 high d (apart d 2 o.1) ∙ put-same wr d v

  by-place : (signed : Bool) (z : ℕ) → MakesWord choices (far signed) d z q → (is_dividend d ≡ false → MakesWord choices (near signed) d z q)
      → MakesWord choices (divided_number signed frame r d a v) d z q
  by-place signed z f n = by (is_dividend d) refl
    where
      by : (k : Bool) → is_dividend d ≡ k → MakesWord choices (if k then far signed else near signed) d z q
      by true e = f
      by false e = n e

  pub signed-number : quotient_wide_signed (sign_word (wq a)) (wq a) v ≡ Some (x, y) → (z : ℕ) → ((high : ℕ) → x5 high r ≡ z) → ((high : ℕ) → z5 high r ≡ z)
      → MakesWord choices (divided_number true frame r d a v) d z q
  signed-number is z e e' = by-place true z
      record {
        registers = x7 (sign_word (wq a));
        flags = no_flags;
        value = x7-value (sign_word (wq a)) z (e (sign_word (wq a)));
        keeps = x7-keeps (sign_word (wq a));
        makes_it = λ bytes. moved-makes 0 a (number_row 5 v ∷ Bare Cqo ∷ Unary Idiv 5 ∷ tail) wq q.flags bytes
            ∙ ap (option_and_then (makes (Bare Cqo ∷ Unary Idiv 5 ∷ tail))) (row-value 5 v small (scene wr q.flags bytes))
            ∙ ap (λ o. option_and_then (makes tail) (sets_quotient (scene (put u2 2 (sign_word (wq a))) q.flags bytes) o)) is;
      }
      (λ at. record {
        registers = z6 (sign_word (wq a));
        flags = no_flags;
        value = put-same (z5 (sign_word (wq a))) d (z5 (sign_word (wq a)) r) ∙ e' (sign_word (wq a));
        keeps = z6-keeps (sign_word (wq a));
        makes_it = λ bytes. moved-makes 0 a (number_row d v ∷ Bare Cqo ∷ Unary Idiv d ∷ RmReg alu.Mov d r ∷ []) wq q.flags bytes
            ∙ ap (option_and_then (makes (Bare Cqo ∷ Unary Idiv d ∷ RmReg alu.Mov d r ∷ []))) (row-value d v small (scene wr q.flags bytes))
            ∙ ap (λ n. makes (Unary Idiv d ∷ RmReg alu.Mov d r ∷ []) (scene (put z2 2 (sign_word n)) q.flags bytes)) (dividend at)
            ∙ ap (λ o. option_and_then (makes (RmReg alu.Mov d r ∷ [])) (sets_quotient (scene (put z2 2 (sign_word (wq a))) q.flags bytes) o))
            ((λ i. quotient_wide_signed (sign_word (wq a)) (dividend at i) (divisor at (sign_word (wq a)) i)) ∙ is);
      })

  pub unsigned-number : quotient_wide 0 (wq a) v ≡ Some (x, y) → (z : ℕ) → ((high : ℕ) → x5 high r ≡ z) → ((high : ℕ) → z5 high r ≡ z)
      → MakesWord choices (divided_number false frame r d a v) d z q
  unsigned-number is z e e' = by-place false z
      record {
        registers = x7 0;
        flags = no_flags;
        value = x7-value 0 z (e 0);
        keeps = x7-keeps 0;
        makes_it = λ bytes. moved-makes 0 a (number_row 5 v ∷ Movi32 2 0 ∷ Unary Div 5 ∷ tail) wq q.flags bytes
            ∙ ap (option_and_then (makes (Movi32 2 0 ∷ Unary Div 5 ∷ tail))) (row-value 5 v small (scene wr q.flags bytes))
            ∙ ap (λ o. option_and_then (makes tail) (sets_quotient (scene (put u2 2 0) q.flags bytes) o)) is;
      }
      (λ at. record {
        registers = z6 0;
        flags = no_flags;
        value = put-same (z5 0) d (z5 0 r) ∙ e' 0;
        keeps = z6-keeps 0;
        makes_it = λ bytes. moved-makes 0 a (number_row d v ∷ Movi32 2 0 ∷ Unary Div d ∷ RmReg alu.Mov d r ∷ []) wq q.flags bytes
            ∙ ap (option_and_then (makes (Movi32 2 0 ∷ Unary Div d ∷ RmReg alu.Mov d r ∷ []))) (row-value d v small (scene wr q.flags bytes))
            ∙ ap (λ o. option_and_then (makes (RmReg alu.Mov d r ∷ [])) (sets_quotient (scene (put z2 2 0) q.flags bytes) o))
            ((λ i. quotient_wide 0 (dividend at i) (divisor at 0 i)) ∙ is);
      })

-- ---- sums
negated-small : (v : ℕ) → negated v < 2 ^ 64
negated-small v = omega arith

plus-negated : (m v : ℕ) → m < 2 ^ 64 → v < 2 ^ 64 → add_words m (negated v) ≡ sub_words m v
plus-negated m v h k = omega (arith, h, k)

-- ---- all operations
module _ (choices : List Choice) (frame d a v : ℕ) (q : Held) (d5 : d ≢ 5) (d4 : d ≢ 4) (small : v < 2 ^ 64) (words : (r : ℕ) → q.registers r < 2 ^ 64) (pointer : add_words (q.registers 4) (frame - 16) ≡ q.registers 5) where
  abbrev m : ℕ
  m = q.registers a

  rowed : (op : ImmOp) (x z : ℕ) → is_kept_by (alu_of op) ≡ false → carry_for (alu_of op) (carry_of q.flags) ≡ Some false → alu_value (alu_of op) m v 0 ≡ x → Some x ≡ Some z
      → MakesWord choices (with_number op (alu_of op) frame d a v) d z q
  rowed op x z kept given is e = as-word choices (with_number op (alu_of op) frame d a v) d _ z q (number-row-word op frame d a v false q kept given d5 d4 small pointer).word (is ∙ some-same x z e)

  row-word : (o : BinaryOp) (op : ImmOp) (x z : ℕ) → is_kept_by (alu_of op) ≡ false → carry_for (alu_of op) (carry_of q.flags) ≡ Some false → number_form_code o frame d a v ≡ with_number op (alu_of op) frame d a v → alu_value (alu_of op) m v 0 ≡ x → Some x ≡ Some z
      → MakesWord choices (number_form_code o frame d a v) d z q
  row-word o op x z kept given same is e = subst (λ body. MakesWord choices body d z q) (sym same) (rowed op x z kept given is e)

  -- `lea`, where it makes the sum
  near-word : (n : ℕ) → n < 2 ^ 64 → (rest : List Instr) (z : ℕ) → add_words m n ≡ z → MakesWord choices rest d z q → MakesWord choices (if is_near d a n then Load Lea d a (signed_view n) ∷ [] else rest) d z q
  near-word n low rest z is other = by (is_near d a n)
    where
      by : (b : Bool) → MakesWord choices (if b then Load Lea d a (signed_view n) ∷ [] else rest) d z q
      by true = put-word choices (Load Lea d a (signed_view n) ∷ []) d z q q.flags
          (λ bytes. ap (λ x. Some (scene (put q.registers d (add_words m x)) q.flags bytes)) (view-word n low) ∙ ap (λ x. Some (scene (put q.registers d x) q.flags bytes)) is)
      by false = other

  answered : (c : Cond) (t : Bool) (z : ℕ) → condition_holds c (difference_flags m v 0 (sub_words m v)) ≡ Some t → Some (word_of_test t) ≡ Some z → MakesWord choices (compared_number c frame d a v) d z q
  answered c t z is e = as-word choices (compared_number c frame d a v) d (word_of_test t) z q (answer-number frame d a v q d5 d4 small words pointer c t is) (some-same _ z e)

  pub number-word : (o : BinaryOp) (z : ℕ) → sets_carry o ≡ false → ((r : ℕ) → is_taken choices r ≡ false → r ≢ d → number_spoils o r ≡ false) → binary_value o m v ≡ Some z → MakesWord choices (number_form_code o frame d a v) d z q
  number-word binary.Add z p l e = near-word v small (with_number imm.Addi alu.Add frame d a v) z (some-same _ z e) (rowed imm.Addi (add_words m v) z refl refl refl e)
  number-word binary.Sub z p l e = near-word (negated v) (negated-small v) (with_number imm.Subi alu.Sub frame d a v) z (plus-negated m v (words a) small ∙ some-same _ z e) (rowed imm.Subi (sub_words m v) z refl refl refl e)
  number-word binary.And z p l e = row-word binary.And imm.Andi (bit_and m v) z refl refl refl refl e
  number-word binary.Or z p l e = row-word binary.Or imm.Ori (bit_or m v) z refl refl refl refl e
  number-word binary.Xor z p l e = row-word binary.Xor imm.Xori (bit_xor m v) z refl refl refl refl e
  number-word binary.Rsb z p l e = as-word choices (number_form_code binary.Rsb frame d a v) d (sub_words v m) z q (turned-number frame d a v q d5 d4 small words pointer) (some-same _ z e)
  number-word binary.Mul z p l e = as-word choices (number_form_code binary.Mul frame d a v) d (mul_words m v) z q (product-word frame d a v q d5 d4 small words pointer) (some-same _ z e)
  number-word binary.Lsh z p l e = as-word choices (number_form_code binary.Lsh frame d a v) d (shifted_left m (v % 64)) z q (shift-number frame d a v q d5 d4 small words pointer Shli) (some-same _ z e)
  number-word binary.Rsh z p l e = as-word choices (number_form_code binary.Rsh frame d a v) d (shifted_right_signed m (v % 64)) z q (shift-number frame d a v q d5 d4 small words pointer Sari) (some-same _ z e)
  number-word binary.RshU z p l e = as-word choices (number_form_code binary.RshU frame d a v) d (shifted_right m (v % 64)) z q (shift-number frame d a v q d5 d4 small words pointer Shri) (some-same _ z e)
  number-word binary.Div z p l e = let k = where-is (divides m v) (quotient_signed m v) z e in signed-number choices frame 0 d a v q d5 d4 small pointer l (quotient_signed m v) (remainder_signed m v) (signed-quotient m v (words a) small k.holds) z (λ high. k.is) (λ high. k.is)
  number-word binary.Rem z p l e = let k = where-is (divides m v) (remainder_signed m v) z e in signed-number choices frame 2 d a v q d5 d4 small pointer l (quotient_signed m v) (remainder_signed m v) (signed-quotient m v (words a) small k.holds) z (λ high. k.is) (λ high. k.is)
  number-word binary.DivU z p l e = let k = where-is (not (v == 0)) (quotient m v) z e in unsigned-number choices frame 0 d a v q d5 d4 small pointer l (quotient m v) (remainder m v) (unsigned-quotient m v k.holds) z (λ high. k.is) (λ high. k.is)
  number-word binary.RemU z p l e = let k = where-is (not (v == 0)) (remainder m v) z e in unsigned-number choices frame 2 d a v q d5 d4 small pointer l (quotient m v) (remainder m v) (unsigned-quotient m v k.holds) z (λ high. k.is) (λ high. k.is)
  number-word binary.Lt z p l e = answered cond.Less _ z (less-tells m v (words a) small) e
  number-word binary.LtU z p l e = answered cond.Below _ z (below-tells m v (words a) small) e
  number-word binary.Le z p l e = answered cond.LessOrEqual _ z (less-or-equal-tells m v (words a) small) e
  number-word binary.LeU z p l e = answered cond.BelowOrEqual _ z (below-or-equal-tells m v (words a) small) e
  number-word binary.Ge z p l e = answered cond.GreaterOrEqual _ z (greater-or-equal-tells m v (words a) small) e
  number-word binary.GeU z p l e = answered cond.AboveOrEqual _ z (above-or-equal-tells m v (words a) small) e
  number-word binary.Gt z p l e = answered cond.Greater _ z (greater-tells m v (words a) small) e
  number-word binary.GtU z p l e = answered cond.Above _ z (above-tells m v (words a) small) e
  number-word binary.Eq z p l e = answered cond.Equal _ z (equal-tells m v (words a) small) e
  number-word binary.Ne z p l e = answered cond.NotEqual _ z (not-equal-tells m v (words a) small) e
  number-word binary.Addc z p l e = cc
  number-word o z p l e = cc

pub numbers-are-made : NumbersAreMade
numbers-are-made choices frame d a v q d5 d4 small f o z plain lends e = number-word choices frame d a v q d5 d4 small f.words f.pointer o z plain lends e
