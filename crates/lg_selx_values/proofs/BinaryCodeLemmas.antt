-- The code of the operations on two words in registers gives a register their word, for every pattern of equal registers.
use Rattle.std.proofs.Common.{◌≡◌, ◌≢◌, ℕ, ◌+◌, ◌-◌, ◌*◌, ◌/◌, ◌%◌, ◌<◌, ◌^◌, Bool, true, false, List, [], ◌∷◌, ◌++◌, Option, Some, refl, sym, ap, ◌∙◌, append_assoc}
use Rattle.std.specs.Prelude.{◌==◌, ◌||◌, not, bit_and, bit_or, bit_xor, if◌then◌else◌}
use Rattle.std.specs.Option.{option_and_then}
use Rattle.std.proofs.lemmas.Nat.{and_comm, or_comm, xor_comm}
use Rattle.std.proofs.Math.Nat.{mul_comm}
use Rattle.lg_base.specs.Words.{add_words, sub_words, mul_words, differ, is_negative, is_less, is_less_signed, word_of_test, borrow_out, quotient, remainder, quotient_signed, remainder_signed, shifted_left, shifted_right, shifted_right_signed}
use Rattle.lg_base.specs.Wide.{zero_part_of, quotient_wide, quotient_wide_signed}
use Rattle.lg_op.specs.declared.op.BinaryOp.{BinaryOp}
use Rattle.lg_op.specs.declared.op.BinaryOp.TheVariants as binary
use Rattle.lg_op.specs.Operators.{word_where, divides, binary_value, sets_carry}
use Rattle.lg_x86.specs.declared.instruction.Instr.{Instr}
use Rattle.lg_x86.specs.declared.instruction.Instr.TheVariants.{RmReg, RegRm, Lea2, Unary}
use Rattle.lg_x86.specs.declared.instruction.RmRegOp.TheVariants as alu
use Rattle.lg_x86.specs.declared.instruction.RegRmOp.TheVariants.{Imul, Ext8u}
use Rattle.lg_x86.specs.declared.instruction.UnaryOp.{UnaryOp}
use Rattle.lg_x86.specs.declared.instruction.UnaryOp.TheVariants.{Shl, Shr, Sar}
use Rattle.lg_x86.specs.declared.instruction.ShiftOp.{ShiftOp}
use Rattle.lg_x86.specs.declared.instruction.ShiftOp.TheVariants.{Shli, Shri, Sari}
use Rattle.lg_x86.specs.declared.instruction.Cond.{Cond}
use Rattle.lg_x86.specs.declared.instruction.Cond.TheVariants as cond
use Rattle.lg_cpu.specs.HostSteps.{put}
use Rattle.lg_base.specs.declared.flags.Flags.{Flags}
use Rattle.lg_cpu.specs.X86Operators.{no_flags, bit, difference_flags, overflows_difference, product_flags, needs_high_signed, shift_value, shift_flags, condition_holds, either, sign_word}
use Rattle.lg_cpu.specs.X86Step.{sets_byte, sets_quotient}
use Rattle.lg_temp.specs.declared.choice.Choice.{Choice}
use Rattle.lg_selx_values.specs.Processor.Makings.{makes}
use Rattle.lg_selx_values.specs.Processor.MakingNodes.{scene}
use Rattle.lg_carry.specs.Nodes.Straight.{is_taken}
use Rattle.lg_carry.specs.Values.Computers.{Held}
use Rattle.lg_selx_values.specs.WordLaws.{BinariesAreMade}
use Rattle.lg_selx_values.specs.Scratch.{moved, again}
use Rattle.lg_selx_values.specs.BinaryCode.{commuting, added, product, compared, shifted, high_half, division, is_dividend, divided, register_code}
use Rattle.lg_selx_values.specs.Needs.{spoils}
use Rattle.lg_selx_values.specs.Words.{MakesWord}
use Rattle.lg_selx_values.proofs.RegisterLemmas.{put-same, put-other, put-twice, equal, apart, moved-makes, moved-last}
use Rattle.lg_selx_values.proofs.WordLemmas.{add-swap, answer-word, less-signed, less, zero-difference, not-greater-signed, not-greater, turned-twice}
use Rattle.lg_selx_values.proofs.AluLemmas.{put-word, commuting-word, difference-word}
use Rattle.lg_selx_values.proofs.QuotientLemmas.{signed-quotient, unsigned-quotient}

abbrev AreWords : (ℕ → ℕ) → Type 0
AreWords w = (r : ℕ) → w r < 2 ^ 64

pub some-same : {A : Type 0} (x y : A) → Some x ≡ Some y → x ≡ y
some-same x y e = cc

-- the word that is made is this one
pub as-word : (choices : List Choice) (body : List Instr) (d x z : ℕ) (q : Held) → MakesWord choices body d x q → x ≡ z → MakesWord choices body d z q
as-word choices body d x z q s e = record { registers = s.registers; flags = s.flags; value = s.value ∙ e; keeps = s.keeps; makes_it = s.makes_it }

-- ---- sums
added-word : (choices : List Choice) (d a b : ℕ) (q : Held) → MakesWord choices (added d a b) d (add_words (q.registers a) (q.registers b)) q
added-word choices d a b q = by ((d == a) || (d == b))
  where
    by : (k : Bool) → MakesWord choices (if k then commuting alu.Add d a b else Lea2 d a b ∷ []) d (add_words (q.registers a) (q.registers b)) q
    by true = commuting-word choices alu.Add d a b false q refl refl (λ m n k. add-swap m n)
    by false = put-word choices (Lea2 d a b ∷ []) d (add_words (q.registers a) (q.registers b)) q q.flags (λ bytes. refl)

-- ---- products
pub mul-swap : (a b : ℕ) → mul_words a b ≡ mul_words b a
mul-swap a b = ap (λ x. x % 2 ^ 64) (mul_comm a b)

product-word : (choices : List Choice) (d a b : ℕ) (q : Held) → MakesWord choices (product d a b) d (mul_words (q.registers a) (q.registers b)) q
product-word choices d a b q = by (d == b) refl
  where
    by : (k : Bool) → (d == b) ≡ k → MakesWord choices (if k then RegRm Imul d a ∷ [] else moved d a ++ RegRm Imul d b ∷ []) d (mul_words (q.registers a) (q.registers b)) q
    by true e =
        let w : ℕ → ℕ = q.registers in
        let value : mul_words (w d) (w a) ≡ mul_words (w a) (w b) = ap (λ x. mul_words x (w a)) (ap w (equal d b e)) ∙ mul-swap (w b) (w a) in
        put-word choices (RegRm Imul d a ∷ []) d (mul_words (w a) (w b)) q (product_flags (needs_high_signed (w d) (w a)))
        (λ bytes. ap (λ x. Some (scene (put w d x) (product_flags (needs_high_signed (w d) (w a))) bytes)) value)
    by false e =
        let w : ℕ → ℕ = q.registers in
        let u : ℕ → ℕ = put w d (w a) in
        let first : u d ≡ w a = put-same w d (w a) in
        let second : u b ≡ w b = put-other w d (w a) b (λ z. apart d b e (sym z)) in
        let flags' : Flags = product_flags (needs_high_signed (w a) (w b)) in
        put-word choices (moved d a ++ RegRm Imul d b ∷ []) d (mul_words (w a) (w b)) q flags'
        (λ bytes. moved-makes d a (RegRm Imul d b ∷ []) w q.flags bytes
        ∙ (λ i. Some (scene (put u d (mul_words (first i) (second i))) (product_flags (needs_high_signed (first i) (second i))) bytes))
        ∙ ap (λ g. Some (scene g flags' bytes)) (put-twice w d (w a) (mul_words (w a) (w b))))

-- ---- comparisons
compared-word : (choices : List Choice) (c : Cond) (d a b : ℕ) (q : Held) (t : Bool) → condition_holds c (difference_flags (q.registers a) (q.registers b) 0 (sub_words (q.registers a) (q.registers b))) ≡ Some t
    → MakesWord choices (compared c d a b) d (word_of_test t) q
compared-word choices c d a b q t e =
    let w : ℕ → ℕ = q.registers in
    let flags' : Flags = difference_flags (w a) (w b) 0 (sub_words (w a) (w b)) in
    let x : ℕ = w d / 256 * 256 + bit t in
    put-word choices (compared c d a b) d (word_of_test t) q flags'
    (λ bytes. ap (λ o. option_and_then (makes (RegRm Ext8u d d ∷ [])) (sets_byte d (scene w flags' bytes) o)) e
    ∙ ap (λ y. Some (scene (put (put w d x) d (zero_part_of y 1)) flags' bytes)) (put-same w d x)
    ∙ ap (λ g. Some (scene g flags' bytes)) (put-twice w d x (zero_part_of x 1))
    ∙ ap (λ y. Some (scene (put w d y) flags' bytes)) (answer-word (w d) t))

-- ---- the condition of each comparison
module _ (a b : ℕ) (h : a < 2 ^ 64) (k : b < 2 ^ 64) where
  abbrev f : Flags
  f = difference_flags a b 0 (sub_words a b)

  signs : differ (is_negative (sub_words a b)) (overflows_difference a b (sub_words a b)) ≡ is_less_signed a b
  signs = less-signed a b h k

  zero : (sub_words a b == 0) ≡ (a == b)
  zero = zero-difference a b h k

  at-most-signed : either (sub_words a b == 0) (differ (is_negative (sub_words a b)) (overflows_difference a b (sub_words a b))) ≡ not (is_less_signed b a)
  at-most-signed = (λ i. either (zero i) (signs i)) ∙ not-greater-signed a b h k

  at-most : either (borrow_out a b 0) (sub_words a b == 0) ≡ not (is_less b a)
  at-most = (λ i. either (less a b i) (zero i)) ∙ not-greater a b

  pub less-tells : condition_holds cond.Less f ≡ Some (is_less_signed a b)
  less-tells = ap Some signs

  pub below-tells : condition_holds cond.Below f ≡ Some (is_less a b)
  below-tells = ap Some (less a b)

  pub less-or-equal-tells : condition_holds cond.LessOrEqual f ≡ Some (not (is_less_signed b a))
  less-or-equal-tells = ap Some at-most-signed

  pub below-or-equal-tells : condition_holds cond.BelowOrEqual f ≡ Some (not (is_less b a))
  below-or-equal-tells = ap Some at-most

  pub greater-or-equal-tells : condition_holds cond.GreaterOrEqual f ≡ Some (not (is_less_signed a b))
  greater-or-equal-tells = ap (λ x. Some (not x)) signs

  pub above-or-equal-tells : condition_holds cond.AboveOrEqual f ≡ Some (not (is_less a b))
  above-or-equal-tells = ap (λ x. Some (not x)) (less a b)

  pub greater-tells : condition_holds cond.Greater f ≡ Some (is_less_signed b a)
  greater-tells = ap (λ x. Some (not x)) at-most-signed ∙ ap Some (turned-twice (is_less_signed b a))

  pub above-tells : condition_holds cond.Above f ≡ Some (is_less b a)
  above-tells = ap (λ x. Some (not x)) at-most ∙ ap Some (turned-twice (is_less b a))

  pub equal-tells : condition_holds cond.Equal f ≡ Some (a == b)
  equal-tells = ap Some zero

  pub not-equal-tells : condition_holds cond.NotEqual f ≡ Some (not (a == b))
  not-equal-tells = ap (λ x. Some (not x)) zero

-- ---- shifts
record IsShift (op : UnaryOp) (by : ShiftOp) : Type 0 where
  made : (d : ℕ) (w : ℕ → ℕ) (f : Flags) (bytes : ℕ → Option ℕ) → makes (Unary op d ∷ []) (scene w f bytes) ≡ Some (scene (put w d (shift_value by (w d) (w 1 % 64))) (shift_flags by f (w d) (w 1 % 64)) bytes)

shifted-word : (choices : List Choice) (op : UnaryOp) (by : ShiftOp) (d a b : ℕ) (q : Held) → IsShift op by → d ≢ 1 → a ≢ 1 → ((r : ℕ) → is_taken choices r ≡ false → r ≢ d → (r == 1) ≡ false)
    → MakesWord choices (shifted op d a b) d (shift_value by (q.registers a) (q.registers b % 64)) q
shifted-word choices op by d a b q is d1 a1 lends =
    let w : ℕ → ℕ = q.registers in
    let u : ℕ → ℕ = put w 1 (w b) in
    let v : ℕ → ℕ = put u d (u a) in
    let count : v 1 % 64 ≡ w b % 64 = ap (λ x. x % 64) (put-other u d (u a) 1 (λ e. d1 (sym e)) ∙ put-same w 1 (w b)) in
    let word : v d ≡ w a = put-same u d (u a) ∙ put-other w 1 (w b) a a1 in
    let z : ℕ = shift_value by (w a) (w b % 64) in
    record {
      registers = put v d z;
      flags = shift_flags by q.flags (w a) (w b % 64);
      value = put-same v d z;
      keeps = λ r ne free. put-other v d z r ne ∙ put-other u d (u a) r ne ∙ put-other w 1 (w b) r (apart r 1 (lends r free ne));
      makes_it = λ bytes. moved-makes d a (Unary op d ∷ []) u q.flags bytes ∙ is.made d v q.flags bytes ∙ (λ i. Some (scene (put v d (shift_value by (word i) (count i))) (shift_flags by q.flags (word i) (count i)) bytes));
    }

-- ---- quotients
either-false : (b c : Bool) → (b || c) ≡ false → (b ≡ false) × (c ≡ false)
either-false true c e = cc
either-false false c e = (refl, e)

-- the two registers that a division takes are taken, or the result's
module _ (choices : List Choice) (frame r d a b : ℕ) (q : Held) (d5 : d ≢ 5) (d4 : d ≢ 4) (a2 : a ≢ 2) (pointer : add_words (q.registers 4) (frame - 16) ≡ q.registers 5)
    (lends : (x : ℕ) → is_taken choices x ≡ false → x ≢ d → ((x == 0) || (x == 2)) ≡ false) (x y : ℕ) where
  abbrev w : ℕ → ℕ
  w = q.registers

  off : (t : ℕ) → t ≢ d → is_taken choices t ≡ false → ((t == 0) ≡ false) × ((t == 2) ≡ false)
  off t ne free = either-false (t == 0) (t == 2) (lends t free ne)

  -- the divisor is in rax or rdx, and goes to rbp
  abbrev u1 : ℕ → ℕ
  u1 = put w 2 (w b)

  abbrev u3 : ℕ → ℕ
  u3 = put (put u1 0 (u1 a)) 5 (w b)

  abbrev u5 : ℕ → ℕ → ℕ
  u5 high = put (put (put u3 2 high) 0 x) 2 y

  abbrev u6 : ℕ → ℕ → ℕ
  u6 high = put (u5 high) d (u5 high r)

  abbrev u7 : ℕ → ℕ → ℕ
  u7 high = put (u6 high) 5 (add_words (u6 high 4) (frame - 16))

  first : u1 a ≡ w a
  first = put-other w 2 (w b) a a2

  value-is : (high z : ℕ) → u5 high r ≡ z → u7 high d ≡ z
  value-is high z e = put-other (u6 high) 5 _ d d5 ∙ put-same (u5 high) d (u5 high r) ∙ e

  keeps-is : (high t : ℕ) → t ≢ d → is_taken choices t ≡ false → u7 high t ≡ w t
  keeps-is high t ne free = by (t == 5) refl
    where
      by : (k : Bool) → (t == 5) ≡ k → u7 high t ≡ w t
      by true e =
          let z : t ≡ 5 = equal t 5 e in
          let low : u6 high 4 ≡ w 4 = put-other (u5 high) d _ 4 (λ f. d4 (sym f)) in
          ap (u7 high) z ∙ ap (λ n. add_words n (frame - 16)) low ∙ pointer ∙ ap w (sym z)
      by false e =
          let o = off t ne free in
          put-other (u6 high) 5 _ t (apart t 5 e) ∙ put-other (u5 high) d _ t ne ∙ put-other (put (put u3 2 high) 0 x) 2 y t (apart t 2 o.1) ∙ put-other (put u3 2 high) 0 x t (apart t 0 o.0)
          ∙ put-other u3 2 high t (apart t 2 o.1) ∙ put-other (put u1 0 (u1 a)) 5 (w b) t (apart t 5 e) ∙ put-other u1 0 (u1 a) t (apart t 0 o.0) ∙ put-other w 2 (w b) t (apart t 2 o.1)

  abbrev rest : List Instr
  rest = RmReg alu.Mov d r ∷ again frame

  abbrev far : Bool → List Instr
  far signed = RmReg alu.Mov 2 b ∷ RmReg alu.Mov 0 a ∷ RmReg alu.Mov 5 2 ∷ high_half signed ∷ division signed 5 ∷ rest

  -- it is in another register, and stays there
  abbrev v1 : ℕ → ℕ
  v1 = put w 0 (w a)

  abbrev v3 : ℕ → ℕ → ℕ
  v3 high = put (put (put v1 2 high) 0 x) 2 y

  abbrev v4 : ℕ → ℕ → ℕ
  v4 high = put (v3 high) d (v3 high r)

  near-keeps : (high t : ℕ) → t ≢ d → is_taken choices t ≡ false → v4 high t ≡ w t
  near-keeps high t ne free =
      let o = off t ne free in
      put-other (v3 high) d _ t ne ∙ put-other (put (put v1 2 high) 0 x) 2 y t (apart t 2 o.1) ∙ put-other (put v1 2 high) 0 x t (apart t 0 o.0)
      ∙ put-other v1 2 high t (apart t 2 o.1) ∙ put-other w 0 (w a) t (apart t 0 o.0)

  abbrev near : Bool → List Instr
  near signed = (moved 0 a ++ (high_half signed ∷ division signed b ∷ [])) ++ moved d r

  near-makes : (signed : Bool) (bytes : ℕ → Option ℕ)
      → makes (near signed) (scene w q.flags bytes) ≡ makes (high_half signed ∷ division signed b ∷ moved d r) (scene v1 q.flags bytes)
  near-makes signed bytes =
      ap (λ c. makes c (scene w q.flags bytes)) (append_assoc (moved 0 a) (high_half signed ∷ division signed b ∷ []) (moved d r))
      ∙ moved-makes 0 a (high_half signed ∷ division signed b ∷ moved d r) w q.flags bytes

  divisor : is_dividend b ≡ false → (high : ℕ) → put v1 2 high b ≡ w b
  divisor e high =
      let o = either-false (b == 0) (b == 2) e in put-other v1 2 high b (apart b 2 o.1) ∙ put-other w 0 (w a) b (apart b 0 o.0)

  by-place : (signed : Bool) (z : ℕ) → (is_dividend b ≡ true → MakesWord choices (far signed) d z q) → (is_dividend b ≡ false → MakesWord choices (near signed) d z q)
      → MakesWord choices (divided signed frame r d a b) d z q
  by-place signed z f n = by (is_dividend b) refl
    where
      by : (k : Bool) → is_dividend b ≡ k → MakesWord choices (if k then far signed else near signed) d z q
      by true e = f e
      by false e = n e

  pub signed-word : quotient_wide_signed (sign_word (w a)) (w a) (w b) ≡ Some (x, y) → (z : ℕ) → ((high : ℕ) → u5 high r ≡ z) → ((high : ℕ) → v3 high r ≡ z)
      → MakesWord choices (divided true frame r d a b) d z q
  signed-word is z e e' = by-place true z
      (λ at. record {
        registers = u7 (sign_word (u1 a));
        flags = no_flags;
        value = value-is (sign_word (u1 a)) z (e (sign_word (u1 a)));
        keeps = keeps-is (sign_word (u1 a));
        makes_it = λ bytes. ap (λ o. option_and_then (makes rest) (sets_quotient (scene (put u3 2 (sign_word (u1 a))) q.flags bytes) o)) (ap (λ n. quotient_wide_signed (sign_word n) n (w b)) first ∙ is);
      })
      (λ at. record {
        registers = v4 (sign_word (w a));
        flags = no_flags;
        value = put-same (v3 (sign_word (w a))) d (v3 (sign_word (w a)) r) ∙ e' (sign_word (w a));
        keeps = near-keeps (sign_word (w a));
        makes_it = λ bytes. near-makes true bytes
            ∙ ap (λ o. option_and_then (makes (moved d r)) (sets_quotient (scene (put v1 2 (sign_word (w a))) q.flags bytes) o))
            (ap (λ n. quotient_wide_signed (sign_word (w a)) (w a) n) (divisor at (sign_word (w a))) ∙ is)
            ∙ moved-last d r (v3 (sign_word (w a))) no_flags bytes;
      })

  pub unsigned-word : quotient_wide 0 (w a) (w b) ≡ Some (x, y) → (z : ℕ) → ((high : ℕ) → u5 high r ≡ z) → ((high : ℕ) → v3 high r ≡ z)
      → MakesWord choices (divided false frame r d a b) d z q
  unsigned-word is z e e' = by-place false z
      (λ at. record {
        registers = u7 0;
        flags = no_flags;
        value = value-is 0 z (e 0);
        keeps = keeps-is 0;
        makes_it = λ bytes. ap (λ o. option_and_then (makes rest) (sets_quotient (scene (put u3 2 0) q.flags bytes) o)) (ap (λ n. quotient_wide 0 n (w b)) first ∙ is);
      })
      (λ at. record {
        registers = v4 0;
        flags = no_flags;
        value = put-same (v3 0) d (v3 0 r) ∙ e' 0;
        keeps = near-keeps 0;
        makes_it = λ bytes. near-makes false bytes
            ∙ ap (λ o. option_and_then (makes (moved d r)) (sets_quotient (scene (put v1 2 0) q.flags bytes) o))
            (ap (λ n. quotient_wide 0 (w a) n) (divisor at 0) ∙ is)
            ∙ moved-last d r (v3 0) no_flags bytes;
      })

-- ---- all operations

-- where a word is defined, its condition holds
record IsWhere (b : Bool) (n z : ℕ) : Type 0 where
  holds : b ≡ true
  is : n ≡ z

where-is : (b : Bool) (n z : ℕ) → word_where b n ≡ Some z → IsWhere b n z
where-is true n z e = record { holds = refl; is = some-same n z e }
where-is false n z e = cc

module _ (choices : List Choice) (frame d a b : ℕ) (q : Held) (d5 : d ≢ 5) (d4 : d ≢ 4) (d1 : d ≢ 1) (a1 : a ≢ 1) (a2 : a ≢ 2) (words : AreWords q.registers) (pointer : add_words (q.registers 4) (frame - 16) ≡ q.registers 5) where
  abbrev x : ℕ
  x = q.registers a

  abbrev y : ℕ
  y = q.registers b

  pub register-word : (o : BinaryOp) (z : ℕ) → sets_carry o ≡ false → ((r : ℕ) → is_taken choices r ≡ false → r ≢ d → spoils o r ≡ false) → binary_value o x y ≡ Some z → MakesWord choices (register_code o frame d a b) d z q
  register-word binary.Add z p l e = as-word choices (register_code binary.Add frame d a b) d (add_words x y) z q (added-word choices d a b q) (some-same _ z e)
  register-word binary.And z p l e = as-word choices (register_code binary.And frame d a b) d (bit_and x y) z q (commuting-word choices alu.And d a b false q refl refl (λ m n k. and_comm m n)) (some-same _ z e)
  register-word binary.Or z p l e = as-word choices (register_code binary.Or frame d a b) d (bit_or x y) z q (commuting-word choices alu.Or d a b false q refl refl (λ m n k. or_comm m n)) (some-same _ z e)
  register-word binary.Xor z p l e = as-word choices (register_code binary.Xor frame d a b) d (bit_xor x y) z q (commuting-word choices alu.Xor d a b false q refl refl (λ m n k. xor_comm m n)) (some-same _ z e)
  register-word binary.Sub z p l e = as-word choices (register_code binary.Sub frame d a b) d (sub_words x y) z q (difference-word choices d a b q words) (some-same _ z e)
  register-word binary.Rsb z p l e = as-word choices (register_code binary.Rsb frame d a b) d (sub_words y x) z q (difference-word choices d b a q words) (some-same _ z e)
  register-word binary.Mul z p l e = as-word choices (register_code binary.Mul frame d a b) d (mul_words x y) z q (product-word choices d a b q) (some-same _ z e)
  register-word binary.Lsh z p l e = as-word choices (register_code binary.Lsh frame d a b) d (shifted_left x (y % 64)) z q (shifted-word choices Shl Shli d a b q record { made = λ d w f bytes. refl } d1 a1 l) (some-same _ z e)
  register-word binary.Rsh z p l e = as-word choices (register_code binary.Rsh frame d a b) d (shifted_right_signed x (y % 64)) z q (shifted-word choices Sar Sari d a b q record { made = λ d w f bytes. refl } d1 a1 l) (some-same _ z e)
  register-word binary.RshU z p l e = as-word choices (register_code binary.RshU frame d a b) d (shifted_right x (y % 64)) z q (shifted-word choices Shr Shri d a b q record { made = λ d w f bytes. refl } d1 a1 l) (some-same _ z e)
  register-word binary.Div z p l e = let m = where-is (divides x y) (quotient_signed x y) z e in signed-word choices frame 0 d a b q d5 d4 a2 pointer l (quotient_signed x y) (remainder_signed x y) (signed-quotient x y (words a) (words b) m.holds) z (λ high. m.is) (λ high. m.is)
  register-word binary.Rem z p l e = let m = where-is (divides x y) (remainder_signed x y) z e in signed-word choices frame 2 d a b q d5 d4 a2 pointer l (quotient_signed x y) (remainder_signed x y) (signed-quotient x y (words a) (words b) m.holds) z (λ high. m.is) (λ high. m.is)
  register-word binary.DivU z p l e = let m = where-is (not (y == 0)) (quotient x y) z e in unsigned-word choices frame 0 d a b q d5 d4 a2 pointer l (quotient x y) (remainder x y) (unsigned-quotient x y m.holds) z (λ high. m.is) (λ high. m.is)
  register-word binary.RemU z p l e = let m = where-is (not (y == 0)) (remainder x y) z e in unsigned-word choices frame 2 d a b q d5 d4 a2 pointer l (quotient x y) (remainder x y) (unsigned-quotient x y m.holds) z (λ high. m.is) (λ high. m.is)
  register-word binary.Lt z p l e = as-word choices (register_code binary.Lt frame d a b) d _ z q (compared-word choices cond.Less d a b q _ (less-tells x y (words a) (words b))) (some-same _ z e)
  register-word binary.LtU z p l e = as-word choices (register_code binary.LtU frame d a b) d _ z q (compared-word choices cond.Below d a b q _ (below-tells x y (words a) (words b))) (some-same _ z e)
  register-word binary.Le z p l e = as-word choices (register_code binary.Le frame d a b) d _ z q (compared-word choices cond.LessOrEqual d a b q _ (less-or-equal-tells x y (words a) (words b))) (some-same _ z e)
  register-word binary.LeU z p l e = as-word choices (register_code binary.LeU frame d a b) d _ z q (compared-word choices cond.BelowOrEqual d a b q _ (below-or-equal-tells x y (words a) (words b))) (some-same _ z e)
  register-word binary.Ge z p l e = as-word choices (register_code binary.Ge frame d a b) d _ z q (compared-word choices cond.GreaterOrEqual d a b q _ (greater-or-equal-tells x y (words a) (words b))) (some-same _ z e)
  register-word binary.GeU z p l e = as-word choices (register_code binary.GeU frame d a b) d _ z q (compared-word choices cond.AboveOrEqual d a b q _ (above-or-equal-tells x y (words a) (words b))) (some-same _ z e)
  register-word binary.Gt z p l e = as-word choices (register_code binary.Gt frame d a b) d _ z q (compared-word choices cond.Greater d a b q _ (greater-tells x y (words a) (words b))) (some-same _ z e)
  register-word binary.GtU z p l e = as-word choices (register_code binary.GtU frame d a b) d _ z q (compared-word choices cond.Above d a b q _ (above-tells x y (words a) (words b))) (some-same _ z e)
  register-word binary.Eq z p l e = as-word choices (register_code binary.Eq frame d a b) d _ z q (compared-word choices cond.Equal d a b q _ (equal-tells x y (words a) (words b))) (some-same _ z e)
  register-word binary.Ne z p l e = as-word choices (register_code binary.Ne frame d a b) d _ z q (compared-word choices cond.NotEqual d a b q _ (not-equal-tells x y (words a) (words b))) (some-same _ z e)
  register-word binary.Addc z p l e = cc
  register-word o z p l e = cc

pub binaries-are-made : BinariesAreMade
binaries-are-made choices frame d a b q d5 d4 d1 a1 a2 f o z plain lends e = register-word choices frame d a b q d5 d4 d1 a1 a2 f.words f.pointer o z plain lends e
