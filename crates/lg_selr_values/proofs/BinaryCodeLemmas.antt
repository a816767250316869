-- The code of the operations on two words computes them.
use Rattle.std.proofs.Common.{◌≡◌, ◌≢◌, ℕ, ◌%◌, ◌^◌, ◌<◌, Bool, true, false, List, [], ◌∷◌, ◌++◌, Some, refl, ap, ◌∙◌, arith}
use Rattle.std.specs.Prelude.{◌==◌, ◌||◌, not, if◌then◌else◌, pos, bit_and, bit_or, bit_xor}
use Rattle.lg_base.specs.Fields.{word_of}
use Rattle.lg_base.specs.Words.{add_words, sub_words, negated, shifted_left, shifted_right, shifted_right_signed, is_less, is_less_signed, word_of_test}
use Rattle.lg_op.specs.declared.op.BinaryOp.{BinaryOp}
use Rattle.lg_op.specs.declared.op.BinaryOp.TheVariants as binary
use Rattle.lg_op.specs.Operators.{word_where, is_least_by_minus_one, binary_value, sets_carry}
use Rattle.lg_rv.specs.declared.instruction.Instr.{Instr}
use Rattle.lg_rv.specs.declared.instruction.Instr.TheVariants.{Imm, Reg}
use Rattle.lg_rv.specs.declared.instruction.ImmOp.TheVariants.{Addi, Slti, Sltiu, Xori, Ori, Andi}
use Rattle.lg_rv.specs.declared.instruction.RegOp.TheVariants as row
use Rattle.lg_cpu.specs.HostSteps.{put}
use Rattle.lg_cpu.specs.RvStep.{read}
use Rattle.lg_selr_values.specs.Processor.Computations.{all_compute, computed}
use Rattle.lg_selr_values.specs.Processor.Numbers.{is_short, low_part, number_code}
use Rattle.lg_selr_values.proofs.OfProcessor.ComputationLemmas.{read-put, read-other, put-other, computed-append, all-compute-append}
use Rattle.lg_selr_values.proofs.OfProcessor.NumberCodeLemmas.{short-word}
use Rattle.lg_selr_values.proofs.LoadCodeLemmas.{read-small, puts, puts-again, some-same, LoadsWord, put-small, loads-number}
use Rattle.lg_selr_values.specs.BinaryCode.{register_code, is_addend, loaded_code, zero_or_loaded_code, equal_code, unequal_code, held_code, held_or_loaded_code, number_form_code}

-- ---- words
turned : (b : Bool) → bit_xor (word_of_test b) 1 ≡ word_of_test (not b)
turned true = refl
turned false = refl

difference-none : (a b : ℕ) → a < 2 ^ 64 → b < 2 ^ 64 → word_of_test (is_less (sub_words a b) 1) ≡ word_of_test (a == b)
difference-none a b h k = grind (arith, h, k)

difference-some : (a b : ℕ) → a < 2 ^ 64 → b < 2 ^ 64 → word_of_test (is_less 0 (sub_words a b)) ≡ word_of_test (not (a == b))
difference-some a b h k = grind (arith, h, k)

none-below : (a v : ℕ) → (v == 0) ≡ true → word_of_test (is_less a 1) ≡ word_of_test (a == v)
none-below a v h = grind (arith, h)

some-above : (a v : ℕ) → (v == 0) ≡ true → word_of_test (is_less 0 a) ≡ word_of_test (not (a == v))
some-above a v h = grind (arith, h)

is-zero : (v : ℕ) → (v == 0) ≡ true → 0 ≡ v
is-zero v h = grind (arith, h)

add-negated : (a v : ℕ) → a < 2 ^ 64 → v < 2 ^ 64 → add_words a (negated v) ≡ sub_words a v
add-negated a v h k = omega (arith, h, k)

negated-add : (a v : ℕ) → a < 2 ^ 64 → v < 2 ^ 64 → add_words (sub_words 0 a) v ≡ sub_words v a
negated-add a v h k = omega (arith, h, k)

twice-64 : (b : ℕ) → b % 64 % 64 ≡ b % 64
twice-64 b = omega arith

-- a word that is given only where a test holds
given-where : (b : Bool) (x z : ℕ) → word_where b x ≡ Some z → (b ≡ true) × (x ≡ z)
given-where true x z e = (refl, some-same x z e)
given-where false x z e = cc

no-zero : (b c : Bool) → not (b || c) ≡ true → b ≡ false
no-zero true c e = cc
no-zero false c e = refl

not-true : (b : Bool) → not b ≡ true → b ≡ false
not-true true e = cc
not-true false e = refl

otherwise : (b : Bool) (x y z : ℕ) → b ≡ false → y ≡ z → (if b then x else y) ≡ z
otherwise b x y z e h = ap (λ c. if c then x else y) e ∙ h

-- ---- from two registers
module _ (d a b : ℕ) (some : d ≢ 0) (w : ℕ → ℕ) (words : (r : ℕ) → w r < 2 ^ 64) (z : ℕ) where
  abbrev x : ℕ
  x = read w a

  abbrev y : ℕ
  y = read w b

  pub register-value : (o : BinaryOp) → sets_carry o ≡ false → binary_value o x y ≡ Some z → computed (register_code o d a b) w d ≡ z
  register-value binary.Add h e = puts w d _ z (some-same _ z e)
  register-value binary.Sub h e = puts w d _ z (some-same _ z e)
  register-value binary.Rsb h e = puts w d _ z (some-same _ z e)
  register-value binary.Mul h e = puts w d _ z (some-same _ z e)
  register-value binary.And h e = puts w d _ z (some-same _ z e)
  register-value binary.Or h e = puts w d _ z (some-same _ z e)
  register-value binary.Xor h e = puts w d _ z (some-same _ z e)
  register-value binary.Lsh h e = puts w d _ z (some-same _ z e)
  register-value binary.Rsh h e = puts w d _ z (some-same _ z e)
  register-value binary.RshU h e = puts w d _ z (some-same _ z e)
  register-value binary.Div h e = let g = given-where _ _ z e in puts w d _ z (otherwise (y == 0) _ _ z (no-zero (y == 0) (is_least_by_minus_one x y) g.0) g.1)
  register-value binary.DivU h e = let g = given-where _ _ z e in puts w d _ z (otherwise (y == 0) _ _ z (not-true (y == 0) g.0) g.1)
  register-value binary.Rem h e = let g = given-where _ _ z e in puts w d _ z (otherwise (y == 0) _ _ z (no-zero (y == 0) (is_least_by_minus_one x y) g.0) g.1)
  register-value binary.RemU h e = let g = given-where _ _ z e in puts w d _ z (otherwise (y == 0) _ _ z (not-true (y == 0) g.0) g.1)
  register-value binary.Lt h e = puts w d _ z (some-same _ z e)
  register-value binary.LtU h e = puts w d _ z (some-same _ z e)
  register-value binary.Gt h e = puts w d _ z (some-same _ z e)
  register-value binary.GtU h e = puts w d _ z (some-same _ z e)
  register-value binary.Le h e = puts-again w d (word_of_test (is_less_signed y x)) (λ t. bit_xor t 1) z some (turned (is_less_signed y x) ∙ some-same _ z e)
  register-value binary.LeU h e = puts-again w d (word_of_test (is_less y x)) (λ t. bit_xor t 1) z some (turned (is_less y x) ∙ some-same _ z e)
  register-value binary.Ge h e = puts-again w d (word_of_test (is_less_signed x y)) (λ t. bit_xor t 1) z some (turned (is_less_signed x y) ∙ some-same _ z e)
  register-value binary.GeU h e = puts-again w d (word_of_test (is_less x y)) (λ t. bit_xor t 1) z some (turned (is_less x y) ∙ some-same _ z e)
  register-value binary.Eq h e = puts-again w d (sub_words x y) (λ t. word_of_test (is_less t 1)) z some (difference-none x y (read-small w a words) (read-small w b words) ∙ some-same _ z e)
  register-value binary.Ne h e = puts-again w d (sub_words x y) (λ t. word_of_test (is_less 0 t)) z some (difference-some x y (read-small w a words) (read-small w b words) ∙ some-same _ z e)
  register-value o h e = cc

pub register-keeps : (o : BinaryOp) (d a b : ℕ) (w : ℕ → ℕ) (r : ℕ) → r ≢ d → computed (register_code o d a b) w r ≡ w r
register-keeps binary.Le d a b w r ne = put-other (put w d _) d _ r ne ∙ put-other w d _ r ne
register-keeps binary.LeU d a b w r ne = put-other (put w d _) d _ r ne ∙ put-other w d _ r ne
register-keeps binary.Ge d a b w r ne = put-other (put w d _) d _ r ne ∙ put-other w d _ r ne
register-keeps binary.GeU d a b w r ne = put-other (put w d _) d _ r ne ∙ put-other w d _ r ne
register-keeps binary.Eq d a b w r ne = put-other (put w d _) d _ r ne ∙ put-other w d _ r ne
register-keeps binary.Ne d a b w r ne = put-other (put w d _) d _ r ne ∙ put-other w d _ r ne
register-keeps binary.Addc d a b w r ne = refl
register-keeps binary.Subc d a b w r ne = refl
register-keeps binary.Addx d a b w r ne = refl
register-keeps binary.Subx d a b w r ne = refl
register-keeps o d a b w r ne = put-other w d _ r ne

pub register-computes : (o : BinaryOp) (d a b : ℕ) → all_compute (register_code o d a b) ≡ true
register-computes binary.Add d a b = refl
register-computes o d a b = refl

-- ---- from a register and a word that is loaded into the link
module _ (load : List Instr) (v : ℕ) (l : LoadsWord load 1 v) (d a : ℕ) (w : ℕ → ℕ) (o : BinaryOp) where
  before : computed (load ++ register_code o d a 1) w ≡ computed (register_code o d a 1) (put w 1 v)
  before = computed-append load (register_code o d a 1) w ∙ ap (computed (register_code o d a 1)) (l.value w)

  pub loaded-value : d ≢ 0 → a ≢ 1 → ((r : ℕ) → w r < 2 ^ 64) → (z : ℕ) → sets_carry o ≡ false → binary_value o (read w a) v ≡ Some z → computed (load ++ register_code o d a 1) w d ≡ z
  loaded-value some apart words z h e =
      let ea : read (put w 1 v) a ≡ read w a = read-other w 1 v a apart in
      let ev : read (put w 1 v) 1 ≡ v = read-put w 1 v (λ n. absurd (omega (arith, n))) in
      let e' : binary_value o (read (put w 1 v) a) (read (put w 1 v) 1) ≡ Some z = let same : binary_value o (read (put w 1 v) a) (read (put w 1 v) 1) ≡ binary_value o (read w a) v = λ i. binary_value o (ea i) (ev i) in same ∙ e in
      ap (λ u. u d) before ∙ register-value d a 1 some (put w 1 v) (put-small w 1 v l.small words) z o h e'

  pub loaded-keeps : (r : ℕ) → r ≢ d → r ≢ 1 → computed (load ++ register_code o d a 1) w r ≡ w r
  loaded-keeps r ne link = ap (λ u. u r) before ∙ register-keeps o d a 1 (put w 1 v) r ne ∙ put-other w 1 v r link

-- ---- from a register and a number
addend-short : (v : ℕ) → v < 2 ^ 64 → is_addend v ≡ true → is_short v ≡ true
addend-short v small h = grind (arith, small, h)

addend-turned : (v : ℕ) → v < 2 ^ 64 → is_addend v ≡ true → is_short (negated v) ≡ true
addend-turned v small h = grind (arith, small, h)

negated-small : (v : ℕ) → negated v < 2 ^ 64
negated-small v = omega arith

module _ (d a v : ℕ) (some : d ≢ 0) (apart : a ≢ 1) (small : v < 2 ^ 64) (w : ℕ → ℕ) (words : (r : ℕ) → w r < 2 ^ 64) where
  loaded : (o : BinaryOp) (z : ℕ) → sets_carry o ≡ false → binary_value o (read w a) v ≡ Some z → computed (loaded_code o d a v) w d ≡ z
  loaded o z h e = loaded-value (number_code 1 v) v (loads-number 1 v (λ n. absurd (omega (arith, n))) (omega arith) small) d a w o some apart words z h e

  add-value : (b : Bool) (z : ℕ) → is_addend v ≡ b → add_words (read w a) v ≡ z → computed (if b then Imm Addi d a (low_part v) ∷ [] else loaded_code binary.Add d a v) w d ≡ z
  add-value true z near e = puts w d _ z (ap (add_words (read w a)) (short-word v small (addend-short v small near)) ∙ e)
  add-value false z far e = loaded binary.Add z refl (ap Some e)

  sub-value : (b : Bool) (z : ℕ) → is_addend v ≡ b → sub_words (read w a) v ≡ z → computed (if b then Imm Addi d a (low_part (negated v)) ∷ [] else loaded_code binary.Sub d a v) w d ≡ z
  sub-value true z near e = puts w d _ z (ap (add_words (read w a)) (short-word (negated v) (negated-small v) (addend-turned v small near)) ∙ add-negated (read w a) v (read-small w a words) small ∙ e)
  sub-value false z far e = loaded binary.Sub z refl (ap Some e)

  rsb-value : (b : Bool) (z : ℕ) → is_addend v ≡ b → sub_words v (read w a) ≡ z → computed (if b then Reg row.Sub d 0 a ∷ Imm Addi d d (low_part v) ∷ [] else loaded_code binary.Rsb d a v) w d ≡ z
  rsb-value true z near e = puts-again w d (sub_words 0 (read w a)) (λ t. add_words t (word_of (low_part v))) z some (ap (add_words (sub_words 0 (read w a))) (short-word v small (addend-short v small near)) ∙ negated-add (read w a) v (read-small w a words) small ∙ e)
  rsb-value false z far e = loaded binary.Rsb z refl (ap Some e)

  -- a row that makes f of a word and the number
  held-word : (f : ℕ → ℕ → ℕ) (z : ℕ) → is_addend v ≡ true → f (read w a) v ≡ z → put w d (f (read w a) (word_of (low_part v))) d ≡ z
  held-word f z near e = puts w d _ z (ap (f (read w a)) (short-word v small (addend-short v small near)) ∙ e)

  and-value : (b : Bool) (z : ℕ) → is_addend v ≡ b → bit_and (read w a) v ≡ z → computed (if b then Imm Andi d a (low_part v) ∷ [] else loaded_code binary.And d a v) w d ≡ z
  and-value true z near e = held-word bit_and z near e
  and-value false z far e = loaded binary.And z refl (ap Some e)

  or-value : (b : Bool) (z : ℕ) → is_addend v ≡ b → bit_or (read w a) v ≡ z → computed (if b then Imm Ori d a (low_part v) ∷ [] else loaded_code binary.Or d a v) w d ≡ z
  or-value true z near e = held-word bit_or z near e
  or-value false z far e = loaded binary.Or z refl (ap Some e)

  xor-value : (b : Bool) (z : ℕ) → is_addend v ≡ b → bit_xor (read w a) v ≡ z → computed (if b then Imm Xori d a (low_part v) ∷ [] else loaded_code binary.Xor d a v) w d ≡ z
  xor-value true z near e = held-word bit_xor z near e
  xor-value false z far e = loaded binary.Xor z refl (ap Some e)

  less-value : (b : Bool) (z : ℕ) → is_addend v ≡ b → word_of_test (is_less_signed (read w a) v) ≡ z → computed (if b then Imm Slti d a (low_part v) ∷ [] else loaded_code binary.Lt d a v) w d ≡ z
  less-value true z near e = held-word (λ x y. word_of_test (is_less_signed x y)) z near e
  less-value false z far e = loaded binary.Lt z refl (ap Some e)

  below-value : (b : Bool) (z : ℕ) → is_addend v ≡ b → word_of_test (is_less (read w a) v) ≡ z → computed (if b then Imm Sltiu d a (low_part v) ∷ [] else loaded_code binary.LtU d a v) w d ≡ z
  below-value true z near e = held-word (λ x y. word_of_test (is_less x y)) z near e
  below-value false z far e = loaded binary.LtU z refl (ap Some e)

  -- what a test makes of the number is what it makes of the word in the row
  held-turned : (f : ℕ → ℕ → Bool) (z : ℕ) → is_addend v ≡ true → word_of_test (not (f (read w a) v)) ≡ z → bit_xor (word_of_test (f (read w a) (word_of (low_part v)))) 1 ≡ z
  held-turned f z near e = turned (f (read w a) (word_of (low_part v))) ∙ ap (λ y. word_of_test (not (f (read w a) y))) (short-word v small (addend-short v small near)) ∙ e

  not-less-value : (b : Bool) (z : ℕ) → is_addend v ≡ b → word_of_test (not (is_less_signed (read w a) v)) ≡ z
      → computed (if b then Imm Slti d a (low_part v) ∷ Imm Xori d d (pos 1) ∷ [] else loaded_code binary.Ge d a v) w d ≡ z
  not-less-value true z near e = puts-again w d (word_of_test (is_less_signed (read w a) (word_of (low_part v)))) (λ t. bit_xor t 1) z some (held-turned is_less_signed z near e)
  not-less-value false z far e = loaded binary.Ge z refl (ap Some e)

  not-below-value : (b : Bool) (z : ℕ) → is_addend v ≡ b → word_of_test (not (is_less (read w a) v)) ≡ z
      → computed (if b then Imm Sltiu d a (low_part v) ∷ Imm Xori d d (pos 1) ∷ [] else loaded_code binary.GeU d a v) w d ≡ z
  not-below-value true z near e = puts-again w d (word_of_test (is_less (read w a) (word_of (low_part v)))) (λ t. bit_xor t 1) z some (held-turned is_less z near e)
  not-below-value false z far e = loaded binary.GeU z refl (ap Some e)

  -- the word less the number
  differs : is_addend v ≡ true → add_words (read w a) (word_of (low_part (negated v))) ≡ sub_words (read w a) v
  differs near = ap (add_words (read w a)) (short-word (negated v) (negated-small v) (addend-turned v small near)) ∙ add-negated (read w a) v (read-small w a words) small

  equal-held : is_addend v ≡ true → (b : Bool) (z : ℕ) → (v == 0) ≡ b → word_of_test (read w a == v) ≡ z
      → computed (if b then Imm Sltiu d a (pos 1) ∷ [] else Imm Addi d a (low_part (negated v)) ∷ Imm Sltiu d d (pos 1) ∷ []) w d ≡ z
  equal-held near true z zero e = puts w d _ z (none-below (read w a) v zero ∙ e)
  equal-held near false z other e =
      let made = ap (λ t. word_of_test (is_less t 1)) (differs near) ∙ difference-none (read w a) v (read-small w a words) small ∙ e in
      puts-again w d (add_words (read w a) (word_of (low_part (negated v)))) (λ t. word_of_test (is_less t 1)) z some made

  equal-value : (b : Bool) (z : ℕ) → is_addend v ≡ b → word_of_test (read w a == v) ≡ z → computed (if b then equal_code d a v else loaded_code binary.Eq d a v) w d ≡ z
  equal-value true z near e = equal-held near (v == 0) z refl e
  equal-value false z far e = loaded binary.Eq z refl (ap Some e)

  unequal-held : is_addend v ≡ true → (b : Bool) (z : ℕ) → (v == 0) ≡ b → word_of_test (not (read w a == v)) ≡ z
      → computed (if b then Reg row.Sltu d 0 a ∷ [] else Imm Addi d a (low_part (negated v)) ∷ Reg row.Sltu d 0 d ∷ []) w d ≡ z
  unequal-held near true z zero e = puts w d _ z (some-above (read w a) v zero ∙ e)
  unequal-held near false z other e =
      let made = ap (λ t. word_of_test (is_less 0 t)) (differs near) ∙ difference-some (read w a) v (read-small w a words) small ∙ e in
      puts-again w d (add_words (read w a) (word_of (low_part (negated v)))) (λ t. word_of_test (is_less 0 t)) z some made

  unequal-value : (b : Bool) (z : ℕ) → is_addend v ≡ b → word_of_test (not (read w a == v)) ≡ z → computed (if b then unequal_code d a v else loaded_code binary.Ne d a v) w d ≡ z
  unequal-value true z near e = unequal-held near (v == 0) z refl e
  unequal-value false z far e = loaded binary.Ne z refl (ap Some e)

  -- x0 is the number 0
  zero-value : (o : BinaryOp) (b : Bool) (z : ℕ) → (v == 0) ≡ b → sets_carry o ≡ false → binary_value o (read w a) v ≡ Some z → computed (if b then register_code o d a 0 else loaded_code o d a v) w d ≡ z
  zero-value o true z zero h e = register-value d a 0 some w words z o h (ap (binary_value o (read w a)) (is-zero v zero) ∙ e)
  zero-value o false z other h e = loaded o z h e

  pub number-value : (o : BinaryOp) (z : ℕ) → sets_carry o ≡ false → binary_value o (read w a) v ≡ Some z → computed (number_form_code o d a v) w d ≡ z
  number-value binary.Add z h e = add-value (is_addend v) z refl (some-same _ z e)
  number-value binary.Sub z h e = sub-value (is_addend v) z refl (some-same _ z e)
  number-value binary.Rsb z h e = rsb-value (is_addend v) z refl (some-same _ z e)
  number-value binary.And z h e = and-value (is_addend v) z refl (some-same _ z e)
  number-value binary.Or z h e = or-value (is_addend v) z refl (some-same _ z e)
  number-value binary.Xor z h e = xor-value (is_addend v) z refl (some-same _ z e)
  number-value binary.Lt z h e = less-value (is_addend v) z refl (some-same _ z e)
  number-value binary.LtU z h e = below-value (is_addend v) z refl (some-same _ z e)
  number-value binary.Ge z h e = not-less-value (is_addend v) z refl (some-same _ z e)
  number-value binary.GeU z h e = not-below-value (is_addend v) z refl (some-same _ z e)
  number-value binary.Eq z h e = equal-value (is_addend v) z refl (some-same _ z e)
  number-value binary.Ne z h e = unequal-value (is_addend v) z refl (some-same _ z e)
  number-value binary.Lsh z h e = puts w d _ z (ap (shifted_left (read w a)) (twice-64 v) ∙ some-same _ z e)
  number-value binary.Rsh z h e = puts w d _ z (ap (shifted_right_signed (read w a)) (twice-64 v) ∙ some-same _ z e)
  number-value binary.RshU z h e = puts w d _ z (ap (shifted_right (read w a)) (twice-64 v) ∙ some-same _ z e)
  number-value binary.Le z h e = zero-value binary.Le (v == 0) z refl h e
  number-value binary.LeU z h e = zero-value binary.LeU (v == 0) z refl h e
  number-value binary.Gt z h e = zero-value binary.Gt (v == 0) z refl h e
  number-value binary.GtU z h e = zero-value binary.GtU (v == 0) z refl h e
  number-value binary.Addc z h e = cc
  number-value binary.Subc z h e = cc
  number-value binary.Addx z h e = cc
  number-value binary.Subx z h e = cc
  number-value o z h e = loaded o z refl e

loaded-other : (o : BinaryOp) (d a v : ℕ) (small : v < 2 ^ 64) (w : ℕ → ℕ) (r : ℕ) → r ≢ d → r ≢ 1 → computed (loaded_code o d a v) w r ≡ w r
loaded-other o d a v small w r ne link = loaded-keeps (number_code 1 v) v (loads-number 1 v (λ n. absurd (omega (arith, n))) (omega arith) small) d a w o r ne link

held-keeps : (o : BinaryOp) (d a v : ℕ) (w : ℕ → ℕ) (r : ℕ) → r ≢ d → computed (held_code o d a v) w r ≡ w r
held-keeps binary.Add d a v w r ne = put-other w d _ r ne
held-keeps binary.Sub d a v w r ne = put-other w d _ r ne
held-keeps binary.And d a v w r ne = put-other w d _ r ne
held-keeps binary.Or d a v w r ne = put-other w d _ r ne
held-keeps binary.Xor d a v w r ne = put-other w d _ r ne
held-keeps binary.Lt d a v w r ne = put-other w d _ r ne
held-keeps binary.LtU d a v w r ne = put-other w d _ r ne
held-keeps binary.Rsb d a v w r ne = put-other (put w d _) d _ r ne ∙ put-other w d _ r ne
held-keeps binary.Ge d a v w r ne = put-other (put w d _) d _ r ne ∙ put-other w d _ r ne
held-keeps binary.GeU d a v w r ne = put-other (put w d _) d _ r ne ∙ put-other w d _ r ne
held-keeps binary.Eq d a v w r ne = by (v == 0)
  where
    by : (b : Bool) → computed (if b then Imm Sltiu d a (pos 1) ∷ [] else Imm Addi d a (low_part (negated v)) ∷ Imm Sltiu d d (pos 1) ∷ []) w r ≡ w r
    by true = put-other w d _ r ne
    by false = put-other (put w d _) d _ r ne ∙ put-other w d _ r ne
held-keeps binary.Ne d a v w r ne = by (v == 0)
  where
    by : (b : Bool) → computed (if b then Reg row.Sltu d 0 a ∷ [] else Imm Addi d a (low_part (negated v)) ∷ Reg row.Sltu d 0 d ∷ []) w r ≡ w r
    by true = put-other w d _ r ne
    by false = put-other (put w d _) d _ r ne ∙ put-other w d _ r ne
held-keeps o d a v w r ne = refl

either-keeps : (o : BinaryOp) (d a v : ℕ) (small : v < 2 ^ 64) (w : ℕ → ℕ) (r : ℕ) → r ≢ d → r ≢ 1 → computed (held_or_loaded_code o d a v) w r ≡ w r
either-keeps o d a v small w r ne link = by (is_addend v)
  where
    by : (b : Bool) → computed (if b then held_code o d a v else loaded_code o d a v) w r ≡ w r
    by true = held-keeps o d a v w r ne
    by false = loaded-other o d a v small w r ne link

zero-keeps : (o : BinaryOp) (d a v : ℕ) (small : v < 2 ^ 64) (w : ℕ → ℕ) (r : ℕ) → r ≢ d → r ≢ 1 → computed (zero_or_loaded_code o d a v) w r ≡ w r
zero-keeps o d a v small w r ne link = by (v == 0)
  where
    by : (b : Bool) → computed (if b then register_code o d a 0 else loaded_code o d a v) w r ≡ w r
    by true = register-keeps o d a 0 w r ne
    by false = loaded-other o d a v small w r ne link

pub number-keeps : (o : BinaryOp) (d a v : ℕ) (small : v < 2 ^ 64) (w : ℕ → ℕ) (r : ℕ) → r ≢ d → r ≢ 1 → computed (number_form_code o d a v) w r ≡ w r
number-keeps binary.Add d a v small w r ne link = either-keeps binary.Add d a v small w r ne link
number-keeps binary.Sub d a v small w r ne link = either-keeps binary.Sub d a v small w r ne link
number-keeps binary.Rsb d a v small w r ne link = either-keeps binary.Rsb d a v small w r ne link
number-keeps binary.And d a v small w r ne link = either-keeps binary.And d a v small w r ne link
number-keeps binary.Or d a v small w r ne link = either-keeps binary.Or d a v small w r ne link
number-keeps binary.Xor d a v small w r ne link = either-keeps binary.Xor d a v small w r ne link
number-keeps binary.Lt d a v small w r ne link = either-keeps binary.Lt d a v small w r ne link
number-keeps binary.LtU d a v small w r ne link = either-keeps binary.LtU d a v small w r ne link
number-keeps binary.Ge d a v small w r ne link = either-keeps binary.Ge d a v small w r ne link
number-keeps binary.GeU d a v small w r ne link = either-keeps binary.GeU d a v small w r ne link
number-keeps binary.Eq d a v small w r ne link = either-keeps binary.Eq d a v small w r ne link
number-keeps binary.Ne d a v small w r ne link = either-keeps binary.Ne d a v small w r ne link
number-keeps binary.Lsh d a v small w r ne link = put-other w d _ r ne
number-keeps binary.Rsh d a v small w r ne link = put-other w d _ r ne
number-keeps binary.RshU d a v small w r ne link = put-other w d _ r ne
number-keeps binary.Le d a v small w r ne link = zero-keeps binary.Le d a v small w r ne link
number-keeps binary.LeU d a v small w r ne link = zero-keeps binary.LeU d a v small w r ne link
number-keeps binary.Gt d a v small w r ne link = zero-keeps binary.Gt d a v small w r ne link
number-keeps binary.GtU d a v small w r ne link = zero-keeps binary.GtU d a v small w r ne link
number-keeps o d a v small w r ne link = loaded-other o d a v small w r ne link

loaded-computes : (o : BinaryOp) (d a v : ℕ) → v < 2 ^ 64 → all_compute (loaded_code o d a v) ≡ true
loaded-computes o d a v small = all-compute-append (number_code 1 v) (register_code o d a 1) (loads-number 1 v (λ n. absurd (omega (arith, n))) (omega arith) small).computes (register-computes o d a 1)

either-computes : (b : Bool) (xs ys : List Instr) → all_compute xs ≡ true → all_compute ys ≡ true → all_compute (if b then xs else ys) ≡ true
either-computes true xs ys h k = h
either-computes false xs ys h k = k

pub number-computes : (o : BinaryOp) (d a v : ℕ) → v < 2 ^ 64 → all_compute (number_form_code o d a v) ≡ true
number-computes binary.Add d a v small = either-computes (is_addend v) _ _ refl (loaded-computes binary.Add d a v small)
number-computes binary.Sub d a v small = either-computes (is_addend v) _ _ refl (loaded-computes binary.Sub d a v small)
number-computes binary.Rsb d a v small = either-computes (is_addend v) _ _ refl (loaded-computes binary.Rsb d a v small)
number-computes binary.And d a v small = either-computes (is_addend v) _ _ refl (loaded-computes binary.And d a v small)
number-computes binary.Or d a v small = either-computes (is_addend v) _ _ refl (loaded-computes binary.Or d a v small)
number-computes binary.Xor d a v small = either-computes (is_addend v) _ _ refl (loaded-computes binary.Xor d a v small)
number-computes binary.Lt d a v small = either-computes (is_addend v) _ _ refl (loaded-computes binary.Lt d a v small)
number-computes binary.LtU d a v small = either-computes (is_addend v) _ _ refl (loaded-computes binary.LtU d a v small)
number-computes binary.Ge d a v small = either-computes (is_addend v) _ _ refl (loaded-computes binary.Ge d a v small)
number-computes binary.GeU d a v small = either-computes (is_addend v) _ _ refl (loaded-computes binary.GeU d a v small)
number-computes binary.Eq d a v small = either-computes (is_addend v) _ _ (either-computes (v == 0) _ _ refl refl) (loaded-computes binary.Eq d a v small)
number-computes binary.Ne d a v small = either-computes (is_addend v) _ _ (either-computes (v == 0) _ _ refl refl) (loaded-computes binary.Ne d a v small)
number-computes binary.Lsh d a v small = refl
number-computes binary.Rsh d a v small = refl
number-computes binary.RshU d a v small = refl
number-computes binary.Le d a v small = either-computes (v == 0) _ _ (register-computes binary.Le d a 0) (loaded-computes binary.Le d a v small)
number-computes binary.LeU d a v small = either-computes (v == 0) _ _ (register-computes binary.LeU d a 0) (loaded-computes binary.LeU d a v small)
number-computes binary.Gt d a v small = either-computes (v == 0) _ _ (register-computes binary.Gt d a 0) (loaded-computes binary.Gt d a v small)
number-computes binary.GtU d a v small = either-computes (v == 0) _ _ (register-computes binary.GtU d a 0) (loaded-computes binary.GtU d a v small)
number-computes o d a v small = loaded-computes o d a v small
