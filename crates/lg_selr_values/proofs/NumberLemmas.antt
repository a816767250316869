-- The code that loads a number: what holds of its rows holds of each instruction, and what it is from one step to the next.
use Rattle.std.proofs.Common.{◌≡◌, ℕ, zero, suc, ◌+◌, ◌-◌, ◌<◌, Bool, true, false, List, [], ◌∷◌, ◌++◌, ◌≤◌, length, sym, ap, ◌∙◌, arith, append_assoc, length-append}
use Rattle.std.specs.Prelude.{◌==◌, ◌%◌, if◌then◌else◌}
use Rattle.lg_base.specs.Words.{is_half}
use Rattle.lg_selr_values.specs.Processor.Numbers.{is_short, high_part, low_part, short_code, half_code, above, low_code, wide_code, long_code, number_code}
use Rattle.lg_rv.specs.declared.instruction.Instr.{Instr}
use Rattle.lg_rv.specs.declared.instruction.Instr.TheVariants.{Upper, Imm, Shift}
use Rattle.lg_rv.specs.declared.instruction.UpperOp.TheVariants.{Lui}
use Rattle.lg_rv.specs.declared.instruction.ImmOp.TheVariants.{Addi, Addiw}
use Rattle.lg_rv.specs.declared.instruction.ShiftOp.TheVariants.{Slli}
use Rattle.lg_sel.proofs.ListLemmas as lists
use Rattle.lg_sel.specs.Holes.{Each}
use Rattle.lg_selr_values.specs.declared.items.Item.{Item}
use Rattle.lg_selr_values.specs.Items.{ones, words_in}
use Rattle.lg_selr_values.proofs.ItemLemmas.{words_append, words-ones, ones-append}

-- a fact of the rows
pub record HoldsOfRows (rd : ℕ) (P : Instr → Type 0) : Type 0 where
  pub high : (v : ℕ) → P (Upper Lui rd (high_part v))
  pub half : (v : ℕ) → P (Imm Addiw rd rd (low_part v))
  pub low : (rs v : ℕ) → P (Imm Addi rd rs (low_part v))
  pub up : P (Shift Slli rd rd 12)

module _ (rd : ℕ) (P : Instr → Type 0) (h : HoldsOfRows rd P) where
  half-each : (v : ℕ) → Each P (half_code rd v)
  half-each v = by (v % 4096 == 0)
    where
      by : (b : Bool) → Each P (if b then Upper Lui rd (high_part v) ∷ [] else Upper Lui rd (high_part v) ∷ Imm Addiw rd rd (low_part v) ∷ [])
      by true = (h.high v, tt)
      by false = (h.high v, (h.half v, tt))

  low-each : (v : ℕ) → Each P (low_code rd v)
  low-each v = by (v % 4096 == 0)
    where
      by : (b : Bool) → Each P (if b then Shift Slli rd rd 12 ∷ [] else Shift Slli rd rd 12 ∷ Imm Addi rd rd (low_part v) ∷ [])
      by true = (h.up, tt)
      by false = (h.up, (h.low rd v, tt))

  wide-each : (n v : ℕ) → Each P (wide_code n rd v)
  wide-each zero v = half-each v
  wide-each (suc n) v = by (is_short v) (is_half v) (wide-each n (above v))
    where
      by : (b c : Bool) → Each P (wide_code n rd (above v)) → Each P (if b then short_code rd v else if c then half_code rd v else wide_code n rd (above v) ++ low_code rd v)
      by true c k = (h.low 0 v, tt)
      by false true k = half-each v
      by false false k = lists.each-append P (wide_code n rd (above v)) (low_code rd v) k (low-each v)

  long-each : (v : ℕ) → Each P (long_code rd v)
  unfolding long_code
  long-each v = lists.each-append P (wide_code 2 rd (above v)) (low_code rd v) (wide-each 2 (above v)) (low-each v)

  pub number-each : (v : ℕ) → Each P (number_code rd v)
  number-each v = by (is_short v) (is_half v)
    where
      by : (b c : Bool) → Each P (if b then short_code rd v else if c then half_code rd v else long_code rd v)
      by true c = (h.low 0 v, tt)
      by false true = half-each v
      by false false = long-each v

-- ---- the steps
pub wide_none : (n rd v : ℕ) → n ≡ 0 → wide_code n rd v ≡ half_code rd v
wide_none n rd v e = ap (λ k. wide_code k rd v) e

pub wide_short : (n rd v : ℕ) → 0 < n → is_short v ≡ true → wide_code n rd v ≡ short_code rd v
wide_short zero rd v h e = absurd (omega (arith, h))
wide_short (suc n) rd v h e = ap (λ b. if b then short_code rd v else if is_half v then half_code rd v else wide_code n rd (above v) ++ low_code rd v) e

pub wide_half : (n rd v : ℕ) → 0 < n → is_short v ≡ false → is_half v ≡ true → wide_code n rd v ≡ half_code rd v
wide_half zero rd v h e k = absurd (omega (arith, h))
wide_half (suc n) rd v h e k = λ i. if e i then short_code rd v else if k i then half_code rd v else wide_code n rd (above v) ++ low_code rd v

pub wide_more : (n rd v : ℕ) → 0 < n → is_short v ≡ false → is_half v ≡ false → wide_code n rd v ≡ wide_code (n - 1) rd (above v) ++ low_code rd v
wide_more zero rd v h e k = absurd (omega (arith, h))
wide_more (suc n) rd v h e k =
    let m : n ≡ suc n - 1 = omega arith in
    (λ i. if e i then short_code rd v else if k i then half_code rd v else wide_code n rd (above v) ++ low_code rd v) ∙ ap (λ x. wide_code x rd (above v) ++ low_code rd v) m

-- ---- instructions that are appended
pub words_after : (xs : List Item) (is : List Instr) → words_in (xs ++ ones is) ≡ words_in xs + length is
words_after xs is = words_append xs (ones is) ∙ ap (λ n. words_in xs + n) (words-ones is)

pub ones_behind : (xs : List Item) (is js : List Instr) → (xs ++ ones is) ++ ones js ≡ xs ++ ones (is ++ js)
ones_behind xs is js = append_assoc xs (ones is) (ones js) ∙ ap (λ ys. xs ++ ys) (sym (ones-append is js))

-- after what is above there is room for the low bits
pub wide_room : (xs : List Item) (n rd v a : ℕ) → 0 < n → a ≡ above v → is_short v ≡ false → is_half v ≡ false → words_in xs + length (wide_code n rd v) ≤ 64
    → words_in (xs ++ ones (wide_code (n - 1) rd a)) + length (low_code rd v) ≤ 64
wide_room xs n rd v a some is short half room =
    let e = ap length (wide_more n rd v some short half) in
    let l = length-append (wide_code (n - 1) rd (above v)) (low_code rd v) in
    let w = words_after xs (wide_code (n - 1) rd a) in
    let m = ap (λ x. length (wide_code (n - 1) rd x)) is in
    omega (arith, e, l, w, m, room)

pub long_room : (xs : List Item) (rd v a : ℕ) → a ≡ above v → words_in xs + length (long_code rd v) ≤ 64 → words_in (xs ++ ones (wide_code 2 rd a)) + length (low_code rd v) ≤ 64
unfolding long_code
long_room xs rd v a is room =
    let l = length-append (wide_code 2 rd (above v)) (low_code rd v) in
    let w = words_after xs (wide_code 2 rd a) in
    let m = ap (λ x. length (wide_code 2 rd x)) is in
    omega (arith, l, w, m, room)
