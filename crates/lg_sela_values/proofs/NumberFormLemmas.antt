-- The code of the operations on a register and a number.
use Rattle.std.proofs.Common.{◌≡◌, ◌≢◌, ℕ, ◌+◌, ◌-◌, ◌/◌, ◌%◌, ◌^◌, ◌<◌, Bool, true, false, List, [], ◌∷◌, Some, refl, sym, ap, ◌∙◌, arith}
use Rattle.std.specs.Prelude.{◌==◌, ◌&&◌, nat_lt, nat_le, bit_and, if◌then◌else◌}
use Rattle.std.proofs.lemmas.Bool.{and_parts}
use Rattle.std.proofs.lemmas.Nat.{and_mask}
use Rattle.lg_base.specs.Words.{negated, shifted_left, shifted_right}
use Rattle.lg_op.specs.declared.op.BinaryOp.{BinaryOp}
use Rattle.lg_op.specs.declared.op.BinaryOp.TheVariants as binary
use Rattle.lg_op.specs.Operators.{binary_value, sets_carry}
use Rattle.lg_a64.specs.declared.instruction.Instr.{Instr}
use Rattle.lg_a64.specs.declared.instruction.Instr.TheVariants.{Bitfield}
use Rattle.lg_a64.specs.declared.instruction.BitfieldOp.{BitfieldOp}
use Rattle.lg_a64.specs.declared.instruction.BitfieldOp.TheVariants.{Sbfm, Ubfm}
use Rattle.lg_cpu.specs.A64Operators.{bitfield_value}
use Rattle.lg_cpu.specs.A64Step.{read}
use Rattle.lg_temp.specs.declared.choice.Choice.{Choice}
use Rattle.lg_carry.specs.Nodes.Straight.{is_taken}
use Rattle.lg_carry.specs.Values.Computers.{Held}
use Rattle.lg_sela_values.specs.Processor.A64Rows.{link}
use Rattle.lg_sela_values.proofs.OfProcessor.HeldLemmas.{read-is}
use Rattle.lg_sela_values.specs.BinaryCode.{second_register, loaded_code, is_small, takes_small, small_code, takes_negative, negative_code, negative_form_code, small_form_code, mask_width, is_mask, mask_code, mask_form_code, number_form_code}
use Rattle.lg_sela_values.proofs.BinaryCodeLemmas.{IsApartFor, write-same, write-other, some-same}
use Rattle.lg_sela_values.proofs.LoadCodeLemmas.{loads-number}
use Rattle.lg_sela_values.proofs.MadeLemmas.{Makes, loaded-makes}
use Rattle.lg_sela_values.proofs.ShiftLemmas.{left-is, right-is, right-signed-is}
use Rattle.lg_sela_values.proofs.SmallCodeLemmas.{small-makes, negative-makes}

-- ---- the register that holds an immediate
-- what is asked of it: it is apart from the register that is read, for a remainder from the link, and for no other a register that is kept
pub record IsSecond (o : BinaryOp) (a t : ℕ) (choices : List Choice) : Type 0 where
  pub within : t < 31
  pub other : t ≢ a
  pub apart : IsApartFor o t
  pub off : (r : ℕ) → is_taken choices r ≡ false → r ≢ link → r ≢ t

-- ---- code for one operation is code for it with fewer temporaries
pub with-choices : (o : BinaryOp) (d a : ℕ) (y : Held → ℕ) (choices : List Choice) (body : List Instr) → Makes o d a y [] body → Makes o d a y choices body
with-choices o d a y choices body m = record { computes = m.computes; keeps = λ w r ne off taken. m.keeps w r ne off refl; word = m.word; carried = m.carried }

-- ---- shifts
shift-makes : (o : BinaryOp) (op : BitfieldOp) (d a v immr imms : ℕ) → d < 31 → a < 31 → (sets_carry o ≡ true → ⊥)
    → ((x z : ℕ) → x < 2 ^ 64 → binary_value o x v ≡ Some z → bitfield_value op x immr imms ≡ z) → Makes o d a (λ w. v) [] (Bitfield op d a immr imms ∷ [])
shift-makes o op d a v immr imms dl al plain is = record {
  computes = refl;
  keeps = λ w r ne off taken. write-other w.registers d _ r ne;
  word = λ w z words p e. write-same w.registers d (bitfield_value op (read w.registers a) immr imms) dl ∙ ap (λ x. bitfield_value op x immr imms) (read-is w.registers a al) ∙ is (w.registers a) z (words a) e;
  carried = λ w k bit words carries e h. absurd (plain carries);
}

few : (v : ℕ) → v % 64 < 64
few v = omega arith

twice : (v : ℕ) → v % 64 ≡ v % 64 % 64
twice v = omega arith

left-makes : (d a v : ℕ) → d < 31 → a < 31 → Makes binary.Lsh d a (λ w. v) [] (Bitfield Ubfm d a ((64 - v % 64) % 64) (63 - v % 64) ∷ [])
left-makes d a v dl al = shift-makes binary.Lsh Ubfm d a v ((64 - v % 64) % 64) (63 - v % 64) dl al (λ e. cc)
    (λ x z small e. ap (λ n. bitfield_value Ubfm x ((64 - n) % 64) (63 - n)) (twice v) ∙ left-is x (v % 64) (few v) ∙ some-same _ z e)

right-makes : (d a v : ℕ) → d < 31 → a < 31 → Makes binary.RshU d a (λ w. v) [] (Bitfield Ubfm d a (v % 64) 63 ∷ [])
right-makes d a v dl al = shift-makes binary.RshU Ubfm d a v (v % 64) 63 dl al (λ e. cc)
    (λ x z small e. ap (λ n. bitfield_value Ubfm x n 63) (twice v) ∙ right-is x (v % 64) small (few v) ∙ some-same _ z e)

right-signed-makes : (d a v : ℕ) → d < 31 → a < 31 → Makes binary.Rsh d a (λ w. v) [] (Bitfield Sbfm d a (v % 64) 63 ∷ [])
right-signed-makes d a v dl al = shift-makes binary.Rsh Sbfm d a v (v % 64) 63 dl al (λ e. cc)
    (λ x z small e. ap (λ n. bitfield_value Sbfm x n 63) (twice v) ∙ right-signed-is x (v % 64) small (few v) ∙ some-same _ z e)

-- ---- masks
-- what is known of the width of a mask
pub mask-of : (v : ℕ) → is_mask v ≡ true → (0 < mask_width v) × (mask_width v < 64) × (v ≡ 2 ^ mask_width v - 1)
mask-of v h =
    let p = and_parts (nat_lt 0 (mask_width v)) (nat_lt (mask_width v) 64 && (v == 2 ^ mask_width v - 1)) h in
    let q = and_parts (nat_lt (mask_width v) 64) (v == 2 ^ mask_width v - 1) p.1 in
    let some = p.0 in
    let less = q.0 in
    let same = q.1 in (grind (arith, some), grind (arith, less), grind (arith, same))

field-is : (x n : ℕ) → 0 < n → bitfield_value Ubfm x 0 (n - 1) ≡ x % 2 ^ n
field-is x n some =
    let whole : x / 2 ^ 0 ≡ x = omega arith in
    let count : n - 1 - 0 + 1 ≡ n = omega (arith, some) in
    ap (λ (b : Bool). if b then shifted_right x 0 % 2 ^ (n - 1 - 0 + 1) else shifted_left (x % 2 ^ (n - 1 + 1)) (64 - 0)) (lowest (n - 1))
    ∙ (λ i. whole i % 2 ^ count i)
  where
    lowest : (k : ℕ) → nat_le 0 k ≡ true
    lowest k = grind arith

mask-makes : (d a v : ℕ) → d < 31 → a < 31 → is_mask v ≡ true → Makes binary.And d a (λ w. v) [] (mask_code d a v)
mask-makes d a v dl al h =
    let m = mask-of v h in
    shift-makes binary.And Ubfm d a v 0 (mask_width v - 1) dl al (λ e. cc)
    (λ x z small e. field-is x (mask_width v) m.0 ∙ sym (and_mask x (mask_width v)) ∙ ap (bit_and x) (sym m.2) ∙ some-same _ z e)

-- ---- every operation
module _ (u d a v : ℕ) (dl : d < 31) (al : a < 30) (small : v < 2 ^ 64) (choices : List Choice) where
  loaded : (o : BinaryOp) → IsSecond o a (second_register o u) choices → Makes o d a (λ w. v) choices (loaded_code o u d a v)
  loaded o s = loaded-makes o d a (second_register o u) v dl al s.within s.other s.apart _ (loads-number (second_register o u) v s.within small) choices s.off

  negative-form : (o : BinaryOp) → IsSecond o a (second_register o u) choices → Makes o d a (λ w. v) choices (negative_form_code o u d a v)
  negative-form o s = by (takes_negative o) refl
    where
      inner : (b : Bool) → takes_negative o ≡ true → Makes o d a (λ w. v) choices (if b then negative_code o d a v else loaded_code o u d a v)
      inner true e = with-choices o d a (λ w. v) choices (negative_code o d a v) (negative-makes o d a v dl small e)
      inner false e = loaded o s

      by : (b : Bool) → takes_negative o ≡ b → Makes o d a (λ w. v) choices (if b then (if is_small (negated v) then negative_code o d a v else loaded_code o u d a v) else loaded_code o u d a v)
      by true e = inner (is_small (negated v)) e
      by false e = loaded o s

  small-form : (o : BinaryOp) → IsSecond o a (second_register o u) choices → Makes o d a (λ w. v) choices (small_form_code o u d a v)
  small-form o s = by (takes_small o) refl
    where
      inner : (b : Bool) → takes_small o ≡ true → Makes o d a (λ w. v) choices (if b then small_code o d a v else negative_form_code o u d a v)
      inner true e = with-choices o d a (λ w. v) choices (small_code o d a v) (small-makes o d a v dl small e)
      inner false e = negative-form o s

      by : (b : Bool) → takes_small o ≡ b → Makes o d a (λ w. v) choices (if b then (if is_small v then small_code o d a v else negative_form_code o u d a v) else loaded_code o u d a v)
      by true e = inner (is_small v) e
      by false e = loaded o s

  mask-form : IsSecond binary.And a link choices → Makes binary.And d a (λ w. v) choices (mask_form_code u d a v)
  mask-form s = by (is_mask v) refl
    where
      by : (b : Bool) → is_mask v ≡ b → Makes binary.And d a (λ w. v) choices (if b then mask_code d a v else loaded_code binary.And u d a v)
      by true e = with-choices binary.And d a (λ w. v) choices (mask_code d a v) (mask-makes d a v dl (omega (arith, al)) e)
      by false e = loaded binary.And s

  pub number-makes : (o : BinaryOp) → IsSecond o a (second_register o u) choices → Makes o d a (λ w. v) choices (number_form_code o u d a v)
  number-makes binary.Lsh s = with-choices binary.Lsh d a (λ w. v) choices _ (left-makes d a v dl (omega (arith, al)))
  number-makes binary.Rsh s = with-choices binary.Rsh d a (λ w. v) choices _ (right-signed-makes d a v dl (omega (arith, al)))
  number-makes binary.RshU s = with-choices binary.RshU d a (λ w. v) choices _ (right-makes d a v dl (omega (arith, al)))
  number-makes binary.And s = mask-form s
  number-makes o s = small-form o s
