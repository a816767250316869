-- The code of the operations on one register computes them.
use Rattle.std.proofs.Common.{◌≡◌, ◌≢◌, ℕ, ◌<◌, true, refl, ap, ◌∙◌, arith}
use Rattle.lg_base.specs.Wide.{sign_part_of, zero_part_of, swapped}
use Rattle.lg_base.specs.Words.{sub_words, negated}
use Rattle.lg_op.specs.declared.op.UnaryOp.{UnaryOp}
use Rattle.lg_op.specs.declared.op.UnaryOp.TheVariants as unary
use Rattle.lg_op.specs.Operators.{unary_value}
use Rattle.lg_a64.specs.declared.instruction.BitfieldOp.TheVariants.{Sbfm, Ubfm}
use Rattle.lg_a64.specs.declared.instruction.ReverseOp.TheVariants.{Rev, Rev32, Rev16}
use Rattle.lg_a64.specs.declared.instruction.RegOp.TheVariants as row
use Rattle.lg_cpu.specs.A64Operators.{reg_value, bitfield_value, reverse_value}
use Rattle.lg_cpu.specs.A64Step.{read, write}
use Rattle.lg_carry.specs.Values.Computers.{Held}
use Rattle.lg_sela_values.specs.Processor.Computations.{known, all_compute, computed}
use Rattle.lg_sela_values.proofs.OfProcessor.HeldLemmas.{read-is}
use Rattle.lg_sela_values.specs.UnaryCode.{unary_code}
use Rattle.lg_sela_values.proofs.BinaryCodeLemmas.{write-same, write-other}

-- ---- words
minus : (a : ℕ) → sub_words 0 a ≡ negated a
minus a = omega arith

signed-8 : (a : ℕ) → bitfield_value Sbfm a 0 7 ≡ sign_part_of a 1
signed-8 a = grind arith

signed-16 : (a : ℕ) → bitfield_value Sbfm a 0 15 ≡ sign_part_of a 2
signed-16 a = grind arith

signed-32 : (a : ℕ) → bitfield_value Sbfm a 0 31 ≡ sign_part_of a 4
signed-32 a = grind arith

unsigned-8 : (a : ℕ) → bitfield_value Ubfm a 0 7 ≡ zero_part_of a 1
unsigned-8 a = omega arith

unsigned-16 : (a : ℕ) → bitfield_value Ubfm a 0 15 ≡ zero_part_of a 2
unsigned-16 a = omega arith

unsigned-32 : (a : ℕ) → bitfield_value Ubfm a 0 31 ≡ zero_part_of a 4
unsigned-32 a = omega arith

turned-16 : (a : ℕ) → bitfield_value Ubfm (reverse_value Rev16 a) 0 15 ≡ swapped a 2
turned-16 a = omega arith

turned-32 : (a : ℕ) → bitfield_value Ubfm (reverse_value Rev32 a) 0 31 ≡ swapped a 4
turned-32 a = omega arith

module _ (d a : ℕ) (dl : d < 31) (al : a < 31) (w : Held) where
  -- one instruction that makes a word of the register
  one : (f : ℕ → ℕ) (z : ℕ) → f (w.registers a) ≡ z → write w.registers d (f (read w.registers a)) d ≡ z
  one f z e = write-same w.registers d (f (read w.registers a)) dl ∙ ap f (read-is w.registers a al) ∙ e

  -- and one that makes a word of it
  two : (f g : ℕ → ℕ) (z : ℕ) → g (f (w.registers a)) ≡ z → (let v = write w.registers d (f (read w.registers a)) in write v d (g (read v d)) d) ≡ z
  two f g z e =
      let v = write w.registers d (f (read w.registers a)) in
      write-same v d (g (read v d)) dl ∙ ap g (read-is v d dl ∙ one f (f (w.registers a)) refl) ∙ e

  pub unary-computed : (o : UnaryOp) → (computed (unary_code o d a) w).registers d ≡ unary_value o (w.registers a)
  unary-computed unary.Neg = one (λ x. sub_words 0 x) _ (minus (w.registers a))
  unary-computed unary.Com = one (λ x. reg_value row.Orn (known w.flags) 0 x) _ refl
  unary-computed unary.Mov = one (λ x. reg_value row.Orr (known w.flags) 0 x) _ refl
  unary-computed unary.ExtrC = one (λ x. bitfield_value Sbfm x 0 7) _ (signed-8 (w.registers a))
  unary-computed unary.ExtrUc = one (λ x. bitfield_value Ubfm x 0 7) _ (unsigned-8 (w.registers a))
  unary-computed unary.ExtrS = one (λ x. bitfield_value Sbfm x 0 15) _ (signed-16 (w.registers a))
  unary-computed unary.ExtrUs = one (λ x. bitfield_value Ubfm x 0 15) _ (unsigned-16 (w.registers a))
  unary-computed unary.ExtrI = one (λ x. bitfield_value Sbfm x 0 31) _ (signed-32 (w.registers a))
  unary-computed unary.ExtrUi = one (λ x. bitfield_value Ubfm x 0 31) _ (unsigned-32 (w.registers a))
  unary-computed unary.HtonrUs = two (reverse_value Rev16) (λ x. bitfield_value Ubfm x 0 15) _ (turned-16 (w.registers a))
  unary-computed unary.HtonrUi = two (reverse_value Rev32) (λ x. bitfield_value Ubfm x 0 31) _ (turned-32 (w.registers a))
  unary-computed unary.HtonrUl = one (reverse_value Rev) _ refl

-- ---- what else the code does
pub unary-keeps : (o : UnaryOp) (d a : ℕ) (w : Held) (r : ℕ) → r ≢ d → (computed (unary_code o d a) w).registers r ≡ w.registers r
unary-keeps unary.HtonrUs d a w r ne = write-other (write w.registers d (reverse_value Rev16 (read w.registers a))) d _ r ne ∙ write-other w.registers d _ r ne
unary-keeps unary.HtonrUi d a w r ne = write-other (write w.registers d (reverse_value Rev32 (read w.registers a))) d _ r ne ∙ write-other w.registers d _ r ne
unary-keeps o d a w r ne = write-other w.registers d _ r ne

pub unary-computes : (o : UnaryOp) (d a : ℕ) → all_compute (unary_code o d a) ≡ true
unary-computes unary.Neg d a = refl
unary-computes o d a = refl
