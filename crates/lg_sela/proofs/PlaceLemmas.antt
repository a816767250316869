-- The code of a node is the same at a place of the buffer and at its address.
use Rattle.std.proofs.Common.{◌≡◌, ℕ, ◌+◌, ◌-◌, ◌/◌, ◌%◌, true, List, [], ◌∷◌, refl, ap}
use Rattle.lg_base.specs.Layout.{code_base}
use Rattle.lg_op.specs.Forms.{is_alignment, admit, forms_of}
use Rattle.lg_op.specs.declared.op.Op.{Op}
use Rattle.lg_op.specs.declared.op.Op.TheVariants as op
use Rattle.lg_op.specs.declared.op.PlainOp.TheVariants as plain
use Rattle.lg_op.specs.declared.operand.Operand.{Operand}
use Rattle.lg_op.specs.declared.operand.Operand.TheVariants as operand
use Rattle.lg_sel.proofs.PlaceLemmas.{remainder, and-first}
use Rattle.lg_sel.specs.declared.reach.Reach.{Reach}
use Rattle.lg_sela.specs.Control.Alignments.{padding, idle}
use Rattle.lg_sela.specs.Control.ControlItems.{align_items, control_items}
use Rattle.lg_sela_values.specs.Items.{ones}

same-padding : (p n : ℕ) → is_alignment n ≡ true → padding (code_base + p) n ≡ padding p n
same-padding p n h = ap (λ (r : ℕ). (n - r) % n / 4) (remainder p n h)

align-at : (p : ℕ) (xs : List Operand) → admit (forms_of (op.Plain plain.Align)) xs ≡ true → align_items (code_base + p) xs ≡ align_items p xs
align-at p (operand.Number n ∷ []) a = ap (λ k. ones (idle k)) (same-padding p n (and-first (is_alignment n) true a))
align-at p xs a = refl

pub control-items-at : (reach : Reach) (o : Op) (xs : List Operand) (frame homes saved p : ℕ) → admit (forms_of o) xs ≡ true → control_items reach o xs frame homes saved (code_base + p)
    ≡ control_items reach o xs frame homes saved p
control-items-at reach (op.Plain plain.Align) xs frame homes saved p a = align-at p xs a
control-items-at reach o xs frame homes saved p a = refl
