-- Fixes that lead where they may, and nodes that lead to a label.
use Rattle.std.proofs.Common.{◌≡◌, ℕ, ◌≤◌, Bool, true, false, refl, List, Option, Some, None, sym, subst, ◌∙◌, arith}
use Rattle.std.specs.Prelude.{nat_le, slice_get, if◌then◌else◌}
use Rattle.std.proofs.lemmas.Bool.Decides.{nat_tests}
use Rattle.lg_buf.specs.Fixing.{Fits}
use Rattle.lg_buf.specs.declared.fixes.Fix.{Fix}
use Rattle.lg_op.specs.declared.operand.Label.{Label}
use Rattle.lg_op.specs.declared.operand.Operand.{Operand}
use Rattle.lg_op.specs.declared.operand.Operand.TheVariants as operand
use Rattle.lg_sel.specs.Selected.{IsReached, MayBeLed}
use Rattle.lg_sel.specs.Reaches.{small_size, near_size, reach_of, reach_ahead, may_wait, LeadsTo}
use Rattle.lg_sel.specs.declared.reach.Reach.{Reach}
use Rattle.lg_sel.specs.declared.reach.Reach.TheVariants.{Short, Near, Far}

-- a field that leads to its label or may wait for it fits each place to which it may be led, if it does so where it waits
pub led-fits : (size : ℕ) (f : Fix) (target : ℕ) (bound : Option ℕ) → LeadsTo size f bound → MayBeLed f.kind size f.place target bound
    → (may_wait f.kind size ≡ true → IsReached (reach_of f.kind) size f.place target → Fits f.kind f.place target) → Fits f.kind f.place target
led-fits size f target (Some place) leads same waits = subst (Fits f.kind f.place) (sym same) leads
led-fits size f target None leads within waits = waits leads within

pub is-small : (size : ℕ) → nat_le size small_size ≡ true → size ≤ small_size
is-small size h = grind (arith, nat_tests, h)

pub is-near : (size : ℕ) → nat_le size near_size ≡ true → size ≤ near_size
is-near size h = grind (arith, nat_tests, h)

-- the reach by a size
size-of : (small near : Bool) → (r : Reach) → (if small then Short else if near then Near else Far) ≡ r → (r ≡ Short → small ≡ true) × (r ≡ Near → near ≡ true)
size-of true near r e = (λ z. refl, λ z. cc)
size-of false true r e = (λ z. cc, λ z. refl)
size-of false false r e = (λ z. cc, λ z. cc)

pub size-small : (size : ℕ) → reach_ahead size ≡ Short → nat_le size small_size ≡ true
size-small size e = (size-of (nat_le size small_size) (nat_le size near_size) Short e).0 refl

pub size-near : (size : ℕ) → reach_ahead size ≡ Near → nat_le size near_size ≡ true
size-near size e = (size-of (nat_le size small_size) (nat_le size near_size) Near e).1 refl

pub small-near : (size : ℕ) → nat_le size small_size ≡ true → nat_le size near_size ≡ true
small-near size h = let few = is-small size h in grind (arith, nat_tests, few)

-- the label of the first operand
pub same-label : (xs : List Operand) (l m : Label) → slice_get xs 0 ≡ Some (operand.Label l) → slice_get xs 0 ≡ Some (operand.Label m) → l ≡ m
same-label xs l m e g = let h : Some (operand.Label l) ≡ Some (operand.Label m) = sym e ∙ g in label-of l m h
  where
    label-of : (l m : Label) → Some (operand.Label l) ≡ Some (operand.Label m) → l ≡ m
    label-of l m h = cc
