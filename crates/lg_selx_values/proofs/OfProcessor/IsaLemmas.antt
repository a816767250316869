-- The instructions of x86-64 are those of a target.
use Rattle.std.proofs.Common.{◌≡◌, ℕ, Bool, true, false, List, [], ◌∷◌, refl, subst, arith}
use Rattle.std.specs.Prelude.{◌==◌, ◌||◌, ◌&&◌}
use Rattle.std.specs.List.{list_any}
use Rattle.lg_base.specs.declared.target.Target.TheVariants.{X86_64}
use Rattle.lg_temp.specs.Chosen.{order}
use Rattle.lg_selx_values.specs.Processor.X86Computers.{InstructionsAreIsa}
use Rattle.lg_selx_values.specs.Processor.X86Rows.{can_save}
use Rattle.lg_selx_values.proofs.OfProcessor.RowLemmas.{are-rows}
use Rattle.lg_selx_values.proofs.OfProcessor.SlotLemmas.{are-spills}

-- each register that is tried can be saved
pub tried-saved : (x : ℕ) → list_any (λ y. y == x) (order X86_64) ≡ true → can_save x ≡ true
tried-saved x h = by (order X86_64) refl h
  where
    all-can : List ℕ → Bool
    all-can [] = true
    all-can (y ∷ ys) = can_save y && all-can ys

    both : (b c : Bool) → (b && c) ≡ true → (b ≡ true) × (c ≡ true)
    both true c e = (refl, e)
    both false c e = cc

    one : (y : ℕ) (ys : List ℕ) (b : Bool) → (y == x) ≡ b → can_save y ≡ true → (b || list_any (λ y. y == x) ys) ≡ true → (list_any (λ y. y == x) ys ≡ true → can_save x ≡ true) → can_save x ≡ true
    one y ys true e can h again = let z : y ≡ x = grind (arith, e) in subst (λ w. can_save w ≡ true) z can
    one y ys false e can h again = again h

    by : (ys : List ℕ) → all-can ys ≡ true → list_any (λ y. y == x) ys ≡ true → can_save x ≡ true
    by [] a h = cc
    by (y ∷ ys) a h = let k = both (can_save y) (all-can ys) a in one y ys (y == x) refl k.0 h (λ h'. by ys k.1 h')

pub is-isa : InstructionsAreIsa
is-isa code trash small bytes word = record {
  rows = are-rows code trash small bytes word;
  spills = are-spills code trash;
  tried = λ x e. tried-saved x e;
  apart = λ x e. cc;
  carry = λ x e z. cc;
}
