-- The instructions of RV64IM are those of a target.
use Rattle.std.proofs.Common.{◌≡◌, ◌≢◌, ℕ, suc, ◌<◌, ◌⊎◌, ⊎_elim, Bool, true, false, List, [], ◌∷◌, Some, refl, subst, arith, length}
use Rattle.std.specs.Prelude.{◌==◌, ◌||◌, ◌&&◌, slice_index}
use Rattle.std.specs.List.{list_any}
use Rattle.lg_base.specs.Conventions.{argument_registers, portable_register}
use Rattle.lg_base.specs.declared.target.Target.TheVariants.{Riscv64}
use Rattle.lg_temp.specs.Chosen.{order}
use Rattle.lg_carry.specs.RegistersApart.{IsApart}
use Rattle.lg_carry.proofs.RegistersApartLemmas.{conventions-apart}
use Rattle.lg_selr_values.specs.Processor.RvComputers.{rv_scratch, InstructionsAreIsa}
use Rattle.lg_selr_values.specs.Processor.RvRows.{can_save}
use Rattle.lg_selr_values.proofs.OfProcessor.RowLemmas.{are-rows}
use Rattle.lg_selr_values.proofs.OfProcessor.SlotLemmas.{are-spills}

-- ---- x0 is none of the registers of the conventions
pub portable-some : (r : ℕ) → r < 6 → portable_register Riscv64 r ≢ 0
portable-some (suc (suc (suc (suc (suc (suc r)))))) lt e = absurd (omega (arith, lt))
portable-some r lt e = cc

pub argument-some : (i : ℕ) → i < length (argument_registers Riscv64) → slice_index (argument_registers Riscv64) i ≢ 0
argument-some (suc (suc (suc (suc (suc (suc (suc (suc i)))))))) lt e = absurd (omega (arith, lt))
argument-some i lt e = cc

zero-apart : IsApart Riscv64 0
zero-apart = record { portable = portable-some; argument = argument-some; pointer = λ e. cc; stack = λ e. cc }

-- ---- each register that is tried can be saved
pub tried-saved : (x : ℕ) → list_any (λ y. y == x) (order Riscv64) ≡ true → can_save x ≡ true
tried-saved x h = by (order Riscv64) refl h
  where
    all-can : List ℕ → Bool
    all-can [] = true
    all-can (y ∷ ys) = can_save y && all-can ys

    both : (b c : Bool) → (b && c) ≡ true → (b ≡ true) × (c ≡ true)
    both true c e = (refl, e)
    both false c e = cc

    one : (y : ℕ) (ys : List ℕ) (b : Bool) → (y == x) ≡ b → can_save y ≡ true → (b || list_any (λ y. y == x) ys) ≡ true → (list_any (λ y. y == x) ys ≡ true → can_save x ≡ true) → can_save x ≡ true
    one y ys true e can h again = let z : y ≡ x = grind (arith, e) in subst (λ w. can_save w ≡ true) z can
    one y ys false e can h again = again h

    by : (ys : List ℕ) → all-can ys ≡ true → list_any (λ y. y == x) ys ≡ true → can_save x ≡ true
    by [] a h = cc
    by (y ∷ ys) a h = let k = both (can_save y) (all-can ys) a in one y ys (y == x) refl k.0 h (λ h'. by ys k.1 h')

-- ---- the target
is-either : (x : ℕ) → rv_scratch x ≡ true → (0 ≡ x) ⊎ (1 ≡ x)
is-either x e = grind (arith, e)

pub is-isa : InstructionsAreIsa
is-isa code trash small bytes word = record {
  rows = are-rows code trash small bytes word;
  spills = are-spills code trash;
  tried = λ x e. tried-saved x e;
  apart = λ x e. ⊎_elim (λ z. subst (IsApart Riscv64) z zero-apart) (λ z. subst (IsApart Riscv64) z ((conventions-apart Riscv64).link 1 refl)) (is-either x e);
  carry = λ x e z. absurd (differ x e z);
}
  where
    differ : (x : ℕ) → rv_scratch x ≡ true → Some 31 ≡ Some x → ⊥
    differ x e z = let a : 31 ≡ x = cc in ⊎_elim (λ b. absurd (omega (arith, a, b))) (λ b. absurd (omega (arith, a, b))) (is-either x e)
