-- The words of V0 to V2 that come back, of this many: what holds of none, one, two and three of them.
use Rattle.std.proofs.Common.{◌≡◌, ℕ, zero, suc, List, [], ◌∷◌, refl, subst}
use Rattle.std.specs.Prelude.{negsuc, take}
use Rattle.lg_rv.specs.declared.instruction.Instr.{Instr}
use Rattle.lg_rv.specs.declared.instruction.Instr.TheVariants as instr
use Rattle.lg_rv.specs.declared.instruction.ImmOp.TheVariants.{Ld}
use Rattle.lg_selr.specs.Control.Returns.{restores}

none-taken : (n : ℕ) → [] ≡ take {A = Instr} n []
none-taken zero = refl
none-taken (suc n) = refl

pub of-saved : (P : ℕ → List Instr → Type 0) → P 0 [] → P 1 (instr.Imm Ld 9 8 (negsuc 7) ∷ [])
    → P 2 (instr.Imm Ld 9 8 (negsuc 7) ∷ instr.Imm Ld 18 8 (negsuc 15) ∷ [])
    → ((s : ℕ) → P (suc (suc (suc s))) (instr.Imm Ld 9 8 (negsuc 7) ∷ instr.Imm Ld 18 8 (negsuc 15) ∷ instr.Imm Ld 19 8 (negsuc 23) ∷ []))
    → (saved : ℕ) → P saved (restores saved)
of-saved P none one two all zero = none
of-saved P none one two all (suc zero) = one
of-saved P none one two all (suc (suc zero)) = two
of-saved P none one two all (suc (suc (suc s))) =
    subst (λ is. P (suc (suc (suc s))) (instr.Imm Ld 9 8 (negsuc 7) ∷ instr.Imm Ld 18 8 (negsuc 15) ∷ instr.Imm Ld 19 8 (negsuc 23) ∷ is)) (none-taken s) (all s)
