-- Computing instructions of a node are passed, and what they leave in the flags is what a branch reads.
use Rattle.std.proofs.Common.{◌≡◌, ℕ, true, List, [], ◌∷◌, Option, refl, ap, ◌∙◌}
use Rattle.std.specs.Prelude.{◌&&◌}
use Rattle.std.specs.List.{list_all}
use Rattle.std.proofs.lemmas.Bool.{and_parts}
use Rattle.lg_base.specs.declared.flags.Flags.{Flags}
use Rattle.lg_a64.specs.declared.instruction.Cond.{Cond}
use Rattle.lg_a64.specs.declared.instruction.Cond.TheVariants as cond
use Rattle.lg_a64.specs.declared.instruction.Instr.{Instr}
use Rattle.lg_cpu.specs.A64Operators.{condition_holds}
use Rattle.lg_sela_values.specs.Processor.A64Rows.{nzcv, is_straight}
use Rattle.lg_sela_values.specs.Processor.Computations.{computes, all_compute}
use Rattle.lg_sela_values.proofs.OfProcessor.ComputerLemmas.{computes-straight}

pub same-bytes : (f g : ℕ → Option ℕ) → ((a : ℕ) → f a ≡ g a) → f ≡ g
same-bytes f g h = λ j a. h a j

pub all-straight : (is : List Instr) → all_compute is ≡ true → list_all is_straight is ≡ true
all-straight [] h = refl
all-straight (i ∷ is) h =
    let p = and_parts (computes i) (all_compute is) h in
    ap (λ z. z && list_all is_straight is) (computes-straight i p.0) ∙ all-straight is p.1

-- a condition asks for N, Z, C and V alone
pub holds-seen : (c : Cond) (f : Flags) → condition_holds c f ≡ condition_holds c (nzcv f)
holds-seen cond.Eq f = refl
holds-seen c f = refl
