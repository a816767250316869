-- Computing instructions of a node are passed.
use Rattle.std.proofs.Common.{◌≡◌, ℕ, true, List, [], ◌∷◌, refl, ap, ◌∙◌}
use Rattle.std.specs.Prelude.{◌&&◌}
use Rattle.std.specs.List.{list_all}
use Rattle.std.proofs.lemmas.Bool.{and_parts}
use Rattle.lg_rv.specs.declared.instruction.Instr.{Instr}
use Rattle.lg_selr_values.specs.Processor.Computations.{computes, all_compute}
use Rattle.lg_selr_values.specs.Processor.RvRows.{is_straight}
use Rattle.lg_selr_values.proofs.OfProcessor.ComputationLemmas.{computes-straight}

pub same-words : (f g : ℕ → ℕ) → ((a : ℕ) → f a ≡ g a) → f ≡ g
same-words f g h = λ j a. h a j

pub all-straight : (is : List Instr) → all_compute is ≡ true → list_all is_straight is ≡ true
all-straight [] h = refl
all-straight (i ∷ is) h =
    let p = and_parts (computes i) (all_compute is) h in
    ap (λ z. z && list_all is_straight is) (computes-straight i p.0) ∙ all-straight is p.1
