use Rattle.std.proofs.Common.{◌≡◌, ℕ, List, [], ◌∷◌, ◌++◌, refl, ◌∙◌, codes}
use Rattle.lg_io.specs.Wrote.{row}
use Rattle.lg_run.proofs.made_lines.push_start.Goals as goal

abbrev start_row : (text function first again : List ℕ) → List ℕ
start_row t f c l = t ++ row (codes "f" ∷ f ∷ codes ":\nprolog\narg $a\ngetarg %v0 $a\nmovi %v1 " ∷ c ∷ codes "\nmovi %v2 8\nl" ∷ l ∷ codes ":\n" ∷ [])

same : (t f f' c c' l l' : List ℕ) → f ≡ f' → c ≡ c' → l ≡ l' → start_row t f c l ≡ start_row t f' c' l'
same t f f' c c' l l' e₁ e₂ e₃ = rw (e₁, e₂, e₃) refl

pub returns : goal.returns
returns c =
    let function = c.of-function.ensures in
    c.in_ok-push_row.ensures
    ∙ same c.args.text.now _ _ _ _ _ _ (c.as_slice.ensures.value ∙ function) (c.as_slice-2.ensures.value ∙ c.of-first.ensures) (c.as_slice-3.ensures.value ∙ function)
