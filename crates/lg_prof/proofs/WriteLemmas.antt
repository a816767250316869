-- Lines that are written one after another.
use Rattle.std.proofs.Common.{◌≡◌, ℕ, zero, suc, ◌+◌, ◌<◌, List, [], ◌++◌, inl, inr, refl, sym, ap, ◌∙◌, arith, append_assoc, append-nil, add-one}
use Rattle.std.proofs.lemmas.Bool.{cases_lt}
use Rattle.lg_prof.specs.Tables.{table_below, told_line}

pub no_lines : (ran spent : ℕ → ℕ) → table_below ran spent 0 ≡ []
unfolding table_below
no_lines ran spent = refl

-- one line more
pub line_more : (ran spent : ℕ → ℕ) (line : ℕ) → table_below ran spent (line + 1) ≡ table_below ran spent line ++ told_line line (ran line) (spent line)
unfolding table_below
line_more ran spent line = rw (add-one line) refl

-- the lines before a line, it, and those after it
pub lines_split : (ran spent : ℕ → ℕ) (line top : ℕ) → line < top
    → (rest : List ℕ) × (table_below ran spent top ≡ table_below ran spent line ++ (told_line line (ran line) (spent line) ++ rest))
lines_split ran spent line zero lt = absurd (omega (arith, lt))
lines_split ran spent line (suc top) lt = elim (cases_lt line top) [
  | inl less ↦
      let before = lines_split ran spent line top less in
      let here = told_line line (ran line) (spent line) in
      let last = told_line top (ran top) (spent top) in
      let same : suc top ≡ top + 1 = omega arith in (
        before.0 ++ last,
        ap (table_below ran spent) same ∙ line_more ran spent top ∙ ap (λ x. x ++ last) before.1
            ∙ append_assoc (table_below ran spent line) (here ++ before.0) last ∙ ap (λ x. table_below ran spent line ++ x) (append_assoc here before.0 last),
      )
  | inr other ↦
      let same : suc top ≡ line + 1 = omega (arith, lt, other) in
      ([], ap (table_below ran spent) same ∙ line_more ran spent line ∙ ap (λ x. table_below ran spent line ++ x) (sym (append-nil (told_line line (ran line) (spent line)))))
]
