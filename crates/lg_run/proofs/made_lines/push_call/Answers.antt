use Rattle.std.proofs.Common.{[], ◌∷◌, ◌++◌, ap, ◌∙◌, codes}
use Rattle.lg_io.specs.Wrote.{row}
use Rattle.lg_run.proofs.made_lines.push_call.Goals as goal

pub returns : goal.returns
returns c =
    c.in_ok-push_row.ensures
    ∙ ap (λ d. c.args.text.now ++ row (codes "prepare pushargr %v0 finishi f" ∷ d ∷ codes " retval %v0\n" ∷ [])) (c.as_slice.ensures.value ∙ c.of-function.ensures)
