use Rattle.std.proofs.Common.{◌∙◌, sym, arith}
use Rattle.lg_run.proofs.ProfileLemmas.{is_told, none_told}
use Rattle.lg_run.proofs.profile.run_both.Goals as goal

pub count_meaning-requires-clause-lines : goal.count_meaning-requires-clause-lines
count_meaning-requires-clause-lines g c = λ i n here.
    let below = c.requires.machine.below i n here in
    let kept = c.run_by_lines-ran.ensures.kept in
    omega (arith, below, kept)

pub returns-then-not-is_run_end-clause-told : goal.returns-then-not-is_run_end-clause-told
returns-then-not-is_run_end-clause-told g c = none_told _ _ _ _ _ _ _ (sym c.is_run_end.ensures ∙ c.if-not-is_run_end.true)

pub returns-clause-told : goal.returns-clause-told
returns-clause-told g c =
    let ran = c.run_by_lines-ran.ensures in
    let counted = c.count_meaning.ensures in
    is_told _ _ _ _ _ _ _ (sym c.is_run_end.ensures ∙ c.if-not-is_run_end.false) (record {
      kept = counted.kept ∙ ran.kept;
      ran = counted.ran;
      spent = λ line. counted.spent line ∙ ran.spent line;
    })
