use Rattle.std.proofs.Common.{sym, subst}
use Rattle.lg_run.specs.Profiles.{is_run_end}
use Rattle.lg_run.specs.ProfileStarts.{TalliesFor}
use Rattle.lg_run.proofs.profile.run_start.Goals as goal

pub returns-clause-told : goal.returns-clause-told
returns-clause-told g c =
    let ran = c.run_both-ran.result in
    subst (TalliesFor (is_run_end ran.answer) c.args.text.now.unit c.args.text.now.shape c.args.start c.args.most ran.steps) (sym c.told_tally-tally.ensures) c.run_both-ran.ensures.told
