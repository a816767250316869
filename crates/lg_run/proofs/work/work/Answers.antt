use Rattle.std.proofs.Common.{◌≤◌, Err, length, ap, sym, ◌∙◌, subst}
use Rattle.lg_base.specs.Arguments.{most_args}
use Rattle.lg_command.specs.Commands.{shown}
use Rattle.lg_command.proofs.PlanLemmas.{listing_reports}
use Rattle.lg_run.specs.Explained.{is_explain}
use Rattle.lg_run.specs.Says.{ReadsFile}
use Rattle.lg_run.proofs.ExplainLemmas.{not_explained, stop_unexplained, stopped_explains}
use Rattle.lg_run.proofs.work.work.Goals as goal

pub returns-in-Err-clause-explains : goal.returns-in-Err-clause-explains
returns-in-Err-clause-explains g c =
    let u = c.untold.ensures in
    stopped_explains (shown c.args.command.now) _ c.untold.result c.without_code.result c.stopped.result u.0 u.3 c.without_code.ensures.0
    (stop_unexplained c.in-Err.stop c.stopped.result c.stopped.ensures.refused c.stopped.ensures.memory (λ r e. (c.in-Err.ensures.refused r (ap Err e)).0))

pub returns-clause-explains : goal.returns-clause-explains
returns-clause-explains g c = not_explained (shown c.args.command.now) _ c.untold-in-Listing.result (ap is_explain (listing_reports c.args.command.now.mode (sym (ap (λ p. p.source) c.plan.ensures) ∙ c.in-Listing.is)))

pub returns-clause-unread : goal.returns-clause-unread
returns-clause-unread g c none =
    absurd (none (subst ReadsFile (sym c.in-Listing.is ∙ ap (λ p. p.source) c.plan.ensures) tt) (subst (λ a. length a ≤ most_args) c.in-Ok.ensures.image c.in-Ok.ensures.size))
