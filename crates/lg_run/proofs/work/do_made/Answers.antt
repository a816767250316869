use Rattle.std.proofs.Common.{ap}
use Rattle.lg_command.specs.Commands.{shown}
use Rattle.lg_command.proofs.PlanLemmas.{generator_reports}
use Rattle.lg_run.specs.Explained.{is_explain}
use Rattle.lg_run.proofs.ExplainLemmas.{not_explained}
use Rattle.lg_run.proofs.RefusedLemmas.{made_wanted}
use Rattle.lg_run.proofs.work.do_made.Goals as goal

pub do_text-requires-clause-wanted : goal.do_text-requires-clause-wanted
do_text-requires-clause-wanted g c = made_wanted c.args.command.now.mode c.requires.made

pub returns-in-Ok-clause-explains : goal.returns-in-Ok-clause-explains
returns-in-Ok-clause-explains g c = λ held. not_explained (shown c.args.command.now) held c.do_text.result (ap is_explain (generator_reports c.args.command.now.mode c.requires.made))

pub returns-in-Err-clause-explains : goal.returns-in-Err-clause-explains
returns-in-Err-clause-explains g c = λ held. not_explained (shown c.args.command.now) held c.untold.result (ap is_explain (generator_reports c.args.command.now.mode c.requires.made))
