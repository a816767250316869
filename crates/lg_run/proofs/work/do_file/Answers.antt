use Rattle.std.proofs.Common.{refl, ap}
use Rattle.lg_command.specs.Commands.{shown}
use Rattle.lg_run.specs.Explained.{names_line}
use Rattle.lg_run.proofs.ExplainLemmas.{stopped_explains}
use Rattle.lg_run.proofs.work.do_file.Goals as goal

pub returns-in-Err-ReadFault-clause-explains : goal.returns-in-Err-ReadFault-clause-explains
returns-in-Err-ReadFault-clause-explains g c =
    let u = c.untold.ensures in
    stopped_explains (shown c.args.command.now) _ c.untold.result c.without_code.result _ u.0 u.3 c.without_code.ensures.0 (refl)

pub returns-in-Err-TooLong-clause-explains : goal.returns-in-Err-TooLong-clause-explains
returns-in-Err-TooLong-clause-explains g c =
    let u = c.untold-in-Err-TooLong.ensures in
    stopped_explains (shown c.args.command.now) _ c.untold-in-Err-TooLong.result c.without_code-in-Err-TooLong.result _ u.0 u.3 c.without_code-in-Err-TooLong.ensures.0 (ap (λ r. names_line r.kind) c.refusal.ensures)

pub returns-in-Err-OutOfMemory-clause-explains : goal.returns-in-Err-OutOfMemory-clause-explains
returns-in-Err-OutOfMemory-clause-explains g c =
    let u = c.untold-in-Err-OutOfMemory.ensures in
    stopped_explains (shown c.args.command.now) _ c.untold-in-Err-OutOfMemory.result c.without_code-in-Err-OutOfMemory.result _ u.0 u.3 c.without_code-in-Err-OutOfMemory.ensures.0 (refl)

pub returns-in-Ok-clause-unread : goal.returns-in-Ok-clause-unread
returns-in-Ok-clause-unread g c none = absurd (c.see_file.ensures none)
