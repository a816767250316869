use Rattle.std.proofs.Common.{Some, inr}
use Rattle.lg_command.specs.Commands.{shown}
use Rattle.lg_command.specs.Plans.{report_of}
use Rattle.lg_run.specs.Explanations.{explained_of}
use Rattle.lg_run.specs.Profiles.{table_of}
use Rattle.lg_run.proofs.top.answer.Goals as goal

pub returns-in-Ok-clause-says : goal.returns-in-Ok-clause-says
returns-in-Ok-clause-says g c = record {
  asked = Some (shown c.in-Ok.command);
  inner = c.work-worked.result.done.answer;
  says = (c.in-Ok.ensures.command, c.work-worked.ensures.says);
  table = table_of c.work-worked.result.tally;
  told = c.work-worked.ensures.told.0;
  explained = explained_of (report_of c.in-Ok.command.mode) c.in-Ok.command.file.now c.work-worked.result;
  explains = c.work-worked.ensures.explains;
  report = c.report-answer.ensures;
}

pub returns-in-Ok-clause-unread : goal.returns-in-Ok-clause-unread
returns-in-Ok-clause-unread g c none = c.work-worked.ensures.unread (none (shown c.in-Ok.command) c.in-Ok.ensures.command)

pub returns-in-Ok-clause-few : goal.returns-in-Ok-clause-few
returns-in-Ok-clause-few g c = inr (shown c.in-Ok.command, c.in-Ok.ensures.command, c.work-worked.ensures.few)
