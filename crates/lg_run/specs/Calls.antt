-- What the top call says.
use Rattle.std.specs.Prelude.{ℕ, List, ◌++◌, Option}
use Rattle.lg_command.specs.Commands.{Command}
use Rattle.lg_io.specs.SinkChanges.{SinkChange}
use Rattle.lg_run.specs.Changes.{TextsChange}
use Rattle.lg_run.specs.Explained.{ExplainSays}
use Rattle.lg_run.specs.Profiles.{TableSays}
use Rattle.lg_run.specs.Says.{AskedSays, ReportSays, lines_of}
use Rattle.lg_run.specs.declared.answer.Answer.{Answer}
use Rattle.lg_run.specs.declared.answer.Done.{Done}

-- the clause of the top call: what the inner answer says, and that the table of a profile, the lines of that answer and those that explain it are on err
pub record Says (words : List (List ℕ)) (texts : TextsChange) (out err : SinkChange) (done : Done) : Type 0 where
  pub asked : Option Command
  pub inner : Answer
  pub says : AskedSays words asked texts out done.code done.steps inner
  pub table : List ℕ
  pub told : TableSays asked texts.held done.code done.steps inner table
  pub explained : List ℕ
  pub explains : ExplainSays asked texts.held done.code done.steps inner explained
  pub report : ReportSays (table ++ (lines_of asked done.code done.steps inner ++ explained)) err inner done.answer
