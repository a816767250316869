use Rattle.std.proofs.Common.{◌∙◌}
use Rattle.std.proofs.lemmas.Result.{IfOk-weaker}
use Rattle.lg_command.proofs.Commands.{at_rows}
use Rattle.lg_command.proofs.words.read_words.Goals as goal

pub returns : goal.returns
returns c =
    let same = at_rows _ _ c.in_ok-matches.ensures.ok in
    record {
      command = IfOk-weaker c.command_of.result _ _ (λ r h. same ∙ h) c.command_of.ensures.command;
      range = c.command_of.ensures.range;
      usage = λ e. same ∙ c.command_of.ensures.usage e;
    }
