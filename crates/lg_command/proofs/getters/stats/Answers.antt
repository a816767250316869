use Rattle.std.proofs.Common.{ap, ◌∙◌, codes}
use Rattle.clap.specs.Words.{found_of}
use Rattle.clap.proofs.WalkLemmas.{first_value-rows}
use Rattle.lg_command.specs.Commands.{is_told}
use Rattle.lg_command.proofs.getters.stats.Goals as goal

pub returns : goal.returns
returns c = c.is_told.ensures ∙ ap is_told (c.get_str.ensures ∙ first_value-rows (found_of c.args.matches.now) (codes "stats"))
