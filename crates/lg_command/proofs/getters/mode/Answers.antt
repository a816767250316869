use Rattle.std.proofs.Common.{ap, ◌∙◌, codes}
use Rattle.std.specs.Prelude.{option_and_then}
use Rattle.clap.specs.Words.{found_of}
use Rattle.clap.proofs.WalkLemmas.{first_value-rows}
use Rattle.lg_command.specs.Commands.{mode_of}
use Rattle.lg_command.proofs.getters.mode.Goals as goal

pub returns-in-Some : goal.returns-in-Some
returns-in-Some c = c.mode_named.ensures ∙ ap (option_and_then mode_of) (c.in-Some.ensures ∙ first_value-rows (found_of c.args.matches.now) (codes "mode"))

pub returns-in-None : goal.returns-in-None
returns-in-None c = ap (option_and_then mode_of) (c.in-None.ensures ∙ first_value-rows (found_of c.args.matches.now) (codes "mode"))
