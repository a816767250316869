-- What holds of the words of every command.
use Rattle.std.specs.Prelude.{◌≡◌, List}
use Rattle.clap.specs.Words.{Text}
use Rattle.lg_command.specs.Commands.{AreNoCommand, Command, IsCommand}

-- words ask for one command at most
abbrev pub CommandsAreOne : Type 0
CommandsAreOne = (words : List Text) (c d : Command) → IsCommand words c → IsCommand words d → c ≡ d

-- and words that ask for none for no command
abbrev pub NoCommandIsNone : Type 0
NoCommandIsNone = (words : List Text) (c : Command) → AreNoCommand words → IsCommand words c → ⊥
