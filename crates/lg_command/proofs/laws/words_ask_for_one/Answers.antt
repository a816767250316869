use Rattle.std.proofs.Common.{◌≡◌, Option, Some, None, sym, ap, ◌∙◌}
use Rattle.std.specs.Prelude.{unwrap_or}
use Rattle.lg_command.specs.Commands.{Command}
use Rattle.lg_command.proofs.laws.words_ask_for_one.Goals as goal

one : (o : Option Command) (c d : Command) → o ≡ Some c → o ≡ Some d → c ≡ d
one o c d asked other = ap (λ x. unwrap_or x c) (sym asked ∙ other)

none : (o : Option Command) (c : Command) → o ≡ None → o ≡ Some c → ⊥
none o c asks asked = let both : None ≡ Some c = sym asks ∙ asked in cc

pub returns : goal.returns
returns c = record { one = λ words a b. one _ a b; none = λ words a. none _ a }
