use Rattle.std.specs.Borrow.{Bor}
use Rattle.std.proofs.Common.{ap, map, ℕ, List, ◌∙◌, ◌∷◌, ◌++◌, codes, []}
use Rattle.std.specs.Prelude.{unwrap_or}
use Rattle.clap.specs.Words.{found_of}
use Rattle.clap.proofs.WalkLemmas.{raw_values-rows}
use Rattle.lg_command.proofs.getters.arguments.Goals as goal

pub returns-in_ok-push_words-in-Some : goal.returns-in_ok-push_words-in-Some
returns-in_ok-push_words-in-Some c =
    c.in_ok-push_words-in-Some.ensures ∙ ap (λ a. a ++ map (λ (s : Bor (List ℕ)). s.now) c.in-Some.words.now) c.in_ok-arguments.ensures
    ∙ ap (λ o. c.args.file.now ∷ unwrap_or o []) (c.in-Some.ensures ∙ raw_values-rows (found_of c.args.matches.now) (codes "ARG"))

pub returns-in-None : goal.returns-in-None
returns-in-None c =
    c.in_ok-arguments.ensures ∙ ap (λ o. c.args.file.now ∷ unwrap_or o []) (c.in-None.ensures ∙ raw_values-rows (found_of c.args.matches.now) (codes "ARG"))
