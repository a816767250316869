use Rattle.std.proofs.Common.{◌≡◌, ℕ, Option, Some, None, refl, ◌∙◌}
use Rattle.clap.specs.Words.{Text, found_of, one_of, rows_of}
use Rattle.clap.proofs.WalkLemmas.{one_text-rows}
use Rattle.lg_command.specs.Commands.{number_of}
use Rattle.lg_command.proofs.Numbers.{read_number, no_number}
use Rattle.lg_command.proofs.getters.number.Goals as goal

-- what holds of a number with no text and of one with this text holds of it
by_text : (n : ℕ) (o : Option Text) → (o ≡ None → n ≡ 0) → ((t : Text) → o ≡ Some t → n ≡ number_of (Some t)) → n ≡ number_of o
by_text n None none some = none refl
by_text n (Some t) none some = some t refl

some_none : {A B : Type 0} {a : A} → Some a ≡ None → B
some_none e = cc

pub returns-in-Some : goal.returns-in-Some
returns-in-Some c =
    let rows = one_text-rows (found_of c.args.matches.now) c.args.id.now in
    by_text c.in-Some.number (one_of c.args.id.now (rows_of (found_of c.args.matches.now))) (λ e. some_none (c.in-Some.ensures.none (rows ∙ e)))
    (λ t e. read_number t c.in-Some.number (c.in-Some.ensures.value t (rows ∙ e)).0)

pub returns-in-None : goal.returns-in-None
returns-in-None c =
    let rows = one_text-rows (found_of c.args.matches.now) c.args.id.now in
    by_text 0 (one_of c.args.id.now (rows_of (found_of c.args.matches.now))) (λ e. refl)
    (λ t e. let h = c.in-None.ensures.value t (rows ∙ e) in no_number t h.1.0)
