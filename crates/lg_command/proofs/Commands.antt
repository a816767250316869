-- The command that words ask for.
use Rattle.std.proofs.Common.{◌≡◌, ◌≢◌, false, List, [], ◌∷◌, None, refl, ap, sym, arith, ◌∙◌}
use Rattle.std.specs.Prelude.{if◌then◌else◌}
use Rattle.std.proofs.lemmas.Bool.{ne_eqb}
use Rattle.clap.specs.Kinds.{Kinds}
use Rattle.clap.specs.Walk.{is_empty}
use Rattle.clap.specs.Words.{Row, Text, fault_of, matches_of}
use Rattle.lg_command.specs.Commands.{AreNoCommand, AreRows, command_in, command_of}
use Rattle.lg_command.specs.Rules.{app}

not_empty : (kinds : Kinds) → kinds ≢ [] → is_empty kinds ≡ false
not_empty [] h = absurd (h refl)
not_empty (k ∷ ks) h = ne_eqb _ _ (λ e. omega (arith, e))

-- words in which clap finds a fault ask for none
pub none_at : (words : List Text) → fault_of app words ≢ [] → AreNoCommand words
unfolding command_in
none_at words h = ap (λ b. if b then command_of (matches_of app words) else None) (not_empty (fault_of app words) h)

-- and words with these rows for what the rows give
pub at_rows : (words : List Text) (rows : List Row) → AreRows words rows → command_in words ≡ command_of rows
unfolding command_in
at_rows words rows h =
    ap (λ (kinds : Kinds). if is_empty kinds then command_of (matches_of app words) else None) h.faultless ∙ sym (ap command_of h.are)
