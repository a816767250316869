-- How many tokens follow a word that begins a statement, by the reading itself.
use Rattle.std.specs.Prelude.{◌≡◌, false, List, ◌∷◌, length, codes}
use Rattle.std.specs.Str.{bytes_eq}
use Rattle.lg_lex.specs.declared.token.Token.{Token}
use Rattle.lg_lex.specs.declared.token.TokenKind.TheVariants.{Word}
use Rattle.lg_tst.specs.Readings.{IsRead}
use Rattle.lg_tst.specs.Units.{State, token_text}
use Rattle.lg_explain.specs.Twice.{forms_of_word}

-- a statement that begins with a word, but for `note`, is read from that token and one for each of its forms: the next token begins another
abbrev pub FormsAreTaken : Type 0
FormsAreTaken =
    (before : State) (first : Token) (more : List Token) (after : State)
    → IsRead before (first ∷ more) after → first.kind ≡ Word → bytes_eq (token_text before first) (codes "note") ≡ false
    → length more ≡ length (forms_of_word (token_text before first))
