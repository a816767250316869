-- Which tokens are no operand of a form, by the reading of operands itself.
use Rattle.std.specs.Prelude.{◌≡◌, ℕ, List}
use Rattle.lg_lex.specs.declared.token.TokenKind.{TokenKind}
use Rattle.lg_op.specs.declared.form.Form.{Form}
use Rattle.lg_tst.specs.Names.{FunctionNames}
use Rattle.lg_tst.specs.Operands.{operand_at}
use Rattle.lg_explain.specs.Misfits.{is_bad, is_misfit}

-- a token is of another form exactly where the reading refuses it so, whatever labels and names the text has made
abbrev pub MisfitsAreRefused : Type 0
MisfitsAreRefused =
    (words : List (List ℕ)) (names : FunctionNames) (form : Form) (kind : TokenKind) (text : List ℕ) (value : ℕ)
    → is_misfit form kind text value ≡ is_bad (operand_at words names form kind text value)
