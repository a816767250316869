-- The tokens that are left of a text.
use Rattle.std.specs.Prelude.{◌≡◌, ℕ, ◌-◌, ◌<◌, ◌≤◌, true, List, [], ◌∷◌, length, take, drop, Option, Some, None, Result, Ok, Err}
use Rattle.lg_base.specs.declared.refusal.Refusal.{Refusal}
use Rattle.lg_base.specs.Refusals.{refuse}
use Rattle.lg_base.specs.declared.refusal.RefusalKind.TheVariants.{BadOperand}
use Rattle.lg_lex.specs.declared.token.Token.{Token}
use Rattle.lg_lex.specs.declared.token.TokenKind.TheVariants.{Word, LabelMark}
use Rattle.lg_node.specs.Nodes.{is_word}

-- a text, the tokens of it that are left, and the fault after them, where there is one
pub record Stream : Type 0 where
  pub text : List ℕ
  pub left : List Token
  pub fault : Option Refusal

-- the bytes of a token
abbrev pub text_of : List ℕ → Token → List ℕ
text_of text token = take (token.end - token.start) (drop token.start text)

-- a text without its last byte
abbrev pub without_last : List ℕ → List ℕ
without_last bytes = take (length bytes - 1) bytes

-- the next token, where the text may end
abbrev pub next_of : List Token → Option Refusal → Result (Option Token) Refusal
next_of [] None = Ok None
next_of [] (Some refusal) = Err refusal
next_of (token ∷ more) fault = Ok (Some token)

-- the next token, where an operand is expected of the statement that begins in this line
abbrev pub wanted_of : ℕ → List Token → Option Refusal → Result Token Refusal
wanted_of line [] None = refuse BadOperand line
wanted_of line [] (Some refusal) = Err refusal
wanted_of line (token ∷ more) fault = Ok token

-- the first token, where one is left
abbrev pub head_of : List Token → Option Token
head_of [] = None
head_of (token ∷ more) = Some token

-- the tokens without the first
abbrev pub tail_of : List Token → List Token
tail_of [] = []
tail_of (token ∷ more) = more

abbrev pub passed : Stream → Stream
passed s = record s { left = tail_of s.left }

-- a token has at least a byte and lies within the text, and its text has the form of its kind where that is a word
pub record IsToken (text : List ℕ) (token : Token) : Type 0 where
  pub start : token.start < token.end
  pub end : token.end ≤ length text
  pub word : token.kind ≡ Word → is_word (text_of text token) ≡ true
  pub label : token.kind ≡ LabelMark → is_word (without_last (text_of text token)) ≡ true
