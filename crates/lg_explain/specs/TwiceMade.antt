-- The word that a text makes a second time, in the words of its tokens.
use Rattle.std.specs.Prelude.{◌≡◌, ◌↔◌, ◌⊎◌, ℕ, zero, suc, ◌<◌, true, List, [], ◌∷◌, Some, Ok, Err, drop, slice_get}
use Rattle.lg_base.specs.declared.refusal.Refusal.{Refusal}
use Rattle.lg_base.specs.declared.refusal.RefusalKind.TheVariants.{LabelTwice}
use Rattle.lg_lex.specs.Tokens.{tokens_of}
use Rattle.lg_lex.specs.declared.token.Token.{Token}
use Rattle.lg_op.specs.declared.form.Form.{Form}
use Rattle.lg_pre.specs.Expanded.{expanded}
use Rattle.lg_tst.specs.Streams.{text_of, without_last}
use Rattle.lg_tst.specs.Units.{unit_of}
use Rattle.lg_explain.specs.Lines.{shown}
use Rattle.lg_explain.specs.Twice.{begins_function, forms_after, made_twice, makes_label, makes_name_in}
use Rattle.lg_explain.specs.Words.{word_told}

-- the forms of the operands that are left before a token: none where it begins a statement
abbrev pub forms_at : List ℕ → List Form → List Token → ℕ → List Form
forms_at text forms [] i = forms
forms_at text forms (t ∷ tokens) zero = forms
forms_at text forms (t ∷ tokens) (suc i) = forms_at text (forms_after forms t.kind (text_of text t)) tokens i

-- token i makes the label of this word: it is a label mark that begins a statement
pub record MakesLabel (text : List ℕ) (forms : List Form) (tokens : List Token) (i : ℕ) (word : List ℕ) : Type 0 where
  pub token : Token
  pub here : slice_get tokens i ≡ Some token
  pub makes : makes_label (forms_at text forms tokens i) token.kind ≡ true
  pub is : word ≡ without_last (text_of text token)

-- token i makes the name of this word: it is a name where `arg` or `allocai` has its own
pub record MakesName (text : List ℕ) (forms : List Form) (tokens : List Token) (i : ℕ) (word : List ℕ) : Type 0 where
  pub token : Token
  pub here : slice_get tokens i ≡ Some token
  pub makes : makes_name_in (forms_at text forms tokens i) token.kind ≡ true
  pub is : word ≡ drop 1 (text_of text token)

-- token i is the `prolog` of a function
pub record BeginsFunction (text : List ℕ) (forms : List Form) (tokens : List Token) (i : ℕ) : Type 0 where
  pub token : Token
  pub here : slice_get tokens i ≡ Some token
  pub begins : begins_function (forms_at text forms tokens i) token.kind (text_of text token) ≡ true

-- token i makes a label that one before it makes
pub record MakesLabelAgain (text : List ℕ) (tokens : List Token) (i : ℕ) (word : List ℕ) : Type 0 where
  pub before : ℕ
  pub sooner : before < i
  pub first : MakesLabel text [] tokens before word
  pub second : MakesLabel text [] tokens i word

-- or a name that one before it makes, and no function begins between them
pub record MakesNameAgain (text : List ℕ) (tokens : List Token) (i : ℕ) (word : List ℕ) : Type 0 where
  pub before : ℕ
  pub sooner : before < i
  pub first : MakesName text [] tokens before word
  pub second : MakesName text [] tokens i word
  pub within : (k : ℕ) → before < k → k < i → BeginsFunction text [] tokens k → ⊥

abbrev pub MakesAgain : List ℕ → List Token → ℕ → List ℕ → Type 0
MakesAgain text tokens i word = MakesLabelAgain text tokens i word ⊎ MakesNameAgain text tokens i word

-- the first token that makes a word a second time makes this one
pub record IsFirstAgain (text : List ℕ) (tokens : List Token) (word : List ℕ) : Type 0 where
  pub at : ℕ
  pub again : MakesAgain text tokens at word
  pub first : (j : ℕ) (other : List ℕ) → j < at → MakesAgain text tokens j other → ⊥

-- the word that is made twice is that one
abbrev pub FirstIsMadeTwice : Type 0
FirstIsMadeTwice = (text word : List ℕ) → (made_twice text ≡ Some word) ↔ IsFirstAgain text (tokens_of text).0 word

-- and it is the word that is reported of what was read, where its expansion has no unit, as it is shown
pub record IsToldTwice (text word : List ℕ) : Type 0 where
  pub again : List ℕ
  pub first : IsFirstAgain text (tokens_of text).0 again
  pub is : word ≡ shown again

abbrev pub FirstIsTold : Type 0
FirstIsTold =
    (read text word : List ℕ) (fault : Refusal) → expanded read ≡ Ok text → unit_of text ≡ Err fault
    → (word_told read LabelTwice ≡ Some word) ↔ IsToldTwice text word

-- a text that is refused for a word that is made twice is refused in the line of the first token that makes one again
pub record IsRefusedThere (text : List ℕ) (fault : Refusal) : Type 0 where
  pub word : List ℕ
  pub first : IsFirstAgain text (tokens_of text).0 word
  pub token : Token
  pub here : slice_get (tokens_of text).0 first.at ≡ Some token
  pub line : token.line ≡ fault.line

abbrev pub TwiceIsWhereReadingStops : Type 0
TwiceIsWhereReadingStops = (text : List ℕ) (fault : Refusal) → unit_of text ≡ Err fault → fault.kind ≡ LabelTwice → IsRefusedThere text fault
