-- The word that a text makes a second time: of a label, or of a name of a function.
use Rattle.std.specs.Prelude.{ℕ, Bool, true, false, ◌&&◌, if◌then◌else◌, List, [], ◌∷◌, ◌++◌, drop, Option, Some, None, codes}
use Rattle.std.specs.List.{list_any}
use Rattle.std.specs.Option.{option_or}
use Rattle.std.specs.Str.{bytes_eq}
use Rattle.lg_lex.specs.Tokens.{tokens_of}
use Rattle.lg_lex.specs.declared.token.Token.{Token}
use Rattle.lg_lex.specs.declared.token.TokenKind.{TokenKind}
use Rattle.lg_lex.specs.declared.token.TokenKind.TheVariants.{Word, LabelMark, Name}
use Rattle.lg_op.specs.declared.form.Form.{Form}
use Rattle.lg_op.specs.declared.form.Form.TheVariants.{Immediate, NewArgument, NewLocal}
use Rattle.lg_op.specs.declared.op.Op.{Op}
use Rattle.lg_node.specs.Functions.{is_prolog}
use Rattle.lg_tst.specs.Streams.{text_of, without_last}
use Rattle.lg_tst.specs.Units.{written_forms}
use Rattle.lg_tst.specs.Words.{op_of}

-- ---- words that were made
abbrev pub is_made : List (List ℕ) → List ℕ → Bool
is_made words word = list_any (bytes_eq word) words

abbrev pub with_word : List (List ℕ) → List ℕ → List (List ℕ)
with_word words word = if is_made words word then words else words ++ word ∷ []

-- ---- what a token does, where operands of these forms are left of an instruction: where none are, it begins a statement
-- a label mark there makes a label
abbrev pub makes_label : List Form → TokenKind → Bool
makes_label [] LabelMark = true
makes_label forms kind = false

abbrev pub makes_name : Form → Bool
makes_name NewArgument = true
makes_name NewLocal = true
makes_name form = false

abbrev pub is_name : TokenKind → Bool
is_name Name = true
is_name kind = false

-- a name makes one where `arg` or `allocai` has its own
abbrev pub makes_name_in : List Form → TokenKind → Bool
makes_name_in [] kind = false
makes_name_in (form ∷ forms) kind = makes_name form && is_name kind

-- the forms of the operands after a word that begins a statement: `name` has a word, which makes nothing
abbrev pub forms_by : Option Op → List Form
forms_by None = []
forms_by (Some op) = written_forms op

abbrev pub forms_of_word : List ℕ → List Form
forms_of_word word = if bytes_eq word (codes "name") then Immediate ∷ [] else forms_by (op_of word)

abbrev pub forms_begun : TokenKind → List ℕ → List Form
forms_begun Word text = forms_of_word text
forms_begun kind text = []

-- what is left after a token
abbrev pub forms_after : List Form → TokenKind → List ℕ → List Form
forms_after [] kind text = forms_begun kind text
forms_after (form ∷ forms) kind text = forms

-- the names of a function end with the next `prolog`
abbrev pub begins : Option Op → Bool
begins None = false
begins (Some op) = is_prolog op

abbrev pub begins_function : List Form → TokenKind → List ℕ → Bool
begins_function [] Word text = begins (op_of text)
begins_function forms kind text = false

-- the labels that are made after a token, which has this text, and the names
abbrev pub labels_after : List Form → TokenKind → (text : List ℕ) → List (List ℕ) → List (List ℕ)
labels_after forms kind text labels = if makes_label forms kind then with_word labels (without_last text) else labels

abbrev pub names_after : List Form → TokenKind → (text : List ℕ) → List (List ℕ) → List (List ℕ)
names_after forms kind text names =
    if begins_function forms kind text then [] else (if makes_name_in forms kind then with_word names (drop 1 text) else names)

-- the word that a token makes, where it was made before
abbrev pub made_again : List (List ℕ) → List ℕ → Option (List ℕ)
made_again words word = if is_made words word then Some word else None

abbrev pub again : List Form → TokenKind → (text : List ℕ) → (labels names : List (List ℕ)) → Option (List ℕ)
again forms kind text labels names =
    if makes_label forms kind then made_again labels (without_last text)
    else (if makes_name_in forms kind then made_again names (drop 1 text) else None)

-- ---- the first word that is made again, by the tokens that are left, what was made, and the forms of the operands that are left
unfoldable pub twice_from : List ℕ → List Token → (labels names : List (List ℕ)) → List Form → Option (List ℕ)
twice_from text [] labels names forms = None
twice_from text (t ∷ more) labels names forms = option_or (again forms t.kind (text_of text t) labels names)
    (twice_from text more (labels_after forms t.kind (text_of text t) labels) (names_after forms t.kind (text_of text t) names)
    (forms_after forms t.kind (text_of text t)))

-- of a whole text
abbrev pub made_twice : List ℕ → Option (List ℕ)
made_twice text = twice_from text (tokens_of text).0 [] [] []
