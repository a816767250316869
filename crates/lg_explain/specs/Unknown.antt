-- The first word of a text that begins no statement: an operation that there is not, or one that its part does not take.
use Rattle.std.specs.Prelude.{ℕ, Bool, true, false, not, ◌&&◌, ◌||◌, if◌then◌else◌, List, [], ◌∷◌, drop, Option, Some, None, is_some, codes}
use Rattle.std.specs.Option.{option_or}
use Rattle.std.specs.Str.{bytes_eq}
use Rattle.lg_io.specs.Wrote.{row}
use Rattle.lg_lex.specs.Tokens.{tokens_of}
use Rattle.lg_lex.specs.declared.token.Token.{Token}
use Rattle.lg_lex.specs.declared.token.TokenKind.{TokenKind}
use Rattle.lg_lex.specs.declared.token.TokenKind.TheVariants.{Word, Directive, LabelMark, Number, Str}
use Rattle.lg_op.specs.declared.form.Form.{Form}
use Rattle.lg_op.specs.declared.form.Form.TheVariants.{Alignment}
use Rattle.lg_tst.specs.Statements.{is_number}
use Rattle.lg_tst.specs.Streams.{text_of}
use Rattle.lg_tst.specs.Words.{op_of}
use Rattle.lg_explain.specs.Twice.{forms_by}
use Rattle.lg_explain.specs.declared.place.Part.{Part}
use Rattle.lg_explain.specs.declared.place.Part.TheVariants as part
use Rattle.lg_explain.specs.declared.place.Rest.{Rest}
use Rattle.lg_explain.specs.declared.place.Rest.TheVariants as rest

-- ---- what belongs to the statement at hand: a token for each operand that is left, and what a directive, `name` or `note` takes
abbrev pub goes_on : Rest → TokenKind → Bool
goes_on rest.Nothing kind = false
goes_on rest.Token kind = true
goes_on rest.FirstByte kind = true
goes_on rest.FirstNumber kind = true
goes_on rest.Bytes Str = true
goes_on rest.Bytes kind = is_number kind
goes_on rest.Numbers kind = is_number kind
goes_on rest.NoteString Str = true
goes_on rest.NoteString Number = true
goes_on rest.NoteString kind = false
goes_on rest.NoteNumber Number = true
goes_on rest.NoteNumber kind = false

abbrev pub belongs : List Form → Rest → TokenKind → Bool
belongs [] r kind = goes_on r kind
belongs (form ∷ forms) r kind = true

-- what may come after a token of it
abbrev pub rest_on : Rest → TokenKind → Rest
rest_on rest.FirstByte kind = rest.Bytes
rest_on rest.FirstNumber kind = rest.Numbers
rest_on rest.Bytes kind = rest.Bytes
rest_on rest.Numbers kind = rest.Numbers
rest_on rest.NoteString Str = rest.NoteNumber
rest_on r kind = rest.Nothing

-- ---- what a token begins
abbrev pub is_data : Part → Bool
is_data part.Data = true
is_data p = false

-- the words of the code part: operations, `name` and `note`; the data part has `note` alone
abbrev pub is_code_word : List ℕ → Bool
is_code_word text = bytes_eq text (codes "name") || is_some (op_of text)

abbrev pub is_word_of : Part → List ℕ → Bool
is_word_of p text = bytes_eq text (codes "note") || (not (is_data p) && is_code_word text)

-- the directives of the data part that values follow
abbrev pub is_values : List ℕ → Bool
is_values text = bytes_eq text (codes ".s") || (bytes_eq text (codes ".i") || bytes_eq text (codes ".l"))

abbrev pub is_item : List ℕ → Bool
is_item text = bytes_eq text (codes ".size") || (bytes_eq text (codes ".c") || is_values text)

-- a text has one `.data`
abbrev pub takes_data : Part → Bool
takes_data part.First = true
takes_data p = false

abbrev pub is_directive_of : Part → List ℕ → Bool
is_directive_of p text = if bytes_eq text (codes ".data") then takes_data p
    else (bytes_eq text (codes ".code") || (bytes_eq text (codes ".align") || (is_data p && is_item text)))

abbrev pub begins_none : Part → TokenKind → List ℕ → Bool
begins_none p Word text = not (is_word_of p text)
begins_none p Directive text = not (is_directive_of p text)
begins_none p LabelMark text = false
begins_none p kind text = true

-- the part after a directive
abbrev pub code_after : Part → Part
code_after part.Data = part.Code
code_after p = p

abbrev pub part_by : Part → List ℕ → Part
part_by p text = if bytes_eq text (codes ".data") then part.Data else (if bytes_eq text (codes ".code") then code_after p else p)

abbrev pub part_begun : Part → TokenKind → List ℕ → Part
part_begun p Directive text = part_by p text
part_begun p kind text = p

-- the forms of the operands after it
abbrev pub forms_in : Part → List Form → List Form
forms_in part.Data forms = []
forms_in p forms = forms

abbrev pub align_forms : List ℕ → List Form
align_forms text = if bytes_eq text (codes ".align") then Alignment ∷ [] else []

abbrev pub forms_begun : Part → TokenKind → List ℕ → List Form
forms_begun p Word text = forms_in p (forms_by (op_of text))
forms_begun p Directive text = forms_in p (align_forms text)
forms_begun p kind text = []

-- what else it takes
abbrev pub rest_of_word : List ℕ → Rest
rest_of_word text = if bytes_eq text (codes "note") then rest.NoteString else (if bytes_eq text (codes "name") then rest.Token else rest.Nothing)

abbrev pub rest_of_item : List ℕ → Rest
rest_of_item text = if bytes_eq text (codes ".c") then rest.FirstByte else (if is_values text then rest.FirstNumber else rest.Token)

abbrev pub rest_of_directive : Part → List ℕ → Rest
rest_of_directive p text = if bytes_eq text (codes ".data") then rest.Token
    else (if bytes_eq text (codes ".code") then rest.Nothing else (if is_data p then rest_of_item text else rest.Nothing))

abbrev pub rest_begun : Part → TokenKind → List ℕ → Rest
rest_begun p Word text = rest_of_word text
rest_begun p Directive text = rest_of_directive p text
rest_begun p kind text = rest.Nothing

-- ---- what is after a token
abbrev pub part_after : Part → List Form → Rest → TokenKind → (text : List ℕ) → Part
part_after p forms r kind text = if belongs forms r kind then p else part_begun p kind text

abbrev pub forms_after : Part → List Form → Rest → TokenKind → (text : List ℕ) → List Form
forms_after p forms r kind text = if belongs forms r kind then drop 1 forms else forms_begun p kind text

abbrev pub rest_on_in : List Form → Rest → TokenKind → Rest
rest_on_in [] r kind = rest_on r kind
rest_on_in (form ∷ forms) r kind = r

abbrev pub rest_after : Part → List Form → Rest → TokenKind → (text : List ℕ) → Rest
rest_after p forms r kind text = if belongs forms r kind then rest_on_in forms r kind else rest_begun p kind text

-- ---- the first token that begins no statement, by the tokens that are left
abbrev pub is_unknown : Part → List Form → Rest → TokenKind → (text : List ℕ) → Bool
is_unknown p forms r kind text = not (belongs forms r kind) && begins_none p kind text

-- the token, and the part in which it stands
abbrev pub part_words : Part → List ℕ
part_words part.Data = codes ", in the data part"
part_words p = codes ", in the code part"

abbrev pub unknown_words : Part → (text : List ℕ) → List ℕ
unknown_words p text = row (text ∷ part_words p ∷ [])

abbrev pub unknown : Part → List Form → Rest → TokenKind → (text : List ℕ) → Option (List ℕ)
unknown p forms r kind text = if is_unknown p forms r kind text then Some (unknown_words p text) else None

unfoldable pub unknown_from : List ℕ → List Token → Part → List Form → Rest → Option (List ℕ)
unknown_from text [] p forms r = None
unknown_from text (t ∷ more) p forms r = option_or (unknown p forms r t.kind (text_of text t))
    (unknown_from text more (part_after p forms r t.kind (text_of text t)) (forms_after p forms r t.kind (text_of text t))
    (rest_after p forms r t.kind (text_of text t)))

-- of a whole text
abbrev pub first_unknown : List ℕ → Option (List ℕ)
first_unknown text = unknown_from text (tokens_of text).0 part.First [] rest.Nothing
