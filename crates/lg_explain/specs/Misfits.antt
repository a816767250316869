-- The first operand of a text that its place does not take, in words.
use Rattle.std.specs.Prelude.{ℕ, ◌-◌, ◌==◌, nat_le, Bool, true, false, not, ◌&&◌, ◌||◌, if◌then◌else◌, List, [], ◌∷◌, length, take, drop, Option, Some, None, Result, Err, codes}
use Rattle.std.specs.Option.{option_or}
use Rattle.std.specs.Str.{bytes_eq}
use Rattle.lg_base.specs.HostNames.{host_by_name}
use Rattle.lg_base.specs.declared.refusal.RefusalKind.{RefusalKind}
use Rattle.lg_base.specs.declared.refusal.RefusalKind.TheVariants.{BadOperand}
use Rattle.lg_io.specs.Wrote.{row}
use Rattle.lg_lex.specs.Tokens.{tokens_of}
use Rattle.lg_lex.specs.declared.token.Token.{Token}
use Rattle.lg_lex.specs.declared.token.TokenKind.{TokenKind}
use Rattle.lg_lex.specs.declared.token.TokenKind.TheVariants.{Word, Register, Number, Character, Expression, Name, Host, Str}
use Rattle.lg_op.specs.Forms.{admits}
use Rattle.lg_op.specs.declared.form.Form.{Form}
use Rattle.lg_op.specs.declared.form.Form.TheVariants.{Write, Update, Read, Immediate, Target, Callee, NewArgument, Argument, NewLocal, Size, Alignment, ArgumentCount}
use Rattle.lg_op.specs.declared.operand.Operand.{Operand}
use Rattle.lg_op.specs.declared.operand.Operand.TheVariants as operand
use Rattle.lg_operand.specs.Operands.{host_operand, register_operand}
use Rattle.lg_tst.specs.Statements.{is_number}
use Rattle.lg_tst.specs.Streams.{text_of}
use Rattle.lg_tst.specs.Units.{is_data_alignment, most_data}
use Rattle.lg_tst.specs.Words.{op_of}
use Rattle.lg_explain.specs.Lines.{shown}
use Rattle.lg_explain.specs.Twice.{forms_by}
use Rattle.lg_explain.specs.Unknown.{belongs, forms_after, part_after, rest_after}
use Rattle.lg_explain.specs.declared.place.Part.{Part}
use Rattle.lg_explain.specs.declared.place.Part.TheVariants as part
use Rattle.lg_explain.specs.declared.place.Rest.{Rest}
use Rattle.lg_explain.specs.declared.place.Rest.TheVariants as rest

-- ---- a token at the place of an operand: whether it is refused for its form, whatever labels and names the text makes
abbrev pub is_bad : Result Operand RefusalKind → Bool
is_bad (Err BadOperand) = true
is_bad read = false

abbrev pub takes_name : Form → Bool
takes_name NewArgument = true
takes_name NewLocal = true
takes_name Argument = true
takes_name Immediate = true
takes_name form = false

abbrev pub is_misfit : Form → TokenKind → (text : List ℕ) → (value : ℕ) → Bool
is_misfit form Register text value = is_bad (register_operand form text)
is_misfit form Host text value = is_bad (host_operand form (host_by_name (drop 1 text)))
is_misfit form Name text value = not (takes_name form)
is_misfit form Word text value = not (admits form (operand.Label (record { 0 = 0 })))
is_misfit form Number text value = not (admits form (operand.Number value))
is_misfit form Character text value = not (admits form (operand.Number value))
is_misfit form Expression text value = not (admits form (operand.Number value))
is_misfit form kind text value = true

-- two results go to two registers: a second one comes directly after the first
abbrev pub is_written : Form → Bool
is_written Write = true
is_written Update = true
is_written form = false

abbrev pub is_repeated : Form → (before text : List ℕ) → Bool
is_repeated form before text = is_written form && bytes_eq before text

-- ---- a token after a directive or `name`
abbrev pub number_fits : (word : List ℕ) → ℕ → Bool
number_fits word value = if bytes_eq word (codes ".data") then nat_le value most_data
    else (if bytes_eq word (codes ".align") then is_data_alignment value else true)

abbrev pub is_word : TokenKind → Bool
is_word Word = true
is_word kind = false

abbrev pub is_string : TokenKind → Bool
is_string Str = true
is_string kind = false

abbrev pub token_fits : (word : List ℕ) → TokenKind → ℕ → Bool
token_fits word kind value = if bytes_eq word (codes "name") then is_word kind else (is_number kind && number_fits word value)

abbrev pub rest_takes : Rest → (word : List ℕ) → TokenKind → ℕ → Bool
rest_takes rest.Token word kind value = token_fits word kind value
rest_takes rest.FirstByte word kind value = is_number kind || is_string kind
rest_takes rest.FirstNumber word kind value = is_number kind
rest_takes r word kind value = true

-- ---- a token that the statement at hand takes none like, by the word of that, the token before, and the end of a text before its time
abbrev pub is_misfit_at : List Form → Rest → (word before : List ℕ) → TokenKind → (text : List ℕ) → ℕ → Bool
is_misfit_at [] r word before kind text value = not (rest_takes r word kind value)
is_misfit_at (form ∷ forms) r word before kind text value = is_misfit form kind text value || is_repeated form before text

abbrev pub wants_token : Rest → Bool
wants_token rest.Token = true
wants_token rest.FirstByte = true
wants_token rest.FirstNumber = true
wants_token r = false

abbrev pub lacks : List Form → Rest → Bool
lacks [] r = wants_token r
lacks (form ∷ forms) r = true

-- ---- the words
-- the forms of all operands of a statement by its word
abbrev pub all_forms : (word : List ℕ) → List Form
all_forms word = if bytes_eq word (codes ".align") then Alignment ∷ [] else forms_by (op_of word)

-- which are listed where operands are left of it
abbrev pub listed : (left : List Form) → (word : List ℕ) → List Form
listed [] word = []
listed (form ∷ forms) word = all_forms word

-- the number of the operand with which those that are left begin
abbrev pub ordinal : (done : ℕ) → List ℕ
ordinal done = if done == 0 then codes "1" else (if done == 1 then codes "2" else (if done == 2 then codes "3" else codes "4"))

abbrev pub number_words : (all left : List Form) → List ℕ
number_words all left = ordinal (length all - length left)

abbrev pub form_words : Form → List ℕ
form_words Write = codes "register"
form_words Update = codes "register"
form_words Read = codes "register"
form_words Immediate = codes "number"
form_words Target = codes "label"
form_words Callee = codes "label or @function"
form_words NewArgument = codes "$name"
form_words Argument = codes "$name of an arg"
form_words NewLocal = codes "$name"
form_words Size = codes "number from 1 to 65536"
form_words Alignment = codes "power of two from 1 to 64"
form_words ArgumentCount = codes "nothing"

-- what `name`, `.data`, `.size` and, in the data part, `.align` take
abbrev pub token_words : (word : List ℕ) → List ℕ
token_words word = if bytes_eq word (codes "name") then codes "word" else (if bytes_eq word (codes ".data") then codes "number up to 16777216"
    else (if bytes_eq word (codes ".align") then codes "power of two from 1 to 4096" else codes "number"))

abbrev pub rest_words : Rest → (word : List ℕ) → List ℕ
rest_words rest.Token word = token_words word
rest_words rest.FirstByte word = codes "strings and numbers"
rest_words r word = codes "numbers"

-- the first place, and one that follows another: the second of two results goes to another register
abbrev pub first_words : List Form → Rest → (word : List ℕ) → List ℕ
first_words [] r word = rest_words r word
first_words (form ∷ forms) r word = form_words form

abbrev pub is_second : (before form : Form) → Bool
is_second Write form = is_written form
is_second before form = false

abbrev pub second_words : (before form : Form) → List ℕ
second_words before form = if is_second before form then codes "another register" else form_words form

abbrev pub comma : List Form → List ℕ
comma (before ∷ form ∷ more) = codes ", "
comma forms = []

abbrev pub next_words : List Form → List ℕ
next_words (before ∷ form ∷ more) = second_words before form
next_words forms = []

-- at most this many bytes are shown of what is there
abbrev pub most_there : ℕ
most_there = 40

-- what all places take, in a row: there are at most four
abbrev pub places : List Form → Rest → (word : List ℕ) → List ℕ
places all r word = row (first_words all r word ∷ comma all ∷ next_words all ∷ comma (drop 1 all) ∷ next_words (drop 1 all)
    ∷ comma (drop 1 (drop 1 all)) ∷ next_words (drop 1 (drop 1 all)) ∷ [])

abbrev pub words_by : (number word there places : List ℕ) → List ℕ
words_by number word there places = row (codes "operand " ∷ number ∷ codes " of " ∷ word ∷ codes " is " ∷ there
    ∷ codes "; " ∷ word ∷ codes " takes: " ∷ places ∷ [])

abbrev pub misfit_words : List Form → Rest → (word there : List ℕ) → List ℕ
misfit_words left r word there = let all = listed left word in
    words_by (number_words all left) word (take most_there there) (shown (places all r word))

-- ---- the first token that is none, by the tokens that are left
abbrev pub misfit : List Form → Rest → (word before : List ℕ) → TokenKind → (text : List ℕ) → ℕ → Option (List ℕ)
misfit left r word before kind text value =
    if is_misfit_at left r word before kind text value then Some (misfit_words left r word text) else None

abbrev pub missing : List Form → Rest → (word : List ℕ) → Option (List ℕ)
missing left r word = if lacks left r then Some (misfit_words left r word (codes "missing: the text ends here")) else None

-- the word of the statement at hand, after a token
abbrev pub word_after : List Form → Rest → (word : List ℕ) → TokenKind → (text : List ℕ) → List ℕ
word_after left r word kind text = if belongs left r kind then word else text

unfoldable pub misfit_from : List ℕ → List Token → Part → List Form → Rest → (word before : List ℕ) → Option (List ℕ)
misfit_from text [] p left r word before = missing left r word
misfit_from text (t ∷ more) p left r word before = option_or (misfit left r word before t.kind (text_of text t) t.value)
    (misfit_from text more (part_after p left r t.kind (text_of text t)) (forms_after p left r t.kind (text_of text t))
    (rest_after p left r t.kind (text_of text t)) (word_after left r word t.kind (text_of text t)) (text_of text t))

-- of a whole text
abbrev pub first_misfit : List ℕ → Option (List ℕ)
first_misfit text = misfit_from text (tokens_of text).0 part.First [] rest.Nothing [] []
