-- The statements of a text: what each takes, what it adds, and which token is at fault.
use Rattle.std.specs.Prelude.{ℕ, zero, suc, ◌-◌, ◌%◌, ◌==◌, nat_le, nat_lt, Bool, true, false, ◌||◌, if◌then◌else◌, List, [], ◌∷◌, ◌++◌, length, take, drop, Option, Some, None, is_some, slice_get, Result, Ok, Err}
use Rattle.byteorder.specs.Endian.{little_bytes}
use Rattle.lg_base.specs.declared.refusal.Refusal.{Refusal}
use Rattle.lg_base.specs.declared.refusal.RefusalKind.{RefusalKind}
use Rattle.lg_base.specs.declared.refusal.RefusalKind.TheVariants.{UnknownName, BadOperand, LabelTwice, DataFull, TooManyNodes}
use Rattle.lg_lex.specs.Escapes.{string_left}
use Rattle.lg_lex.specs.Tokens.{tokens_of}
use Rattle.lg_lex.specs.declared.token.Token.{Token}
use Rattle.lg_lex.specs.declared.token.TokenKind.{TokenKind}
use Rattle.lg_lex.specs.declared.token.TokenKind.TheVariants.{Word, Number, Name, Str}
use Rattle.lg_op.specs.Forms.{forms_of}
use Rattle.lg_op.specs.declared.form.Form.{Form}
use Rattle.lg_op.specs.declared.form.Form.TheVariants.{Write}
use Rattle.lg_op.specs.declared.op.Op.{Op}
use Rattle.lg_op.specs.declared.op.Op.TheVariants.{Plain}
use Rattle.lg_op.specs.declared.op.PlainOp.TheVariants as plain
use Rattle.lg_op.specs.declared.operand.Operand.{Operand}
use Rattle.lg_op.specs.declared.operand.Operand.TheVariants as operand
use Rattle.lg_node.specs.Nodes.{LabelledNodes, with_node, number_of, mentioned, with_place}
use Rattle.lg_node.specs.declared.place.Place.{Place}
use Rattle.lg_node.specs.declared.place.Place.TheVariants as place
use Rattle.lg_node.specs.declared.unit.Unit.{Unit as TextUnit}
use Rattle.lg_tst.specs.DataParts.{DataBytes, no_data, fits, with_bytes, zeros, image_of}
use Rattle.lg_tst.specs.Names.{FunctionNames, no_names}
use Rattle.lg_operand.specs.Operands.{misfit}
use Rattle.lg_tst.specs.Operands.{operand_at, apart_or, names_after}
use Rattle.lg_tst.specs.Statements.{statement_of, bytes_in, is_number, is_value}
use Rattle.lg_base.specs.Refusals.{◌>>=◌, refuse}
use Rattle.lg_tst.specs.Streams.{Stream, text_of, without_last, next_of, wanted_of, passed}
use Rattle.lg_tst.specs.declared.statement.ItemSize.{ItemSize}
use Rattle.lg_tst.specs.declared.statement.Section.{Section}
use Rattle.lg_tst.specs.declared.statement.Section.TheVariants as section
use Rattle.lg_tst.specs.declared.statement.Statement.{Statement}
use Rattle.lg_tst.specs.declared.statement.Statement.TheVariants as statement

-- what has been read, and the tokens that are left
pub record State : Type 0 where
  pub source : Stream
  pub section : Section
  pub part : DataBytes
  pub list : LabelledNodes
  pub names : FunctionNames

abbrev pub at_line : {A : Type 0} → ℕ → Result A RefusalKind → Result A Refusal
at_line line (Ok x) = Ok x
at_line line (Err kind) = refuse kind line

-- the bytes of a token
abbrev pub token_text : State → Token → List ℕ
token_text s token = text_of s.source.text token

-- after the next token
abbrev pub behind : State → State
behind s = record s { source = passed s.source }

-- the next token, as an operand of the statement that begins in this line: at the end of the text that line is to blame
abbrev pub wanted : ℕ → State → Result Token Refusal
wanted line s = wanted_of line s.source.left s.source.fault

-- ---- instructions

-- the operand that a token is, after those before it
abbrev pub operand_of : State → Op → Form → List Operand → Token → Result Operand Refusal
operand_of s op form done t = at_line t.line (apart_or op done (operand_at s.list.words s.names form t.kind (token_text s t) t.value))

-- what an operand adds: a word mentions its label, and a name is made where the place makes one
abbrev pub noted_by : TokenKind → State → Form → List Operand → List ℕ → State
noted_by Word s form done text = record s { list = mentioned s.list text }
noted_by Name s form done text = record s { names = names_after form done s.names (drop 1 text) }
noted_by kind s form done text = s

abbrev pub noted : State → Form → List Operand → Token → State
noted s form done t = noted_by t.kind s form done (token_text s t)

-- the operands each of which has its token: `va_start` has a second one, for which none stands
abbrev pub written_forms : Op → List Form
written_forms (Plain plain.VaStart) = Write ∷ []
written_forms op = forms_of op

-- and all of them: that of `va_start` is the number of its function's arguments so far
abbrev pub all_operands : Op → List Operand → FunctionNames → List Operand
all_operands (Plain plain.VaStart) done names = done ++ operand.Number names.arguments ∷ []
all_operands op done names = done

-- the operands that are left of an instruction, each at its token, and then the node
unfoldable pub operands : Op → ℕ → List Form → List Operand → State → Result State Refusal
operands op line [] done s = Ok (record s { list = with_node s.list (record { op = op; operands = all_operands op done s.names; line = line }) })
operands op line (form ∷ forms) done s =
    wanted line s >>= λ t.
    operand_of (behind s) op form done t >>= λ x.
    operands op line forms (done ++ x ∷ []) (noted (behind s) form done t)

-- the names of a function end with the next `prolog`
abbrev pub begun : Op → State → State
begun (Plain plain.Prolog) s = record s { names = no_names }
begun op s = s

abbrev pub most_nodes : ℕ
most_nodes = 1048576

-- an instruction, and `.align N` of code
abbrev pub instruction : Op → State → ℕ → Result State Refusal
instruction op s line =
    if nat_lt (length s.list.nodes) most_nodes then operands op line (written_forms op) [] (begun op s) else refuse TooManyNodes line

-- ---- data

-- a number, a character or an expression at an operand's place
abbrev pub number_at : State → Token → Result Token Refusal
number_at s t = if is_number t.kind then Ok t else refuse (misfit t.kind (token_text s t)) t.line

abbrev pub number_wanted : ℕ → State → Result Token Refusal
number_wanted line s = wanted line s >>= λ t. number_at (behind s) t

abbrev pub most_data : ℕ
most_data = 16777216

abbrev pub opened : State → Token → Result State Refusal
opened s t =
    if nat_le t.value most_data then Ok (record s { section = section.Data; part = record s.part { size = Some t.value } })
    else refuse BadOperand t.line

-- `.data N`, once
abbrev pub data_section : State → ℕ → Result State Refusal
data_section s line = if is_some s.part.size then refuse UnknownName line else (number_wanted line s >>= λ t. opened (behind s) t)

-- this many bytes more of the data part, which are these
abbrev pub stored : ℕ → ℕ → List ℕ → State → Result State Refusal
stored line n bytes s = if fits s.part n then Ok (record s { part = with_bytes s.part bytes }) else refuse DataFull line

-- `.size N`
abbrev pub skip : State → ℕ → Result State Refusal
skip s line = number_wanted line s >>= λ t. stored t.line t.value (zeros t.value) (behind s)

-- the powers of two from 1 to 4,096
abbrev pub is_data_alignment : ℕ → Bool
is_data_alignment n =
    (n == 1) || ((n == 2) || ((n == 4) || ((n == 8) || ((n == 16) || ((n == 32) || ((n == 64) || ((n == 128) || ((n == 256)
    || ((n == 512) || ((n == 1024) || ((n == 2048) || (n == 4096))))))))))))

-- how many bytes lie between a place and the next multiple
abbrev pub padding : ℕ → ℕ → ℕ
padding place n = (n - place % n) % n

abbrev pub aligned : State → Token → Result State Refusal
aligned s t =
    if is_data_alignment t.value then stored t.line (padding (length s.part.bytes) t.value) (zeros (padding (length s.part.bytes) t.value)) s
    else refuse BadOperand t.line

-- `.align N` of data
abbrev pub align_data : State → ℕ → Result State Refusal
align_data s line = number_wanted line s >>= λ t. aligned (behind s) t

-- the bytes of a value: of a string its bytes and a zero, of a number its low bytes
abbrev pub value_bytes : ItemSize → TokenKind → List ℕ → ℕ → List ℕ
value_bytes size Str text value = string_left text 0 ++ 0 ∷ []
value_bytes size kind text value = take (bytes_in size) (little_bytes 8 value)

abbrev pub item : ItemSize → Token → State → Result State Refusal
item size t s = stored t.line (length (value_bytes size t.kind (token_text s t) t.value)) (value_bytes size t.kind (token_text s t) t.value) s

-- the values that follow: the first token that is none begins the next statement
unfoldable pub more_values : ItemSize → List Token → State → Result State Refusal
more_values size [] s = Ok s
more_values size (t ∷ more) s = if is_value size t.kind then (item size t (behind s) >>= λ u. more_values size more u) else Ok s

-- a value, and those that follow
abbrev pub value_and_more : ItemSize → Token → State → Result State Refusal
value_and_more size t s = item size t s >>= λ u. more_values size s.source.left u

abbrev pub first_value : ItemSize → State → Token → Result State Refusal
first_value size s t = if is_value size t.kind then item size t s else refuse (misfit t.kind (token_text s t)) t.line

-- `.c V V`, `.s`, `.i` and `.l`
abbrev pub values : ItemSize → State → ℕ → Result State Refusal
values size s line = wanted line s >>= λ t. first_value size (behind s) t >>= λ u. more_values size u.source.left u

-- ---- labels, `name` and `note`

abbrev pub is_unbound : Option (Option Place) → Bool
is_unbound (Some None) = true
is_unbound bound = false

-- where the next node or the next data byte stands
abbrev pub place_in : Section → State → Place
place_in section.Code s = place.Node (length s.list.nodes)
place_in section.Data s = place.Image (length s.part.bytes)

-- a word's label is bound at a place, and it was not bound before
abbrev pub bound_at : LabelledNodes → ℕ → Place → Option LabelledNodes
bound_at list label p = if is_unbound (slice_get list.places label) then Some (with_place list label p) else None

abbrev pub or_twice : Option LabelledNodes → State → ℕ → Result State Refusal
or_twice (Some list) s line = Ok (record s { list = list })
or_twice None s line = refuse LabelTwice line

-- `label:`
abbrev pub label : State → List ℕ → ℕ → Result State Refusal
label s word line = or_twice (bound_at (mentioned s.list word) (number_of s.list.words word) (place_in s.section s)) s line

abbrev pub is_word_kind : TokenKind → Bool
is_word_kind Word = true
is_word_kind kind = false

abbrev pub named : State → Token → Result State Refusal
named s t = if is_word_kind t.kind then Ok s else refuse (misfit t.kind (token_text s t)) t.line

-- `name x`
abbrev pub name_word : State → ℕ → Result State Refusal
name_word s line = wanted line s >>= λ t. named (behind s) t

abbrev pub is_string : TokenKind → Bool
is_string Str = true
is_string kind = false

abbrev pub is_digits : TokenKind → Bool
is_digits Number = true
is_digits kind = false

-- after the next token, where that is of such a kind
abbrev pub after_if : (TokenKind → Bool) → List Token → State → State
after_if test [] s = s
after_if test (t ∷ more) s = if test t.kind then behind s else s

abbrev pub skip_if : (TokenKind → Bool) → State → State
skip_if test s = after_if test s.source.left s

-- `note`, and an optional string and then an optional number
abbrev pub note : State → State
note s = skip_if is_digits (skip_if is_string s)

-- ---- texts

-- a statement, whose first token is t
abbrev pub statement_by : Result Statement RefusalKind → State → Token → Result State Refusal
statement_by (Ok statement.Data) s t = data_section s t.line
statement_by (Ok statement.Code) s t = Ok (record s { section = section.Code })
statement_by (Ok statement.Label) s t = label s (without_last (token_text s t)) t.line
statement_by (Ok statement.Name) s t = name_word s t.line
statement_by (Ok statement.Note) s t = Ok (note s)
statement_by (Ok (statement.Values size)) s t = values size s t.line
statement_by (Ok statement.Skip) s t = skip s t.line
statement_by (Ok statement.AlignData) s t = align_data s t.line
statement_by (Ok (statement.Instruction op)) s t = instruction op s t.line
statement_by (Err kind) s t = refuse kind t.line

abbrev pub statement_from : State → Token → Result State Refusal
statement_from s t = statement_by (statement_of s.section t.kind (token_text s t)) s t

-- the end of the text, its fault, or a statement and what comes after it
abbrev pub text_from : (State → Result State Refusal) → State → Result (Option Token) Refusal → Result State Refusal
text_from rest s (Ok None) = Ok s
text_from rest s (Ok (Some t)) = statement_from (behind s) t >>= rest
text_from rest s (Err refusal) = Err refusal

-- the statements that are left (at most this many)
unfoldable pub statements : ℕ → State → Result State Refusal
statements zero s = Ok s
statements (suc k) s = text_from (statements k) s (next_of s.source.left s.source.fault)

-- all statements that are left: there are no more than tokens
abbrev pub statements_of : State → Result State Refusal
statements_of s = statements (suc (length s.source.left)) s

abbrev pub no_nodes : LabelledNodes
no_nodes = record { nodes = []; words = []; places = [] }

-- a text begins in the code section
abbrev pub start : List ℕ → State
start text = record {
  source = record { text = text; left = (tokens_of text).0; fault = (tokens_of text).1 };
  section = section.Code;
  part = no_data;
  list = no_nodes;
  names = no_names;
}

-- the nodes and labels of what was read, and the bytes of its data part
abbrev pub unit_from : State → TextUnit
unit_from s = record { nodes = s.list; image = image_of s.part }

-- the unit of a text, or its first fault
abbrev pub unit_of : List ℕ → Result TextUnit Refusal
unit_of text = statements_of (start text) >>= λ s. Ok (unit_from s)
