-- The statements of a text, by the token that they begin with.
use Rattle.std.specs.Prelude.{ℕ, Bool, true, false, if◌then◌else◌, List, Option, Some, None, Result, Ok, Err, codes}
use Rattle.std.specs.Str.{bytes_eq}
use Rattle.lg_base.specs.declared.refusal.RefusalKind.{RefusalKind}
use Rattle.lg_base.specs.declared.refusal.RefusalKind.TheVariants.{UnknownName, FloatRefused}
use Rattle.lg_lex.specs.declared.token.TokenKind.{TokenKind}
use Rattle.lg_lex.specs.declared.token.TokenKind.TheVariants.{Word, Directive, LabelMark, Register, Number, Character, Expression, Str}
use Rattle.lg_op.specs.declared.op.Op.{Op}
use Rattle.lg_op.specs.declared.op.Op.TheVariants.{Plain}
use Rattle.lg_op.specs.declared.op.PlainOp.TheVariants as plain
use Rattle.lg_operand.specs.Registers.{is_float_register}
use Rattle.lg_tst.specs.Words.{is_float_word, directive_of, op_of}
use Rattle.lg_tst.specs.declared.words.Directive.{Directive as DirectiveName}
use Rattle.lg_tst.specs.declared.words.Directive.TheVariants as directive
use Rattle.lg_tst.specs.declared.statement.Section.{Section}
use Rattle.lg_tst.specs.declared.statement.Section.TheVariants as section
use Rattle.lg_tst.specs.declared.statement.ItemSize.{ItemSize}
use Rattle.lg_tst.specs.declared.statement.ItemSize.TheVariants.{One, Two, Four, Eight}
use Rattle.lg_tst.specs.declared.statement.Statement.{Statement}
use Rattle.lg_tst.specs.declared.statement.Statement.TheVariants as statement

-- an instruction
abbrev pub instruction_or : Option Op → Result Statement RefusalKind
instruction_or None = Err UnknownName
instruction_or (Some op) = Ok (statement.Instruction op)

-- what a word begins in the code section: `name`, or an instruction
abbrev pub code_word : List ℕ → Result Statement RefusalKind
code_word word = if bytes_eq word (codes "name") then Ok statement.Name else instruction_or (op_of word)

abbrev pub word_in : Section → List ℕ → Result Statement RefusalKind
word_in section.Code word = code_word word
word_in section.Data word = Err UnknownName

-- a word: no floating point; `note` in either section
abbrev pub word_statement : Section → List ℕ → Result Statement RefusalKind
word_statement here word =
    if is_float_word word then Err FloatRefused
    else (if bytes_eq word (codes "note") then Ok statement.Note else word_in here word)

-- a directive: `.data` and `.code` in either section, `.align` in the code section, and the items and skips of the data section
abbrev pub directive_statement : Section → Option DirectiveName → Result Statement RefusalKind
directive_statement here (Some directive.Data) = Ok statement.Data
directive_statement here (Some directive.Code) = Ok statement.Code
directive_statement here (Some directive.Float) = Err FloatRefused
directive_statement here (Some directive.Double) = Err FloatRefused
directive_statement section.Code (Some directive.Align) = Ok (statement.Instruction (Plain plain.Align))
directive_statement section.Data (Some directive.Align) = Ok statement.AlignData
directive_statement section.Data (Some directive.Size) = Ok statement.Skip
directive_statement section.Data (Some directive.Char) = Ok (statement.Values One)
directive_statement section.Data (Some directive.Short) = Ok (statement.Values Two)
directive_statement section.Data (Some directive.Int) = Ok (statement.Values Four)
directive_statement section.Data (Some directive.Long) = Ok (statement.Values Eight)
directive_statement here d = Err UnknownName

-- the statement that a token begins in a section
abbrev pub statement_of : Section → TokenKind → List ℕ → Result Statement RefusalKind
statement_of here Word text = word_statement here text
statement_of here Directive text = directive_statement here (directive_of text)
statement_of here LabelMark text = Ok statement.Label
statement_of here Register text = if is_float_register text then Err FloatRefused else Err UnknownName
statement_of here kind text = Err UnknownName

-- how many bytes a value has
abbrev pub bytes_in : ItemSize → ℕ
bytes_in One = 1
bytes_in Two = 2
bytes_in Four = 4
bytes_in Eight = 8

-- a number, a character or an expression
abbrev pub is_number : TokenKind → Bool
is_number Number = true
is_number Character = true
is_number Expression = true
is_number kind = false

-- the values of an item: numbers, and strings among single bytes
abbrev pub is_value : ItemSize → TokenKind → Bool
is_value One Str = true
is_value size kind = is_number kind
