-- What is said of a line, each as its pieces in a row.
use Rattle.std.specs.Prelude.{ℕ, Bool, true, false, if◌then◌else◌, List, [], ◌∷◌, ◌++◌, Option, Some, None, codes}
use Rattle.lg_base.specs.HostNames.{host_word}
use Rattle.lg_base.specs.Refusals.{sentence_of_kind}
use Rattle.lg_base.specs.declared.refusal.Refusal.{Refusal}
use Rattle.lg_base.specs.declared.refusal.RefusalKind.{RefusalKind}
use Rattle.lg_base.specs.declared.refusal.RefusalKind.TheVariants.{BadToken, BadOperand}
use Rattle.lg_io.specs.Radixes.{digits_in}
use Rattle.lg_io.specs.Wrote.{row}
use Rattle.lg_io.specs.declared.digits.Radix.TheVariants.{Decimal, Hexadecimal}
use Rattle.lg_meaning.specs.Reasons.{item_of}
use Rattle.lg_meaning.specs.declared.reason.Reason.{Reason}
use Rattle.lg_meaning.specs.declared.reason.Reason.TheVariants.{Unset, NoCarry, NoQuotient, Outside, Unwritten, NoLabel, NoFunction, NoRoom, NoResult, NoArgument, NotAllowed, NoVariable}
use Rattle.lg_op.specs.declared.operand.Reg.{Reg}
use Rattle.lg_operand.specs.Registers.{register_word}
use Rattle.lg_explain.specs.Lines.{line_in, shown}
use Rattle.lg_explain.specs.declared.stop.StuckAt.{StuckAt}
use Rattle.lg_base.specs.declared.host_name.HostName.{HostName}
use Rattle.lg_base.specs.declared.host_name.HostName.TheVariants as host

-- the line of a text, after four spaces
abbrev pub text_line : (file : List ℕ) (line : ℕ) (text : List ℕ) → List ℕ
text_line file line text = row (file ∷ codes ":" ∷ digits_in Decimal line ∷ codes ":     " ∷ shown (line_in text line) ∷ codes "\n" ∷ [])

-- ---- refusals
-- a sentence, and that of a refusal's kind
abbrev pub said_line : (file line sentence : List ℕ) → List ℕ
said_line file line sentence = row (file ∷ codes ":" ∷ line ∷ codes ": " ∷ sentence ∷ codes "\n" ∷ [])

-- the same with the word that is to blame after it
abbrev pub word_line : (file line sentence word : List ℕ) → List ℕ
word_line file line sentence word = row (file ∷ codes ":" ∷ line ∷ codes ": " ∷ sentence ∷ codes ": " ∷ word ∷ codes "\n" ∷ [])

-- of two kinds it is a sentence of its own, in a line of its own
abbrev pub is_detailed : RefusalKind → Bool
is_detailed BadToken = true
is_detailed BadOperand = true
is_detailed kind = false

abbrev pub blamed_line : RefusalKind → (file line word : List ℕ) → List ℕ
blamed_line kind file line word = if is_detailed kind then said_line file line (sentence_of_kind kind) ++ said_line file line word
    else word_line file line (sentence_of_kind kind) word

abbrev pub sentence_line : (file : List ℕ) → Option (List ℕ) → Refusal → List ℕ
sentence_line file None refusal = said_line file (digits_in Decimal refusal.line) (sentence_of_kind refusal.kind)
sentence_line file (Some word) refusal = blamed_line refusal.kind file (digits_in Decimal refusal.line) word

-- the lines after the line of a refusal of a text, with the word that it blames
abbrev pub refusal_lines : (file text : List ℕ) → Option (List ℕ) → Refusal → List ℕ
refusal_lines file text word refusal = text_line file refusal.line text ++ sentence_line file word refusal

-- ---- undefined steps
-- a number between words, and two
abbrev pub words_of : (before number behind : List ℕ) → List ℕ
words_of before number behind = row (before ∷ number ∷ behind ∷ [])

abbrev pub words_of_two : (before first between second behind : List ℕ) → List ℕ
words_of_two before first between second behind = row (before ∷ first ∷ between ∷ second ∷ behind ∷ [])

-- which arguments a host function allows, to the end of the line: of `printf`, whose arguments after the format are easily passed without an ellipsis
abbrev pub which_are_allowed : HostName → List ℕ
which_are_allowed host.Printf = codes ": those after the format come after an ellipsis, one for each conversion\n"
which_are_allowed name = codes "\n"

-- what is said of a reason, with its values
abbrev pub sentence_of : Reason → List ℕ
sentence_of (Unset register) = row (register_word register ∷ codes " is undefined\n" ∷ [])
sentence_of NoCarry = row (codes "no carry of this kind is left: addc makes one for addx, subc for subx, and all but moves, loads and stores end it\n" ∷ [])
sentence_of (NoQuotient a b) = words_of_two (codes "0x") (digits_in Hexadecimal a) (codes " cannot be divided by 0x") (digits_in Hexadecimal b) (codes "\n")
sentence_of (Outside width address) =
    words_of_two (codes "") (digits_in Decimal width) (codes " bytes at 0x") (digits_in Hexadecimal address) (codes " do not lie in one part\n")
sentence_of (Unwritten width address) =
    words_of_two (codes "of ") (digits_in Decimal width) (codes " bytes at 0x") (digits_in Hexadecimal address) (codes " one was never written\n")
sentence_of (NoLabel word) =
    words_of (codes "0x") (digits_in Hexadecimal word) (codes " is the address of no label of this function that movi, pushargi or reti takes\n")
sentence_of (NoFunction word) = words_of (codes "0x") (digits_in Hexadecimal word) (codes " is the address of no function\n")
sentence_of (NoRoom size) = words_of (codes "the stack has no room for a frame of ") (digits_in Decimal size) (codes " bytes\n")
sentence_of NoResult = row (codes "no call with a result has just returned\n" ∷ [])
sentence_of (NoArgument number) = words_of (codes "argument ") (digits_in Decimal number) (codes ", counted from 0, was not pushed\n")
sentence_of (NotAllowed name) = row (codes "@" ∷ host_word name ∷ codes " does not allow its arguments" ∷ which_are_allowed name ∷ [])
sentence_of (NoVariable number) = words_of (codes "argument ") (digits_in Decimal number) (codes ", counted from 0, was not pushed\n")

-- the number of the row of the table of undefined steps is before it
abbrev pub item_words : (file : List ℕ) (line : ℕ) → Reason → List ℕ
item_words file line reason = row (file ∷ codes ":" ∷ digits_in Decimal line ∷ codes ": item " ∷ digits_in Decimal (item_of reason) ∷ codes ": " ∷ [])

abbrev pub reason_line : (file : List ℕ) (line : ℕ) → Reason → List ℕ
reason_line file line reason = item_words file line reason ++ sentence_of reason

-- ---- registers
abbrev pub register_part : Reg → Option ℕ → List ℕ
register_part register None = row (codes " " ∷ register_word register ∷ codes " undefined" ∷ [])
register_part register (Some word) = row (codes " " ∷ register_word register ∷ codes " 0x" ∷ digits_in Hexadecimal word ∷ [])

abbrev pub register_parts : List (Reg × Option ℕ) → List ℕ
register_parts [] = row (codes "\n" ∷ [])
register_parts (held ∷ others) = register_part held.0 held.1 ++ register_parts others

abbrev pub where_words : (file : List ℕ) (line : ℕ) → List ℕ
where_words file line = row (file ∷ codes ":" ∷ digits_in Decimal line ∷ codes ":" ∷ [])

abbrev pub registers_line : (file : List ℕ) (line : ℕ) → List (Reg × Option ℕ) → List ℕ
registers_line file line registers = where_words file line ++ register_parts registers

-- ---- the lines after the line of an undefined step of a text
abbrev pub stuck_lines : (file : List ℕ) (line : ℕ) → StuckAt → List ℕ
stuck_lines file line stuck = reason_line file line stuck.reason ++ registers_line file line stuck.registers

abbrev pub step_lines : (file text : List ℕ) (line : ℕ) → StuckAt → List ℕ
step_lines file text line stuck = text_line file line text ++ stuck_lines file line stuck
