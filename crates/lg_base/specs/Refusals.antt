-- Refusals: steps that may be refused, and the kinds by number and by name.
use Rattle.std.specs.Prelude.{ℕ, List, codes, Result, Ok, Err}
use Rattle.lg_base.specs.declared.refusal.Refusal.{Refusal}
use Rattle.lg_base.specs.declared.refusal.RefusalKind.{RefusalKind}
use Rattle.lg_base.specs.declared.refusal.RefusalKind.TheVariants.{BadToken, UnknownName, FloatRefused, BadOperand, BadExpr, LabelTwice, LabelMissing, NotInFunction, FunctionOpen, TargetOutside, BadCall, TooManyArgs, NoSuchArg, UnknownHost, DataFull, TextTooLong, TooManyNodes, CodeFull, FrameTooBig, NoCode, ArgsTooLong, BadDirective, BadMacro, ExpandTooMuch, BadListing}

-- a refusal of a kind in a line
abbrev pub refuse : {A : Type 0} → RefusalKind → ℕ → Result A Refusal
refuse kind line = Err (record { kind = kind; line = line })

-- a step, and a further step on what it gives
infixl 10 ◌>>=◌
abbrev pub ◌>>=◌ : {A B : Type 0} → Result A Refusal → (A → Result B Refusal) → Result B Refusal
(Ok x) >>= f = f x
(Err e) >>= f = Err e

-- the answer to a text of more than 16,777,216 bytes
abbrev pub text_too_long : Refusal
text_too_long = record { kind = TextTooLong; line = 0 }

-- the number that the program prints
abbrev pub number_of_kind : RefusalKind → ℕ
number_of_kind BadToken = 1
number_of_kind UnknownName = 2
number_of_kind FloatRefused = 3
number_of_kind BadOperand = 4
number_of_kind BadExpr = 5
number_of_kind LabelTwice = 6
number_of_kind LabelMissing = 7
number_of_kind NotInFunction = 8
number_of_kind FunctionOpen = 9
number_of_kind TargetOutside = 10
number_of_kind BadCall = 11
number_of_kind TooManyArgs = 12
number_of_kind NoSuchArg = 13
number_of_kind UnknownHost = 14
number_of_kind DataFull = 15
number_of_kind TextTooLong = 16
number_of_kind TooManyNodes = 17
number_of_kind CodeFull = 18
number_of_kind FrameTooBig = 19
number_of_kind NoCode = 20
number_of_kind ArgsTooLong = 21
number_of_kind BadDirective = 22
number_of_kind BadMacro = 23
number_of_kind ExpandTooMuch = 24
number_of_kind BadListing = 25

-- the name that the program prints
abbrev pub name_of_kind : RefusalKind → List ℕ
name_of_kind BadToken = codes "BadToken"
name_of_kind UnknownName = codes "UnknownName"
name_of_kind FloatRefused = codes "FloatRefused"
name_of_kind BadOperand = codes "BadOperand"
name_of_kind BadExpr = codes "BadExpr"
name_of_kind LabelTwice = codes "LabelTwice"
name_of_kind LabelMissing = codes "LabelMissing"
name_of_kind NotInFunction = codes "NotInFunction"
name_of_kind FunctionOpen = codes "FunctionOpen"
name_of_kind TargetOutside = codes "TargetOutside"
name_of_kind BadCall = codes "BadCall"
name_of_kind TooManyArgs = codes "TooManyArgs"
name_of_kind NoSuchArg = codes "NoSuchArg"
name_of_kind UnknownHost = codes "UnknownHost"
name_of_kind DataFull = codes "DataFull"
name_of_kind TextTooLong = codes "TextTooLong"
name_of_kind TooManyNodes = codes "TooManyNodes"
name_of_kind CodeFull = codes "CodeFull"
name_of_kind FrameTooBig = codes "FrameTooBig"
name_of_kind NoCode = codes "NoCode"
name_of_kind ArgsTooLong = codes "ArgsTooLong"
name_of_kind BadDirective = codes "BadDirective"
name_of_kind BadMacro = codes "BadMacro"
name_of_kind ExpandTooMuch = codes "ExpandTooMuch"
name_of_kind BadListing = codes "BadListing"

-- the sentence that explains a kind
abbrev pub sentence_of_kind : RefusalKind → List ℕ
sentence_of_kind BadToken = codes "no token begins here; operands have no commas, comments are // and /* */"
sentence_of_kind UnknownName = codes "a word is no statement here: it is misspelt, a label without its colon, or a macro that is not defined, or it is in the wrong part"
sentence_of_kind FloatRefused = codes "there is no floating point; a name with a part f or d after a _ is taken for it"
sentence_of_kind BadOperand = codes "an operand is missing, or is none that its place takes; registers are %r0 %r1 %r2 %v0 %v1 %v2 %fp, and %fp is never written"
sentence_of_kind BadExpr = codes "an expression has no value; words have none there, and each of its operands is computed"
sentence_of_kind LabelTwice = codes "a label, or a name of the function, is made a second time"
sentence_of_kind LabelMissing = codes "a label is named that is bound nowhere"
sentence_of_kind NotInFunction = codes "an instruction is outside of every function, which go from a prolog to an epilog"
sentence_of_kind FunctionOpen = codes "a function has no epilog before the next prolog or the end of the text"
sentence_of_kind TargetOutside = codes "a jump leaves its function, a call goes to no prolog, or a code label is used as a number where movi, pushargi and reti alone take one"
sentence_of_kind BadCall = codes "pushes and a finish come after a prepare, with no branch, jump, other call, return or label between; one ellipsis, and the args before it"
sentence_of_kind TooManyArgs = codes "a function or a call has more than 16 arguments"
sentence_of_kind NoSuchArg = codes "no arg and no allocai of the function makes this name before"
sentence_of_kind UnknownHost = codes "there is no such host function"
sentence_of_kind DataFull = codes "the data are more than .data says; a string has a zero byte too"
sentence_of_kind TextTooLong = codes "the text has more than 16777216 bytes"
sentence_of_kind TooManyNodes = codes "the text has more than 1048576 instructions"
sentence_of_kind CodeFull = codes "the code has no room in the size that --code gives"
sentence_of_kind FrameTooBig = codes "the locals of a function are more than 65536 bytes"
sentence_of_kind NoCode = codes "the text has no prolog, so no function"
sentence_of_kind ArgsTooLong = codes "the words of the command are more than 1048576 bytes"
sentence_of_kind BadDirective = codes "a directive is none of define, undef, ifdef, ifndef, if, else and endif, or not of its form, or a condition is not ended"
sentence_of_kind BadMacro = codes "a call of a macro is not closed, or has more or fewer arguments than the macro has parameters"
sentence_of_kind ExpandTooMuch = codes "macros give more than 16777216 bytes, or call one another more than 200 levels deep"
sentence_of_kind BadListing = codes "a line is not as a listing has it"
