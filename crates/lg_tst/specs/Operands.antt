-- The operands that tokens are, and the names after them.
use Rattle.std.specs.Prelude.{ℕ, Bool, if◌then◌else◌, List, drop, Result, Ok, Err}
use Rattle.lg_base.specs.HostNames.{host_by_name}
use Rattle.lg_base.specs.declared.refusal.RefusalKind.{RefusalKind}
use Rattle.lg_base.specs.declared.refusal.RefusalKind.TheVariants.{BadOperand, LabelTwice}
use Rattle.lg_lex.specs.declared.token.TokenKind.{TokenKind}
use Rattle.lg_lex.specs.declared.token.TokenKind.TheVariants.{Word, Register, Number, Character, Expression, Name, Host}
use Rattle.lg_op.specs.declared.form.Form.{Form}
use Rattle.lg_op.specs.declared.form.Form.TheVariants.{Immediate, NewArgument, Argument, NewLocal}
use Rattle.lg_op.specs.declared.op.Op.{Op}
use Rattle.lg_op.specs.declared.operand.Operand.{Operand}
use Rattle.lg_op.specs.declared.operand.Operand.TheVariants as operand
use Rattle.lg_operand.specs.Operands.{admitted, register_operand, host_operand, argument_named, local_named, stays_apart, local_size}
use Rattle.lg_node.specs.Nodes.{number_of}
use Rattle.lg_tst.specs.Names.{FunctionNames, is_made, meaning_of, with_argument, with_local}

-- a name that is made here
abbrev pub new_name : Bool → ℕ → Result Operand RefusalKind
new_name made number = if made then Err LabelTwice else Ok (operand.Slot number)

abbrev pub name_operand : Form → FunctionNames → List ℕ → Result Operand RefusalKind
name_operand NewArgument names word = new_name (is_made names word) names.arguments
name_operand NewLocal names word = new_name (is_made names word) names.locals
name_operand Argument names word = argument_named (meaning_of names word)
name_operand Immediate names word = local_named (meaning_of names word)
name_operand form names word = Err BadOperand

-- the operand that a token of this kind, text and value is, where the words of labels and the names of the function are these
abbrev pub operand_at : List (List ℕ) → FunctionNames → Form → TokenKind → List ℕ → ℕ → Result Operand RefusalKind
operand_at words names form Register text value = register_operand form text
operand_at words names form Host text value = host_operand form (host_by_name (drop 1 text))
operand_at words names form Name text value = name_operand form names (drop 1 text)
operand_at words names form Word text value = admitted form (operand.Label (record { 0 = number_of words text }))
operand_at words names form Number text value = admitted form (operand.Number value)
operand_at words names form Character text value = admitted form (operand.Number value)
operand_at words names form Expression text value = admitted form (operand.Number value)
operand_at words names form kind text value = Err BadOperand

abbrev pub apart_or : Op → List Operand → Result Operand RefusalKind → Result Operand RefusalKind
apart_or op done (Ok x) = if stays_apart op done x then Ok x else Err BadOperand
apart_or op done (Err kind) = Err kind

-- the names after an operand
abbrev pub names_after : Form → List Operand → FunctionNames → List ℕ → FunctionNames
names_after NewArgument done names word = with_argument names word
names_after NewLocal done names word = with_local names word (local_size done)
names_after form done names word = names
