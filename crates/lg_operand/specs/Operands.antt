-- The operands of instructions, by the token at an operand's place and the form that the place asks.
use Rattle.std.specs.Prelude.{ℕ, min, Bool, true, false, not, if◌then◌else◌, List, [], ◌∷◌, drop, Option, Some, None, Result, Ok, Err}
use Rattle.std.specs.Str.{bytes_eq}
use Rattle.lg_base.specs.HostNames.{host_by_name}
use Rattle.lg_base.specs.declared.host_name.HostName.{HostName}
use Rattle.lg_base.specs.declared.refusal.RefusalKind.{RefusalKind}
use Rattle.lg_base.specs.declared.refusal.RefusalKind.TheVariants.{FloatRefused, BadOperand, NoSuchArg, UnknownHost}
use Rattle.lg_lex.specs.declared.token.TokenKind.{TokenKind}
use Rattle.lg_lex.specs.declared.token.TokenKind.TheVariants.{Register, Host}
use Rattle.lg_op.specs.Forms.{admits}
use Rattle.lg_op.specs.declared.form.Form.{Form}
use Rattle.lg_op.specs.declared.op.Op.{Op}
use Rattle.lg_op.specs.declared.op.Op.TheVariants.{Plain, Wide}
use Rattle.lg_op.specs.declared.op.PlainOp.TheVariants as plain
use Rattle.lg_op.specs.declared.operand.Reg.{Reg}
use Rattle.lg_op.specs.declared.operand.Operand.{Operand}
use Rattle.lg_op.specs.declared.operand.Operand.TheVariants as operand
use Rattle.lg_operand.specs.Registers.{register_of, register_word, is_float_register}

-- an operand that the place has to admit
abbrev pub admitted : Form → Operand → Result Operand RefusalKind
admitted form x = if admits form x then Ok x else Err BadOperand

abbrev pub register_at : Form → Option Reg → Result Operand RefusalKind
register_at form (Some r) = admitted form (operand.Reg r)
register_at form None = Err BadOperand

abbrev pub register_operand : Form → List ℕ → Result Operand RefusalKind
register_operand form text = if is_float_register text then Err FloatRefused else register_at form (register_of text)

abbrev pub host_operand : Form → Option HostName → Result Operand RefusalKind
host_operand form (Some h) = admitted form (operand.Host h)
host_operand form None = Err UnknownHost

-- what `arg` made
abbrev pub argument_named : Option Operand → Result Operand RefusalKind
argument_named (Some (operand.Slot n)) = Ok (operand.Slot n)
argument_named meaning = Err NoSuchArg

-- what `allocai` made: as an immediate it is the number of its offset
abbrev pub local_named : Option Operand → Result Operand RefusalKind
local_named (Some (operand.Number n)) = Ok (operand.Number n)
local_named meaning = Err NoSuchArg

-- two registers that are not the same
abbrev pub differ : Operand → Operand → Bool
differ (operand.Reg a) (operand.Reg b) = not (bytes_eq (register_word a) (register_word b))
differ x y = false

-- the second result of a product or quotient of two words, or of `va_arg`, goes to another register than the first
abbrev pub stays_apart : Op → List Operand → Operand → Bool
stays_apart (Wide op last) (first ∷ []) x = differ first x
stays_apart (Plain plain.VaArg) (first ∷ []) x = differ first x
stays_apart op done x = true

-- the size of the local that `allocai` makes, which its first operand gives
abbrev pub local_size : List Operand → ℕ
local_size (operand.Number n ∷ []) = min n 65536
local_size done = 0

abbrev pub host_misfit : Option HostName → RefusalKind
host_misfit (Some h) = BadOperand
host_misfit None = UnknownHost

-- why a token is not what a place asks that takes no register, no host function and no name
abbrev pub misfit : TokenKind → List ℕ → RefusalKind
misfit Register text = if is_float_register text then FloatRefused else BadOperand
misfit Host text = host_misfit (host_by_name (drop 1 text))
misfit kind text = BadOperand
