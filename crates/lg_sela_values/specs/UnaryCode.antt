-- The code of the operations on one register, and of `retval`.
use Rattle.std.specs.Prelude.{ℕ, List, [], ◌∷◌}
use Rattle.lg_op.specs.declared.op.UnaryOp.{UnaryOp}
use Rattle.lg_op.specs.declared.op.UnaryOp.TheVariants as unary
use Rattle.lg_op.specs.declared.op.ValueType.{ValueType}
use Rattle.lg_base.specs.Conventions.{result_register}
use Rattle.lg_base.specs.declared.target.Target.TheVariants.{Aarch64}
use Rattle.lg_carry.specs.Values.ValueNodes.{extension}
use Rattle.lg_a64.specs.declared.instruction.Instr.{Instr}
use Rattle.lg_a64.specs.declared.instruction.Instr.TheVariants.{Reg, Bitfield, Reverse}
use Rattle.lg_a64.specs.declared.instruction.BitfieldOp.TheVariants.{Sbfm, Ubfm}
use Rattle.lg_a64.specs.declared.instruction.ReverseOp.TheVariants.{Rev, Rev32, Rev16}
use Rattle.lg_a64.specs.declared.instruction.RegOp.TheVariants as row
use Rattle.lg_sela_values.specs.Processor.A64Rows.{zero_register}

-- d = op a
abbrev pub unary_code : UnaryOp → ℕ → ℕ → List Instr
unary_code unary.Neg d a = Reg row.Sub d zero_register a ∷ []
unary_code unary.Com d a = Reg row.Orn d zero_register a ∷ []
unary_code unary.Mov d a = Reg row.Orr d zero_register a ∷ []
unary_code unary.ExtrC d a = Bitfield Sbfm d a 0 7 ∷ []
unary_code unary.ExtrUc d a = Bitfield Ubfm d a 0 7 ∷ []
unary_code unary.ExtrS d a = Bitfield Sbfm d a 0 15 ∷ []
unary_code unary.ExtrUs d a = Bitfield Ubfm d a 0 15 ∷ []
unary_code unary.ExtrI d a = Bitfield Sbfm d a 0 31 ∷ []
unary_code unary.ExtrUi d a = Bitfield Ubfm d a 0 31 ∷ []
unary_code unary.HtonrUs d a = Reverse Rev16 d a ∷ Bitfield Ubfm d d 0 15 ∷ []
unary_code unary.HtonrUi d a = Reverse Rev32 d a ∷ Bitfield Ubfm d d 0 31 ∷ []
unary_code unary.HtonrUl d a = Reverse Rev d a ∷ []

-- d = the result of a call, extended by its type
abbrev pub retval_code : ValueType → ℕ → List Instr
retval_code t d = unary_code (extension t) d (result_register Aarch64)
