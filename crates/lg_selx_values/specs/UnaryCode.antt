-- The code of the operations on one register, and of the result of a call.
use Rattle.std.specs.Prelude.{ℕ, List, [], ◌∷◌, ◌++◌}
use Rattle.lg_op.specs.declared.op.UnaryOp.{UnaryOp}
use Rattle.lg_op.specs.declared.op.UnaryOp.TheVariants as unary
use Rattle.lg_op.specs.declared.op.ValueType.{ValueType}
use Rattle.lg_op.specs.declared.op.ValueType.TheVariants as value_type
use Rattle.lg_x86.specs.declared.instruction.Instr.{Instr}
use Rattle.lg_x86.specs.declared.instruction.Instr.TheVariants.{RmReg, RegRm, Unary, Shift, Bswap}
use Rattle.lg_x86.specs.declared.instruction.RmRegOp.TheVariants as alu
use Rattle.lg_x86.specs.declared.instruction.RegRmOp.TheVariants as ext
use Rattle.lg_x86.specs.declared.instruction.UnaryOp.TheVariants.{Neg, Not}
use Rattle.lg_x86.specs.declared.instruction.ShiftOp.TheVariants.{Shri}
use Rattle.lg_selx_values.specs.Scratch.{moved}

-- d = op a
abbrev pub unary_code : UnaryOp → ℕ → ℕ → List Instr
unary_code unary.Neg d a = moved d a ++ Unary Neg d ∷ []
unary_code unary.Com d a = moved d a ++ Unary Not d ∷ []
unary_code unary.Mov d a = RmReg alu.Mov d a ∷ []
unary_code unary.ExtrC d a = RegRm ext.Ext8s d a ∷ []
unary_code unary.ExtrUc d a = RegRm ext.Ext8u d a ∷ []
unary_code unary.ExtrS d a = RegRm ext.Ext16s d a ∷ []
unary_code unary.ExtrUs d a = RegRm ext.Ext16u d a ∷ []
unary_code unary.ExtrI d a = RegRm ext.Ext32s d a ∷ []
unary_code unary.ExtrUi d a = RegRm ext.Ext32u d a ∷ []
unary_code unary.HtonrUs d a = moved d a ++ (Bswap d ∷ Shift Shri d 48 ∷ [])
unary_code unary.HtonrUi d a = moved d a ++ (Bswap d ∷ Shift Shri d 32 ∷ [])
unary_code unary.HtonrUl d a = moved d a ++ Bswap d ∷ []

-- d = the result of a call, which is in rax, 0, by its type
abbrev pub retval_code : ValueType → ℕ → List Instr
retval_code value_type.Char d = RegRm ext.Ext8s d 0 ∷ []
retval_code value_type.UnsignedChar d = RegRm ext.Ext8u d 0 ∷ []
retval_code value_type.Short d = RegRm ext.Ext16s d 0 ∷ []
retval_code value_type.UnsignedShort d = RegRm ext.Ext16u d 0 ∷ []
retval_code value_type.Int d = RegRm ext.Ext32s d 0 ∷ []
retval_code value_type.UnsignedInt d = RegRm ext.Ext32u d 0 ∷ []
retval_code value_type.Long d = moved d 0
