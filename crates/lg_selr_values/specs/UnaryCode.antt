-- The code of the operations on one register, and of `retval`.
use Rattle.std.specs.Prelude.{ℕ, zero, suc, pos, negsuc, List, [], ◌∷◌}
use Rattle.lg_base.specs.Conventions.{result_register}
use Rattle.lg_base.specs.declared.target.Target.TheVariants.{Riscv64}
use Rattle.lg_op.specs.declared.op.UnaryOp.{UnaryOp}
use Rattle.lg_op.specs.declared.op.UnaryOp.TheVariants as unary
use Rattle.lg_op.specs.declared.op.ValueType.{ValueType}
use Rattle.lg_carry.specs.Values.ValueNodes.{extension}
use Rattle.lg_rv.specs.declared.instruction.Instr.{Instr}
use Rattle.lg_rv.specs.declared.instruction.Instr.TheVariants.{Imm, Shift, Reg}
use Rattle.lg_rv.specs.declared.instruction.ImmOp.TheVariants.{Addi, Xori, Andi, Addiw}
use Rattle.lg_rv.specs.declared.instruction.ShiftOp.TheVariants.{Slli, Srli, Srai}
use Rattle.lg_rv.specs.declared.instruction.RegOp.TheVariants as row

-- this many further bytes of the word in the link, each after those that d has
abbrev pub more_bytes_code : ℕ → ℕ → List Instr
more_bytes_code d zero = []
more_bytes_code d (suc n) = Shift Srli 1 1 8 ∷ Imm Andi 31 1 (pos 255) ∷ Shift Slli d d 8 ∷ Reg row.Or d d 31 ∷ more_bytes_code d n

-- the low byte of a, and this many further bytes
abbrev pub swapped_code : ℕ → ℕ → ℕ → List Instr
swapped_code d a n = Imm Addi 1 a (pos 0) ∷ Imm Andi d 1 (pos 255) ∷ more_bytes_code d n

-- d = op a
abbrev pub unary_code : UnaryOp → ℕ → ℕ → List Instr
unary_code unary.Neg d a = Reg row.Sub d 0 a ∷ []
unary_code unary.Com d a = Imm Xori d a (negsuc 0) ∷ []
unary_code unary.Mov d a = Imm Addi d a (pos 0) ∷ []
unary_code unary.ExtrC d a = Shift Slli d a 56 ∷ Shift Srai d d 56 ∷ []
unary_code unary.ExtrUc d a = Imm Andi d a (pos 255) ∷ []
unary_code unary.ExtrS d a = Shift Slli d a 48 ∷ Shift Srai d d 48 ∷ []
unary_code unary.ExtrUs d a = Shift Slli d a 48 ∷ Shift Srli d d 48 ∷ []
unary_code unary.ExtrI d a = Imm Addiw d a (pos 0) ∷ []
unary_code unary.ExtrUi d a = Shift Slli d a 32 ∷ Shift Srli d d 32 ∷ []
unary_code unary.HtonrUs d a = swapped_code d a 1
unary_code unary.HtonrUi d a = swapped_code d a 3
unary_code unary.HtonrUl d a = swapped_code d a 7

-- d = the result of a call, extended by its type
abbrev pub retval_code : ValueType → ℕ → List Instr
retval_code t d = unary_code (extension t) d (result_register Riscv64)
