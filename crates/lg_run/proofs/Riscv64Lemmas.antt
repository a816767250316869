-- No text of an instruction of RV64IM has a line feed.
use Rattle.std.proofs.Common.{◌≡◌, ℕ, true, refl}
use Rattle.lg_rv.specs.declared.instruction.Instr.{Instr}
use Rattle.lg_rv.specs.declared.instruction.Instr.TheVariants.{Upper, Jal, Branch, Imm, Shift, Store, Reg}
use Rattle.lg_rv.specs.declared.instruction.UpperOp.{UpperOp}
use Rattle.lg_rv.specs.declared.instruction.UpperOp.TheVariants as upper_op
use Rattle.lg_rv.specs.declared.instruction.BranchOp.{BranchOp}
use Rattle.lg_rv.specs.declared.instruction.BranchOp.TheVariants as branch_op
use Rattle.lg_rv.specs.declared.instruction.ImmOp.{ImmOp}
use Rattle.lg_rv.specs.declared.instruction.ImmOp.TheVariants as imm_op
use Rattle.lg_rv.specs.declared.instruction.ShiftOp.{ShiftOp}
use Rattle.lg_rv.specs.declared.instruction.ShiftOp.TheVariants as shift_op
use Rattle.lg_rv.specs.declared.instruction.StoreOp.{StoreOp}
use Rattle.lg_rv.specs.declared.instruction.StoreOp.TheVariants as store_op
use Rattle.lg_rv.specs.declared.instruction.RegOp.{RegOp}
use Rattle.lg_rv.specs.declared.instruction.RegOp.TheVariants as reg_op
use Rattle.lg_rv.specs.Rows.{upper_row, branch_row, imm_row, shift_row, store_row, reg_row}
use Rattle.lg_rv.specs.Spelling.{row_of}
use Rattle.lg_back.specs.Words.{is_free}
use Rattle.lg_list.specs.Riscv64.{operands, text_of}
use Rattle.lg_run.proofs.OperandLemmas.{words_free}

upper_row_free : (x : UpperOp) → is_free 10 (upper_row x).name ≡ true
upper_row_free upper_op.Lui = refl
upper_row_free upper_op.Auipc = refl

branch_row_free : (x : BranchOp) → is_free 10 (branch_row x).name ≡ true
branch_row_free branch_op.Beq = refl
branch_row_free other = refl

imm_row_free : (x : ImmOp) → is_free 10 (imm_row x).name ≡ true
imm_row_free imm_op.Jalr = refl
imm_row_free other = refl

shift_row_free : (x : ShiftOp) → is_free 10 (shift_row x).name ≡ true
shift_row_free shift_op.Slli = refl
shift_row_free other = refl

store_row_free : (x : StoreOp) → is_free 10 (store_row x).name ≡ true
store_row_free store_op.Sb = refl
store_row_free other = refl

reg_row_free : (x : RegOp) → is_free 10 (reg_row x).name ≡ true
reg_row_free reg_op.Add = refl
reg_row_free other = refl

row_free : (i : Instr) → is_free 10 (row_of i).name ≡ true
row_free (Upper op rd imm) = upper_row_free op
row_free (Jal rd offset) = refl
row_free (Branch op rs1 rs2 offset) = branch_row_free op
row_free (Imm op rd rs1 imm) = imm_row_free op
row_free (Shift op rd rs1 amount) = shift_row_free op
row_free (Store op rs1 rs2 imm) = store_row_free op
row_free (Reg op rd rs1 rs2) = reg_row_free op

pub text_free : (at : ℕ) (i : Instr) → is_free 10 (text_of at i) ≡ true
text_free at i = words_free (row_of i).name (operands at i) (row_free i)
