-- No text of an instruction of A64 has a line feed.
use Rattle.std.proofs.Common.{◌≡◌, ℕ, true, codes, refl}
use Rattle.lg_a64.specs.declared.instruction.Instr.{Instr}
use Rattle.lg_a64.specs.declared.instruction.Instr.TheVariants.{Reg, Imm, Wide, MulAdd, Bitfield, Csinc, Reverse, Scaled, Ldrx, Unscaled, Branch, BranchIf, BranchReg, Nop}
use Rattle.lg_a64.specs.declared.instruction.RegOp.{RegOp}
use Rattle.lg_a64.specs.declared.instruction.RegOp.TheVariants as reg_op
use Rattle.lg_a64.specs.declared.instruction.ImmOp.{ImmOp}
use Rattle.lg_a64.specs.declared.instruction.ImmOp.TheVariants as imm_op
use Rattle.lg_a64.specs.declared.instruction.WideOp.{WideOp}
use Rattle.lg_a64.specs.declared.instruction.WideOp.TheVariants as wide_op
use Rattle.lg_a64.specs.declared.instruction.MulAddOp.{MulAddOp}
use Rattle.lg_a64.specs.declared.instruction.MulAddOp.TheVariants as mul_add_op
use Rattle.lg_a64.specs.declared.instruction.BitfieldOp.{BitfieldOp}
use Rattle.lg_a64.specs.declared.instruction.BitfieldOp.TheVariants as bitfield_op
use Rattle.lg_a64.specs.declared.instruction.ReverseOp.{ReverseOp}
use Rattle.lg_a64.specs.declared.instruction.ReverseOp.TheVariants as reverse_op
use Rattle.lg_a64.specs.declared.instruction.ScaledOp.{ScaledOp}
use Rattle.lg_a64.specs.declared.instruction.ScaledOp.TheVariants as scaled_op
use Rattle.lg_a64.specs.declared.instruction.UnscaledOp.{UnscaledOp}
use Rattle.lg_a64.specs.declared.instruction.UnscaledOp.TheVariants as unscaled_op
use Rattle.lg_a64.specs.declared.instruction.BranchOp.{BranchOp}
use Rattle.lg_a64.specs.declared.instruction.BranchOp.TheVariants as branch_op
use Rattle.lg_a64.specs.declared.instruction.BranchRegOp.{BranchRegOp}
use Rattle.lg_a64.specs.declared.instruction.BranchRegOp.TheVariants as branch_reg_op
use Rattle.lg_a64.specs.declared.instruction.Cond.{Cond}
use Rattle.lg_a64.specs.declared.instruction.Cond.TheVariants as cond
use Rattle.lg_a64.specs.Rows.{reg_row, imm_row, wide_row, mul_add_row, bitfield_row, reverse_row, scaled_row, unscaled_row, branch_row, branch_reg_row, cond_row, branch_if_row}
use Rattle.lg_a64.specs.Spelling.{name_of}
use Rattle.lg_back.specs.Words.{is_free}
use Rattle.lg_back.proofs.WordLemmas.{free-append}
use Rattle.lg_list.specs.Operands.{text}
use Rattle.lg_list.specs.Aarch64.{operands, text_of, letters}
use Rattle.lg_run.proofs.OperandLemmas.{words_free}

reg_row_free : (x : RegOp) → is_free 10 (reg_row x).name ≡ true
reg_row_free reg_op.Add = refl
reg_row_free other = refl

imm_row_free : (x : ImmOp) → is_free 10 (imm_row x).name ≡ true
imm_row_free imm_op.Addi = refl
imm_row_free other = refl

wide_row_free : (x : WideOp) → is_free 10 (wide_row x).name ≡ true
wide_row_free wide_op.Movz = refl
wide_row_free other = refl

mul_add_row_free : (x : MulAddOp) → is_free 10 (mul_add_row x).name ≡ true
mul_add_row_free mul_add_op.Madd = refl
mul_add_row_free mul_add_op.Msub = refl

bitfield_row_free : (x : BitfieldOp) → is_free 10 (bitfield_row x).name ≡ true
bitfield_row_free bitfield_op.Sbfm = refl
bitfield_row_free bitfield_op.Ubfm = refl

reverse_row_free : (x : ReverseOp) → is_free 10 (reverse_row x).name ≡ true
reverse_row_free reverse_op.Rev = refl
reverse_row_free other = refl

scaled_row_free : (x : ScaledOp) → is_free 10 (scaled_row x).name ≡ true
scaled_row_free scaled_op.Ldr64 = refl
scaled_row_free other = refl

unscaled_row_free : (x : UnscaledOp) → is_free 10 (unscaled_row x).name ≡ true
unscaled_row_free unscaled_op.Ldur = refl
unscaled_row_free unscaled_op.Stur = refl

branch_row_free : (x : BranchOp) → is_free 10 (branch_row x).name ≡ true
branch_row_free branch_op.B = refl
branch_row_free branch_op.Bl = refl

branch_reg_row_free : (x : BranchRegOp) → is_free 10 (branch_reg_row x).name ≡ true
branch_reg_row_free branch_reg_op.Br = refl
branch_reg_row_free other = refl

cond_row_free : (x : Cond) → is_free 10 (cond_row x).name ≡ true
cond_row_free cond.Eq = refl
cond_row_free other = refl

named_free : (i : Instr) → is_free 10 (name_of i) ≡ true
named_free (Reg op rd rn rm) = reg_row_free op
named_free (Imm op rd rn imm shifted) = imm_row_free op
named_free (Wide op rd imm hw) = wide_row_free op
named_free (MulAdd op rd rn rm ra) = mul_add_row_free op
named_free (Bitfield op rd rn immr imms) = bitfield_row_free op
named_free (Reverse op rd rn) = reverse_row_free op
named_free (Scaled op rt rn imm) = scaled_row_free op
named_free (Unscaled op rt rn imm) = unscaled_row_free op
named_free (Branch op words) = branch_row_free op
named_free (BranchIf cond words) = free-append 10 branch_if_row.name (cond_row cond).name refl (cond_row_free cond)
named_free (BranchReg op rn) = branch_reg_row_free op
named_free other = refl

letters_free : (i : Instr) → is_free 10 (letters i) ≡ true
letters_free (Csinc rd rn rm cond) = free-append 10 (codes ", ") (cond_row cond).name refl (cond_row_free cond)
letters_free other = refl

pub text_free : (at : ℕ) (i : Instr) → is_free 10 (text_of at i) ≡ true
text_free at i = free-append 10 (text (name_of i) (operands at i)) (letters i) (words_free (name_of i) (operands at i) (named_free i)) (letters_free i)
