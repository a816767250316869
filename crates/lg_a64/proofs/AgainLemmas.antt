-- An instruction's word is read as the instruction: the law of each format, and of all.
use Rattle.std.proofs.Common.{◌≡◌, ℕ, ◌+◌, ◌/◌, ◌%◌, ◌^◌, ◌<◌, ℤ, pos, negsuc, ◌+ℤ◌, ◌≤ℤ◌, Bool, true, false, Option, Some, refl, ◌∙◌, arith, lit<}
use Rattle.std.specs.Prelude.{◌==◌}
use Rattle.std.proofs.lemmas.Int.{ints}
use Rattle.lg_base.specs.Fields.{part, signed, bits_of}
use Rattle.lg_base.proofs.NumberLemmas.{signed-bits_of}
use Rattle.lg_a64.specs.declared.instruction.Instr.{Instr}
use Rattle.lg_a64.specs.declared.instruction.Instr.TheVariants.{Reg, Imm, Wide, MulAdd, Bitfield, Csinc, Reverse, Scaled, Ldrx, Unscaled, Branch, BranchIf, BranchReg, Nop}
use Rattle.lg_a64.specs.declared.instruction.RegOp.{RegOp}
use Rattle.lg_a64.specs.declared.instruction.RegOp.TheVariants.{Add}
use Rattle.lg_a64.specs.declared.instruction.ImmOp.{ImmOp}
use Rattle.lg_a64.specs.declared.instruction.ImmOp.TheVariants.{Addi}
use Rattle.lg_a64.specs.declared.instruction.WideOp.{WideOp}
use Rattle.lg_a64.specs.declared.instruction.WideOp.TheVariants.{Movz}
use Rattle.lg_a64.specs.declared.instruction.MulAddOp.{MulAddOp}
use Rattle.lg_a64.specs.declared.instruction.MulAddOp.TheVariants.{Madd}
use Rattle.lg_a64.specs.declared.instruction.BitfieldOp.{BitfieldOp}
use Rattle.lg_a64.specs.declared.instruction.BitfieldOp.TheVariants.{Sbfm}
use Rattle.lg_a64.specs.declared.instruction.ReverseOp.{ReverseOp}
use Rattle.lg_a64.specs.declared.instruction.ReverseOp.TheVariants.{Rev}
use Rattle.lg_a64.specs.declared.instruction.ScaledOp.{ScaledOp}
use Rattle.lg_a64.specs.declared.instruction.ScaledOp.TheVariants.{Ldr64}
use Rattle.lg_a64.specs.declared.instruction.UnscaledOp.{UnscaledOp}
use Rattle.lg_a64.specs.declared.instruction.UnscaledOp.TheVariants.{Ldur}
use Rattle.lg_a64.specs.declared.instruction.BranchOp.{BranchOp}
use Rattle.lg_a64.specs.declared.instruction.BranchOp.TheVariants.{B}
use Rattle.lg_a64.specs.declared.instruction.BranchRegOp.{BranchRegOp}
use Rattle.lg_a64.specs.declared.instruction.BranchRegOp.TheVariants.{Br}
use Rattle.lg_a64.specs.declared.instruction.Cond.{Cond}
use Rattle.lg_a64.specs.declared.instruction.Cond.TheVariants.{Eq}
use Rattle.lg_a64.specs.Rows.{Row, reg_row, imm_row, wide_row, mul_add_row, bitfield_row, reverse_row, scaled_row, unscaled_row, branch_row, branch_reg_row, csinc_row, ldrx_row, branch_if_row, cond_row}
use Rattle.lg_a64.specs.Spelling.{word_of, IsInstr, bit}
use Rattle.lg_a64.specs.Reading.{reg_by_word, reg_of, imm_by_word, imm_of, wide_by_word, wide_of, mul_add_by_word, mul_add_of, bitfield_by_word, bitfield_of, reverse_by_word, reverse_of, scaled_by_word, scaled_of, unscaled_by_word, unscaled_of, branch_by_word, branch_of, branch_reg_by_word, branch_reg_of, cond_by_number, csinc_of, ldrx_of, branch_if_of, nop_of, reg_fixed, imm_fixed, mul_add_fixed, bitfield_fixed, select_fixed, reverse_fixed, branch_fixed, branch_if_fixed, branch_reg_fixed, instr_at, instr_of}
use Rattle.lg_a64.proofs.RowLemmas.{is_one-bit}

-- the highest byte of a word and its bits 21 to 23 lead to its format
way : (w t s : ℕ) (r : Option Instr) → part 24 8 w ≡ t → part 21 3 w ≡ s → instr_at w t s ≡ r → instr_of w ≡ r
way w t s r top sort e = rw (top, sort) e

-- a row's word has 0 in the fields of the operands, and leads to the row
record Kept {Op : Type 0} (row_of : Op → Row) (fixed : ℕ → ℕ) (by_word : ℕ → Option Op) (op : Op) : Type 0 where
  same : fixed (row_of op).word ≡ (row_of op).word
  fits : (row_of op).word < 2 ^ 32
  known : by_word (row_of op).word ≡ Some op

-- the bits of a number in range fit its field
bits_fit : (half : ℕ) (z : ℤ) → pos 0 ≤ℤ (z +ℤ pos half) → (z +ℤ pos 1) ≤ℤ pos half → bits_of half z < half + half
bits_fit half (pos k) low high = omega (arith, ints)
bits_fit half (negsuc k) low high = omega (arith, ints)

reg_kept : (op : RegOp) → Kept reg_row reg_fixed reg_by_word op
unfolding reg_by_word
reg_kept Add = record { same = refl; fits = lit< tt; known = refl }
reg_kept _ = record { same = refl; fits = lit< tt; known = refl }

reg_way : (op : RegOp) (w : ℕ) → instr_at w ((reg_row op).word / 2 ^ 24) ((reg_row op).word / 2 ^ 21 % 8) ≡ reg_of w
unfolding instr_at
reg_way Add w = refl
reg_way _ w = refl

reg_known : (op : RegOp) (w : ℕ) → reg_fixed w ≡ (reg_row op).word → instr_of w ≡ Some (Reg op (part 0 5 w) (part 5 5 w) (part 16 5 w))
unfolding reg_of
reg_known op w h =
    let top : part 24 8 w ≡ (reg_row op).word / 2 ^ 24 = omega arith in
    let sort : part 21 3 w ≡ (reg_row op).word / 2 ^ 21 % 8 = omega arith in
    way w _ _ _ top sort (reg_way op w) ∙ rw (h, (reg_kept op).known) refl

reg_again : (op : RegOp) (rd : ℕ) (rn : ℕ) (rm : ℕ) → IsInstr (Reg op rd rn rm) → instr_of (word_of (Reg op rd rn rm)) ≡ Some (Reg op rd rn rm)
reg_again op rd rn rm ok =
    let same = (reg_kept op).same in
    let fits = (reg_kept op).fits in
    let w = word_of (Reg op rd rn rm) in
    let rd_is : part 0 5 w ≡ rd = omega arith in
    let rn_is : part 5 5 w ≡ rn = omega arith in
    let rm_is : part 16 5 w ≡ rm = omega arith in
    reg_known op w (omega arith) ∙ rw (rd_is, rn_is, rm_is) refl

bit_fits : (b : Bool) → bit b < 2
bit_fits true = lit< tt
bit_fits false = lit< tt

imm_kept : (op : ImmOp) → Kept imm_row imm_fixed imm_by_word op
unfolding imm_by_word
imm_kept Addi = record { same = refl; fits = lit< tt; known = refl }
imm_kept _ = record { same = refl; fits = lit< tt; known = refl }

imm_way : (op : ImmOp) (w s : ℕ) → instr_at w ((imm_row op).word / 2 ^ 24) s ≡ imm_of w
unfolding instr_at
imm_way Addi w s = refl
imm_way _ w s = refl

imm_known : (op : ImmOp) (w : ℕ) → imm_fixed w ≡ (imm_row op).word → instr_of w ≡ Some (Imm op (part 0 5 w) (part 5 5 w) (part 10 12 w) (part 22 1 w == 1))
unfolding imm_of
imm_known op w h =
    let top : part 24 8 w ≡ (imm_row op).word / 2 ^ 24 = omega arith in
    way w _ _ _ top refl (imm_way op w (part 21 3 w)) ∙ rw (h, (imm_kept op).known) refl

imm_again : (op : ImmOp) (rd : ℕ) (rn : ℕ) (imm : ℕ) (shifted : Bool) → IsInstr (Imm op rd rn imm shifted) → instr_of (word_of (Imm op rd rn imm shifted)) ≡ Some (Imm op rd rn imm shifted)
imm_again op rd rn imm shifted ok =
    let same = (imm_kept op).same in
    let fits = (imm_kept op).fits in
    let one : bit shifted < 2 = bit_fits shifted in
    let w = word_of (Imm op rd rn imm shifted) in
    let rd_is : part 0 5 w ≡ rd = omega arith in
    let rn_is : part 5 5 w ≡ rn = omega arith in
    let imm_is : part 10 12 w ≡ imm = omega arith in
    let shifted_is : part 22 1 w ≡ bit shifted = omega arith in
    imm_known op w (omega arith) ∙ rw (rd_is, rn_is, imm_is, shifted_is, is_one-bit shifted) refl

wide_kept : (op : WideOp) → Kept wide_row imm_fixed wide_by_word op
unfolding wide_by_word
wide_kept Movz = record { same = refl; fits = lit< tt; known = refl }
wide_kept _ = record { same = refl; fits = lit< tt; known = refl }

wide_way : (op : WideOp) (w s : ℕ) → instr_at w ((wide_row op).word / 2 ^ 24) s ≡ wide_of w
unfolding instr_at
wide_way Movz w s = refl
wide_way _ w s = refl

wide_known : (op : WideOp) (w : ℕ) → imm_fixed w ≡ (wide_row op).word → instr_of w ≡ Some (Wide op (part 0 5 w) (part 5 16 w) (part 21 2 w))
unfolding wide_of
wide_known op w h =
    let top : part 24 8 w ≡ (wide_row op).word / 2 ^ 24 = omega arith in
    way w _ _ _ top refl (wide_way op w (part 21 3 w)) ∙ rw (h, (wide_kept op).known) refl

wide_again : (op : WideOp) (rd : ℕ) (imm : ℕ) (hw : ℕ) → IsInstr (Wide op rd imm hw) → instr_of (word_of (Wide op rd imm hw)) ≡ Some (Wide op rd imm hw)
wide_again op rd imm hw ok =
    let same = (wide_kept op).same in
    let fits = (wide_kept op).fits in
    let w = word_of (Wide op rd imm hw) in
    let rd_is : part 0 5 w ≡ rd = omega arith in
    let imm_is : part 5 16 w ≡ imm = omega arith in
    let hw_is : part 21 2 w ≡ hw = omega arith in
    wide_known op w (omega arith) ∙ rw (rd_is, imm_is, hw_is) refl

mul_add_kept : (op : MulAddOp) → Kept mul_add_row mul_add_fixed mul_add_by_word op
unfolding mul_add_by_word
mul_add_kept Madd = record { same = refl; fits = lit< tt; known = refl }
mul_add_kept _ = record { same = refl; fits = lit< tt; known = refl }

mul_add_way : (op : MulAddOp) (w : ℕ) → instr_at w ((mul_add_row op).word / 2 ^ 24) ((mul_add_row op).word / 2 ^ 21 % 8) ≡ mul_add_of w
unfolding instr_at
mul_add_way Madd w = refl
mul_add_way _ w = refl

mul_add_known : (op : MulAddOp) (w : ℕ) → mul_add_fixed w ≡ (mul_add_row op).word → instr_of w ≡ Some (MulAdd op (part 0 5 w) (part 5 5 w) (part 16 5 w) (part 10 5 w))
unfolding mul_add_of
mul_add_known op w h =
    let top : part 24 8 w ≡ (mul_add_row op).word / 2 ^ 24 = omega arith in
    let sort : part 21 3 w ≡ (mul_add_row op).word / 2 ^ 21 % 8 = omega arith in
    way w _ _ _ top sort (mul_add_way op w) ∙ rw (h, (mul_add_kept op).known) refl

mul_add_again : (op : MulAddOp) (rd : ℕ) (rn : ℕ) (rm : ℕ) (ra : ℕ) → IsInstr (MulAdd op rd rn rm ra) → instr_of (word_of (MulAdd op rd rn rm ra)) ≡ Some (MulAdd op rd rn rm ra)
mul_add_again op rd rn rm ra ok =
    let same = (mul_add_kept op).same in
    let fits = (mul_add_kept op).fits in
    let w = word_of (MulAdd op rd rn rm ra) in
    let rd_is : part 0 5 w ≡ rd = omega arith in
    let rn_is : part 5 5 w ≡ rn = omega arith in
    let rm_is : part 16 5 w ≡ rm = omega arith in
    let ra_is : part 10 5 w ≡ ra = omega arith in
    mul_add_known op w (omega arith) ∙ rw (rd_is, rn_is, rm_is, ra_is) refl

bitfield_kept : (op : BitfieldOp) → Kept bitfield_row bitfield_fixed bitfield_by_word op
unfolding bitfield_by_word
bitfield_kept Sbfm = record { same = refl; fits = lit< tt; known = refl }
bitfield_kept _ = record { same = refl; fits = lit< tt; known = refl }

bitfield_way : (op : BitfieldOp) (w s : ℕ) → instr_at w ((bitfield_row op).word / 2 ^ 24) s ≡ bitfield_of w
unfolding instr_at
bitfield_way Sbfm w s = refl
bitfield_way _ w s = refl

bitfield_known : (op : BitfieldOp) (w : ℕ) → bitfield_fixed w ≡ (bitfield_row op).word → instr_of w ≡ Some (Bitfield op (part 0 5 w) (part 5 5 w) (part 16 6 w) (part 10 6 w))
unfolding bitfield_of
bitfield_known op w h =
    let top : part 24 8 w ≡ (bitfield_row op).word / 2 ^ 24 = omega arith in
    way w _ _ _ top refl (bitfield_way op w (part 21 3 w)) ∙ rw (h, (bitfield_kept op).known) refl

bitfield_again : (op : BitfieldOp) (rd : ℕ) (rn : ℕ) (immr : ℕ) (imms : ℕ) → IsInstr (Bitfield op rd rn immr imms) → instr_of (word_of (Bitfield op rd rn immr imms)) ≡ Some (Bitfield op rd rn immr imms)
bitfield_again op rd rn immr imms ok =
    let same = (bitfield_kept op).same in
    let fits = (bitfield_kept op).fits in
    let w = word_of (Bitfield op rd rn immr imms) in
    let rd_is : part 0 5 w ≡ rd = omega arith in
    let rn_is : part 5 5 w ≡ rn = omega arith in
    let immr_is : part 16 6 w ≡ immr = omega arith in
    let imms_is : part 10 6 w ≡ imms = omega arith in
    bitfield_known op w (omega arith) ∙ rw (rd_is, rn_is, immr_is, imms_is) refl

reverse_kept : (op : ReverseOp) → Kept reverse_row reverse_fixed reverse_by_word op
unfolding reverse_by_word
reverse_kept Rev = record { same = refl; fits = lit< tt; known = refl }
reverse_kept _ = record { same = refl; fits = lit< tt; known = refl }

reverse_way : (op : ReverseOp) (w : ℕ) → instr_at w ((reverse_row op).word / 2 ^ 24) ((reverse_row op).word / 2 ^ 21 % 8) ≡ reverse_of w
unfolding instr_at
reverse_way Rev w = refl
reverse_way _ w = refl

reverse_known : (op : ReverseOp) (w : ℕ) → reverse_fixed w ≡ (reverse_row op).word → instr_of w ≡ Some (Reverse op (part 0 5 w) (part 5 5 w))
unfolding reverse_of
reverse_known op w h =
    let top : part 24 8 w ≡ (reverse_row op).word / 2 ^ 24 = omega arith in
    let sort : part 21 3 w ≡ (reverse_row op).word / 2 ^ 21 % 8 = omega arith in
    way w _ _ _ top sort (reverse_way op w) ∙ rw (h, (reverse_kept op).known) refl

reverse_again : (op : ReverseOp) (rd : ℕ) (rn : ℕ) → IsInstr (Reverse op rd rn) → instr_of (word_of (Reverse op rd rn)) ≡ Some (Reverse op rd rn)
reverse_again op rd rn ok =
    let same = (reverse_kept op).same in
    let fits = (reverse_kept op).fits in
    let w = word_of (Reverse op rd rn) in
    let rd_is : part 0 5 w ≡ rd = omega arith in
    let rn_is : part 5 5 w ≡ rn = omega arith in
    reverse_known op w (omega arith) ∙ rw (rd_is, rn_is) refl

scaled_kept : (op : ScaledOp) → Kept scaled_row bitfield_fixed scaled_by_word op
unfolding scaled_by_word
scaled_kept Ldr64 = record { same = refl; fits = lit< tt; known = refl }
scaled_kept _ = record { same = refl; fits = lit< tt; known = refl }

scaled_way : (op : ScaledOp) (w s : ℕ) → instr_at w ((scaled_row op).word / 2 ^ 24) s ≡ scaled_of w
unfolding instr_at
scaled_way Ldr64 w s = refl
scaled_way _ w s = refl

scaled_known : (op : ScaledOp) (w : ℕ) → bitfield_fixed w ≡ (scaled_row op).word → instr_of w ≡ Some (Scaled op (part 0 5 w) (part 5 5 w) (part 10 12 w))
unfolding scaled_of
scaled_known op w h =
    let top : part 24 8 w ≡ (scaled_row op).word / 2 ^ 24 = omega arith in
    way w _ _ _ top refl (scaled_way op w (part 21 3 w)) ∙ rw (h, (scaled_kept op).known) refl

scaled_again : (op : ScaledOp) (rt : ℕ) (rn : ℕ) (imm : ℕ) → IsInstr (Scaled op rt rn imm) → instr_of (word_of (Scaled op rt rn imm)) ≡ Some (Scaled op rt rn imm)
scaled_again op rt rn imm ok =
    let same = (scaled_kept op).same in
    let fits = (scaled_kept op).fits in
    let w = word_of (Scaled op rt rn imm) in
    let rt_is : part 0 5 w ≡ rt = omega arith in
    let rn_is : part 5 5 w ≡ rn = omega arith in
    let imm_is : part 10 12 w ≡ imm = omega arith in
    scaled_known op w (omega arith) ∙ rw (rt_is, rn_is, imm_is) refl

unscaled_kept : (op : UnscaledOp) → Kept unscaled_row select_fixed unscaled_by_word op
unfolding unscaled_by_word
unscaled_kept Ldur = record { same = refl; fits = lit< tt; known = refl }
unscaled_kept _ = record { same = refl; fits = lit< tt; known = refl }

unscaled_way : (op : UnscaledOp) (w : ℕ) → instr_at w ((unscaled_row op).word / 2 ^ 24) ((unscaled_row op).word / 2 ^ 21 % 8) ≡ unscaled_of w
unfolding instr_at
unscaled_way Ldur w = refl
unscaled_way _ w = refl

unscaled_known : (op : UnscaledOp) (w : ℕ) → select_fixed w ≡ (unscaled_row op).word → instr_of w ≡ Some (Unscaled op (part 0 5 w) (part 5 5 w) (signed 256 (part 12 9 w)))
unfolding unscaled_of
unscaled_known op w h =
    let top : part 24 8 w ≡ (unscaled_row op).word / 2 ^ 24 = omega arith in
    let sort : part 21 3 w ≡ (unscaled_row op).word / 2 ^ 21 % 8 = omega arith in
    way w _ _ _ top sort (unscaled_way op w) ∙ rw (h, (unscaled_kept op).known) refl

unscaled_again : (op : UnscaledOp) (rt : ℕ) (rn : ℕ) (imm : ℤ) → IsInstr (Unscaled op rt rn imm) → instr_of (word_of (Unscaled op rt rn imm)) ≡ Some (Unscaled op rt rn imm)
unscaled_again op rt rn imm ok =
    let same = (unscaled_kept op).same in
    let fits = (unscaled_kept op).fits in
    let low : pos 0 ≤ℤ (imm +ℤ pos 256) = omega (arith, ints) in
    let high : (imm +ℤ pos 1) ≤ℤ pos 256 = omega (arith, ints) in
    let small = bits_fit 256 imm low high in
    let w = word_of (Unscaled op rt rn imm) in
    let rt_is : part 0 5 w ≡ rt = omega arith in
    let rn_is : part 5 5 w ≡ rn = omega arith in
    let imm_is : part 12 9 w ≡ bits_of 256 imm = omega arith in
    unscaled_known op w (omega arith) ∙ rw (rt_is, rn_is, imm_is, signed-bits_of 256 imm low high) refl

branch_kept : (op : BranchOp) → Kept branch_row branch_fixed branch_by_word op
unfolding branch_by_word
branch_kept B = record { same = refl; fits = lit< tt; known = refl }
branch_kept _ = record { same = refl; fits = lit< tt; known = refl }

branch_way : (op : BranchOp) (w t s : ℕ) → t / 4 ≡ (branch_row op).word / 2 ^ 26 → instr_at w t s ≡ branch_of w
unfolding instr_at
branch_way B w t s e = rw e refl
branch_way _ w t s e = rw e refl

branch_known : (op : BranchOp) (w : ℕ) → branch_fixed w ≡ (branch_row op).word → instr_of w ≡ Some (Branch op (signed 33554432 (part 0 26 w)))
unfolding branch_of
branch_known op w h =
    let top : part 24 8 w / 4 ≡ (branch_row op).word / 2 ^ 26 = omega arith in
    way w _ _ _ refl refl (branch_way op w (part 24 8 w) (part 21 3 w) top) ∙ rw (h, (branch_kept op).known) refl

branch_again : (op : BranchOp) (words : ℤ) → IsInstr (Branch op words) → instr_of (word_of (Branch op words)) ≡ Some (Branch op words)
branch_again op words ok =
    let same = (branch_kept op).same in
    let fits = (branch_kept op).fits in
    let low : pos 0 ≤ℤ (words +ℤ pos 33554432) = omega (arith, ints) in
    let high : (words +ℤ pos 1) ≤ℤ pos 33554432 = omega (arith, ints) in
    let small = bits_fit 33554432 words low high in
    let w = word_of (Branch op words) in
    let words_is : part 0 26 w ≡ bits_of 33554432 words = omega arith in
    branch_known op w (omega arith) ∙ rw (words_is, signed-bits_of 33554432 words low high) refl

branch_reg_kept : (op : BranchRegOp) → Kept branch_reg_row branch_reg_fixed branch_reg_by_word op
unfolding branch_reg_by_word
branch_reg_kept Br = record { same = refl; fits = lit< tt; known = refl }
branch_reg_kept _ = record { same = refl; fits = lit< tt; known = refl }

branch_reg_way : (op : BranchRegOp) (w : ℕ) → instr_at w ((branch_reg_row op).word / 2 ^ 24) ((branch_reg_row op).word / 2 ^ 21 % 8) ≡ branch_reg_of w
unfolding instr_at
branch_reg_way Br w = refl
branch_reg_way _ w = refl

branch_reg_known : (op : BranchRegOp) (w : ℕ) → branch_reg_fixed w ≡ (branch_reg_row op).word → instr_of w ≡ Some (BranchReg op (part 5 5 w))
unfolding branch_reg_of
branch_reg_known op w h =
    let top : part 24 8 w ≡ (branch_reg_row op).word / 2 ^ 24 = omega arith in
    let sort : part 21 3 w ≡ (branch_reg_row op).word / 2 ^ 21 % 8 = omega arith in
    way w _ _ _ top sort (branch_reg_way op w) ∙ rw (h, (branch_reg_kept op).known) refl

branch_reg_again : (op : BranchRegOp) (rn : ℕ) → IsInstr (BranchReg op rn) → instr_of (word_of (BranchReg op rn)) ≡ Some (BranchReg op rn)
branch_reg_again op rn ok =
    let same = (branch_reg_kept op).same in
    let fits = (branch_reg_kept op).fits in
    let w = word_of (BranchReg op rn) in
    let rn_is : part 5 5 w ≡ rn = omega arith in
    branch_reg_known op w (omega arith) ∙ rw rn_is refl

record KeptCond (c : Cond) : Type 0 where
  fits : (cond_row c).word < 14
  known : cond_by_number (cond_row c).word ≡ Some c

cond_kept : (c : Cond) → KeptCond c
unfolding cond_by_number
cond_kept Eq = record { fits = lit< tt; known = refl }
cond_kept _ = record { fits = lit< tt; known = refl }

csinc_way : (w : ℕ) → instr_at w 0x9a 4 ≡ csinc_of w
unfolding instr_at
csinc_way w = refl

csinc_known : (c : Cond) (w : ℕ) → select_fixed w ≡ csinc_row.word → part 12 4 w ≡ (cond_row c).word → instr_of w ≡ Some (Csinc (part 0 5 w) (part 5 5 w) (part 16 5 w) c)
unfolding csinc_of
csinc_known c w h n =
    let top : part 24 8 w ≡ 0x9a = omega arith in
    let sort : part 21 3 w ≡ 4 = omega arith in
    way w _ _ _ top sort (csinc_way w) ∙ rw (h, n, (cond_kept c).known) refl

csinc_again : (rd rn rm : ℕ) (c : Cond) → IsInstr (Csinc rd rn rm c) → instr_of (word_of (Csinc rd rn rm c)) ≡ Some (Csinc rd rn rm c)
csinc_again rd rn rm c ok =
    let fits = (cond_kept c).fits in
    let w = word_of (Csinc rd rn rm c) in
    let rd_is : part 0 5 w ≡ rd = omega arith in
    let rn_is : part 5 5 w ≡ rn = omega arith in
    let rm_is : part 16 5 w ≡ rm = omega arith in
    csinc_known c w (omega arith) (omega arith) ∙ rw (rd_is, rn_is, rm_is) refl

ldrx_way : (w : ℕ) → instr_at w 0xf8 3 ≡ ldrx_of w
unfolding instr_at
ldrx_way w = refl

ldrx_known : (w : ℕ) → reg_fixed w ≡ ldrx_row.word → instr_of w ≡ Some (Ldrx (part 0 5 w) (part 5 5 w) (part 16 5 w))
unfolding ldrx_of
ldrx_known w h =
    let top : part 24 8 w ≡ 0xf8 = omega arith in
    let sort : part 21 3 w ≡ 3 = omega arith in
    way w _ _ _ top sort (ldrx_way w) ∙ rw h refl

ldrx_again : (rt rn rm : ℕ) → IsInstr (Ldrx rt rn rm) → instr_of (word_of (Ldrx rt rn rm)) ≡ Some (Ldrx rt rn rm)
ldrx_again rt rn rm ok =
    let w = word_of (Ldrx rt rn rm) in
    let rt_is : part 0 5 w ≡ rt = omega arith in
    let rn_is : part 5 5 w ≡ rn = omega arith in
    let rm_is : part 16 5 w ≡ rm = omega arith in
    ldrx_known w (omega arith) ∙ rw (rt_is, rn_is, rm_is) refl

branch_if_way : (w s : ℕ) → instr_at w 0x54 s ≡ branch_if_of w
unfolding instr_at
branch_if_way w s = refl

branch_if_known : (c : Cond) (w : ℕ) → branch_if_fixed w ≡ branch_if_row.word → part 0 4 w ≡ (cond_row c).word → instr_of w ≡ Some (BranchIf c (signed 262144 (part 5 19 w)))
unfolding branch_if_of
branch_if_known c w h n =
    let top : part 24 8 w ≡ 0x54 = omega arith in
    way w _ _ _ top refl (branch_if_way w (part 21 3 w)) ∙ rw (h, n, (cond_kept c).known) refl

branch_if_again : (c : Cond) (words : ℤ) → IsInstr (BranchIf c words) → instr_of (word_of (BranchIf c words)) ≡ Some (BranchIf c words)
branch_if_again c words ok =
    let fits = (cond_kept c).fits in
    let low : pos 0 ≤ℤ (words +ℤ pos 262144) = omega (arith, ints) in
    let high : (words +ℤ pos 1) ≤ℤ pos 262144 = omega (arith, ints) in
    let small = bits_fit 262144 words low high in
    let w = word_of (BranchIf c words) in
    let words_is : part 5 19 w ≡ bits_of 262144 words = omega arith in
    branch_if_known c w (omega arith) (omega arith) ∙ rw (words_is, signed-bits_of 262144 words low high) refl

nop_again : instr_of (word_of Nop) ≡ Some Nop
unfolding instr_at nop_of
nop_again = refl

pub read_again : (i : Instr) → IsInstr i → instr_of (word_of i) ≡ Some i
read_again (Reg op rd rn rm) ok = reg_again op rd rn rm ok
read_again (Imm op rd rn imm shifted) ok = imm_again op rd rn imm shifted ok
read_again (Wide op rd imm hw) ok = wide_again op rd imm hw ok
read_again (MulAdd op rd rn rm ra) ok = mul_add_again op rd rn rm ra ok
read_again (Bitfield op rd rn immr imms) ok = bitfield_again op rd rn immr imms ok
read_again (Reverse op rd rn) ok = reverse_again op rd rn ok
read_again (Scaled op rt rn imm) ok = scaled_again op rt rn imm ok
read_again (Unscaled op rt rn imm) ok = unscaled_again op rt rn imm ok
read_again (Branch op words) ok = branch_again op words ok
read_again (BranchReg op rn) ok = branch_reg_again op rn ok
read_again (Csinc rd rn rm c) ok = csinc_again rd rn rm c ok
read_again (Ldrx rt rn rm) ok = ldrx_again rt rn rm ok
read_again (BranchIf c words) ok = branch_if_again c words ok
read_again Nop ok = nop_again

-- a word has 32 bits
pub word_fits : (i : Instr) → IsInstr i → word_of i < 2 ^ 32
word_fits (Reg op rd rn rm) ok = let same = (reg_kept op).same in let fits = (reg_kept op).fits in omega arith
word_fits (Imm op rd rn imm shifted) ok = let same = (imm_kept op).same in let fits = (imm_kept op).fits in let one = bit_fits shifted in omega arith
word_fits (Wide op rd imm hw) ok = let same = (wide_kept op).same in let fits = (wide_kept op).fits in omega arith
word_fits (MulAdd op rd rn rm ra) ok = let same = (mul_add_kept op).same in let fits = (mul_add_kept op).fits in omega arith
word_fits (Bitfield op rd rn immr imms) ok = let same = (bitfield_kept op).same in let fits = (bitfield_kept op).fits in omega arith
word_fits (Reverse op rd rn) ok = let same = (reverse_kept op).same in let fits = (reverse_kept op).fits in omega arith
word_fits (Scaled op rt rn imm) ok = let same = (scaled_kept op).same in let fits = (scaled_kept op).fits in omega arith
word_fits (Unscaled op rt rn imm) ok = let same = (unscaled_kept op).same in let fits = (unscaled_kept op).fits in let small = bits_fit 256 imm (omega (arith, ints)) (omega (arith, ints)) in omega arith
word_fits (Branch op words) ok = let same = (branch_kept op).same in let fits = (branch_kept op).fits in let small = bits_fit 33554432 words (omega (arith, ints)) (omega (arith, ints)) in omega arith
word_fits (BranchReg op rn) ok = let same = (branch_reg_kept op).same in let fits = (branch_reg_kept op).fits in omega arith
word_fits (Csinc rd rn rm c) ok = let fits = (cond_kept c).fits in omega arith
word_fits (Ldrx rt rn rm) ok = omega arith
word_fits (BranchIf c words) ok =
    let fits = (cond_kept c).fits in let small = bits_fit 262144 words (omega (arith, ints)) (omega (arith, ints)) in omega arith
word_fits Nop ok = lit< tt
