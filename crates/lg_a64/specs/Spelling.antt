-- How an instruction is spelled: a word of 32 bits, little-endian. The word is a sum: the row's word,
-- and each operand at the place of its lowest bit (Arm Architecture Reference Manual, "A64 Base
-- Instruction Descriptions").
use Rattle.std.specs.Prelude.{ℕ, ◌+◌, ◌*◌, ◌^◌, ◌<◌, ◌≡◌, Bool, true, false, pos, negsuc, ◌≤ℤ◌, List, ◌++◌}
use Rattle.std.specs.Int.{w32, to_le_bytes}
use Rattle.lg_base.specs.Fields.{bits_of}
use Rattle.lg_a64.specs.declared.instruction.Instr.{Instr}
use Rattle.lg_a64.specs.declared.instruction.Instr.TheVariants.{Reg, Imm, Wide, MulAdd, Bitfield, Csinc, Reverse, Scaled, Ldrx, Unscaled, Branch, BranchIf, BranchReg, Nop}
use Rattle.lg_a64.specs.Rows.{reg_row, imm_row, wide_row, mul_add_row, bitfield_row, csinc_row, reverse_row, scaled_row, ldrx_row, unscaled_row, branch_row, branch_if_row, branch_reg_row, nop_row, cond_row}

-- the name of an instruction's row; a conditional branch's goes on with its condition's
abbrev pub name_of : Instr → List ℕ
name_of (Reg op rd rn rm) = (reg_row op).name
name_of (Imm op rd rn imm shifted) = (imm_row op).name
name_of (Wide op rd imm hw) = (wide_row op).name
name_of (MulAdd op rd rn rm ra) = (mul_add_row op).name
name_of (Bitfield op rd rn immr imms) = (bitfield_row op).name
name_of (Csinc rd rn rm cond) = csinc_row.name
name_of (Reverse op rd rn) = (reverse_row op).name
name_of (Scaled op rt rn imm) = (scaled_row op).name
name_of (Ldrx rt rn rm) = ldrx_row.name
name_of (Unscaled op rt rn imm) = (unscaled_row op).name
name_of (Branch op words) = (branch_row op).name
name_of (BranchIf cond words) = branch_if_row.name ++ (cond_row cond).name
name_of (BranchReg op rn) = (branch_reg_row op).name
name_of Nop = nop_row.name

-- a bit's number
abbrev pub bit : Bool → ℕ
bit false = 0
bit true = 1

abbrev pub word_of : Instr → ℕ
word_of (Reg op rd rn rm) = (reg_row op).word + rd + rn * 2 ^ 5 + rm * 2 ^ 16
word_of (Imm op rd rn imm shifted) = (imm_row op).word + rd + rn * 2 ^ 5 + imm * 2 ^ 10 + bit shifted * 2 ^ 22
word_of (Wide op rd imm hw) = (wide_row op).word + rd + imm * 2 ^ 5 + hw * 2 ^ 21
word_of (MulAdd op rd rn rm ra) = (mul_add_row op).word + rd + rn * 2 ^ 5 + ra * 2 ^ 10 + rm * 2 ^ 16
word_of (Bitfield op rd rn immr imms) = (bitfield_row op).word + rd + rn * 2 ^ 5 + imms * 2 ^ 10 + immr * 2 ^ 16
word_of (Csinc rd rn rm cond) = csinc_row.word + rd + rn * 2 ^ 5 + (cond_row cond).word * 2 ^ 12 + rm * 2 ^ 16
word_of (Reverse op rd rn) = (reverse_row op).word + rd + rn * 2 ^ 5
word_of (Scaled op rt rn imm) = (scaled_row op).word + rt + rn * 2 ^ 5 + imm * 2 ^ 10
word_of (Ldrx rt rn rm) = ldrx_row.word + rt + rn * 2 ^ 5 + rm * 2 ^ 16
word_of (Unscaled op rt rn imm) = (unscaled_row op).word + rt + rn * 2 ^ 5 + bits_of 256 imm * 2 ^ 12
word_of (Branch op words) = (branch_row op).word + bits_of 33554432 words
word_of (BranchIf cond words) = branch_if_row.word + (cond_row cond).word + bits_of 262144 words * 2 ^ 5
word_of (BranchReg op rn) = (branch_reg_row op).word + rn * 2 ^ 5
word_of Nop = nop_row.word

abbrev pub spelling : Instr → List ℕ
spelling i = to_le_bytes w32 (word_of i)

-- the numbers are in the row's ranges
abbrev pub IsInstr : Instr → Type 0
IsInstr (Reg op rd rn rm) = (rd < 32) × (rn < 32) × (rm < 32)
IsInstr (Imm op rd rn imm shifted) = (rd < 32) × (rn < 32) × (imm < 2 ^ 12)
IsInstr (Wide op rd imm hw) = (rd < 32) × (imm < 2 ^ 16) × (hw < 4)
IsInstr (MulAdd op rd rn rm ra) = (rd < 32) × (rn < 32) × (rm < 32) × (ra < 32)
IsInstr (Bitfield op rd rn immr imms) = (rd < 32) × (rn < 32) × (immr < 64) × (imms < 64)
IsInstr (Csinc rd rn rm cond) = (rd < 32) × (rn < 32) × (rm < 32)
IsInstr (Reverse op rd rn) = (rd < 32) × (rn < 32)
IsInstr (Scaled op rt rn imm) = (rt < 32) × (rn < 32) × (imm < 2 ^ 12)
IsInstr (Ldrx rt rn rm) = (rt < 32) × (rn < 32) × (rm < 32)
IsInstr (Unscaled op rt rn imm) = (rt < 32) × (rn < 32) × (negsuc 255 ≤ℤ imm) × (imm ≤ℤ pos 255)
IsInstr (Branch op words) = (negsuc 33554431 ≤ℤ words) × (words ≤ℤ pos 33554431)
IsInstr (BranchIf cond words) = (negsuc 262143 ≤ℤ words) × (words ≤ℤ pos 262143)
IsInstr (BranchReg op rn) = rn < 32
IsInstr Nop = Unit {0}
