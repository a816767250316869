-- How an instruction is spelled: a word of 32 bits, little-endian. The word is a sum, each operand
-- at the place of its lowest bit (RISC-V unprivileged ISA, "Base Instruction Formats" and
-- "Immediate Encoding Variants").
use Rattle.std.specs.Prelude.{ℕ, ◌+◌, ◌*◌, ◌^◌, ◌%◌, ◌<◌, ◌≡◌, pos, negsuc, ◌≤ℤ◌, List, ◌++◌}
use Rattle.std.specs.Int.{w32, to_le_bytes}
use Rattle.lg_base.specs.Fields.{part, bits_of}
use Rattle.lg_rv.specs.declared.instruction.Instr.{Instr}
use Rattle.lg_rv.specs.declared.instruction.Instr.TheVariants.{Upper, Jal, Branch, Imm, Shift, Store, Reg}
use Rattle.lg_rv.specs.Rows.{Row, upper_row, jal_row, branch_row, imm_row, shift_row, store_row, reg_row}

-- the row of an instruction
abbrev pub row_of : Instr → Row
row_of (Upper op rd imm) = upper_row op
row_of (Jal rd offset) = jal_row
row_of (Branch op rs1 rs2 offset) = branch_row op
row_of (Imm op rd rs1 imm) = imm_row op
row_of (Shift op rd rs1 amount) = shift_row op
row_of (Store op rs1 rs2 imm) = store_row op
row_of (Reg op rd rs1 rs2) = reg_row op

-- opcode and funct3 of a row, at their places in the word
abbrev pub base_of : Row → ℕ
base_of r = r.fixed.opcode + r.fixed.funct3 * 2 ^ 12

abbrev pub word_of : Instr → ℕ
word_of (Upper op rd imm) = (upper_row op).fixed.opcode + rd * 2 ^ 7 + imm * 2 ^ 12
word_of (Jal rd offset) =
    let bits = bits_of 1048576 offset in
    jal_row.fixed.opcode + rd * 2 ^ 7 + part 12 8 bits * 2 ^ 12 + part 11 1 bits * 2 ^ 20 + part 1 10 bits * 2 ^ 21
    + part 20 1 bits * 2 ^ 31
word_of (Branch op rs1 rs2 offset) =
    let bits = bits_of 4096 offset in
    base_of (branch_row op) + rs1 * 2 ^ 15 + rs2 * 2 ^ 20 + part 11 1 bits * 2 ^ 7 + part 1 4 bits * 2 ^ 8
    + part 5 6 bits * 2 ^ 25 + part 12 1 bits * 2 ^ 31
word_of (Imm op rd rs1 imm) = base_of (imm_row op) + rd * 2 ^ 7 + rs1 * 2 ^ 15 + bits_of 2048 imm * 2 ^ 20
word_of (Shift op rd rs1 amount) = base_of (shift_row op) + rd * 2 ^ 7 + rs1 * 2 ^ 15 + amount * 2 ^ 20 + (shift_row op).fixed.high * 2 ^ 26
word_of (Store op rs1 rs2 imm) =
    let bits = bits_of 2048 imm in
    base_of (store_row op) + rs1 * 2 ^ 15 + rs2 * 2 ^ 20 + part 0 5 bits * 2 ^ 7 + part 5 7 bits * 2 ^ 25
word_of (Reg op rd rs1 rs2) = base_of (reg_row op) + rd * 2 ^ 7 + rs1 * 2 ^ 15 + rs2 * 2 ^ 20 + (reg_row op).fixed.high * 2 ^ 25

abbrev pub spelling : Instr → List ℕ
spelling i = to_le_bytes w32 (word_of i)

-- the numbers are in the row's ranges; distances are even, and a shift on 32 bits is by at most 31
abbrev pub IsInstr : Instr → Type 0
IsInstr (Upper op rd imm) = (rd < 32) × (imm < 2 ^ 20)
IsInstr (Jal rd offset) =
    (rd < 32) × (negsuc 1048575 ≤ℤ offset) × (offset ≤ℤ pos 1048575) × (bits_of 1048576 offset % 2 ≡ 0)
IsInstr (Branch op rs1 rs2 offset) =
    (rs1 < 32) × (rs2 < 32) × (negsuc 4095 ≤ℤ offset) × (offset ≤ℤ pos 4095) × (bits_of 4096 offset % 2 ≡ 0)
IsInstr (Imm op rd rs1 imm) = (rd < 32) × (rs1 < 32) × (negsuc 2047 ≤ℤ imm) × (imm ≤ℤ pos 2047)
IsInstr (Shift op rd rs1 amount) =
    (rd < 32) × (rs1 < 32) × (amount < 64) × ((shift_row op).fixed.opcode ≡ 0x1b → amount < 32)
IsInstr (Store op rs1 rs2 imm) = (rs1 < 32) × (rs2 < 32) × (negsuc 2047 ≤ℤ imm) × (imm ≤ℤ pos 2047)
IsInstr (Reg op rd rs1 rs2) = (rd < 32) × (rs1 < 32) × (rs2 < 32)
