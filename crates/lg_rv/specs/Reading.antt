-- How a word is read, format by format. The laws on `decode` say what this is: a spelling is read as its
-- instruction, what is read is spelled, and nothing else is read.
use Rattle.std.specs.Prelude.{ℕ, Bool, List, find, ◌==◌, ◌&&◌, ◌||◌, if◌then◌else◌, Option, Some, None, option_map}
use Rattle.lg_base.specs.Fields.{part, signed}
use Rattle.lg_base.specs.WordFronts.{word_front}
use Rattle.lg_base.specs.Immediates.{store_bits, branch_bits, jump_bits}
use Rattle.lg_rv.specs.declared.instruction.Instr.{Instr}
use Rattle.lg_rv.specs.declared.instruction.Instr.TheVariants.{Upper, Jal, Branch, Imm, Shift, Store, Reg}
use Rattle.lg_rv.specs.declared.instruction.UpperOp.{UpperOp}
use Rattle.lg_rv.specs.declared.instruction.BranchOp.{BranchOp}
use Rattle.lg_rv.specs.declared.instruction.ImmOp.{ImmOp}
use Rattle.lg_rv.specs.declared.instruction.ShiftOp.{ShiftOp}
use Rattle.lg_rv.specs.declared.instruction.StoreOp.{StoreOp}
use Rattle.lg_rv.specs.declared.instruction.RegOp.{RegOp}
use Rattle.lg_rv.specs.Rows.{Row, upper_row, upper_ops, branch_row, branch_ops, imm_row, imm_ops, shift_row, shift_ops, store_row, store_ops, reg_row, reg_ops}

-- the row fixes these
abbrev pub is_row : ℕ → ℕ → ℕ → Row → Bool
is_row opcode funct3 high r = (opcode == r.fixed.opcode) && ((funct3 == r.fixed.funct3) && (high == r.fixed.high))

-- the first row of a format that fixes these
unfoldable pub upper_by_row : ℕ → ℕ → ℕ → Option UpperOp
upper_by_row opcode funct3 high = find (λ op. is_row opcode funct3 high (upper_row op)) upper_ops

unfoldable pub branch_by_row : ℕ → ℕ → ℕ → Option BranchOp
branch_by_row opcode funct3 high = find (λ op. is_row opcode funct3 high (branch_row op)) branch_ops

unfoldable pub imm_by_row : ℕ → ℕ → ℕ → Option ImmOp
imm_by_row opcode funct3 high = find (λ op. is_row opcode funct3 high (imm_row op)) imm_ops

unfoldable pub shift_by_row : ℕ → ℕ → ℕ → Option ShiftOp
shift_by_row opcode funct3 high = find (λ op. is_row opcode funct3 high (shift_row op)) shift_ops

unfoldable pub store_by_row : ℕ → ℕ → ℕ → Option StoreOp
store_by_row opcode funct3 high = find (λ op. is_row opcode funct3 high (store_row op)) store_ops

unfoldable pub reg_by_row : ℕ → ℕ → ℕ → Option RegOp
reg_by_row opcode funct3 high = find (λ op. is_row opcode funct3 high (reg_row op)) reg_ops

-- a word of each format
unfoldable pub upper_of : ℕ → Option Instr
upper_of w = option_map (λ op. Upper op (part 7 5 w) (part 12 20 w)) (upper_by_row (part 0 7 w) 0 0)

unfoldable pub jal_of : ℕ → Option Instr
jal_of w = Some (Jal (part 7 5 w) (signed 1048576 (jump_bits w)))

unfoldable pub branch_of : ℕ → Option Instr
branch_of w =
    option_map (λ op. Branch op (part 15 5 w) (part 20 5 w) (signed 4096 (branch_bits w)))
    (branch_by_row (part 0 7 w) (part 12 3 w) 0)

unfoldable pub imm_of : ℕ → Option Instr
imm_of w =
    option_map (λ op. Imm op (part 7 5 w) (part 15 5 w) (signed 2048 (part 20 12 w)))
    (imm_by_row (part 0 7 w) (part 12 3 w) 0)

unfoldable pub shift_of : ℕ → Option Instr
shift_of w =
    option_map (λ op. Shift op (part 7 5 w) (part 15 5 w) (part 20 6 w))
    (shift_by_row (part 0 7 w) (part 12 3 w) (part 26 6 w))

-- on 32 bits the number of a shift has five bits, and bit 25 is 0
unfoldable pub word_shift_of : ℕ → Option Instr
word_shift_of w = if part 25 1 w == 0 then shift_of w else None

unfoldable pub store_of : ℕ → Option Instr
store_of w =
    option_map (λ op. Store op (part 15 5 w) (part 20 5 w) (signed 2048 (store_bits w)))
    (store_by_row (part 0 7 w) (part 12 3 w) 0)

unfoldable pub reg_of : ℕ → Option Instr
reg_of w =
    option_map (λ op. Reg op (part 7 5 w) (part 15 5 w) (part 20 5 w))
    (reg_by_row (part 0 7 w) (part 12 3 w) (part 25 7 w))

-- a word with this opcode and funct3
unfoldable pub instr_at : ℕ → ℕ → ℕ → Option Instr
instr_at w opcode funct3 =
    if opcode == 0x33 || opcode == 0x3b then reg_of w
    else (if opcode == 0x63 then branch_of w
    else (if opcode == 0x23 then store_of w
    else (if opcode == 0x37 || opcode == 0x17 then upper_of w
    else (if opcode == 0x6f then jal_of w
    else (if opcode == 0x13 then (if funct3 == 1 || funct3 == 5 then shift_of w else imm_of w)
    else (if opcode == 0x1b then (if funct3 == 1 || funct3 == 5 then word_shift_of w else imm_of w)
    else imm_of w))))))

abbrev pub instr_of : ℕ → Option Instr
instr_of w = instr_at w (part 0 7 w) (part 12 3 w)

-- the instruction that the bytes begin with, and its length
abbrev pub front_of : List ℕ → Option (Instr × ℕ)
front_of bytes = word_front instr_of bytes
