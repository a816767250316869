-- How a word is read, format by format. What the crate promises of `decode` names none of this: it is
-- what the private functions of the decoder compute, between the code and the laws.
use Rattle.std.specs.Prelude.{ℕ, List, ◌+◌, ◌*◌, ◌/◌, ◌^◌, find, ◌==◌, ◌||◌, if◌then◌else◌, Option, Some, None, option_map}
use Rattle.lg_base.specs.Fields.{part, signed}
use Rattle.lg_base.specs.WordFronts.{word_front}
use Rattle.lg_a64.specs.declared.instruction.Instr.{Instr}
use Rattle.lg_a64.specs.declared.instruction.Instr.TheVariants.{Reg, Imm, Wide, MulAdd, Bitfield, Csinc, Reverse, Scaled, Ldrx, Unscaled, Branch, BranchIf, BranchReg, Nop}
use Rattle.lg_a64.specs.declared.instruction.RegOp.{RegOp}
use Rattle.lg_a64.specs.declared.instruction.ImmOp.{ImmOp}
use Rattle.lg_a64.specs.declared.instruction.WideOp.{WideOp}
use Rattle.lg_a64.specs.declared.instruction.MulAddOp.{MulAddOp}
use Rattle.lg_a64.specs.declared.instruction.BitfieldOp.{BitfieldOp}
use Rattle.lg_a64.specs.declared.instruction.ReverseOp.{ReverseOp}
use Rattle.lg_a64.specs.declared.instruction.ScaledOp.{ScaledOp}
use Rattle.lg_a64.specs.declared.instruction.UnscaledOp.{UnscaledOp}
use Rattle.lg_a64.specs.declared.instruction.BranchOp.{BranchOp}
use Rattle.lg_a64.specs.declared.instruction.BranchRegOp.{BranchRegOp}
use Rattle.lg_a64.specs.declared.instruction.Cond.{Cond}
use Rattle.lg_a64.specs.Rows.{reg_row, reg_ops, imm_row, imm_ops, wide_row, wide_ops, mul_add_row, mul_add_ops, bitfield_row, bitfield_ops, reverse_row, reverse_ops, scaled_row, scaled_ops, unscaled_row, unscaled_ops, branch_row, branch_ops, branch_reg_row, branch_reg_ops, csinc_row, ldrx_row, branch_if_row, nop_row, cond_row, conds}

-- the first row of a format with this word
unfoldable pub reg_by_word : ℕ → Option RegOp
reg_by_word word = find (λ op. word == (reg_row op).word) reg_ops

unfoldable pub imm_by_word : ℕ → Option ImmOp
imm_by_word word = find (λ op. word == (imm_row op).word) imm_ops

unfoldable pub wide_by_word : ℕ → Option WideOp
wide_by_word word = find (λ op. word == (wide_row op).word) wide_ops

unfoldable pub mul_add_by_word : ℕ → Option MulAddOp
mul_add_by_word word = find (λ op. word == (mul_add_row op).word) mul_add_ops

unfoldable pub bitfield_by_word : ℕ → Option BitfieldOp
bitfield_by_word word = find (λ op. word == (bitfield_row op).word) bitfield_ops

unfoldable pub reverse_by_word : ℕ → Option ReverseOp
reverse_by_word word = find (λ op. word == (reverse_row op).word) reverse_ops

unfoldable pub scaled_by_word : ℕ → Option ScaledOp
scaled_by_word word = find (λ op. word == (scaled_row op).word) scaled_ops

unfoldable pub unscaled_by_word : ℕ → Option UnscaledOp
unscaled_by_word word = find (λ op. word == (unscaled_row op).word) unscaled_ops

unfoldable pub branch_by_word : ℕ → Option BranchOp
branch_by_word word = find (λ op. word == (branch_row op).word) branch_ops

unfoldable pub branch_reg_by_word : ℕ → Option BranchRegOp
branch_reg_by_word word = find (λ op. word == (branch_reg_row op).word) branch_reg_ops

unfoldable pub cond_by_number : ℕ → Option Cond
cond_by_number number = find (λ cond. number == (cond_row cond).word) conds

-- a word with 0 in the fields of the operands of each format
abbrev pub reg_fixed : ℕ → ℕ
reg_fixed w = part 10 6 w * 2 ^ 10 + part 21 11 w * 2 ^ 21

abbrev pub imm_fixed : ℕ → ℕ
imm_fixed w = part 23 9 w * 2 ^ 23

abbrev pub mul_add_fixed : ℕ → ℕ
mul_add_fixed w = part 15 1 w * 2 ^ 15 + part 21 11 w * 2 ^ 21

abbrev pub bitfield_fixed : ℕ → ℕ
bitfield_fixed w = part 22 10 w * 2 ^ 22

abbrev pub select_fixed : ℕ → ℕ
select_fixed w = part 10 2 w * 2 ^ 10 + part 21 11 w * 2 ^ 21

abbrev pub reverse_fixed : ℕ → ℕ
reverse_fixed w = part 10 22 w * 2 ^ 10

abbrev pub branch_fixed : ℕ → ℕ
branch_fixed w = part 26 6 w * 2 ^ 26

abbrev pub branch_if_fixed : ℕ → ℕ
branch_if_fixed w = part 4 1 w * 2 ^ 4 + part 24 8 w * 2 ^ 24

abbrev pub branch_reg_fixed : ℕ → ℕ
branch_reg_fixed w = part 0 5 w + part 10 22 w * 2 ^ 10

-- a word of each format
unfoldable pub reg_of : ℕ → Option Instr
reg_of w = option_map (λ op. Reg op (part 0 5 w) (part 5 5 w) (part 16 5 w)) (reg_by_word (reg_fixed w))

unfoldable pub imm_of : ℕ → Option Instr
imm_of w = option_map (λ op. Imm op (part 0 5 w) (part 5 5 w) (part 10 12 w) (part 22 1 w == 1)) (imm_by_word (imm_fixed w))

unfoldable pub wide_of : ℕ → Option Instr
wide_of w = option_map (λ op. Wide op (part 0 5 w) (part 5 16 w) (part 21 2 w)) (wide_by_word (imm_fixed w))

unfoldable pub mul_add_of : ℕ → Option Instr
mul_add_of w =
    option_map (λ op. MulAdd op (part 0 5 w) (part 5 5 w) (part 16 5 w) (part 10 5 w)) (mul_add_by_word (mul_add_fixed w))

unfoldable pub bitfield_of : ℕ → Option Instr
bitfield_of w =
    option_map (λ op. Bitfield op (part 0 5 w) (part 5 5 w) (part 16 6 w) (part 10 6 w)) (bitfield_by_word (bitfield_fixed w))

unfoldable pub csinc_of : ℕ → Option Instr
csinc_of w =
    if select_fixed w == csinc_row.word then
    option_map (λ cond. Csinc (part 0 5 w) (part 5 5 w) (part 16 5 w) cond) (cond_by_number (part 12 4 w))
    else None

unfoldable pub reverse_of : ℕ → Option Instr
reverse_of w = option_map (λ op. Reverse op (part 0 5 w) (part 5 5 w)) (reverse_by_word (reverse_fixed w))

unfoldable pub scaled_of : ℕ → Option Instr
scaled_of w = option_map (λ op. Scaled op (part 0 5 w) (part 5 5 w) (part 10 12 w)) (scaled_by_word (bitfield_fixed w))

unfoldable pub ldrx_of : ℕ → Option Instr
ldrx_of w = if reg_fixed w == ldrx_row.word then Some (Ldrx (part 0 5 w) (part 5 5 w) (part 16 5 w)) else None

unfoldable pub unscaled_of : ℕ → Option Instr
unscaled_of w =
    option_map (λ op. Unscaled op (part 0 5 w) (part 5 5 w) (signed 256 (part 12 9 w))) (unscaled_by_word (select_fixed w))

unfoldable pub branch_of : ℕ → Option Instr
branch_of w = option_map (λ op. Branch op (signed 33554432 (part 0 26 w))) (branch_by_word (branch_fixed w))

unfoldable pub branch_if_of : ℕ → Option Instr
branch_if_of w =
    if branch_if_fixed w == branch_if_row.word then
    option_map (λ cond. BranchIf cond (signed 262144 (part 5 19 w))) (cond_by_number (part 0 4 w))
    else None

unfoldable pub branch_reg_of : ℕ → Option Instr
branch_reg_of w = option_map (λ op. BranchReg op (part 5 5 w)) (branch_reg_by_word (branch_reg_fixed w))

unfoldable pub nop_of : ℕ → Option Instr
nop_of w = if w == nop_row.word then Some Nop else None

-- a word with this highest byte and these bits 21 to 23
unfoldable pub instr_at : ℕ → ℕ → ℕ → Option Instr
instr_at w top sort =
    if top / 4 == 0x05 || top / 4 == 0x25 then branch_of w
    else (if top == 0x9a then (if sort == 4 then csinc_of w else reg_of w)
    else (if top == 0xda then (if sort == 6 then reverse_of w else reg_of w)
    else (if top == 0x9b then (if sort == 0 then mul_add_of w else reg_of w)
    else (if top == 0xf8 then (if sort == 3 then ldrx_of w else unscaled_of w)
    else (if top == 0x91 || (top == 0xb1 || (top == 0xd1 || top == 0xf1)) then imm_of w
    else (if top == 0xd2 || (top == 0x92 || top == 0xf2) then wide_of w
    else (if top == 0x93 || top == 0xd3 then bitfield_of w
    else (if top == 0xf9 || (top == 0xb9 || (top == 0x79 || top == 0x39)) then scaled_of w
    else (if top == 0x54 then branch_if_of w
    else (if top == 0xd6 then branch_reg_of w
    else (if top == 0xd5 then nop_of w
    else reg_of w)))))))))))

abbrev pub instr_of : ℕ → Option Instr
instr_of w = instr_at w (part 24 8 w) (part 21 3 w)

-- the instruction in front of some bytes, and its length
abbrev pub front_of : List ℕ → Option (Instr × ℕ)
front_of bytes = word_front instr_of bytes
