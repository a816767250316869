-- The fields of fixes: where the three processors keep the distance or the address of an instruction.
use Rattle.std.specs.Prelude.{ℕ, ◌+◌, ◌*◌, ◌^◌, ℤ, pos, ◌+ℤ◌, ◌*ℤ◌, List, slice_index}
use Rattle.lg_base.specs.Fields.{part, signed}
use Rattle.lg_base.specs.Immediates.{branch_bits, jump_bits}
use Rattle.lg_base.specs.WordFronts.{word_at}
use Rattle.lg_buf.specs.declared.fixes.FixKind.{FixKind}
use Rattle.lg_buf.specs.declared.fixes.FixKind.TheVariants.{X86Rel8, X86Rel32, X86Abs32, A64Branch26, A64Cond19, A64MovPair, RvBranch, RvJal, RvLuiAddi, RvAuipcJalr}

-- how many bytes a fix has
abbrev pub fix_len : FixKind → ℕ
fix_len X86Rel8 = 1
fix_len X86Rel32 = 4
fix_len X86Abs32 = 4
fix_len A64Branch26 = 4
fix_len A64Cond19 = 4
fix_len A64MovPair = 8
fix_len RvBranch = 4
fix_len RvJal = 4
fix_len RvLuiAddi = 8
fix_len RvAuipcJalr = 8

-- what is in a word beside the field: of a branch of RV64, of a conditional branch and of a move of 16 bits of AArch64
abbrev pub branch_rest : ℕ → ℕ
branch_rest word = part 0 7 word + part 12 13 word * 2 ^ 12

abbrev pub cond_rest : ℕ → ℕ
cond_rest word = part 0 5 word + part 24 8 word * 2 ^ 24

abbrev pub move_rest : ℕ → ℕ
move_rest word = part 0 5 word + part 21 11 word * 2 ^ 21

-- the number that the field holds. The fields of branches of AArch64 count words; `movz` and `movk` hold 16 bits
-- each, `lui` and `addi`, and `auipc` and `jalr`, signed numbers of 20 and of 12 bits
abbrev pub field_number : FixKind → List ℕ → ℕ → ℤ
field_number X86Rel8 bytes place = signed 128 (slice_index bytes place)
field_number X86Rel32 bytes place = signed 2147483648 (word_at bytes place)
field_number X86Abs32 bytes place = pos (word_at bytes place)
field_number A64Branch26 bytes place = signed 33554432 (part 0 26 (word_at bytes place)) *ℤ pos 4
field_number A64Cond19 bytes place = signed 262144 (part 5 19 (word_at bytes place)) *ℤ pos 4
field_number A64MovPair bytes place =
    pos (part 5 16 (word_at bytes place) + part 5 16 (word_at bytes (place + 4)) * 65536)
field_number RvBranch bytes place = signed 4096 (branch_bits (word_at bytes place))
field_number RvJal bytes place = signed 1048576 (jump_bits (word_at bytes place))
field_number RvLuiAddi bytes place =
    (signed 524288 (part 12 20 (word_at bytes place)) *ℤ pos 4096) +ℤ signed 2048 (part 20 12 (word_at bytes (place + 4)))
field_number RvAuipcJalr bytes place =
    (signed 524288 (part 12 20 (word_at bytes place)) *ℤ pos 4096) +ℤ signed 2048 (part 20 12 (word_at bytes (place + 4)))

-- what is in the fix's words beside the field: of the first word, and of the second where there is one
abbrev pub field_rest : FixKind → List ℕ → ℕ → ℕ × ℕ
field_rest X86Rel8 bytes place = (0, 0)
field_rest X86Rel32 bytes place = (0, 0)
field_rest X86Abs32 bytes place = (0, 0)
field_rest A64Branch26 bytes place = (part 26 6 (word_at bytes place), 0)
field_rest A64Cond19 bytes place = (cond_rest (word_at bytes place), 0)
field_rest A64MovPair bytes place = (move_rest (word_at bytes place), move_rest (word_at bytes (place + 4)))
field_rest RvBranch bytes place = (branch_rest (word_at bytes place), 0)
field_rest RvJal bytes place = (part 0 12 (word_at bytes place), 0)
field_rest RvLuiAddi bytes place = (part 0 12 (word_at bytes place), part 0 20 (word_at bytes (place + 4)))
field_rest RvAuipcJalr bytes place = (part 0 12 (word_at bytes place), part 0 20 (word_at bytes (place + 4)))
