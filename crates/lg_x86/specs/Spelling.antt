-- How an instruction is spelled (Intel 64 and IA-32 Architectures Software Developer's Manual, volume 2,
-- chapter 2, "Instruction Format"): prefixes, REX, the opcode, ModRM, SIB, displacement, immediate.
-- Numbers stand with the lowest byte first, and where a short and a long form would both do, the short
-- one.
use Rattle.std.specs.Prelude.{ℕ, ◌+◌, ◌*◌, ◌/◌, ◌%◌, ◌^◌, ◌<◌, ◌≢◌, ◌==◌, Bool, true, false, ℤ, pos, negsuc, ◌≤ℤ◌, nat_lt, List, [], ◌∷◌, ◌++◌, if◌then◌else◌}
use Rattle.std.specs.Int.{w32, w64, to_le_bytes}
use Rattle.lg_base.specs.Fields.{bits_of}
use Rattle.lg_x86.specs.declared.rows.Mark.{Mark}
use Rattle.lg_x86.specs.declared.rows.Mark.TheVariants.{Wide, Low, Plain}
use Rattle.lg_x86.specs.declared.instruction.Instr.{Instr}
use Rattle.lg_x86.specs.declared.instruction.Instr.TheVariants.{RmReg, Imm, RegRm, Load, Store, Lea2, Movi32, Movs32, Movi64, Unary, Shift, Bswap, Stack, JumpIfShort, JumpIfNear, Set, JumpShort, JumpNear, JumpReg, Bare}
use Rattle.lg_x86.specs.Rows.{rm_reg_row, imm_row, reg_rm_row, load_row, store_row, unary_row, shift_row, stack_row, jump_near_row, jump_reg_row, bare_row, lea2_row, movi32_row, movs32_row, movi64_row, bswap_row, jump_short_row, jump_if_short_row, jump_if_near_row, set_row, cond_row}

-- the name of an instruction's row; some have the letters of a condition in them
abbrev pub name_of : Instr → List ℕ
name_of (RmReg op rm reg) = (rm_reg_row op).name
name_of (Imm op rm imm) = (imm_row op).name
name_of (RegRm op reg rm) = (reg_rm_row op).name
name_of (Load op reg base disp) = (load_row op).name
name_of (Store op base disp reg) = (store_row op).name
name_of (Lea2 reg base index) = lea2_row.name
name_of (Movi32 reg imm) = movi32_row.name
name_of (Movs32 rm imm) = movs32_row.name
name_of (Movi64 reg imm) = movi64_row.name
name_of (Unary op rm) = (unary_row op).name
name_of (Shift op rm count) = (shift_row op).name
name_of (Bswap reg) = bswap_row.name
name_of (Stack op reg) = (stack_row op).name
name_of (JumpIfShort cond distance) = jump_if_short_row.before ++ (cond_row cond).name ++ jump_if_short_row.behind
name_of (JumpIfNear cond distance) = jump_if_near_row.before ++ (cond_row cond).name ++ jump_if_near_row.behind
name_of (Set cond rm) = set_row.before ++ (cond_row cond).name ++ set_row.behind
name_of (JumpShort distance) = jump_short_row.name
name_of (JumpNear op distance) = (jump_near_row op).name
name_of (JumpReg op rm) = (jump_reg_row op).name
name_of (Bare op) = (bare_row op).name

-- the bits R, X and B: the fourth bit of the register in the field reg, of the index, and of the register
-- in the field rm, in the SIB base or in the opcode
abbrev pub extension : ℕ → ℕ → ℕ → ℕ
extension reg index rm = reg / 8 * 4 + index / 8 * 2 + rm / 8

-- REX is 0100WRXB. It stands exactly where the row asks for it, or a register of 8 to 15 occurs
abbrev pub rex : Mark → ℕ → List ℕ
rex Wide bits = (0x48 + bits) ∷ []
rex Low bits = (0x40 + bits) ∷ []
rex Plain bits = if bits == 0 then [] else (0x40 + bits) ∷ []

-- the operand-size prefix
abbrev pub size_prefix : Bool → List ℕ
size_prefix true = 0x66 ∷ []
size_prefix false = []

-- the opcode, with the escape byte in front of those of two bytes
abbrev pub opcode_bytes : Bool → ℕ → List ℕ
opcode_bytes true opcode = 0x0f ∷ opcode ∷ []
opcode_bytes false opcode = opcode ∷ []

-- ModRM: two bits of mode, and the low three of each register; mode 3 says that rm is a register
abbrev pub modrm : ℕ → ℕ → ℕ → ℕ
modrm mode reg rm = mode * 64 + reg % 8 * 8 + rm % 8

-- SIB of scale 0
abbrev pub sib : ℕ → ℕ → ℕ
sib index base = index % 8 * 8 + base % 8

-- whether a number is one of 8 bits, from -128 to 127
abbrev pub is_short : ℤ → Bool
is_short (pos k) = nat_lt k 128
is_short (negsuc k) = nat_lt k 128

-- a number in 8 bits, in 32 bits, and in the fewer that do
abbrev pub short_bytes : ℤ → List ℕ
short_bytes z = bits_of 128 z ∷ []

abbrev pub long_bytes : ℤ → List ℕ
long_bytes z = to_le_bytes w32 (bits_of 2147483648 z)

abbrev pub number_bytes : ℤ → List ℕ
number_bytes z = if is_short z then short_bytes z else long_bytes z

-- the operand [base + disp], after the opcode: mode 1 has a displacement of 8 bits, mode 2 of 32. The
-- field rm of rsp and of r12 says that SIB follows, which says that there is no index
abbrev pub memory_mode : ℤ → ℕ
memory_mode disp = if is_short disp then 1 else 2

abbrev pub base_sib : ℕ → List ℕ
base_sib base = if base % 8 == 4 then sib 4 base ∷ [] else []

abbrev pub memory : ℕ → ℕ → ℤ → List ℕ
memory reg base disp = modrm (memory_mode disp) reg base ∷ (base_sib base ++ number_bytes disp)

abbrev pub imm_opcode : ℤ → ℕ
imm_opcode imm = if is_short imm then 0x83 else 0x81

abbrev pub spelling : Instr → List ℕ
spelling (RmReg op rm reg) = rex Wide (extension reg 0 rm) ++ ((rm_reg_row op).number ∷ modrm 3 reg rm ∷ [])
spelling (Imm op rm imm) = rex Wide (extension 0 0 rm) ++ (imm_opcode imm ∷ modrm 3 (imm_row op).number rm ∷ []) ++ number_bytes imm
spelling (RegRm op reg rm) = rex (reg_rm_row op).mark (extension reg 0 rm) ++ opcode_bytes (reg_rm_row op).escaped (reg_rm_row op).opcode
    ++ (modrm 3 reg rm ∷ [])
spelling (Load op reg base disp) = rex (load_row op).mark (extension reg 0 base) ++ opcode_bytes (load_row op).escaped (load_row op).opcode
    ++ memory reg base disp
spelling (Store op base disp reg) = size_prefix (store_row op).word_sized ++ rex (store_row op).mark (extension reg 0 base)
    ++ ((store_row op).opcode ∷ []) ++ memory reg base disp
spelling (Lea2 reg base index) = rex Wide (extension reg index base) ++ (lea2_row.number ∷ modrm 1 reg 4 ∷ sib index base ∷ 0 ∷ [])
spelling (Movi32 reg imm) = rex Plain (extension 0 0 reg) ++ ((movi32_row.number + reg % 8) ∷ []) ++ to_le_bytes w32 imm
spelling (Movs32 rm imm) = rex Wide (extension 0 0 rm) ++ (movs32_row.number ∷ modrm 3 0 rm ∷ []) ++ long_bytes imm
spelling (Movi64 reg imm) = rex Wide (extension 0 0 reg) ++ ((movi64_row.number + reg % 8) ∷ []) ++ to_le_bytes w64 imm
spelling (Unary op rm) = rex Wide (extension 0 0 rm) ++ ((unary_row op).opcode ∷ modrm 3 (unary_row op).digit rm ∷ [])
spelling (Shift op rm count) = rex Wide (extension 0 0 rm) ++ (0xc1 ∷ modrm 3 (shift_row op).number rm ∷ count ∷ [])
spelling (Bswap reg) = rex Wide (extension 0 0 reg) ++ (0x0f ∷ (bswap_row.number + reg % 8) ∷ [])
spelling (Stack op reg) = rex Plain (extension 0 0 reg) ++ (((stack_row op).number + reg % 8) ∷ [])
spelling (JumpIfShort cond distance) = (jump_if_short_row.opcode + (cond_row cond).number) ∷ short_bytes distance
spelling (JumpIfNear cond distance) = 0x0f ∷ (jump_if_near_row.opcode + (cond_row cond).number) ∷ long_bytes distance
spelling (Set cond rm) = rex Low (extension 0 0 rm) ++ (0x0f ∷ (set_row.opcode + (cond_row cond).number) ∷ modrm 3 0 rm ∷ [])
spelling (JumpShort distance) = jump_short_row.number ∷ short_bytes distance
spelling (JumpNear op distance) = (jump_near_row op).number ∷ long_bytes distance
spelling (JumpReg op rm) = rex Plain (extension 0 0 rm) ++ (0xff ∷ modrm 3 (jump_reg_row op).number rm ∷ [])
spelling (Bare op) = rex (bare_row op).mark 0 ++ ((bare_row op).opcode ∷ [])

-- the numbers of a signed field
abbrev pub IsNumber8 : ℤ → Type 0
IsNumber8 z = (negsuc 127 ≤ℤ z) × (z ≤ℤ pos 127)

abbrev pub IsNumber32 : ℤ → Type 0
IsNumber32 z = (negsuc 2147483647 ≤ℤ z) × (z ≤ℤ pos 2147483647)

-- the numbers are in the row's ranges
abbrev pub IsInstr : Instr → Type 0
IsInstr (RmReg op rm reg) = (rm < 16) × (reg < 16)
IsInstr (Imm op rm imm) = (rm < 16) × IsNumber32 imm
IsInstr (RegRm op reg rm) = (reg < 16) × (rm < 16)
IsInstr (Load op reg base disp) = (reg < 16) × (base < 16) × IsNumber32 disp
IsInstr (Store op base disp reg) = (base < 16) × IsNumber32 disp × (reg < 16)
IsInstr (Lea2 reg base index) = (reg < 16) × (base < 16) × (index < 16) × (index ≢ 4)
IsInstr (Movi32 reg imm) = (reg < 16) × (imm < 2 ^ 32)
IsInstr (Movs32 rm imm) = (rm < 16) × IsNumber32 imm
IsInstr (Movi64 reg imm) = (reg < 16) × (imm < 2 ^ 64)
IsInstr (Unary op rm) = rm < 16
IsInstr (Shift op rm count) = (rm < 16) × (count < 64)
IsInstr (Bswap reg) = reg < 16
IsInstr (Stack op reg) = reg < 16
IsInstr (JumpIfShort cond distance) = IsNumber8 distance
IsInstr (JumpIfNear cond distance) = IsNumber32 distance
IsInstr (Set cond rm) = rm < 16
IsInstr (JumpShort distance) = IsNumber8 distance
IsInstr (JumpNear op distance) = IsNumber32 distance
IsInstr (JumpReg op rm) = rm < 16
IsInstr (Bare op) = Unit {0}
