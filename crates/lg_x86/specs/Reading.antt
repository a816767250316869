-- How bytes are read: the instruction that they may begin with is guessed, carelessly, and what was
-- guessed is spelled again and compared (`front_of`). The decoder spells nothing: it accepts a guess by tests of what it read
-- (`read_of`), and a law says that this is the same (ReadLemmas, `read_same`). Of `decode` the crate promises `front_of` and the laws
-- of spelling; the rest is what the private functions of the decoder compute, between the code and the laws.
use Rattle.std.specs.Prelude.{ℕ, ◌+◌, ◌*◌, ◌/◌, ◌%◌, ◌++◌, Bool, true, false, not, ◌&&◌, ◌||◌, ◌==◌, nat_eq, nat_le, nat_lt, if◌then◌else◌, ℤ, List, [], ◌∷◌, find, drop, length, slice_index, Option, Some, None, option_map}
use Rattle.std.specs.Int.{w32, w64, from_le_bytes}
use Rattle.std.specs.List.{starts_with}
use Rattle.lg_base.specs.Fields.{signed}
use Rattle.lg_x86.specs.declared.rows.Mark.{Mark}
use Rattle.lg_x86.specs.declared.rows.Mark.TheVariants.{Wide, Low, Plain}
use Rattle.lg_x86.specs.declared.instruction.Instr.{Instr}
use Rattle.lg_x86.specs.declared.instruction.Instr.TheVariants.{RmReg, Imm, RegRm, Load, Store, Lea2, Movi32, Movs32, Movi64, Unary, Shift, Bswap, Stack, JumpIfShort, JumpIfNear, Set, JumpShort, JumpNear, JumpReg, Bare}
use Rattle.lg_x86.specs.declared.instruction.RmRegOp.{RmRegOp}
use Rattle.lg_x86.specs.declared.instruction.ImmOp.{ImmOp}
use Rattle.lg_x86.specs.declared.instruction.RegRmOp.{RegRmOp}
use Rattle.lg_x86.specs.declared.instruction.LoadOp.{LoadOp}
use Rattle.lg_x86.specs.declared.instruction.StoreOp.{StoreOp}
use Rattle.lg_x86.specs.declared.instruction.UnaryOp.{UnaryOp}
use Rattle.lg_x86.specs.declared.instruction.ShiftOp.{ShiftOp}
use Rattle.lg_x86.specs.declared.instruction.StackOp.{StackOp}
use Rattle.lg_x86.specs.declared.instruction.JumpNearOp.{JumpNearOp}
use Rattle.lg_x86.specs.declared.instruction.JumpRegOp.{JumpRegOp}
use Rattle.lg_x86.specs.declared.instruction.BareOp.{BareOp}
use Rattle.lg_x86.specs.declared.instruction.Cond.{Cond}
use Rattle.lg_x86.specs.declared.instruction.LoadOp.TheVariants.{Lea}
use Rattle.lg_x86.specs.Rows.{PrefixRow, rm_reg_row, rm_reg_ops, imm_row, imm_ops, reg_rm_row, reg_rm_ops, load_row, load_ops, store_row, store_ops, unary_row, unary_ops, shift_row, shift_ops, stack_row, stack_ops, jump_near_row, jump_near_ops, jump_reg_row, jump_reg_ops, bare_row, bare_ops, cond_row, conds}
use Rattle.lg_x86.specs.Spelling.{spelling, size_prefix, opcode_bytes, is_short}

abbrev pub same_bool : Bool → Bool → Bool
same_bool true b = b
same_bool false b = not b

abbrev pub same_mark : Mark → Mark → Bool
same_mark Wide Wide = true
same_mark Low Low = true
same_mark Plain Plain = true
same_mark _ _ = false

-- whether a row has these prefixes and this opcode
abbrev pub is_prefix_row : Bool → Mark → Bool → ℕ → PrefixRow → Bool
is_prefix_row word_sized mark escaped opcode row = same_bool word_sized row.word_sized
    && (same_mark mark row.mark && (same_bool escaped row.escaped && (opcode == row.opcode)))

-- the first row of a shape with these
unfoldable pub rm_reg_by_opcode : ℕ → Option RmRegOp
rm_reg_by_opcode opcode = find (λ op. opcode == (rm_reg_row op).number) rm_reg_ops

unfoldable pub imm_by_digit : ℕ → Option ImmOp
imm_by_digit digit = find (λ op. digit == (imm_row op).number) imm_ops

unfoldable pub reg_rm_by_prefixes : Bool → Mark → Bool → ℕ → Option RegRmOp
reg_rm_by_prefixes word_sized mark escaped opcode = find (λ op. is_prefix_row word_sized mark escaped opcode (reg_rm_row op)) reg_rm_ops

unfoldable pub load_by_prefixes : Bool → Mark → Bool → ℕ → Option LoadOp
load_by_prefixes word_sized mark escaped opcode = find (λ op. is_prefix_row word_sized mark escaped opcode (load_row op)) load_ops

unfoldable pub store_by_prefixes : Bool → Mark → Bool → ℕ → Option StoreOp
store_by_prefixes word_sized mark escaped opcode = find (λ op. is_prefix_row word_sized mark escaped opcode (store_row op)) store_ops

unfoldable pub unary_by_digit : ℕ → ℕ → Option UnaryOp
unary_by_digit opcode digit = find (λ op. (opcode == (unary_row op).opcode) && (digit == (unary_row op).digit)) unary_ops

unfoldable pub shift_by_digit : ℕ → Option ShiftOp
shift_by_digit digit = find (λ op. digit == (shift_row op).number) shift_ops

unfoldable pub stack_by_opcode : ℕ → Option StackOp
stack_by_opcode opcode = find (λ op. opcode == (stack_row op).number) stack_ops

unfoldable pub jump_near_by_opcode : ℕ → Option JumpNearOp
jump_near_by_opcode opcode = find (λ op. opcode == (jump_near_row op).number) jump_near_ops

unfoldable pub jump_reg_by_digit : ℕ → Option JumpRegOp
jump_reg_by_digit digit = find (λ op. digit == (jump_reg_row op).number) jump_reg_ops

unfoldable pub bare_by_prefixes : Bool → Mark → Bool → ℕ → Option BareOp
bare_by_prefixes word_sized mark escaped opcode = find (λ op. is_prefix_row word_sized mark escaped opcode (bare_row op)) bare_ops

unfoldable pub cond_by_number : ℕ → Option Cond
cond_by_number number = find (λ op. number == (cond_row op).number) conds

-- the fields of REX, or of 0 where there is none
abbrev pub mark_in : ℕ → Mark
mark_in rex = if rex / 8 % 2 == 1 then Wide else Plain

abbrev pub opcode_reg : ℕ → ℕ → ℕ
opcode_reg rex opcode = rex % 2 * 8 + opcode % 8

-- the fields of what is after the opcode, which begins with ModRM, then SIB
abbrev pub has_registers : List ℕ → Bool
has_registers tail = slice_index tail 0 / 64 == 3

abbrev pub digit_in : List ℕ → ℕ
digit_in tail = slice_index tail 0 / 8 % 8

abbrev pub reg_in : ℕ → List ℕ → ℕ
reg_in rex tail = rex / 4 % 2 * 8 + slice_index tail 0 / 8 % 8

abbrev pub rm_in : ℕ → List ℕ → ℕ
rm_in rex tail = rex % 2 * 8 + slice_index tail 0 % 8

abbrev pub index_in : ℕ → List ℕ → ℕ
index_in rex tail = rex / 2 % 2 * 8 + slice_index tail 1 / 8 % 8

abbrev pub base_in : ℕ → List ℕ → ℕ
base_in rex tail = rex % 2 * 8 + slice_index tail 1 % 8

-- the numbers that some bytes begin with
abbrev pub word_in : List ℕ → ℕ
word_in bytes = from_le_bytes w32 (slice_index bytes 0 ∷ slice_index bytes 1 ∷ slice_index bytes 2 ∷ slice_index bytes 3 ∷ [])

abbrev pub wide_in : List ℕ → ℕ
wide_in bytes = from_le_bytes w64 (slice_index bytes 0 ∷ slice_index bytes 1 ∷ slice_index bytes 2 ∷ slice_index bytes 3 ∷ slice_index bytes 4
    ∷ slice_index bytes 5 ∷ slice_index bytes 6 ∷ slice_index bytes 7 ∷ [])

abbrev pub short_in : List ℕ → ℤ
short_in bytes = signed 128 (slice_index bytes 0)

abbrev pub long_in : List ℕ → ℤ
long_in bytes = signed 2147483648 (word_in bytes)

abbrev pub number_in : Bool → List ℕ → ℤ
number_in short bytes = if short then short_in bytes else long_in bytes

-- the displacement is after ModRM, and after SIB where there is one
abbrev pub disp_place : List ℕ → ℕ
disp_place tail = if slice_index tail 0 % 8 == 4 then 2 else 1

abbrev pub disp_in : List ℕ → ℤ
disp_in tail = number_in (slice_index tail 0 / 64 == 1) (drop (disp_place tail) tail)

-- an instruction of each shape
unfoldable pub rm_reg_of : ℕ → ℕ → List ℕ → Option Instr
rm_reg_of rex opcode tail = option_map (λ op. RmReg op (rm_in rex tail) (reg_in rex tail)) (rm_reg_by_opcode opcode)

unfoldable pub imm_of : ℕ → ℕ → List ℕ → Option Instr
imm_of rex opcode tail = option_map (λ op. Imm op (rm_in rex tail) (number_in (opcode == 0x83) (drop 1 tail))) (imm_by_digit (digit_in tail))

unfoldable pub reg_rm_of : Mark → Bool → ℕ → ℕ → List ℕ → Option Instr
reg_rm_of mark escaped rex opcode tail = option_map (λ op. RegRm op (reg_in rex tail) (rm_in rex tail)) (reg_rm_by_prefixes false mark escaped opcode)

unfoldable pub load_of : Mark → Bool → ℕ → ℕ → List ℕ → Option Instr
load_of mark escaped rex opcode tail = option_map (λ op. Load op (reg_in rex tail) (rm_in rex tail) (disp_in tail)) (load_by_prefixes false mark escaped opcode)

unfoldable pub store_of : Bool → Mark → ℕ → ℕ → List ℕ → Option Instr
store_of word_sized mark rex opcode tail = option_map (λ op. Store op (rm_in rex tail) (disp_in tail) (reg_in rex tail))
    (store_by_prefixes word_sized mark false opcode)

unfoldable pub lea_of : ℕ → List ℕ → Option Instr
lea_of rex tail =
    if slice_index tail 0 % 8 == 4 && not (index_in rex tail == 4) then Some (Lea2 (reg_in rex tail) (base_in rex tail) (index_in rex tail))
    else Some (Load Lea (reg_in rex tail) (rm_in rex tail) (disp_in tail))

unfoldable pub movi_of : Mark → ℕ → ℕ → List ℕ → Option Instr
movi_of Wide rex opcode tail = Some (Movi64 (opcode_reg rex opcode) (wide_in tail))
movi_of _ rex opcode tail = Some (Movi32 (opcode_reg rex opcode) (word_in tail))

unfoldable pub movs_of : ℕ → List ℕ → Option Instr
movs_of rex tail = Some (Movs32 (rm_in rex tail) (long_in (drop 1 tail)))

unfoldable pub unary_of : ℕ → ℕ → List ℕ → Option Instr
unary_of rex opcode tail = option_map (λ op. Unary op (rm_in rex tail)) (unary_by_digit opcode (digit_in tail))

unfoldable pub shift_of : ℕ → List ℕ → Option Instr
shift_of rex tail =
    if nat_lt (slice_index tail 1) 64 then option_map (λ op. Shift op (rm_in rex tail) (slice_index tail 1)) (shift_by_digit (digit_in tail))
    else None

unfoldable pub bswap_of : ℕ → ℕ → Option Instr
bswap_of rex opcode = Some (Bswap (opcode_reg rex opcode))

unfoldable pub stack_of : ℕ → ℕ → Option Instr
stack_of rex opcode = option_map (λ op. Stack op (opcode_reg rex opcode)) (stack_by_opcode (opcode / 8 * 8))

unfoldable pub jump_if_short_of : ℕ → List ℕ → Option Instr
jump_if_short_of opcode tail = option_map (λ cond. JumpIfShort cond (short_in tail)) (cond_by_number (opcode % 16))

unfoldable pub jump_if_near_of : ℕ → List ℕ → Option Instr
jump_if_near_of opcode tail = option_map (λ cond. JumpIfNear cond (long_in tail)) (cond_by_number (opcode % 16))

unfoldable pub set_of : ℕ → ℕ → List ℕ → Option Instr
set_of rex opcode tail = option_map (λ cond. Set cond (rm_in rex tail)) (cond_by_number (opcode % 16))

unfoldable pub jump_short_of : List ℕ → Option Instr
jump_short_of tail = Some (JumpShort (short_in tail))

unfoldable pub jump_near_of : ℕ → List ℕ → Option Instr
jump_near_of opcode tail = option_map (λ op. JumpNear op (long_in tail)) (jump_near_by_opcode opcode)

unfoldable pub jump_reg_of : ℕ → List ℕ → Option Instr
jump_reg_of rex tail = option_map (λ op. JumpReg op (rm_in rex tail)) (jump_reg_by_digit (digit_in tail))

unfoldable pub bare_of : Mark → ℕ → Option Instr
bare_of mark opcode = option_map (λ op. Bare op) (bare_by_prefixes false mark false opcode)

-- an instruction whose opcode has one byte, by this byte, what REX asks for, and whether ModRM names two
-- registers
unfoldable pub short_at : Bool → ℕ → Mark → Bool → ℕ → List ℕ → Option Instr
short_at word_sized rex mark registers opcode tail =
    if opcode / 16 == 7 then jump_if_short_of opcode tail
    else (if opcode / 16 == 5 then stack_of rex opcode
    else (if opcode / 8 == 23 then movi_of mark rex opcode tail
    else (if opcode == 0x81 || opcode == 0x83 then imm_of rex opcode tail
    else (if opcode == 0xc1 then shift_of rex tail
    else (if opcode == 0xc7 then movs_of rex tail
    else (if opcode == 0xd3 || opcode == 0xf7 then unary_of rex opcode tail
    else (if opcode == 0xff then jump_reg_of rex tail
    else (if opcode == 0xeb then jump_short_of tail
    else (if opcode == 0xe8 || opcode == 0xe9 then jump_near_of opcode tail
    else (if opcode == 0x90 || (opcode == 0x99 || opcode == 0xc3) then bare_of mark opcode
    else (if opcode == 0x8d then lea_of rex tail
    else (if opcode == 0x88 then store_of word_sized Low rex opcode tail
    else (if opcode == 0x63 || opcode == 0x8b then (if registers then reg_rm_of mark false rex opcode tail else load_of mark false rex opcode tail)
    else (if opcode == 0x89 then (if registers then rm_reg_of rex opcode tail else store_of word_sized mark rex opcode tail)
    else rm_reg_of rex opcode tail))))))))))))))

-- an instruction whose opcode has the escape byte and another, by this one
unfoldable pub escaped_at : ℕ → Mark → Bool → ℕ → List ℕ → Option Instr
escaped_at rex mark registers opcode tail =
    if opcode / 16 == 8 then jump_if_near_of opcode tail
    else (if opcode / 16 == 9 then set_of rex opcode tail
    else (if opcode / 8 == 25 then bswap_of rex opcode
    else (if registers then reg_rm_of mark true rex opcode tail
    else load_of mark true rex opcode tail)))

-- an instruction after its prefixes
abbrev pub code_at : Bool → ℕ → Mark → Bool → Bool → ℕ → List ℕ → Option Instr
code_at word_sized rex mark registers escaped opcode tail =
    if escaped then escaped_at rex mark registers opcode tail
    else short_at word_sized rex mark registers opcode tail

unfoldable pub code_of : Bool → ℕ → List ℕ → Option Instr
code_of word_sized rex bytes =
    if slice_index bytes 0 == 0x0f
    then code_at word_sized rex (mark_in rex) (has_registers (drop 2 bytes)) true (slice_index bytes 1) (drop 2 bytes)
    else code_at word_sized rex (mark_in rex) (has_registers (drop 1 bytes)) false (slice_index bytes 0) (drop 1 bytes)

-- an instruction after its size prefix
unfoldable pub sized_of : Bool → List ℕ → Option Instr
sized_of word_sized bytes =
    if slice_index bytes 0 / 16 == 4 then code_of word_sized (slice_index bytes 0) (drop 1 bytes)
    else code_of word_sized 0 bytes

-- the only instruction that some bytes may begin with
unfoldable pub guess_of : List ℕ → Option Instr
guess_of bytes = if slice_index bytes 0 == 0x66 then sized_of true (drop 1 bytes) else sized_of false bytes

-- what was guessed, with the length of its spelling, where the bytes begin with this
abbrev pub checked : List ℕ → Option Instr → Option (Instr × ℕ)
checked bytes None = None
checked bytes (Some i) = if starts_with nat_eq bytes (spelling i) then Some (i, length (spelling i)) else None

-- the instruction that the bytes begin with, and the length of its spelling
abbrev pub front_of : List ℕ → Option (Instr × ℕ)
front_of bytes = checked bytes (guess_of bytes)

-- ---- the same without the spelling: a guess is accepted by tests of what was read
-- REX's byte, where there is one
abbrev pub rex_byte : ℕ → List ℕ
rex_byte rex = if rex == 0 then [] else rex ∷ []

-- what is in front of an operand, and the operand with what follows
abbrev pub front_bytes : Bool → ℕ → Bool → ℕ → List ℕ → List ℕ
front_bytes word_sized rex escaped opcode tail = size_prefix word_sized ++ (rex_byte rex ++ (opcode_bytes escaped opcode ++ tail))

abbrev pub front_length : Bool → ℕ → Bool → ℕ
front_length word_sized rex escaped = length (front_bytes word_sized rex escaped 0 [])

abbrev pub accepted : Bool → ℕ → Option Instr → Option (Instr × ℕ)
accepted fits len guess = if fits then option_map (λ i. (i, len)) guess else None

-- REX is what a row asks for, and names no index: with W, for two registers or one; without, for one, or none; the low byte of one
unfoldable pub is_wide : ℕ → Bool
is_wide rex = (rex / 8 % 2 == 1) && (rex / 2 % 2 == 0)

unfoldable pub is_wide_one : ℕ → Bool
is_wide_one rex = (rex / 8 % 2 == 1) && (rex / 2 % 4 == 0)

unfoldable pub is_plain_one : ℕ → Bool
is_plain_one rex = (rex == 0) || (rex == 0x41)

unfoldable pub is_low_one : ℕ → Bool
is_low_one rex = (rex == 0x40) || (rex == 0x41)

-- with W or without, and for the low byte of two registers
unfoldable pub is_marked : ℕ → Bool
is_marked rex = (rex / 2 % 2 == 0) && not (rex == 0x40)

unfoldable pub is_low : ℕ → Bool
is_low rex = (rex / 8 == 8) && (rex / 2 % 2 == 0)

-- ModRM names one register, with digit 0
abbrev pub has_one : List ℕ → Bool
has_one tail = slice_index tail 0 / 8 == 24

abbrev pub has_bytes : ℕ → List ℕ → Bool
has_bytes count tail = nat_le count (length tail)

-- the displacement after this mode is there, and is short where it can be
abbrev pub is_displaced : ℕ → List ℕ → Bool
is_displaced mode bytes = if mode == 1 then has_bytes 1 bytes else ((mode == 2) && (has_bytes 4 bytes && not (is_short (long_in bytes))))

-- ModRM begins an operand in memory whose SIB names no index; and how long it is
abbrev pub is_memory : List ℕ → Bool
is_memory tail = (if slice_index tail 0 % 8 == 4 then slice_index tail 1 == 0x24 else true)
    && is_displaced (slice_index tail 0 / 64) (drop (disp_place tail) tail)

abbrev pub memory_length : List ℕ → ℕ
memory_length tail = disp_place tail + (if slice_index tail 0 / 64 == 1 then 1 else 4)

-- ModRM and SIB name three registers, and no displacement
abbrev pub is_sum : List ℕ → Bool
is_sum tail = (slice_index tail 0 / 64 == 1) && ((slice_index tail 1 / 64 == 0) && ((slice_index tail 2 == 0) && has_bytes 3 tail))

unfoldable pub read_movi : Bool → ℕ → ℕ → Mark → ℕ → List ℕ → Option (Instr × ℕ)
read_movi word_sized rex len Wide opcode tail = accepted ((not word_sized && is_wide_one rex) && has_bytes 8 tail) (len + 8) (movi_of Wide rex opcode tail)
read_movi word_sized rex len mark opcode tail = accepted ((not word_sized && is_plain_one rex) && has_bytes 4 tail) (len + 4) (movi_of mark rex opcode tail)

unfoldable pub read_imm : Bool → ℕ → ℕ → ℕ → List ℕ → Option (Instr × ℕ)
read_imm word_sized rex len opcode tail =
    if opcode == 0x83 then accepted ((not word_sized && is_wide_one rex) && (has_registers tail && has_bytes 2 tail)) (len + 2) (imm_of rex opcode tail)
    else accepted ((not word_sized && is_wide_one rex) && (has_registers tail && (has_bytes 5 tail && not (is_short (long_in (drop 1 tail))))))
    (len + 5) (imm_of rex opcode tail)

unfoldable pub read_reg : Bool → ℕ → ℕ → Mark → Bool → Bool → ℕ → List ℕ → Option (Instr × ℕ)
read_reg word_sized rex len mark registers escaped opcode tail =
    if registers then accepted (not word_sized && is_marked rex) (len + 1) (reg_rm_of mark escaped rex opcode tail)
    else accepted ((not word_sized && is_marked rex) && is_memory tail) (len + memory_length tail) (load_of mark escaped rex opcode tail)

unfoldable pub read_rm : Bool → ℕ → ℕ → Mark → Bool → ℕ → List ℕ → Option (Instr × ℕ)
read_rm word_sized rex len mark registers opcode tail =
    if registers then accepted (not word_sized && is_wide rex) (len + 1) (rm_reg_of rex opcode tail)
    else accepted (is_marked rex && is_memory tail) (len + memory_length tail) (store_of word_sized mark rex opcode tail)

unfoldable pub read_lea : Bool → ℕ → ℕ → List ℕ → Option (Instr × ℕ)
read_lea word_sized rex len tail =
    if slice_index tail 0 % 8 == 4 && not (index_in rex tail == 4)
    then accepted ((not word_sized && (rex / 8 % 2 == 1)) && is_sum tail) (len + 3) (lea_of rex tail)
    else accepted ((not word_sized && is_wide rex) && is_memory tail) (len + memory_length tail) (lea_of rex tail)

-- an instruction with no operand, or one that makes, loads or stores a register
unfoldable pub read_other : Bool → ℕ → ℕ → Mark → Bool → ℕ → List ℕ → Option (Instr × ℕ)
read_other word_sized rex len mark registers opcode tail =
    if opcode == 0x90 || (opcode == 0x99 || opcode == 0xc3) then accepted (not word_sized && ((rex == 0) || (rex == 0x48))) len (bare_of mark opcode)
    else (if opcode == 0x8d then read_lea word_sized rex len tail
    else (if opcode == 0x88 then accepted (is_low rex && is_memory tail) (len + memory_length tail) (store_of word_sized Low rex opcode tail)
    else (if opcode == 0x63 || opcode == 0x8b then read_reg word_sized rex len mark registers false opcode tail
    else (if opcode == 0x89 then read_rm word_sized rex len mark registers opcode tail
    else accepted ((not word_sized && is_wide rex) && has_registers tail) (len + 1) (rm_reg_of rex opcode tail)))))

-- a jump or call; or another instruction
unfoldable pub read_jump : Bool → ℕ → ℕ → Mark → Bool → ℕ → List ℕ → Option (Instr × ℕ)
read_jump word_sized rex len mark registers opcode tail =
    if opcode == 0xff then accepted ((not word_sized && is_plain_one rex) && has_registers tail) (len + 1) (jump_reg_of rex tail)
    else (if opcode == 0xeb then accepted ((not word_sized && (rex == 0)) && has_bytes 1 tail) (len + 1) (jump_short_of tail)
    else (if opcode == 0xe8 || opcode == 0xe9 then accepted ((not word_sized && (rex == 0)) && has_bytes 4 tail) (len + 4) (jump_near_of opcode tail)
    else read_other word_sized rex len mark registers opcode tail))

-- ModRM has a digit, and a register that a number or nothing is beside; or another instruction
unfoldable pub read_digit : Bool → ℕ → ℕ → Mark → Bool → ℕ → List ℕ → Option (Instr × ℕ)
read_digit word_sized rex len mark registers opcode tail =
    if opcode == 0x81 || opcode == 0x83 then read_imm word_sized rex len opcode tail
    else (if opcode == 0xc1 then accepted ((not word_sized && is_wide_one rex) && (has_registers tail && has_bytes 2 tail)) (len + 2) (shift_of rex tail)
    else (if opcode == 0xc7 then accepted ((not word_sized && is_wide_one rex) && (has_one tail && has_bytes 5 tail)) (len + 5) (movs_of rex tail)
    else (if opcode == 0xd3 || opcode == 0xf7 then accepted ((not word_sized && is_wide_one rex) && has_registers tail) (len + 1) (unary_of rex opcode tail)
    else read_jump word_sized rex len mark registers opcode tail)))

-- an instruction whose opcode has one byte
unfoldable pub read_short : Bool → ℕ → ℕ → Mark → Bool → ℕ → List ℕ → Option (Instr × ℕ)
read_short word_sized rex len mark registers opcode tail =
    if opcode / 16 == 7 then accepted ((not word_sized && (rex == 0)) && has_bytes 1 tail) (len + 1) (jump_if_short_of opcode tail)
    else (if opcode / 16 == 5 then accepted (not word_sized && is_plain_one rex) len (stack_of rex opcode)
    else (if opcode / 8 == 23 then read_movi word_sized rex len mark opcode tail
    else read_digit word_sized rex len mark registers opcode tail))

unfoldable pub read_escaped : Bool → ℕ → ℕ → Mark → Bool → ℕ → List ℕ → Option (Instr × ℕ)
read_escaped word_sized rex len mark registers opcode tail =
    if opcode / 16 == 8 then accepted ((not word_sized && (rex == 0)) && has_bytes 4 tail) (len + 4) (jump_if_near_of opcode tail)
    else (if opcode / 16 == 9 then accepted ((not word_sized && is_low_one rex) && has_one tail) (len + 1) (set_of rex opcode tail)
    else (if opcode / 8 == 25 then accepted (not word_sized && is_wide_one rex) len (bswap_of rex opcode)
    else read_reg word_sized rex len mark registers true opcode tail))

-- after the prefixes (this many bytes)
unfoldable pub read_code : Bool → ℕ → ℕ → List ℕ → Option (Instr × ℕ)
read_code word_sized rex len bytes =
    if slice_index bytes 0 == 0x0f
    then read_escaped word_sized rex (len + 2) (mark_in rex) (has_registers (drop 2 bytes)) (slice_index bytes 1) (drop 2 bytes)
    else read_short word_sized rex (len + 1) (mark_in rex) (has_registers (drop 1 bytes)) (slice_index bytes 0) (drop 1 bytes)

unfoldable pub read_sized : Bool → ℕ → List ℕ → Option (Instr × ℕ)
read_sized word_sized len bytes =
    if slice_index bytes 0 / 16 == 4 then read_code word_sized (slice_index bytes 0) (len + 1) (drop 1 bytes)
    else read_code word_sized 0 len bytes

unfoldable pub read_of : List ℕ → Option (Instr × ℕ)
read_of bytes = if slice_index bytes 0 == 0x66 then read_sized true 1 (drop 1 bytes) else read_sized false 0 bytes
