-- The spelling of an instruction is guessed to be it: the law of each shape, and of all.
use Rattle.std.proofs.Common.{◌≡◌, ℕ, ◌+◌, ◌*◌, ◌/◌, ◌%◌, ◌<◌, ℤ, Bool, true, false, List, [], ◌∷◌, ◌++◌, drop, slice_index, append_assoc, Some, refl, ap, ◌∙◌, arith, lit<, lit≤, ◌≤◌, nat_lt, ne_eqb}
use Rattle.std.specs.Prelude.{◌==◌, ◌&&◌, ◌≢◌, not, if◌then◌else◌}
use Rattle.std.specs.Int.{w32, w64, to_le_bytes}
use Rattle.std.proofs.lemmas.Bool.Decides.{nat_tests}
use Rattle.lg_x86.specs.declared.rows.Mark.{Mark}
use Rattle.lg_x86.specs.declared.rows.Mark.TheVariants.{Wide, Low, Plain}
use Rattle.lg_x86.specs.declared.instruction.Instr.{Instr}
use Rattle.lg_x86.specs.declared.instruction.Instr.TheVariants.{RmReg, Imm, RegRm, Load, Store, Lea2, Movi32, Movs32, Movi64, Unary, Shift, Bswap, Stack, JumpIfShort, JumpIfNear, Set, JumpShort, JumpNear, JumpReg, Bare}
use Rattle.lg_x86.specs.declared.instruction.RmRegOp.{RmRegOp}
use Rattle.lg_x86.specs.declared.instruction.RmRegOp.TheVariants.{Add}
use Rattle.lg_x86.specs.declared.instruction.ImmOp.{ImmOp}
use Rattle.lg_x86.specs.declared.instruction.ImmOp.TheVariants.{Addi}
use Rattle.lg_x86.specs.declared.instruction.RegRmOp.{RegRmOp}
use Rattle.lg_x86.specs.declared.instruction.RegRmOp.TheVariants.{Ext32u}
use Rattle.lg_x86.specs.declared.instruction.LoadOp.{LoadOp}
use Rattle.lg_x86.specs.declared.instruction.LoadOp.TheVariants.{Ld64, Lea}
use Rattle.lg_x86.specs.declared.instruction.StoreOp.{StoreOp}
use Rattle.lg_x86.specs.declared.instruction.StoreOp.TheVariants.{St64}
use Rattle.lg_x86.specs.declared.instruction.UnaryOp.{UnaryOp}
use Rattle.lg_x86.specs.declared.instruction.UnaryOp.TheVariants.{Not}
use Rattle.lg_x86.specs.declared.instruction.ShiftOp.{ShiftOp}
use Rattle.lg_x86.specs.declared.instruction.ShiftOp.TheVariants.{Shli}
use Rattle.lg_x86.specs.declared.instruction.StackOp.{StackOp}
use Rattle.lg_x86.specs.declared.instruction.StackOp.TheVariants.{Push, Pop}
use Rattle.lg_x86.specs.declared.instruction.JumpNearOp.{JumpNearOp}
use Rattle.lg_x86.specs.declared.instruction.JumpNearOp.TheVariants.{Jmp32}
use Rattle.lg_x86.specs.declared.instruction.JumpRegOp.{JumpRegOp}
use Rattle.lg_x86.specs.declared.instruction.JumpRegOp.TheVariants.{Jmpr}
use Rattle.lg_x86.specs.declared.instruction.BareOp.{BareOp}
use Rattle.lg_x86.specs.declared.instruction.BareOp.TheVariants.{Cqo}
use Rattle.lg_x86.specs.declared.instruction.Cond.{Cond}
use Rattle.lg_x86.specs.declared.instruction.Cond.TheVariants.{Overflow}
use Rattle.lg_x86.specs.Rows.{rm_reg_row, imm_row, reg_rm_row, load_row, store_row, unary_row, shift_row, stack_row, jump_near_row, jump_reg_row, cond_row}
use Rattle.lg_x86.specs.Spelling.{IsInstr, spelling, rex, extension, size_prefix, opcode_bytes, modrm, sib, is_short, short_bytes, long_bytes, number_bytes, memory_mode, memory, imm_opcode}
use Rattle.lg_x86.specs.Reading.{rm_reg_by_opcode, imm_by_digit, reg_rm_by_prefixes, load_by_prefixes, store_by_prefixes, unary_by_digit, shift_by_digit, stack_by_opcode, jump_near_by_opcode, jump_reg_by_digit, bare_by_prefixes, cond_by_number, opcode_reg, has_registers, digit_in, reg_in, rm_in, index_in, base_in, word_in, wide_in, short_in, long_in, number_in, disp_in, rm_reg_of, imm_of, reg_rm_of, load_of, store_of, lea_of, movi_of, movs_of, unary_of, shift_of, bswap_of, stack_of, jump_if_short_of, jump_if_near_of, set_of, jump_short_of, jump_near_of, jump_reg_of, bare_of, short_at, escaped_at, code_at, code_of, sized_of, guess_of}
use Rattle.lg_x86.proofs.FrontLemmas.{rex_value, read_mark, rex_low, IsOpcode, front_read}
use Rattle.lg_x86.proofs.FieldLemmas.{extension_fits, modrm_mode, modrm_digit, modrm_rm, reg_is, rm_is, index_is, base_is, low_is, word_read, wide_read, short_read, long_read, number_read_as, memory_has_no_registers, disp_read, one_register}

-- the guess of the bytes
abbrev Guessed : Instr → Type 0
Guessed i = (more : List ℕ) → IsInstr i → guess_of (spelling i ++ more) ≡ Some i

pub joined_3 : (a b c more : List ℕ) → a ++ b ++ c ++ more ≡ a ++ (b ++ (c ++ more))
joined_3 a b c more = append_assoc (a ++ b) c more ∙ append_assoc a b (c ++ more)

joined_4 : (a b c d more : List ℕ) → a ++ b ++ c ++ d ++ more ≡ a ++ (b ++ (c ++ (d ++ more)))
joined_4 a b c d more = append_assoc (a ++ b ++ c) d more ∙ joined_3 a b c (d ++ more)

-- ModRM of two registers says so
two_registers : (reg rm : ℕ) → (modrm 3 reg rm / 64 == 3) ≡ true
two_registers reg rm = rw (modrm_mode 3 reg rm) refl

-- an opcode that holds a register
pub register_opcode : (base reg : ℕ) → 0x50 ≤ base → base < 0xff → base ≢ 0x60 → (base % 8 ≡ 0) → IsOpcode (base + reg % 8)
register_opcode base reg low high other aligned = record { no_rex = grind (arith, nat_tests); no_size = grind (arith, nat_tests); no_escape = grind (arith, nat_tests) }

-- two registers
pub rm_reg_opcode : (op : RmRegOp) → IsOpcode (rm_reg_row op).number
rm_reg_opcode Add = record { no_rex = refl; no_size = refl; no_escape = refl }
rm_reg_opcode _ = record { no_rex = refl; no_size = refl; no_escape = refl }

rm_reg_way : (op : RmRegOp) (r : ℕ) (tail : List ℕ) → code_at false r Wide true false (rm_reg_row op).number tail ≡ Some (RmReg op (rm_in r tail) (reg_in r tail))
unfolding short_at rm_reg_of rm_reg_by_opcode
rm_reg_way Add r tail = refl
rm_reg_way _ r tail = refl

rm_reg_again : (op : RmRegOp) (rm reg : ℕ) → Guessed (RmReg op rm reg)
rm_reg_again op rm reg more ok =
    let bits = extension reg 0 rm in
    let fits = extension_fits reg 0 rm ok.1 (lit< tt) ok.0 in
    let r = rex_value Wide bits in
    let low : r % 8 ≡ extension reg 0 rm = rex_low Wide bits fits in
    let tail : List ℕ = modrm 3 reg rm ∷ more in
    front_read false Wide bits fits false (rm_reg_row op).number (rm_reg_opcode op) tail true (two_registers reg rm)
    ∙ rm_reg_way op r tail
    ∙ ap (λ x. Some (RmReg op x (reg_in r tail))) (rm_is r 3 reg reg 0 rm ok.1 (lit< tt) ok.0 low)
    ∙ ap (λ x. Some (RmReg op rm x)) (reg_is r 3 reg rm 0 rm ok.1 (lit< tt) ok.0 low)

-- a register and a number
imm_known : (op : ImmOp) → imm_by_digit (imm_row op).number ≡ Some op
unfolding imm_by_digit
imm_known Addi = refl
imm_known _ = refl

imm_digit : (op : ImmOp) → (imm_row op).number < 8
imm_digit Addi = lit< tt
imm_digit _ = lit< tt

pub imm_is_opcode : (short : Bool) → IsOpcode (if short then 0x83 else 0x81)
imm_is_opcode true = record { no_rex = refl; no_size = refl; no_escape = refl }
imm_is_opcode false = record { no_rex = refl; no_size = refl; no_escape = refl }

imm_way : (short : Bool) (r : ℕ) (tail : List ℕ) → code_at false r Wide true false (if short then 0x83 else 0x81) tail ≡ imm_of r (if short then 0x83 else 0x81) tail
unfolding short_at
imm_way true r tail = refl
imm_way false r tail = refl

imm_read : (op : ImmOp) (short : Bool) (r : ℕ) (tail : List ℕ) → digit_in tail ≡ (imm_row op).number → imm_of r (if short then 0x83 else 0x81) tail ≡ Some (Imm op (rm_in r tail) (number_in short (drop 1 tail)))
unfolding imm_of
imm_read op true r tail d = rw (d, imm_known op) refl
imm_read op false r tail d = rw (d, imm_known op) refl

imm_again : (op : ImmOp) (rm : ℕ) (imm : ℤ) → Guessed (Imm op rm imm)
imm_again op rm imm more ok =
    let bits = extension 0 0 rm in
    let fits = extension_fits 0 0 rm (lit< tt) (lit< tt) ok.0 in
    let r = rex_value Wide bits in
    let low : r % 8 ≡ extension 0 0 rm = rex_low Wide bits fits in
    let digit = (imm_row op).number in
    let short = is_short imm in
    let tail : List ℕ = modrm 3 digit rm ∷ (number_bytes imm ++ more) in
    ap guess_of (joined_3 (rex Wide bits) (imm_opcode imm ∷ modrm 3 digit rm ∷ []) (number_bytes imm) more)
    ∙ front_read false Wide bits fits false (imm_opcode imm) (imm_is_opcode short) tail true (two_registers digit rm)
    ∙ imm_way short r tail
    ∙ imm_read op short r tail (modrm_digit 3 digit rm (imm_digit op))
    ∙ ap (λ x. Some (Imm op x (number_in short (drop 1 tail)))) (rm_is r 3 0 digit 0 rm (lit< tt) (lit< tt) ok.0 low)
    ∙ ap (λ x. Some (Imm op rm x)) (number_read_as imm more ok.1 short refl)

-- a register from another
pub reg_rm_opcode : (op : RegRmOp) → IsOpcode (reg_rm_row op).opcode
reg_rm_opcode Ext32u = record { no_rex = refl; no_size = refl; no_escape = refl }
reg_rm_opcode _ = record { no_rex = refl; no_size = refl; no_escape = refl }

reg_rm_way : (op : RegRmOp) (r : ℕ) (tail : List ℕ) → code_at false r (read_mark (reg_rm_row op).mark) true (reg_rm_row op).escaped (reg_rm_row op).opcode tail ≡ Some (RegRm op (reg_in r tail) (rm_in r tail))
unfolding short_at escaped_at reg_rm_of reg_rm_by_prefixes
reg_rm_way Ext32u r tail = refl
reg_rm_way _ r tail = refl

reg_rm_again : (op : RegRmOp) (reg rm : ℕ) → Guessed (RegRm op reg rm)
reg_rm_again op reg rm more ok =
    let mark = (reg_rm_row op).mark in
    let escaped = (reg_rm_row op).escaped in
    let opcode = (reg_rm_row op).opcode in
    let bits = extension reg 0 rm in
    let fits = extension_fits reg 0 rm ok.0 (lit< tt) ok.1 in
    let r = rex_value mark bits in
    let low : r % 8 ≡ extension reg 0 rm = rex_low mark bits fits in
    let tail : List ℕ = modrm 3 reg rm ∷ more in
    ap guess_of (joined_3 (rex mark bits) (opcode_bytes escaped opcode) (modrm 3 reg rm ∷ []) more)
    ∙ front_read false mark bits fits escaped opcode (reg_rm_opcode op) tail true (two_registers reg rm)
    ∙ reg_rm_way op r tail
    ∙ ap (λ x. Some (RegRm op x (rm_in r tail))) (reg_is r 3 reg rm 0 rm ok.0 (lit< tt) ok.1 low)
    ∙ ap (λ x. Some (RegRm op reg x)) (rm_is r 3 reg reg 0 rm ok.0 (lit< tt) ok.1 low)

-- a register from memory
pub load_opcode : (op : LoadOp) → IsOpcode (load_row op).opcode
load_opcode Ld64 = record { no_rex = refl; no_size = refl; no_escape = refl }
load_opcode _ = record { no_rex = refl; no_size = refl; no_escape = refl }

load_way : (op : LoadOp) (r : ℕ) (tail : List ℕ) → (slice_index tail 0 % 8 == 4 && not (index_in r tail == 4)) ≡ false → code_at false r (read_mark (load_row op).mark) false (load_row op).escaped (load_row op).opcode tail ≡ Some (Load op (reg_in r tail) (rm_in r tail) (disp_in tail))
unfolding short_at escaped_at lea_of load_of load_by_prefixes
load_way Ld64 r tail one = refl
load_way Lea r tail one = rw one refl
load_way _ r tail one = refl

load_again : (op : LoadOp) (reg base : ℕ) (disp : ℤ) → Guessed (Load op reg base disp)
load_again op reg base disp more ok =
    let mark = (load_row op).mark in
    let escaped = (load_row op).escaped in
    let opcode = (load_row op).opcode in
    let bits = extension reg 0 base in
    let fits = extension_fits reg 0 base ok.0 (lit< tt) ok.1 in
    let r = rex_value mark bits in
    let low : r % 8 ≡ extension reg 0 base = rex_low mark bits fits in
    let tail : List ℕ = memory reg base disp ++ more in
    ap guess_of (joined_3 (rex mark bits) (opcode_bytes escaped opcode) (memory reg base disp) more)
    ∙ front_read false mark bits fits escaped opcode (load_opcode op) tail false (memory_has_no_registers reg base disp more)
    ∙ load_way op r tail (one_register r reg base disp more ok.0 ok.1 low)
    ∙ ap (λ x. Some (Load op x (rm_in r tail) (disp_in tail))) (reg_is r (memory_mode disp) reg base 0 base ok.0 (lit< tt) ok.1 low)
    ∙ ap (λ x. Some (Load op reg x (disp_in tail))) (rm_is r (memory_mode disp) reg reg 0 base ok.0 (lit< tt) ok.1 low)
    ∙ ap (λ x. Some (Load op reg base x)) (disp_read reg base disp more ok.2)

-- memory from a register
pub store_opcode : (op : StoreOp) → IsOpcode (store_row op).opcode
store_opcode St64 = record { no_rex = refl; no_size = refl; no_escape = refl }
store_opcode _ = record { no_rex = refl; no_size = refl; no_escape = refl }

store_way : (op : StoreOp) (r : ℕ) (tail : List ℕ) → code_at (store_row op).word_sized r (read_mark (store_row op).mark) false false (store_row op).opcode tail ≡ Some (Store op (rm_in r tail) (disp_in tail) (reg_in r tail))
unfolding short_at store_of store_by_prefixes
store_way St64 r tail = refl
store_way _ r tail = refl

store_again : (op : StoreOp) (base : ℕ) (disp : ℤ) (reg : ℕ) → Guessed (Store op base disp reg)
store_again op base disp reg more ok =
    let s = (store_row op).word_sized in
    let mark = (store_row op).mark in
    let opcode = (store_row op).opcode in
    let bits = extension reg 0 base in
    let fits = extension_fits reg 0 base ok.2 (lit< tt) ok.0 in
    let r = rex_value mark bits in
    let low : r % 8 ≡ extension reg 0 base = rex_low mark bits fits in
    let tail : List ℕ = memory reg base disp ++ more in
    ap guess_of (joined_4 (size_prefix s) (rex mark bits) (opcode ∷ []) (memory reg base disp) more)
    ∙ front_read s mark bits fits false opcode (store_opcode op) tail false (memory_has_no_registers reg base disp more)
    ∙ store_way op r tail
    ∙ ap (λ x. Some (Store op x (disp_in tail) (reg_in r tail))) (rm_is r (memory_mode disp) reg reg 0 base ok.2 (lit< tt) ok.0 low)
    ∙ ap (λ x. Some (Store op base x (reg_in r tail))) (disp_read reg base disp more ok.1)
    ∙ ap (λ x. Some (Store op base disp x)) (reg_is r (memory_mode disp) reg base 0 base ok.2 (lit< tt) ok.0 low)

-- the sum of two registers
lea2_way : (r : ℕ) (tail : List ℕ) → (slice_index tail 0 % 8 == 4 && not (index_in r tail == 4)) ≡ true → code_at false r Wide false false 0x8d tail ≡ Some (Lea2 (reg_in r tail) (base_in r tail) (index_in r tail))
unfolding short_at lea_of
lea2_way r tail two = rw two refl

lea2_again : (reg base index : ℕ) → Guessed (Lea2 reg base index)
lea2_again reg base index more ok =
    let bits = extension reg index base in
    let fits = extension_fits reg index base ok.0 ok.2 ok.1 in
    let r = rex_value Wide bits in
    let low : r % 8 ≡ extension reg index base = rex_low Wide bits fits in
    let tail : List ℕ = modrm 1 reg 4 ∷ sib index base ∷ 0 ∷ more in
    let index_read : index_in r tail ≡ index = index_is r reg index base ok.0 ok.2 ok.1 low in
    let not_rsp : (index == 4) ≡ false = ne_eqb index 4 ok.3 in
    front_read false Wide bits fits false 0x8d (record { no_rex = refl; no_size = refl; no_escape = refl }) tail false (ap (λ mode. mode == 3) (modrm_mode 1 reg 4))
    ∙ lea2_way r tail (ap (λ x. x == 4 && not (index_in r tail == 4)) (modrm_rm 1 reg 4) ∙ ap (λ x. not (x == 4)) index_read ∙ ap not not_rsp)
    ∙ ap (λ x. Some (Lea2 x (base_in r tail) (index_in r tail))) (reg_is r 1 reg 4 index base ok.0 ok.2 ok.1 low)
    ∙ ap (λ x. Some (Lea2 reg x (index_in r tail))) (base_is r reg index base ok.0 ok.2 ok.1 low)
    ∙ ap (λ x. Some (Lea2 reg base x)) index_read

-- a register and a number, with the register in the opcode
movi_way : (r : ℕ) (mark : Mark) (registers : Bool) (opcode : ℕ) (tail : List ℕ) → opcode / 16 ≡ 11 → opcode / 8 ≡ 23 → code_at false r mark registers false opcode tail ≡ movi_of mark r opcode tail
unfolding short_at
movi_way r mark registers opcode tail sixteen eight = rw (sixteen, eight) refl

movi32_read : (r opcode : ℕ) (tail : List ℕ) → movi_of Plain r opcode tail ≡ Some (Movi32 (opcode_reg r opcode) (word_in tail))
unfolding movi_of
movi32_read r opcode tail = refl

movi64_read : (r opcode : ℕ) (tail : List ℕ) → movi_of Wide r opcode tail ≡ Some (Movi64 (opcode_reg r opcode) (wide_in tail))
unfolding movi_of
movi64_read r opcode tail = refl

movi_opcode : (reg : ℕ) → IsOpcode (0xb8 + reg % 8)
movi_opcode reg = register_opcode 0xb8 reg (lit≤ tt) (lit< tt) (λ e. omega (arith, e)) refl

movi32_again : (reg imm : ℕ) → Guessed (Movi32 reg imm)
movi32_again reg imm more ok =
    let bits = extension 0 0 reg in
    let fits = extension_fits 0 0 reg (lit< tt) (lit< tt) ok.0 in
    let r = rex_value Plain bits in
    let low : r % 8 ≡ extension 0 0 reg = rex_low Plain bits fits in
    let opcode = 0xb8 + reg % 8 in
    let tail : List ℕ = to_le_bytes w32 imm ++ more in
    ap guess_of (joined_3 (rex Plain bits) (opcode ∷ []) (to_le_bytes w32 imm) more)
    ∙ front_read false Plain bits fits false opcode (movi_opcode reg) tail (has_registers tail) refl
    ∙ movi_way r Plain (has_registers tail) opcode tail (omega arith) (omega arith)
    ∙ movi32_read r opcode tail
    ∙ ap (λ x. Some (Movi32 x (word_in tail))) (low_is r 23 0 0 reg (lit< tt) (lit< tt) ok.0 low)
    ∙ ap (λ x. Some (Movi32 reg x)) (word_read imm more ok.1)

movi64_again : (reg imm : ℕ) → Guessed (Movi64 reg imm)
movi64_again reg imm more ok =
    let bits = extension 0 0 reg in
    let fits = extension_fits 0 0 reg (lit< tt) (lit< tt) ok.0 in
    let r = rex_value Wide bits in
    let low : r % 8 ≡ extension 0 0 reg = rex_low Wide bits fits in
    let opcode = 0xb8 + reg % 8 in
    let tail : List ℕ = to_le_bytes w64 imm ++ more in
    ap guess_of (joined_3 (rex Wide bits) (opcode ∷ []) (to_le_bytes w64 imm) more)
    ∙ front_read false Wide bits fits false opcode (movi_opcode reg) tail (has_registers tail) refl
    ∙ movi_way r Wide (has_registers tail) opcode tail (omega arith) (omega arith)
    ∙ movi64_read r opcode tail
    ∙ ap (λ x. Some (Movi64 x (wide_in tail))) (low_is r 23 0 0 reg (lit< tt) (lit< tt) ok.0 low)
    ∙ ap (λ x. Some (Movi64 reg x)) (wide_read imm more ok.1)

movs_way : (r : ℕ) (tail : List ℕ) → code_at false r Wide true false 0xc7 tail ≡ Some (Movs32 (rm_in r tail) (long_in (drop 1 tail)))
unfolding short_at movs_of
movs_way r tail = refl

movs32_again : (rm : ℕ) (imm : ℤ) → Guessed (Movs32 rm imm)
movs32_again rm imm more ok =
    let bits = extension 0 0 rm in
    let fits = extension_fits 0 0 rm (lit< tt) (lit< tt) ok.0 in
    let r = rex_value Wide bits in
    let low : r % 8 ≡ extension 0 0 rm = rex_low Wide bits fits in
    let tail : List ℕ = modrm 3 0 rm ∷ (long_bytes imm ++ more) in
    ap guess_of (joined_3 (rex Wide bits) (0xc7 ∷ modrm 3 0 rm ∷ []) (long_bytes imm) more)
    ∙ front_read false Wide bits fits false 0xc7 (record { no_rex = refl; no_size = refl; no_escape = refl }) tail true (two_registers 0 rm)
    ∙ movs_way r tail
    ∙ ap (λ x. Some (Movs32 x (long_in (drop 1 tail)))) (rm_is r 3 0 0 0 rm (lit< tt) (lit< tt) ok.0 low)
    ∙ ap (λ x. Some (Movs32 rm x)) (long_read imm more ok.1)

-- one register, with a digit beside the opcode
pub unary_opcode : (op : UnaryOp) → IsOpcode (unary_row op).opcode
unary_opcode Not = record { no_rex = refl; no_size = refl; no_escape = refl }
unary_opcode _ = record { no_rex = refl; no_size = refl; no_escape = refl }

unary_known : (op : UnaryOp) → unary_by_digit (unary_row op).opcode (unary_row op).digit ≡ Some op
unfolding unary_by_digit
unary_known Not = refl
unary_known _ = refl

unary_digit : (op : UnaryOp) → (unary_row op).digit < 8
unary_digit Not = lit< tt
unary_digit _ = lit< tt

unary_way : (op : UnaryOp) (r : ℕ) (tail : List ℕ) → code_at false r Wide true false (unary_row op).opcode tail ≡ unary_of r (unary_row op).opcode tail
unfolding short_at
unary_way Not r tail = refl
unary_way _ r tail = refl

unary_read : (op : UnaryOp) (r : ℕ) (tail : List ℕ) → digit_in tail ≡ (unary_row op).digit → unary_of r (unary_row op).opcode tail ≡ Some (Unary op (rm_in r tail))
unfolding unary_of
unary_read op r tail d = rw (d, unary_known op) refl

unary_again : (op : UnaryOp) (rm : ℕ) → Guessed (Unary op rm)
unary_again op rm more ok =
    let bits = extension 0 0 rm in
    let fits = extension_fits 0 0 rm (lit< tt) (lit< tt) ok in
    let r = rex_value Wide bits in
    let low : r % 8 ≡ extension 0 0 rm = rex_low Wide bits fits in
    let digit = (unary_row op).digit in
    let tail : List ℕ = modrm 3 digit rm ∷ more in
    front_read false Wide bits fits false (unary_row op).opcode (unary_opcode op) tail true (two_registers digit rm)
    ∙ unary_way op r tail
    ∙ unary_read op r tail (modrm_digit 3 digit rm (unary_digit op))
    ∙ ap (λ x. Some (Unary op x)) (rm_is r 3 0 digit 0 rm (lit< tt) (lit< tt) ok low)

-- a shift by a number
shift_known : (op : ShiftOp) → shift_by_digit (shift_row op).number ≡ Some op
unfolding shift_by_digit
shift_known Shli = refl
shift_known _ = refl

shift_digit : (op : ShiftOp) → (shift_row op).number < 8
shift_digit Shli = lit< tt
shift_digit _ = lit< tt

shift_way : (op : ShiftOp) (r : ℕ) (tail : List ℕ) → digit_in tail ≡ (shift_row op).number → nat_lt (slice_index tail 1) 64 ≡ true → code_at false r Wide true false 0xc1 tail ≡ Some (Shift op (rm_in r tail) (slice_index tail 1))
unfolding short_at shift_of
shift_way op r tail d few = rw (few, d, shift_known op) refl

shift_again : (op : ShiftOp) (rm count : ℕ) → Guessed (Shift op rm count)
shift_again op rm count more ok =
    let bits = extension 0 0 rm in
    let fits = extension_fits 0 0 rm (lit< tt) (lit< tt) ok.0 in
    let r = rex_value Wide bits in
    let low : r % 8 ≡ extension 0 0 rm = rex_low Wide bits fits in
    let digit = (shift_row op).number in
    let tail : List ℕ = modrm 3 digit rm ∷ count ∷ more in
    let lt : count < 64 = ok.1 in
    let few : nat_lt count 64 ≡ true = grind (arith, nat_tests) in
    front_read false Wide bits fits false 0xc1 (record { no_rex = refl; no_size = refl; no_escape = refl }) tail true (two_registers digit rm)
    ∙ shift_way op r tail (modrm_digit 3 digit rm (shift_digit op)) few
    ∙ ap (λ x. Some (Shift op x count)) (rm_is r 3 0 digit 0 rm (lit< tt) (lit< tt) ok.0 low)

-- one register in the opcode
bswap_way : (r : ℕ) (registers : Bool) (opcode : ℕ) (tail : List ℕ) → opcode / 16 ≡ 12 → opcode / 8 ≡ 25 → code_at false r Wide registers true opcode tail ≡ Some (Bswap (opcode_reg r opcode))
unfolding escaped_at bswap_of
bswap_way r registers opcode tail sixteen eight = rw (sixteen, eight) refl

bswap_again : (reg : ℕ) → Guessed (Bswap reg)
bswap_again reg more ok =
    let bits = extension 0 0 reg in
    let fits = extension_fits 0 0 reg (lit< tt) (lit< tt) ok in
    let r = rex_value Wide bits in
    let low : r % 8 ≡ extension 0 0 reg = rex_low Wide bits fits in
    let opcode = 0xc8 + reg % 8 in
    front_read false Wide bits fits true opcode (register_opcode 0xc8 reg (lit≤ tt) (lit< tt) (λ e. omega (arith, e)) refl) more (has_registers more) refl
    ∙ bswap_way r (has_registers more) opcode more (omega arith) (omega arith)
    ∙ ap (λ x. Some (Bswap x)) (low_is r 25 0 0 reg (lit< tt) (lit< tt) ok low)

pub stack_opcode : (op : StackOp) (reg : ℕ) → IsOpcode ((stack_row op).number + reg % 8)
stack_opcode Push reg = register_opcode 0x50 reg (lit≤ tt) (lit< tt) (λ e. omega (arith, e)) refl
stack_opcode Pop reg = register_opcode 0x58 reg (lit≤ tt) (lit< tt) (λ e. omega (arith, e)) refl

stack_base : (op : StackOp) → ((stack_row op).number / 16 ≡ 5) × ((stack_row op).number % 8 ≡ 0)
stack_base Push = (refl, refl)
stack_base Pop = (refl, refl)

stack_reg : (op : StackOp) (r reg : ℕ) → reg < 16 → r % 8 ≡ extension 0 0 reg → opcode_reg r ((stack_row op).number + reg % 8) ≡ reg
stack_reg Push r reg fits low = low_is r 10 0 0 reg (lit< tt) (lit< tt) fits low
stack_reg Pop r reg fits low = low_is r 11 0 0 reg (lit< tt) (lit< tt) fits low

stack_known : (op : StackOp) → stack_by_opcode (stack_row op).number ≡ Some op
unfolding stack_by_opcode
stack_known Push = refl
stack_known _ = refl

stack_way : (op : StackOp) (r : ℕ) (registers : Bool) (opcode : ℕ) (tail : List ℕ) → opcode / 16 ≡ 5 → opcode / 8 * 8 ≡ (stack_row op).number → code_at false r Plain registers false opcode tail ≡ Some (Stack op (opcode_reg r opcode))
unfolding short_at stack_of
stack_way op r registers opcode tail five base = rw (five, base, stack_known op) refl

stack_again : (op : StackOp) (reg : ℕ) → Guessed (Stack op reg)
stack_again op reg more ok =
    let bits = extension 0 0 reg in
    let fits = extension_fits 0 0 reg (lit< tt) (lit< tt) ok in
    let r = rex_value Plain bits in
    let low : r % 8 ≡ extension 0 0 reg = rex_low Plain bits fits in
    let base = (stack_row op).number in
    let opcode = base + reg % 8 in
    let is : (base / 16 ≡ 5) × (base % 8 ≡ 0) = stack_base op in
    ap guess_of (append_assoc (rex Plain bits) (opcode ∷ []) more)
    ∙ front_read false Plain bits fits false opcode (stack_opcode op reg) more (has_registers more) refl
    ∙ stack_way op r (has_registers more) opcode more (omega (arith, is.0, is.1)) (omega (arith, is.0, is.1))
    ∙ ap (λ x. Some (Stack op x)) (stack_reg op r reg ok low)

-- jumps
jump_if_short_way : (cond : Cond) (tail : List ℕ) → guess_of ((0x70 + (cond_row cond).number) ∷ tail) ≡ Some (JumpIfShort cond (short_in tail))
unfolding guess_of sized_of code_of short_at jump_if_short_of cond_by_number
jump_if_short_way Overflow tail = refl
jump_if_short_way _ tail = refl

jump_if_near_way : (cond : Cond) (tail : List ℕ) → guess_of (0x0f ∷ (0x80 + (cond_row cond).number) ∷ tail) ≡ Some (JumpIfNear cond (long_in tail))
unfolding guess_of sized_of code_of escaped_at jump_if_near_of cond_by_number
jump_if_near_way Overflow tail = refl
jump_if_near_way _ tail = refl

jump_short_way : (tail : List ℕ) → guess_of (0xeb ∷ tail) ≡ Some (JumpShort (short_in tail))
unfolding guess_of sized_of code_of short_at jump_short_of
jump_short_way tail = refl

jump_near_way : (op : JumpNearOp) (tail : List ℕ) → guess_of ((jump_near_row op).number ∷ tail) ≡ Some (JumpNear op (long_in tail))
unfolding guess_of sized_of code_of short_at jump_near_of jump_near_by_opcode
jump_near_way Jmp32 tail = refl
jump_near_way _ tail = refl

jump_reg_known : (op : JumpRegOp) → jump_reg_by_digit (jump_reg_row op).number ≡ Some op
unfolding jump_reg_by_digit
jump_reg_known Jmpr = refl
jump_reg_known _ = refl

jump_reg_digit : (op : JumpRegOp) → (jump_reg_row op).number < 8
jump_reg_digit Jmpr = lit< tt
jump_reg_digit _ = lit< tt

jump_reg_way : (op : JumpRegOp) (r : ℕ) (tail : List ℕ) → digit_in tail ≡ (jump_reg_row op).number → code_at false r Plain true false 0xff tail ≡ Some (JumpReg op (rm_in r tail))
unfolding short_at jump_reg_of
jump_reg_way op r tail d = rw (d, jump_reg_known op) refl

jump_reg_again : (op : JumpRegOp) (rm : ℕ) → Guessed (JumpReg op rm)
jump_reg_again op rm more ok =
    let bits = extension 0 0 rm in
    let fits = extension_fits 0 0 rm (lit< tt) (lit< tt) ok in
    let r = rex_value Plain bits in
    let low : r % 8 ≡ extension 0 0 rm = rex_low Plain bits fits in
    let digit = (jump_reg_row op).number in
    let tail : List ℕ = modrm 3 digit rm ∷ more in
    ap guess_of (append_assoc (rex Plain bits) (0xff ∷ modrm 3 digit rm ∷ []) more)
    ∙ front_read false Plain bits fits false 0xff (record { no_rex = refl; no_size = refl; no_escape = refl }) tail true (two_registers digit rm)
    ∙ jump_reg_way op r tail (modrm_digit 3 digit rm (jump_reg_digit op))
    ∙ ap (λ x. Some (JumpReg op x)) (rm_is r 3 0 digit 0 rm (lit< tt) (lit< tt) ok low)

-- a condition in a register
pub set_opcode : (cond : Cond) → IsOpcode (0x90 + (cond_row cond).number)
set_opcode Overflow = record { no_rex = refl; no_size = refl; no_escape = refl }
set_opcode _ = record { no_rex = refl; no_size = refl; no_escape = refl }

set_way : (cond : Cond) (r : ℕ) (tail : List ℕ) → code_at false r Plain true true (0x90 + (cond_row cond).number) tail ≡ Some (Set cond (rm_in r tail))
unfolding escaped_at set_of cond_by_number
set_way Overflow r tail = refl
set_way _ r tail = refl

set_again : (cond : Cond) (rm : ℕ) → Guessed (Set cond rm)
set_again cond rm more ok =
    let bits = extension 0 0 rm in
    let fits = extension_fits 0 0 rm (lit< tt) (lit< tt) ok in
    let r = rex_value Low bits in
    let low : r % 8 ≡ extension 0 0 rm = rex_low Low bits fits in
    let tail : List ℕ = modrm 3 0 rm ∷ more in
    front_read false Low bits fits true (0x90 + (cond_row cond).number) (set_opcode cond) tail true (two_registers 0 rm)
    ∙ set_way cond r tail
    ∙ ap (λ x. Some (Set cond x)) (rm_is r 3 0 0 0 rm (lit< tt) (lit< tt) ok low)

-- no operands
bare_again : (op : BareOp) → Guessed (Bare op)
unfolding guess_of sized_of code_of short_at bare_of bare_by_prefixes
bare_again Cqo more ok = refl
bare_again _ more ok = refl

pub guess_again : (i : Instr) (more : List ℕ) → IsInstr i → guess_of (spelling i ++ more) ≡ Some i
guess_again (RmReg op rm reg) more ok = rm_reg_again op rm reg more ok
guess_again (Imm op rm imm) more ok = imm_again op rm imm more ok
guess_again (RegRm op reg rm) more ok = reg_rm_again op reg rm more ok
guess_again (Load op reg base disp) more ok = load_again op reg base disp more ok
guess_again (Store op base disp reg) more ok = store_again op base disp reg more ok
guess_again (Lea2 reg base index) more ok = lea2_again reg base index more ok
guess_again (Movi32 reg imm) more ok = movi32_again reg imm more ok
guess_again (Movs32 rm imm) more ok = movs32_again rm imm more ok
guess_again (Movi64 reg imm) more ok = movi64_again reg imm more ok
guess_again (Unary op rm) more ok = unary_again op rm more ok
guess_again (Shift op rm count) more ok = shift_again op rm count more ok
guess_again (Bswap reg) more ok = bswap_again reg more ok
guess_again (Stack op reg) more ok = stack_again op reg more ok
guess_again (JumpIfShort cond distance) more ok = jump_if_short_way cond (short_bytes distance ++ more) ∙ ap (λ x. Some (JumpIfShort cond x)) (short_read distance more ok)
guess_again (JumpIfNear cond distance) more ok = jump_if_near_way cond (long_bytes distance ++ more) ∙ ap (λ x. Some (JumpIfNear cond x)) (long_read distance more ok)
guess_again (Set cond rm) more ok = set_again cond rm more ok
guess_again (JumpShort distance) more ok = jump_short_way (short_bytes distance ++ more) ∙ ap (λ x. Some (JumpShort x)) (short_read distance more ok)
guess_again (JumpNear op distance) more ok = jump_near_way op (long_bytes distance ++ more) ∙ ap (λ x. Some (JumpNear op x)) (long_read distance more ok)
guess_again (JumpReg op rm) more ok = jump_reg_again op rm more ok
guess_again (Bare op) more ok = bare_again op more ok
