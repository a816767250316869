-- The rows of the table of x86-64: the name of each, and what parts it from the others of its shape
-- (Intel 64 and IA-32 Architectures Software Developer's Manual, volume 2). W says that REX stands with
-- the bit W set.
use Rattle.std.specs.Prelude.{ℕ, Bool, true, false, List, [], ◌∷◌, codes}
use Rattle.lg_x86.specs.declared.rows.Mark.{Mark}
use Rattle.lg_x86.specs.declared.rows.Mark.TheVariants.{Wide, Low, Plain}
use Rattle.lg_x86.specs.declared.instruction.RmRegOp.{RmRegOp}
use Rattle.lg_x86.specs.declared.instruction.RmRegOp.TheVariants.{Add, Or, Adc, Sbb, And, Sub, Xor, Cmp, Test, Mov}
use Rattle.lg_x86.specs.declared.instruction.ImmOp.{ImmOp}
use Rattle.lg_x86.specs.declared.instruction.ImmOp.TheVariants.{Addi, Ori, Adci, Sbbi, Andi, Subi, Xori, Cmpi}
use Rattle.lg_x86.specs.declared.instruction.RegRmOp.{RegRmOp}
use Rattle.lg_x86.specs.declared.instruction.RegRmOp.TheVariants.{Ext32u, Ext32s, Ext8u, Ext16u, Ext8s, Ext16s, Imul}
use Rattle.lg_x86.specs.declared.instruction.LoadOp.{LoadOp}
use Rattle.lg_x86.specs.declared.instruction.LoadOp.TheVariants.{Ld64, Ld32u, Ld32s, Ld8u, Ld16u, Ld8s, Ld16s, Lea}
use Rattle.lg_x86.specs.declared.instruction.StoreOp.{StoreOp}
use Rattle.lg_x86.specs.declared.instruction.StoreOp.TheVariants.{St64, St32, St16, St8}
use Rattle.lg_x86.specs.declared.instruction.UnaryOp.{UnaryOp}
use Rattle.lg_x86.specs.declared.instruction.UnaryOp.TheVariants.{Not, Neg, Mul, Imul1, Div, Idiv, Shl, Shr, Sar}
use Rattle.lg_x86.specs.declared.instruction.ShiftOp.{ShiftOp}
use Rattle.lg_x86.specs.declared.instruction.ShiftOp.TheVariants.{Shli, Shri, Sari}
use Rattle.lg_x86.specs.declared.instruction.StackOp.{StackOp}
use Rattle.lg_x86.specs.declared.instruction.StackOp.TheVariants.{Push, Pop}
use Rattle.lg_x86.specs.declared.instruction.JumpNearOp.{JumpNearOp}
use Rattle.lg_x86.specs.declared.instruction.JumpNearOp.TheVariants.{Jmp32, Call32}
use Rattle.lg_x86.specs.declared.instruction.JumpRegOp.{JumpRegOp}
use Rattle.lg_x86.specs.declared.instruction.JumpRegOp.TheVariants.{Jmpr, Callr}
use Rattle.lg_x86.specs.declared.instruction.BareOp.{BareOp}
use Rattle.lg_x86.specs.declared.instruction.BareOp.TheVariants.{Cqo, Ret, Nop}
use Rattle.lg_x86.specs.declared.instruction.Cond.{Cond}
use Rattle.lg_x86.specs.declared.instruction.Cond.TheVariants.{Overflow, NoOverflow, Below, AboveOrEqual, Equal, NotEqual, BelowOrEqual, Above, Sign, NoSign, Less, GreaterOrEqual, LessOrEqual, Greater}

-- a row of a shape in which one number parts the rows: an opcode, or the digit that is in the field
-- reg of ModRM
pub record Row : Type 0 where
  pub name : List ℕ
  pub number : ℕ

abbrev pub row : List ℕ → ℕ → Row
row name number = record { name = name; number = number }

-- a row of a shape in which the digit goes with the opcode
pub record DigitRow : Type 0 where
  pub name : List ℕ
  pub opcode : ℕ
  pub digit : ℕ

abbrev pub digit_row : List ℕ → ℕ → ℕ → DigitRow
digit_row name opcode digit = record { name = name; opcode = opcode; digit = digit }

-- a row of a shape in which the rows have prefixes of their own: whether the byte 66 is first, when
-- REX stands, whether the byte 0F is before the opcode, and the opcode
pub record PrefixRow : Type 0 where
  pub name : List ℕ
  pub word_sized : Bool
  pub mark : Mark
  pub escaped : Bool
  pub opcode : ℕ

abbrev pub prefix_row : List ℕ → Bool → Mark → Bool → ℕ → PrefixRow
prefix_row name word_sized mark escaped opcode = record { name = name; word_sized = word_sized; mark = mark; escaped = escaped; opcode = opcode }

-- an opcode, by which a second register is combined with the first; W
abbrev pub rm_reg_row : RmRegOp → Row
rm_reg_row Add = row (codes "add") 0x01
rm_reg_row Or = row (codes "or") 0x09
rm_reg_row Adc = row (codes "adc") 0x11
rm_reg_row Sbb = row (codes "sbb") 0x19
rm_reg_row And = row (codes "and") 0x21
rm_reg_row Sub = row (codes "sub") 0x29
rm_reg_row Xor = row (codes "xor") 0x31
rm_reg_row Cmp = row (codes "cmp") 0x39
rm_reg_row Test = row (codes "test") 0x85
rm_reg_row Mov = row (codes "mov") 0x89

abbrev pub rm_reg_ops : List RmRegOp
rm_reg_ops = Add ∷ Or ∷ Adc ∷ Sbb ∷ And ∷ Sub ∷ Xor ∷ Cmp ∷ Test ∷ Mov ∷ []

-- the digit that goes with opcode 83 or 81, by which a number is combined with a register; W
abbrev pub imm_row : ImmOp → Row
imm_row Addi = row (codes "addi") 0
imm_row Ori = row (codes "ori") 1
imm_row Adci = row (codes "adci") 2
imm_row Sbbi = row (codes "sbbi") 3
imm_row Andi = row (codes "andi") 4
imm_row Subi = row (codes "subi") 5
imm_row Xori = row (codes "xori") 6
imm_row Cmpi = row (codes "cmpi") 7

abbrev pub imm_ops : List ImmOp
imm_ops = Addi ∷ Ori ∷ Adci ∷ Sbbi ∷ Andi ∷ Subi ∷ Xori ∷ Cmpi ∷ []

-- a register from another
abbrev pub reg_rm_row : RegRmOp → PrefixRow
reg_rm_row Ext32u = prefix_row (codes "ext32u") false Plain false 0x8b
reg_rm_row Ext32s = prefix_row (codes "ext32s") false Wide false 0x63
reg_rm_row Ext8u = prefix_row (codes "ext8u") false Wide true 0xb6
reg_rm_row Ext16u = prefix_row (codes "ext16u") false Wide true 0xb7
reg_rm_row Ext8s = prefix_row (codes "ext8s") false Wide true 0xbe
reg_rm_row Ext16s = prefix_row (codes "ext16s") false Wide true 0xbf
reg_rm_row Imul = prefix_row (codes "imul") false Wide true 0xaf

abbrev pub reg_rm_ops : List RegRmOp
reg_rm_ops = Ext32u ∷ Ext32s ∷ Ext8u ∷ Ext16u ∷ Ext8s ∷ Ext16s ∷ Imul ∷ []

-- a register from memory, or from an address
abbrev pub load_row : LoadOp → PrefixRow
load_row Ld64 = prefix_row (codes "ld64") false Wide false 0x8b
load_row Ld32u = prefix_row (codes "ld32u") false Plain false 0x8b
load_row Ld32s = prefix_row (codes "ld32s") false Wide false 0x63
load_row Ld8u = prefix_row (codes "ld8u") false Wide true 0xb6
load_row Ld16u = prefix_row (codes "ld16u") false Wide true 0xb7
load_row Ld8s = prefix_row (codes "ld8s") false Wide true 0xbe
load_row Ld16s = prefix_row (codes "ld16s") false Wide true 0xbf
load_row Lea = prefix_row (codes "lea") false Wide false 0x8d

abbrev pub load_ops : List LoadOp
load_ops = Ld64 ∷ Ld32u ∷ Ld32s ∷ Ld8u ∷ Ld16u ∷ Ld8s ∷ Ld16s ∷ Lea ∷ []

-- memory from a register
abbrev pub store_row : StoreOp → PrefixRow
store_row St64 = prefix_row (codes "st64") false Wide false 0x89
store_row St32 = prefix_row (codes "st32") false Plain false 0x89
store_row St16 = prefix_row (codes "st16") true Plain false 0x89
store_row St8 = prefix_row (codes "st8") false Low false 0x88

abbrev pub store_ops : List StoreOp
store_ops = St64 ∷ St32 ∷ St16 ∷ St8 ∷ []

-- one register: the opcode, and the digit that goes with it; W
abbrev pub unary_row : UnaryOp → DigitRow
unary_row Not = digit_row (codes "not") 0xf7 2
unary_row Neg = digit_row (codes "neg") 0xf7 3
unary_row Mul = digit_row (codes "mul") 0xf7 4
unary_row Imul1 = digit_row (codes "imul1") 0xf7 5
unary_row Div = digit_row (codes "div") 0xf7 6
unary_row Idiv = digit_row (codes "idiv") 0xf7 7
unary_row Shl = digit_row (codes "shl") 0xd3 4
unary_row Shr = digit_row (codes "shr") 0xd3 5
unary_row Sar = digit_row (codes "sar") 0xd3 7

abbrev pub unary_ops : List UnaryOp
unary_ops = Not ∷ Neg ∷ Mul ∷ Imul1 ∷ Div ∷ Idiv ∷ Shl ∷ Shr ∷ Sar ∷ []

-- the digit that goes with opcode C1, by which a register is shifted by a number; W
abbrev pub shift_row : ShiftOp → Row
shift_row Shli = row (codes "shli") 4
shift_row Shri = row (codes "shri") 5
shift_row Sari = row (codes "sari") 7

abbrev pub shift_ops : List ShiftOp
shift_ops = Shli ∷ Shri ∷ Sari ∷ []

-- the opcode of the first register
abbrev pub stack_row : StackOp → Row
stack_row Push = row (codes "push") 0x50
stack_row Pop = row (codes "pop") 0x58

abbrev pub stack_ops : List StackOp
stack_ops = Push ∷ Pop ∷ []

-- an opcode, in front of a distance of 32 bits
abbrev pub jump_near_row : JumpNearOp → Row
jump_near_row Jmp32 = row (codes "jmp32") 0xe9
jump_near_row Call32 = row (codes "call32") 0xe8

abbrev pub jump_near_ops : List JumpNearOp
jump_near_ops = Jmp32 ∷ Call32 ∷ []

-- the digit that goes with opcode FF
abbrev pub jump_reg_row : JumpRegOp → Row
jump_reg_row Jmpr = row (codes "jmpr") 4
jump_reg_row Callr = row (codes "callr") 2

abbrev pub jump_reg_ops : List JumpRegOp
jump_reg_ops = Jmpr ∷ Callr ∷ []

-- no operands
abbrev pub bare_row : BareOp → PrefixRow
bare_row Cqo = prefix_row (codes "cqo") false Wide false 0x99
bare_row Ret = prefix_row (codes "ret") false Plain false 0xc3
bare_row Nop = prefix_row (codes "nop") false Plain false 0x90

abbrev pub bare_ops : List BareOp
bare_ops = Cqo ∷ Ret ∷ Nop ∷ []

-- the rows that stand alone: the sum of two registers as an address; numbers to a register, whose opcode is
-- that of the first register, but for movs32, which has digit 0; a register's bytes in reverse order, with the byte 0F
-- in front of the opcode of the first register; and a jump by a distance of 8 bits
abbrev pub lea2_row : Row
lea2_row = row (codes "lea2") 0x8d

abbrev pub movi32_row : Row
movi32_row = row (codes "movi32") 0xb8

abbrev pub movs32_row : Row
movs32_row = row (codes "movs32") 0xc7

abbrev pub movi64_row : Row
movi64_row = row (codes "movi64") 0xb8

abbrev pub bswap_row : Row
bswap_row = row (codes "bswap") 0xc8

abbrev pub jump_short_row : Row
jump_short_row = row (codes "jmp8") 0xeb

-- a row with a condition: what is before and after the condition's letters in the name, and the opcode of
-- condition 0
pub record ConditionRow : Type 0 where
  pub before : List ℕ
  pub behind : List ℕ
  pub opcode : ℕ

abbrev pub condition_row : List ℕ → List ℕ → ℕ → ConditionRow
condition_row before behind opcode = record { before = before; behind = behind; opcode = opcode }

-- jumps by a distance of 8 bits and of 32, and the setting of a register's low byte, which has digit 0; the byte 0F
-- is in front of the opcodes of the last two
abbrev pub jump_if_short_row : ConditionRow
jump_if_short_row = condition_row (codes "j") (codes "8") 0x70

abbrev pub jump_if_near_row : ConditionRow
jump_if_near_row = condition_row (codes "j") (codes "32") 0x80

abbrev pub set_row : ConditionRow
set_row = condition_row (codes "set") (codes "") 0x90

-- the conditions: the letters in names, and the number by which opcodes are raised (volume 1, appendix B)
abbrev pub cond_row : Cond → Row
cond_row Overflow = row (codes "o") 0
cond_row NoOverflow = row (codes "no") 1
cond_row Below = row (codes "b") 2
cond_row AboveOrEqual = row (codes "ae") 3
cond_row Equal = row (codes "e") 4
cond_row NotEqual = row (codes "ne") 5
cond_row BelowOrEqual = row (codes "be") 6
cond_row Above = row (codes "a") 7
cond_row Sign = row (codes "s") 8
cond_row NoSign = row (codes "ns") 9
cond_row Less = row (codes "l") 12
cond_row GreaterOrEqual = row (codes "ge") 13
cond_row LessOrEqual = row (codes "le") 14
cond_row Greater = row (codes "g") 15

abbrev pub conds : List Cond
conds = Overflow ∷ NoOverflow ∷ Below ∷ AboveOrEqual ∷ Equal ∷ NotEqual ∷ BelowOrEqual ∷ Above ∷ Sign ∷ NoSign ∷ Less ∷ GreaterOrEqual ∷ LessOrEqual
    ∷ Greater ∷ []
