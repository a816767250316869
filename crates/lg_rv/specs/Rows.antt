-- The rows of the table of RV64I and M: the name of each, and the fields of its word that are fixed
-- (RISC-V unprivileged ISA, "RV32/64G Instruction Set Listings").
use Rattle.std.specs.Prelude.{ℕ, List, [], ◌∷◌, codes}
use Rattle.lg_rv.specs.declared.instruction.UpperOp.{UpperOp}
use Rattle.lg_rv.specs.declared.instruction.UpperOp.TheVariants.{Lui, Auipc}
use Rattle.lg_rv.specs.declared.instruction.BranchOp.{BranchOp}
use Rattle.lg_rv.specs.declared.instruction.BranchOp.TheVariants.{Beq, Bne, Blt, Bge, Bltu, Bgeu}
use Rattle.lg_rv.specs.declared.instruction.ImmOp.{ImmOp}
use Rattle.lg_rv.specs.declared.instruction.ImmOp.TheVariants.{Jalr, Lb, Lh, Lw, Ld, Lbu, Lhu, Lwu, Addi, Slti, Sltiu, Xori, Ori, Andi, Addiw}
use Rattle.lg_rv.specs.declared.instruction.ShiftOp.{ShiftOp}
use Rattle.lg_rv.specs.declared.instruction.ShiftOp.TheVariants.{Slli, Srli, Srai, Slliw, Srliw, Sraiw}
use Rattle.lg_rv.specs.declared.instruction.StoreOp.{StoreOp}
use Rattle.lg_rv.specs.declared.instruction.StoreOp.TheVariants.{Sb, Sh, Sw, Sd}
use Rattle.lg_rv.specs.declared.instruction.RegOp.{RegOp}
use Rattle.lg_rv.specs.declared.instruction.RegOp.TheVariants.{Add, Sub, Sll, Slt, Sltu, Xor, Srl, Sra, Or, And, Addw, Subw, Sllw, Srlw, Sraw, Mul, Mulh, Mulhsu, Mulhu, Div, Divu, Rem, Remu, Mulw, Divw, Divuw, Remw, Remuw}
use Rattle.lg_rv.specs.declared.rows.Fixed.{Fixed}

-- a row: its name, and opcode, funct3 and the highest fixed field (funct7; of a shift by a number funct6),
-- where a row that fixes none of the last two has 0
pub record Row : Type 0 where
  pub name : List ℕ
  pub fixed : Fixed

abbrev pub row : List ℕ → ℕ → ℕ → ℕ → Row
row name opcode funct3 high = record { name = name; fixed = record { opcode = opcode; funct3 = funct3; high = high } }

-- a number of 20 bits, bits 12 to 31 of the word
abbrev pub upper_row : UpperOp → Row
upper_row Lui = row (codes "lui") 0x37 0 0
upper_row Auipc = row (codes "auipc") 0x17 0 0

abbrev pub upper_ops : List UpperOp
upper_ops = Lui ∷ Auipc ∷ []

-- branches
abbrev pub branch_row : BranchOp → Row
branch_row Beq = row (codes "beq") 0x63 0 0
branch_row Bne = row (codes "bne") 0x63 1 0
branch_row Blt = row (codes "blt") 0x63 4 0
branch_row Bge = row (codes "bge") 0x63 5 0
branch_row Bltu = row (codes "bltu") 0x63 6 0
branch_row Bgeu = row (codes "bgeu") 0x63 7 0

abbrev pub branch_ops : List BranchOp
branch_ops = Beq ∷ Bne ∷ Blt ∷ Bge ∷ Bltu ∷ Bgeu ∷ []

-- a signed number of 12 bits in bits 20 to 31: jalr, loads, arithmetic
abbrev pub imm_row : ImmOp → Row
imm_row Jalr = row (codes "jalr") 0x67 0 0
imm_row Lb = row (codes "lb") 0x03 0 0
imm_row Lh = row (codes "lh") 0x03 1 0
imm_row Lw = row (codes "lw") 0x03 2 0
imm_row Ld = row (codes "ld") 0x03 3 0
imm_row Lbu = row (codes "lbu") 0x03 4 0
imm_row Lhu = row (codes "lhu") 0x03 5 0
imm_row Lwu = row (codes "lwu") 0x03 6 0
imm_row Addi = row (codes "addi") 0x13 0 0
imm_row Slti = row (codes "slti") 0x13 2 0
imm_row Sltiu = row (codes "sltiu") 0x13 3 0
imm_row Xori = row (codes "xori") 0x13 4 0
imm_row Ori = row (codes "ori") 0x13 6 0
imm_row Andi = row (codes "andi") 0x13 7 0
imm_row Addiw = row (codes "addiw") 0x1b 0 0

abbrev pub imm_ops : List ImmOp
imm_ops = Jalr ∷ Lb ∷ Lh ∷ Lw ∷ Ld ∷ Lbu ∷ Lhu ∷ Lwu ∷ Addi ∷ Slti ∷ Sltiu ∷ Xori ∷ Ori ∷ Andi ∷ Addiw ∷ []

-- shifts by a number: 6 bits from bit 20, funct6 above
abbrev pub shift_row : ShiftOp → Row
shift_row Slli = row (codes "slli") 0x13 1 0
shift_row Srli = row (codes "srli") 0x13 5 0
shift_row Srai = row (codes "srai") 0x13 5 16
shift_row Slliw = row (codes "slliw") 0x1b 1 0
shift_row Srliw = row (codes "srliw") 0x1b 5 0
shift_row Sraiw = row (codes "sraiw") 0x1b 5 16

abbrev pub shift_ops : List ShiftOp
shift_ops = Slli ∷ Srli ∷ Srai ∷ Slliw ∷ Srliw ∷ Sraiw ∷ []

-- stores
abbrev pub store_row : StoreOp → Row
store_row Sb = row (codes "sb") 0x23 0 0
store_row Sh = row (codes "sh") 0x23 1 0
store_row Sw = row (codes "sw") 0x23 2 0
store_row Sd = row (codes "sd") 0x23 3 0

abbrev pub store_ops : List StoreOp
store_ops = Sb ∷ Sh ∷ Sw ∷ Sd ∷ []

-- two registers: funct7 from bit 25
abbrev pub reg_row : RegOp → Row
reg_row Add = row (codes "add") 0x33 0 0
reg_row Sub = row (codes "sub") 0x33 0 32
reg_row Sll = row (codes "sll") 0x33 1 0
reg_row Slt = row (codes "slt") 0x33 2 0
reg_row Sltu = row (codes "sltu") 0x33 3 0
reg_row Xor = row (codes "xor") 0x33 4 0
reg_row Srl = row (codes "srl") 0x33 5 0
reg_row Sra = row (codes "sra") 0x33 5 32
reg_row Or = row (codes "or") 0x33 6 0
reg_row And = row (codes "and") 0x33 7 0
reg_row Addw = row (codes "addw") 0x3b 0 0
reg_row Subw = row (codes "subw") 0x3b 0 32
reg_row Sllw = row (codes "sllw") 0x3b 1 0
reg_row Srlw = row (codes "srlw") 0x3b 5 0
reg_row Sraw = row (codes "sraw") 0x3b 5 32
reg_row Mul = row (codes "mul") 0x33 0 1
reg_row Mulh = row (codes "mulh") 0x33 1 1
reg_row Mulhsu = row (codes "mulhsu") 0x33 2 1
reg_row Mulhu = row (codes "mulhu") 0x33 3 1
reg_row Div = row (codes "div") 0x33 4 1
reg_row Divu = row (codes "divu") 0x33 5 1
reg_row Rem = row (codes "rem") 0x33 6 1
reg_row Remu = row (codes "remu") 0x33 7 1
reg_row Mulw = row (codes "mulw") 0x3b 0 1
reg_row Divw = row (codes "divw") 0x3b 4 1
reg_row Divuw = row (codes "divuw") 0x3b 5 1
reg_row Remw = row (codes "remw") 0x3b 6 1
reg_row Remuw = row (codes "remuw") 0x3b 7 1

abbrev pub reg_ops : List RegOp
reg_ops = Add ∷ Sub ∷ Sll ∷ Slt ∷ Sltu ∷ Xor ∷ Srl ∷ Sra ∷ Or ∷ And ∷ Addw ∷ Subw ∷ Sllw ∷ Srlw ∷ Sraw ∷ Mul ∷ Mulh ∷ Mulhsu ∷ Mulhu ∷ Div ∷ Divu
    ∷ Rem ∷ Remu ∷ Mulw ∷ Divw ∷ Divuw ∷ Remw ∷ Remuw ∷ []

-- the one row with a jump's offset
abbrev pub jal_row : Row
jal_row = row (codes "jal") 0x6f 0 0
