-- The rows of the table of A64: the name of each, and its word with 0 in the fields of the operands
-- (Arm Architecture Reference Manual, "A64 Base Instruction Descriptions").
use Rattle.std.specs.Prelude.{ℕ, List, [], ◌∷◌, codes}
use Rattle.lg_a64.specs.declared.instruction.RegOp.{RegOp}
use Rattle.lg_a64.specs.declared.instruction.RegOp.TheVariants.{Add, Adds, Sub, Subs, Adc, Adcs, Sbc, Sbcs, And, Orr, Eor, Ands, Orn, Smulh, Umulh, Udiv, Sdiv, Lslv, Lsrv, Asrv}
use Rattle.lg_a64.specs.declared.instruction.ImmOp.{ImmOp}
use Rattle.lg_a64.specs.declared.instruction.ImmOp.TheVariants.{Addi, Addsi, Subi, Subsi}
use Rattle.lg_a64.specs.declared.instruction.WideOp.{WideOp}
use Rattle.lg_a64.specs.declared.instruction.WideOp.TheVariants.{Movz, Movn, Movk}
use Rattle.lg_a64.specs.declared.instruction.MulAddOp.{MulAddOp}
use Rattle.lg_a64.specs.declared.instruction.MulAddOp.TheVariants.{Madd, Msub}
use Rattle.lg_a64.specs.declared.instruction.BitfieldOp.{BitfieldOp}
use Rattle.lg_a64.specs.declared.instruction.BitfieldOp.TheVariants.{Sbfm, Ubfm}
use Rattle.lg_a64.specs.declared.instruction.ReverseOp.{ReverseOp}
use Rattle.lg_a64.specs.declared.instruction.ReverseOp.TheVariants.{Rev, Rev32, Rev16}
use Rattle.lg_a64.specs.declared.instruction.ScaledOp.{ScaledOp}
use Rattle.lg_a64.specs.declared.instruction.ScaledOp.TheVariants.{Ldr64, Str64, Ldr32, Ldrs32, Str32, Ldr16, Ldrs16, Str16, Ldr8, Ldrs8, Str8}
use Rattle.lg_a64.specs.declared.instruction.UnscaledOp.{UnscaledOp}
use Rattle.lg_a64.specs.declared.instruction.UnscaledOp.TheVariants.{Ldur, Stur}
use Rattle.lg_a64.specs.declared.instruction.BranchOp.{BranchOp}
use Rattle.lg_a64.specs.declared.instruction.BranchOp.TheVariants.{B, Bl}
use Rattle.lg_a64.specs.declared.instruction.BranchRegOp.{BranchRegOp}
use Rattle.lg_a64.specs.declared.instruction.BranchRegOp.TheVariants.{Br, Blr, Ret}
use Rattle.lg_a64.specs.declared.instruction.Cond.{Cond}
use Rattle.lg_a64.specs.declared.instruction.Cond.TheVariants.{Eq, Ne, Cs, Cc, Mi, Pl, Vs, Vc, Hi, Ls, Ge, Lt, Gt, Le}

pub record Row : Type 0 where
  pub name : List ℕ
  pub word : ℕ

abbrev pub row : List ℕ → ℕ → Row
row name word = record { name = name; word = word }

-- three registers: rd in bits 0 to 4, rn in 5 to 9, rm in 16 to 20
abbrev pub reg_row : RegOp → Row
reg_row Add = row (codes "add") 0x8b000000
reg_row Adds = row (codes "adds") 0xab000000
reg_row Sub = row (codes "sub") 0xcb000000
reg_row Subs = row (codes "subs") 0xeb000000
reg_row Adc = row (codes "adc") 0x9a000000
reg_row Adcs = row (codes "adcs") 0xba000000
reg_row Sbc = row (codes "sbc") 0xda000000
reg_row Sbcs = row (codes "sbcs") 0xfa000000
reg_row And = row (codes "and") 0x8a000000
reg_row Orr = row (codes "orr") 0xaa000000
reg_row Eor = row (codes "eor") 0xca000000
reg_row Ands = row (codes "ands") 0xea000000
reg_row Orn = row (codes "orn") 0xaa200000
reg_row Smulh = row (codes "smulh") 0x9b407c00
reg_row Umulh = row (codes "umulh") 0x9bc07c00
reg_row Udiv = row (codes "udiv") 0x9ac00800
reg_row Sdiv = row (codes "sdiv") 0x9ac00c00
reg_row Lslv = row (codes "lslv") 0x9ac02000
reg_row Lsrv = row (codes "lsrv") 0x9ac02400
reg_row Asrv = row (codes "asrv") 0x9ac02800

abbrev pub reg_ops : List RegOp
reg_ops = Add ∷ Adds ∷ Sub ∷ Subs ∷ Adc ∷ Adcs ∷ Sbc ∷ Sbcs ∷ And ∷ Orr ∷ Eor ∷ Ands ∷ Orn ∷ Smulh ∷ Umulh ∷ Udiv ∷ Sdiv ∷ Lslv ∷ Lsrv ∷ Asrv ∷ []

-- a number of 12 bits in bits 10 to 21, and whether it counts 4,096 times in bit 22
abbrev pub imm_row : ImmOp → Row
imm_row Addi = row (codes "addi") 0x91000000
imm_row Addsi = row (codes "addsi") 0xb1000000
imm_row Subi = row (codes "subi") 0xd1000000
imm_row Subsi = row (codes "subsi") 0xf1000000

abbrev pub imm_ops : List ImmOp
imm_ops = Addi ∷ Addsi ∷ Subi ∷ Subsi ∷ []

-- a number of 16 bits in bits 5 to 20, and the quarter of the register that it is for in bits 21 and 22
abbrev pub wide_row : WideOp → Row
wide_row Movz = row (codes "movz") 0xd2800000
wide_row Movn = row (codes "movn") 0x92800000
wide_row Movk = row (codes "movk") 0xf2800000

abbrev pub wide_ops : List WideOp
wide_ops = Movz ∷ Movn ∷ Movk ∷ []

-- a fourth register, ra in bits 10 to 14
abbrev pub mul_add_row : MulAddOp → Row
mul_add_row Madd = row (codes "madd") 0x9b000000
mul_add_row Msub = row (codes "msub") 0x9b008000

abbrev pub mul_add_ops : List MulAddOp
mul_add_ops = Madd ∷ Msub ∷ []

-- immr in bits 16 to 21 and imms in bits 10 to 15
abbrev pub bitfield_row : BitfieldOp → Row
bitfield_row Sbfm = row (codes "sbfm") 0x93400000
bitfield_row Ubfm = row (codes "ubfm") 0xd3400000

abbrev pub bitfield_ops : List BitfieldOp
bitfield_ops = Sbfm ∷ Ubfm ∷ []

-- two registers
abbrev pub reverse_row : ReverseOp → Row
reverse_row Rev = row (codes "rev") 0xdac00c00
reverse_row Rev32 = row (codes "rev32") 0xdac00800
reverse_row Rev16 = row (codes "rev16") 0xdac00400

abbrev pub reverse_ops : List ReverseOp
reverse_ops = Rev ∷ Rev32 ∷ Rev16 ∷ []

-- loads and stores with a number of 12 bits in bits 10 to 21, which counts accesses
abbrev pub scaled_row : ScaledOp → Row
scaled_row Ldr64 = row (codes "ldr64") 0xf9400000
scaled_row Str64 = row (codes "str64") 0xf9000000
scaled_row Ldr32 = row (codes "ldr32") 0xb9400000
scaled_row Ldrs32 = row (codes "ldrs32") 0xb9800000
scaled_row Str32 = row (codes "str32") 0xb9000000
scaled_row Ldr16 = row (codes "ldr16") 0x79400000
scaled_row Ldrs16 = row (codes "ldrs16") 0x79800000
scaled_row Str16 = row (codes "str16") 0x79000000
scaled_row Ldr8 = row (codes "ldr8") 0x39400000
scaled_row Ldrs8 = row (codes "ldrs8") 0x39800000
scaled_row Str8 = row (codes "str8") 0x39000000

abbrev pub scaled_ops : List ScaledOp
scaled_ops = Ldr64 ∷ Str64 ∷ Ldr32 ∷ Ldrs32 ∷ Str32 ∷ Ldr16 ∷ Ldrs16 ∷ Str16 ∷ Ldr8 ∷ Ldrs8 ∷ Str8 ∷ []

-- loads and stores with a signed number of 9 bits in bits 12 to 20
abbrev pub unscaled_row : UnscaledOp → Row
unscaled_row Ldur = row (codes "ldur") 0xf8400000
unscaled_row Stur = row (codes "stur") 0xf8000000

abbrev pub unscaled_ops : List UnscaledOp
unscaled_ops = Ldur ∷ Stur ∷ []

-- branches by a signed number of words in bits 0 to 25
abbrev pub branch_row : BranchOp → Row
branch_row B = row (codes "b") 0x14000000
branch_row Bl = row (codes "bl") 0x94000000

abbrev pub branch_ops : List BranchOp
branch_ops = B ∷ Bl ∷ []

-- branches to rn
abbrev pub branch_reg_row : BranchRegOp → Row
branch_reg_row Br = row (codes "br") 0xd61f0000
branch_reg_row Blr = row (codes "blr") 0xd63f0000
branch_reg_row Ret = row (codes "ret") 0xd65f0000

abbrev pub branch_reg_ops : List BranchRegOp
branch_reg_ops = Br ∷ Blr ∷ Ret ∷ []

-- the rows that stand alone: a conditional select, a load from the sum of two registers, a conditional
-- branch, whose name goes on with the condition's, and the no-op
abbrev pub csinc_row : Row
csinc_row = row (codes "csinc") 0x9a800400

abbrev pub ldrx_row : Row
ldrx_row = row (codes "ldrx") 0xf8606800

abbrev pub branch_if_row : Row
branch_if_row = row (codes "b.") 0x54000000

abbrev pub nop_row : Row
nop_row = row (codes "nop") 0xd503201f

-- the conditions: the name and the number of each (Arm Architecture Reference Manual, "Condition code")
abbrev pub cond_row : Cond → Row
cond_row Eq = row (codes "eq") 0
cond_row Ne = row (codes "ne") 1
cond_row Cs = row (codes "cs") 2
cond_row Cc = row (codes "cc") 3
cond_row Mi = row (codes "mi") 4
cond_row Pl = row (codes "pl") 5
cond_row Vs = row (codes "vs") 6
cond_row Vc = row (codes "vc") 7
cond_row Hi = row (codes "hi") 8
cond_row Ls = row (codes "ls") 9
cond_row Ge = row (codes "ge") 10
cond_row Lt = row (codes "lt") 11
cond_row Gt = row (codes "gt") 12
cond_row Le = row (codes "le") 13

abbrev pub conds : List Cond
conds = Eq ∷ Ne ∷ Cs ∷ Cc ∷ Mi ∷ Pl ∷ Vs ∷ Vc ∷ Hi ∷ Ls ∷ Ge ∷ Lt ∷ Gt ∷ Le ∷ []
