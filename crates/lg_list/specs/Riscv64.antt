-- The text of RV64IM instructions.
use Rattle.std.specs.Prelude.{ℕ, ◌+◌, ◌%◌, ◌^◌, ℤ, Bool, true, false, if◌then◌else◌, List, [], ◌∷◌}
use Rattle.std.specs.Int.{w32, cast_unsigned}
use Rattle.lg_rv.specs.declared.instruction.Instr.{Instr}
use Rattle.lg_rv.specs.declared.instruction.Instr.TheVariants.{Upper, Jal, Branch, Imm, Shift, Store, Reg}
use Rattle.lg_rv.specs.declared.instruction.ImmOp.{ImmOp}
use Rattle.lg_rv.specs.declared.instruction.ImmOp.TheVariants as imm
use Rattle.lg_rv.specs.Spelling.{row_of}
use Rattle.lg_list.specs.declared.operand.Register.TheVariants as registers
use Rattle.lg_list.specs.declared.operand.Operand.{Operand}
use Rattle.lg_list.specs.declared.operand.Operand.TheVariants as operand
use Rattle.lg_list.specs.Operands.{text}

abbrev pub register : ℕ → Operand
register n = operand.Register (registers.X n)

abbrev pub memory : ℕ → ℤ → Operand
memory base disp = operand.Memory (registers.X base) disp

-- the address that lies so far from an address
unfoldable pub target : ℕ → ℤ → Operand
target at offset = operand.Target ((at + cast_unsigned w32 offset) % 2 ^ 32)

-- the number is a displacement from the register: jalr and loads
abbrev pub is_access : ImmOp → Bool
is_access imm.Jalr = true
is_access imm.Lb = true
is_access imm.Lh = true
is_access imm.Lw = true
is_access imm.Ld = true
is_access imm.Lbu = true
is_access imm.Lhu = true
is_access imm.Lwu = true
is_access op = false

abbrev pub imm_operands : ImmOp → ℕ → ℕ → ℤ → List Operand
imm_operands op rd rs1 n = if is_access op then (register rd ∷ memory rs1 n ∷ []) else (register rd ∷ register rs1 ∷ operand.Signed n ∷ [])

abbrev pub operands : ℕ → Instr → List Operand
operands at (Upper op rd n) = register rd ∷ operand.Unsigned n ∷ []
operands at (Jal rd offset) = register rd ∷ target at offset ∷ []
operands at (Branch op rs1 rs2 offset) = register rs1 ∷ register rs2 ∷ target at offset ∷ []
operands at (Imm op rd rs1 n) = imm_operands op rd rs1 n
operands at (Shift op rd rs1 amount) = register rd ∷ register rs1 ∷ operand.Unsigned amount ∷ []
operands at (Store op rs1 rs2 n) = register rs2 ∷ memory rs1 n ∷ []
operands at (Reg op rd rs1 rs2) = register rd ∷ register rs1 ∷ register rs2 ∷ []

abbrev pub text_of : ℕ → Instr → List ℕ
text_of at i = text (row_of i).name (operands at i)
