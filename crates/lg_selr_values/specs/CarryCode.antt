-- The code of the operations that set the carry, which is 0 or 1 in its register, 31.
use Rattle.std.specs.Prelude.{ℕ, pos, List, [], ◌∷◌, ◌++◌}
use Rattle.lg_op.specs.declared.op.BinaryOp.{BinaryOp}
use Rattle.lg_op.specs.declared.op.BinaryOp.TheVariants as binary
use Rattle.lg_rv.specs.declared.instruction.Instr.{Instr}
use Rattle.lg_rv.specs.declared.instruction.Instr.TheVariants.{Imm, Reg}
use Rattle.lg_rv.specs.declared.instruction.ImmOp.TheVariants.{Addi}
use Rattle.lg_rv.specs.declared.instruction.RegOp.TheVariants as row
use Rattle.lg_selr_values.specs.Processor.Numbers.{number_code}

-- d = a op the word in the link; u is a temporary, which `addx` and `subx` need
abbrev pub carry_code : BinaryOp → ℕ → ℕ → ℕ → List Instr
carry_code binary.Addc u d a = Reg row.Add d a 1 ∷ Reg row.Sltu 31 d 1 ∷ []
carry_code binary.Subc u d a = Reg row.Sltu 31 a 1 ∷ Reg row.Sub d a 1 ∷ []
carry_code binary.Addx u d a = Reg row.Add u a 1 ∷ Reg row.Sltu 1 u 1 ∷ Reg row.Add d u 31 ∷ Reg row.Sltu 31 d 31 ∷ Reg row.Or 31 31 1 ∷ []
carry_code binary.Subx u d a = Reg row.Sltu u a 1 ∷ Reg row.Sub 1 a 1 ∷ Reg row.Sub d 1 31 ∷ Reg row.Sltu 31 1 31 ∷ Reg row.Or 31 31 u ∷ []
carry_code o u d a = []

-- d = a op b
abbrev pub carry_register_code : BinaryOp → ℕ → ℕ → ℕ → ℕ → List Instr
carry_register_code o u d a b = Imm Addi 1 b (pos 0) ∷ carry_code o u d a

-- d = a op v
abbrev pub carry_number_code : BinaryOp → ℕ → ℕ → ℕ → ℕ → List Instr
carry_number_code o u d a v = number_code 1 v ++ carry_code o u d a
