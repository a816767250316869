-- The code of the operations that set the carry, CF. Moves and `lea` keep it.
use Rattle.std.specs.Prelude.{ℕ, ◌==◌, if◌then◌else◌, List, [], ◌∷◌}
use Rattle.lg_op.specs.declared.op.BinaryOp.{BinaryOp}
use Rattle.lg_op.specs.declared.op.BinaryOp.TheVariants as binary
use Rattle.lg_x86.specs.declared.instruction.Instr.{Instr}
use Rattle.lg_x86.specs.declared.instruction.Instr.TheVariants.{RmReg}
use Rattle.lg_x86.specs.declared.instruction.RmRegOp.{RmRegOp}
use Rattle.lg_x86.specs.declared.instruction.RmRegOp.TheVariants as alu
use Rattle.lg_x86.specs.declared.instruction.ImmOp.TheVariants as imm
use Rattle.lg_selx_values.specs.Scratch.{again}
use Rattle.lg_selx_values.specs.BinaryCode.{ordered, commuting, with_number}

-- where d is b, in rbp
abbrev pub taken_away : RmRegOp → ℕ → ℕ → ℕ → ℕ → List Instr
taken_away op frame d a b = if d == b then RmReg alu.Mov 5 a ∷ RmReg op 5 b ∷ RmReg alu.Mov d 5 ∷ again frame else ordered op d a b

abbrev pub carry_register_code : BinaryOp → ℕ → ℕ → ℕ → ℕ → List Instr
carry_register_code binary.Addc frame d a b = commuting alu.Add d a b
carry_register_code binary.Addx frame d a b = commuting alu.Adc d a b
carry_register_code binary.Subc frame d a b = taken_away alu.Sub frame d a b
carry_register_code binary.Subx frame d a b = taken_away alu.Sbb frame d a b
carry_register_code o frame d a b = []

abbrev pub carry_number_code : BinaryOp → ℕ → ℕ → ℕ → ℕ → List Instr
carry_number_code binary.Addc frame d a v = with_number imm.Addi alu.Add frame d a v
carry_number_code binary.Addx frame d a v = with_number imm.Adci alu.Adc frame d a v
carry_number_code binary.Subc frame d a v = with_number imm.Subi alu.Sub frame d a v
carry_number_code binary.Subx frame d a v = with_number imm.Sbbi alu.Sbb frame d a v
carry_number_code o frame d a v = []
