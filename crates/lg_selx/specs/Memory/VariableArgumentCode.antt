-- The code that reads the next variable argument of the function.
use Rattle.std.specs.Prelude.{ℕ, pos, negsuc, List, [], ◌∷◌}
use Rattle.lg_base.specs.declared.target.Target.TheVariants.{X86_64}
use Rattle.lg_op.specs.declared.node.Node.{Node}
use Rattle.lg_x86.specs.declared.instruction.Instr.{Instr}
use Rattle.lg_x86.specs.declared.instruction.Instr.TheVariants as instr
use Rattle.lg_x86.specs.declared.instruction.ImmOp.TheVariants.{Addi, Ori}
use Rattle.lg_x86.specs.declared.instruction.LoadOp.TheVariants.{Lea, Ld64}
use Rattle.lg_x86.specs.declared.instruction.RegRmOp.TheVariants.{Imul}
use Rattle.lg_x86.specs.declared.instruction.RmRegOp.TheVariants.{Add}
use Rattle.lg_x86.specs.declared.instruction.ShiftOp.TheVariants.{Shli, Sari}
use Rattle.lg_temp.specs.Abis.{register_of}
use Rattle.lg_carry.specs.Memory.VariableArguments.{NextArgumentCode, next_argument_of}

-- argument k, whose number is in rs, stands k words below the address that is 32 bytes below FP, 5, where k is below 6, and else k words above it: rd gets -1
-- or 1, the product with k, and the word that is this many words from there; rs gets the next number
abbrev pub next_code : ℕ → ℕ → List Instr
next_code rd rs =
    instr.Load Lea rd rs (negsuc 5) ∷ instr.Shift Sari rd 63 ∷ instr.Imm Ori rd (pos 1) ∷ instr.RegRm Imul rd rs ∷ instr.Shift Shli rd 3
    ∷ instr.RmReg Add rd 5 ∷ instr.Load Ld64 rd rd (negsuc 31) ∷ instr.Imm Addi rs (pos 1) ∷ []

abbrev pub x86_next_argument : NextArgumentCode Instr
x86_next_argument d s = next_code (register_of X86_64 d) (register_of X86_64 s)

-- that of a node
abbrev pub next_argument_code : Node → List Instr
next_argument_code n = next_argument_of x86_next_argument n
