-- `jmpr`, `callr` and `finishr`: a jump to the word of a register, and a call of it by way of r11, 11.
use Rattle.std.specs.Prelude.{ℕ, List, [], ◌∷◌}
use Rattle.lg_base.specs.declared.target.Target.TheVariants.{X86_64}
use Rattle.lg_op.specs.declared.operand.Reg.{Reg}
use Rattle.lg_x86.specs.declared.instruction.Instr.{Instr}
use Rattle.lg_x86.specs.declared.instruction.Instr.TheVariants as instr
use Rattle.lg_x86.specs.declared.instruction.JumpRegOp.TheVariants.{Jmpr, Callr}
use Rattle.lg_x86.specs.declared.instruction.RmRegOp.TheVariants.{Mov}
use Rattle.lg_temp.specs.Abis.{register_of}

-- the size of the frame does not matter
abbrev pub register_jump_code : ℕ → Reg → List Instr
register_jump_code frame a = instr.JumpReg Jmpr (register_of X86_64 a) ∷ []

-- a call of r11, after al = 0: a host function may read there how many vector registers hold arguments. r11 and rax correspond to R2 and R0, which no call
-- keeps
abbrev pub called : List Instr
called = instr.Movi32 0 0 ∷ instr.JumpReg Callr 11 ∷ []

abbrev pub register_call_code : ℕ → Reg → List Instr
register_call_code frame a = instr.RmReg Mov 11 (register_of X86_64 a) ∷ called
