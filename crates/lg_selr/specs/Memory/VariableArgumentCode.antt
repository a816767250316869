-- The code that reads the next variable argument of the function.
use Rattle.std.specs.Prelude.{ℕ, pos, negsuc, List, [], ◌∷◌, ◌++◌}
use Rattle.lg_base.specs.declared.target.Target.TheVariants.{Riscv64}
use Rattle.lg_op.specs.declared.node.Node.{Node}
use Rattle.lg_rv.specs.declared.instruction.Instr.{Instr}
use Rattle.lg_rv.specs.declared.instruction.Instr.TheVariants as instr
use Rattle.lg_rv.specs.declared.instruction.ImmOp.TheVariants as imm
use Rattle.lg_rv.specs.declared.instruction.RegOp.TheVariants as reg
use Rattle.lg_rv.specs.declared.instruction.ShiftOp.TheVariants as shift
use Rattle.lg_temp.specs.Abis.{register_of}
use Rattle.lg_carry.specs.Memory.VariableArguments.{NextArgumentCode, next_argument_of}
use Rattle.lg_selr.specs.Memory.Accesses.{link}

-- d = FP and t * (k - 1) bytes, where s holds the number k and the link gets t: -8 below 8, and else 8. So the argument is 40 bytes below, whether in
-- its home, 32 + 8 * k bytes below FP, or in the caller's stack words, which begin 16 bytes above FP
abbrev pub next_place_code : ℕ → ℕ → List Instr
next_place_code d s =
    instr.Imm imm.Andi link s (pos 8) ∷ instr.Shift shift.Slli link link 1 ∷ instr.Imm imm.Addi link link (negsuc 7)
    ∷ instr.Imm imm.Addi d s (negsuc 0) ∷ instr.Reg reg.Mul d d link ∷ instr.Reg reg.Add d d 8 ∷ []

-- d = the argument from there, and s = the next number
abbrev pub next_argument_instrs : ℕ → ℕ → List Instr
next_argument_instrs d s = next_place_code d s ++ instr.Imm imm.Ld d d (negsuc 39) ∷ instr.Imm imm.Addi s s (pos 1) ∷ []

abbrev pub rv_next_argument : NextArgumentCode Instr
rv_next_argument d s = next_argument_instrs (register_of Riscv64 d) (register_of Riscv64 s)

abbrev pub next_argument_code : Node → List Instr
next_argument_code n = next_argument_of rv_next_argument n
