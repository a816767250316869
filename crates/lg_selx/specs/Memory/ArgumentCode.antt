-- The code that reads an argument of the function.
use Rattle.std.specs.Prelude.{ℕ, ◌+◌, ◌-◌, ◌*◌, nat_lt, if◌then◌else◌, ℤ, pos, negsuc, List, [], ◌∷◌}
use Rattle.lg_base.specs.declared.target.Target.TheVariants.{X86_64}
use Rattle.lg_op.specs.declared.node.Node.{Node}
use Rattle.lg_op.specs.declared.op.ValueType.{ValueType}
use Rattle.lg_x86.specs.declared.instruction.Instr.{Instr}
use Rattle.lg_x86.specs.declared.instruction.Instr.TheVariants as instr
use Rattle.lg_temp.specs.Abis.{register_of}
use Rattle.lg_carry.specs.Memory.Arguments.{ArgumentCode, argument_of}
use Rattle.lg_selx.specs.Memory.Accesses.{load_row}

-- where argument k of the function is from FP: in its home, 32 bytes and k words below, or in the caller's stack words, 16 bytes above FP
abbrev pub argument_offset : ℕ → ℤ
argument_offset k = if nat_lt k 6 then negsuc (31 + 8 * k) else pos (16 + 8 * (k - 6))

-- argument k of the function into a register
abbrev pub argument_load : ValueType → ℕ → ℕ → List Instr
argument_load t rd k = instr.Load (load_row t) rd 5 (argument_offset k) ∷ []

abbrev pub x86_argument : ArgumentCode Instr
x86_argument frame t d k = argument_load t (register_of X86_64 d) k

-- a function has no more than 16; the size of its frame does not count
abbrev pub argument_code : ℕ → ValueType → Node → List Instr
argument_code frame t n = argument_of x86_argument frame t n
