-- The code that reads an argument of the function.
use Rattle.std.specs.Prelude.{ℕ, ◌+◌, ◌-◌, ◌*◌, nat_lt, if◌then◌else◌, ℤ, pos, negsuc, List, [], ◌∷◌}
use Rattle.lg_base.specs.declared.target.Target.TheVariants.{Riscv64}
use Rattle.lg_op.specs.declared.node.Node.{Node}
use Rattle.lg_op.specs.declared.op.ValueType.{ValueType}
use Rattle.lg_rv.specs.declared.instruction.Instr.{Instr}
use Rattle.lg_rv.specs.declared.instruction.Instr.TheVariants as instr
use Rattle.lg_temp.specs.Abis.{register_of}
use Rattle.lg_carry.specs.Memory.Arguments.{ArgumentCode, argument_of}
use Rattle.lg_selr.specs.Memory.Accesses.{load_row}

-- argument k of the function from its home, or from the caller's stack words: FP stands 16 bytes below these
abbrev pub argument_offset : ℕ → ℤ
argument_offset k = if nat_lt k 8 then negsuc (31 + 8 * k) else pos (16 + 8 * (k - 8))

abbrev pub rv_argument : ArgumentCode Instr
rv_argument frame t d k = instr.Imm (load_row t) (register_of Riscv64 d) 8 (argument_offset k) ∷ []

-- a function has no more than 16
abbrev pub argument_code : ValueType → Node → List Instr
argument_code t n = argument_of rv_argument 0 t n
