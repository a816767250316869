-- The code that reads an argument of the function.
use Rattle.std.specs.Prelude.{ℕ, ◌+◌, ◌-◌, ◌*◌, ◌/◌, nat_lt, false, if◌then◌else◌, negsuc, List, [], ◌∷◌}
use Rattle.lg_base.specs.declared.target.Target.TheVariants.{Aarch64}
use Rattle.lg_op.specs.declared.node.Node.{Node}
use Rattle.lg_op.specs.declared.op.ValueType.{ValueType}
use Rattle.lg_op.specs.declared.op.ValueType.TheVariants as value_type
use Rattle.lg_a64.specs.declared.instruction.Instr.{Instr}
use Rattle.lg_a64.specs.declared.instruction.Instr.TheVariants as instr
use Rattle.lg_a64.specs.declared.instruction.ImmOp.TheVariants.{Subi}
use Rattle.lg_a64.specs.declared.instruction.UnscaledOp.TheVariants.{Ldur}
use Rattle.lg_op.specs.Operators.{width}
use Rattle.lg_temp.specs.Abis.{register_of}
use Rattle.lg_sela_values.specs.Processor.A64Rows.{frame_pointer, link}
use Rattle.lg_carry.specs.Memory.Arguments.{ArgumentCode, argument_of}
use Rattle.lg_sela.specs.Memory.Accesses.{load_row}

-- how far below FP the home of argument k stands
abbrev pub home_distance : ℕ → ℕ
home_distance k = 32 + 8 * k

-- how many accesses above FP argument k is in the caller's stack words: FP stands 16 bytes below these
abbrev pub stack_count : ValueType → ℕ → ℕ
stack_count t k = (16 + 8 * (k - 8)) / width t

-- argument k of the function from its home: a word by the row that counts bytes, what is narrower by way of the link
abbrev pub home_load : ValueType → ℕ → ℕ → List Instr
home_load value_type.Long rd k = instr.Unscaled Ldur rd frame_pointer (negsuc (home_distance k - 1)) ∷ []
home_load t rd k = instr.Imm Subi link frame_pointer (home_distance k) false ∷ instr.Scaled (load_row t) rd link 0 ∷ []

-- argument k of the function into a register: from its home, or from the caller's stack words
abbrev pub argument_load : ValueType → ℕ → ℕ → List Instr
argument_load t rd k =
    if nat_lt k 8 then home_load t rd k
    else instr.Scaled (load_row t) rd frame_pointer (stack_count t k) ∷ []

abbrev pub a64_argument : ArgumentCode Instr
a64_argument frame t d k = argument_load t (register_of Aarch64 d) k

-- a function has no more than 16
abbrev pub argument_code : ValueType → Node → List Instr
argument_code t n = argument_of a64_argument 0 t n
