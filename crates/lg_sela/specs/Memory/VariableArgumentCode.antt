-- The code that reads the next variable argument of the function.
use Rattle.std.specs.Prelude.{ℕ, false, ℤ, negsuc, List, [], ◌∷◌, ◌++◌}
use Rattle.lg_base.specs.declared.target.Target.TheVariants.{Aarch64}
use Rattle.lg_op.specs.declared.node.Node.{Node}
use Rattle.lg_a64.specs.declared.instruction.Instr.{Instr}
use Rattle.lg_a64.specs.declared.instruction.Instr.TheVariants.{Imm, MulAdd, Bitfield, Unscaled}
use Rattle.lg_a64.specs.declared.instruction.BitfieldOp.TheVariants.{Sbfm, Ubfm}
use Rattle.lg_a64.specs.declared.instruction.ImmOp.TheVariants.{Addi, Subi}
use Rattle.lg_a64.specs.declared.instruction.MulAddOp.TheVariants.{Msub}
use Rattle.lg_a64.specs.declared.instruction.UnscaledOp.TheVariants.{Ldur}
use Rattle.lg_temp.specs.Abis.{register_of}
use Rattle.lg_sela_values.specs.Processor.A64Rows.{frame_pointer, link}
use Rattle.lg_carry.specs.Memory.VariableArguments.{NextArgumentCode, next_argument_of}

-- the link gets 8, or -8 where the number in register s, below 16, is 8 or more: the homes of arguments go down from FP, and their stack words up
abbrev pub direction_code : ℕ → List Instr
direction_code s = Bitfield Sbfm link s 3 3 ∷ Bitfield Ubfm link link 60 59 ∷ Imm Addi link link 8 false ∷ []

-- register d gets an address by argument k, where register s holds k and the link these bytes: k - 1 times the bytes below FP
abbrev pub address_code : ℕ → ℕ → List Instr
address_code d s = Imm Subi d s 1 false ∷ MulAdd Msub d d link frame_pointer ∷ []

-- where the argument is from that address, in bytes
abbrev pub argument_offset : ℤ
argument_offset = negsuc 39

-- argument s of the function into register d, and the next number into s
abbrev pub next_argument_load : ℕ → ℕ → List Instr
next_argument_load d s = direction_code s ++ (address_code d s ++ (Imm Addi s s 1 false ∷ Unscaled Ldur d d argument_offset ∷ []))

abbrev pub a64_next_argument : NextArgumentCode Instr
a64_next_argument d s = next_argument_load (register_of Aarch64 d) (register_of Aarch64 s)

abbrev pub next_argument_code : Node → List Instr
next_argument_code n = next_argument_of a64_next_argument n
