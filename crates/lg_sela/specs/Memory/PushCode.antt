-- The code that passes the arguments of a call.
use Rattle.std.specs.Prelude.{ℕ, ◌-◌, nat_lt, if◌then◌else◌, List, [], ◌∷◌, ◌++◌, slice_index}
use Rattle.lg_base.specs.Conventions.{argument_registers}
use Rattle.lg_base.specs.HostNames.{host_address}
use Rattle.lg_base.specs.declared.target.Target.TheVariants.{Aarch64}
use Rattle.lg_op.specs.declared.node.Node.{Node}
use Rattle.lg_op.specs.declared.operand.Operand.{Operand}
use Rattle.lg_op.specs.declared.operand.Operand.TheVariants as operand
use Rattle.lg_a64.specs.declared.instruction.Instr.{Instr}
use Rattle.lg_a64.specs.declared.instruction.Instr.TheVariants as instr
use Rattle.lg_a64.specs.declared.instruction.RegOp.TheVariants.{Orr}
use Rattle.lg_a64.specs.declared.instruction.ScaledOp.TheVariants.{Str64}
use Rattle.lg_temp.specs.Abis.{register_of}
use Rattle.lg_meaning.specs.Steps.{operand_at}
use Rattle.lg_sela_values.specs.Processor.A64Rows.{link, stack_pointer, zero_register}
use Rattle.lg_sela_values.specs.Processor.Numbers.{number_code}
use Rattle.lg_sela_values.specs.declared.items.Item.{Item}
use Rattle.lg_sela_values.specs.declared.items.Item.TheVariants.{One, Address}
use Rattle.lg_sela_values.specs.Items.{ones, settled}
use Rattle.lg_carry.specs.Memory.Pushes.{PushCode}

-- an operand's word into a register
abbrev pub into : ℕ → Operand → List Item
into rd (operand.Reg r) = One (instr.Reg Orr rd zero_register (register_of Aarch64 r)) ∷ []
into rd (operand.Number v) = ones (number_code rd v)
into rd (operand.Host name) = ones (number_code rd (host_address name))
into rd (operand.Label l) = Address rd l.0 ∷ []
into rd (operand.Slot k) = []

-- a register's word into the stack word of argument j of the call, which is the ninth or a later one
abbrev pub stack_push : ℕ → ℕ → Item
stack_push j r = One (instr.Scaled Str64 r stack_pointer (j - 8))

abbrev pub onto_stack : ℕ → Operand → List Item
onto_stack j (operand.Reg r) = stack_push j (register_of Aarch64 r) ∷ []
onto_stack j x = into link x ++ stack_push j link ∷ []

-- argument j of the call
abbrev pub push_items : ℕ → Operand → List Item
push_items j x = if nat_lt j 8 then into (slice_index (argument_registers Aarch64) j) x else onto_stack j x

abbrev pub a64_push : PushCode Instr
a64_push frame to from j x = settled to from (push_items j x)

abbrev pub push_code : ℕ → Node → List Item
push_code j n = push_items j (operand_at n 0)
