-- The code that passes the arguments of a call.
use Rattle.std.specs.Prelude.{ℕ, ◌-◌, ◌*◌, nat_lt, if◌then◌else◌, pos, List, [], ◌∷◌, ◌++◌, slice_index}
use Rattle.lg_base.specs.Conventions.{argument_registers}
use Rattle.lg_base.specs.HostNames.{host_address}
use Rattle.lg_base.specs.declared.target.Target.TheVariants.{X86_64}
use Rattle.lg_op.specs.declared.node.Node.{Node}
use Rattle.lg_op.specs.declared.operand.Operand.{Operand}
use Rattle.lg_op.specs.declared.operand.Operand.TheVariants as operand
use Rattle.lg_x86.specs.declared.instruction.Instr.{Instr}
use Rattle.lg_x86.specs.declared.instruction.Instr.TheVariants as instr
use Rattle.lg_x86.specs.declared.instruction.RmRegOp.TheVariants.{Mov}
use Rattle.lg_x86.specs.declared.instruction.StoreOp.TheVariants.{St64}
use Rattle.lg_temp.specs.Abis.{register_of}
use Rattle.lg_meaning.specs.Steps.{operand_at}
use Rattle.lg_selx_values.specs.Processor.Numbers.{number_row}
use Rattle.lg_selx_values.specs.declared.items.Item.{Item}
use Rattle.lg_selx_values.specs.declared.items.Item.TheVariants.{One, Address}
use Rattle.lg_selx_values.specs.Items.{ones, settled}
use Rattle.lg_carry.specs.Memory.Pushes.{PushCode}
use Rattle.lg_selx_values.specs.Scratch.{again}

-- an operand's word into a register
abbrev pub into : ℕ → Operand → List Item
into rd (operand.Reg r) = One (instr.RmReg Mov rd (register_of X86_64 r)) ∷ []
into rd (operand.Number v) = One (number_row rd v) ∷ []
into rd (operand.Host name) = One (number_row rd (host_address name)) ∷ []
into rd (operand.Label l) = Address rd l.0 ∷ []
into rd (operand.Slot k) = []

-- a register's word into the stack word of argument j of the call, which is the seventh or a later one
abbrev pub stack_push : ℕ → ℕ → Item
stack_push j r = One (instr.Store St64 4 (pos (8 * (j - 6))) r)

-- a word that is in no register goes through FP, which is made again
abbrev pub onto_stack : ℕ → ℕ → Operand → List Item
onto_stack frame j (operand.Reg r) = stack_push j (register_of X86_64 r) ∷ []
onto_stack frame j x = into 5 x ++ stack_push j 5 ∷ ones (again frame)

-- argument j of the call, in a function with a frame of this many bytes
abbrev pub push_items : ℕ → ℕ → Operand → List Item
push_items frame j x = if nat_lt j 6 then into (slice_index (argument_registers X86_64) j) x else onto_stack frame j x

abbrev pub x86_push : PushCode Instr
x86_push frame to from j x = settled to from (push_items frame j x)

abbrev pub push_code : ℕ → ℕ → Node → List Item
push_code frame j n = push_items frame j (operand_at n 0)
