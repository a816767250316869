-- The items of the nodes that compute values.
use Rattle.std.specs.Prelude.{ℕ, pos, List, [], ◌∷◌, ◌++◌, if◌then◌else◌}
use Rattle.lg_base.specs.HostNames.{host_address}
use Rattle.lg_base.specs.declared.target.Target.TheVariants.{Riscv64}
use Rattle.lg_op.specs.declared.op.Op.{Op}
use Rattle.lg_op.specs.declared.op.Op.TheVariants as op
use Rattle.lg_op.specs.declared.op.BinaryOp.{BinaryOp}
use Rattle.lg_op.specs.declared.op.BinaryOp.TheVariants as binary
use Rattle.lg_op.specs.declared.op.WideOp.{WideOp}
use Rattle.lg_op.specs.declared.op.PlainOp.TheVariants as plain
use Rattle.lg_op.specs.declared.node.Node.{Node}
use Rattle.lg_op.specs.declared.operand.Operand.{Operand}
use Rattle.lg_op.specs.declared.operand.Operand.TheVariants as operand
use Rattle.lg_op.specs.Operators.{sets_carry}
use Rattle.lg_rv.specs.declared.instruction.Instr.TheVariants.{Imm, Store}
use Rattle.lg_rv.specs.declared.instruction.ImmOp.TheVariants.{Addi, Ld}
use Rattle.lg_rv.specs.declared.instruction.StoreOp.TheVariants.{Sd}
use Rattle.lg_temp.specs.declared.choice.Need.{Need}
use Rattle.lg_temp.specs.declared.choice.Need.TheVariants.{Any}
use Rattle.lg_temp.specs.declared.choice.Choice.{Choice}
use Rattle.lg_temp.specs.declared.choice.Choice.TheVariants.{Free, Own, Spill}
use Rattle.lg_temp.specs.Abis.{register_of}
use Rattle.lg_selr_values.specs.Processor.Numbers.{number_code}
use Rattle.lg_selr_values.specs.Processor.RvRows.{slot_offset}
use Rattle.lg_carry.specs.Values.Parts.{operand_in, register_for, first_taken}
use Rattle.lg_selr_values.specs.declared.items.Item.{Item}
use Rattle.lg_selr_values.specs.declared.items.Item.TheVariants.{One, Address}
use Rattle.lg_selr_values.specs.Items.{ones}
use Rattle.lg_selr_values.specs.BinaryCode.{register_code, number_form_code}
use Rattle.lg_selr_values.specs.CarryCode.{carry_code}
use Rattle.lg_selr_values.specs.UnaryCode.{unary_code, retval_code}
use Rattle.lg_selr_values.specs.WideCode.{wide_code}

-- `addx` and `subx` need a temporary
abbrev pub value_needs : Op → List Need
value_needs (op.Binary binary.Addx last) = Any ∷ []
value_needs (op.Binary binary.Subx last) = Any ∷ []
value_needs o = []

-- the word of an immediate, into register t
abbrev pub load_items : ℕ → Operand → List Item
load_items t (operand.Number v) = ones (number_code t v)
load_items t (operand.Host name) = ones (number_code t (host_address name))
load_items t (operand.Label l) = Address t l.0 ∷ []
load_items t x = []

-- d = a op x
abbrev pub binary_items : BinaryOp → ℕ → ℕ → Operand → List Item
binary_items o d a (operand.Reg b) = ones (register_code o d a (register_of Riscv64 b))
binary_items o d a (operand.Number v) = ones (number_form_code o d a v)
binary_items o d a x = load_items 1 x ++ ones (register_code o d a 1)

-- the second word of an operation that sets the carry, into the link
abbrev pub second_items : Operand → List Item
second_items (operand.Reg b) = One (Imm Addi 1 (register_of Riscv64 b) (pos 0)) ∷ []
second_items x = load_items 1 x

abbrev pub carry_items : BinaryOp → ℕ → ℕ → ℕ → Operand → List Item
carry_items o u d a x = second_items x ++ ones (carry_code o u d a)

-- d and e = a op x
abbrev pub wide_items : WideOp → ℕ → ℕ → ℕ → Operand → List Item
wide_items o d e a (operand.Reg b) = ones (wide_code o d e a (register_of Riscv64 b))
wide_items o d e a x = load_items 31 x ++ ones (wide_code o d e a 31)

abbrev pub operation_items : BinaryOp → ℕ → ℕ → ℕ → Operand → List Item
operation_items o u d a x = if sets_carry o then carry_items o u d a x else binary_items o d a x

-- the register of an operand, by its place
abbrev pub register_in : List Operand → ℕ → ℕ
register_in xs i = register_for Riscv64 (operand_in xs i)

-- those of an operation with its operands, where u is the temporary
abbrev pub body_items : Op → List Operand → ℕ → List Item
body_items (op.Binary o last) xs u = operation_items o u (register_in xs 0) (register_in xs 1) (operand_in xs 2)
body_items (op.Wide o last) xs u = wide_items o (register_in xs 0) (register_in xs 1) (register_in xs 2) (operand_in xs 3)
body_items (op.Unary o) xs u = ones (unary_code o (register_in xs 0) (register_in xs 1))
body_items (op.Plain plain.Movi) xs u = load_items (register_in xs 0) (operand_in xs 1)
body_items (op.Plain plain.VaStart) xs u = load_items (register_in xs 0) (operand_in xs 1)
body_items (op.Retval t) xs u = ones (retval_code t (register_in xs 0))
body_items o xs u = []

-- with each register that is saved
abbrev pub saved_items : List Choice → List Item → List Item
saved_items [] body = body
saved_items (Free r ∷ choices) body = saved_items choices body
saved_items (Own r ∷ choices) body = saved_items choices body
saved_items (Spill r k ∷ choices) body = One (Store Sd 8 r (slot_offset k)) ∷ (saved_items choices body ++ One (Imm Ld r 8 (slot_offset k)) ∷ [])

abbrev pub value_items : Node → List Choice → List Item
value_items n choices = saved_items choices (body_items n.op n.operands (first_taken choices))
