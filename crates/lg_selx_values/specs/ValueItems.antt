-- The items of the nodes that compute values.
use Rattle.std.specs.Prelude.{ℕ, List, [], ◌∷◌, ◌++◌, if◌then◌else◌}
use Rattle.lg_base.specs.HostNames.{host_address}
use Rattle.lg_base.specs.declared.target.Target.TheVariants.{X86_64}
use Rattle.lg_op.specs.declared.op.Op.{Op}
use Rattle.lg_op.specs.declared.op.Op.TheVariants as op
use Rattle.lg_op.specs.declared.op.BinaryOp.{BinaryOp}
use Rattle.lg_op.specs.declared.op.WideOp.{WideOp}
use Rattle.lg_op.specs.declared.op.PlainOp.TheVariants as plain
use Rattle.lg_op.specs.declared.node.Node.{Node}
use Rattle.lg_op.specs.declared.operand.Operand.{Operand}
use Rattle.lg_op.specs.declared.operand.Operand.TheVariants as operand
use Rattle.lg_op.specs.Operators.{sets_carry}
use Rattle.lg_temp.specs.declared.choice.Choice.{Choice}
use Rattle.lg_temp.specs.declared.choice.Choice.TheVariants.{Free, Own, Spill}
use Rattle.lg_temp.specs.Abis.{register_of}
use Rattle.lg_x86.specs.declared.instruction.Instr.{Instr}
use Rattle.lg_x86.specs.declared.instruction.Instr.TheVariants.{Load, Store}
use Rattle.lg_x86.specs.declared.instruction.LoadOp.TheVariants.{Ld64}
use Rattle.lg_x86.specs.declared.instruction.StoreOp.TheVariants.{St64}
use Rattle.lg_selx_values.specs.Processor.Numbers.{number_row}
use Rattle.lg_selx_values.specs.Processor.X86Rows.{slot_offset}
use Rattle.lg_carry.specs.Values.Parts.{operand_in, register_for}
use Rattle.lg_selx_values.specs.declared.items.Item.{Item}
use Rattle.lg_selx_values.specs.declared.items.Item.TheVariants.{One, Address}
use Rattle.lg_selx_values.specs.Items.{ones}
use Rattle.lg_selx_values.specs.BinaryCode.{register_code, number_form_code}
use Rattle.lg_selx_values.specs.CarryCode.{carry_register_code, carry_number_code}
use Rattle.lg_selx_values.specs.UnaryCode.{unary_code, retval_code}
use Rattle.lg_selx_values.specs.WideCode.{wide_code, wide_number_code}

-- the word of an immediate, into register t; the address of a label is put into a move of 32 bits. Moves keep the carry
abbrev pub load_items : ℕ → Operand → List Item
load_items t (operand.Number v) = ones (number_row t v ∷ [])
load_items t (operand.Host name) = ones (number_row t (host_address name) ∷ [])
load_items t (operand.Label l) = Address t l.0 ∷ []
load_items t x = []

-- d = a op b, and d = a op v, with the carry of the operations that set it
abbrev pub binary_code : BinaryOp → ℕ → ℕ → ℕ → ℕ → List Instr
binary_code o frame d a b = if sets_carry o then carry_register_code o frame d a b else register_code o frame d a b

abbrev pub binary_number_code : BinaryOp → ℕ → ℕ → ℕ → ℕ → List Instr
binary_number_code o frame d a v = if sets_carry o then carry_number_code o frame d a v else number_form_code o frame d a v

-- d = a op x; labels are operands of `movi` alone
abbrev pub binary_items : BinaryOp → ℕ → ℕ → ℕ → Operand → List Item
binary_items o frame d a (operand.Reg b) = ones (binary_code o frame d a (register_of X86_64 b))
binary_items o frame d a (operand.Number v) = ones (binary_number_code o frame d a v)
binary_items o frame d a (operand.Host name) = ones (binary_number_code o frame d a (host_address name))
binary_items o frame d a x = []

-- d and e = a op x
abbrev pub wide_items : WideOp → ℕ → ℕ → ℕ → ℕ → Operand → List Item
wide_items o frame d e a (operand.Reg b) = ones (wide_code o frame d e a (register_of X86_64 b))
wide_items o frame d e a (operand.Number v) = ones (wide_number_code o frame d e a v)
wide_items o frame d e a (operand.Host name) = ones (wide_number_code o frame d e a (host_address name))
wide_items o frame d e a x = []

-- the register of an operand, by its place
abbrev pub register_in : List Operand → ℕ → ℕ
register_in xs i = register_for X86_64 (operand_in xs i)

-- those of an operation with its operands, in a function with a frame of this many bytes
abbrev pub body_items : ℕ → Op → List Operand → List Item
body_items frame (op.Binary o last) xs = binary_items o frame (register_in xs 0) (register_in xs 1) (operand_in xs 2)
body_items frame (op.Wide o last) xs = wide_items o frame (register_in xs 0) (register_in xs 1) (register_in xs 2) (operand_in xs 3)
body_items frame (op.Unary o) xs = ones (unary_code o (register_in xs 0) (register_in xs 1))
body_items frame (op.Plain plain.Movi) xs = load_items (register_in xs 0) (operand_in xs 1)
body_items frame (op.Plain plain.VaStart) xs = load_items (register_in xs 0) (operand_in xs 1)
body_items frame (op.Retval t) xs = ones (retval_code t (register_in xs 0))
body_items frame o xs = []

-- a register goes to a spill slot below FP, 5, and comes from there
abbrev pub save : ℕ → ℕ → Instr
save r k = Store St64 5 (slot_offset k) r

abbrev pub restore : ℕ → ℕ → Instr
restore r k = Load Ld64 r 5 (slot_offset k)

-- with each register that is saved
abbrev pub saved_items : List Choice → List Item → List Item
saved_items [] body = body
saved_items (Free r ∷ choices) body = saved_items choices body
saved_items (Own r ∷ choices) body = saved_items choices body
saved_items (Spill r k ∷ choices) body = One (save r k) ∷ (saved_items choices body ++ One (restore r k) ∷ [])

abbrev pub value_items : ℕ → Node → List Choice → List Item
value_items frame n choices = saved_items choices (body_items frame n.op n.operands)
