-- Which operands each operation takes, as the instruction table says.
use Rattle.std.specs.Prelude.{ℕ, ◌==◌, nat_lt, Bool, true, false, not, ◌&&◌, ◌||◌, List, [], ◌∷◌}
use Rattle.lg_op.specs.declared.op.Op.{Op}
use Rattle.lg_op.specs.declared.op.Op.TheVariants.{Binary, Wide, Branch, BranchSum, Control, Unary, Plain, Load, Store, Retval, Getarg}
use Rattle.lg_op.specs.declared.op.ControlOp.{ControlOp}
use Rattle.lg_op.specs.declared.op.ControlOp.TheVariants as control
use Rattle.lg_op.specs.declared.op.PlainOp.{PlainOp}
use Rattle.lg_op.specs.declared.op.PlainOp.TheVariants as plain
use Rattle.lg_op.specs.declared.op.Addressing.{Addressing}
use Rattle.lg_op.specs.declared.op.Addressing.TheVariants as addressing
use Rattle.lg_op.specs.declared.op.LastOperand.{LastOperand}
use Rattle.lg_op.specs.declared.op.LastOperand.TheVariants as last_operand
use Rattle.lg_op.specs.declared.operand.Reg.TheVariants.{Fp}
use Rattle.lg_op.specs.declared.operand.Operand.{Operand}
use Rattle.lg_op.specs.declared.operand.Operand.TheVariants as operand
use Rattle.lg_op.specs.declared.form.Form.{Form}
use Rattle.lg_op.specs.declared.form.Form.TheVariants.{Write, Update, Read, Immediate, Target, Callee, NewArgument, Argument, NewLocal, Size, Alignment, ArgumentCount}

-- the last operand by the operand letter
abbrev pub last_form : LastOperand → Form
last_form last_operand.Register = Read
last_form last_operand.Immediate = Immediate

abbrev pub control_forms : ControlOp → LastOperand → List Form
control_forms op last_operand.Register = Read ∷ []
control_forms control.Jmp last_operand.Immediate = Target ∷ []
control_forms control.Call last_operand.Immediate = Callee ∷ []
control_forms control.Finish last_operand.Immediate = Callee ∷ []
control_forms control.Pusharg last_operand.Immediate = Immediate ∷ []
control_forms control.Ret last_operand.Immediate = Immediate ∷ []

abbrev pub plain_forms : PlainOp → List Form
plain_forms plain.Movi = Write ∷ Immediate ∷ []
plain_forms plain.Arg = NewArgument ∷ []
plain_forms plain.Allocai = Size ∷ NewLocal ∷ []
plain_forms plain.Align = Alignment ∷ []
plain_forms plain.VaStart = Write ∷ ArgumentCount ∷ []
plain_forms plain.VaArg = Write ∷ Update ∷ []
plain_forms plain.VaEnd = Read ∷ []
plain_forms plain.Prepare = []
plain_forms plain.Ellipsis = []
plain_forms plain.Prolog = []
plain_forms plain.Epilog = []
plain_forms plain.Ret = []

-- the operands that give the address of a load or a store
abbrev pub address_forms : Addressing → List Form
address_forms addressing.Register = Read ∷ []
address_forms addressing.Immediate = Immediate ∷ []
address_forms addressing.RegisterRegister = Read ∷ Read ∷ []
address_forms addressing.RegisterImmediate = Read ∷ Immediate ∷ []

-- of a store, the number comes first
abbrev pub store_forms : Addressing → List Form
store_forms addressing.Register = Read ∷ Read ∷ []
store_forms addressing.Immediate = Immediate ∷ Read ∷ []
store_forms addressing.RegisterRegister = Read ∷ Read ∷ Read ∷ []
store_forms addressing.RegisterImmediate = Immediate ∷ Read ∷ Read ∷ []

-- the operands of each operation in order
abbrev pub forms_of : Op → List Form
forms_of (Binary op last) = Write ∷ Read ∷ last_form last ∷ []
forms_of (Wide op last) = Write ∷ Write ∷ Read ∷ last_form last ∷ []
forms_of (Branch op last) = Target ∷ Read ∷ last_form last ∷ []
forms_of (BranchSum op last) = Target ∷ Update ∷ last_form last ∷ []
forms_of (Control op last) = control_forms op last
forms_of (Unary op) = Write ∷ Read ∷ []
forms_of (Plain op) = plain_forms op
forms_of (Load t at) = Write ∷ address_forms at
forms_of (Store t at) = store_forms at
forms_of (Retval t) = Write ∷ []
forms_of (Getarg t) = Write ∷ Argument ∷ []

-- the powers of two from 1 to 64
abbrev pub is_alignment : ℕ → Bool
is_alignment n = (n == 1) || ((n == 2) || ((n == 4) || ((n == 8) || ((n == 16) || ((n == 32) || (n == 64))))))

-- the operands of each form
abbrev pub admits : Form → Operand → Bool
admits Write (operand.Reg Fp) = false
admits Write (operand.Reg r) = true
admits Update (operand.Reg Fp) = false
admits Update (operand.Reg r) = true
admits Read (operand.Reg r) = true
admits Immediate (operand.Number n) = true
admits Immediate (operand.Label l) = true
admits Immediate (operand.Host h) = true
admits Target (operand.Label l) = true
admits Callee (operand.Label l) = true
admits Callee (operand.Host h) = true
admits NewArgument (operand.Slot s) = true
admits Argument (operand.Slot s) = true
admits NewLocal (operand.Slot s) = true
admits Size (operand.Number n) = not (nat_lt n 1) && not (nat_lt 65536 n)
admits Alignment (operand.Number n) = is_alignment n
admits ArgumentCount (operand.Number n) = true
admits f x = false

-- the operands are those of the forms, one by one
abbrev pub admit : List Form → List Operand → Bool
admit [] [] = true
admit (f ∷ fs) (x ∷ xs) = admits f x && admit fs xs
admit fs xs = false
