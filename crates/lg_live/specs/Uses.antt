-- Which registers a node reads and writes: those that its operands name at the places of the instruction table that read
-- and write, and a call writes R0, R1 and R2.
use Rattle.std.specs.Prelude.{Bool, true, false, ◌&&◌, ◌||◌, nat_lt, List, ◌∷◌}
use Rattle.lg_op.specs.Forms.{forms_of}
use Rattle.lg_op.specs.declared.node.Node.{Node}
use Rattle.lg_op.specs.declared.op.Op.{Op}
use Rattle.lg_op.specs.declared.op.Op.TheVariants.{Control}
use Rattle.lg_op.specs.declared.op.ControlOp.TheVariants.{Call, Finish}
use Rattle.lg_op.specs.declared.form.Form.{Form}
use Rattle.lg_op.specs.declared.form.Form.TheVariants.{Write, Update, Read}
use Rattle.lg_op.specs.declared.operand.Reg.{Reg}
use Rattle.lg_op.specs.declared.operand.Operand.{Operand}
use Rattle.lg_op.specs.declared.operand.Operand.TheVariants as operand
use Rattle.lg_op.specs.Operands.{number_of}
use Rattle.lg_live.specs.Registers.{is_same}
use Rattle.lg_live.specs.declared.uses.Access.{Access}
use Rattle.lg_live.specs.declared.uses.Access.TheVariants as access

-- the places at which a register is read, and those at which one is written
abbrev pub is_for : Access → Form → Bool
is_for access.Read Read = true
is_for access.Read Update = true
is_for access.Write Write = true
is_for access.Write Update = true
is_for a form = false

abbrev pub is_register : Reg → Operand → Bool
is_register r (operand.Reg q) = is_same q r
is_register r other = false

-- whether the operands name a register at a place of this access
abbrev pub names : Access → List Form → List Operand → Reg → Bool
names a (f ∷ fs) (x ∷ xs) r = names a fs xs r || (is_for a f && is_register r x)
names a fs xs r = false

abbrev pub is_call : Op → Bool
is_call (Control Call last) = true
is_call (Control Finish last) = true
is_call op = false

abbrev pub is_read : Node → Reg → Bool
is_read node r = names access.Read (forms_of node.op) node.operands r

-- a call may change R0, R1 and R2
abbrev pub is_written : Node → Reg → Bool
is_written node r = names access.Write (forms_of node.op) node.operands r || (is_call node.op && nat_lt (number_of r) 3)
