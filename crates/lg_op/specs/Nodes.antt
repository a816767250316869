-- Nodes in form.
use Rattle.std.specs.Prelude.{◌≡◌, ◌≢◌, true, List, ◌∷◌}
use Rattle.lg_op.specs.Forms.{forms_of, admit}
use Rattle.lg_op.specs.declared.op.Op.{Op}
use Rattle.lg_op.specs.declared.op.Op.TheVariants.{Plain, Wide}
use Rattle.lg_op.specs.declared.op.PlainOp.TheVariants as plain
use Rattle.lg_op.specs.declared.operand.Operand.{Operand}
use Rattle.lg_op.specs.declared.node.Node.{Node}

-- an operation with two results has two registers for them
abbrev pub IsApart : Op → List Operand → Type 0
IsApart (Wide op last) (a ∷ b ∷ xs) = a ≢ b
IsApart (Plain plain.VaArg) (a ∷ b ∷ xs) = a ≢ b
IsApart op xs = Unit {0}

-- the operands are those of the operation's row in the instruction table
pub record InForm (n : Node) : Type 0 where
  pub forms : admit (forms_of n.op) n.operands ≡ true
  pub apart : IsApart n.op n.operands
