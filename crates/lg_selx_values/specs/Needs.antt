-- The registers that nodes which compute values ask for.
use Rattle.std.specs.Prelude.{ℕ, ◌==◌, ◌||◌, Bool, false, List, [], ◌∷◌}
use Rattle.lg_op.specs.declared.op.Op.{Op}
use Rattle.lg_op.specs.declared.op.Op.TheVariants as op
use Rattle.lg_op.specs.declared.op.BinaryOp.{BinaryOp}
use Rattle.lg_op.specs.declared.op.BinaryOp.TheVariants as binary
use Rattle.lg_op.specs.declared.op.LastOperand.TheVariants as last_operand
use Rattle.lg_temp.specs.declared.choice.Need.{Need}
use Rattle.lg_temp.specs.declared.choice.Need.TheVariants.{Only}

-- rcx, 1, for the count of a shift by a register; rax, 0, and rdx, 2, for quotients and for products of two words; nothing else
abbrev pub value_needs : Op → List Need
value_needs (op.Binary binary.Lsh last_operand.Register) = Only 1 ∷ []
value_needs (op.Binary binary.Rsh last_operand.Register) = Only 1 ∷ []
value_needs (op.Binary binary.RshU last_operand.Register) = Only 1 ∷ []
value_needs (op.Binary binary.Div last) = Only 0 ∷ Only 2 ∷ []
value_needs (op.Binary binary.DivU last) = Only 0 ∷ Only 2 ∷ []
value_needs (op.Binary binary.Rem last) = Only 0 ∷ Only 2 ∷ []
value_needs (op.Binary binary.RemU last) = Only 0 ∷ Only 2 ∷ []
value_needs (op.Wide o last) = Only 0 ∷ Only 2 ∷ []
value_needs o = []

-- the registers that the code of an operation on two registers spoils, besides that of its result
abbrev pub spoils : BinaryOp → ℕ → Bool
spoils binary.Lsh r = r == 1
spoils binary.Rsh r = r == 1
spoils binary.RshU r = r == 1
spoils binary.Div r = (r == 0) || (r == 2)
spoils binary.DivU r = (r == 0) || (r == 2)
spoils binary.Rem r = (r == 0) || (r == 2)
spoils binary.RemU r = (r == 0) || (r == 2)
spoils o r = false
