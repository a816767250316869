use Rattle.lg_op.specs.declared.operand.Operand.TheVariants as operand
use Rattle.lg_op.specs.declared.operand.Reg.TheVariants.{R0}
use Rattle.lg_op.proofs.OperandLemmas.{held_at}
use Rattle.lg_op.proofs.operand.Operands.at.Goals as goal

pub returns : goal.returns
returns c = rw (← c.self.view_is) (held_at c.self.inside.list c.self.inside.len c.args.index (operand.Reg R0) c.self.invariant c.requires)
