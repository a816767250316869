use Rattle.lg_op.specs.declared.operand.Operand.TheVariants as operand
use Rattle.lg_op.specs.declared.operand.Reg.TheVariants.{R0}
use Rattle.lg_dead.specs.Tables.{known_of}
use Rattle.lg_dead.proofs.FoldNodeLemmas.{three-made}
use Rattle.lg_dead.proofs.folding.made_binary.Goals as goal

pub returns-in-len3 : goal.returns-in-len3
returns-in-len3 c = λ last.
    three-made (known_of c.args.known.now) c.args.op last c.args.operands.now (operand.Reg R0) c.number_in.result c.number_in-in-len3.result c.made_of_two.result c.in-len3.len_at_least c.in-len3.len_below c.number_in.ensures c.number_in-in-len3.ensures c.made_of_two.ensures
