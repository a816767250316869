use Rattle.lg_explain.proofs.TwiceLemmas.{op_of_is}
use Rattle.lg_explain.proofs.twice.op_of.Goals as goal

pub returns : goal.returns
returns c = op_of_is c.args.word.now c.by_name.result c.by_name.ensures.found c.by_name.ensures.every
