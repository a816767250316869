use Rattle.lg_tst.proofs.WordLemmas.{op_of_is}
use Rattle.lg_tst.proofs.words.op_of.Goals as goal

pub returns : goal.returns
returns c = op_of_is c.args.word.now c.by_name.result c.by_name.ensures.found c.by_name.ensures.every
