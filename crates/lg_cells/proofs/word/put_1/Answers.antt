use Rattle.lg_cells.proofs.WordLemmas.{written_1}
use Rattle.lg_cells.proofs.word.put_1.Goals as goal

pub returns : goal.returns
returns c = written_1 c.args.bytes.now c.args.at c.args.value c.requires
