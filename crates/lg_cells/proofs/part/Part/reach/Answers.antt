use Rattle.lg_cells.proofs.PartLemmas.{reached}
use Rattle.lg_cells.proofs.part.Part.reach.Goals as goal

pub returns-then-len-clause-cells : goal.returns-then-len-clause-cells
returns-then-len-clause-cells c = reached c.args.self.now c.grow.new.self c.args.len c.grow.ensures.cells
