use Rattle.std.proofs.Common.{arith}
use Rattle.lg_cells.proofs.PartLemmas.{full_2}
use Rattle.lg_cells.proofs.part.are_written_2.Goals as goal

pub returns : goal.returns
returns c e = full_2 c.args.marks.now c.args.at (λ j. omega (arith, c.type_inv.marks j)) (grind (arith, e))
