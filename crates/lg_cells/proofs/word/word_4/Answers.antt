use Rattle.std.proofs.Common.{arith}
use Rattle.std.specs.Prelude.{slice_index}
use Rattle.lg_cells.proofs.WordLemmas.{number_4}
use Rattle.lg_cells.proofs.word.word_4.Goals as goal

pub returns-clause-value : goal.returns-clause-value
returns-clause-value c = let p = number_4 (slice_index c.args.bytes.now) c.args.at in omega (arith, p)
