use Rattle.std.proofs.Common.{arith}
use Rattle.std.specs.Prelude.{slice_index}
use Rattle.lg_cells.proofs.WordLemmas.{number_8}
use Rattle.lg_cells.proofs.word.word_8.Goals as goal

pub returns : goal.returns
returns c = let p = number_8 (slice_index c.args.bytes.now) c.args.at in omega (arith, p)
