use Rattle.lg_host.proofs.PieceLemmas.{prints-pieces}
use Rattle.lg_host.proofs.laws.formats_print_their_pieces.Goals as goal

pub returns : goal.returns
returns c = prints-pieces
