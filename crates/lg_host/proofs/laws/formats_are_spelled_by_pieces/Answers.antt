use Rattle.lg_host.proofs.SpellingLemmas.{spelled-by-pieces}
use Rattle.lg_host.proofs.laws.formats_are_spelled_by_pieces.Goals as goal

pub returns : goal.returns
returns c = spelled-by-pieces
