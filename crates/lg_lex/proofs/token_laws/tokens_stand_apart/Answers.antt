use Rattle.lg_lex.proofs.GapLemmas.{stand_apart}
use Rattle.lg_lex.proofs.token_laws.tokens_stand_apart.Goals as goal

pub returns : goal.returns
returns c = stand_apart
