use Rattle.lg_lex.proofs.WordLemmas.{words_whole}
use Rattle.lg_lex.proofs.token_laws.words_are_whole.Goals as goal

pub returns : goal.returns
returns c = words_whole
