use Rattle.lg_explain.proofs.BlamedLemmas.{words_are}
use Rattle.lg_explain.proofs.laws.words_are_blamed.Goals as goal

pub returns : goal.returns
returns c = words_are
