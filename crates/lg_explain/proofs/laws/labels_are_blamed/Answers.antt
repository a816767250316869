use Rattle.lg_explain.proofs.BlamedLemmas.{labels_are}
use Rattle.lg_explain.proofs.laws.labels_are_blamed.Goals as goal

pub returns : goal.returns
returns c = labels_are
