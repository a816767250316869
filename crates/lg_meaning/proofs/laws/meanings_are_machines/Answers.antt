use Rattle.lg_meaning.proofs.MeanLemmas.{means_are_machines}
use Rattle.lg_meaning.proofs.laws.meanings_are_machines.Goals as goal

pub returns : goal.returns
returns c = means_are_machines
