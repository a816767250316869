use Rattle.lg_node.proofs.RunLemmas.{homes_are}
use Rattle.lg_node.proofs.function_laws.homes_are_runs.Goals as goal

pub returns : goal.returns
returns c = homes_are
