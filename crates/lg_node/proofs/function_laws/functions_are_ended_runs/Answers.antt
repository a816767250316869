use Rattle.lg_node.proofs.EndedLemmas.{functions_are}
use Rattle.lg_node.proofs.function_laws.functions_are_ended_runs.Goals as goal

pub returns : goal.returns
returns c = functions_are
