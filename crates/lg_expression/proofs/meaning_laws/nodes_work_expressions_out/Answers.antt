use Rattle.lg_expression.proofs.MeaningLemmas.{worked_out}
use Rattle.lg_expression.proofs.meaning_laws.nodes_work_expressions_out.Goals as goal

pub returns : goal.returns
returns c = worked_out
