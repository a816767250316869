use Rattle.lg_explain.proofs.CallLemmas.{label_is, labelled_is}
use Rattle.lg_explain.proofs.calls.label_at.Goals as goal

pub returns-clause-label : goal.returns-clause-label
returns-clause-label c = label_is c.args.nodes.now.places c.args.index c.first_at.result c.first_at.ensures.found c.first_at.ensures.none

pub returns-clause-labelled : goal.returns-clause-labelled
returns-clause-labelled c = labelled_is c.args.nodes.now.places c.args.index c.first_at.result c.first_at.ensures.found c.first_at.ensures.none
