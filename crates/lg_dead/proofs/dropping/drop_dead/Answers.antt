use Rattle.std.proofs.Common.{IfOk, subst}
use Rattle.lg_opt.specs.Rewritings.{CarriesAddresses, RunsAreDropped}
use Rattle.lg_dead.specs.Dropping.{IsDroppedTo}
use Rattle.lg_dead.specs.Known.{HasNoFolds}
use Rattle.lg_dead.proofs.dropping.drop_dead.Goals as goal

pub returns-clause-folds : goal.returns-clause-folds
returns-clause-folds c =
    subst (λ l. IfOk c.without_dead_definitions.result (λ r. HasNoFolds l → HasNoFolds r.nodes)) c.in_ok-nodes.ensures c.without_dead_definitions.ensures.folds

pub returns-clause-addresses : goal.returns-clause-addresses
returns-clause-addresses c =
    subst (λ l. IfOk c.without_dead_definitions.result (λ r. CarriesAddresses l r.nodes)) c.in_ok-nodes.ensures c.without_dead_definitions.ensures.addresses

pub returns-clause-runs : goal.returns-clause-runs
returns-clause-runs c =
    subst (λ s. IfOk c.without_dead_definitions.result (λ r. RunsAreDropped c.args.nodes.now s r.nodes r.shape r.origin.items)) c.in_ok-shape.ensures
    (subst (λ l. IfOk c.without_dead_definitions.result (λ r. RunsAreDropped l c.in_ok-shape.shape r.nodes r.shape r.origin.items)) c.in_ok-nodes.ensures
    c.without_dead_definitions.ensures.runs)

pub returns-clause-made : goal.returns-clause-made
returns-clause-made c =
    subst (λ s. IfOk c.without_dead_definitions.result (λ r. IsDroppedTo c.args.nodes.now s r.nodes r.shape r.origin.items)) c.in_ok-shape.ensures
    (subst (λ l. IfOk c.without_dead_definitions.result (λ r. IsDroppedTo l c.in_ok-shape.shape r.nodes r.shape r.origin.items)) c.in_ok-nodes.ensures
    c.without_dead_definitions.ensures.made)
