use Rattle.std.proofs.Common.{IfOk, subst}
use Rattle.lg_opt.specs.Moves.{HasNoIdleMoves}
use Rattle.lg_opt.specs.Rewritings.{CarriesAddresses, RunsAreThreaded}
use Rattle.lg_opt.proofs.threading.thread.Goals as goal

pub returns-clause-moves : goal.returns-clause-moves
returns-clause-moves c =
    subst (λ l. IfOk c.with_threaded_jumps.result (λ r. HasNoIdleMoves l → HasNoIdleMoves r.nodes)) c.in_ok-nodes.ensures c.with_threaded_jumps.ensures.moves

pub returns-clause-addresses : goal.returns-clause-addresses
returns-clause-addresses c = subst (λ l. IfOk c.with_threaded_jumps.result (λ r. CarriesAddresses l r.nodes)) c.in_ok-nodes.ensures c.with_threaded_jumps.ensures.addresses

pub returns-clause-runs : goal.returns-clause-runs
returns-clause-runs c =
    subst (λ s. IfOk c.with_threaded_jumps.result (λ r. RunsAreThreaded c.args.nodes.now s r.nodes r.shape)) c.in_ok-shape.ensures
    (subst (λ l. IfOk c.with_threaded_jumps.result (λ r. RunsAreThreaded l c.in_ok-shape.shape r.nodes r.shape)) c.in_ok-nodes.ensures c.with_threaded_jumps.ensures.runs)
