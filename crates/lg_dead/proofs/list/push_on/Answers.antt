use Rattle.lg_dead.proofs.FoldListLemmas.{all-registers}
use Rattle.lg_dead.proofs.list.push_on.Goals as goal

pub returns-clause-known : goal.returns-clause-known
returns-clause-known c =
    let e = c.pass.ensures in
    all-registers c.args.known.now c.pass.new.known c.args.new.now e.r0 e.r1 e.r2 e.v0 e.v1 e.v2
