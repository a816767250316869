use Rattle.std.proofs.Common.{sym, subst, arith}
use Rattle.lg_prof.specs.Tallies.{AreBelow}
use Rattle.lg_prof.proofs.TallyLemmas.{zeros_length, zeros_ran, zeros_spent}
use Rattle.lg_prof.proofs.tally.Tally.new.Goals as goal

pub returns-clause-below : goal.returns-clause-below
returns-clause-below c =
    subst (AreBelow c.args.nodes.now.nodes) (sym (zeros_length c.in_ok-ran.ran.items c.in_ok-spent.spent.items c.top_of-top.result c.in_ok-ran.ensures c.in_ok-spent.ensures)) c.top_of-top.ensures.below

pub returns-clause-some : goal.returns-clause-some
returns-clause-some c =
    let all = zeros_length c.in_ok-ran.ran.items c.in_ok-spent.spent.items c.top_of-top.result c.in_ok-ran.ensures c.in_ok-spent.ensures in
    omega (arith, all, c.top_of-top.ensures.some)

pub returns-clause-ran : goal.returns-clause-ran
returns-clause-ran c = zeros_ran c.in_ok-ran.ran.items c.in_ok-spent.spent.items c.top_of-top.result c.in_ok-ran.ensures c.in_ok-spent.ensures

pub returns-clause-spent : goal.returns-clause-spent
returns-clause-spent c = zeros_spent c.in_ok-ran.ran.items c.in_ok-spent.spent.items c.top_of-top.result c.in_ok-ran.ensures c.in_ok-spent.ensures
