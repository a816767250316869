use Rattle.std.proofs.Common.{◌≢◌, ◌<◌, Some, subst, refl}
use Rattle.lg_node.specs.Chains.{IsChain}
use Rattle.lg_node.proofs.ChainLemmas.{apart, below, front, behind, ends-around}
use Rattle.lg_node.proofs.chain.link.Goals as goal

pub returns-then-label-ends-clause-chain : goal.returns-then-label-ends-clause-chain
returns-then-label-ends-clause-chain c = λ at more chain free j.
    let here : IsChain at c.args.next.now (Some c.in-Some.ends) = subst (IsChain at c.args.next.now) c.in-Some.is chain in
    front at more c.args.label.0 free j c.args.next.now c.in-Some.ends c.args.label refl c.requires.label c.if-label-ends.true here

pub returns-clause-chain : goal.returns-clause-chain
returns-clause-chain c = λ at more chain free j.
    let here : IsChain at c.args.next.now (Some c.in-Some.ends) = subst (IsChain at c.args.next.now) c.in-Some.is chain in
    let e = c.in-Some.ends in
    let first_bound = here.bounds.0.bound in
    let first_apart : e.first.0 ≢ c.args.label.0 = apart at e.first.0 c.args.label.0 first_bound free in
    let first : e.first.0 < c.args.label.0 = below e.first.0 c.args.label.0 c.if-label-ends.false first_apart in
    let b = c.label_before-before in
    behind at more c.args.label.0 free j c.args.next.now c.put_after-2.new.next c.args.ends (Some e) b.result.0 c.args.label refl
    (b.ensures.bound at c.args.ends chain first_bound) b.ensures.before (b.ensures.none at c.args.ends chain first_bound free) c.requires.label chain
    (ends-around at more c.args.label.0 free j e first c.if-ends-label.false here.bounds) c.put_after-2.ensures
