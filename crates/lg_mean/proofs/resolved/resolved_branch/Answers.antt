use Rattle.std.proofs.Common.{◌≡◌, List, ℕ, ap, sym, ◌∙◌, subst, Option}
use Rattle.lg_node.specs.declared.place.Place.{Place}
use Rattle.lg_meaning.specs.Steps.{operand_at, node_of_label}
use Rattle.lg_mean.specs.declared.resolved.ResolvedNode.{ResolvedNode}
use Rattle.lg_mean.specs.Resolved.{IsSource}
use Rattle.lg_mean.proofs.ResolvedLemmas.{branch_resolved}
use Rattle.lg_mean.proofs.resolved.resolved_branch.Goals as goal

pub returns : goal.returns
returns c t e f =
    let n = c.args.node.now in
    let pair = c.in_ok-pair.pair in
    let q : ResolvedNode = record { act = pair.act; first = pair.first; second = pair.second; third = pair.third; target = c.node_of_label-target.result; number = pair.number } in
    let p = c.in_ok-pair.ensures.1 in
    let third : IsSource t.addresses (operand_at n 2) q.third q.number = subst (λ (A : List ℕ). IsSource A (operand_at n 2) q.third q.number) (sym e) p.third in
    let target : q.target ≡ node_of_label t.places (operand_at n 0) = c.node_of_label-target.ensures ∙ ap (node_of_label c.args.nodes.now.places) c.operand.ensures ∙ ap (λ (p : List (Option Place)). node_of_label p (operand_at n 0)) (sym f) in
    branch_resolved t n q c.args.condition c.requires.op.0 c.requires.op.1 c.in_ok-pair.ensures.0 p.second third target p.low
