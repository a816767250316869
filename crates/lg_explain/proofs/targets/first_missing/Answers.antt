use Rattle.std.proofs.Common.{◌≡◌, None, length, sym, ap, ◌∙◌, subst, arith}
use Rattle.lg_explain.specs.Blames.{first_of, missing_at, missing_in, of_node}
use Rattle.lg_explain.proofs.BlameLemmas.{at_node, first_found, first_on, first_start}
use Rattle.lg_explain.proofs.targets.first_missing.Goals as goal

pub loop-index-init : goal.loop-index-init
loop-index-init c = first_start _

pub returns-in-Some : goal.returns-in-Some
returns-in-Some c =
    let l = c.args.nodes.now in
    let i = c.loop-index.index in
    let here = at_node (missing_at l) l i c.node-node.result (sym c.node-node.ensures.node) in
    let found = ap (missing_in l.places) (sym c.as_slice.ensures.value) ∙ sym c.missing_in.ensures ∙ c.in-Some.is in
    sym (first_found (of_node (missing_at l) l) i _ _ (omega arith) c.loop-index.invariant (here ∙ found))

pub loop-index-preserved : goal.loop-index-preserved
loop-index-preserved c =
    let l = c.args.nodes.now in
    let i = c.loop-index.index in
    let here = at_node (missing_at l) l i c.node-node.result (sym c.node-node.ensures.node) in
    let none = ap (missing_in l.places) (sym c.as_slice.ensures.value) ∙ sym c.missing_in.ensures ∙ c.in_default.is in
    first_on (of_node (missing_at l) l) i c.loop-index.invariant (here ∙ none)

pub returns : goal.returns
returns c =
    let l = c.args.nodes.now in
    let all : c.loop-index.index ≡ length l.nodes = omega arith in
    sym (subst (λ k. first_of (of_node (missing_at l) l) k ≡ None) all c.loop-index.invariant)
