use Rattle.std.proofs.Common.{◌≡◌, None, length, sym, ◌∙◌, subst, arith}
use Rattle.lg_node.specs.Functions.{home}
use Rattle.lg_explain.specs.Blames.{astray_at, first_of, of_node}
use Rattle.lg_explain.proofs.BlameLemmas.{at_node, first_found, first_on, first_start}
use Rattle.lg_explain.proofs.targets.first_astray.Goals as goal

pub loop-index-init : goal.loop-index-init
loop-index-init c = first_start _

pub returns-in-Some : goal.returns-in-Some
returns-in-Some c =
    let l = c.args.nodes.now in
    let i = c.loop-index.index in
    let here = at_node (astray_at l) l i c.node-node.result (sym c.node-node.ensures.node) in
    let home : c.home_in-home.result ≡ home l.nodes i = c.home_in-home.ensures l.nodes c.requires in
    let is = rw (home, c.forms.ensures, c.as_slice-operands.ensures.value) at c.astray_in.ensures in
    sym (first_found (of_node (astray_at l) l) i _ _ (omega arith) c.loop-index.invariant (here ∙ sym is ∙ c.in-Some.is))

pub loop-index-preserved : goal.loop-index-preserved
loop-index-preserved c =
    let l = c.args.nodes.now in
    let i = c.loop-index.index in
    let here = at_node (astray_at l) l i c.node-node.result (sym c.node-node.ensures.node) in
    let home : c.home_in-home.result ≡ home l.nodes i = c.home_in-home.ensures l.nodes c.requires in
    let is = rw (home, c.forms.ensures, c.as_slice-operands.ensures.value) at c.astray_in.ensures in
    first_on (of_node (astray_at l) l) i c.loop-index.invariant (here ∙ sym is ∙ c.in_default.is)

pub returns : goal.returns
returns c =
    let l = c.args.nodes.now in
    let all : c.loop-index.index ≡ length l.nodes = omega arith in
    sym (subst (λ k. first_of (of_node (astray_at l) l) k ≡ None) all c.loop-index.invariant)
