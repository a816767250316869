use Rattle.std.proofs.Common.{sym, ◌∙◌, arith}
use Rattle.lg_carry.proofs.EntryLemmas.{entry-aligned}
use Rattle.lg_asm.proofs.EntryOfLemmas.{entry-end, entry-other, entry-by}
use Rattle.lg_asm.proofs.saves.entry_of.Goals as goal

pub returns-then-is_jump : goal.returns-then-is_jump
returns-then-is_jump c =
    c.target_of.ensures
    ∙ sym (c.nodes.invariant ∙ entry-by c.args.nodes.now c.nodes.index c.node-node.result (sym c.node-node.ensures.node) (sym c.is_jump.ensures ∙ c.if-is_jump.true))

pub returns-then-not-is_align : goal.returns-then-not-is_align
returns-then-not-is_align c =
    sym (c.nodes.invariant ∙ entry-other c.args.nodes.now c.nodes.index c.node-node.result (sym c.node-node.ensures.node)
    (sym c.is_align.ensures ∙ c.if-not-is_align.true) (sym c.is_jump.ensures ∙ c.if-is_jump.false))

pub nodes-preserved : goal.nodes-preserved
nodes-preserved c =
    c.nodes.invariant ∙ sym (entry-aligned c.args.nodes.now c.nodes.index c.node-node.result (sym c.node-node.ensures.node) (sym c.is_align.ensures ∙ c.if-not-is_align.false))

pub returns : goal.returns
returns c =
    let over = c.nodes-test.false in
    let n = c.len-index-end.ensures in
    let m = c.len.ensures in
    let a = c.nodes.auto.index-end in
    let end = entry-end c.args.nodes.now c.nodes.index (omega (arith, over, n, a)) in
    omega (arith, m, n, a, over, sym (c.nodes.invariant ∙ end))
