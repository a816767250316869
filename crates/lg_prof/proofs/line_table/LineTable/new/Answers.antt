use Rattle.std.proofs.Common.{◌<◌, length, sym, ◌∙◌, arith}
use Rattle.lg_prof.proofs.LineLemmas.{more}
use Rattle.lg_prof.proofs.line_table.LineTable.new.Goals as goal

pub loop-index-preserved : goal.loop-index-preserved
loop-index-preserved c =
    let below : c.loop-index.index < length c.args.nodes.now.nodes = omega (arith, c.loop-index-test.true, c.len-index-end.ensures) in
    more c.args.nodes.now.nodes c.args.places.now.items c.loop-index.lines.items c.fill.new.lines.items c.loop-index.index c.node.result c.requires below (sym c.node.ensures.node) c.loop-index.invariant
    (c.in_ok-fill.ensures.long ∙ c.get.ensures) c.in_ok-fill.ensures.kept (λ p low high. c.in_ok-fill.ensures.filled p low (rw c.get.ensures high))
