use Rattle.std.proofs.Common.{◌<◌, None, sym, ap, ◌∙◌, arith, length, length-append, ◌+◌, [], ◌∷◌}
use Rattle.std.specs.Prelude.{if◌then◌else◌}
use Rattle.lg_op.specs.declared.operand.Reg.{Reg}
use Rattle.lg_node.proofs.FunctionLaws.{node_within}
use Rattle.lg_opt.specs.Moves.{stays}
use Rattle.lg_opt.specs.SourceTables.{source_of}
use Rattle.lg_opt.proofs.SourceLemmas.{first-after, next-after, stays-is, more-stays}
use Rattle.lg_opt.proofs.moves.staying.Goals as goal

pub loop-index-init : goal.loop-index-init
loop-index-init c = record {
  count = ap length c.in_ok-table.ensures.items;
  stays = λ i lt. absurd (omega (arith, ap length c.in_ok-table.ensures.items, lt));
  sources = first-after c.args.nodes.now c.none-sources.result c.none-sources.ensures;
}

pub loop-index-preserved : goal.loop-index-preserved
loop-index-preserved c =
    let l = c.args.nodes.now in
    let i = c.loop-index.index in
    let lt : i < length l.nodes = omega arith in
    let found = node_within l.nodes i lt in
    let n = found.0 in
    let here = found.1 in
    let mark = c.is_labelled.ensures l c.requires.labels in
    let are = λ (r : Reg). c.meet.ensures r ∙ ap (λ b. if b then None else source_of c.loop-index.sources r) mark ∙ c.loop-index.invariant.sources r in
    let stay = stays-is l i n here c.meet.new.sources are c.look.result (c.look.ensures.stays n here) in
    let grown = c.in_ok-push.ensures.items in
    record {
      count = ap length grown ∙ length-append c.loop-index.table.items (c.look.result ∷ []) ∙ ap (λ k. k + 1) c.loop-index.invariant.count;
      stays = rw grown (more-stays l c.loop-index.table.items c.look.result c.loop-index.invariant.stays (stay ∙ ap (stays l) (sym c.loop-index.invariant.count)));
      sources = next-after l i n here c.meet.new.sources are c.look.new.sources (c.look.ensures.behind n here);
    }
