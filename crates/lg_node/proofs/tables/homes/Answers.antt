use Rattle.std.proofs.Common.{◌≡◌, ℕ, Option, None, length, sym, ap, ◌∙◌, arith}
use Rattle.lg_node.specs.Functions.{home, home_of, open_after}
use Rattle.lg_node.proofs.TableLemmas.{count_push, table_push, table_all}
use Rattle.lg_node.proofs.WalkLemmas.{home_here, home_past, open_start, open_on}
use Rattle.lg_node.proofs.tables.homes.Goals as goal

pub loop-index-init : goal.loop-index-init
loop-index-init c = record {
  count = ap length c.in_ok-homes.ensures.items;
  room = omega (arith, c.in_ok-homes.ensures.capacity, c.len-count.ensures);
  homes = λ k h. absurd (omega arith);
  current = sym (open_start c.args.nodes.now.nodes);
}

pub push_reserved-requires : goal.push_reserved-requires
push_reserved-requires c = omega (arith, c.loop-index.homes.ok.0, c.loop-index.invariant.count, c.loop-index.invariant.room, c.loop-index-test.true, c.len-index-end.ensures)

pub loop-index-preserved : goal.loop-index-preserved
loop-index-preserved c =
    let i = c.loop-index.index in
    let home_is : c.home_of-home.result ≡ home c.args.nodes.now.nodes i = c.home_of-home.ensures ∙ ap (λ (o : Option ℕ). home_of o i c.node_at.result.now.op) c.loop-index.invariant.current ∙ sym (home_here c.args.nodes.now.nodes i c.node_at.result.now (sym c.node_at.ensures.node)) in
    record {
      count = count_push c.loop-index.homes.items c.push_reserved.new.self.items c.home_of-home.result i c.push_reserved.ensures.items c.loop-index.invariant.count;
      room = omega (arith, c.push_reserved.ensures.capacity, c.loop-index.invariant.room);
      homes = table_push (home c.args.nodes.now.nodes) c.loop-index.homes.items c.push_reserved.new.self.items c.home_of-home.result None i c.push_reserved.ensures.items c.loop-index.invariant.count home_is c.loop-index.invariant.homes;
      current = c.open_after-current.ensures ∙ ap (λ (o : Option ℕ). open_after o c.node_at.result.now.op) (home_is ∙ home_here c.args.nodes.now.nodes i c.node_at.result.now (sym c.node_at.ensures.node)) ∙ sym (open_on c.args.nodes.now.nodes i c.node_at.result.now (sym c.node_at.ensures.node));
    }

pub returns : goal.returns
returns c = table_all (home c.args.nodes.now.nodes) c.loop-index.homes.items None c.loop-index.index (length c.args.nodes.now.nodes) c.loop-index.invariant.count (omega arith) c.loop-index.invariant.homes (home_past c.args.nodes.now.nodes)
