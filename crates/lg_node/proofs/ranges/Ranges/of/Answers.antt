use Rattle.std.proofs.Common.{◌≡◌, ℕ, List, ◌++◌, Option, Some, None, length, ap, ap₂, sym, ◌∙◌, arith}
use Rattle.std.specs.Option.{option_to_list}
use Rattle.lg_node.specs.declared.walk.Walk.{Walk}
use Rattle.lg_node.specs.declared.function.Function.{Function}
use Rattle.lg_node.specs.Functions.{home, home_of, ended_at, functions_before}
use Rattle.lg_node.specs.Tables.{number_in, number_of}
use Rattle.lg_node.specs.Walks.{walk_after}
use Rattle.lg_node.proofs.FunctionLemmas.{functions_start, functions_on, few_on, number_past}
use Rattle.lg_node.proofs.LimitLemmas.{limits_before}
use Rattle.lg_node.proofs.TableLemmas.{count_push, table_push, table_all}
use Rattle.lg_node.proofs.WalkLemmas.{walk_start, walk_on, home_here}
use Rattle.lg_node.proofs.ranges.Ranges.of.Goals as goal

pub loop-index-init : goal.loop-index-init
loop-index-init c = record {
  walk = c.new-walk.ensures ∙ sym (walk_start c.args.nodes.now.nodes);
  functions = c.new-functions.ensures.items ∙ sym (functions_start c.args.nodes.now.nodes);
  few = omega (arith, ap length c.new-functions.ensures.items);
  count = ap length c.in_ok-numbers.ensures.items;
  room = omega (arith, c.in_ok-numbers.ensures.capacity, c.len-count.ensures);
  numbers = λ i h. absurd (omega arith);
}

pub ended-requires-clause-function : goal.ended-requires-clause-function
ended-requires-clause-function c =
    c.home_of-home.ensures
    ∙ ap (λ (w : Walk). home_of w.function c.loop-index.index c.node_at-node.result.now.op) c.loop-index.invariant.walk
    ∙ sym (home_here c.args.nodes.now.nodes c.loop-index.index c.node_at-node.result.now (sym c.node_at-node.ensures.node))

pub ended-requires-clause-limits : goal.ended-requires-clause-limits
ended-requires-clause-limits c = rw c.loop-index.invariant.walk (limits_before c.args.nodes.now c.loop-index.index (omega arith) c.requires.nodes)

pub pass-requires-clause-limits : goal.pass-requires-clause-limits
pass-requires-clause-limits c = rw c.loop-index.invariant.walk (limits_before c.args.nodes.now c.loop-index.index (omega arith) c.requires.nodes)

pub push_reserved-requires : goal.push_reserved-requires
push_reserved-requires c = omega (arith, c.loop-index.numbers.ok.0, c.loop-index.invariant.count, c.loop-index.invariant.room, c.loop-index-test.true, c.len-index-end.ensures)

pub loop-index-preserved : goal.loop-index-preserved
loop-index-preserved c =
    let nodes = c.args.nodes.now.nodes in
    let i = c.loop-index.index in
    let here = sym c.node_at-node.ensures.node in
    let function : c.home_of-home.result ≡ home nodes i =
    c.home_of-home.ensures
    ∙ ap (λ (w : Walk). home_of w.function i c.node_at-node.result.now.op) c.loop-index.invariant.walk
    ∙ sym (home_here nodes i c.node_at-node.result.now here) in
    let ended : c.ended.result ≡ ended_at nodes (home nodes i) i (Some c.node_at-node.result.now) =
    c.ended.ensures ∙ ap (λ (f : Option ℕ). ended_at nodes f i (Some c.node_at-node.result.now)) function in
    let count : c.len.result ≡ length c.loop-index.functions.items = omega (arith, c.len.ensures, c.loop-index.functions.ok.0) in
    let number : c.number_in.result ≡ number_of nodes i =
    c.number_in.ensures ∙ ap₂ number_in (count ∙ ap length c.loop-index.invariant.functions) function in
    record {
      walk = c.pass.ensures ∙ ap (λ (w : Walk). walk_after w i c.node_at-node.result.now) c.loop-index.invariant.walk ∙ walk_on nodes i c.node_at-node.result.now here;
      functions =
          c.in_ok-push_ended.ensures
          ∙ ap₂ (λ (fs : List Function) (o : Option Function). fs ++ option_to_list o) c.loop-index.invariant.functions ended
          ∙ sym (functions_on nodes i c.node_at-node.result.now here);
      few = few_on c.loop-index.functions.items c.push_ended.new.functions.items c.ended.result i c.in_ok-push_ended.ensures c.loop-index.invariant.few;
      count = count_push c.loop-index.numbers.items c.push_reserved.new.self.items c.number_in.result i c.push_reserved.ensures.items c.loop-index.invariant.count;
      room = omega (arith, c.push_reserved.ensures.capacity, c.loop-index.invariant.room);
      numbers = table_push (number_of nodes) c.loop-index.numbers.items c.push_reserved.new.self.items c.number_in.result None i c.push_reserved.ensures.items c.loop-index.invariant.count number c.loop-index.invariant.numbers;
    }

pub returns : goal.returns
returns c =
    let end : c.loop-index.index ≡ length c.args.nodes.now.nodes = omega arith in
    record {
      few = omega (arith, c.loop-index.invariant.few, c.len-index-end.type_inv);
      functions = c.loop-index.invariant.functions ∙ ap (functions_before c.args.nodes.now.nodes) end;
      numbers = table_all (number_of c.args.nodes.now.nodes) c.loop-index.numbers.items None c.loop-index.index (length c.args.nodes.now.nodes) c.loop-index.invariant.count (omega arith) c.loop-index.invariant.numbers (number_past c.args.nodes.now.nodes);
    }
