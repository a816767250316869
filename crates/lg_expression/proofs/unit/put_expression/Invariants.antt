use Rattle.std.proofs.Common.{◌≡◌, ◌≤◌, drop, true}
use Rattle.lg_expression.specs.Steps.{is_whole}
use Rattle.lg_expression.specs.Units.{nodes_of, put_nodes}
use Rattle.lg_expression.proofs.unit.put_expression.Given as goal

abbrev pub invariant-loop-step : goal.invariant-loop-step
invariant-loop-step l = record {
  nodes : put_nodes l.nodes (nodes_of l.values (drop l.step-index l.step-items)) ≡ put_nodes l.fn.nodes (nodes_of 0 l.step-items);
  whole : is_whole l.values (drop l.step-index l.step-items) ≡ true;
  most : l.values ≤ 32;
}
