use Rattle.std.proofs.Common.{◌≡◌, ◌≤◌, drop}
use Rattle.lg_expression.specs.Steps.{is_whole}
use Rattle.lg_expression.proofs.expression.is_whole.Given as goal

abbrev pub invariant-loop-step : goal.invariant-loop-step
invariant-loop-step l = record {
  rest : is_whole l.values (drop l.step-index l.steps) ≡ is_whole 0 l.steps;
  most : l.values ≤ 32;
}
