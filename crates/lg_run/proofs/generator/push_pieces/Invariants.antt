use Rattle.std.proofs.Common.{◌≡◌, ◌++◌, ◌-◌}
use Rattle.lg_run.specs.Made.{pieces}
use Rattle.lg_run.proofs.generator.push_pieces.Given as goal

abbrev pub invariant-loop : goal.invariant-loop
invariant-loop l = record {
  text : l.fn.text ++ (pieces 64 l.fn.from).0 ≡ l.text ++ (pieces (64 - l.counter) l.state).0;
  state : (pieces 64 l.fn.from).1 ≡ (pieces (64 - l.counter) l.state).1;
}
