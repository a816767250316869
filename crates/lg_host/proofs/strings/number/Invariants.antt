use Rattle.std.proofs.Common.{◌≡◌, ◌≤◌}
use Rattle.lg_host.specs.Runs.{run}
use Rattle.lg_host.specs.Strings.{number_in}
use Rattle.lg_host.proofs.strings.number.Given as goal

abbrev pub invariant-loop-at : goal.invariant-loop-at
invariant-loop-at g l = record {
  small : l.value ≤ 0x80000000;
  told : number_in l.negative 0 (run (g.S.Space.byte_of l.mem) l.from) ≡ number_in l.negative l.value (run (g.S.Space.byte_of l.mem) l.at);
}
