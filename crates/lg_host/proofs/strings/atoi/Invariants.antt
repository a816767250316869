use Rattle.std.proofs.Common.{◌≡◌}
use Rattle.lg_host.specs.Runs.{run}
use Rattle.lg_host.specs.Strings.{atoi_in}
use Rattle.lg_host.proofs.strings.atoi.Given as goal

abbrev pub invariant-loop-at : goal.invariant-loop-at
invariant-loop-at g l = atoi_in (run (g.S.Space.byte_of l.mem) l.from) ≡ atoi_in (run (g.S.Space.byte_of l.mem) l.at)
