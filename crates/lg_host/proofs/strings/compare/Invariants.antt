use Rattle.std.proofs.Common.{◌≡◌, ◌+◌}
use Rattle.lg_host.specs.Runs.{run}
use Rattle.lg_host.specs.Strings.{compared}
use Rattle.lg_host.proofs.strings.compare.Given as goal

abbrev pub invariant-loop-i : goal.invariant-loop-i
invariant-loop-i g l = compared (run (g.S.Space.byte_of l.mem) l.first) (run (g.S.Space.byte_of l.mem) l.second) ≡ compared (run (g.S.Space.byte_of l.mem) (l.first + l.i)) (run (g.S.Space.byte_of l.mem) (l.second + l.i))
