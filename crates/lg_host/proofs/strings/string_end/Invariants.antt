use Rattle.std.proofs.Common.{◌≡◌, ◌+◌, length}
use Rattle.std.specs.Option.{option_map}
use Rattle.lg_host.specs.Runs.{run}
use Rattle.lg_host.specs.Strings.{string_in}
use Rattle.lg_host.proofs.strings.string_end.Given as goal

abbrev pub invariant-loop-at : goal.invariant-loop-at
invariant-loop-at g l = option_map (λ string. l.from + length string) (string_in (run (g.S.Space.byte_of l.mem) l.from)) ≡ option_map (λ string. l.at + length string) (string_in (run (g.S.Space.byte_of l.mem) l.at))
