use Rattle.std.proofs.Common.{◌≡◌, ◌+◌, ◌-◌}
use Rattle.lg_base.specs.Spaces.{mapped}
use Rattle.lg_host.proofs.blocks.can_get_all.Given as goal

abbrev pub invariant-loop-i : goal.invariant-loop-i
invariant-loop-i g l = mapped (g.S.Space.byte_of l.mem) l.from l.count ≡ mapped (g.S.Space.byte_of l.mem) (l.from + l.i) (l.count - l.i)
