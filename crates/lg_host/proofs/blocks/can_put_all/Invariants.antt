use Rattle.std.proofs.Common.{◌≡◌, ◌+◌, ◌-◌}
use Rattle.lg_host.specs.Blocks.{can_write}
use Rattle.lg_host.proofs.blocks.can_put_all.Given as goal

abbrev pub invariant-loop-i : goal.invariant-loop-i
invariant-loop-i g l = can_write (g.S.Space.room l.mem) l.from l.count ≡ can_write (g.S.Space.room l.mem) (l.from + l.i) (l.count - l.i)
