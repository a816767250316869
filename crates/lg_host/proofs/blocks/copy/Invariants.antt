use Rattle.std.proofs.Common.{◌≡◌}
use Rattle.lg_host.specs.Blocks.{over, copied}
use Rattle.lg_host.proofs.blocks.copy.Given as goal

abbrev pub invariant-loop-i : goal.invariant-loop-i
invariant-loop-i g l = record {
  told : g.S.Space.byte_of l.mem ≡ over (copied (g.S.Space.byte_of l.fn.mem) l.to l.from l.i) (g.S.Space.byte_of l.fn.mem);
  rooms : g.S.Space.room l.mem ≡ g.S.Space.room l.fn.mem;
}
