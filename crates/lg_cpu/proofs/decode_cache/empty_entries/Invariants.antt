use Rattle.std.proofs.Common.{◌≤◌, ◌-◌, length}
use Rattle.lg_cpu.specs.Decodings.{AreEmpty}
use Rattle.lg_cpu.proofs.decode_cache.empty_entries.Given as goal

abbrev pub invariant-slots : goal.invariant-slots
invariant-slots g l = (length l.entries.items ≤ 4096) × AreEmpty g.I.Decodable.slot l.entries.items

abbrev pub decreases-slots : goal.decreases-slots
decreases-slots g l = 4096 - length l.entries.items
