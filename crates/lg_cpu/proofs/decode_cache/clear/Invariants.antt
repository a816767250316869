use Rattle.std.proofs.Common.{◌≡◌, ◌<◌, ℕ, length, slice_index_or}
use Rattle.lg_cpu.specs.declared.decode_cache.Decoded.{Decoded}
use Rattle.lg_cpu.proofs.decode_cache.clear.Given as goal

abbrev pub invariant-slots : goal.invariant-slots
invariant-slots g l = (length l.entries ≡ length l.initial.entries) × ((k : ℕ) (d : Decoded g.row.I.Denot) → k < l.slot → g.I.Decodable.slot (slice_index_or l.entries k d).pc ≡ k → ⊥)
