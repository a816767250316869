use Rattle.std.proofs.Common.{◌≡◌, ◌+◌, ◌++◌, take, map}
use Rattle.lg_buf.specs.Buffers.{place_or_zero}
use Rattle.lg_buf.proofs.buffer.add_places.Given as goal

-- the places before the index are appended
abbrev pub invariant-labels : goal.invariant-labels
invariant-labels l = (l.places.items ≡ l.initial.places.items ++ map place_or_zero (take l.label-index l.labels)) × (l.places.room + l.label-index ≡ l.initial.places.room)
