use Rattle.std.proofs.Common.{◌≡◌, ◌++◌, ◌+◌, take}
use Rattle.lg_buf.proofs.store.copy_out.Given as goal

abbrev pub invariant-bytes : goal.invariant-bytes
invariant-bytes l =
    (l.region ≡ l.initial.region) × (l.out.items ≡ l.initial.out.items ++ take l.place l.initial.region.bytes) × (l.out.room + l.place ≡ l.initial.out.room)
