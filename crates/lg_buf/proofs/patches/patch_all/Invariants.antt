use Rattle.std.proofs.Common.{◌≡◌}
use Rattle.lg_buf.specs.Buffers.{AreDone}
use Rattle.lg_buf.proofs.patches.patch_all.Given as goal

-- the fixes before the index are done
abbrev pub invariant-fixes : goal.invariant-fixes
invariant-fixes l = AreDone l.labels l.fixes l.fix-index l.initial.store.items l.store.items × (l.store.size ≡ l.initial.store.size)
