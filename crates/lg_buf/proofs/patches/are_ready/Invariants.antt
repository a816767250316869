use Rattle.std.proofs.Common.{ℕ, ◌<◌}
use Rattle.std.specs.Prelude.{slice_index_or}
use Rattle.lg_buf.specs.declared.fixes.Fix.{Fix}
use Rattle.lg_buf.specs.Buffers.{IsReady}
use Rattle.lg_buf.proofs.patches.are_ready.Given as goal

-- the fixes before the index are ready
abbrev pub invariant-fixes : goal.invariant-fixes
invariant-fixes l = (k : ℕ) → k < l.fix-index → (d : Fix) → IsReady l.labels (slice_index_or l.fixes k d)
