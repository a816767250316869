use Rattle.std.proofs.Common.{◌≡◌, ◌≤◌, ◌-◌, [], length}
use Rattle.lg_macro.specs.Arguments.{solid_len}
use Rattle.lg_pre.specs.Windows.{FlushedOn}
use Rattle.lg_pre.proofs.flush.flush_front.Given as goal

abbrev pub invariant-names : goal.invariant-names
invariant-names l = (l.last ≡ solid_len l.pieces - 1) × (l.last ≤ length l.pieces) × (l.at ≤ length l.pieces) × (l.work.hidden.items ≡ [])
    × FlushedOn l.table l.pieces l.at l.fn.given l.given l.fn.work.sum l.work.sum

abbrev pub decreases-names : goal.decreases-names
decreases-names l = length l.pieces - l.at
