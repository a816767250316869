use Rattle.std.proofs.Common.{◌≡◌, drop, take}
use Rattle.std.specs.Prelude.{fold}
use Rattle.lg_explain.specs.BadBytes.{gap_after, gap_from}
use Rattle.lg_explain.proofs.bad_byte.gap_at.Given as goal

abbrev pub invariant-loop-byte : goal.invariant-loop-byte
invariant-loop-byte l = l.gap ≡ fold gap_after (gap_from l.place) (take l.byte-index (drop l.place l.text))
