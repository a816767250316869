use Rattle.std.proofs.Common.{◌≡◌, ◌+◌, drop}
use Rattle.lg_macro.specs.Cutting.{block_len}
use Rattle.lg_macro.proofs.cutting.block_len.Given as goal

abbrev pub invariant-loop-i : goal.invariant-loop-i
invariant-loop-i l = l.i + block_len (drop l.i l.bytes) ≡ block_len l.bytes
