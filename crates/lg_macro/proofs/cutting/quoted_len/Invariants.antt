use Rattle.std.proofs.Common.{◌≡◌, ◌+◌, false, drop}
use Rattle.lg_macro.specs.Cutting.{quoted_len}
use Rattle.lg_macro.proofs.cutting.quoted_len.Given as goal

abbrev pub invariant-loop-i : goal.invariant-loop-i
invariant-loop-i l = l.i + quoted_len l.mark l.escaped (drop l.i l.bytes) ≡ quoted_len l.mark false l.bytes
