use Rattle.std.proofs.Common.{◌≡◌, ◌+◌, ◌-◌}
use Rattle.std.specs.Prelude.{slice_index}
use Rattle.lg_base.specs.Spaces.{written}
use Rattle.lg_base.proofs.memory.write_number_of.Given as goal

abbrev pub invariant-loop-i : goal.invariant-loop-i
invariant-loop-i l = written (slice_index l.bytes) (l.at + l.i) (l.width - l.i) l.rest ≡ written (slice_index l.initial.bytes) l.at l.width l.initial.rest
