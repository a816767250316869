use Rattle.std.proofs.Common.{◌≡◌, ◌+◌, ◌-◌}
use Rattle.std.specs.Prelude.{slice_index}
use Rattle.lg_base.specs.Held.{turned}
use Rattle.lg_base.specs.Spaces.{written}
use Rattle.lg_base.proofs.memory.stack.write_number_of.Given as goal

abbrev pub invariant-loop-i : goal.invariant-loop-i
invariant-loop-i l = written (turned 0x100000 (slice_index l.held)) (l.at + l.i) (l.width - l.i) l.rest ≡ written (turned 0x100000 (slice_index l.initial.held)) l.at l.width l.initial.rest
