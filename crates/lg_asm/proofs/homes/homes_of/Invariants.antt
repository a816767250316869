use Rattle.std.proofs.Common.{◌≡◌, ◌+◌, ◌≤◌}
use Rattle.std.specs.Prelude.{slice_range}
use Rattle.lg_carry.specs.Homes.{homes_of}
use Rattle.lg_asm.proofs.homes.homes_of.Given as goal

abbrev pub invariant-nodes : goal.invariant-nodes
invariant-nodes l = (l.first ≤ l.index) × (l.index ≤ l.last + 1) × (l.homes ≡ homes_of (slice_range l.list.nodes l.first l.index))
