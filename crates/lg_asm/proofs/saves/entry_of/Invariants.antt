use Rattle.std.proofs.Common.{◌≡◌}
use Rattle.lg_carry.specs.Entries.{entry_at}
use Rattle.lg_asm.proofs.saves.entry_of.Given as goal

abbrev pub invariant-nodes : goal.invariant-nodes
invariant-nodes l = entry_at l.nodes 0 ≡ entry_at l.nodes l.index
