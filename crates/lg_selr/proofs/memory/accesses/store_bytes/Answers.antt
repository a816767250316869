use Rattle.std.proofs.Common.{arith}
use Rattle.lg_selr.proofs.OfMemory.EmissionLemmas.{appended}
use Rattle.lg_selr.proofs.memory.accesses.store_bytes.Goals as goal

pub higher_bytes-requires-clause-room : goal.higher_bytes-requires-clause-room
higher_bytes-requires-clause-room c = let first = appended c.args.items.now _ _ c.one-in-Short.ensures in omega (arith, first, c.requires)

pub higher_bytes-requires-in-Int-clause-room : goal.higher_bytes-requires-in-Int-clause-room
higher_bytes-requires-in-Int-clause-room c = let first = appended c.args.items.now _ _ c.one-in-Int.ensures in omega (arith, first, c.requires)
