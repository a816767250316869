use Rattle.std.proofs.Common.{arith}
use Rattle.lg_cpu.proofs.CacheLemmas.{copied_at}
use Rattle.lg_cpu.proofs.decode_cache.lookup.Goals as goal

pub returns-clause-found : goal.returns-clause-found
returns-clause-found g c =
    let long = c.is_cached.ensures.len in
    let small = c.slot_of-slot.ensures.small in
    copied_at g.I.Decodable.front g.I.Decodable.valid g.I.Decodable.aligned g.I.Decodable.slot c.args.code.now c.is_cached.new.entries c.slot_of-slot.result c.args.pc c.index-entries-slot.result c.copied.result
    c.is_cached.ensures.right (omega (arith, long, small)) c.slot_of-slot.ensures.value c.index-entries-slot.is (c.is_cached.ensures.cached c.if-not-is_cached.false) c.copied.ensures
