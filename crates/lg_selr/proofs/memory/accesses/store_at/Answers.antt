use Rattle.std.proofs.Common.{arith}
use Rattle.lg_selr_values.proofs.ItemLemmas.{words-ones}
use Rattle.lg_selr.specs.Memory.Accesses.{store_bytes}
use Rattle.lg_selr.proofs.OfMemory.EmissionLemmas.{appended, store_bytes_few}
use Rattle.lg_selr.proofs.memory.accesses.store_at.Goals as goal

pub one-requires-else-whole : goal.one-requires-else-whole
one-requires-else-whole c = let test = appended c.args.items.now _ _ c.put_test.ensures in omega (arith, test, c.requires)

pub store_bytes-requires : goal.store_bytes-requires
store_bytes-requires c =
    let test = appended c.args.items.now _ _ c.put_test.ensures in
    let first = appended c.put_test.new.items _ _ c.one-else-whole.ensures in
    omega (arith, test, first, c.requires)

pub all-requires : goal.all-requires
all-requires c =
    let test = appended c.args.items.now _ _ c.put_test.ensures in
    let first = appended c.put_test.new.items _ _ c.one-else-whole.ensures in
    let slow = appended c.one-else-whole.new.self _ _ c.store_bytes.ensures in
    let words = words-ones (store_bytes c.args.t c.args.from c.args.u) in
    let few = store_bytes_few c.args.t c.args.from c.args.u in
    omega (arith, test, first, slow, words, few, c.requires)
