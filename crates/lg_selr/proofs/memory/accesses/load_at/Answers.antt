use Rattle.std.proofs.Common.{arith}
use Rattle.lg_selr_values.proofs.ItemLemmas.{words-ones}
use Rattle.lg_selr.specs.Memory.Accesses.{slow_load}
use Rattle.lg_selr.proofs.OfMemory.EmissionLemmas.{appended, slow_load_few}
use Rattle.lg_selr.proofs.memory.accesses.load_at.Goals as goal

pub slow_load-requires : goal.slow_load-requires
slow_load-requires c = let test = appended c.args.items.now _ _ c.put_test.ensures in omega (arith, test, c.requires)

pub all-requires : goal.all-requires
all-requires c =
    let test = appended c.args.items.now _ _ c.put_test.ensures in
    let slow = appended c.put_test.new.items _ _ c.slow_load.ensures in
    let words = words-ones (slow_load c.args.t c.args.d c.args.u c.args.base.register c.args.base.offset) in
    let few = slow_load_few c.args.t c.args.d c.args.u c.args.base.register c.args.base.offset in
    omega (arith, test, slow, words, few, c.requires)
