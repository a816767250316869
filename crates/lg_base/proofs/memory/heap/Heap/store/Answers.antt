use Rattle.std.proofs.Common.{◌≤◌, length, ◌∙◌, arith}
use Rattle.std.specs.Vec.{with_items}
use Rattle.std.proofs.lemmas.List.{with_items_is}
use Rattle.lg_base.proofs.HeldLemmas.{from_front_length, front_written, kept_fits}
use Rattle.lg_base.proofs.memory.heap.Heap.store.Goals as goal

pub returns-clause-bytes : goal.returns-clause-bytes
returns-clause-bytes c =
    let new = c.write_number.new.bytes in
    let held = c.reach.new.bytes in
    let kept = with_items_is held new (c.write_number.auto.bytes ∙ c.deref_mut.ensures.len) in
    rw (← c.self.view_is) (front_written 0x400000 c.self.inside.held.items held.items c.deref_mut.result.now new (with_items held new).items c.args.at c.args.width c.args.value
    c.reach.ensures.same c.deref_mut.ensures.value c.write_number.ensures kept)

pub returns-clause-len : goal.returns-clause-len
returns-clause-len c =
    let new = c.write_number.new.bytes in
    let held = c.reach.new.bytes in
    let kept = with_items_is held new (c.write_number.auto.bytes ∙ c.deref_mut.ensures.len) in
    let fits : length held.items ≤ 0x400000 = c.reach.ensures.most 0x400000 c.self.invariant.0 (omega (arith, c.requires.inside)) in
    from_front_length 0x400000 (with_items held new).items (kept_fits 0x400000 held.items c.deref_mut.result.now new (with_items held new).items fits c.deref_mut.ensures.value c.write_number.auto.bytes kept)
