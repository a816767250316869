use Rattle.std.proofs.Common.{◌≤◌, length, ◌∙◌, arith}
use Rattle.std.specs.Vec.{with_items}
use Rattle.std.proofs.lemmas.List.{with_items_is}
use Rattle.lg_base.proofs.HeldLemmas.{from_end_length, end_written, kept_fits}
use Rattle.lg_base.proofs.memory.stack.Stack.store.Goals as goal

pub returns-clause-bytes : goal.returns-clause-bytes
returns-clause-bytes c =
    let new = c.write_number.new.held in
    let held = c.reach.new.bytes in
    let kept = with_items_is held new (c.write_number.auto.held ∙ c.deref_mut.ensures.len) in
    let fits : length held.items ≤ 0x100000 = c.reach.ensures.most 0x100000 c.self.invariant.0 (omega (arith, c.requires.inside)) in
    let still = kept_fits 0x100000 held.items c.deref_mut.result.now new (with_items held new).items fits c.deref_mut.ensures.value c.write_number.auto.held kept in
    rw (← c.self.view_is) (end_written 0x100000 c.self.inside.held.items held.items c.deref_mut.result.now new (with_items held new).items c.args.at c.args.width c.args.value
    c.self.invariant.0 still c.reach.ensures.same c.deref_mut.ensures.value c.write_number.ensures kept)

pub returns-clause-len : goal.returns-clause-len
returns-clause-len c =
    let new = c.write_number.new.held in
    let held = c.reach.new.bytes in
    let kept = with_items_is held new (c.write_number.auto.held ∙ c.deref_mut.ensures.len) in
    let fits : length held.items ≤ 0x100000 = c.reach.ensures.most 0x100000 c.self.invariant.0 (omega (arith, c.requires.inside)) in
    from_end_length 0x100000 (with_items held new).items (kept_fits 0x100000 held.items c.deref_mut.result.now new (with_items held new).items fits c.deref_mut.ensures.value c.write_number.auto.held kept)
