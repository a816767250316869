use Rattle.std.proofs.Common.{◌≡◌, ◌≤◌, ◌-◌, length, sym, ap, ◌∙◌, arith, true, false}
use Rattle.lg_base.specs.Parts.{Parts, IsSized, lies_in, byte_at, data_base, args_base, heap_base, stack_base}
use Rattle.lg_base.specs.Spaces.{mapped, written}
use Rattle.std.specs.Prelude.{slice_index}
use Rattle.std.proofs.lemmas.List.{with_items_is}
use Rattle.lg_base.proofs.PartLemmas.{data_is, args_is, heap_is, stack_is, data_changed, args_changed, heap_changed, stack_changed, store_found, store_done, loaded-nowhere, least, most}
use Rattle.lg_base.proofs.memory.Memory.store.Goals as goal

pub returns-then-lies_in-clause-done : goal.returns-then-lies_in-clause-done
returns-then-lies_in-clause-done c =
    let p : Parts = record { data_part = c.self.inside.data.items; args_part = c.self.inside.args.items; heap_part = c.self.inside.heap; stack_part = c.self.inside.stack } in
    let fits_data : lies_in data_base p.data_part c.args.address c.args.width ≡ true = ap (λ xs. lies_in data_base xs c.args.address c.args.width) (sym c.deref.ensures.value) ∙ sym c.lies_in.ensures ∙ c.if-lies_in.true in
    rw (← c.self.view_is) (store_found p data_base p.data_part c.args.address c.args.width (data_is p) fits_data)

pub returns-then-lies_in-clause-bytes : goal.returns-then-lies_in-clause-bytes
returns-then-lies_in-clause-bytes c =
    let p : Parts = record { data_part = c.self.inside.data.items; args_part = c.self.inside.args.items; heap_part = c.self.inside.heap; stack_part = c.self.inside.stack } in
    let fits_data : lies_in data_base p.data_part c.args.address c.args.width ≡ true = ap (λ xs. lies_in data_base xs c.args.address c.args.width) (sym c.deref.ensures.value) ∙ sym c.lies_in.ensures ∙ c.if-lies_in.true in
    let new = c.write_number.new.bytes in
    let same : length new ≡ length p.data_part = c.write_number.auto.bytes ∙ ap length c.deref_mut.ensures.value in
    let kept = with_items_is c.self.inside.«data» new (c.write_number.auto.bytes ∙ c.deref_mut.ensures.len) in
    let changed : Parts = record p { data_part = new } in
    let write : slice_index new ≡ written (slice_index p.data_part) (c.args.address - data_base) c.args.width c.args.value = c.write_number.ensures ∙ ap (λ xs. written (slice_index xs) (c.args.address - data_base) c.args.width c.args.value) c.deref_mut.ensures.value in
    rw (kept, ← c.self.view_is) (store_done p changed data_base p.data_part new c.args.address c.args.width c.args.value (data_is p) (data_is changed) (data_changed p new same) fits_data same write)

pub returns-then-lies_in_fixed-clause-done : goal.returns-then-lies_in_fixed-clause-done
returns-then-lies_in_fixed-clause-done c =
    let p : Parts = record { data_part = c.self.inside.data.items; args_part = c.self.inside.args.items; heap_part = c.self.inside.heap; stack_part = c.self.inside.stack } in
    let fits_stack : lies_in stack_base p.stack_part c.args.address c.args.width ≡ true = sym (c.lies_in_fixed.ensures p.stack_part c.self.invariant.stack_len) ∙ c.if-lies_in_fixed.true in
    rw (← c.self.view_is) (store_found p stack_base p.stack_part c.args.address c.args.width (stack_is p c.self.invariant) fits_stack)

pub returns-then-lies_in_fixed-clause-bytes : goal.returns-then-lies_in_fixed-clause-bytes
returns-then-lies_in_fixed-clause-bytes c =
    let p : Parts = record { data_part = c.self.inside.data.items; args_part = c.self.inside.args.items; heap_part = c.self.inside.heap; stack_part = c.self.inside.stack } in
    let fits_stack : lies_in stack_base p.stack_part c.args.address c.args.width ≡ true = sym (c.lies_in_fixed.ensures p.stack_part c.self.invariant.stack_len) ∙ c.if-lies_in_fixed.true in
    let new = c.store.new.self in
    let same : length new ≡ length p.stack_part = c.store.ensures.len ∙ sym c.self.invariant.stack_len in
    let changed : Parts = record p { stack_part = new } in
    let sized : IsSized changed = record { data_len = c.self.invariant.data_len; args_len = c.self.invariant.args_len; heap_len = c.self.invariant.heap_len; stack_len = c.store.ensures.len } in
    rw (← c.self.view_is) (store_done p changed stack_base p.stack_part new c.args.address c.args.width c.args.value (stack_is p c.self.invariant) (stack_is changed sized) (stack_changed p new same) fits_stack same c.store.ensures.bytes)

pub returns-then-lies_in_fixed-2-clause-done : goal.returns-then-lies_in_fixed-2-clause-done
returns-then-lies_in_fixed-2-clause-done c =
    let p : Parts = record { data_part = c.self.inside.data.items; args_part = c.self.inside.args.items; heap_part = c.self.inside.heap; stack_part = c.self.inside.stack } in
    let fits_heap : lies_in heap_base p.heap_part c.args.address c.args.width ≡ true = sym (c.lies_in_fixed-2.ensures p.heap_part c.self.invariant.heap_len) ∙ c.if-lies_in_fixed-2.true in
    rw (← c.self.view_is) (store_found p heap_base p.heap_part c.args.address c.args.width (heap_is p c.self.invariant) fits_heap)

pub returns-then-lies_in_fixed-2-clause-bytes : goal.returns-then-lies_in_fixed-2-clause-bytes
returns-then-lies_in_fixed-2-clause-bytes c =
    let p : Parts = record { data_part = c.self.inside.data.items; args_part = c.self.inside.args.items; heap_part = c.self.inside.heap; stack_part = c.self.inside.stack } in
    let fits_heap : lies_in heap_base p.heap_part c.args.address c.args.width ≡ true = sym (c.lies_in_fixed-2.ensures p.heap_part c.self.invariant.heap_len) ∙ c.if-lies_in_fixed-2.true in
    let new = c.store-then-lies_in_fixed-2.new.self in
    let same : length new ≡ length p.heap_part = c.store-then-lies_in_fixed-2.ensures.len ∙ sym c.self.invariant.heap_len in
    let changed : Parts = record p { heap_part = new } in
    let sized : IsSized changed = record { data_len = c.self.invariant.data_len; args_len = c.self.invariant.args_len; heap_len = c.store-then-lies_in_fixed-2.ensures.len; stack_len = c.self.invariant.stack_len } in
    rw (← c.self.view_is) (store_done p changed heap_base p.heap_part new c.args.address c.args.width c.args.value (heap_is p c.self.invariant) (heap_is changed sized) (heap_changed p new same) fits_heap same c.store-then-lies_in_fixed-2.ensures.bytes)

pub returns-then-lies_in-2-clause-done : goal.returns-then-lies_in-2-clause-done
returns-then-lies_in-2-clause-done c =
    let p : Parts = record { data_part = c.self.inside.data.items; args_part = c.self.inside.args.items; heap_part = c.self.inside.heap; stack_part = c.self.inside.stack } in
    let fits_args : lies_in args_base p.args_part c.args.address c.args.width ≡ true = ap (λ xs. lies_in args_base xs c.args.address c.args.width) (sym c.deref-2.ensures.value) ∙ sym c.lies_in-2.ensures ∙ c.if-lies_in-2.true in
    rw (← c.self.view_is) (store_found p args_base p.args_part c.args.address c.args.width (args_is p c.self.invariant) fits_args)

pub returns-then-lies_in-2-clause-bytes : goal.returns-then-lies_in-2-clause-bytes
returns-then-lies_in-2-clause-bytes c =
    let p : Parts = record { data_part = c.self.inside.data.items; args_part = c.self.inside.args.items; heap_part = c.self.inside.heap; stack_part = c.self.inside.stack } in
    let fits_args : lies_in args_base p.args_part c.args.address c.args.width ≡ true = ap (λ xs. lies_in args_base xs c.args.address c.args.width) (sym c.deref-2.ensures.value) ∙ sym c.lies_in-2.ensures ∙ c.if-lies_in-2.true in
    let new = c.write_number-then-lies_in-2.new.bytes in
    let same : length new ≡ length p.args_part = c.write_number-then-lies_in-2.auto.bytes ∙ ap length c.deref_mut-then-lies_in-2.ensures.value in
    let kept = with_items_is c.self.inside.args new (c.write_number-then-lies_in-2.auto.bytes ∙ c.deref_mut-then-lies_in-2.ensures.len) in
    let changed : Parts = record p { args_part = new } in
    let write : slice_index new ≡ written (slice_index p.args_part) (c.args.address - args_base) c.args.width c.args.value = c.write_number-then-lies_in-2.ensures ∙ ap (λ xs. written (slice_index xs) (c.args.address - args_base) c.args.width c.args.value) c.deref_mut-then-lies_in-2.ensures.value in
    let sized : IsSized changed = record { data_len = c.self.invariant.data_len; args_len = omega (arith, same, c.self.invariant.args_len); heap_len = c.self.invariant.heap_len; stack_len = c.self.invariant.stack_len } in
    rw (kept, ← c.self.view_is) (store_done p changed args_base p.args_part new c.args.address c.args.width c.args.value (args_is p c.self.invariant) (args_is changed sized) (args_changed p new same) fits_args same write)

pub returns-clause-done : goal.returns-clause-done
returns-clause-done c =
    let p : Parts = record { data_part = c.self.inside.data.items; args_part = c.self.inside.args.items; heap_part = c.self.inside.heap; stack_part = c.self.inside.stack } in
    let fits_data : lies_in data_base p.data_part c.args.address c.args.width ≡ false = ap (λ xs. lies_in data_base xs c.args.address c.args.width) (sym c.deref.ensures.value) ∙ sym c.lies_in.ensures ∙ c.if-lies_in.false in
    let fits_stack : lies_in stack_base p.stack_part c.args.address c.args.width ≡ false = sym (c.lies_in_fixed.ensures p.stack_part c.self.invariant.stack_len) ∙ c.if-lies_in_fixed.false in
    let fits_heap : lies_in heap_base p.heap_part c.args.address c.args.width ≡ false = sym (c.lies_in_fixed-2.ensures p.heap_part c.self.invariant.heap_len) ∙ c.if-lies_in_fixed-2.false in
    let fits_args : lies_in args_base p.args_part c.args.address c.args.width ≡ false = ap (λ xs. lies_in args_base xs c.args.address c.args.width) (sym c.deref-2.ensures.value) ∙ sym c.lies_in-2.ensures ∙ c.if-lies_in-2.false in
    let some : 1 ≤ c.args.width = least c.args.width c.requires in
    let few : c.args.width ≤ 8 = most c.args.width c.requires in
    let none : mapped (byte_at p) c.args.address c.args.width ≡ false = loaded-nowhere p c.args.address c.args.width c.self.invariant some few fits_data fits_args fits_heap fits_stack in
    rw (← c.self.view_is) (sym none)
