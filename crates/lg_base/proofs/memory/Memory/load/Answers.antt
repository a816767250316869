use Rattle.std.proofs.Common.{◌≡◌, ◌≤◌, refl, sym, ap, ◌∙◌, true, false}
use Rattle.lg_base.specs.Parts.{Parts, lies_in, byte_at, data_base, args_base, heap_base, stack_base}
use Rattle.lg_base.specs.Spaces.{mapped, number_at, byte_or_zero}
use Rattle.std.specs.Prelude.{Some, None, if◌then◌else◌}
use Rattle.lg_base.proofs.PartLemmas.{data_is, args_is, heap_is, stack_is, load_found, loaded-nowhere, least, most}
use Rattle.lg_base.proofs.memory.Memory.load.Goals as goal

pub returns-then-lies_in-clause-value : goal.returns-then-lies_in-clause-value
returns-then-lies_in-clause-value c =
    let p : Parts = record { data_part = c.self.inside.data.items; args_part = c.self.inside.args.items; heap_part = c.self.inside.heap; stack_part = c.self.inside.stack } in
    let fits_data : lies_in data_base p.data_part c.args.address c.args.width ≡ true = ap (λ xs. lies_in data_base xs c.args.address c.args.width) (sym c.deref.ensures.value) ∙ sym c.lies_in.ensures ∙ c.if-lies_in.true in
    rw (← c.self.view_is) (load_found p data_base p.data_part c.deref-then-lies_in.result.now c.args.address c.args.width c.number_in.result (data_is p) fits_data c.deref-then-lies_in.ensures.value c.number_in.ensures)

pub returns-then-lies_in_fixed-clause-value : goal.returns-then-lies_in_fixed-clause-value
returns-then-lies_in_fixed-clause-value c =
    let p : Parts = record { data_part = c.self.inside.data.items; args_part = c.self.inside.args.items; heap_part = c.self.inside.heap; stack_part = c.self.inside.stack } in
    let fits_stack : lies_in stack_base p.stack_part c.args.address c.args.width ≡ true = sym (c.lies_in_fixed.ensures p.stack_part c.self.invariant.stack_len) ∙ c.if-lies_in_fixed.true in
    rw (← c.self.view_is) (load_found p stack_base p.stack_part p.stack_part c.args.address c.args.width c.load.result (stack_is p c.self.invariant) fits_stack refl c.load.ensures)

pub returns-then-lies_in_fixed-2-clause-value : goal.returns-then-lies_in_fixed-2-clause-value
returns-then-lies_in_fixed-2-clause-value c =
    let p : Parts = record { data_part = c.self.inside.data.items; args_part = c.self.inside.args.items; heap_part = c.self.inside.heap; stack_part = c.self.inside.stack } in
    let fits_heap : lies_in heap_base p.heap_part c.args.address c.args.width ≡ true = sym (c.lies_in_fixed-2.ensures p.heap_part c.self.invariant.heap_len) ∙ c.if-lies_in_fixed-2.true in
    rw (← c.self.view_is) (load_found p heap_base p.heap_part p.heap_part c.args.address c.args.width c.load-then-lies_in_fixed-2.result (heap_is p c.self.invariant) fits_heap refl c.load-then-lies_in_fixed-2.ensures)

pub returns-then-lies_in-2-clause-value : goal.returns-then-lies_in-2-clause-value
returns-then-lies_in-2-clause-value c =
    let p : Parts = record { data_part = c.self.inside.data.items; args_part = c.self.inside.args.items; heap_part = c.self.inside.heap; stack_part = c.self.inside.stack } in
    let fits_args : lies_in args_base p.args_part c.args.address c.args.width ≡ true = ap (λ xs. lies_in args_base xs c.args.address c.args.width) (sym c.deref-2.ensures.value) ∙ sym c.lies_in-2.ensures ∙ c.if-lies_in-2.true in
    rw (← c.self.view_is) (load_found p args_base p.args_part c.deref-then-lies_in-2.result.now c.args.address c.args.width c.number_in-then-lies_in-2.result (args_is p c.self.invariant) fits_args c.deref-then-lies_in-2.ensures.value c.number_in-then-lies_in-2.ensures)

pub returns-clause-value : goal.returns-clause-value
returns-clause-value c =
    let p : Parts = record { data_part = c.self.inside.data.items; args_part = c.self.inside.args.items; heap_part = c.self.inside.heap; stack_part = c.self.inside.stack } in
    let fits_data : lies_in data_base p.data_part c.args.address c.args.width ≡ false = ap (λ xs. lies_in data_base xs c.args.address c.args.width) (sym c.deref.ensures.value) ∙ sym c.lies_in.ensures ∙ c.if-lies_in.false in
    let fits_stack : lies_in stack_base p.stack_part c.args.address c.args.width ≡ false = sym (c.lies_in_fixed.ensures p.stack_part c.self.invariant.stack_len) ∙ c.if-lies_in_fixed.false in
    let fits_heap : lies_in heap_base p.heap_part c.args.address c.args.width ≡ false = sym (c.lies_in_fixed-2.ensures p.heap_part c.self.invariant.heap_len) ∙ c.if-lies_in_fixed-2.false in
    let fits_args : lies_in args_base p.args_part c.args.address c.args.width ≡ false = ap (λ xs. lies_in args_base xs c.args.address c.args.width) (sym c.deref-2.ensures.value) ∙ sym c.lies_in-2.ensures ∙ c.if-lies_in-2.false in
    let some : 1 ≤ c.args.width = least c.args.width c.requires in
    let few : c.args.width ≤ 8 = most c.args.width c.requires in
    let none : mapped (byte_at p) c.args.address c.args.width ≡ false = loaded-nowhere p c.args.address c.args.width c.self.invariant some few fits_data fits_args fits_heap fits_stack in
    rw (← c.self.view_is) (sym (ap (λ b. if b then Some (number_at (byte_or_zero (byte_at p)) c.args.address c.args.width) else None) none))
