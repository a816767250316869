use Rattle.std.proofs.Common.{◌≡◌, ℕ, ◌+◌, ◌-◌, ◌<◌, ◌≤◌, true, Some, None, sym, ap, ◌∙◌, refl}
use Rattle.std.specs.Prelude.{◌==◌, if◌then◌else◌}
use Rattle.lg_cells.specs.declared.cell.Cell.TheVariants.{Holds}
use Rattle.lg_cells.specs.Memories.{Marked, place_of, room_at, cell_at}
use Rattle.lg_cells.proofs.PlaceLemmas.{low_changed, stack_changed, stack_room, place_none, put_bytes, put_rooms, set_marked}
use Rattle.lg_cells.proofs.memory.CellMemory.put_byte.Goals as goal

pub returns-then-address-ge-STACK-clause-bytes : goal.returns-then-address-ge-STACK-clause-bytes
returns-then-address-ge-STACK-clause-bytes c =
    let m : Marked = record { data_size = c.self.inside.data_size; args_size = c.self.inside.args_size; mark = c.self.inside.mark; low = c.self.inside.low; stack = c.self.inside.stack } in
    let n : Marked = record m { stack = c.set.new.self } in
    let i = c.self.invariant in
    let room : room_at m c.args.address ≡ true = ap (λ (s : Marked). room_at s c.args.address) c.self.view_is ∙ c.requires in
    let none : None ≡ place_of m.data_size m.args_size m.mark c.args.address = sym (place_none m.data_size m.args_size m.mark c.args.address i.data_small i.args_small i.mark_high c.if-address-ge-STACK.true) in
    let here = stack_room m c.args.address none room in
    let changed : (x : ℕ) → cell_at n x ≡ (if x == c.args.address then Holds c.args.byte else cell_at m x) = stack_changed m n c.args.address (Holds c.args.byte) record { data_same = refl; args_same = refl; mark_same = refl } refl c.set.ensures.cells none here.in_stack in
    rw (← c.self.view_is) (put_bytes m n c.args.address c.args.byte changed)

pub returns-then-address-ge-STACK-clause-rooms : goal.returns-then-address-ge-STACK-clause-rooms
returns-then-address-ge-STACK-clause-rooms c =
    let m : Marked = record { data_size = c.self.inside.data_size; args_size = c.self.inside.args_size; mark = c.self.inside.mark; low = c.self.inside.low; stack = c.self.inside.stack } in
    let n : Marked = record m { stack = c.set.new.self } in
    let i = c.self.invariant in
    let room : room_at m c.args.address ≡ true = ap (λ (s : Marked). room_at s c.args.address) c.self.view_is ∙ c.requires in
    let none : None ≡ place_of m.data_size m.args_size m.mark c.args.address = sym (place_none m.data_size m.args_size m.mark c.args.address i.data_small i.args_small i.mark_high c.if-address-ge-STACK.true) in
    let here = stack_room m c.args.address none room in
    let changed : (x : ℕ) → cell_at n x ≡ (if x == c.args.address then Holds c.args.byte else cell_at m x) = stack_changed m n c.args.address (Holds c.args.byte) record { data_same = refl; args_same = refl; mark_same = refl } refl c.set.ensures.cells none here.in_stack in
    rw (← c.self.view_is) (put_rooms m n c.args.address c.args.byte changed room)

pub invariant_of-self-in-Some : goal.invariant_of-self-in-Some
invariant_of-self-in-Some c =
    let m : Marked = record { data_size = c.self.inside.data_size; args_size = c.self.inside.args_size; mark = c.self.inside.mark; low = c.self.inside.low; stack = c.self.inside.stack } in
    set_marked m c.set-in-Some.new.self c.in-Some.at c.args.byte c.self.invariant c.set-in-Some.ensures.kept c.set-in-Some.ensures.cells

pub returns-in-Some-clause-bytes : goal.returns-in-Some-clause-bytes
returns-in-Some-clause-bytes c =
    let m : Marked = record { data_size = c.self.inside.data_size; args_size = c.self.inside.args_size; mark = c.self.inside.mark; low = c.self.inside.low; stack = c.self.inside.stack } in
    let n : Marked = record m { low = c.set-in-Some.new.self } in
    let changed : (x : ℕ) → cell_at n x ≡ (if x == c.args.address then Holds c.args.byte else cell_at m x) = low_changed m n c.args.address c.in-Some.at (Holds c.args.byte) record { data_same = refl; args_same = refl; mark_same = refl } refl c.set-in-Some.ensures.cells c.in-Some.ensures in
    rw (← c.self.view_is) (put_bytes m n c.args.address c.args.byte changed)

pub returns-in-Some-clause-rooms : goal.returns-in-Some-clause-rooms
returns-in-Some-clause-rooms c =
    let m : Marked = record { data_size = c.self.inside.data_size; args_size = c.self.inside.args_size; mark = c.self.inside.mark; low = c.self.inside.low; stack = c.self.inside.stack } in
    let n : Marked = record m { low = c.set-in-Some.new.self } in
    let changed : (x : ℕ) → cell_at n x ≡ (if x == c.args.address then Holds c.args.byte else cell_at m x) = low_changed m n c.args.address c.in-Some.at (Holds c.args.byte) record { data_same = refl; args_same = refl; mark_same = refl } refl c.set-in-Some.ensures.cells c.in-Some.ensures in
    let room : room_at m c.args.address ≡ true = ap (λ (s : Marked). room_at s c.args.address) c.self.view_is ∙ c.requires in
    rw (← c.self.view_is) (put_rooms m n c.args.address c.args.byte changed room)
