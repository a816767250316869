use Rattle.std.proofs.Common.{Some, sym, refl, subst}
use Rattle.lg_cells.specs.Memories.{Marked, IsSpan}
use Rattle.lg_cells.proofs.PlaceLemmas.{word_bytes, word_rooms, word_writable, word_marked}
use Rattle.lg_cells.proofs.memory.CellMemory.put_word.Goals as goal

pub invariant_of-self-2 : goal.invariant_of-self-2
invariant_of-self-2 c =
    let m : Marked = record { data_size = c.self.inside.data_size; args_size = c.self.inside.args_size; mark = c.self.inside.mark; low = c.self.inside.low; stack = c.self.inside.stack } in
    word_marked m c.put_word.new.self c.self.invariant c.put_word.ensures.kept c.put_word.ensures.rooms

pub returns-clause-done : goal.returns-clause-done
returns-clause-done c =
    let m : Marked = record { data_size = c.self.inside.data_size; args_size = c.self.inside.args_size; mark = c.self.inside.mark; low = c.self.inside.low; stack = c.self.inside.stack } in
    let sp : IsSpan m c.args.address c.args.width (Some c.in-Some.at) = subst (λ (s : Marked). IsSpan s c.args.address c.args.width (Some c.in-Some.at)) (sym c.self.view_is) c.in-Some.ensures in
    rw (← c.self.view_is) (sym (word_writable m c.args.address c.in-Some.at c.args.width sp.1 (c.put_word.ensures.places c.if-put_word.true)))

pub returns-clause-bytes : goal.returns-clause-bytes
returns-clause-bytes c =
    let m : Marked = record { data_size = c.self.inside.data_size; args_size = c.self.inside.args_size; mark = c.self.inside.mark; low = c.self.inside.low; stack = c.self.inside.stack } in
    let sp : IsSpan m c.args.address c.args.width (Some c.in-Some.at) = subst (λ (s : Marked). IsSpan s c.args.address c.args.width (Some c.in-Some.at)) (sym c.self.view_is) c.in-Some.ensures in
    let n : Marked = record m { low = c.put_word.new.self } in
    rw (← c.self.view_is) (word_bytes m n c.args.address c.in-Some.at c.args.width c.args.value record { data_same = refl; args_same = refl; mark_same = refl } refl (c.if-put_word.ensures.bytes) sp.1)

pub returns-clause-rooms : goal.returns-clause-rooms
returns-clause-rooms c =
    let m : Marked = record { data_size = c.self.inside.data_size; args_size = c.self.inside.args_size; mark = c.self.inside.mark; low = c.self.inside.low; stack = c.self.inside.stack } in
    let n : Marked = record m { low = c.put_word.new.self } in
    rw (← c.self.view_is) (word_rooms m n record { data_same = refl; args_same = refl; mark_same = refl } refl c.put_word.ensures.rooms)
