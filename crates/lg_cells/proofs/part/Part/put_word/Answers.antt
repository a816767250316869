use Rattle.std.proofs.Common.{ℕ, ap, ◌∙◌, refl, List}
use Rattle.std.specs.Prelude.{slice_index}
use Rattle.std.proofs.lemmas.List.{with_items_is}
use Rattle.std.specs.Vec.{with_items}
use Rattle.lg_base.specs.Spaces.{written}
use Rattle.lg_cells.specs.Cells.{Marks}
use Rattle.lg_cells.proofs.PartLemmas.{put_or_not}
use Rattle.lg_cells.proofs.part.Part.put_word.Goals as goal

pub returns-clause-bytes : goal.returns-clause-bytes
returns-clause-bytes c =
    let m : Marks = record { bytes = c.self.inside.bytes.items; marks = c.self.inside.marks.items; most = c.self.inside.most } in
    let same = with_items_is c.self.inside.bytes c.put_word_in.new.bytes (c.put_word_in.auto.bytes ∙ c.deref_mut.ensures.len) in
    let n : Marks = record { bytes = (with_items c.self.inside.bytes c.put_word_in.new.bytes).items; marks = m.marks; most = m.most } in
    rw (← c.self.view_is) (put_or_not m n c.put_word_in.result c.args.at c.args.width c.args.value refl
    (λ t. rw c.deref.ensures.value at (c.put_word_in.ensures.marked t))
    (λ t. ap (λ (l : List ℕ). slice_index l) same ∙ c.put_word_in.ensures.bytes t ∙ ap (λ (l : List ℕ). written (slice_index l) c.args.at c.args.width c.args.value) c.deref_mut.ensures.value)
    (λ t. same ∙ c.put_word_in.ensures.unchanged t ∙ c.deref_mut.ensures.value))
