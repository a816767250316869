use Rattle.lg_cells.specs.Cells.{Marks}
use Rattle.lg_cells.proofs.PartLemmas.{some_word}
use Rattle.lg_cells.proofs.part.Part.word.Goals as goal

pub returns : goal.returns
returns c =
    let m : Marks = record { bytes = c.self.inside.bytes.items; marks = c.self.inside.marks.items; most = c.self.inside.most } in
    rw (← c.self.view_is) (some_word m c.deref.result.now c.deref-2.result.now c.args.at c.args.width c.word_in.result c.deref.ensures.value c.deref-2.ensures.value c.word_in.ensures)
