use Rattle.std.proofs.Common.{◌≡◌, Some, sym, ◌∙◌, subst}
use Rattle.lg_base.specs.Spaces.{loaded}
use Rattle.lg_cells.specs.Cells.{byte_of}
use Rattle.lg_cells.specs.Memories.{Marked, IsSpan}
use Rattle.lg_cells.proofs.PlaceLemmas.{word_loads}
use Rattle.lg_cells.proofs.memory.CellMemory.load.Goals as goal

pub returns : goal.returns
returns c =
    let m : Marked = record { data_size = c.self.inside.data_size; args_size = c.self.inside.args_size; mark = c.self.inside.mark; low = c.self.inside.low; stack = c.self.inside.stack } in
    let sp : IsSpan m c.args.address c.args.width (Some c.in-Some.at) = subst (λ (s : Marked). IsSpan s c.args.address c.args.width (Some c.in-Some.at)) (sym c.self.view_is) c.in-Some.ensures in
    let word : loaded (byte_of m.low) c.in-Some.at c.args.width ≡ Some c.in-Some-word.word = c.in-Some-word.ensures in
    rw (← c.self.view_is) (sym (word_loads m c.args.address c.in-Some.at c.args.width sp.1 ∙ word))
