use Rattle.std.proofs.Common.{◌+◌, ◌/◌, sym, ap, ◌∙◌}
use Rattle.std.specs.Prelude.{slice_index}
use Rattle.lg_base.specs.Spaces.{written}
use Rattle.lg_cells.proofs.WordLemmas.{written_2}
use Rattle.lg_cells.proofs.word.put_2.Goals as goal

pub returns : goal.returns
returns c =
    c.put_1-2.ensures
    ∙ ap (λ f. written f (c.args.at + 1) 1 (c.args.value / 256)) c.put_1.ensures
    ∙ sym (written_2 (slice_index c.args.bytes.now) c.args.at c.args.value)
