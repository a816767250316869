use Rattle.std.proofs.Common.{◌+◌, ◌/◌, sym, ap, ◌∙◌}
use Rattle.std.specs.Prelude.{slice_index}
use Rattle.lg_base.specs.Spaces.{written}
use Rattle.lg_cells.proofs.WordLemmas.{written_4}
use Rattle.lg_cells.proofs.word.put_4.Goals as goal

pub returns : goal.returns
returns c =
    c.put_2-2.ensures
    ∙ ap (λ f. written f (c.args.at + 2) 2 (c.args.value / 65536)) c.put_2.ensures
    ∙ sym (written_4 (slice_index c.args.bytes.now) c.args.at c.args.value)
