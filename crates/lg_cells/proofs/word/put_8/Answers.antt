use Rattle.std.proofs.Common.{◌+◌, ◌/◌, sym, ap, ◌∙◌}
use Rattle.std.specs.Prelude.{slice_index}
use Rattle.lg_base.specs.Spaces.{written}
use Rattle.lg_cells.proofs.WordLemmas.{written_8}
use Rattle.lg_cells.proofs.word.put_8.Goals as goal

pub returns : goal.returns
returns c =
    c.put_4-2.ensures
    ∙ ap (λ f. written f (c.args.at + 4) 4 (c.args.value / 4294967296)) c.put_4.ensures
    ∙ sym (written_8 (slice_index c.args.bytes.now) c.args.at c.args.value)
