use Rattle.std.proofs.Common.{◌≡◌, ◌∙◌, sym}
use Rattle.std.specs.Prelude.{slice_index}
use Rattle.lg_cells.proofs.PartLemmas.{full_1}
use Rattle.lg_cells.proofs.WordLemmas.{number_1}
use Rattle.lg_cells.proofs.part.word_in.Goals as goal

pub returns-then-marks-at-eq-WRITTEN : goal.returns-then-marks-at-eq-WRITTEN
returns-then-marks-at-eq-WRITTEN c =
    let one : c.args.width ≡ 1 = c.if-width-eq1.true in
    record {
      all = rw one (full_1 c.args.marks.now c.args.at c.if-marks-at-eq-WRITTEN.true);
      word_is = rw one (c.from.ensures ∙ sym (number_1 (slice_index c.args.bytes.now) c.args.at));
    }
