use Rattle.std.proofs.Common.{◌≡◌, false, true, ◌-◌, ◌+◌, ◌<◌, ◌≤◌, length, vec_len}
use Rattle.std.specs.Io.KnownBytes.{Consumes}
use Rattle.lg_io.specs.Readings.{IsReadOn}
use Rattle.lg_run.specs.Reads.{most_piece}
use Rattle.lg_run.specs.Refused.{most_text}
use Rattle.lg_run.proofs.source.read_rest.Given as goal

abbrev pub invariant-loop-texts : goal.invariant-loop-texts
invariant-loop-texts g l = record {
  read : Consumes (g.T.Texts.left l.fn.texts) (g.T.Texts.left l.texts) l.text.items;
  room : 0 < length l.piece;
  piece : length l.piece ≤ most_piece;
  few : length l.text.items ≤ most_text + most_piece;
  same : g.T.Texts.faults l.texts ≡ g.T.Texts.faults l.fn.texts;
  sure : g.T.Texts.sure l.fn.texts ≡ true → g.T.Texts.sure l.texts ≡ true;
  before : (g.T.Texts.reading l.fn.texts).is_over ≡ false → (g.T.Texts.reading l.texts).is_over ≡ false;
  on : (g.T.Texts.reading l.fn.texts).is_over ≡ false → IsReadOn (g.T.Texts.reading l.fn.texts) (g.T.Texts.reading l.texts);
}

abbrev pub decreases-loop-texts : goal.decreases-loop-texts
decreases-loop-texts g l = most_text + 1 - vec_len l.text
