use Rattle.lg_selx.proofs.OfControl.AlignLemmas.{alignments-align}
use Rattle.lg_selx.proofs.control.laws.alignments_align.Goals as goal

pub returns : goal.returns
returns c = alignments-align
