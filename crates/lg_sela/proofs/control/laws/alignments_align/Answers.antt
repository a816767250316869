use Rattle.lg_sela.proofs.OfControl.AlignLemmas.{alignments-align}
use Rattle.lg_sela.proofs.control.laws.alignments_align.Goals as goal

pub returns : goal.returns
returns c = alignments-align
