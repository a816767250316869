use Rattle.lg_asm.proofs.SavesLemmas.{frames-save-few}
use Rattle.lg_asm.proofs.laws.frames_save_few.Goals as goal

pub returns : goal.returns
returns c = frames-save-few
