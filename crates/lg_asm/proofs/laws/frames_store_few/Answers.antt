use Rattle.lg_asm.proofs.HomesLemmas.{frames-store-few}
use Rattle.lg_asm.proofs.laws.frames_store_few.Goals as goal

pub returns : goal.returns
returns c = frames-store-few
