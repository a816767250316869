use Rattle.lg_cpu.proofs.TargetLemmas.{targets-stay-sound}
use Rattle.lg_cpu.proofs.laws.words_stay_words.Goals as goal

pub returns : goal.returns
returns c = targets-stay-sound
