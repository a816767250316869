use Rattle.lg_pre.proofs.PlainLaws.{plain_texts_stay as law}
use Rattle.lg_pre.proofs.laws.plain_texts_stay.Goals as goal

pub returns : goal.returns
returns c = law
