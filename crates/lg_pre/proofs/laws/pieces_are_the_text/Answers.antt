use Rattle.lg_pre.proofs.TokenLaws.{pieces_are_the_text as law}
use Rattle.lg_pre.proofs.laws.pieces_are_the_text.Goals as goal

pub returns : goal.returns
returns c = law
