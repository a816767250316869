use Rattle.lg_pre.proofs.GivenLaws.{given_bytes_stay as law}
use Rattle.lg_pre.proofs.laws.given_bytes_stay.Goals as goal

pub returns : goal.returns
returns c = law
