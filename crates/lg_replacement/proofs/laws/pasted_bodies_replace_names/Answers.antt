use Rattle.lg_replacement.proofs.CallLaws.{pasted-bodies}
use Rattle.lg_replacement.proofs.laws.pasted_bodies_replace_names.Goals as goal

pub returns : goal.returns
returns c = pasted-bodies
