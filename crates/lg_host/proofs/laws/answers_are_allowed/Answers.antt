use Rattle.lg_host.proofs.HostLawLemmas.{host_of-allowed}
use Rattle.lg_host.proofs.laws.answers_are_allowed.Goals as goal

pub returns : goal.returns
returns c = host_of-allowed
