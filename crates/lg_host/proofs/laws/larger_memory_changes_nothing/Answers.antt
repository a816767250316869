use Rattle.lg_host.proofs.HostLawLemmas.{host_of-kept}
use Rattle.lg_host.proofs.laws.larger_memory_changes_nothing.Goals as goal

pub returns : goal.returns
returns c = host_of-kept
