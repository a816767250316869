use Rattle.lg_host.proofs.NumberLawLemmas.{reads-what-is-printed}
use Rattle.lg_host.proofs.laws.atoi_reads_what_is_printed.Goals as goal

pub returns : goal.returns
returns c = reads-what-is-printed
