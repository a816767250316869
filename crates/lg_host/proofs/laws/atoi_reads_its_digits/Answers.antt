use Rattle.lg_host.proofs.NumberLawLemmas.{reads-its-digits}
use Rattle.lg_host.proofs.laws.atoi_reads_its_digits.Goals as goal

pub returns : goal.returns
returns c = reads-its-digits
