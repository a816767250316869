use Rattle.lg_run.proofs.CompleteLemmas.{complete}
use Rattle.lg_run.proofs.laws.completeness.Goals as goal

pub returns : goal.returns
returns c = complete
