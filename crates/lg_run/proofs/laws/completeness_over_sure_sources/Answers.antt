use Rattle.lg_run.proofs.CompleteLemmas.{sure-complete}
use Rattle.lg_run.proofs.laws.completeness_over_sure_sources.Goals as goal

pub returns : goal.returns
returns c = sure-complete
