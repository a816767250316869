use Rattle.lg_run.proofs.RefusedLemmas.{listings_once}
use Rattle.lg_run.proofs.laws.listings_are_refused_once.Goals as goal

pub returns : goal.returns
returns c = listings_once
