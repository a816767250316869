use Rattle.lg_sela.proofs.BackendLemmas.{a64-backend}
use Rattle.lg_sela.proofs.items.Aarch64Backend.what_holds.Goals as goal

pub returns : goal.returns
returns c = a64-backend
