use Rattle.lg_selx.proofs.BackendLemmas.{x86-backend}
use Rattle.lg_selx.proofs.items.X86_64Backend.what_holds.Goals as goal

pub returns : goal.returns
returns c = x86-backend
