use Rattle.lg_selr.proofs.BackendLemmas.{rv-backend}
use Rattle.lg_selr.proofs.items.Riscv64Backend.what_holds.Goals as goal

pub returns : goal.returns
returns c = rv-backend
