use Rattle.lg_cpu.proofs.RunLemmas.{stands-executed}
use Rattle.lg_cpu.proofs.laws.what_stands_is_executed_on_riscv64.Goals as goal

pub returns : goal.returns
returns c = stands-executed
