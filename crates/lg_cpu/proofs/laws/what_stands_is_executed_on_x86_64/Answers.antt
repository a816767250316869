use Rattle.lg_cpu.proofs.X86RunLemmas.{x86-stands-executed}
use Rattle.lg_cpu.proofs.laws.what_stands_is_executed_on_x86_64.Goals as goal

pub returns : goal.returns
returns c = x86-stands-executed
