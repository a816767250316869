use Rattle.std.proofs.Common.{refl}
use Rattle.lg_cpu.proofs.StartLemmas.{trash_is}
use Rattle.lg_cpu.proofs.x86_64.start.trash_registers.Goals as goal

pub returns-clause-registers : goal.returns-clause-registers
returns-clause-registers c = trash_is 16 _ c.args.trash refl refl
