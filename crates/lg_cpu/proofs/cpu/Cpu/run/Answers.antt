use Rattle.std.proofs.Common.{arith}
use Rattle.lg_cpu.proofs.LineCountLemmas.{none_may}
use Rattle.lg_cpu.proofs.cpu.Cpu.run.Goals as goal

pub run_counted-requires : goal.run_counted-requires
run_counted-requires g c = let few = c.requires in record { few = few; may = none_may c.args.most (omega (arith, few)) }
