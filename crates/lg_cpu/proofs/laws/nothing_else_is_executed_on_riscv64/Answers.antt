use Rattle.lg_cpu.proofs.DecodeLemmas.{rv-decodes-nothing-else}
use Rattle.lg_cpu.proofs.laws.nothing_else_is_executed_on_riscv64.Goals as goal

pub returns : goal.returns
returns c = rv-decodes-nothing-else
