use Rattle.lg_cpu.proofs.DecodeLemmas.{a64-decodes-nothing-else}
use Rattle.lg_cpu.proofs.laws.nothing_else_is_executed_on_aarch64.Goals as goal

pub returns : goal.returns
returns c = a64-decodes-nothing-else
