use Rattle.lg_cpu.proofs.DecodeLemmas.{x86-decodes-nothing-else}
use Rattle.lg_cpu.proofs.laws.nothing_else_is_executed_on_x86_64.Goals as goal

pub returns : goal.returns
returns c = x86-decodes-nothing-else
