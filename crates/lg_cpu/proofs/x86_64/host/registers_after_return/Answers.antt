use Rattle.std.proofs.Common.{◌∙◌, ap, arith}
use Rattle.lg_base.proofs.SpaceLemmas.{slice_index-set}
use Rattle.lg_cpu.specs.HostSteps.{put}
use Rattle.lg_cpu.proofs.x86_64.host.registers_after_return.Goals as goal

pub returns : goal.returns
returns c = slice_index-set c.registers_after_call-behind.result 4 c.args.stack (omega (arith, c.registers_after_call-behind.ensures.long)) ∙ ap (λ f. put f 4 c.args.stack) c.registers_after_call-behind.ensures.registers
