use Rattle.std.proofs.Common.{◌∙◌, ap}
use Rattle.lg_base.specs.Layout.{return_word, stack_end}
use Rattle.lg_base.specs.Spaces.{mapped}
use Rattle.lg_cpu.proofs.StartLemmas.{stack_mapped}
use Rattle.lg_cpu.proofs.cpu.Cpu.again.Goals as goal

pub begin-requires : goal.begin-requires
begin-requires c =
    record { stack = ap (λ p. mapped p.state.bytes (return_word stack_end) 8) c.if-not-renew.ensures.changed ∙ stack_mapped c.as_slice.result.now c.as_slice-2.result.now }
