-- What is in the code is executed, on x86-64.
use Rattle.std.proofs.Common.{◌-◌, drop, ap, ◌∙◌}
use Rattle.std.specs.Prelude.{if◌then◌else◌}
use Rattle.lg_base.specs.Layout.{code_base}
use Rattle.lg_base.specs.declared.fault.FaultKind.TheVariants.{Fetch}
use Rattle.lg_x86.specs.Reading.{front_of}
use Rattle.lg_x86.specs.Spelling.{spelling}
use Rattle.lg_x86.proofs.CheckedLemmas.{checked_again}
use Rattle.lg_x86.proofs.SizeLemmas.{sized}
use Rattle.lg_cpu.specs.Steps.{faults}
use Rattle.lg_cpu.specs.X86Step.{decoded, effect_at}
use Rattle.lg_cpu.specs.Laws.{X86ExecutesWhatStands}
use Rattle.lg_cpu.proofs.RunLemmas.{no_host, inside}

pub x86-stands-executed : X86ExecutesWhatStands
x86-stands-executed code more trash q i ok low e =
    ap (λ o. effect_at o code trash q) (no_host q.pc low)
    ∙ ap (λ b. if b then decoded (front_of (drop (q.pc - code_base) code)) q else faults q Fetch) (inside code more (spelling i) q.pc low (sized i).some e)
    ∙ ap (λ o. decoded o q) (checked_again (drop (q.pc - code_base) code) i more ok e)
