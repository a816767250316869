-- What is in the code is executed, on AArch64.
use Rattle.std.proofs.Common.{◌-◌, ◌%◌, drop, ap, ◌∙◌, arith}
use Rattle.std.specs.Prelude.{if◌then◌else◌}
use Rattle.std.proofs.lemmas.Bool.{eq-eqb}
use Rattle.lg_base.specs.Layout.{code_base}
use Rattle.lg_base.specs.declared.fault.FaultKind.TheVariants.{Fetch, Align}
use Rattle.lg_base.proofs.WordFrontLemmas.{word_again}
use Rattle.lg_a64.specs.Reading.{instr_of, front_of}
use Rattle.lg_a64.specs.Spelling.{word_of, spelling, IsInstr}
use Rattle.lg_a64.proofs.AgainLemmas.{read_again, word_fits}
use Rattle.lg_cpu.specs.Steps.{faults}
use Rattle.lg_cpu.specs.A64Step.{decoded, effect_at}
use Rattle.lg_cpu.specs.Fetches.{in_code}
use Rattle.lg_cpu.specs.Laws.{A64ExecutesWhatStands}
use Rattle.lg_cpu.proofs.RunLemmas.{no_host, inside}

pub a64-stands-executed : A64ExecutesWhatStands
a64-stands-executed code more trash q i ok low aligned e =
    let here = inside code more (spelling i) q.pc low (omega arith) e in
    ap (λ o. effect_at o code trash q) (no_host q.pc low)
    ∙ ap (λ b. if b then (if in_code code q.pc then decoded (front_of (drop (q.pc - code_base) code)) q else faults q Fetch) else faults q Align) (eq-eqb (q.pc % 4) 0 aligned)
    ∙ ap (λ b. if b then decoded (front_of (drop (q.pc - code_base) code)) q else faults q Fetch) here
    ∙ ap (λ o. decoded o q) (ap front_of e ∙ word_again instr_of word_of IsInstr read_again word_fits i more ok)
