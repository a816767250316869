-- Where no instruction's spelling begins what is in the code, the step is a Decode fault.
use Rattle.std.proofs.Common.{◌≡◌, ℕ, ◌-◌, ◌%◌, ◌≤◌, true, List, drop, length, Option, Some, None, refl, ap, ◌∙◌, arith}
use Rattle.std.specs.Prelude.{IfSome, if◌then◌else◌}
use Rattle.std.proofs.lemmas.Bool.{eq-eqb}
use Rattle.lg_base.specs.Fronts.{BeginsWith}
use Rattle.lg_base.specs.Layout.{code_base}
use Rattle.lg_base.specs.declared.fault.FaultKind.TheVariants.{Fetch, Align}
use Rattle.lg_base.proofs.WordFrontLemmas.{word_spells}
use Rattle.lg_rv.specs.Reading as rv_reading
use Rattle.lg_rv.specs.Spelling as rv
use Rattle.lg_rv.proofs.SpellsLemmas as rv_spells
use Rattle.lg_a64.specs.Reading as a64_reading
use Rattle.lg_a64.specs.Spelling as a64
use Rattle.lg_a64.proofs.SpellsLemmas as a64_spells
use Rattle.lg_x86.specs.Reading as x86_reading
use Rattle.lg_x86.specs.Spelling as x86
use Rattle.lg_x86.proofs.CheckedLemmas.{checked_front}
use Rattle.lg_x86.proofs.NumberLemmas.{front-valid}
use Rattle.lg_cpu.specs.Steps.{faults}
use Rattle.lg_cpu.specs.Fetches.{in_code}
use Rattle.lg_cpu.specs.RvStep as rv_step
use Rattle.lg_cpu.specs.A64Step as a64_step
use Rattle.lg_cpu.specs.X86Step as x86_step
use Rattle.lg_cpu.specs.Laws.{BeginsNone, RvExecutesNothingElse, A64ExecutesNothingElse, X86ExecutesNothingElse}
use Rattle.lg_cpu.proofs.RunLemmas.{no_host}
use Rattle.lg_cpu.proofs.WordLemmas.{drop_bytes}

-- what is read is spelled by the bytes in front, so where none is spelled, nothing is read
nothing-read : {I : Type 0} (spelling : I → List ℕ) (Is : I → Type 0) (bytes : List ℕ) (n : I × ℕ → ℕ) (o : Option (I × ℕ))
    → IfSome o (λ found. BeginsWith spelling Is bytes found.0 × (found.1 ≡ n found)) → BeginsNone spelling Is bytes → o ≡ None
nothing-read spelling Is bytes n None h none = refl
nothing-read spelling Is bytes n (Some found) h none = absurd (none found.0 h.0)

low-in : (code : List ℕ) (pc : ℕ) → in_code code pc ≡ true → code_base ≤ pc
low-in code pc e = grind (arith, e)

pub rv-decodes-nothing-else : RvExecutesNothingElse
rv-decodes-nothing-else code trash q bytes here aligned none =
    let front = drop (q.pc - code_base) code in
    let spells = word_spells rv_reading.instr_of rv.word_of rv.IsInstr rv_spells.read_spells front (drop_bytes code (q.pc - code_base) bytes) in
    ap (λ o. rv_step.effect_at o code trash q) (no_host q.pc (low-in code q.pc here))
    ∙ ap (λ b. if b then (if in_code code q.pc then rv_step.decoded (rv_reading.front_of front) q else faults q Fetch) else faults q Align) (eq-eqb (q.pc % 4) 0 aligned)
    ∙ ap (λ b. if b then rv_step.decoded (rv_reading.front_of front) q else faults q Fetch) here
    ∙ ap (λ o. rv_step.decoded o q) (nothing-read rv.spelling rv.IsInstr front (λ found. 4) (rv_reading.front_of front) spells none)

pub a64-decodes-nothing-else : A64ExecutesNothingElse
a64-decodes-nothing-else code trash q bytes here aligned none =
    let front = drop (q.pc - code_base) code in
    let spells = word_spells a64_reading.instr_of a64.word_of a64.IsInstr a64_spells.read_spells front (drop_bytes code (q.pc - code_base) bytes) in
    ap (λ o. a64_step.effect_at o code trash q) (no_host q.pc (low-in code q.pc here))
    ∙ ap (λ b. if b then (if in_code code q.pc then a64_step.decoded (a64_reading.front_of front) q else faults q Fetch) else faults q Align) (eq-eqb (q.pc % 4) 0 aligned)
    ∙ ap (λ b. if b then a64_step.decoded (a64_reading.front_of front) q else faults q Fetch) here
    ∙ ap (λ o. a64_step.decoded o q) (nothing-read a64.spelling a64.IsInstr front (λ found. 4) (a64_reading.front_of front) spells none)

pub x86-decodes-nothing-else : X86ExecutesNothingElse
x86-decodes-nothing-else code trash q bytes here none =
    let front = drop (q.pc - code_base) code in
    let spells = checked_front front (x86_reading.guess_of front) (x86_reading.front_of front) refl (front-valid front (drop_bytes code (q.pc - code_base) bytes)) in
    ap (λ o. x86_step.effect_at o code trash q) (no_host q.pc (low-in code q.pc here))
    ∙ ap (λ b. if b then x86_step.decoded (x86_reading.front_of front) q else faults q Fetch) here
    ∙ ap (λ o. x86_step.decoded o q) (nothing-read x86.spelling x86.IsInstr front (λ found. length (x86.spelling found.0)) (x86_reading.front_of front) spells none)
