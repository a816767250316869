-- What the agreement of code and meaning says of a run.
use Rattle.std.proofs.Common.{◌≡◌, ◌≢◌, ℕ, ◌+◌, ◌*◌, ◌≤◌, inl, inr, length, Option, sym, ap, ◌∙◌, arith, lit<}
use Rattle.lg_asm.specs.Assembled.{Assembled}
use Rattle.lg_base.specs.Arguments.{args_of}
use Rattle.lg_base.specs.Runs.{Ended, Running}
use Rattle.lg_base.specs.declared.fault.FaultKind.{FaultKind}
use Rattle.lg_carry.specs.Agreement.{meaning_from, meaning_of, shape_of_unit}
use Rattle.lg_command.specs.Commands.{Command}
use Rattle.lg_cpu.specs.Steps.{EndedWith, Faulted, status_of}
use Rattle.lg_cpu.specs.Targets.{effect_of, machine_of, run_from}
use Rattle.lg_cpu.proofs.RunLemmas.{machine_is}
use Rattle.lg_io.specs.NamedTexts.{NamedTexts}
use Rattle.lg_meaning.proofs.MeanLemmas.{means_are_machines}
use Rattle.lg_meaning.specs.Means as means
use Rattle.lg_temp.specs.Agrees.{AgreesAt}
use Rattle.lg_run.specs.Causes.{IsUndefinedWithin, Lasts}
use Rattle.lg_run.specs.Runs.{HasMeant, HasRun}
use Rattle.lg_run.specs.Says.{IsCodeOf, code_meaning, code_run, trash_word}
use Rattle.lg_run.proofs.OverLemmas as over
use Rattle.lg_run.proofs.SameLemmas.{ends_with}

module _ (c : Command) (held : Option NamedTexts) (code : Assembled) (made : IsCodeOf c held code) where
  abbrev count : ℕ
  count = length made.unit.nodes.nodes

  pub agrees_at : (n : ℕ) → AgreesAt (meaning_of made.unit code.labels) (machine_of c.target code.bytes trash_word) count (meaning_from made.unit (args_of c.arguments)) (run_from c.target made.unit.image (args_of c.arguments) trash_word) n
  agrees_at n = made.agrees.runs (args_of c.arguments) trash_word n made.bytes made.fits (lit< tt)

  pub meant_before : (n k : ℕ) → n ≤ k → HasMeant (code_meaning c code made.unit) k → HasMeant (code_meaning c code made.unit) n
  meant_before n k le here =
      over.going_before (means.machine made.unit.nodes (shape_of_unit made.unit) code.labels) (means_are_machines made.unit.nodes (shape_of_unit made.unit) code.labels).0 (meaning_from made.unit (args_of c.arguments)) n k le here

  pub meant_later : (n k : ℕ) → n ≤ k → (code_meaning c code made.unit n).status ≢ Running → (code_meaning c code made.unit k).status ≡ (code_meaning c code made.unit n).status
  meant_later n k le is =
      over.stays_over (means.machine made.unit.nodes (shape_of_unit made.unit) code.labels) (means_are_machines made.unit.nodes (shape_of_unit made.unit) code.labels).0 (meaning_from made.unit (args_of c.arguments)) n k le is

  pub run_later : (n k : ℕ) → n ≤ k → status_of (code_run c code made.unit n).progress ≢ Running → code_run c code made.unit k ≡ code_run c code made.unit n
  run_later n k le is =
      over.over_later (machine_of c.target code.bytes trash_word) (machine_is (effect_of c.target code.bytes trash_word)) (run_from c.target made.unit.image (args_of c.arguments) trash_word) n k le is

  -- where the run goes on, the meaning does after a sixty-fourth of the steps, or it became undefined
  pub lasts : (n : ℕ) → HasRun (code_run c code made.unit) n → Lasts count n (code_meaning c code made.unit)
  lasts n going = let a = agrees_at n in elim a.3 [
    | inl same ↦ inl (λ j le. let low = a.1 in let under : j ≤ a.0 = omega (arith, le, low) in meant_before j a.0 under (sym same.status ∙ ap status_of going))
    | inr past ↦ inr (a.0, a.2, past.bad)
  ]

  -- where it faulted after n steps, the meaning became undefined
  pub undefined_at : (n : ℕ) (kind : FaultKind) → (code_run c code made.unit (n + 1)).progress ≡ Faulted kind → IsUndefinedWithin ((n + 2) * (count + 1)) (code_meaning c code made.unit)
  undefined_at n kind faulted = let a = agrees_at (n + 1) in elim a.3 [
    | inl same ↦ absurd (same.sound (ap status_of faulted))
    | inr past ↦
        let two : n + 1 + 1 ≡ n + 2 = omega arith in
        let most : (n + 1 + 1) * (count + 1) ≡ (n + 2) * (count + 1) = ap (λ x. x * (count + 1)) two in
        let high = a.2 in (a.0, omega (arith, high, most), past.bad)
  ]

  -- where the meaning ends in time, the run has ended so
  pub ends_in_time : (m n status : ℕ) → 64 * m ≤ n → (code_meaning c code made.unit m).status ≡ Ended status → (code_run c code made.unit n).progress ≡ EndedWith status
  ends_in_time m n status time is =
      let a = agrees_at n in
      let low = a.1 in
      let le : m ≤ a.0 = omega (arith, time, low) in
      let later = meant_later m a.0 le (λ r. over.ended_running (sym is ∙ r)) ∙ is in elim a.3 [
        | inl same ↦ ends_with (code_run c code made.unit n).progress status (same.status ∙ later)
        | inr past ↦ absurd (over.ended_bad (sym later ∙ past.bad))
      ]
