-- The step at the entry of a host function, which returns to the word at the stack pointer and pops it.
use Rattle.std.proofs.Common.{◌≡◌, ◌≢◌, ℕ, ◌+◌, ◌-◌, ◌%◌, ◌^◌, ◌<◌, ◌≤◌, Bool, true, false, List, Some, refl, sym, ap, ◌∙◌, subst, arith, append-nil, length}
use Rattle.std.specs.Prelude.{◌==◌, ◌&&◌, not, nat_lt, if◌then◌else◌}
use Rattle.lg_base.specs.Conventions.{is_kept}
use Rattle.lg_base.specs.HostNames.{host_by_address}
use Rattle.lg_base.specs.Layout.{most_code, stack_end}
use Rattle.lg_base.specs.Parts.{stack_base}
use Rattle.lg_base.specs.Spaces.{loaded}
use Rattle.lg_base.specs.Words.{add_words}
use Rattle.lg_base.specs.declared.fault.FaultKind.TheVariants.{Host as HostFault}
use Rattle.lg_base.specs.declared.host_name.HostName.{HostName}
use Rattle.lg_base.specs.declared.target.Target.TheVariants.{X86_64}
use Rattle.lg_host.specs.Host.{Host, Gives, Exits}
use Rattle.lg_cpu.specs.HostSteps.{clobbered, after_call, answer_at, returned}
use Rattle.lg_cpu.specs.Laws.{AreBytes, IsSound}
use Rattle.lg_cpu.specs.States.{CpuState}
use Rattle.lg_cpu.specs.Steps.{Run, after, faults, status_of}
use Rattle.lg_cpu.specs.X86Operators.{no_flags}
use Rattle.lg_cpu.specs.X86Step.{popped, takes_al, enter_with, effect_at, effect}
use Rattle.lg_cpu.proofs.X86SoundLemmas.{x86-stays-sound}
use Rattle.lg_carry.specs.Registers.{HasWord}
use Rattle.lg_selx_values.specs.Processor.X86Rows.{x86_processor}
use Rattle.lg_carry.specs.Nodes.Leaps.{HasArrived, host_answer, Answers, EntersHosts}
use Rattle.lg_sel.proofs.OfControl.ChainLemmas.{runs-there, went}
use Rattle.lg_selx_values.proofs.RegisterLemmas.{put-same, put-other}
use Rattle.lg_selx.specs.Control.HostCalls.{x86_ready}

-- ---- the stack pointer
at-entry : (stack : ℕ) → stack_base + 8 ≤ stack → stack ≤ stack_end → stack % 16 ≡ 0 → ((stack - 8) % 16 == 8) ≡ true
at-entry stack low high whole = grind (arith, low, high, whole)

pops : (stack : ℕ) → stack_base + 8 ≤ stack → stack ≤ stack_end → add_words (stack - 8) 8 ≡ stack
pops stack low high = grind (arith, low, high)

-- ---- the registers after a call
no-result : (x : ℕ) → is_kept X86_64 x ≡ true → x ≢ 0
no-result x k = λ z. absurd (differ (subst (λ y. is_kept X86_64 y ≡ true) z k))
  where
    differ : is_kept X86_64 0 ≡ true → ⊥
    differ e = cc

kept-after : (w : ℕ → ℕ) (trash v x : ℕ) → is_kept X86_64 x ≡ true → after_call X86_64 16 w trash v x ≡ w x
kept-after w trash v x e =
    put-other (clobbered X86_64 16 w trash) 0 v x (no-result x e) ∙ ap (λ b. if nat_lt x 16 && not b then trash else w x) e ∙ off (nat_lt x 16)
  where
    off : (b : Bool) → (if b && false then trash else w x) ≡ w x
    off true = refl
    off false = refl

-- ---- the step
module _ (code : List ℕ) (trash : ℕ) (small : length code ≤ most_code) (bytes : AreBytes code) (word : trash < 2 ^ 64) where
  entered : (s : CpuState) (name : HostName) (stack back : ℕ) → host_by_address s.pc ≡ Some name → s.registers 4 ≡ stack - 8
      → takes_al name (s.registers 0) ≡ true → HasWord s.bytes (stack - 8) back → stack_base + 8 ≤ stack → stack ≤ stack_end → stack % 16 ≡ 0
      → effect code trash s ≡ returned (answer_at X86_64 name stack s) back (popped s.registers trash) no_flags s
  entered s name stack back is at takes held low high whole =
      let even : (s.registers 4 % 16 == 8) ≡ true = ap (λ n. n % 16 == 8) at ∙ at-entry stack low high whole in
      let rises : add_words (s.registers 4) 8 ≡ stack = ap (λ n. add_words n 8) at ∙ pops stack low high in
      let there : loaded s.bytes (s.registers 4) 8 ≡ Some back = ap (λ n. loaded s.bytes n 8) at ∙ held in
      ap (λ o. effect_at o code trash s) is
      ∙ ap (λ b. if b then (if takes_al name (s.registers 0) then enter_with name trash s (loaded s.bytes (s.registers 4) 8) else faults s HostFault)
      else faults s HostFault) even
      ∙ ap (λ b. if b then enter_with name trash s (loaded s.bytes (s.registers 4) 8) else faults s HostFault) takes
      ∙ ap (enter_with name trash s) there
      ∙ ap (λ n. returned (answer_at X86_64 name n s) back (popped s.registers trash) no_flags s) rises

  answered : (q : Run CpuState) (name : HostName) (stack back : ℕ) (h : Host) → HasArrived (x86_processor code trash) x86_ready stack back name q
      → host_answer (x86_processor code trash) name stack q ≡ h
      → (x86_processor code trash).machine.step q ≡ after q (returned h back (popped q.state.registers trash) no_flags q.state)
  answered q name stack back h arr e =
      went q (effect code trash q.state) arr.runs
      ∙ ap (after q) (entered q.state name stack back arr.entry arr.pointer arr.ready_is arr.link arr.low arr.high arr.whole
      ∙ ap (λ x. returned x back (popped q.state.registers trash) no_flags q.state) e)

  pub enters-hosts : EntersHosts (x86_processor code trash) x86_ready
  enters-hosts = record {
    gives = λ q name stack back v d to xs arr e.
        let z = answered q name stack back (Gives v d to xs) arr e in
        let u : Run CpuState = after q (returned (Gives v d to xs) back (popped q.state.registers trash) no_flags q.state) in
        let is-sound : IsSound u.state = subst (λ (r : Run CpuState). IsSound r.state) (sym (went q (effect code trash q.state) arr.runs) ∙ z)
        (x86-stays-sound code trash q.state bytes word record {
          pc = arr.small;
          words = arr.seen.words;
          bytes = arr.seen.bytes;
          mark = arr.seen.high;
        }) in
        let w : ℕ → ℕ = q.state.registers in
        let rises : ℕ = add_words (w 4) 8 in
        subst (λ r. Answers (x86_processor code trash) stack back v d to xs q r) (sym z) record {
          runs = λ low. runs-there back low;
          out = refl;
          here = refl;
          pointer = put-same (after_call X86_64 16 w trash v) 4 rises ∙ ap (λ n. add_words n 8) arr.pointer ∙ pops stack arr.low arr.high;
          result = put-other (after_call X86_64 16 w trash v) 4 rises 0 (λ z. cc) ∙ put-same (clobbered X86_64 16 w trash) 0 v;
          kept = λ x k ne. put-other (after_call X86_64 16 w trash v) 4 rises x ne ∙ kept-after w trash v x k;
          memory_is = λ a. refl;
          mark = refl;
          words = is-sound.words;
          small = is-sound.bytes;
          high = is-sound.mark;
        };
    exits = λ q name stack back status arr e.
        let z = answered q name stack back (Exits status) arr e in (
          ap (λ (r : Run CpuState). status_of r.progress) z,
          ap (λ (r : Run CpuState). r.out) z ∙ append-nil q.out,
          record { bytes = λ a lt. ap (λ (r : Run CpuState). r.state.bytes a) z; mark = ap (λ (r : Run CpuState). r.state.mark) z },
          ap (λ (r : Run CpuState). r.state.pc) z,
        );
  }
