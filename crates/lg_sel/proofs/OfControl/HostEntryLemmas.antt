-- The entries of host functions, and the step there.
use Rattle.std.proofs.Common.{◌≡◌, ◌≢◌, ℕ, ◌%◌, ◌^◌, ◌<◌, Bool, true, false, Some, refl, sym, ap, ◌∙◌, subst, arith, append-nil}
use Rattle.std.specs.Prelude.{◌&&◌, not, nat_lt, if◌then◌else◌}
use Rattle.lg_base.specs.Conventions.{is_kept, result_register, stack_register, link_register}
use Rattle.lg_base.specs.HostNames.{host_address, host_by_address}
use Rattle.lg_base.specs.Runs.{Running}
use Rattle.lg_base.specs.declared.flags.Flags.{Flags}
use Rattle.lg_base.specs.declared.host_name.HostName.{HostName}
use Rattle.lg_base.specs.declared.host_name.HostName.TheVariants as host
use Rattle.lg_base.specs.declared.target.Target.{Target}
use Rattle.lg_base.specs.declared.target.Target.TheVariants.{X86_64}
use Rattle.lg_host.specs.Host.{Host, Gives, Exits}
use Rattle.lg_cpu.specs.HostSteps.{put, clobbered, after_call, answer_at, returned}
use Rattle.lg_cpu.specs.Laws.{IsSound}
use Rattle.lg_cpu.specs.States.{CpuState}
use Rattle.lg_cpu.specs.Steps.{Effect, Run, after, arrived, machine, status_of}
use Rattle.lg_carry.specs.Frames.{arriving, IsLinked}
use Rattle.lg_carry.specs.Processors.{Processor, Span}
use Rattle.lg_carry.specs.Nodes.Leaps.{HasArrived, host_answer, Answers, EntersHosts}
use Rattle.lg_sel.proofs.OfControl.ChainLemmas.{runs-there, went}

-- ---- the entries
pub entry-aligned : (name : HostName) → host_address name % 4 ≡ 0
entry-aligned host.Printf = refl
entry-aligned name = refl

pub entry-runs : (name : HostName) → status_of (arrived (host_address name)) ≡ Running
entry-runs host.Printf = refl
entry-runs name = refl

pub entry-near : (name : HostName) → host_address name < 2 ^ 62
entry-near host.Printf = omega arith
entry-near name = omega arith

-- ---- the registers after a call
-- a call keeps the stack pointer, and not the register of the result
stack-kept : (target : Target) → is_kept target (stack_register target) ≡ true
stack-kept X86_64 = refl
stack-kept target = refl

result-lost : (target : Target) → is_kept target (result_register target) ≡ false
result-lost X86_64 = refl
result-lost target = refl

not-both : (b : Bool) → b ≡ false → b ≡ true → ⊥
not-both b f t = cc

not-result : (target : Target) (x : ℕ) → is_kept target x ≡ true → x ≢ result_register target
not-result target x k z = not-both (is_kept target (result_register target)) (result-lost target) (subst (λ y. is_kept target y ≡ true) z k)

put-off : (w : ℕ → ℕ) (d v x : ℕ) → x ≢ d → put w d v x ≡ w x
put-off w d v x ne = grind (arith, ne)

kept-after : (target : Target) (n : ℕ) (w : ℕ → ℕ) (trash v x : ℕ) → is_kept target x ≡ true
    → after_call target n w trash v x ≡ w x
kept-after target n w trash v x e =
    put-off (clobbered target n w trash) (result_register target) v x (not-result target x e)
    ∙ ap (λ b. if nat_lt x n && not b then trash else w x) e ∙ off (nat_lt x n)
  where
    off : (b : Bool) → (if b && false then trash else w x) ≡ w x
    off true = refl
    off false = refl

-- ---- the step
-- a processor that runs code by what a step of a state does
abbrev pub processor_of : Target → (CpuState → Effect CpuState) → (Flags → Flags) → (ℕ → (ℕ → ℕ) → Span) → Processor (Run CpuState)
processor_of target effect flags_seen touches = record {
  target = target;
  machine = machine effect;
  seen = λ r. record { pc = r.state.pc; registers = r.state.registers; bytes = r.state.bytes; mark = r.state.mark; flags = flags_seen r.state.flags };
  touches = touches;
}

-- it enters host functions where a step at an entry is the function's, and control returns to the link
module _ (target : Target) (effect : CpuState → Effect CpuState) (flags_seen : Flags → Flags) (touches : ℕ → (ℕ → ℕ) → Span) (trash link : ℕ) (flags : Flags) (linked : link_register target ≡ Some link)
    (entered : (s : CpuState) (name : HostName) → host_by_address s.pc ≡ Some name → s.registers (stack_register target) % 16 ≡ 0
    → effect s ≡ returned (answer_at target name (s.registers (stack_register target)) s) (s.registers link) (after_call target 32 s.registers trash) flags s)
    (sound : (s : CpuState) → IsSound s → IsSound (effect s).to) (ready : HostName → (ℕ → ℕ) → Bool) where
  abbrev P : Processor (Run CpuState)
  P = processor_of target effect flags_seen touches

  stack-is : (q : Run CpuState) (name : HostName) (stack back : ℕ) → HasArrived P ready stack back name q → q.state.registers (stack_register target) ≡ stack
  stack-is q name stack back arr = arr.pointer ∙ ap (λ o. arriving o stack) linked

  back-is : (q : Run CpuState) (name : HostName) (stack back : ℕ) → HasArrived P ready stack back name q → q.state.registers link ≡ back
  back-is q name stack back arr = subst (λ o. IsLinked o q.state.bytes q.state.registers stack back) linked arr.link

  answered : (q : Run CpuState) (name : HostName) (stack back : ℕ) (h : Host) → HasArrived P ready stack back name q → host_answer P name stack q ≡ h
      → P.machine.step q ≡ after q (returned h (q.state.registers link) (after_call target 32 q.state.registers trash) flags q.state)
  answered q name stack back h arr e =
      let at : q.state.registers (stack_register target) ≡ stack = stack-is q name stack back arr in
      let whole = arr.whole in
      went q (effect q.state) arr.runs
      ∙ ap (after q) (entered q.state name arr.entry (ap (λ x. x % 16) at ∙ whole)
      ∙ ap (λ x. returned x (q.state.registers link) (after_call target 32 q.state.registers trash) flags q.state)
      (ap (λ x. answer_at target name x q.state) at ∙ e))

  pub enters-hosts : EntersHosts P ready
  enters-hosts = record {
    gives = λ q name stack back v d to xs arr e.
        let z = answered q name stack back (Gives v d to xs) arr e in
        let u : Run CpuState = after q (returned (Gives v d to xs) (q.state.registers link) (after_call target 32 q.state.registers trash) flags q.state) in
        let at = back-is q name stack back arr in
        let is-sound : IsSound u.state = subst (λ (r : Run CpuState). IsSound r.state) (sym (went q (effect q.state) arr.runs) ∙ z) (sound q.state record {
          pc = arr.small;
          words = arr.seen.words;
          bytes = arr.seen.bytes;
          mark = arr.seen.high;
        }) in
        subst (λ r. Answers P stack back v d to xs q r) (sym z) record {
          runs = λ low. ap (λ x. status_of (arrived x)) at ∙ runs-there back low;
          out = refl;
          here = at;
          pointer = kept-stack q.state.registers v ∙ stack-is q name stack back arr;
          result = put-result (clobbered target 32 q.state.registers trash) (result_register target) v;
          kept = λ x k ne. kept-after target 32 q.state.registers trash v x k;
          memory_is = λ a. refl;
          mark = refl;
          words = is-sound.words;
          small = is-sound.bytes;
          high = is-sound.mark;
        };
    exits = λ q name stack back status arr e.
        let z = answered q name stack back (Exits status) arr e in (
          ap (λ (r : Run CpuState). status_of r.progress) z,
          ap (λ (r : Run CpuState). r.out) z ∙ append-nil q.out,
          record { bytes = λ a lt. ap (λ (r : Run CpuState). r.state.bytes a) z; mark = ap (λ (r : Run CpuState). r.state.mark) z },
          ap (λ (r : Run CpuState). r.state.pc) z,
        );
  }
    where
      put-result : (w : ℕ → ℕ) (d v : ℕ) → put w d v d ≡ v
      put-result w d v = grind arith

      kept-stack : (w : ℕ → ℕ) (v : ℕ) → after_call target 32 w trash v (stack_register target) ≡ w (stack_register target)
      kept-stack w v = kept-after target 32 w trash v (stack_register target) (stack-kept target)
