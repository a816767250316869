-- The instructions are rows of a processor.
use Rattle.lg_selx_values.specs.Processor.X86Touched.{touched_by}
use Rattle.lg_x86.proofs.CheckedLemmas.{checked_again}
use Rattle.std.proofs.Common.{◌≡◌, ℕ, ◌+◌, ◌-◌, ◌<◌, ◌≤◌, ◌^◌, true, List, ◌++◌, length, drop, Option, Some, None, refl, sym, ap, ◌∙◌, arith, subst, append-nil, length-append}
use Rattle.std.proofs.lemmas.List.{length-drop}
use Rattle.lg_base.specs.Layout.{code_base, most_code}
use Rattle.lg_base.specs.Runs.{Running, Ended, Bad}
use Rattle.lg_base.specs.Words.{add_words}
use Rattle.lg_base.specs.declared.fault.FaultKind.{FaultKind}
use Rattle.lg_x86.specs.declared.instruction.Instr.{Instr}
use Rattle.lg_x86.specs.Spelling.{spelling, IsInstr}
use Rattle.lg_x86.proofs.SizeLemmas.{sized}
use Rattle.lg_cpu.specs.Laws.{IsSound, AreBytes}
use Rattle.lg_cpu.specs.States.{CpuState}
use Rattle.lg_cpu.specs.Steps.{Progress, Goes, EndedWith, Faulted, Effect, Run, after, on_going, status_of}
use Rattle.lg_cpu.specs.X86Step.{Scene, scene_of, made, fault_of, goes_with, act, effect}
use Rattle.lg_cpu.proofs.X86RunLemmas.{x86-stands-executed}
use Rattle.lg_cpu.proofs.X86SoundLemmas.{x86-stays-sound}
use Rattle.lg_carry.specs.Processors.{IsSeen}
use Rattle.lg_selx_values.specs.Processor.X86Rows.{x86_seen, is_straight, x86_does, InstructionsAreRows}
use Rattle.lg_selx_values.proofs.OfProcessor.ActLemmas.{straight-does, steady-does}

pub going : (p : Progress) → status_of p ≡ Running → p ≡ Goes
going Goes e = refl
going (EndedWith n) e = cc
going (Faulted kind) e = cc

pub went : (r : Run CpuState) (e : Effect CpuState) → status_of r.progress ≡ Running → on_going r.progress (after r e) r ≡ after r e
went r e h = ap (λ p. on_going p (after r e) r) (going r.progress h)

silent : (r : Run CpuState) (i : Instr) → (x86_does i r).out ≡ r.out
silent r i = by r.progress
  where
    by : (p : Progress) → (on_going p (after r (act i (length (spelling i)) r.state)) r).out ≡ r.out
    by Goes = ap (λ w. r.out ++ w) (steady-does i (add_words r.state.pc (length (spelling i))) r.state).written ∙ append-nil r.out
    by (EndedWith n) = refl
    by (Faulted kind) = refl

ended : (n : ℕ) → Ended n ≡ Running → ⊥
ended n e = cc

bad : Bad ≡ Running → ⊥
bad e = cc

with-next : (q : CpuState) (next : ℕ) (kind : FaultKind) (o : Option Scene) → status_of (goes_with q next kind o).progress ≡ Running → (goes_with q next kind o).to.pc ≡ next
with-next q next kind None e = absurd (bad e)
with-next q next kind (Some s) e = refl

small-sum : (pc n : ℕ) → pc < code_base + most_code → n ≤ 16 → add_words pc n ≡ pc + n
small-sum pc n h k = grind (arith, h, k)

follows : (r : Run CpuState) (i : Instr) → is_straight i ≡ true → r.state.pc < code_base + most_code → status_of (x86_does i r).progress ≡ Running → (x86_does i r).state.pc ≡ r.state.pc + length (spelling i)
follows r i h low running = by r.progress refl running
  where
    by : (p : Progress) → r.progress ≡ p → status_of (on_going p (after r (act i (length (spelling i)) r.state)) r).progress ≡ Running → (on_going p (after r (act i (length (spelling i)) r.state)) r).state.pc ≡ r.state.pc + length (spelling i)
    by Goes is e =
        let s = straight-does i (add_words r.state.pc (length (spelling i))) r.state h in
        ap (λ z. z.to.pc) s ∙ with-next r.state (add_words r.state.pc (length (spelling i))) (fault_of i) (made i (scene_of r.state)) (ap (λ z. status_of z.progress) (sym s) ∙ e) ∙ small-sum r.state.pc (length (spelling i)) low (let few = (sized i).short in omega (arith, few))
    by (EndedWith n) is e = absurd (ended n (ap status_of (sym is) ∙ e))
    by (Faulted kind) is e = absurd (bad (ap status_of (sym is) ∙ e))

-- the code begins below its end
in-code : (code xs more : List ℕ) (pc : ℕ) → code_base ≤ pc → 0 < length xs → drop (pc - code_base) code ≡ xs ++ more → length code ≤ most_code → pc + length xs ≤ code_base + most_code
in-code code xs more pc low some e small =
    let l : length (drop (pc - code_base) code) ≡ length xs + length more = ap length e ∙ length-append xs more in
    let d = length-drop (pc - code_base) code in
    omega (arith, l, d, small, low, some)

keeps : (code : List ℕ) (trash : ℕ) → length code ≤ most_code → AreBytes code → trash < 2 ^ 64 → (r : Run CpuState) (i : Instr) (more : List ℕ) → IsInstr i → status_of r.progress ≡ Running → code_base ≤ r.state.pc
    → drop (r.state.pc - code_base) code ≡ spelling i ++ more → IsSeen (x86_seen r) → IsSeen (x86_seen (x86_does i r))
keeps code trash small bytes word r i more ok running low stands h =
    let same : effect code trash r.state ≡ act i (length (spelling i)) r.state = x86-stands-executed code more trash r.state i ok low stands in
    let near = in-code code (spelling i) more r.state.pc low (sized i).some stands small in
    let sound : IsSound (act i (length (spelling i)) r.state).to = subst (λ e. IsSound e.to) same (x86-stays-sound code trash r.state bytes word record { pc = omega (arith, near); words = h.words; bytes = h.bytes; mark = h.high }) in
    let steady = steady-does i (add_words r.state.pc (length (spelling i))) r.state in
    subst (λ s. IsSeen (x86_seen s)) (sym (went r (act i (length (spelling i)) r.state) running)) record {
      words = sound.words;
      bytes = sound.bytes;
      heap = λ a w. steady.grows a (h.heap a w);
      stack = λ a w. steady.grows a (h.stack a w);
      low = omega (arith, h.low, steady.mark);
      high = omega (arith, h.high, steady.mark);
    }

pub are-rows : InstructionsAreRows
are-rows code trash small bytes word = record {
  small = small;
  long = λ i ok. (sized i).some;
  places = λ pc i ok h. refl;
  executes = λ r i more ok running low at stands. ap (λ e. on_going r.progress (after r e) r) (x86-stands-executed code more trash r.state i ok low stands);
  touches_are = λ r i more ok low at stands. ap (λ o. touched_by o r.state.registers) (checked_again (drop (r.state.pc - code_base) code) i more ok stands);
  silent = λ r i ok. silent r i;
  follows = λ r i ok h low running. follows r i h low running;
  keeps = λ r i more ok running low at stands h. keeps code trash small bytes word r i more ok running low stands h;
}
