-- The instructions are rows of a processor.
use Rattle.lg_selr_values.specs.Processor.RvTouched.{touched_by}
use Rattle.lg_base.proofs.WordFrontLemmas.{word_again}
use Rattle.lg_rv.proofs.AgainLemmas.{read_again, word_fits}
use Rattle.lg_rv.specs.Reading.{instr_of, front_of}
use Rattle.std.proofs.Common.{◌≡◌, ℕ, ◌+◌, ◌%◌, ◌<◌, true, ◌++◌, refl, sym, ap, ◌∙◌, arith, append-nil, subst, length-append, ◌≤◌, ◌^◌, length, drop, ◌-◌, List}
use Rattle.std.specs.Prelude.{◌==◌}
use Rattle.lg_base.specs.Layout.{code_base, most_code}
use Rattle.lg_base.specs.Runs.{Running, Ended, Bad}
use Rattle.lg_base.specs.Words.{add_words}
use Rattle.lg_rv.specs.declared.instruction.Instr.{Instr}
use Rattle.lg_cpu.specs.Steps.{Progress, Goes, EndedWith, Faulted, Effect, Run, after, on_going, status_of}
use Rattle.lg_cpu.specs.States.{CpuState}
use Rattle.lg_cpu.specs.RvStep.{act, effect}
use Rattle.lg_cpu.proofs.RunLemmas.{stands-executed}
use Rattle.lg_selr_values.specs.Processor.RvRows.{is_straight, rv_does, InstructionsAreRows, rv_seen}
use Rattle.lg_selr_values.proofs.OfProcessor.ActLemmas.{silent_act, next_act, steady_act}
use Rattle.std.proofs.lemmas.List.{length-drop}
use Rattle.lg_cpu.specs.Laws.{IsSound, AreBytes}
use Rattle.lg_cpu.proofs.SoundLemmas.{stays-sound}
use Rattle.lg_carry.specs.Processors.{IsSeen}
use Rattle.lg_rv.specs.Spelling.{spelling, IsInstr, word_of}

pub going : (p : Progress) → status_of p ≡ Running → p ≡ Goes
going Goes e = refl
going (EndedWith n) e = cc
going (Faulted kind) e = cc

pub went : (r : Run CpuState) (e : Effect CpuState) → status_of r.progress ≡ Running → on_going r.progress (after r e) r ≡ after r e
went r e h = ap (λ p. on_going p (after r e) r) (going r.progress h)

silent : (r : Run CpuState) (i : Instr) → (rv_does i r).out ≡ r.out
silent r i = by r.progress
  where
    by : (p : Progress) → (on_going p (after r (act i r.state)) r).out ≡ r.out
    by Goes = ap (λ w. r.out ++ w) (silent_act i r.state) ∙ append-nil r.out
    by (EndedWith n) = refl
    by (Faulted kind) = refl

small-sum : (pc : ℕ) → pc < code_base + most_code → add_words pc 4 ≡ pc + 4
small-sum pc h = grind (arith, h)

ended : (n : ℕ) → Ended n ≡ Running → ⊥
ended n e = cc

bad : Bad ≡ Running → ⊥
bad e = cc

follows : (r : Run CpuState) (i : Instr) → is_straight i ≡ true → r.state.pc < code_base + most_code → status_of (rv_does i r).progress ≡ Running → (rv_does i r).state.pc ≡ r.state.pc + 4
follows r i h low running = by r.progress refl running
  where
    by : (p : Progress) → r.progress ≡ p → status_of (on_going p (after r (act i r.state)) r).progress ≡ Running → (on_going p (after r (act i r.state)) r).state.pc ≡ r.state.pc + 4
    by Goes is e = next_act i r.state h e ∙ small-sum r.state.pc low
    by (EndedWith n) is e = absurd (ended n (ap status_of (sym is) ∙ e))
    by (Faulted kind) is e = absurd (bad (ap status_of (sym is) ∙ e))

place : (pc : ℕ) → (pc % 4 == 0) ≡ true → ((pc + 4) % 4 == 0) ≡ true
place pc h = grind (arith, h)

aligned : (pc : ℕ) → (pc % 4 == 0) ≡ true → pc % 4 ≡ 0
aligned pc h = grind (arith, h)

-- the code begins below its end
pub in-code : (code four more : List ℕ) (pc : ℕ) → code_base ≤ pc → length four ≡ 4 → drop (pc - code_base) code ≡ four ++ more → length code ≤ most_code → pc + 4 ≤ code_base + most_code
in-code code four more pc low long e small =
    let l : length (drop (pc - code_base) code) ≡ 4 + length more = ap length e ∙ length-append four more ∙ ap (λ n. n + length more) long in
    let d = length-drop (pc - code_base) code in
    omega (arith, l, d, small, low)

keeps : (code : List ℕ) (trash : ℕ) → length code ≤ most_code → AreBytes code → trash < 2 ^ 64 → (r : Run CpuState) (i : Instr) (more : List ℕ) → IsInstr i → status_of r.progress ≡ Running → code_base ≤ r.state.pc → (r.state.pc % 4 == 0) ≡ true
    → drop (r.state.pc - code_base) code ≡ spelling i ++ more → IsSeen (rv_seen r) → IsSeen (rv_seen (rv_does i r))
keeps code trash small bytes word r i more ok running low at stands h =
    let same : effect code trash r.state ≡ act i r.state = stands-executed code more trash r.state i ok low (aligned r.state.pc at) stands in
    let near = in-code code (spelling i) more r.state.pc low refl stands small in
    let sound : IsSound (act i r.state).to = subst (λ e. IsSound e.to) same (stays-sound code trash r.state bytes word record { pc = omega (arith, near); words = h.words; bytes = h.bytes; mark = h.high }) in
    let steady = steady_act i r.state in
    subst (λ s. IsSeen (rv_seen s)) (sym (went r (act i r.state) running)) record {
      words = sound.words;
      bytes = sound.bytes;
      heap = λ a w. steady.grows a (h.heap a w);
      stack = λ a w. steady.grows a (h.stack a w);
      low = omega (arith, h.low, steady.mark);
      high = omega (arith, h.high, steady.mark);
    }

pub are-rows : InstructionsAreRows
are-rows code trash small bytes word = record {
  small = small;
  long = λ i ok. omega arith;
  places = λ pc i ok h. place pc h;
  executes = λ r i more ok running low at stands. ap (λ e. on_going r.progress (after r e) r) (stands-executed code more trash r.state i ok low (aligned r.state.pc at) stands);
  touches_are = λ r i more ok low at stands. ap (λ o. touched_by o r.state.registers) (ap front_of stands ∙ word_again instr_of word_of IsInstr read_again word_fits i more ok);
  silent = λ r i ok. silent r i;
  follows = λ r i ok h low running. follows r i h low running;
  keeps = λ r i more ok running low at stands h. keeps code trash small bytes word r i more ok running low at stands h;
}
