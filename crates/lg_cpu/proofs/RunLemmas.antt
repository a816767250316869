-- Runs are those of a machine, and what is in the code is executed.
use Rattle.std.proofs.Common.{◌≡◌, ◌≢◌, ℕ, ◌+◌, ◌-◌, ◌%◌, ◌<◌, ◌≤◌, true, List, [], ◌++◌, length, drop, None, refl, sym, ap, ◌∙◌, arith, append-nil, length-append}
use Rattle.std.specs.Prelude.{if◌then◌else◌}
use Rattle.std.proofs.lemmas.Bool.{eq-eqb}
use Rattle.std.proofs.lemmas.List.{length-drop}
use Rattle.lg_base.specs.Layout.{code_base}
use Rattle.lg_base.specs.HostNames.{host_by_address}
use Rattle.lg_base.specs.Runs.{Running, IsPrefixOf, IsMachine}
use Rattle.lg_base.specs.declared.fault.FaultKind.TheVariants.{Fetch, Align}
use Rattle.lg_base.proofs.WordFrontLemmas.{word_again}
use Rattle.lg_rv.specs.Reading.{instr_of, front_of}
use Rattle.lg_rv.specs.Spelling.{word_of, spelling, IsInstr}
use Rattle.lg_rv.proofs.AgainLemmas.{read_again, word_fits}
use Rattle.lg_cpu.specs.Steps.{Progress, Goes, EndedWith, Faulted, Effect, Run, after, on_going, stepped, status_of, machine, faults}
use Rattle.lg_cpu.specs.RvStep.{decoded, effect_at, effect}
use Rattle.lg_cpu.specs.Fetches.{in_code}
use Rattle.lg_cpu.specs.Laws.{RvExecutesWhatStands}

stays : {S : Type 0} (f : S → Effect S) (r : Run S) (p : Progress) → r.progress ≡ p → status_of p ≢ Running → stepped f r ≡ r
stays f r Goes e h = absurd (h refl)
stays f r (EndedWith status) e h = ap (λ p. on_going p (after r (f r.state)) r) e
stays f r (Faulted kind) e h = ap (λ p. on_going p (after r (f r.state)) r) e

writes : {S : Type 0} (f : S → Effect S) (r : Run S) (p : Progress) → r.progress ≡ p → IsPrefixOf r.out (stepped f r).out
writes f r Goes e = ((f r.state).written, sym (ap (λ p. (on_going p (after r (f r.state)) r).out) e))
writes f r (EndedWith status) e = ([], append-nil r.out ∙ sym (ap (λ t. t.out) (stays f r (EndedWith status) e (λ h. cc))))
writes f r (Faulted kind) e = ([], append-nil r.out ∙ sym (ap (λ t. t.out) (stays f r (Faulted kind) e (λ h. cc))))

pub machine_is : {S : Type 0} (f : S → Effect S) → IsMachine (machine f)
machine_is f = record {
  stays = λ r h. stays f r r.progress refl h;
  writes = λ r. writes f r r.progress refl;
}

pub runs-machines : (code : List ℕ) (trash : ℕ) → IsMachine (machine (effect code trash))
runs-machines code trash = machine_is (effect code trash)

-- ---- what is in the code
-- no host entry is in the code
pub no_host : (pc : ℕ) → code_base ≤ pc → host_by_address pc ≡ None
no_host pc low = grind (arith, low)

pub inside : (code more front : List ℕ) (pc : ℕ) → code_base ≤ pc → 0 < length front → drop (pc - code_base) code ≡ front ++ more → in_code code pc ≡ true
inside code more front pc low some e =
    let rest : length (drop (pc - code_base) code) ≡ length code - (pc - code_base) = length-drop (pc - code_base) code in
    let both : length (drop (pc - code_base) code) ≡ length front + length more = ap length e ∙ length-append front more in
    let below : pc < code_base + length code = omega (arith, low, some, rest, both) in
    grind (arith, low, below)

pub stands-executed : RvExecutesWhatStands
stands-executed code more trash q i ok low aligned e =
    let here = inside code more (spelling i) q.pc low (omega arith) e in
    ap (λ o. effect_at o code trash q) (no_host q.pc low)
    ∙ ap (λ b. if b then (if in_code code q.pc then decoded (front_of (drop (q.pc - code_base) code)) q else faults q Fetch) else faults q Align) (eq-eqb (q.pc % 4) 0 aligned)
    ∙ ap (λ b. if b then decoded (front_of (drop (q.pc - code_base) code)) q else faults q Fetch) here
    ∙ ap (λ o. decoded o q) (ap front_of e ∙ word_again instr_of word_of IsInstr read_again word_fits i more ok)
