-- Calls on RV64: `jal` and `jalr` link, and a host function returns to the link.
use Rattle.lg_selr_values.proofs.OfProcessor.RowLemmas.{are-rows}
use Rattle.lg_carry.proofs.TurnLemmas.{one-sinks}
use Rattle.lg_selr_values.specs.Processor.RvTouched.{touched_at}
use Rattle.lg_carry.proofs.BlockLemmas.{no-width}
use Rattle.std.proofs.Common.{◌≡◌, ℕ, ◌+◌, ◌*◌, ◌/◌, ◌%◌, ◌^◌, ◌<◌, ◌≤◌, true, List, [], ◌∷◌, Some, refl, sym, ap, ◌∙◌, subst, arith, length, false}
use Rattle.std.specs.Prelude.{◌==◌, pos, ◌-ℤ◌, if◌then◌else◌}
use Rattle.lg_base.specs.declared.flags.Flags.TheVariants.{NoFlags}
use Rattle.lg_base.specs.Fields.{word_of}
use Rattle.lg_base.specs.HostNames.{host_address, host_by_address}
use Rattle.lg_base.specs.Layout.{most_code}
use Rattle.lg_base.specs.Runs.{Running}
use Rattle.lg_base.specs.Words.{add_words, sign_32}
use Rattle.lg_base.specs.declared.fault.FaultKind.TheVariants.{Align, Host as HostFault}
use Rattle.lg_base.specs.declared.host_name.HostName.{HostName}
use Rattle.lg_base.specs.declared.host_name.HostName.TheVariants as host
use Rattle.lg_base.specs.declared.target.Target.TheVariants.{Riscv64}
use Rattle.lg_op.specs.declared.operand.Reg.{Reg}
use Rattle.lg_temp.specs.Abis.{register_of}
use Rattle.lg_rv.specs.Spelling.{IsInstr}
use Rattle.lg_rv.specs.declared.instruction.Instr.TheVariants as instr
use Rattle.lg_rv.specs.declared.instruction.ImmOp.TheVariants.{Jalr}
use Rattle.lg_cpu.specs.Laws.{AreBytes}
use Rattle.lg_cpu.specs.Steps.{Run, Effect, after, arrived, faults, status_of}
use Rattle.lg_cpu.specs.HostSteps.{put, after_call, answer_at, returned}
use Rattle.lg_cpu.specs.States.{CpuState}
use Rattle.lg_cpu.specs.RvStep.{read, goes, sets, jump_to, act, effect, effect_at, host_effect}
use Rattle.lg_cpu.proofs.SoundLemmas.{stays-sound}
use Rattle.lg_selr_values.specs.Processor.Numbers.{high_part, low_part}
use Rattle.lg_selr_values.specs.Processor.RvRows.{rv_processor, rv_rows, acts_above}
use Rattle.lg_selr_values.proofs.OfProcessor.SlotLemmas.{pc-next, goes-on}
use Rattle.lg_selr.specs.Control.HostCalls.{host_code, rv_ready}
use Rattle.lg_sel.proofs.OfControl.ChainLemmas.{Chain, chain-end, chain-more, runs-there}
use Rattle.lg_selr_values.proofs.OfProcessor.RegisterLemmas.{read-of}
use Rattle.lg_sel.proofs.OfControl.HostEntryLemmas as entries
use Rattle.lg_sel.proofs.OfControl.HostEntryLemmas.{entry-aligned, entry-runs, entry-near}
use Rattle.lg_sel.proofs.OfControl.StretchLemmas.{aligned, still-sunk}
use Rattle.lg_selr.proofs.OfControl.StretchLemmas.{stands-high, one-passed, all-passed, arrived-with}
use Rattle.lg_selr.proofs.OfControl.WalkLemmas.{jumps-there, lands-there, far-end, far-link, far-other, far-passed, far-sunk}
use Rattle.lg_selr.proofs.OfControl.WordLemmas.{put-same, put-other}
use Rattle.lg_carry.specs.Nodes.Leaps.{CallsLead, HostCallsLead, EntersHosts}
use Rattle.lg_carry.specs.Nodes.Stretches.{StandsAt, behind, PassesIn, Arrival}
use Rattle.lg_sel.specs.Control.RegisterLeaps.{RegisterCallsLead, RegisterHostCallsLead}
use Rattle.lg_sel.specs.declared.reach.Reach.{Reach}
use Rattle.lg_sel.specs.declared.reach.Reach.TheVariants.{Short, Near, Far}
use Rattle.lg_selr.specs.Control.Calls.{call_code}
use Rattle.lg_selr.specs.Control.RegisterLeaps.{register_call_code}

entry-address : (name : HostName) → add_words (sign_32 (high_part (host_address name) * 4096))
    (word_of (low_part (host_address name))) / 2 * 2 ≡ host_address name
entry-address host.Printf = refl
entry-address o = refl

module _ (code : List ℕ) (trash : ℕ) (small : length code ≤ most_code) (bytes : AreBytes code) (word : trash < 2 ^ 64) where
  -- ---- a call of a function
  near-calls-lead : CallsLead (rv_rows code trash) IsInstr (call_code Near)
  near-calls-lead frame from to q f k there runs at =
      let jump = instr.Jal 1 (pos to -ℤ pos from) in
      let e : Effect CpuState = goes to (put q.state.registers 1 (add_words q.state.pc 4)) q.state.bytes q.state.mark in
      let high = stands-high false code trash small bytes word from jump [] k in
      let does : act jump q.state ≡ e =
      ap (λ p. act (instr.Jal 1 (pos to -ℤ pos p)) q.state) (sym at)
      ∙ jumps-there q.state 1 to (omega (arith, high, at)) (let h = there.high in omega (arith, h)) (aligned to there.place) in
      let after-it : ℕ = behind (rv_rows code trash) from (call_code Near from to) in
      let pass : PassesIn (rv_processor code trash) false from after-it 1 q (after q e) =
      subst (λ z. PassesIn (rv_processor code trash) false from after-it 1 q (after q z)) does
      (one-passed false code trash small bytes word from [] jump [] q k runs (no-width _ _) (at ∙ omega arith)) in
      arrived-with code trash from after-it after-it to 1 q (after q e) pass (one-sinks (rv_processor code trash) from after-it q (after q e) pass)
      (omega arith) (omega arith) (runs-there to there.low) refl
      (put-same q.state.registers 1 _ ∙ pc-next q.state.pc (omega (arith, high, at)) ∙ omega (arith, at))
      (λ x ne. put-other q.state.registers 1 _ x ne) refl refl

  far-calls-lead : CallsLead (rv_rows code trash) IsInstr (call_code Far)
  far-calls-lead frame from to q f k there runs at =
      let reads : (v : ℕ) → read (put q.state.registers 1 v) 1 ≡ v = λ v. put-same q.state.registers 1 v in
      let end : Run CpuState = far-end code trash small bytes word 1 1 from to q k there runs at reads in
      let after-it : ℕ = behind (rv_rows code trash) from (call_code Far from to) in
      arrived-with code trash from after-it after-it to 2 q end
      (far-passed code trash small bytes word 1 1 from to q k there runs at reads)
      (far-sunk code trash small bytes word 1 1 from to q k there runs at reads)
      (omega arith) (omega arith) (runs-there to there.low) refl
      (far-link code trash small bytes word 1 1 from to q k there runs at reads)
      (λ x ne. far-other code trash small bytes word 1 1 from to q k there runs at reads x ne ne) refl refl

  pub calls-lead : (r : Reach) → CallsLead (rv_rows code trash) IsInstr (call_code r)
  calls-lead Short = near-calls-lead
  calls-lead Near = near-calls-lead
  calls-lead Far = far-calls-lead

  -- ---- a call of the word of a register
  register-arrival : (frame from to : ℕ) (a : Reg) (q : Run CpuState) → StandsAt (rv_rows code trash) false IsInstr from (register_call_code frame a) → to < 2 ^ 62
      → to % 4 ≡ 0 → status_of (arrived to) ≡ Running
      → status_of q.progress ≡ Running → q.state.pc ≡ from → q.state.registers (register_of Riscv64 a) ≡ to
      → Arrival (rv_processor code trash) from (behind (rv_rows code trash) from (register_call_code frame a)) (q.state.registers 2)
      (behind (rv_rows code trash) from (register_call_code frame a)) to q
  register-arrival frame from to a q k near even there runs at is =
      let jump = instr.Imm Jalr 1 (register_of Riscv64 a) (pos 0) in
      let e : Effect CpuState = goes to (put q.state.registers 1 (add_words q.state.pc 4)) q.state.bytes q.state.mark in
      let high = stands-high false code trash small bytes word from jump [] k in
      let does : act jump q.state ≡ e = lands-there q.state 1 (register_of Riscv64 a) to (read-of q.state.registers a ∙ is) near even in
      let after-it : ℕ = behind (rv_rows code trash) from (register_call_code frame a) in
      let pass : PassesIn (rv_processor code trash) false from after-it 1 q (after q e) =
      subst (λ z. PassesIn (rv_processor code trash) false from after-it 1 q (after q z)) does
      (one-passed false code trash small bytes word from [] jump [] q k runs (no-width _ _) (at ∙ omega arith)) in
      arrived-with code trash from after-it after-it to 1 q (after q e) pass (one-sinks (rv_processor code trash) from after-it q (after q e) pass)
      (omega arith) (omega arith) there refl (put-same q.state.registers 1 _ ∙ pc-next q.state.pc (omega (arith, high, at)) ∙ omega (arith, at))
      (λ x ne. put-other q.state.registers 1 _ x ne) refl refl

  pub register-calls-lead : RegisterCallsLead (rv_rows code trash) IsInstr register_call_code
  register-calls-lead frame from to a q f k there runs at is =
      register-arrival frame from to a q k (let h = there.high in omega (arith, h)) (aligned to there.place) (runs-there to there.low) runs at is

  pub register-host-calls-lead : RegisterHostCallsLead (rv_rows code trash) rv_ready IsInstr register_call_code
  register-host-calls-lead frame from name a q f k runs at is = record {
    ready_is = refl;
    arrival = register-arrival frame from (host_address name) a q k (entry-near name) (entry-aligned name)
        (entry-runs name) runs at is;
  }

  -- ---- a call of a host function
  pub host-calls-lead : HostCallsLead (rv_rows code trash) rv_ready IsInstr host_code
  host-calls-lead frame from name q f k runs at =
      let a = host_address name in
      let v1 = sign_32 (high_part a * 4096) in
      let high = stands-high false code trash small bytes word from (instr.Upper _ 1 (high_part a)) (instr.Imm _ 1 1 (low_part a) ∷ []) k in
      let low = k.low in
      let q1 : Run CpuState = after q (sets q.state 1 v1) in
      let pc1 : q1.state.pc ≡ from + 4 = pc-next q.state.pc (omega (arith, high, at)) ∙ omega (arith, at) in
      let runs1 : status_of q1.progress ≡ Running = goes-on q.state.pc (omega (arith, low, at)) (omega (arith, high, at)) in
      let e : Effect CpuState = goes a (put q1.state.registers 1 (add_words q1.state.pc 4)) q1.state.bytes q1.state.mark in
      let u : Run CpuState = after q1 e in
      let chain : Chain act acts_above (host_code name) q u = chain-more act acts_above _ _ q u (sets q.state 1 v1) runs (no-width _ _) refl
      (chain-more act acts_above _ _ q1 u e runs1 (no-width _ _) (ap (jump_to q1.state 1) (entry-address name) ∙ ap (λ b. if b then e else faults q1.state Align) (ap (λ n. n == 0) (entry-aligned name)))
      (chain-end act acts_above u)) in
      let after-it : ℕ = behind (rv_rows code trash) from (host_code name) in record {
        ready_is = refl;
        arrival = arrived-with code trash from after-it after-it a 2 q u
            (all-passed false code trash small bytes word from (host_code name) q u k at (refl, tt) chain)
            (still-sunk (rv_rows code trash) IsInstr (are-rows code trash small bytes word) from (host_code name) q k at (refl, tt) chain.through)
            (omega arith) (omega arith) (entry-runs name) refl
            (put-same q1.state.registers 1 _ ∙ pc-next q1.state.pc (omega (arith, high, pc1)) ∙ omega (arith, pc1))
            (λ x ne. put-other q1.state.registers 1 _ x ne ∙ put-other q.state.registers 1 _ x ne) refl refl;
      }

  -- ---- the step of a host function
  entered : (s : CpuState) (name : HostName) → host_by_address s.pc ≡ Some name → s.registers 2 % 16 ≡ 0
      → effect code trash s ≡ returned (answer_at Riscv64 name (s.registers 2) s) (s.registers 1) (after_call Riscv64 32 s.registers trash) NoFlags s
  entered s name is whole =
      let even : (s.registers 2 % 16 == 0) ≡ true = ap (λ n. n == 0) whole in
      ap (λ o. effect_at o code trash s) is
      ∙ ap (λ b. if b then host_effect (answer_at Riscv64 name (s.registers 2) s) trash s else faults s HostFault) even

  pub enters-hosts : EntersHosts (rv_processor code trash) rv_ready
  enters-hosts =
      entries.enters-hosts Riscv64 (effect code trash) (λ f. NoFlags) (touched_at code) trash 1 NoFlags refl entered (λ s h. stays-sound code trash s bytes word h) rv_ready
