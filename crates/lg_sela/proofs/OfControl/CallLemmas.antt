-- Calls on AArch64: `bl` and `blr` link, and a host function returns to the link.
use Rattle.lg_carry.proofs.TurnLemmas.{one-sinks, still-sinks, ahead-more}
use Rattle.lg_sela_values.specs.Processor.A64Touched.{touched_at}
use Rattle.lg_carry.proofs.BlockLemmas.{no-width}
use Rattle.std.proofs.Common.{◌≡◌, ◌≢◌, ℕ, ◌+◌, ◌*◌, ◌%◌, ◌^◌, ◌<◌, ◌≤◌, true, List, [], ◌∷◌, Some, refl, ap, ◌∙◌, arith, length, false}
use Rattle.std.proofs.Common.{length-append}
use Rattle.std.specs.Prelude.{◌==◌, if◌then◌else◌}
use Rattle.lg_base.specs.HostNames.{host_address, host_by_address}
use Rattle.lg_base.specs.Layout.{code_base, most_code}
use Rattle.lg_base.specs.Runs.{Running}
use Rattle.lg_base.specs.Words.{add_words}
use Rattle.lg_base.specs.declared.fault.FaultKind.TheVariants.{Host as HostFault}
use Rattle.lg_base.specs.declared.host_name.HostName.{HostName}
use Rattle.lg_base.specs.declared.target.Target.TheVariants.{Aarch64}
use Rattle.lg_op.specs.declared.operand.Reg.{Reg}
use Rattle.lg_a64.specs.Spelling.{IsInstr}
use Rattle.lg_a64.specs.declared.instruction.BranchOp.TheVariants.{Bl}
use Rattle.lg_a64.specs.declared.instruction.BranchRegOp.TheVariants.{Blr}
use Rattle.lg_a64.specs.declared.instruction.Instr.{Instr}
use Rattle.lg_a64.specs.declared.instruction.Instr.TheVariants as instr
use Rattle.lg_cpu.specs.A64Step.{link_to, trash_flags, host_effect, effect_at, effect, act}
use Rattle.lg_cpu.specs.HostSteps.{put, after_call, answer_at, returned}
use Rattle.lg_cpu.specs.Laws.{AreBytes}
use Rattle.lg_cpu.specs.States.{CpuState}
use Rattle.lg_cpu.specs.Steps.{Run, Effect, after, arrived, faults, status_of}
use Rattle.lg_cpu.proofs.A64SoundLemmas.{a64-stays-sound}
use Rattle.lg_temp.specs.Abis.{register_of}
use Rattle.lg_carry.specs.Blocks.{done, RunsBlock}
use Rattle.lg_sela_values.specs.Processor.A64Computers.{a64_computer}
use Rattle.lg_sela_values.specs.Processor.A64Rows.{a64_processor, a64_rows, a64_does, nzcv, link, acts_above}
use Rattle.lg_sela_values.specs.Processor.Computations.{all_compute, holding}
use Rattle.lg_sela_values.specs.Processor.Numbers.{number_code}
use Rattle.lg_sela_values.proofs.OfProcessor.HeldLemmas.{put-same, put-other}
use Rattle.lg_sela_values.proofs.OfProcessor.NumberCodeLemmas.{numbers-are-loaded}
use Rattle.lg_sela_values.proofs.OfProcessor.ComputerLemmas.{spellings-long}
use Rattle.lg_carry.specs.Nodes.Leaps.{CallsLead, HostCallsLead, EntersHosts}
use Rattle.lg_carry.specs.Nodes.Stretches.{StandsAt, behind, Arrival, PassesIn}
use Rattle.lg_carry.proofs.OfNodes.StretchLemmas.{passages-join}
use Rattle.lg_carry.proofs.OfValues.ComputationLemmas.{RunsThrough}
use Rattle.lg_sel.specs.Control.RegisterLeaps.{RegisterCallsLead, RegisterHostCallsLead}
use Rattle.lg_sel.proofs.OfControl.ChainLemmas.{pc-next, runs-there}
use Rattle.lg_sel.proofs.OfControl.ControlLemmas.{host-small}
use Rattle.lg_sel.proofs.OfControl.HostEntryLemmas as entries
use Rattle.lg_sel.proofs.OfControl.HostEntryLemmas.{entry-runs}
use Rattle.lg_sel.proofs.OfControl.StretchLemmas.{aligned, arrived-with}
use Rattle.lg_sela_values.specs.Items.{words_between}
use Rattle.lg_sela.specs.Control.Calls.{call_code}
use Rattle.lg_sela.specs.Control.HostCalls.{host_code, a64_ready}
use Rattle.lg_sela.specs.Control.RegisterLeaps.{register_call_code}
use Rattle.lg_sela.proofs.OfControl.ComputedLemmas.{same-bytes}
use Rattle.lg_sela.proofs.OfControl.StretchLemmas.{stands-high, one-passed, front-high, front-runs, front-passed, front-run, front-after}
use Rattle.lg_sela.proofs.OfControl.WalkLemmas.{leads-there, reads-portable}

module _ (code : List ℕ) (trash : ℕ) (small : length code ≤ most_code) (bytes : AreBytes code) (word : trash < 2 ^ 64) where
  -- a branch that links arrives, where it is the only instruction
  linked-arrival : (from to : ℕ) (x : Instr) (q : Run CpuState) → StandsAt (a64_rows code trash) false IsInstr from (x ∷ []) → status_of (arrived to) ≡ Running
      → status_of q.progress ≡ Running → acts_above x q.state → q.state.pc ≡ from → act x q.state ≡ link_to q.state to
      → Arrival (a64_processor code trash) from (behind (a64_rows code trash) from (x ∷ [])) (q.state.registers 31)
      (behind (a64_rows code trash) from (x ∷ [])) to q
  linked-arrival from to x q k there runs above at does =
      let high = stands-high false code trash small bytes word from (x ∷ []) (omega arith) k in
      let e : Effect CpuState = link_to q.state to in
      let after-it : ℕ = behind (a64_rows code trash) from (x ∷ []) in
      let pass = one-passed false code trash small bytes word from [] x [] q e k runs above (at ∙ omega arith) does in
      arrived-with (a64_processor code trash) link refl from after-it after-it to 1 q (after q e) pass
      (one-sinks (a64_processor code trash) from after-it q (after q e) pass)
      (omega arith) (omega arith) there refl
      (put-same q.state.registers link (add_words q.state.pc 4) ∙ pc-next q.state.pc (omega (arith, high, at)) ∙ omega (arith, at))
      (λ z ne. put-other q.state.registers link (add_words q.state.pc 4) z ne) refl refl

  -- ---- a call of a function
  pub calls-lead : CallsLead (a64_rows code trash) IsInstr call_code
  calls-lead frame from to q f k there runs at =
      let high = stands-high false code trash small bytes word from (call_code from to) (omega arith) k in
      let t = there.high in
      linked-arrival from to (instr.Branch Bl (words_between from to)) q k (runs-there to there.low) runs (no-width _ _) at
      (ap (link_to q.state) (leads-there q.state.pc from to at (omega (arith, high)) (omega (arith, t)) (aligned from k.place) (aligned to there.place)))

  -- ---- a call of the word of a register
  register-arrival : (frame from to : ℕ) (a : Reg) (q : Run CpuState) → StandsAt (a64_rows code trash) false IsInstr from (register_call_code frame a)
      → status_of (arrived to) ≡ Running → status_of q.progress ≡ Running → q.state.pc ≡ from → q.state.registers (register_of Aarch64 a) ≡ to
      → Arrival (a64_processor code trash) from (behind (a64_rows code trash) from (register_call_code frame a)) (q.state.registers 31)
      (behind (a64_rows code trash) from (register_call_code frame a)) to q
  register-arrival frame from to a q k there runs at is =
      linked-arrival from to (instr.BranchReg Blr (register_of Aarch64 a)) q k there runs (no-width _ _) at (ap (link_to q.state) (reads-portable q.state.registers a ∙ is))

  pub register-calls-lead : RegisterCallsLead (a64_rows code trash) IsInstr register_call_code
  register-calls-lead frame from to a q f k there runs at is = register-arrival frame from to a q k (runs-there to there.low) runs at is

  pub register-host-calls-lead : RegisterHostCallsLead (a64_rows code trash) a64_ready IsInstr register_call_code
  register-host-calls-lead frame from name a q f k runs at is = record {
    ready_is = refl;
    arrival = register-arrival frame from (host_address name) a q k (entry-runs name) runs at is;
  }

  -- ---- a call of a host function: its entry is in the link, and the branch there links
  module _ (frame from : ℕ) (name : HostName) (q : Run CpuState) (k : StandsAt (a64_rows code trash) false IsInstr from (host_code name))
      (runs : status_of q.progress ≡ Running) (at : q.state.pc ≡ from) where
    abbrev entry : ℕ
    entry = host_address name

    abbrev front : List Instr
    front = number_code link entry

    abbrev call : Instr
    call = instr.BranchReg Blr link

    abbrev high : ℕ
    high = behind (a64_rows code trash) from (host_code name)

    abbrev r : Run CpuState
    r = done a64_does front q

    all : all_compute front ≡ true
    all = (numbers-are-loaded link entry (omega arith) (host-small name)).computes

    few : length front ≤ 4
    few = (numbers-are-loaded link entry (omega arith) (host-small name)).few

    ran : RunsThrough (a64_computer code trash) front q
    ran = front-runs false code trash small bytes word from front (call ∷ []) q k (omega arith) all runs at

    here : r.state.pc ≡ from + 4 * length front
    here = front-after false code trash small bytes word from front (call ∷ []) q k (omega arith) all runs at

    top : from + 4 * length front + 4 * 1 ≤ code_base + most_code
    top = front-high false code trash small bytes word from front (call ∷ []) q k (omega arith) all runs at

    loaded : r.state.registers ≡ put q.state.registers link entry
    loaded = ap (λ h. h.registers) ran.holds
        ∙ ap (λ h. h.registers) ((numbers-are-loaded link entry (omega arith) (host-small name)).value (holding q.state.registers (nzcv q.state.flags)))

    abbrev e : Effect CpuState
    e = link_to r.state entry

    does : act call r.state ≡ e
    does = ap (link_to r.state) (ap (λ g. g link) loaded ∙ put-same q.state.registers link entry)

    size : high ≡ from + 4 * length front + 4
    size = let l = spellings-long (host_code name) in let m = length-append front (call ∷ []) in omega (arith, l, m)

    back : (add_words r.state.pc 4) ≡ high
    back = pc-next r.state.pc (omega (arith, here, top)) ∙ omega (arith, here, size)

    others : (x : ℕ) → x ≢ link → put r.state.registers link (add_words r.state.pc 4) x ≡ q.state.registers x
    others x ne = put-other r.state.registers link (add_words r.state.pc 4) x ne ∙ ap (λ g. g x) loaded ∙ put-other q.state.registers link entry x ne

    block : RunsBlock (a64_rows code trash) front q
    block = front-run false code trash small bytes word from front (call ∷ []) q k (omega arith) all runs at

    pass : PassesIn (a64_processor code trash) false from high (length front + 1) q (after r e)
    pass =
        passages-join (a64_processor code trash) false from high (length front) 1 q r (after r e)
        (front-passed false code trash small bytes word from front (call ∷ []) q k (omega arith) all runs at)
        (one-passed false code trash small bytes word from front call [] r e k ran.runs (no-width _ _) here does)

    pub host-arrival : Arrival (a64_processor code trash) from high (q.state.registers 31) high entry q
    host-arrival =
        arrived-with (a64_processor code trash) link refl from high high entry (length front + 1) q (after r e) pass
        (still-sinks (a64_processor code trash) from high (length front + 1) q (after r e) pass
        (ahead-more (a64_processor code trash) from (length front) q r block.leads (λ j some lt. let a = block.ahead j some lt in omega (arith, a, at)) (λ some. omega (arith, here, some))))
        (omega (arith, few)) (omega arith) (entry-runs name) refl
        (put-same r.state.registers link (add_words r.state.pc 4) ∙ back) others (same-bytes r.state.bytes q.state.bytes ran.bytes) ran.mark

  pub host-calls-lead : HostCallsLead (a64_rows code trash) a64_ready IsInstr host_code
  host-calls-lead frame from name q f k runs at = record { ready_is = refl; arrival = host-arrival frame from name q k runs at }

  -- ---- the step of a host function
  entered : (s : CpuState) (name : HostName) → host_by_address s.pc ≡ Some name → s.registers 31 % 16 ≡ 0
      → effect code trash s ≡ returned (answer_at Aarch64 name (s.registers 31) s) (s.registers link) (after_call Aarch64 32 s.registers trash) (trash_flags trash) s
  entered s name is whole =
      let even : (s.registers 31 % 16 == 0) ≡ true = ap (λ n. n == 0) whole in
      ap (λ o. effect_at o code trash s) is
      ∙ ap (λ b. if b then host_effect (answer_at Aarch64 name (s.registers 31) s) trash s else faults s HostFault) even

  pub enters-hosts : EntersHosts (a64_processor code trash) a64_ready
  enters-hosts =
      entries.enters-hosts Aarch64 (effect code trash) nzcv (touched_at code) trash link (trash_flags trash) refl entered
      (λ s h. a64-stays-sound code trash s bytes word h) a64_ready
