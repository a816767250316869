-- Calls on x86-64 push the address after them.
use Rattle.std.proofs.Common.{◌≡◌, ◌≢◌, ℕ, zero, suc, ◌+◌, ◌-◌, ◌^◌, ◌<◌, ◌≤◌, ◌⊎◌, true, false, List, [], ◌∷◌, ◌++◌, Some, None, refl, sym, ap, ◌∙◌, subst, arith, length}
use Rattle.std.specs.List.{list_all}
use Rattle.std.specs.Prelude.{pos, ◌-ℤ◌, slice_index, if◌then◌else◌}
use Rattle.lg_sel.specs.Holes.{Each}
use Rattle.lg_selx_values.specs.Processor.Destinations.{WritesWithin}
use Rattle.lg_carry.proofs.TurnLemmas.{still-done, still-lowers, block-sinks, sinks-last}
use Rattle.lg_carry.specs.Carries.{Sinks}
use Rattle.lg_base.specs.Conventions.{argument_registers, portable_register}
use Rattle.lg_base.specs.HostNames.{host_address}
use Rattle.lg_base.specs.Layout.{code_base, most_code, least_frame, stack_end}
use Rattle.lg_base.specs.Parts.{stack_base}
use Rattle.lg_base.specs.Runs.{Running}
use Rattle.lg_base.specs.Spaces.{mapped, stored}
use Rattle.lg_base.specs.Words.{sub_words}
use Rattle.lg_base.specs.declared.fault.FaultKind.TheVariants.{Memory}
use Rattle.lg_base.specs.declared.host_name.HostName.{HostName}
use Rattle.lg_base.specs.declared.host_name.HostName.TheVariants as host
use Rattle.lg_base.specs.declared.target.Target.TheVariants.{X86_64}
use Rattle.lg_base.proofs.SpaceLemmas.{mapped-all, loaded-stored, stored-out}
use Rattle.lg_cells.specs.Cells.{within}
use Rattle.lg_op.specs.declared.operand.Reg.{Reg}
use Rattle.lg_x86.specs.Spelling.{IsInstr}
use Rattle.lg_x86.specs.declared.instruction.Instr.{Instr}
use Rattle.lg_x86.specs.declared.instruction.Instr.TheVariants as instr
use Rattle.lg_x86.specs.declared.instruction.JumpNearOp.TheVariants.{Call32}
use Rattle.lg_x86.specs.declared.instruction.JumpRegOp.TheVariants.{Callr}
use Rattle.lg_x86.specs.declared.instruction.RmRegOp.TheVariants.{Mov}
use Rattle.lg_cpu.specs.HostSteps.{put}
use Rattle.lg_cpu.specs.Laws.{AreBytes}
use Rattle.lg_cpu.specs.States.{CpuState}
use Rattle.lg_cpu.specs.Steps.{Run, Effect, after, arrived, status_of}
use Rattle.lg_cpu.specs.X86Step.{scene_of, goes, goes_with, pushes, takes_al, does}
use Rattle.lg_temp.specs.Abis.{register_of}
use Rattle.lg_selx_values.specs.Processor.MakingNodes.{scene}
use Rattle.lg_carry.specs.Processors.{IsOff, is_below}
use Rattle.lg_selx_values.proofs.OfProcessor.SlotLemmas.{in-zone}
use Rattle.lg_selx_values.specs.Processor.Makings.{makes, is_still}
use Rattle.lg_selx_values.specs.Processor.X86Touched.{touched, beneath}
use Rattle.lg_selx_values.specs.Processor.X86Rows.{x86_processor, x86_rows, x86_seen}
use Rattle.lg_selx_values.proofs.OfProcessor.MakingLemmas.{still-above}
use Rattle.lg_carry.specs.Nodes.Leaps.{CallsLead, HostCallsLead}
use Rattle.lg_carry.specs.Nodes.Stretches.{HasFrame, StandsAt, behind, Arrival, PassesIn}
use Rattle.lg_sel.specs.Control.RegisterLeaps.{RegisterCallsLead, RegisterHostCallsLead}
use Rattle.lg_sel.proofs.OfControl.ChainLemmas.{runs-there}
use Rattle.lg_sel.proofs.OfControl.HostEntryLemmas.{entry-runs}
use Rattle.lg_selx_values.proofs.RegisterLemmas.{put-same, put-other}
use Rattle.lg_selx.specs.Control.Calls.{call_code}
use Rattle.lg_selx.specs.Control.HostCalls.{host_code, x86_ready}
use Rattle.lg_selx.specs.Control.RegisterLeaps.{register_call_code}
use Rattle.lg_selx.proofs.OfControl.StretchLemmas.{front_run, front_state, front-top, front-passed, front-block, front-after, spelled-some, all-still}
use Rattle.lg_selx.proofs.OfControl.WalkLemmas.{leads-there}

-- ---- the word that is pushed
eight-below : (sp : ℕ) → least_frame ≤ sp → sp ≤ stack_end → sub_words sp 8 ≡ sp - 8
eight-below sp low high = grind (arith, low, high)

in-stack : (sp a : ℕ) → least_frame ≤ sp → sp ≤ stack_end → sp - 8 ≤ a → a < sp - 8 + 8 → within stack_base 0x100000 a ≡ true
in-stack sp a low high le lt = grind (arith, low, high, le, lt)

off-word : (sp a : ℕ) → least_frame ≤ sp → within (sp - 8) 8 a ≡ false → (a < sp - 8) ⊎ (sp - 8 + 8 ≤ a)
off-word sp a low e = grind (arith, low, e)

-- a call of an address pushes another one
pushed : (s : CpuState) (sp to back : ℕ) → s.registers 4 ≡ sp → least_frame ≤ sp → sp ≤ stack_end → mapped s.bytes (sp - 8) 8 ≡ true
    → goes_with s to Memory (pushes back (scene_of s)) ≡ goes to (scene (put s.registers 4 (sp - 8)) s.flags (stored s.bytes (sp - 8) 8 back)) s.mark
pushed s sp to back at low high there =
    let lower : sub_words (s.registers 4) 8 ≡ sp - 8 = ap (λ x. sub_words x 8) at ∙ eight-below sp low high in
    ap (λ x. goes_with s to Memory (if mapped s.bytes x 8 then Some (scene (put s.registers 4 x) s.flags (stored s.bytes x 8 back)) else None)) lower
    ∙ ap (λ b. goes_with s to Memory (if b then Some (scene (put s.registers 4 (sp - 8)) s.flags (stored s.bytes (sp - 8) 8 back)) else None)) there

-- ---- it arrives, after code that changes no register but rax and r11, and no byte
module _ (code : List ℕ) (trash : ℕ) (small : length code ≤ most_code) (bytes : AreBytes code) (word : trash < 2 ^ 64)
    (from to frame : ℕ) (front : List Instr) (x : Instr) (W : ℕ → ℕ) (q : Run CpuState) (f : HasFrame X86_64 frame (x86_seen q))
    (k : StandsAt (x86_rows code trash) true IsInstr from (front ++ (x ∷ []))) (made : makes front (scene_of q.state) ≡ Some (scene W q.state.flags q.state.bytes))
    (few : length front ≤ 2) (runs : status_of q.progress ≡ Running) (at : q.state.pc ≡ from) (there : status_of (arrived to) ≡ Running)
    (same : (z : ℕ) → z ≢ 0 → z ≢ 11 → W z ≡ q.state.registers z) where
  abbrev high : ℕ
  high = behind (x86_rows code trash) from (front ++ (x ∷ []))

  abbrev last : CpuState
  last = front_state true code trash small bytes word from front x q (scene W q.state.flags q.state.bytes) k made runs at

  abbrev sp : ℕ
  sp = q.state.registers 4

  top : high ≤ code_base + most_code
  top = front-top true code trash small bytes word from front x q (scene W q.state.flags q.state.bytes) k made runs at

  stack-top : sp ≤ stack_end
  stack-top = let h = f.high in omega (arith, h)

  abbrev end_registers : ℕ → ℕ
  end_registers = put W 4 (sp - 8)

  abbrev e : Effect CpuState
  e = goes to (scene end_registers q.state.flags (stored q.state.bytes (sp - 8) 8 high)) q.state.mark

  is-pushed : goes_with last to Memory (pushes high (scene_of last)) ≡ e
  is-pushed = pushed last sp to high (same 4 (λ z. cc) (λ z. cc)) f.low stack-top
      (mapped-all q.state.bytes (sp - 8) 8 (λ a le lt. f.seen.stack a (in-stack sp a f.low stack-top le lt)))

  kept : (z : ℕ) → z ≢ 4 → z ≢ 0 → z ≢ 11 → end_registers z ≡ q.state.registers z
  kept z n4 n0 n11 = put-other W 4 (sp - 8) z n4 ∙ same z n0 n11

  kept-saved : (v : ℕ) → v < 3 → end_registers (portable_register X86_64 (v + 3)) ≡ q.state.registers (portable_register X86_64 (v + 3))
  kept-saved zero lt = kept 3 (λ z. cc) (λ z. cc) (λ z. cc)
  kept-saved (suc zero) lt = kept 13 (λ z. cc) (λ z. cc) (λ z. cc)
  kept-saved (suc (suc zero)) lt = kept 14 (λ z. cc) (λ z. cc) (λ z. cc)
  kept-saved (suc (suc (suc v))) lt = absurd (omega (arith, lt))

  kept-argument : (j : ℕ) → j < length (argument_registers X86_64)
      → end_registers (slice_index (argument_registers X86_64) j) ≡ q.state.registers (slice_index (argument_registers X86_64) j)
  kept-argument zero lt = kept 7 (λ z. cc) (λ z. cc) (λ z. cc)
  kept-argument (suc zero) lt = kept 6 (λ z. cc) (λ z. cc) (λ z. cc)
  kept-argument (suc (suc zero)) lt = kept 2 (λ z. cc) (λ z. cc) (λ z. cc)
  kept-argument (suc (suc (suc zero))) lt = kept 1 (λ z. cc) (λ z. cc) (λ z. cc)
  kept-argument (suc (suc (suc (suc zero)))) lt = kept 8 (λ z. cc) (λ z. cc) (λ z. cc)
  kept-argument (suc (suc (suc (suc (suc zero))))) lt = kept 9 (λ z. cc) (λ z. cc) (λ z. cc)
  kept-argument (suc (suc (suc (suc (suc (suc j)))))) lt = absurd (omega (arith, lt))

  -- the word that is pushed lies in the zone below the stack pointer
  pushes-above : touched x W ≡ beneath W → IsOff (is_below X86_64 (W 4)) (touched x W)
  pushes-above touches =
      let lower = same 4 (λ z. cc) (λ z. cc) in
      let word : sub_words (W 4) 8 ≡ sp - 8 = ap (λ z. sub_words z 8) lower ∙ eight-below sp f.low stack-top in
      subst (IsOff (is_below X86_64 (W 4))) (sym touches) (λ a le lt. in-zone (W 4) a (omega (arith, le, word, lower)))

  abbrev r : Run CpuState
  r = front_run true code trash small bytes word from front x q (scene W q.state.flags q.state.bytes) k made runs at

  abbrev u : Run CpuState
  u = after r e

  passes-it : list_all is_still front ≡ true → touched x W ≡ beneath W → does x high last ≡ goes_with last to Memory (pushes high (scene_of last))
      → PassesIn (x86_processor code trash) true from high (length front + 1) q u
  passes-it still touches acts = front-passed true code trash small bytes word from front x q (scene W q.state.flags q.state.bytes) k made runs at
      (still-above front (scene_of q.state) still) (pushes-above touches) e (acts ∙ is-pushed)

  -- the stack pointer stays in front of the call, which lets it fall
  sinks-it : Each (WritesWithin false) front → list_all is_still front ≡ true → PassesIn (x86_processor code trash) true from high (length front + 1) q u
      → Sinks (x86_processor code trash) from (length front + 1) q
  sinks-it within still pass =
      let above = still-above front (scene_of q.state) still in
      let block = front-block true code trash small bytes word from front x q (scene W q.state.flags q.state.bytes) k made runs at above in
      let after-it = front-after true code trash small bytes word from front x q (scene W q.state.flags q.state.bytes) k made runs at above in
      let level = still-done (x86_rows code trash) front q (all-still code trash front within) in
      let same-stack : u.state.registers 4 ≡ sp - 8 = put-same W 4 (sp - 8) in
      let begins = block-sinks (x86_rows code trash) front q from block (still-lowers (x86_rows code trash) front q (all-still code trash front within)) at in
      sinks-last (x86_processor code trash) from (length front) q r u begins block.leads pass.leads (omega (arith, level, same-stack))
      (λ some. let l = spelled-some front some in omega (arith, l, after-it))

  pub call-arrival : Each (WritesWithin false) front → list_all is_still front ≡ true → touched x W ≡ beneath W → does x high last ≡ goes_with last to Memory (pushes high (scene_of last))
      → Arrival (x86_processor code trash) from high sp high to q
  call-arrival within still touches acts = record {
    end = u;
    steps = length front + 1;
    passes = passes-it still touches acts;
    sinks = sinks-it within still (passes-it still touches acts);
    few = omega (arith, few);
    some = omega arith;
    runs = there;
    here = refl;
    pointer = put-same W 4 (sp - 8);
    link = loaded-stored q.state.bytes (sp - 8) 8 high (omega (arith, top));
    kept = kept-saved;
    frame = kept 5 (λ z. cc) (λ z. cc) (λ z. cc);
    arguments = kept-argument;
    bytes = λ a off. stored-out q.state.bytes (sp - 8) 8 high a (off-word sp a f.low off);
    mark = refl;
  }

-- ---- the calls
module _ (code : List ℕ) (trash : ℕ) (small : length code ≤ most_code) (bytes : AreBytes code) (word : trash < 2 ^ 64) where
  -- of a label
  pub calls-lead : CallsLead (x86_rows code trash) IsInstr call_code
  calls-lead frame from to q f k there runs at =
      let x : Instr = instr.JumpNear Call32 (pos to -ℤ pos (from + 5)) in
      let high : ℕ = behind (x86_rows code trash) from (call_code from to) in
      let top = front-top true code trash small bytes word from [] x q (scene_of q.state) k refl runs at in
      let last : CpuState = front_state true code trash small bytes word from [] x q (scene_of q.state) k refl runs at in
      let t = there.high in
      call-arrival code trash small bytes word from to frame [] x q.state.registers q f k refl (omega arith) runs at (runs-there to there.low) (λ z n m. refl) tt refl refl
      (ap (λ y. goes_with last y Memory (pushes high (scene_of last))) (leads-there high (from + 5) to (omega arith) (omega (arith, top)) (omega (arith, t))))

  -- of the word in r11, with al = 0
  abbrev after_moves : (ℕ → ℕ) → ℕ → ℕ → ℕ
  after_moves w to = put (put w 11 to) 0 0

  moves-keep : (w : ℕ → ℕ) (to z : ℕ) → z ≢ 0 → z ≢ 11 → after_moves w to z ≡ w z
  moves-keep w to z n0 n11 = put-other (put w 11 to) 0 0 z n0 ∙ put-other w 11 to z n11

  register-arrival : (frame from to : ℕ) (a : Reg) (q : Run CpuState) → HasFrame X86_64 frame (x86_seen q)
      → StandsAt (x86_rows code trash) true IsInstr from (register_call_code frame a) → status_of (arrived to) ≡ Running → status_of q.progress ≡ Running
      → q.state.pc ≡ from → q.state.registers (register_of X86_64 a) ≡ to
      → Arrival (x86_processor code trash) from (behind (x86_rows code trash) from (register_call_code frame a)) (q.state.registers 4)
      (behind (x86_rows code trash) from (register_call_code frame a)) to q
  register-arrival frame from to a q f k there runs at is =
      let W : ℕ → ℕ = after_moves q.state.registers (q.state.registers (register_of X86_64 a)) in
      let x : Instr = instr.JumpReg Callr 11 in
      let front : List Instr = instr.RmReg Mov 11 (register_of X86_64 a) ∷ (instr.Movi32 0 0 ∷ []) in
      let high : ℕ = behind (x86_rows code trash) from (register_call_code frame a) in
      let last : CpuState = front_state true code trash small bytes word from front x q (scene W q.state.flags q.state.bytes) k refl runs at in
      call-arrival code trash small bytes word from to frame front x W q f k refl (omega arith) runs at there
      (λ z n m. moves-keep q.state.registers (q.state.registers (register_of X86_64 a)) z n m) ((refl, tt), ((refl, tt), tt)) refl refl
      (ap (λ y. goes_with last y Memory (pushes high (scene_of last))) is)

  pub register-calls-lead : RegisterCallsLead (x86_rows code trash) IsInstr register_call_code
  register-calls-lead frame from to a q f k there runs at is = register-arrival frame from to a q f k (runs-there to there.low) runs at is

  takes-none : (name : HostName) → takes_al name 0 ≡ true
  takes-none host.Printf = refl
  takes-none name = refl

  pub register-host-calls-lead : RegisterHostCallsLead (x86_rows code trash) x86_ready IsInstr register_call_code
  unfolding register-arrival call-arrival
  register-host-calls-lead frame from name a q f k runs at is = record {
    ready_is = takes-none name;
    arrival = register-arrival frame from (host_address name) a q f k (entry-runs name) runs at is;
  }

  -- of a host function
  host-arrival : (frame from : ℕ) (name : HostName) (q : Run CpuState) → HasFrame X86_64 frame (x86_seen q)
      → StandsAt (x86_rows code trash) true IsInstr from (host_code name) → status_of q.progress ≡ Running → q.state.pc ≡ from
      → Arrival (x86_processor code trash) from (behind (x86_rows code trash) from (host_code name)) (q.state.registers 4)
      (behind (x86_rows code trash) from (host_code name)) (host_address name) q
  host-arrival frame from name q f k runs at =
      let W : ℕ → ℕ = after_moves q.state.registers (host_address name) in
      let front : List Instr = instr.Movi32 11 (host_address name) ∷ (instr.Movi32 0 0 ∷ []) in
      call-arrival code trash small bytes word from (host_address name) frame front (instr.JumpReg Callr 11) W q f k refl (omega arith) runs at
      (entry-runs name) (λ z n m. moves-keep q.state.registers (host_address name) z n m) ((refl, tt), ((refl, tt), tt)) refl refl refl

  pub host-calls-lead : HostCallsLead (x86_rows code trash) x86_ready IsInstr host_code
  unfolding host-arrival call-arrival
  host-calls-lead frame from name q f k runs at = record { ready_is = takes-none name; arrival = host-arrival frame from name q f k runs at }
