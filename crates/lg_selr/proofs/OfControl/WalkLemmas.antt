-- Jumps, by labels and registers, walk where they lead.
use Rattle.lg_selr_values.proofs.OfProcessor.RowLemmas.{are-rows}
use Rattle.lg_carry.specs.Carries.{Sinks}
use Rattle.lg_carry.proofs.BlockLemmas.{no-width}
use Rattle.std.proofs.Common.{◌≡◌, ◌≢◌, ℕ, ◌+◌, ◌*◌, ◌/◌, ◌%◌, ◌^◌, ◌<◌, ◌≤◌, true, List, [], ◌∷◌, refl, sym, ap, ◌∙◌, subst, arith, length, false}
use Rattle.std.specs.Prelude.{◌==◌, ℤ, pos, ◌-ℤ◌, if◌then◌else◌}
use Rattle.lg_base.specs.Layout.{code_base, most_code}
use Rattle.lg_base.specs.Fields.{word_of}
use Rattle.lg_base.specs.Runs.{Running}
use Rattle.lg_base.specs.Words.{add_words, sign_32}
use Rattle.lg_base.specs.declared.fault.FaultKind.TheVariants.{Align}
use Rattle.lg_base.specs.declared.target.Target.TheVariants.{Riscv64}
use Rattle.lg_rv.specs.Spelling.{IsInstr}
use Rattle.lg_rv.specs.declared.instruction.Instr.TheVariants as instr
use Rattle.lg_rv.specs.declared.instruction.ImmOp.TheVariants.{Jalr}
use Rattle.lg_rv.specs.declared.instruction.UpperOp.TheVariants.{Auipc}
use Rattle.lg_cpu.specs.Laws.{AreBytes}
use Rattle.lg_cpu.specs.Steps.{Run, Effect, after, faults, status_of}
use Rattle.lg_cpu.specs.HostSteps.{put}
use Rattle.lg_cpu.specs.States.{CpuState}
use Rattle.lg_cpu.specs.RvStep.{read, goes, sets, jump_to, act}
use Rattle.lg_temp.specs.Abis.{register_of}
use Rattle.lg_selr_values.specs.Processor.Numbers.{high_part, low_part}
use Rattle.lg_selr_values.proofs.OfProcessor.SlotLemmas.{pc-next, goes-on}
use Rattle.lg_selr_values.specs.Processor.RvRows.{rv_processor, rv_rows, acts_above}
use Rattle.lg_carry.specs.Nodes.Leaps.{IsThere}
use Rattle.lg_carry.specs.Nodes.Stretches.{StandsAt, behind, PassesIn}
use Rattle.lg_sel.specs.Control.RegisterLeaps.{RegisterJumpsWalk}
use Rattle.lg_sel.specs.Control.Walks.{JumpsWalk}
use Rattle.lg_sel.proofs.OfControl.ChainLemmas.{Chain, chain-end, chain-more, runs-there}
use Rattle.lg_sel.proofs.OfControl.StretchLemmas.{aligned, still-sunk}
use Rattle.lg_sel.specs.declared.reach.Reach.{Reach}
use Rattle.lg_sel.specs.declared.reach.Reach.TheVariants.{Short, Near, Far}
use Rattle.lg_selr_values.specs.Items.{distance, far_jump}
use Rattle.lg_selr.specs.Control.Jumps.{jump_code}
use Rattle.lg_selr.specs.Control.RegisterLeaps.{register_jump_code}
use Rattle.lg_selr_values.proofs.OfProcessor.RegisterLemmas.{read-of}
use Rattle.lg_selr.proofs.OfControl.StretchLemmas.{stands-high, one-passed, all-passed, walked, walked-by-carry}
use Rattle.lg_selr.proofs.OfControl.WordLemmas.{distance-leads, far-leads, put-same, put-other}

-- ---- jumps
pub aligned-there : (to : ℕ) → to % 4 ≡ 0 → (to % 4 == 0) ≡ true
aligned-there to h = rw h refl

-- a jump to a place of the code
pub jumps-there : (q : CpuState) (rd to : ℕ) → q.pc < 2 ^ 62 → to < 2 ^ 62 → to % 4 ≡ 0
    → act (instr.Jal rd (pos to -ℤ pos q.pc)) q ≡ goes to (put q.registers rd (add_words q.pc 4)) q.bytes q.mark
jumps-there q rd to h k at = ap (jump_to q rd) (distance-leads q.pc to h k)
    ∙ ap (λ b. if b then goes to (put q.registers rd (add_words q.pc 4)) q.bytes q.mark else faults q Align) (aligned-there to at)

-- one by a register
even-there : (to : ℕ) → to < 2 ^ 62 → to % 4 ≡ 0 → add_words to 0 / 2 * 2 ≡ to
even-there to h e = grind (arith, h, e)

pub lands-there : (q : CpuState) (rd base to : ℕ) → read q.registers base ≡ to → to < 2 ^ 62 → to % 4 ≡ 0
    → act (instr.Imm Jalr rd base (pos 0)) q ≡ goes to (put q.registers rd (add_words q.pc 4)) q.bytes q.mark
lands-there q rd base to at lt even =
    ap (λ x. jump_to q rd (add_words x 0 / 2 * 2)) at ∙ ap (jump_to q rd) (even-there to lt even)
    ∙ ap (λ b. if b then goes to (put q.registers rd (add_words q.pc 4)) q.bytes q.mark else faults q Align) (aligned-there to even)

-- one by a register that holds an address short of the one where it leads
pub far-lands : (q : CpuState) (rd base : ℕ) (n : ℤ) (v to : ℕ) → read q.registers base ≡ v → add_words v (word_of n) / 2 * 2 ≡ to → to % 4 ≡ 0
    → act (instr.Imm Jalr rd base n) q ≡ goes to (put q.registers rd (add_words q.pc 4)) q.bytes q.mark
far-lands q rd base n v to at sum even =
    ap (λ x. jump_to q rd (add_words x (word_of n) / 2 * 2)) at ∙ ap (jump_to q rd) sum
    ∙ ap (λ b. if b then goes to (put q.registers rd (add_words q.pc 4)) q.bytes q.mark else faults q Align) (aligned-there to even)

-- ---- where a far jump ends, by way of a register
module _ (code : List ℕ) (trash : ℕ) (small : length code ≤ most_code) (bytes : AreBytes code) (word : trash < 2 ^ 64)
    (rd base from to : ℕ) (q : Run CpuState) (k : StandsAt (rv_rows code trash) false IsInstr from (far_jump rd base from to)) (there : IsThere (rv_rows code trash).is_place to)
    (runs : status_of q.progress ≡ Running) (at : q.state.pc ≡ from) (reads : (v : ℕ) → read (put q.state.registers base v) base ≡ v) where
  abbrev far : ℕ
  far = distance from to

  abbrev v : ℕ
  v = add_words q.state.pc (sign_32 (high_part far * 4096))

  abbrev q1 : Run CpuState
  q1 = after q (sets q.state base v)

  abbrev e : Effect CpuState
  e = goes to (put q1.state.registers rd (add_words q1.state.pc 4)) q1.state.bytes q1.state.mark

  abbrev pub far-end : Run CpuState
  far-end = after q1 e

  high : behind (rv_rows code trash) from (far_jump rd base from to) ≤ code_base + most_code
  high = stands-high false code trash small bytes word from (instr.Upper Auipc base (high_part far)) (instr.Imm Jalr rd base (low_part far) ∷ []) k

  pub far-next : q1.state.pc ≡ from + 4
  far-next = pc-next q.state.pc (omega (arith, high, at)) ∙ omega (arith, at)

  pub far-after : add_words q1.state.pc 4 ≡ behind (rv_rows code trash) from (far_jump rd base from to)
  far-after = pc-next q1.state.pc (omega (arith, high, far-next)) ∙ omega (arith, far-next)

  -- nothing but the two registers changes
  pub far-link : (after q1 e).state.registers rd ≡ behind (rv_rows code trash) from (far_jump rd base from to)
  far-link = put-same q1.state.registers rd (add_words q1.state.pc 4) ∙ far-after

  pub far-other : (x : ℕ) → x ≢ rd → x ≢ base → (after q1 e).state.registers x ≡ q.state.registers x
  far-other x ne other = put-other q1.state.registers rd (add_words q1.state.pc 4) x ne ∙ put-other q.state.registers base v x other

  far-chain : Chain act acts_above (far_jump rd base from to) q (after q1 e)
  far-chain =
      let low = k.low in
      let runs1 : status_of q1.progress ≡ Running = goes-on q.state.pc (omega (arith, low, at)) (omega (arith, high, at)) in
      let sum : add_words v (word_of (low_part far)) / 2 * 2 ≡ to =
      ap (λ (p : ℕ). add_words (add_words p (sign_32 (high_part far * 4096))) (word_of (low_part far)) / 2 * 2) at
      ∙ far-leads from to low (omega (arith, high)) there.low there.high (aligned to there.place) in
      chain-more act acts_above _ _ q (after q1 e) (sets q.state base v) runs (no-width _ _) refl
      (chain-more act acts_above _ _ q1 (after q1 e) e runs1 (no-width _ _) (far-lands q1.state rd base (low_part far) v to (reads v) sum (aligned to there.place)) (chain-end act acts_above (after q1 e)))

  pub far-passed : PassesIn (rv_processor code trash) false from (behind (rv_rows code trash) from (far_jump rd base from to)) 2 q (after q1 e)
  far-passed = all-passed false code trash small bytes word from (far_jump rd base from to) q (after q1 e) k at (refl, tt) far-chain

  pub far-sunk : Sinks (rv_processor code trash) from 2 q
  far-sunk = still-sunk (rv_rows code trash) IsInstr (are-rows code trash small bytes word) from (far_jump rd base from to) q k at (refl, tt) far-chain.through

-- ---- they walk
module _ (code : List ℕ) (trash : ℕ) (small : length code ≤ most_code) (bytes : AreBytes code) (word : trash < 2 ^ 64) where
  near-walk : JumpsWalk (rv_rows code trash) IsInstr (jump_code Near)
  near-walk from to q k there runs at =
      let jump = instr.Jal 0 (pos to -ℤ pos from) in
      let e : Effect CpuState = goes to (put q.state.registers 0 (add_words q.state.pc 4)) q.state.bytes q.state.mark in
      let high = stands-high false code trash small bytes word from jump [] k in
      let does : act jump q.state ≡ e =
      ap (λ p. act (instr.Jal 0 (pos to -ℤ pos p)) q.state) (sym at)
      ∙ jumps-there q.state 0 to (omega (arith, high, at)) (let h = there.high in omega (arith, h)) (aligned to there.place) in
      walked code trash from (behind (rv_rows code trash) from (jump_code Near from to)) to 1 q (after q e)
      (subst (λ z. PassesIn (rv_processor code trash) false from (behind (rv_rows code trash) from (jump_code Near from to)) 1 q (after q z)) does
      (one-passed false code trash small bytes word from [] jump [] q k runs (no-width _ _) (at ∙ omega arith)))
      (omega arith) (λ lt. omega arith) (runs-there to there.low) refl (λ x ne. put-other q.state.registers 0 (add_words q.state.pc 4) x ne) refl refl

  -- x31 holds no register but the carry
  far-walk : JumpsWalk (rv_rows code trash) IsInstr (jump_code Far)
  far-walk from to q k there runs at =
      let reads : (v : ℕ) → read (put q.state.registers 31 v) 31 ≡ v = λ v. put-same q.state.registers 31 v in
      let end : Run CpuState = far-end code trash small bytes word 0 31 from to q k there runs at reads in
      walked-by-carry code trash from (behind (rv_rows code trash) from (jump_code Far from to)) to 2 q end
      (far-passed code trash small bytes word 0 31 from to q k there runs at reads)
      (omega arith) (λ lt. omega arith) (runs-there to there.low) refl
      (far-other code trash small bytes word 0 31 from to q k there runs at reads) refl refl

  pub jumps-walk : (r : Reach) → JumpsWalk (rv_rows code trash) IsInstr (jump_code r)
  jumps-walk Short = near-walk
  jumps-walk Near = near-walk
  jumps-walk Far = far-walk

  pub register-jumps-walk : RegisterJumpsWalk (rv_rows code trash) IsInstr register_jump_code
  register-jumps-walk frame from to a q f k there runs at is =
      let jump = instr.Imm Jalr 0 (register_of Riscv64 a) (pos 0) in
      let e : Effect CpuState = goes to (put q.state.registers 0 (add_words q.state.pc 4)) q.state.bytes q.state.mark in
      let does : act jump q.state ≡ e =
      lands-there q.state 0 (register_of Riscv64 a) to (read-of q.state.registers a ∙ is) (let h = there.high in omega (arith, h)) (aligned to there.place) in
      walked code trash from (behind (rv_rows code trash) from (register_jump_code frame a)) to 1 q (after q e)
      (subst (λ z. PassesIn (rv_processor code trash) false from (behind (rv_rows code trash) from (register_jump_code frame a)) 1 q (after q z)) does
      (one-passed false code trash small bytes word from [] jump [] q k runs (no-width _ _) (at ∙ omega arith)))
      (omega arith) (λ lt. omega arith) (runs-there to there.low) refl (λ x ne. put-other q.state.registers 0 (add_words q.state.pc 4) x ne) refl refl
