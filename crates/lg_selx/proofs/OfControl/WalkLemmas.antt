-- Jumps, by labels and registers, walk where they lead.
use Rattle.std.proofs.Common.{◌≡◌, ℕ, ◌+◌, ◌^◌, ◌<◌, ◌≤◌, false, List, [], refl, ap, ◌∙◌, arith, length}
use Rattle.std.specs.Prelude.{pos, ◌-ℤ◌}
use Rattle.std.proofs.lemmas.Int.{ints}
use Rattle.lg_base.specs.Fields.{word_of}
use Rattle.lg_base.specs.Layout.{most_code}
use Rattle.lg_base.specs.Words.{add_words}
use Rattle.lg_base.specs.declared.target.Target.TheVariants.{X86_64}
use Rattle.lg_x86.specs.Spelling.{IsInstr}
use Rattle.lg_x86.specs.declared.instruction.Instr.{Instr}
use Rattle.lg_x86.specs.declared.instruction.Instr.TheVariants as instr
use Rattle.lg_x86.specs.declared.instruction.JumpNearOp.TheVariants.{Jmp32}
use Rattle.lg_x86.specs.declared.instruction.JumpRegOp.TheVariants.{Jmpr}
use Rattle.lg_cpu.specs.Laws.{AreBytes}
use Rattle.lg_cpu.specs.States.{CpuState, goes_on}
use Rattle.lg_cpu.specs.Steps.{Effect, after}
use Rattle.lg_cpu.specs.X86Step.{scene_of}
use Rattle.lg_temp.specs.Abis.{register_of}
use Rattle.lg_carry.proofs.BlockLemmas.{nothing-off}
use Rattle.lg_selx_values.specs.Processor.X86Rows.{x86_processor, x86_rows}
use Rattle.lg_carry.specs.Nodes.Stretches.{behind}
use Rattle.lg_sel.specs.Control.RegisterLeaps.{RegisterJumpsWalk}
use Rattle.lg_sel.specs.Control.Walks.{JumpsWalk}
use Rattle.lg_sel.proofs.OfControl.ChainLemmas.{runs-there}
use Rattle.lg_sel.proofs.OfControl.StretchLemmas.{walked}
use Rattle.lg_sel.specs.declared.reach.Reach.{Reach}
use Rattle.lg_sel.specs.declared.reach.Reach.TheVariants.{Short, Near, Far}
use Rattle.lg_selx.specs.Control.Jumps.{jump_code}
use Rattle.lg_selx.specs.Control.RegisterLeaps.{register_jump_code}
use Rattle.lg_selx.proofs.OfControl.StretchLemmas.{front_state, front-top, front-passed}

-- this many bytes lead from an address to another
distance-leads : (from to : ℕ) → from < 2 ^ 62 → to < 2 ^ 62 → add_words from (word_of (pos to -ℤ pos from)) ≡ to
distance-leads from to h k = grind (arith, ints, h, k)

pub leads-there : (pc from to : ℕ) → pc ≡ from → from < 2 ^ 62 → to < 2 ^ 62 → add_words pc (word_of (pos to -ℤ pos from)) ≡ to
leads-there pc from to at h k = ap (λ p. add_words p (word_of (pos to -ℤ pos from))) at ∙ distance-leads from to h k

-- ---- they walk
module _ (code : List ℕ) (trash : ℕ) (small : length code ≤ most_code) (bytes : AreBytes code) (word : trash < 2 ^ 64) where
  short-jumps-walk : JumpsWalk (x86_rows code trash) IsInstr (jump_code Short)
  short-jumps-walk from to q k there runs at =
      let jump : Instr = instr.JumpShort (pos to -ℤ pos (from + 2)) in
      let high : ℕ = behind (x86_rows code trash) from (jump_code Short from to) in
      let top : high ≤ _ = front-top false code trash small bytes word from [] jump q (scene_of q.state) k refl runs at in
      let t = there.high in
      let e : Effect CpuState = goes_on (front_state false code trash small bytes word from [] jump q (scene_of q.state) k refl runs at) to in
      let leads = leads-there high (from + 2) to (omega arith) (omega (arith, top)) (omega (arith, t)) in
      walked (x86_processor code trash) (λ x. false) (λ x e. cc) from high to 1 q (after q e)
      (front-passed false code trash small bytes word from [] jump q (scene_of q.state) k refl runs at tt (nothing-off _) e
      (ap (goes_on (front_state false code trash small bytes word from [] jump q (scene_of q.state) k refl runs at)) leads))
      (omega arith) (λ lt. omega arith) (runs-there to there.low) refl (λ x off. refl) refl refl

  near-jumps-walk : JumpsWalk (x86_rows code trash) IsInstr (jump_code Near)
  near-jumps-walk from to q k there runs at =
      let jump : Instr = instr.JumpNear Jmp32 (pos to -ℤ pos (from + 5)) in
      let high : ℕ = behind (x86_rows code trash) from (jump_code Near from to) in
      let top : high ≤ _ = front-top false code trash small bytes word from [] jump q (scene_of q.state) k refl runs at in
      let t = there.high in
      let e : Effect CpuState = goes_on (front_state false code trash small bytes word from [] jump q (scene_of q.state) k refl runs at) to in
      let leads = leads-there high (from + 5) to (omega arith) (omega (arith, top)) (omega (arith, t)) in
      walked (x86_processor code trash) (λ x. false) (λ x e. cc) from high to 1 q (after q e)
      (front-passed false code trash small bytes word from [] jump q (scene_of q.state) k refl runs at tt (nothing-off _) e
      (ap (goes_on (front_state false code trash small bytes word from [] jump q (scene_of q.state) k refl runs at)) leads))
      (omega arith) (λ lt. omega arith) (runs-there to there.low) refl (λ x off. refl) refl refl

  pub jumps-walk : (r : Reach) → JumpsWalk (x86_rows code trash) IsInstr (jump_code r)
  jumps-walk Short = short-jumps-walk
  jumps-walk Near = near-jumps-walk
  jumps-walk Far = near-jumps-walk

  pub register-jumps-walk : RegisterJumpsWalk (x86_rows code trash) IsInstr register_jump_code
  register-jumps-walk frame from to a q f k there runs at is =
      let jump : Instr = instr.JumpReg Jmpr (register_of X86_64 a) in
      let high : ℕ = behind (x86_rows code trash) from (register_jump_code frame a) in
      let e : Effect CpuState = goes_on (front_state false code trash small bytes word from [] jump q (scene_of q.state) k refl runs at) to in
      walked (x86_processor code trash) (λ x. false) (λ x e. cc) from high to 1 q (after q e)
      (front-passed false code trash small bytes word from [] jump q (scene_of q.state) k refl runs at tt (nothing-off _) e
      (ap (goes_on (front_state false code trash small bytes word from [] jump q (scene_of q.state) k refl runs at)) is))
      (omega arith) (λ lt. omega arith) (runs-there to there.low) refl (λ x off. refl) refl refl
