-- Jumps, by labels and registers, walk where they lead.
use Rattle.lg_carry.proofs.BlockLemmas.{no-width}
use Rattle.std.proofs.Common.{◌≡◌, ℕ, ◌%◌, ◌^◌, ◌<◌, ◌≤◌, false, List, [], ◌∷◌, refl, ap, ◌∙◌, arith, length}
use Rattle.lg_base.specs.Fields.{word_of}
use Rattle.lg_base.specs.Layout.{most_code}
use Rattle.lg_base.specs.declared.target.Target.TheVariants.{Aarch64}
use Rattle.lg_op.specs.declared.operand.Reg.{Reg}
use Rattle.lg_a64.specs.Spelling.{IsInstr}
use Rattle.lg_a64.specs.declared.instruction.BranchOp.TheVariants.{B}
use Rattle.lg_a64.specs.declared.instruction.BranchRegOp.TheVariants.{Br}
use Rattle.lg_a64.specs.declared.instruction.Instr.{Instr}
use Rattle.lg_a64.specs.declared.instruction.Instr.TheVariants as instr
use Rattle.lg_cpu.specs.A64Step.{read, away, act}
use Rattle.lg_cpu.specs.Laws.{AreBytes}
use Rattle.lg_cpu.specs.States.{CpuState, goes_on}
use Rattle.lg_cpu.specs.Steps.{Effect, after}
use Rattle.lg_temp.specs.Abis.{register_of}
use Rattle.lg_sela_values.specs.Processor.A64Rows.{a64_processor, a64_rows}
use Rattle.lg_sela_values.proofs.OfProcessor.HeldLemmas.{read-is}
use Rattle.lg_sela_values.proofs.OfProcessor.RegisterLemmas.{register-small}
use Rattle.lg_carry.specs.Nodes.Stretches.{behind}
use Rattle.lg_sel.specs.Control.RegisterLeaps.{RegisterJumpsWalk}
use Rattle.lg_sel.specs.Control.Walks.{JumpsWalk}
use Rattle.lg_sel.proofs.OfControl.ChainLemmas.{runs-there}
use Rattle.lg_sel.proofs.OfControl.StretchLemmas.{aligned, walked}
use Rattle.lg_sela_values.specs.Items.{words_between}
use Rattle.lg_sela.specs.Control.Jumps.{jump_code}
use Rattle.lg_sela.specs.Control.RegisterLeaps.{register_jump_code}
use Rattle.lg_sela.proofs.OfControl.StretchLemmas.{stands-high, one-passed}
use Rattle.lg_sela.proofs.OfControl.WordLemmas.{words-lead}

-- a branch of this many words from an address leads to another
pub leads-there : (pc from to : ℕ) → pc ≡ from → from < 2 ^ 62 → to < 2 ^ 62 → from % 4 ≡ 0 → to % 4 ≡ 0 → away pc (word_of (words_between from to)) ≡ to
leads-there pc from to at h k f t = ap (λ p. away p (word_of (words_between from to))) at ∙ words-lead from to h k f t

-- the word of a register that corresponds to a portable one
pub reads-portable : (w : ℕ → ℕ) (a : Reg) → read w (register_of Aarch64 a) ≡ w (register_of Aarch64 a)
reads-portable w a = let l = register-small a in read-is w (register_of Aarch64 a) (omega (arith, l))

-- ---- they walk
module _ (code : List ℕ) (trash : ℕ) (small : length code ≤ most_code) (bytes : AreBytes code) (word : trash < 2 ^ 64) where
  pub jumps-walk : JumpsWalk (a64_rows code trash) IsInstr jump_code
  jumps-walk from to q k there runs at =
      let jump : Instr = instr.Branch B (words_between from to) in
      let e : Effect CpuState = goes_on q.state to in
      let high = stands-high false code trash small bytes word from (jump ∷ []) (omega arith) k in
      let t = there.high in
      let does : act jump q.state ≡ e =
      ap (goes_on q.state) (leads-there q.state.pc from to at (omega (arith, high)) (omega (arith, t)) (aligned from k.place) (aligned to there.place)) in
      walked (a64_processor code trash) (λ x. false) (λ x e. cc) from (behind (a64_rows code trash) from (jump_code from to)) to 1 q (after q e)
      (one-passed false code trash small bytes word from [] jump [] q e k runs (no-width _ _) (at ∙ omega arith) does)
      (omega arith) (λ lt. omega arith) (runs-there to there.low) refl (λ x off. refl) refl refl

  pub register-jumps-walk : RegisterJumpsWalk (a64_rows code trash) IsInstr register_jump_code
  register-jumps-walk frame from to a q f k there runs at is =
      let jump : Instr = instr.BranchReg Br (register_of Aarch64 a) in
      let e : Effect CpuState = goes_on q.state to in
      let does : act jump q.state ≡ e = ap (goes_on q.state) (reads-portable q.state.registers a ∙ is) in
      walked (a64_processor code trash) (λ x. false) (λ x e. cc) from (behind (a64_rows code trash) from (register_jump_code frame a)) to 1 q (after q e)
      (one-passed false code trash small bytes word from [] jump [] q e k runs (no-width _ _) (at ∙ omega arith) does)
      (omega arith) (λ lt. omega arith) (runs-there to there.low) refl (λ x off. refl) refl refl
