-- `.align` walks to a multiple.
use Rattle.lg_carry.proofs.BlockLemmas.{no-width}
use Rattle.std.proofs.Common.{ℕ, ◌+◌, ◌^◌, ◌<◌, ◌≤◌, false, List, refl, ◌∙◌, arith, length}
use Rattle.lg_base.specs.Layout.{most_code}
use Rattle.lg_a64.specs.Spelling.{IsInstr}
use Rattle.lg_cpu.specs.A64Step.{act}
use Rattle.lg_cpu.specs.Laws.{AreBytes}
use Rattle.lg_cpu.specs.States.{CpuState}
use Rattle.lg_cpu.specs.Steps.{Run}
use Rattle.lg_sela_values.specs.Processor.A64Rows.{a64_processor, a64_rows, is_straight, acts_above}
use Rattle.lg_sela_values.proofs.OfProcessor.ComputerLemmas.{spellings-long}
use Rattle.lg_carry.specs.Nodes.Stretches.{behind}
use Rattle.lg_sel.specs.Control.Walks.{AlignmentsWalk}
use Rattle.lg_sel.proofs.OfControl.ChainLemmas.{RunsAt, straight-block}
use Rattle.lg_sel.proofs.OfControl.IdleLemmas.{idle-length, idle-aligns, idle-straight, Idles}
use Rattle.lg_sel.proofs.OfControl.IdleLemmas as idle_lemmas
use Rattle.lg_sel.proofs.OfControl.PaddingLemmas.{padded}
use Rattle.lg_sel.proofs.OfControl.StretchLemmas.{aligned, walked}
use Rattle.lg_sela.specs.Control.Alignments.{padding, no_op, align_code, AlignmentsAlign}
use Rattle.lg_sela.proofs.OfControl.StretchLemmas.{all-passed}

-- after them is a multiple
pub alignments-align : AlignmentsAlign
alignments-align at n h even = idle-aligns no_op at n h even

-- they change nothing
idles : (base n j k : ℕ) (q : Run CpuState) → j + k ≤ n → RunsAt base n j q → Idles act acts_above no_op (λ w. w) (λ f. f) (λ q. refl) (λ q. no-width _ _) (λ r. false) (λ w r off. refl) base n j k q
idles = idle_lemmas.idles act acts_above no_op (λ w. w) (λ f. f) (λ q. refl) (λ q. no-width _ _) (λ r. false) (λ w r off. refl)

-- ---- they walk
module _ (code : List ℕ) (trash : ℕ) (small : length code ≤ most_code) (bytes : AreBytes code) (word : trash < 2 ^ 64) where
  pub alignments-walk : AlignmentsWalk (a64_rows code trash) IsInstr align_code
  alignments-walk from n q ok k next runs at =
      let is = align_code from n in
      let count : ℕ = padding from n in
      let size = idle-length no_op count in
      let spelled = spellings-long is in
      let high = next.high in
      let begins : RunsAt from (length is) 0 q = record { runs = runs; here = at ∙ omega arith; low = k.low; high = omega (arith, high, spelled) } in
      let r = idles from (length is) 0 count q (omega (arith, size)) begins in
      walked (a64_processor code trash) (λ x. false) (λ x e. cc) from (behind (a64_rows code trash) from is) (behind (a64_rows code trash) from is) (length is) q r.end
      (all-passed false code trash small bytes word from is q r.end k at (straight-block is_straight is (idle-straight no_op is_straight refl count)) r.chain)
      (let p = (padded from n ok (aligned from k.place)).1 in omega (arith, size, p)) (λ lt. omega (arith, lt, spelled)) r.at.runs
      (let h = r.at.here in omega (arith, h, size, spelled)) r.registers r.bytes r.mark
