-- `.align` walks to a multiple.
use Rattle.lg_carry.proofs.BlockLemmas.{no-width}
use Rattle.std.proofs.Common.{◌≡◌, ◌≢◌, ℕ, ◌+◌, ◌^◌, ◌<◌, ◌≤◌, List, refl, ◌∙◌, arith, length, false}
use Rattle.std.specs.Prelude.{◌==◌, false}
use Rattle.lg_base.specs.Layout.{most_code}
use Rattle.lg_base.specs.Words.{add_words}
use Rattle.lg_base.specs.declared.flags.Flags.TheVariants.{NoFlags}
use Rattle.lg_rv.specs.Spelling.{IsInstr}
use Rattle.lg_cpu.specs.Laws.{AreBytes}
use Rattle.lg_cpu.specs.Steps.{Run}
use Rattle.lg_cpu.specs.HostSteps.{put}
use Rattle.lg_cpu.specs.States.{CpuState}
use Rattle.lg_cpu.specs.RvStep.{act}
use Rattle.lg_selr_values.specs.Processor.RvRows.{rv_rows, is_straight, acts_above}
use Rattle.lg_carry.specs.Nodes.Stretches.{behind}
use Rattle.lg_sel.specs.Control.Walks.{AlignmentsWalk}
use Rattle.lg_selr.specs.Control.Alignments.{padding, no_op, align_code, AlignmentsAlign}
use Rattle.lg_sel.proofs.OfControl.IdleLemmas.{idle-length, idle-aligns, idle-straight, Idles}
use Rattle.lg_sel.proofs.OfControl.IdleLemmas as idle_lemmas
use Rattle.lg_sel.proofs.OfControl.PaddingLemmas.{padded}
use Rattle.lg_sel.proofs.OfControl.StretchLemmas.{aligned}
use Rattle.lg_sel.proofs.OfControl.ChainLemmas.{RunsAt, straight-block}
use Rattle.lg_selr.proofs.OfControl.StretchLemmas.{spelled-size}
use Rattle.lg_selr.proofs.OfControl.StretchLemmas.{off-zero, all-passed, walked}
use Rattle.lg_selr.proofs.OfControl.WordLemmas.{put-other}

-- after them is a multiple
pub alignments-align : AlignmentsAlign
alignments-align at n h even = idle-aligns no_op at n h even

-- they change nothing but x0, whose word is not read
abbrev made : (ℕ → ℕ) → ℕ → ℕ
made w = put w 0 (add_words 0 0)

keeps : (w : ℕ → ℕ) (r : ℕ) → (r == 0) ≡ false → made w r ≡ w r
keeps w r off = put-other w 0 (add_words 0 0) r (off-zero r off)

is-other : (x : ℕ) → x ≢ 0 → (x == 0) ≡ false
is-other x ne = grind (arith, ne)

idles : (base n j k : ℕ) (q : Run CpuState) → j + k ≤ n → RunsAt base n j q → Idles act acts_above no_op made (λ f. NoFlags) (λ q. refl) (λ q. no-width _ _) (λ r. r == 0) keeps base n j k q
idles = idle_lemmas.idles act acts_above no_op made (λ f. NoFlags) (λ q. refl) (λ q. no-width _ _) (λ r. r == 0) keeps

-- ---- they walk
module _ (code : List ℕ) (trash : ℕ) (small : length code ≤ most_code) (bytes : AreBytes code) (word : trash < 2 ^ 64) where
  pub alignments-walk : AlignmentsWalk (rv_rows code trash) IsInstr align_code
  alignments-walk from n q ok k next runs at =
      let is = align_code from n in
      let count : ℕ = padding from n in
      let size = idle-length no_op count in
      let spelled = spelled-size is in
      let high = next.high in
      let begins : RunsAt from (length is) 0 q = record { runs = runs; here = at ∙ omega arith; low = k.low; high = omega (arith, high, spelled) } in
      let r = idles from (length is) 0 count q (omega (arith, size)) begins in
      walked code trash from (behind (rv_rows code trash) from is) (behind (rv_rows code trash) from is) (length is) q r.end
      (all-passed false code trash small bytes word from is q r.end k at (straight-block is_straight is (idle-straight no_op is_straight refl count)) r.chain)
      (let p = (padded from n ok (aligned from k.place)).1 in omega (arith, size, p)) (λ lt. omega (arith, lt, spelled)) r.at.runs
      (let h = r.at.here in omega (arith, h, size, spelled)) (λ x ne. r.registers x (is-other x ne)) r.bytes r.mark
