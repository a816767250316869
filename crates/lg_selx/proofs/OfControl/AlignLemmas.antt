-- `.align` walks to a multiple.
use Rattle.std.proofs.Common.{◌≡◌, ℕ, zero, suc, ◌+◌, ◌%◌, ◌^◌, ◌<◌, ◌≤◌, ◌⊎◌, ⊎_elim, true, false, List, Some, refl, sym, ap, ◌∙◌, subst, arith, length}
use Rattle.std.specs.List.{list_all}
use Rattle.lg_base.specs.Layout.{most_code}
use Rattle.lg_op.specs.Forms.{is_alignment}
use Rattle.lg_x86.specs.Spelling.{IsInstr, spelling}
use Rattle.lg_cpu.specs.Laws.{AreBytes}
use Rattle.lg_cpu.specs.X86Step.{Scene, scene_of}
use Rattle.lg_carry.specs.Blocks.{spellings}
use Rattle.lg_selx_values.specs.Processor.Makings.{makes, is_still}
use Rattle.lg_selx_values.specs.Processor.X86Rows.{x86_processor, x86_rows}
use Rattle.lg_selx_values.proofs.OfProcessor.MakingLemmas.{still-above}
use Rattle.lg_carry.specs.Nodes.Stretches.{behind}
use Rattle.lg_sel.specs.Control.Walks.{AlignmentsWalk}
use Rattle.lg_sel.proofs.OfControl.IdleLemmas.{idle-length}
use Rattle.lg_sel.proofs.OfControl.StretchLemmas.{walked}
use Rattle.lg_selx.specs.Control.Alignments.{padding, no_op, idle, align_code, AlignmentsAlign}
use Rattle.lg_selx.proofs.OfControl.StretchLemmas.{Made, made-passed}

-- ---- how many bytes they are
idle-bytes : (k : ℕ) → length (spellings spelling (idle k)) ≡ k
idle-bytes zero = refl
idle-bytes (suc k) = ap suc (idle-bytes k)

one-of : (n : ℕ) → is_alignment n ≡ true → (n ≡ 1) ⊎ ((n ≡ 2) ⊎ ((n ≡ 4) ⊎ ((n ≡ 8) ⊎ ((n ≡ 16) ⊎ ((n ≡ 32) ⊎ (n ≡ 64))))))
one-of n h = grind (arith, h)

abbrev Leads : ℕ → ℕ → Type 0
Leads at n = ((at + padding at n) % n ≡ 0) × (padding at n ≤ 63)

padded : (at n : ℕ) → is_alignment n ≡ true → Leads at n
padded at n h =
    ⊎_elim (λ e. subst (Leads at) (sym e) (grind arith, grind arith))
    (λ r. ⊎_elim (λ e. subst (Leads at) (sym e) (grind arith, grind arith))
    (λ r. ⊎_elim (λ e. subst (Leads at) (sym e) (grind arith, grind arith))
    (λ r. ⊎_elim (λ e. subst (Leads at) (sym e) (grind arith, grind arith))
    (λ r. ⊎_elim (λ e. subst (Leads at) (sym e) (grind arith, grind arith))
    (λ r. ⊎_elim (λ e. subst (Leads at) (sym e) (grind arith, grind arith))
    (λ e. subst (Leads at) (sym e) (grind arith, grind arith)) r) r) r) r) r) (one-of n h)

-- after them is a multiple
pub alignments-align : AlignmentsAlign
alignments-align at n h = ap (λ k. (at + k) % n) (idle-bytes (padding at n)) ∙ (padded at n h).0

-- they make nothing
idle-makes : (k : ℕ) (s : Scene) → makes (idle k) s ≡ Some s
idle-makes zero s = refl
idle-makes (suc k) s = idle-makes k s

-- and touch nothing
idle-still : (k : ℕ) → list_all is_still (idle k) ≡ true
idle-still zero = refl
idle-still (suc k) = idle-still k

-- ---- they walk
module _ (code : List ℕ) (trash : ℕ) (small : length code ≤ most_code) (bytes : AreBytes code) (word : trash < 2 ^ 64) where
  pub alignments-walk : AlignmentsWalk (x86_rows code trash) IsInstr align_code
  alignments-walk from n q ok k next runs at =
      let count : ℕ = padding from n in
      let size = idle-length no_op count in
      let spelled = idle-bytes count in
      let m : Made false code trash small bytes word from (align_code from n) (scene_of q.state) q =
      made-passed false code trash small bytes word from (align_code from n) q (scene_of q.state) k (idle-makes count (scene_of q.state))
      (still-above (idle count) (scene_of q.state) (idle-still count)) runs at next.high in
      walked (x86_processor code trash) (λ x. false) (λ x e. cc) from (behind (x86_rows code trash) from (align_code from n))
      (behind (x86_rows code trash) from (align_code from n)) (length (align_code from n)) q m.end m.passes
      (let p = (padded from n ok).1 in omega (arith, size, p)) (λ lt. omega (arith, lt, spelled, size)) m.runs m.here
      (λ x off. ap (λ (s : Scene). s.registers x) m.scene) (ap (λ (s : Scene). s.bytes) m.scene) m.mark
