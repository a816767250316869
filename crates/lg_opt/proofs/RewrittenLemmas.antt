-- From code that carries each rewritten node to runs that agree with the text's meaning.
use Rattle.std.proofs.Common.{List, ◌≡◌, ℕ, suc, [], Option, arith, ap, inl, inr, Bool, refl, sym, ◌∙◌, subst, ⊎_elim, length}
use Rattle.std.specs.Prelude.{slice_get, is_some}
use Rattle.lg_base.specs.Parts.{data_base, args_base}
use Rattle.lg_cells.specs.Cells.{within}
use Rattle.lg_base.specs.Runs.{Machine, iter}
use Rattle.lg_node.specs.Nodes.{LabelledNodes}
use Rattle.lg_node.specs.Shapes.{TextShape}
use Rattle.lg_meaning.specs.States.{State}
use Rattle.lg_meaning.specs.Steps.{ending_status, Outcome, Goes, Ends, Undefined}
use Rattle.lg_meaning.specs.Texts.{step}
use Rattle.lg_meaning.specs.Means.{Run, run_at}
use Rattle.lg_meaning.specs.Means as mean
use Rattle.lg_meaning.proofs.MeanLemmas.{means_are_machines}
use Rattle.lg_carry.specs.Processors.{Processor}
use Rattle.lg_carry.specs.FinalNodes.{Code}
use Rattle.lg_carry.specs.Stands.{HasParts, Stands}
use Rattle.lg_carry.specs.Carries.{leaps_at, Leads}
use Rattle.lg_carry.specs.Ranks.{StandAlike, IsCarried}
use Rattle.lg_carry.specs.Memories.{AlikeInMemory}
use Rattle.lg_carry.proofs.MeaningLemmas.{meaning-steps}
use Rattle.lg_carry.specs.Endings.{AreAlike}
use Rattle.lg_carry.proofs.EndingLemmas.{carried-end-alike}
use Rattle.lg_carry.proofs.MemoryLemmas.{code-keeps-pace}
use Rattle.lg_temp.specs.Paces.{KeepsPace}
use Rattle.lg_opt.specs.Loud.{StandsAlike, LandsLoud, CarriesLoud}
use Rattle.lg_opt.proofs.LawLemmas.{runs-agree}
use Rattle.lg_opt.specs.Rewritten.{Memory, memory_in, at, is_loud, NodesAreFollowed, RemembersAlike, RewrittenCodeAgrees, RewrittenCodeEndsAlike, RewrittenCodeKeepsPace}

module _ {M Q : Type 0} (m : Machine M) (state : M → State) (P : Processor Q) (c : Code) (before : ℕ → ℕ → Bool) (ok : IsCarried m state P c before) where
  abbrev loud : M → Bool
  loud p = leaps_at (slice_get c.nodes.nodes (state p).at)

  pub alike : (p : M) (q : Q) → StandAlike m state P c before p q → StandsAlike m P.machine p q
  alike p q h = record { goes = h.0; runs = h.1.runs; out = h.1.wrote }

  pub carry-loud : (p : M) (q : Q) → StandAlike m state P c before p q → CarriesLoud m P.machine (StandAlike m state P c before) loud p q
  carry-loud p q h = ⊎_elim
      (λ u. inl (ok.steps.undefined p h.0 u))
      (λ l. inr (by (step c.nodes c.shape c.addresses (state p)) refl l))
      ((ok.nodes (state p).at h.1.state.fits.inside).carries (state p) (m.out p) q refl h.1)
    where
      by : (o : Outcome) → step c.nodes c.shape c.addresses (state p) ≡ o → Leads P c (λ f. before f.back) (λ t. before t.at) (state p).at o (m.out p) q → LandsLoud m P.machine (StandAlike m state P c before) loud p q
      by (Goes t bytes) e l =
          let g = ok.steps.goes p t bytes h.0 e in
          let there : Stands P c (λ f. before f.back) (state (m.step p)) (m.out (m.step p)) (iter P.machine.step l.steps q) (before (state (m.step p)).at) =
          subst (λ x. Stands P c (λ f. before f.back) x (m.out (m.step p)) (iter P.machine.step l.steps q) (before x.at)) (sym g.1)
          (subst (λ x. Stands P c (λ f. before f.back) t x (iter P.machine.step l.steps q) (before t.at)) (sym g.2) l.there) in
          record {
            steps = l.steps;
            few = l.few;
            way = λ i lt. ⊎_elim (λ w. inl w) (λ w. inr (w ∙ sym g.2)) (l.way i lt);
            some = l.some;
            there = inr (g.0, there);
          }
      by (Ends x) e l =
          let g = ok.steps.ends p x h.0 e in
          record {
            steps = l.steps;
            few = l.few;
            way = λ i lt. ⊎_elim (λ w. inl w) (λ w. inl w) (l.way i lt);
            some = l.some;
            there = inl (ending_status x, g.0, l.there.0, l.there.1 ∙ sym g.1);
          }
      by Undefined e l = absurd l.there

pub rewritten-agrees : {Q : Type 0} (P : Processor Q) → RewrittenCodeAgrees P
rewritten-agrees P c before l shape s0 t0 q n machine nodes followed inside st =
    let new = means_are_machines c.nodes c.shape c.addresses in
    let old = means_are_machines l shape c.addresses in
    let ok : IsCarried (mean.machine c.nodes c.shape c.addresses) (λ (r : Run). r.state) P c before = record { meaning = new.0; silent = new.1; steps = meaning-steps c; processor = machine; nodes = nodes } in
    runs-agree (mean.machine l shape c.addresses) (mean.machine c.nodes c.shape c.addresses) at (is_loud c.nodes) old.0 P.machine
    (StandAlike (mean.machine c.nodes c.shape c.addresses) (λ (r : Run). r.state) P c before) old.1 machine
    (run_at s0 []) (run_at t0 []) q (length l.nodes) n followed.0 inside
    (alike _ (λ (r : Run). r.state) P c before ok) (carry-loud _ (λ (r : Run). r.state) P c before ok) refl (refl, st)

-- where the old run is after k steps, the new one is after j k
followed-paced : {Q : Type 0} (P : Processor Q) (l : LabelledNodes) (shape : TextShape) (m : LabelledNodes) (new_shape : TextShape) (addresses : List ℕ) (s0 t0 : State) (q : Q)
    (f : NodesAreFollowed l shape m new_shape addresses s0 t0) → RemembersAlike l shape m new_shape addresses s0 t0 f.j
    → KeepsPace (mean.machine m new_shape addresses) P.machine (AlikeInMemory (mean.machine m new_shape addresses) (λ r. r.state) P) (run_at t0 []) q
    → KeepsPace (mean.machine l shape addresses) P.machine (AlikeInMemory (mean.machine l shape addresses) (λ r. r.state) P) (run_at s0 []) q
followed-paced P l shape m new_shape addresses s0 t0 q f remembers paced = record {
  pace = λ k. paced.pace (f.j k);
  start = ap paced.pace f.follows.start ∙ paced.start;
  rises = λ k. ⊎_elim
      (λ (e : f.j (suc k) ≡ f.j k). let z = ap paced.pace e in (omega (arith, z), omega (arith, z)))
      (λ (e : f.j (suc k) ≡ suc (f.j k)). let z = ap paced.pace e in let up = paced.rises (f.j k) in (omega (arith, z, up.0), omega (arith, z, up.1)))
      (f.follows.rises k);
  same = λ k fine.
      let s = f.follows.status k fine in
      let there = paced.same (f.j k) (λ b. fine (sym s ∙ b)) in
      record { sound = there.sound; status = there.status ∙ s; out = there.out ∙ f.follows.out k fine };
  alike = λ k fine.
      let s = f.follows.status k fine in
      let there = paced.alike (f.j k) (λ b. fine (sym s ∙ b)) in
      let held = remembers k fine in
      record { bytes_are = λ a b counts e. there.bytes_are a b (⊎_elim (λ runs. inl (s ∙ runs)) (λ low. inr low) counts) (ap (λ m. m.0.0 a) held ∙ e); mark_is = there.mark_is ∙ ap (λ m. m.0.1.0) held };
}

pub rewritten-paced : {Q : Type 0} (P : Processor Q) → RewrittenCodeKeepsPace P
rewritten-paced P c before l shape s0 t0 q machine nodes followed st =
    followed-paced P l shape c.nodes c.shape c.addresses s0 t0 q followed.0 followed.1 (code-keeps-pace P c before t0 q machine nodes st)

-- a processor that has the parts of one state has those of another with its memory
parts-on : (s t : State) (bytes : ℕ → Option ℕ) → memory_in s ≡ memory_in t → HasParts s bytes → HasParts t bytes
parts-on s t bytes e h = record {
  data_small = let x = ap (λ (m : Memory). m.1.1.0) e in let y = h.data_small in omega (arith, x, y);
  args_small = let x = ap (λ (m : Memory). m.1.1.1) e in let y = h.args_small in omega (arith, x, y);
  data_whole = λ a w. ap (λ (m : Memory). is_some (m.0 a)) (sym e) ∙ h.data_whole a (ap (λ (m : Memory). within data_base m.1.1.0 a) e ∙ w);
  args_whole = λ a w. ap (λ (m : Memory). is_some (m.0 a)) (sym e) ∙ h.args_whole a (ap (λ (m : Memory). within args_base m.1.1.1 a) e ∙ w);
  same = λ a low high. h.same a low high ∙ ap (λ (m : Memory). m.0 a) e;
}

-- so it does to the end
followed-to-end : {Q : Type 0} (P : Processor Q) (c : Code) (l : LabelledNodes) (shape : TextShape) (m : LabelledNodes) (new_shape : TextShape) (addresses : List ℕ) (s0 t0 : State) (q : Q)
    (f : NodesAreFollowed l shape m new_shape addresses s0 t0) → RemembersAlike l shape m new_shape addresses s0 t0 f.j
    → KeepsPace (mean.machine m new_shape addresses) P.machine (AreAlike P c) (run_at t0 []) q
    → KeepsPace (mean.machine l shape addresses) P.machine (AreAlike P c) (run_at s0 []) q
followed-to-end P c l shape m new_shape addresses s0 t0 q f remembers paced = record {
  pace = λ k. paced.pace (f.j k);
  start = ap paced.pace f.follows.start ∙ paced.start;
  rises = λ k. ⊎_elim
      (λ (e : f.j (suc k) ≡ f.j k). let z = ap paced.pace e in (omega (arith, z), omega (arith, z)))
      (λ (e : f.j (suc k) ≡ suc (f.j k)). let z = ap paced.pace e in let up = paced.rises (f.j k) in (omega (arith, z, up.0), omega (arith, z, up.1)))
      (f.follows.rises k);
  same = λ k fine.
      let s = f.follows.status k fine in
      let there = paced.same (f.j k) (λ b. fine (sym s ∙ b)) in
      record { sound = there.sound; status = there.status ∙ s; out = there.out ∙ f.follows.out k fine };
  alike = λ k fine.
      let s = f.follows.status k fine in
      let there = paced.alike (f.j k) (λ b. fine (sym s ∙ b)) in
      let held = remembers k fine in
      record {
        memory = record { bytes_are = λ a b counts e. there.memory.bytes_are a b (⊎_elim (λ runs. inl (s ∙ runs)) (λ low. inr low) counts) (ap (λ m. m.0.0 a) held ∙ e); mark_is = there.memory.mark_is ∙ ap (λ m. m.0.1.0) held };
        parts = parts-on _ _ _ (ap (λ m. m.0) held) there.parts;
        ended = λ e is. there.ended e (ap (λ m. m.1) held ∙ is);
        unwritten = there.unwritten;
      };
}

pub rewritten-end-alike : {Q : Type 0} (P : Processor Q) → RewrittenCodeEndsAlike P
rewritten-end-alike P c before l shape s0 t0 q machine hosts nodes followed st unwritten =
    followed-to-end P c l shape c.nodes c.shape c.addresses s0 t0 q followed.0 followed.1
    (carried-end-alike P c before (run_at t0 []) q machine hosts nodes (refl, st) unwritten)
