-- Code that carries each node keeps pace with the meaning to its end.
use Rattle.std.proofs.Common.{◌≡◌, ℕ, zero, suc, ◌<◌, ◌≤◌, inl, inr, Bool, List, ◌++◌, Some, None, refl, sym, ap, ◌∙◌, subst, ⊎_elim, arith, length}
use Rattle.std.specs.Prelude.{slice_get}
use Rattle.lg_base.specs.Runs.{Machine, IsMachine, iter}
use Rattle.lg_meaning.specs.Means as mean
use Rattle.lg_meaning.specs.States.{Frame, State}
use Rattle.lg_meaning.specs.Steps.{ending_status, Outcome, Goes, Ends, Undefined}
use Rattle.lg_meaning.specs.Texts.{step}
use Rattle.lg_meaning.proofs.MeanLemmas.{means_are_machines}
use Rattle.lg_temp.specs.Paces.{KeepsPace, StandingAlike, LandsAlike, CarriesAlike}
use Rattle.lg_temp.proofs.PaceLemmas.{keeps-pace}
use Rattle.lg_carry.specs.Processors.{Processor}
use Rattle.lg_carry.specs.FinalNodes.{Code}
use Rattle.lg_carry.specs.Carries.{moves_at, IsHostStep, KeepsOutside, Leads, Carries}
use Rattle.lg_carry.specs.Endings.{HostsKeep, IsUnwritten, AreAlike, CarriedRunsEndAlike}
use Rattle.lg_carry.specs.Outer.{HasEnded}
use Rattle.lg_carry.specs.Ranks.{StandAlike}
use Rattle.lg_carry.proofs.MeaningLemmas.{next}
use Rattle.lg_carry.proofs.MemoryLemmas.{below-at-end}

module _ {Q : Type 0} (P : Processor Q) (c : Code) (before : ℕ → ℕ → Bool) (machine : IsMachine P.machine) (hosts : HostsKeep P)
    (nodes : (i : ℕ) → i < length c.nodes.nodes → Carries P c before i) where
  abbrev m : Machine mean.Run
  m = mean.machine c.nodes c.shape c.addresses

  abbrev Unwritten : Q → Type 0
  Unwritten q = (x : ℕ) → IsUnwritten P.target x → (P.seen q).registers x ≡ c.outer x

  pub record At (p : mean.Run) (q : Q) : Type 0 where
    pub stand : StandAlike m (λ r. r.state) P c before p q
    pub unwritten : Unwritten q

  none-some : {A : Type 0} {x : A} → None ≡ Some x → ⊥
  none-some e = cc

  standing : (p : mean.Run) (q : Q) → At p q → StandingAlike m P.machine (AreAlike P c) p q
  standing p q h = record {
    goes = h.stand.0;
    runs = h.stand.1.runs;
    out = h.stand.1.wrote;
    alike = record {
      memory = record { bytes_are = λ a b counts e. h.stand.1.state.memory.is a b e; mark_is = h.stand.1.state.mark };
      parts = h.stand.1.state.parts;
      ended = λ e is. absurd (none-some (sym (ap (λ t. mean.ending_in t p.ending) h.stand.0) ∙ is));
      unwritten = h.unwritten;
    };
  }

  -- no step of a node's code writes such a register, and no host function's
  stays : (i : ℕ) (next : Outcome) (out : List ℕ) (q : Q) (l : Leads P c (λ (f : Frame). before f.back) (λ (t : State). before t.at) i next out q) (x : ℕ) → IsUnwritten P.target x
      → (j : ℕ) → j ≤ l.steps → (P.seen (iter P.machine.step j q)).registers x ≡ (P.seen q).registers x
  unfolding iter
  stays i next out q l x u zero le = refl
  stays i next out q l x u (suc j) le =
      ⊎_elim
      (λ (k : KeepsOutside P (moves_at P.target (slice_get c.nodes.nodes i)) (iter P.machine.step j q)). k x (u.outside (moves_at P.target (slice_get c.nodes.nodes i))))
      (λ (h : IsHostStep c i l.steps j (P.seen (iter P.machine.step j q))). hosts (iter P.machine.step j q) h.2 x h.3 u.kept u.other)
      (l.outside j (omega (arith, le)))
      ∙ stays i next out q l x u j (omega (arith, le))

  carry : (p : mean.Run) (q : Q) → At p q → CarriesAlike m P.machine (AreAlike P c) At p q
  carry p q h = ⊎_elim
      (λ u. inl (ap (λ (x : mean.Run). x.status) (next c p Undefined h.stand.0 u)))
      (λ l. inr (by (step c.nodes c.shape c.addresses p.state) refl l))
      ((nodes p.state.at h.stand.1.state.fits.inside).carries p.state p.out q refl h.stand.1)
    where
      by : (o : Outcome) → step c.nodes c.shape c.addresses p.state ≡ o
          → Leads P c (λ (f : Frame). before f.back) (λ (t : State). before t.at) p.state.at o p.out q
          → LandsAlike m P.machine (AreAlike P c) At p q
      by (Goes t bytes) e l =
          let g : m.step p ≡ mean.run_at t (p.out ++ bytes) = next c p (Goes t bytes) h.stand.0 e in
          let end = iter P.machine.step l.steps q in
          let there : At (mean.run_at t (p.out ++ bytes)) end = record {
            stand = (refl, l.there);
            unwritten = λ x u. stays p.state.at (Goes t bytes) p.out q l x u l.steps (omega arith) ∙ h.unwritten x u;
          } in
          record { steps = l.steps; few = l.few; there = inr (subst (λ r. At r end) (sym g) there) }
      by (Ends x) e l =
          let g : m.step p ≡ mean.behind p (Ends x) = next c p (Ends x) h.stand.0 e in
          let end = iter P.machine.step l.steps q in
          let kept = l.there.2 in
          let alike : AreAlike P c (mean.behind p (Ends x)) end = record {
            memory = record {
              bytes_are = λ a b counts f. kept.bytes a (below-at-end refl counts) ∙ h.stand.1.state.memory.is a b f;
              mark_is = kept.mark ∙ h.stand.1.state.mark;
            };
            parts = record {
              data_small = h.stand.1.state.parts.data_small;
              args_small = h.stand.1.state.parts.args_small;
              data_whole = h.stand.1.state.parts.data_whole;
              args_whole = h.stand.1.state.parts.args_whole;
              same = λ a low high. kept.bytes a (omega (arith, high)) ∙ h.stand.1.state.parts.same a low high;
            };
            ended = λ y is. let same : x ≡ y = cc in subst (λ z. HasEnded P.target c z (P.seen end)) same l.there.3;
            unwritten = λ y u. stays p.state.at (Ends x) p.out q l y u l.steps (omega arith) ∙ h.unwritten y u;
          } in
          record {
            steps = l.steps;
            few = l.few;
            there = inl (
              ending_status x,
              ap (λ (r : mean.Run). r.status) g,
              l.there.0,
              l.there.1 ∙ sym (ap (λ (r : mean.Run). r.out) g),
              subst (λ r. AreAlike P c r end) (sym g) alike,
            );
          }
      by Undefined e l = absurd l.there

  pub runs-end-alike : (p : mean.Run) (q : Q) → At p q → KeepsPace m P.machine (AreAlike P c) p q
  runs-end-alike p q st = keeps-pace m P.machine (AreAlike P c) At (means_are_machines c.nodes c.shape c.addresses).0 standing carry p q st

pub carried-end-alike : {Q : Type 0} (P : Processor Q) → CarriedRunsEndAlike P
carried-end-alike P c before p q machine hosts nodes st unwritten =
    runs-end-alike P c before machine hosts nodes p q record { stand = st; unwritten = unwritten }
