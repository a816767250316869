-- Code that carries each node keeps pace with the meaning, with its memory.
use Rattle.std.proofs.Common.{◌≡◌, ℕ, ◌<◌, ◌⊎◌, inl, inr, Bool, [], refl, sym, ap, ◌∙◌, subst, ⊎_elim}
use Rattle.lg_base.specs.Parts.{stack_base}
use Rattle.lg_base.specs.Runs.{Status, Running, Ended, Machine, iter}
use Rattle.lg_meaning.specs.Means.{run_at}
use Rattle.lg_meaning.specs.Means as mean
use Rattle.lg_meaning.specs.States.{Frame, State}
use Rattle.lg_meaning.specs.Steps.{ending_status, Outcome, Goes, Ends, Undefined}
use Rattle.lg_meaning.specs.Texts.{step}
use Rattle.lg_meaning.proofs.MeanLemmas.{means_are_machines}
use Rattle.lg_temp.specs.Paces.{StandingAlike, LandsAlike, CarriesAlike}
use Rattle.lg_temp.proofs.PaceLemmas.{keeps-pace}
use Rattle.lg_carry.specs.Processors.{Processor}
use Rattle.lg_carry.specs.FinalNodes.{Code}
use Rattle.lg_carry.specs.Stands.{Stands}
use Rattle.lg_carry.specs.Carries.{Leads}
use Rattle.lg_carry.specs.Memories.{AlikeInMemory, CarriedRunsKeepPace, CodeKeepsPace}
use Rattle.lg_carry.specs.Ranks.{StandAlike, IsCarried}
use Rattle.lg_carry.proofs.MeaningLemmas.{meaning-steps}

-- after an end the bytes below the stack alone count
pub below-at-end : {status : Status} {n a : ℕ} → status ≡ Ended n → (status ≡ Running) ⊎ (a < stack_base) → a < stack_base
below-at-end {status} {n} e (inl runs) = let z : Ended n ≡ Running = sym e ∙ runs in cc
below-at-end e (inr low) = low

module _ {M Q : Type 0} (m : Machine M) (state : M → State) (P : Processor Q) (c : Code) (before : ℕ → ℕ → Bool) (ok : IsCarried m state P c before) where
  abbrev At : M → Q → Type 0
  At p q = StandAlike m state P c before p q

  -- states that correspond to each other share their memory
  shares : (p : M) (q : Q) → At p q → AlikeInMemory m state P p q
  shares p q h = record { bytes_are = λ a b counts e. h.1.state.memory.is a b e; mark_is = h.1.state.mark }

  standing : (p : M) (q : Q) → At p q → StandingAlike m P.machine (AlikeInMemory m state P) p q
  standing p q h = record { goes = h.0; runs = h.1.runs; out = h.1.wrote; alike = shares p q h }

  carry : (p : M) (q : Q) → At p q → CarriesAlike m P.machine (AlikeInMemory m state P) At p q
  carry p q h = ⊎_elim
      (λ u. inl (ok.steps.undefined p h.0 u))
      (λ l. inr (by (step c.nodes c.shape c.addresses (state p)) refl l))
      ((ok.nodes (state p).at h.1.state.fits.inside).carries (state p) (m.out p) q refl h.1)
    where
      by : (o : Outcome) → step c.nodes c.shape c.addresses (state p) ≡ o
          → Leads P c (λ (f : Frame). before f.back) (λ (t : State). before t.at) (state p).at o (m.out p) q
          → LandsAlike m P.machine (AlikeInMemory m state P) At p q
      by (Goes t bytes) e l =
          let g = ok.steps.goes p t bytes h.0 e in
          let end = iter P.machine.step l.steps q in
          let there : Stands P c (λ f. before f.back) (state (m.step p)) (m.out (m.step p)) end (before (state (m.step p)).at) =
          subst (λ x. Stands P c (λ f. before f.back) x (m.out (m.step p)) end (before x.at)) (sym g.1)
          (subst (λ x. Stands P c (λ f. before f.back) t x end (before t.at)) (sym g.2) l.there) in
          record { steps = l.steps; few = l.few; there = inr (g.0, there) }
      by (Ends x) e l =
          let g = ok.steps.ends p x h.0 e in
          let before-it = shares p q h in
          let kept = l.there.2 in
          record {
            steps = l.steps;
            few = l.few;
            there = inl (
              ending_status x,
              g.0,
              l.there.0,
              l.there.1 ∙ sym g.1,
              record {
                bytes_are = λ a b counts f. kept.bytes a (below-at-end g.0 counts) ∙ h.1.state.memory.is a b (sym (ap (λ (s : State). s.mem a) g.2) ∙ f);
                mark_is = kept.mark ∙ before-it.mark_is ∙ sym (ap (λ (s : State). s.mark) g.2);
              },
            );
          }
      by Undefined e l = absurd l.there

  pub carried-keep-pace : CarriedRunsKeepPace m state P c before
  carried-keep-pace p q st = keeps-pace m P.machine (AlikeInMemory m state P) At ok.meaning standing carry p q st

pub code-keeps-pace : {Q : Type 0} (P : Processor Q) → CodeKeepsPace P
code-keeps-pace P c before s q machine nodes st =
    let is = means_are_machines c.nodes c.shape c.addresses in
    carried-keep-pace (mean.machine c.nodes c.shape c.addresses) (λ r. r.state) P c before
    record { meaning = is.0; silent = is.1; steps = meaning-steps c; processor = machine; nodes = nodes } (run_at s []) q (refl, st)
