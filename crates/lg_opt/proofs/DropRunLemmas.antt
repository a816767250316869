-- Runs of nodes some of which were dropped.
use Rattle.std.proofs.Common.{◌≡◌, ◌≢◌, ℕ, suc, Bool, false, [], refl, sym, ap, ◌∙◌, add-one}
use Rattle.std.specs.Prelude.{slice_get}
use Rattle.lg_base.specs.Runs.{Status, Running, Ended, Bad}
use Rattle.lg_temp.proofs.Steps.{iter-suc}
use Rattle.lg_carry.specs.Carries.{leaps_at}
use Rattle.lg_carry.proofs.FallLemmas.{nodes-fall}
use Rattle.lg_meaning.specs.States.{State}
use Rattle.lg_meaning.specs.Steps.{ending_status, Outcome, Goes, Ends, Undefined}
use Rattle.lg_meaning.specs.Means.{Run, run_at, behind, run_step, machine, mean_from}
use Rattle.lg_opt.specs.Drops.{Drops}
use Rattle.lg_opt.specs.Follows.{LooksAlike}
use Rattle.lg_opt.specs.Rewritten.{at, memory_in, memory_of}
use Rattle.lg_opt.specs.Paired.{Pair, old_step, moves_made, AreStepped}
use Rattle.lg_opt.proofs.RunLemmas.{going-fine, goes, stays, stays-bad, moved-on, rested, runs-alike, runs-follow, runs-look}

module _ (p : Pair) (keeps : ℕ → Bool) (number : ℕ → ℕ) (Good : State → Type 0) (R : State → State → Type 0) (places : (s m : State) → R s m → m.at ≡ number s.at) (step-ok : AreStepped p Good R (λ s m. keeps s.at)) (calm : (i : ℕ) → keeps i ≡ false → leaps_at (slice_get p.old.nodes i) ≡ false)
    (s0 m0 : State) (good : (k : ℕ) → Good (mean_from p.old p.old_shape p.addresses s0 k).state) (alike : R s0 m0) where
  abbrev o-at : ℕ → Run
  o-at k = mean_from p.old p.old_shape p.addresses s0 k

  abbrev j1 : ℕ → ℕ
  j1 k = moves_made p (λ s m. keeps s.at) s0 m0 k

  before : (k : ℕ) → (o-at (suc k)).status ≡ Running → (o-at k).status ≡ Running
  before k run = by (o-at k).status refl
    where
      next : o-at (suc k) ≡ run_step (old_step p) (o-at k)
      next = iter-suc (run_step (old_step p)) k (run_at s0 [])

      by : (t : Status) → (o-at k).status ≡ t → (o-at k).status ≡ Running
      by Running e = e
      by (Ended c) e = sym (ap (λ r. r.status) (next ∙ stays (old_step p) (o-at k) c e)) ∙ run
      by Bad e = sym (ap (λ r. r.status) (next ∙ stays-bad (old_step p) (o-at k) e)) ∙ run

  falls : (k : ℕ) → keeps (at (o-at k)) ≡ false → (o-at (suc k)).status ≡ Running → at (o-at (suc k)) ≡ suc (at (o-at k))
  falls k e run = by (old_step p (o-at k).state) refl
    where
      next : o-at (suc k) ≡ behind (o-at k) (old_step p (o-at k).state)
      next = iter-suc (run_step (old_step p)) k (run_at s0 []) ∙ goes (old_step p) (o-at k) (before k run)

      over-now : (t : Status) → t ≢ Running → (o-at (suc k)).status ≡ t → ⊥
      over-now t ne e = ne (sym e ∙ run)

      by : (o : Outcome) → old_step p (o-at k).state ≡ o → at (o-at (suc k)) ≡ suc (at (o-at k))
      by (Goes t bytes) g = ap at (next ∙ ap (behind (o-at k)) g) ∙ nodes-fall p.old p.old_shape p.addresses (o-at k).state t bytes (calm (at (o-at k)) e) g ∙ add-one (at (o-at k))
      by (Ends c) g = absurd (over-now (Ended (ending_status c)) (λ r. cc) (ap (λ r. r.status) (next ∙ ap (behind (o-at k)) g)))
      by Undefined g = absurd (over-now Bad (λ r. cc) (ap (λ r. r.status) (next ∙ ap (behind (o-at k)) g)))

  pub drops : Drops (machine p.old p.old_shape p.addresses) (machine p.new p.new_shape p.addresses) (run_at s0 []) (run_at m0 []) (moves_made p (λ s m. keeps s.at) s0 m0) at at keeps number
  drops = record {
    follows = runs-follow p Good R (λ s m. keeps s.at) step-ok s0 m0 good alike;
    steps = λ k run e. moved-on p Good R (λ s m. keeps s.at) step-ok s0 m0 good alike k e;
    rests = λ k run e. rested p Good R (λ s m. keeps s.at) step-ok s0 m0 good alike k e;
    here = λ k run. let a = (runs-alike p Good R (λ s m. keeps s.at) step-ok s0 m0 good alike k (going-fine run)).states (going-fine run) in places _ _ a;
    falls = falls;
  }

  -- and they have one memory, where states that correspond to each other have
  pub drops-look : ((s m : State) → R s m → memory_in m ≡ memory_in s)
      → LooksAlike (machine p.old p.old_shape p.addresses) (machine p.new p.new_shape p.addresses) (run_at s0 []) (run_at m0 []) (moves_made p (λ s m. keeps s.at) s0 m0) memory_of memory_of
  drops-look same = runs-look p Good R (λ s m. keeps s.at) step-ok s0 m0 good alike memory_in same
