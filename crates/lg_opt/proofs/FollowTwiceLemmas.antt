-- Nodes dropped twice.
use Rattle.std.proofs.Common.{◌≡◌, ℕ, suc, Bool, true, false, ◌&&◌, inl, inr, refl, sym, ap, ◌∙◌, ⊎_elim}
use Rattle.std.proofs.lemmas.Bool.{and_parts}
use Rattle.lg_base.specs.Runs.{Running, Bad, Machine, iter, IsMachine}
use Rattle.lg_opt.specs.Follows.{Follows}
use Rattle.lg_opt.specs.Laws.{LooksJoin}
use Rattle.lg_opt.specs.Drops.{Drops}

bad : Bad ≡ Running → ⊥
bad e = cc

-- two that follow each other follow
pub follows-on : {P M N : Type 0} (old : Machine P) (mid : Machine M) (new : Machine N) (p0 : P) (m0 : M) (n0 : N) (j1 j2 : ℕ → ℕ) → Follows old mid p0 m0 j1 → Follows mid new m0 n0 j2 → Follows old new p0 n0 (λ k. j2 (j1 k))
follows-on old mid new p0 m0 n0 j1 j2 f g = record {
  start = ap j2 f.start ∙ g.start;
  rises = λ k. ⊎_elim (λ s. inl (ap j2 s)) (λ s. ⊎_elim (λ r. inl (ap j2 s ∙ r)) (λ r. inr (ap j2 s ∙ r)) (g.rises (j1 k))) (f.rises k);
  status = λ k fine. let s = f.status k fine in g.status (j1 k) (λ b. fine (sym s ∙ b)) ∙ s;
  out = λ k fine. let s = f.status k fine in g.out (j1 k) (λ b. fine (sym s ∙ b)) ∙ f.out k fine;
}

pub looks-on : {P M N A : Type 0} (old : Machine P) (mid : Machine M) (new : Machine N) (look : P → A) (view : M → A) (see : N → A) → LooksJoin old mid new look view see
looks-on old mid new look view see p m n j1 j2 f one two k fine = two (j1 k) (λ b. fine (sym (f.status k fine) ∙ b)) ∙ one k fine

module _ {P M N : Type 0} (old : Machine P) (mid : Machine M) (new : Machine N) (p0 : P) (m0 : M) (n0 : N) (at : P → ℕ) (place : M → ℕ) (last : N → ℕ) (stays1 stays2 : ℕ → Bool) (to1 to2 : ℕ → ℕ) (j1 j2 : ℕ → ℕ)
    (is-old : IsMachine old) (one : Drops old mid p0 m0 j1 at place stays1 to1) (two : Drops mid new m0 n0 j2 place last stays2 to2) where
  -- a node stays where it stays both times
  abbrev pub stays-both : ℕ → Bool
  stays-both i = stays1 i && stays2 (to1 i)

  mid-runs : (k : ℕ) → old.status (iter old.step k p0) ≡ Running → mid.status (iter mid.step (j1 k) m0) ≡ Running
  mid-runs k run = one.follows.status k (λ b. bad (sym b ∙ run)) ∙ run

  second : (k : ℕ) → old.status (iter old.step k p0) ≡ Running → (b : Bool) → stays2 (to1 (at (iter old.step k p0))) ≡ b → stays2 (place (iter mid.step (j1 k) m0)) ≡ b
  second k run b e = ap stays2 (one.here k run) ∙ e

  rests-both : (k : ℕ) (run : old.status (iter old.step k p0) ≡ Running) (b c : Bool) → stays1 (at (iter old.step k p0)) ≡ b → stays2 (to1 (at (iter old.step k p0))) ≡ c → (b && c) ≡ false → j2 (j1 (suc k)) ≡ j2 (j1 k)
  rests-both k run true true e f g = cc
  rests-both k run true false e f g = ap j2 (one.steps k run e) ∙ two.rests (j1 k) (mid-runs k run) (second k run false f)
  rests-both k run false c e f g = ap j2 (one.rests k run e)

  pub drops-twice : (leap : ℕ → Bool) → ((k : ℕ) → leap (at (iter old.step k p0)) ≡ false → old.status (iter old.step (suc k) p0) ≡ Running → at (iter old.step (suc k) p0) ≡ suc (at (iter old.step k p0)))
      → ((i : ℕ) → (stays1 i && stays2 (to1 i)) ≡ false → leap i ≡ false)
      → Drops old new p0 n0 (λ k. j2 (j1 k)) at last stays-both (λ i. to2 (to1 i))
  drops-twice leap falls calm = record {
    follows = follows-on old mid new p0 m0 n0 j1 j2 one.follows two.follows;
    steps = λ k run e.
        let f = one.steps k run (and_parts _ _ e).0 in
        ap j2 f ∙ two.steps (j1 k) (mid-runs k run) (second k run true (and_parts (stays1 (at (iter old.step k p0))) _ e).1);
    rests = λ k run e. rests-both k run (stays1 (at (iter old.step k p0))) (stays2 (to1 (at (iter old.step k p0)))) refl refl e;
    here = λ k run. two.here (j1 k) (mid-runs k run) ∙ ap to2 (one.here k run);
    falls = λ k e run. falls k (calm (at (iter old.step k p0)) e) run;
  }
