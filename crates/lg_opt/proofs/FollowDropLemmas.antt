-- Dropped nodes and threaded jumps, one after the other.
use Rattle.std.proofs.Common.{◌≡◌, ◌≢◌, ℕ, zero, suc, ◌+◌, ◌-◌, ◌<◌, ◌≤◌, Bool, true, false, cond, ◌⊎◌, inl, inr, refl, sym, ap, ◌∙◌, subst, arith, ⊎_elim}
use Rattle.std.proofs.lemmas.Bool.{cases_lt, false≢true}
use Rattle.lg_base.specs.Runs.{Running, Bad, Machine, iter, IsMachine}
use Rattle.lg_temp.proofs.Steps.{iter-suc}
use Rattle.lg_opt.specs.Follows.{Follows, LooksAlike, IsLoudAt, Turns}
use Rattle.lg_opt.specs.Drops.{Drops, Threads, JumpsQuietly}
use Rattle.lg_opt.proofs.TimeLemmas.{Rises, no-falls, crosses, went-on}

module _ {P M N : Type 0} (old : Machine P) (mid : Machine M) (new : Machine N) (p0 : P) (m0 : M) (n0 : N) (at : P → ℕ) (place : M → ℕ) (stays : ℕ → Bool) (to : ℕ → ℕ) (j1 j2 : ℕ → ℕ)
    (is-old : IsMachine old) (drops : Drops old mid p0 m0 j1 at place stays to) where
  abbrev p-at : ℕ → P
  p-at k = iter old.step k p0

  abbrev m-at : ℕ → M
  m-at k = iter mid.step (j1 k) m0

  rises-1 : Rises j1
  rises-1 = drops.follows.rises

  -- while the middle run rests, the old one comes on from node to node
  raised : (d x : ℕ) → old.status (p-at (x + d)) ≡ Running → (j1 x < j1 (x + d)) ⊎ (at (p-at (x + d)) ≡ at (p-at x) + d)
  raised zero x run = let z : x + 0 ≡ x = omega arith in inr (rw z (omega arith))
  raised (suc d) x run = ⊎_elim far near (raised d x (went-on old is-old p0 (x + d) (x + suc d) (omega arith) run))
    where
      z : x + suc d ≡ suc (x + d)
      z = omega arith

      run' : old.status (p-at (suc (x + d))) ≡ Running
      run' = subst (λ v. old.status (p-at v) ≡ Running) z run

      before : old.status (p-at (x + d)) ≡ Running
      before = went-on old is-old p0 (x + d) (suc (x + d)) (omega arith) run'

      far : j1 x < j1 (x + d) → (j1 x < j1 (x + suc d)) ⊎ (at (p-at (x + suc d)) ≡ at (p-at x) + suc d)
      far lt = let le = no-falls j1 rises-1 (x + d) (x + suc d) (omega arith) in inl (omega arith)

      near : at (p-at (x + d)) ≡ at (p-at x) + d → (j1 x < j1 (x + suc d)) ⊎ (at (p-at (x + suc d)) ≡ at (p-at x) + suc d)
      near e = by (stays (at (p-at (x + d)))) refl
        where
          by : (b : Bool) → stays (at (p-at (x + d))) ≡ b → (j1 x < j1 (x + suc d)) ⊎ (at (p-at (x + suc d)) ≡ at (p-at x) + suc d)
          by true s = let up = drops.steps (x + d) before s in let le = no-falls j1 rises-1 x (x + d) (omega arith) in inl (rw z (omega arith))
          by false s = let f = drops.falls (x + d) s run' in inr (rw z (omega arith))

  -- so between two times at one node the middle run makes a step
  stepped : (x y : ℕ) → x < y → at (p-at x) ≡ at (p-at y) → old.status (p-at y) ≡ Running → j1 x < j1 y
  stepped x y lt same run =
      let z : x + (y - x) ≡ y = omega arith in
      subst (λ v. j1 x < j1 v) z (⊎_elim (λ l. l) (λ e. let e' : at (p-at y) ≡ at (p-at x) + (y - x) = subst (λ v. at (p-at v) ≡ at (p-at x) + (y - x)) z e in absurd (omega arith)) (raised (y - x) x (subst (λ v. old.status (p-at v) ≡ Running) (sym z) run)))

  module _ (jump leap : ℕ → Bool) (is-loud : N → Bool) (threads : Threads mid new m0 n0 j2 place jump leap is-loud) (quiet : JumpsQuietly mid place jump) where
    -- the middle run is looked at one step early where it is at a jump before which nodes were dropped
    abbrev pub early : ℕ → ℕ
    early zero = 0
    early (suc k) = cond (jump (place (m-at k))) (suc (j1 k)) (j1 (suc k))

    abbrev Near : ℕ → Type 0
    Near k = (early k ≡ j1 k) ⊎ ((early k ≡ suc (j1 k)) × (jump (place (m-at k)) ≡ true))

    near : (k : ℕ) → Near k
    near zero = inl (sym drops.follows.start)
    near (suc k) = by (jump (place (m-at k))) refl
      where
        by : (b : Bool) → jump (place (m-at k)) ≡ b → Near (suc k)
        by false e = inl (ap (λ b. cond b (suc (j1 k)) (j1 (suc k))) e)
        by true e =
            let at-k : early (suc k) ≡ suc (j1 k) = ap (λ b. cond b (suc (j1 k)) (j1 (suc k))) e in
            ⊎_elim (λ s. inr (at-k ∙ ap suc (sym s), ap (λ i. jump (place (iter mid.step i m0))) s ∙ e)) (λ s. inl (at-k ∙ sym s)) (rises-1 k)

    rises-early : Rises early
    rises-early k = by (jump (place (m-at k))) refl
      where
        by : (b : Bool) → jump (place (m-at k)) ≡ b → (early (suc k) ≡ early k) ⊎ (early (suc k) ≡ suc (early k))
        by true e =
            let up : early (suc k) ≡ suc (j1 k) = ap (λ b. cond b (suc (j1 k)) (j1 (suc k))) e in
            ⊎_elim (λ s. inr (up ∙ ap suc (sym s))) (λ s. inl (up ∙ sym s.0)) (near k)
        by false e =
            let up : early (suc k) ≡ j1 (suc k) = ap (λ b. cond b (suc (j1 k)) (j1 (suc k))) e in
            ⊎_elim (λ s. ⊎_elim (λ r. inl (up ∙ r ∙ sym s)) (λ r. inr (up ∙ r ∙ ap suc (sym s))) (rises-1 k)) (λ s. absurd (false≢true (sym e ∙ s.1))) (near k)

    status-early : (k : ℕ) → old.status (p-at k) ≢ Bad → mid.status (iter mid.step (early k) m0) ≡ old.status (p-at k)
    status-early k fine = ⊎_elim
        (λ s. ap (λ i. mid.status (iter mid.step i m0)) s ∙ drops.follows.status k fine)
        (λ s. ap (λ i. mid.status (iter mid.step i m0)) s.0 ∙ ap mid.status (iter-suc mid.step (j1 k) m0) ∙ (quiet (m-at k) s.1).0 ∙ drops.follows.status k fine)
        (near k)

    out-early : (k : ℕ) → old.status (p-at k) ≢ Bad → mid.out (iter mid.step (early k) m0) ≡ old.out (p-at k)
    out-early k fine = ⊎_elim
        (λ s. ap (λ i. mid.out (iter mid.step i m0)) s ∙ drops.follows.out k fine)
        (λ s. ap (λ i. mid.out (iter mid.step i m0)) s.0 ∙ ap mid.out (iter-suc mid.step (j1 k) m0) ∙ (quiet (m-at k) s.1).1 ∙ drops.follows.out k fine)
        (near k)

    abbrev pub joined : ℕ → ℕ
    joined k = j2 (early k)

    pub follows-joined : Follows old new p0 n0 joined
    follows-joined = record {
      start = threads.follows.start;
      rises = λ k. ⊎_elim (λ s. inl (ap j2 s)) (λ s. ⊎_elim (λ r. inl (ap j2 s ∙ r)) (λ r. inr (ap j2 s ∙ r)) (threads.follows.rises (early k))) (rises-early k);
      status = λ k fine. let s = status-early k fine in threads.follows.status (early k) (λ b. fine (sym s ∙ b)) ∙ s;
      out = λ k fine. let s = status-early k fine in threads.follows.out (early k) (λ b. fine (sym s ∙ b)) ∙ out-early k fine;
    }

    -- what is looked at is the same, where jumps do not change it
    pub looks-joined : {A : Type 0} (look : P → A) (view : M → A) (see : N → A) → ((x : M) → jump (place x) ≡ true → view (mid.step x) ≡ view x)
        → LooksAlike old mid p0 m0 j1 look view → LooksAlike mid new m0 n0 j2 view see → LooksAlike old new p0 n0 joined look see
    looks-joined look view see calm one two k fine =
        let s = status-early k fine in
        two (early k) (λ b. fine (sym s ∙ b)) ∙ ⊎_elim
        (λ e. ap (λ i. view (iter mid.step i m0)) e ∙ one k fine)
        (λ e. ap (λ i. view (iter mid.step i m0)) e.0 ∙ ap view (iter-suc mid.step (j1 k) m0) ∙ calm (m-at k) e.1 ∙ one k fine)
        (near k)

    pub turns-joined : Turns old new p0 n0 joined at is-loud
    turns-joined x y lt same run = by (jump (to (at (p-at y)))) (stays (at (p-at y))) refl refl
      where
        run-x : old.status (p-at x) ≡ Running
        run-x = went-on old is-old p0 x y (omega arith) run

        here-y : place (m-at y) ≡ to (at (p-at y))
        here-y = drops.here y run

        here-x : place (m-at x) ≡ to (at (p-at y))
        here-x = drops.here x run-x ∙ ap to same

        less : j1 x < j1 y
        less = stepped x y lt same run

        running : (k : ℕ) → old.status (p-at k) ≡ Running → mid.status (m-at k) ≡ Running
        running k r = drops.follows.status k (λ b. bad (sym b ∙ r)) ∙ r
          where
            bad : Bad ≡ Running → ⊥
            bad e = cc

        -- a loud step of the middle run is one of the old run
        found : (a : ℕ) → early (suc x) ≤ a → a < early (suc y) → IsLoudAt new n0 j2 is-loud a → (c : ℕ) × (x < c) × (c ≤ y) × IsLoudAt new n0 joined is-loud c
        found a le l loud =
            let f = crosses early rises-early x y a lt le l in
            (f.0, f.1, f.2, (ap j2 f.4 ∙ loud.0 ∙ ap (λ i. suc (j2 i)) (sym f.3), ap (λ i. is-loud (iter new.step (j2 i) n0)) f.3 ∙ loud.1))

        turn : (c : ℕ) × (j1 x < c) × (c ≤ j1 y) × IsLoudAt new n0 j2 is-loud c
        turn = threads.turns (j1 x) (j1 y) less (here-x ∙ sym here-y) (running y run)

        -- where the middle run steps at both times
        both : early (suc x) ≡ suc (j1 x) → early (suc y) ≡ suc (j1 y) → (c : ℕ) × (x < c) × (c ≤ y) × IsLoudAt new n0 joined is-loud c
        both ex ey = found turn.0 (omega (arith, ex, turn.1)) (omega (arith, ey, turn.2)) turn.3

        as-jump : (k : ℕ) (b : Bool) → jump (place (m-at k)) ≡ b → early (suc k) ≡ cond b (suc (j1 k)) (j1 (suc k))
        as-jump k b e = ap (λ c. cond c (suc (j1 k)) (j1 (suc k))) e

        by : (b c : Bool) → jump (to (at (p-at y))) ≡ b → stays (at (p-at y)) ≡ c → (c : ℕ) × (x < c) × (c ≤ y) × IsLoudAt new n0 joined is-loud c
        by true c e s = both (as-jump x true (ap jump here-x ∙ e)) (as-jump y true (ap jump here-y ∙ e))
        by false true e s =
            both (as-jump x false (ap jump here-x ∙ e) ∙ drops.steps x run-x (ap stays same ∙ s)) (as-jump y false (ap jump here-y ∙ e) ∙ drops.steps y run s)
        by false false e s =
            let ex : early (suc x) ≡ j1 x = as-jump x false (ap jump here-x ∙ e) ∙ drops.rests x run-x (ap stays same ∙ s) in
            let ey : early (suc y) ≡ j1 y = as-jump y false (ap jump here-y ∙ e) ∙ drops.rests y run s in
            ⊎_elim
            (λ l. found turn.0 (omega (arith, ex, turn.1)) (omega (arith, ey, l)) turn.3)
            (λ ge.
            let last : turn.0 ≡ j1 y = omega (arith, ge, turn.2) in
            let leaps : leap (to (at (p-at y))) ≡ true = sym (threads.kinds (j1 y) (running y run) (ap jump here-y ∙ e) ∙ ap leap here-y) ∙ subst (λ i. is-loud (iter new.step (j2 i) n0) ≡ true) last turn.3.1 in
            let calm : jump (place (m-at x)) ≡ false = ap jump here-x ∙ e in
            found (j1 x) (omega (arith, ex)) (omega (arith, ey, less)) (threads.steps (j1 x) (running x run-x) calm, threads.kinds (j1 x) (running x run-x) calm ∙ ap leap here-x ∙ leaps))
            (cases_lt turn.0 (j1 y))
