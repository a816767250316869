-- Threaded jumps: between two times at one node there is a loud step.
use Rattle.std.proofs.Common.{◌≡◌, ◌≢◌, ℕ, zero, suc, ◌+◌, ◌-◌, ◌<◌, ◌≤◌, ◌==◌, Bool, true, false, not, ◌&&◌, ◌⊎◌, inl, inr, refl, sym, ap, ◌∙◌, subst, arith, ⊎_elim}
use Rattle.std.proofs.lemmas.Bool.Decides.{eqb_tells}
use Rattle.std.proofs.lemmas.Bool.{false≢true}
use Rattle.lg_base.specs.Runs.{Running, Machine, iter, IsMachine}
use Rattle.lg_opt.specs.Follows.{IsLoudAt, Turns}
use Rattle.lg_opt.specs.Drops.{Threading}
use Rattle.lg_opt.proofs.Pigeons.{first_loud}
use Rattle.lg_opt.proofs.TimeLemmas.{went-on}

module _ {P N : Type 0} (old : Machine P) (new : Machine N) (p0 : P) (n0 : N) (j : ℕ → ℕ) (at : P → ℕ) (place : N → ℕ) (jump leap turning stays : ℕ → Bool) (to goal depth : ℕ → ℕ) (is-loud : N → Bool)
    (is-old : IsMachine old) (t : Threading old new p0 n0 j at place jump leap turning stays to goal depth is-loud) where
  abbrev o-at : ℕ → ℕ
  o-at k = at (iter old.step k p0)

  abbrev n-at : ℕ → ℕ
  n-at k = place (iter new.step (j k) n0)

  -- a step that is not loud
  abbrev silent : ℕ → Bool
  silent k = not ((j (suc k) == suc (j k)) && is-loud (iter new.step (j k) n0))

  loud-of : (k : ℕ) → silent k ≡ false → IsLoudAt new n0 j is-loud k
  loud-of k e = by (j (suc k) == suc (j k)) (is-loud (iter new.step (j k) n0)) refl refl e
    where
      eq : (j (suc k) == suc (j k)) ≡ true → j (suc k) ≡ suc (j k)
      eq e = ⊎_elim (λ s. s.1) (λ s. absurd (false≢true (sym s.0 ∙ e))) (eqb_tells (j (suc k)) (suc (j k)))

      by : (b c : Bool) → (j (suc k) == suc (j k)) ≡ b → is-loud (iter new.step (j k) n0) ≡ c → not (b && c) ≡ false → IsLoudAt new n0 j is-loud k
      by true true b c e = (eq b, c)
      by false c b d e = cc
      by true false b d e = cc

  calm : (k : ℕ) → silent k ≡ true → IsLoudAt new n0 j is-loud k → ⊥
  calm k e l = by (j (suc k) == suc (j k)) (is-loud (iter new.step (j k) n0)) (eq (eqb_tells (j (suc k)) (suc (j k)))) l.1 e
    where
      eq : ((j (suc k) == suc (j k)) ≡ true) × (j (suc k) ≡ suc (j k)) ⊎ ((j (suc k) == suc (j k)) ≡ false) × (j (suc k) ≢ suc (j k)) → (j (suc k) == suc (j k)) ≡ true
      eq (inl s) = s.0
      eq (inr s) = absurd (s.1 l.0)

      by : (b c : Bool) → b ≡ true → c ≡ true → not (b && c) ≡ true → ⊥
      by true true f g h = cc
      by false c f g h = cc
      by true false f g h = cc

  Runs : ℕ → Type 0
  Runs k = old.status (iter old.step k p0) ≡ Running

  module _ (x y : ℕ) (lt : x < y) (same : o-at x ≡ o-at y) (run : Runs y) (quiet : (k : ℕ) → suc x ≤ k → k < suc x + (y - x) → silent k ≡ true) where
    on : (k : ℕ) → k ≤ y → old.status (iter old.step k p0) ≡ Running
    unfolding Runs
    on k le = went-on old is-old p0 k y le run

    still : (k : ℕ) → x < k → k ≤ y → IsLoudAt new n0 j is-loud k → ⊥
    still k a b l = calm k (quiet k (omega arith) (omega arith)) l

    -- over one step between, the new run stays, where the old is at a jump, or goes on to the next node
    step : (k : ℕ) → x < k → k < y → (jump (o-at k) ≡ false × (n-at (suc k) ≡ suc (n-at k))) ⊎ (jump (o-at k) ≡ true × (n-at (suc k) ≡ n-at k))
    step k a b = by (jump (o-at k)) (leap (o-at k)) (turning (o-at k)) (stays (o-at k)) refl refl refl refl
      where
        by : (c d e f : Bool) → jump (o-at k) ≡ c → leap (o-at k) ≡ d → turning (o-at k) ≡ e → stays (o-at k) ≡ f → (jump (o-at k) ≡ false × (n-at (suc k) ≡ suc (n-at k))) ⊎ (jump (o-at k) ≡ true × (n-at (suc k) ≡ n-at k))
        by false true e f c d g h = absurd (still k a (omega arith) (t.steps k (on k (omega arith)) c, t.kinds k (on k (omega arith)) c ∙ d))
        by false false e f c d g h = inl (c, t.next k (on (suc k) (omega arith)) c d ∙ ap suc (sym (t.here k (on k (omega arith)) c)))
        by true d false f c d' g h = inr (c, ⊎_elim (λ l. absurd (still k a (omega arith) l)) (λ s. ap (λ i. place (iter new.step i n0)) s.0) (t.leads k (on k (omega arith)) c g))
        by true d true true c d' g h = absurd (still k a (omega arith) ((t.turns k (on k (omega arith)) c g).0 h))
        by true d true false c d' g h = inr (c, ap (λ i. place (iter new.step i n0)) ((t.turns k (on k (omega arith)) c g).1 h).0)

    -- so it never goes back
    mount : (d k : ℕ) → x < k → k + d ≤ y → n-at k ≤ n-at (k + d)
    mount zero k a b = let z : k + 0 ≡ k = omega arith in subst (λ i. n-at k ≤ n-at i) (sym z) (omega arith)
    mount (suc d) k a b =
        let z : k + suc d ≡ suc (k + d) = omega arith in
        let m = mount d k a (omega arith) in
        let s = step (k + d) (omega arith) (omega arith) in
        subst (λ i. n-at k ≤ n-at i) (sym z) (⊎_elim (λ u. omega (arith, m, u.1)) (λ u. omega (arith, m, u.1)) s)

    mounts : (k l : ℕ) → x < k → k ≤ l → l ≤ y → n-at k ≤ n-at l
    mounts k l a b c = let z : k + (l - k) ≡ l = omega arith in subst (λ i. n-at k ≤ n-at i) z (mount (l - k) k a (omega arith))

    -- another node than a jump cannot be left and reached again
    at-plain : jump (o-at y) ≡ false → ⊥
    at-plain c = by (leap (o-at y)) refl
      where
        cx : jump (o-at x) ≡ false
        cx = ap jump same ∙ c

        by : (d : Bool) → leap (o-at y) ≡ d → ⊥
        by true d = still y lt (omega arith) (t.steps y (on y (omega arith)) c, t.kinds y (on y (omega arith)) c ∙ d)
        by false d =
            let far = t.next x (on (suc x) (omega arith)) cx (ap leap same ∙ d) in
            let near = t.here y (on y (omega arith)) c in
            let m = mounts (suc x) y (omega arith) (omega arith) (omega arith) in
            let s = ap to same in
            omega (arith, far, near, m, s)

    -- nor a jump that does not turn
    module _ (c : jump (o-at y) ≡ true) (e : turning (o-at y) ≡ false) where
      there : n-at (suc x) ≡ n-at y
      there =
          let a = (t.led x (on x (omega arith)) (ap jump same ∙ c) (ap turning same ∙ e)).0 in
          let b = ⊎_elim (λ l. absurd (still y lt (omega arith) l)) (λ s. s.1) (t.leads y (on y (omega arith)) c e) in
          a ∙ ap goal same ∙ sym b

      jumps : (k : ℕ) → x < k → k < y → jump (o-at k) ≡ true
      jumps k a b = ⊎_elim (λ s. absurd (rise s.1)) (λ s. s.0) (step k a b)
        where
          rise : n-at (suc k) ≡ suc (n-at k) → ⊥
          rise up =
              let l = mounts (suc x) k (omega arith) (omega arith) (omega arith) in
              let h = mounts (suc k) y (omega arith) (omega arith) (omega arith) in
              omega (arith, up, l, h, there)

      shallower : (d : ℕ) → x + suc d ≤ y → (turning (o-at (x + suc d)) ≡ false) × (depth (o-at (x + suc d)) < depth (o-at x))
      shallower zero le =
          let z : x + 1 ≡ suc x = omega arith in
          let l = t.led x (on x (omega arith)) (ap jump same ∙ c) (ap turning same ∙ e) in
          subst (λ i. (turning (o-at i) ≡ false) × (depth (o-at i) < depth (o-at x))) (sym z) (l.1, l.2)
      shallower (suc d) le =
          let z : x + suc (suc d) ≡ suc (x + suc d) = omega arith in
          let b = shallower d (omega arith) in
          let l = t.led (x + suc d) (on (x + suc d) (omega arith)) (jumps (x + suc d) (omega arith) (omega arith)) b.0 in
          subst (λ i. (turning (o-at i) ≡ false) × (depth (o-at i) < depth (o-at x))) (sym z) (l.1, omega (arith, b.1, l.2))

      at-lead : ⊥
      at-lead =
          let z : x + suc (y - suc x) ≡ y = omega arith in
          let d = (shallower (y - suc x) (omega arith)).1 in
          let d' : depth (o-at y) < depth (o-at x) = subst (λ i. depth (o-at i) < depth (o-at x)) z d in
          let s = ap depth same in
          omega (arith, d', s)

    -- nor one that turns
    module _ (c : jump (o-at y) ≡ true) (e : turning (o-at y) ≡ true) where
      dropped : stays (o-at y) ≡ false
      dropped = by (stays (o-at y)) refl
        where
          by : (b : Bool) → stays (o-at y) ≡ b → stays (o-at y) ≡ false
          by false f = f
          by true f = absurd (still y lt (omega arith) ((t.turns y (on y (omega arith)) c e).0 f))

      further : (d : ℕ) → x + suc d ≤ y → (jump (o-at (x + suc d)) ≡ true) × (turning (o-at (x + suc d)) ≡ true) × (o-at x < o-at (x + suc d))
      further zero le =
          let z : x + 1 ≡ suc x = omega arith in
          let l = t.turns x (on x (omega arith)) (ap jump same ∙ c) (ap turning same ∙ e) in
          subst (λ i. (jump (o-at i) ≡ true) × (turning (o-at i) ≡ true) × (o-at x < o-at i)) (sym z) (l.2, l.3, (l.1 (ap stays same ∙ dropped)).1)
      further (suc d) le =
          let z : x + suc (suc d) ≡ suc (x + suc d) = omega arith in
          let b = further d (omega arith) in
          let l = t.turns (x + suc d) (on (x + suc d) (omega arith)) b.0 b.1 in
          subst (λ i. (jump (o-at i) ≡ true) × (turning (o-at i) ≡ true) × (o-at x < o-at i)) (sym z) (l.2, l.3, by (stays (o-at (x + suc d))) refl l b.2)
        where
          by : (f : Bool) → stays (o-at (x + suc d)) ≡ f
              → (stays (o-at (x + suc d)) ≡ true → IsLoudAt new n0 j is-loud (x + suc d)) × (stays (o-at (x + suc d)) ≡ false → (j (suc (x + suc d)) ≡ j (x + suc d)) × (o-at (x + suc d) < o-at (suc (x + suc d)))) × (jump (o-at (suc (x + suc d))) ≡ true) × (turning (o-at (suc (x + suc d))) ≡ true)
              → o-at x < o-at (x + suc d) → o-at x < o-at (suc (x + suc d))
          by true f l lt' = absurd (still (x + suc d) (omega arith) (omega arith) (l.0 f))
          by false f l lt' = let m = (l.1 f).1 in omega (arith, m, lt')

      at-turn : ⊥
      at-turn =
          let z : x + suc (y - suc x) ≡ y = omega arith in
          let d = (further (y - suc x) (omega arith)).2 in
          let d' : o-at x < o-at y = subst (λ i. o-at x < o-at i) z d in
          omega (arith, d', same)

    never : ⊥
    never = by (jump (o-at y)) (turning (o-at y)) refl refl
      where
        by : (c e : Bool) → jump (o-at y) ≡ c → turning (o-at y) ≡ e → ⊥
        by false e c d = at-plain c
        by true false c d = at-lead c d
        by true true c d = at-turn c d

  pub threading-turns : Turns old new p0 n0 j at is-loud
  unfolding Runs
  threading-turns x y lt same run = ⊎_elim
      (λ f. (suc x + f.0, omega arith, omega (arith, f.1), loud-of (suc x + f.0) f.2))
      (λ q. absurd (never x y lt same run q))
      (first_loud silent (suc x) (y - x))
