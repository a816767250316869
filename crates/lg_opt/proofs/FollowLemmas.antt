-- The runs of old nodes agree with those of the code of new nodes that follow them.
use Rattle.std.proofs.Common.{◌≡◌, ◌≢◌, ℕ, suc, ◌+◌, ◌<◌, ◌≤◌, ◌==◌, Bool, true, false, not, ◌&&◌, ◌⊎◌, inl, inr, refl, sym, ap, ◌∙◌, subst, arith, ⊎_elim}
use Rattle.std.proofs.lemmas.Bool.Decides.{eqb_tells}
use Rattle.lg_base.specs.Runs.{Status, Running, Ended, Bad, Machine, iter, IsMachine, EndsSilently}
use Rattle.lg_temp.specs.Agrees.{AgreesAt}
use Rattle.lg_temp.specs.Carries.{Standing, Lands, Carries}
use Rattle.lg_temp.proofs.Induction.{agrees}
use Rattle.lg_temp.proofs.Steps.{iter-suc}
use Rattle.lg_opt.specs.Follows.{Follows, IsLoudAt, Turns}
use Rattle.lg_opt.specs.Loud.{StandsAlike, LandsLoud, CarriesLoud}
use Rattle.lg_opt.proofs.Quiet.{rank_of, rank_low, rank_falls}
use Rattle.lg_opt.proofs.Pigeons.{loud}

abbrev goes-on : Status → Bool
goes-on Running = true
goes-on (Ended s) = false
goes-on Bad = false

goes-on-running : (s : Status) → goes-on s ≡ true → s ≡ Running
goes-on-running Running e = refl
goes-on-running (Ended s) e = cc
goes-on-running Bad e = cc

module _ {P N Q : Type 0} (old : Machine P) (new : Machine N) (processor : Machine Q) (stands : N → Q → Type 0) (is-loud : N → Bool) (at : P → ℕ) (p0 : P) (n0 : N) (j : ℕ → ℕ) (nodes : ℕ)
    (follow : Follows old new p0 n0 j) (turns : Turns old new p0 n0 j at is-loud) where
  abbrev p-at : ℕ → P
  p-at k = iter old.step k p0

  abbrev n-at : ℕ → N
  n-at k = iter new.step (j k) n0

  -- the run goes on over step k, at which the new run makes no loud step
  abbrev silent : ℕ → Bool
  silent k = goes-on (old.status (p-at (suc k))) && not ((j (suc k) == suc (j k)) && is-loud (n-at k))

  not-loud : (k : ℕ) → IsLoudAt new n0 j is-loud k → silent k ≡ false
  not-loud k l = by (goes-on (old.status (p-at (suc k)))) (j (suc k) == suc (j k)) (is-loud (n-at k)) (eq (eqb_tells (j (suc k)) (suc (j k)))) l.1
    where
      eq : ((j (suc k) == suc (j k)) ≡ true) × (j (suc k) ≡ suc (j k)) ⊎ ((j (suc k) == suc (j k)) ≡ false) × (j (suc k) ≢ suc (j k)) → (j (suc k) == suc (j k)) ≡ true
      eq (inl t) = t.0
      eq (inr t) = absurd (t.1 l.0)

      by : (b c d : Bool) → c ≡ true → d ≡ true → (b && not (c && d)) ≡ false
      by true true true e f = refl
      by false true true e f = refl
      by b false d e f = cc
      by b true false e f = cc

  stopped : (k : ℕ) → goes-on (old.status (p-at (suc k))) ≡ false → silent k ≡ false
  stopped k e = ap (λ b. b && not ((j (suc k) == suc (j k)) && is-loud (n-at k))) e

  -- a step that is no loud one is silent, where the run goes on over it
  is-silent : (k : ℕ) → old.status (p-at (suc k)) ≡ Running → (j (suc k) ≡ j k) ⊎ (is-loud (n-at k) ≡ false) → silent k ≡ true
  is-silent k run (inl e) = by (old.status (p-at (suc k))) (j (suc k) == suc (j k)) (is-loud (n-at k)) run (eq (eqb_tells (j (suc k)) (suc (j k))))
    where
      eq : ((j (suc k) == suc (j k)) ≡ true) × (j (suc k) ≡ suc (j k)) ⊎ ((j (suc k) == suc (j k)) ≡ false) × (j (suc k) ≢ suc (j k)) → (j (suc k) == suc (j k)) ≡ false
      eq (inl t) = let x = t.1 in absurd (omega arith)
      eq (inr t) = t.0

      by : (s : Status) (c d : Bool) → s ≡ Running → c ≡ false → (goes-on s && not (c && d)) ≡ true
      by Running false d r f = refl
      by s true d r f = cc
      by (Ended s) c d r f = cc
      by Bad c d r f = cc
  is-silent k run (inr e) = by (old.status (p-at (suc k))) (j (suc k) == suc (j k)) (is-loud (n-at k)) run e
    where
      by : (s : Status) (c d : Bool) → s ≡ Running → d ≡ false → (goes-on s && not (c && d)) ≡ true
      by Running true false r f = refl
      by Running false false r f = refl
      by s c true r f = cc
      by (Ended s) c d r f = cc
      by Bad c d r f = cc

  module _ (is-p : IsMachine old) (inside : (k : ℕ) → at (p-at k) < nodes) where
    going : (k : ℕ) → old.status (p-at (suc k)) ≡ Running → old.status (p-at k) ≡ Running
    going k run = by (old.status (p-at k)) refl
      where
        over : old.status (p-at k) ≢ Running → ⊥
        over h = h (sym (ap old.status (iter-suc old.step k p0 ∙ is-p.stays (p-at k) h)) ∙ run)

        by : (s : Status) → old.status (p-at k) ≡ s → old.status (p-at k) ≡ Running
        by Running e = e
        by (Ended s) e = absurd (over (λ r. cc))
        by Bad e = absurd (over (λ r. cc))

    busy : (a : ℕ) → (i : ℕ) × (i ≤ nodes) × (silent (a + i) ≡ false)
    busy a = loud silent (λ k. at (p-at k)) nodes inside some a
      where
        some : (x y : ℕ) → x < y → at (p-at x) ≡ at (p-at y) → (c : ℕ) × (x < c) × (c ≤ y) × (silent c ≡ false)
        some x y lt e = by (goes-on (old.status (p-at (suc y)))) refl
          where
            by : (b : Bool) → goes-on (old.status (p-at (suc y))) ≡ b → (c : ℕ) × (x < c) × (c ≤ y) × (silent c ≡ false)
            by false f = (y, lt, omega arith, stopped y f)
            by true f = let t = turns x y lt e (going y (goes-on-running (old.status (p-at (suc y))) f)) in (t.0, t.1, t.2, not-loud t.0 t.3)

    abbrev rank : ℕ → ℕ
    rank k = rank_of silent nodes k

    -- the old run after k steps, with the new run that corresponds to a state of the processor
    record StandsBy (p : P) (q : Q) (r : ℕ) : Type 0 where
      k : ℕ
      is : p ≡ p-at k
      fine : old.status (p-at k) ≢ Bad
      by : stands (n-at k) q
      ranked : r ≡ rank k

    module _ (silent-p : EndsSilently old) (is-q : IsMachine processor) (alike : (n : N) (q : Q) → stands n q → StandsAlike new processor n q) (carry : (n : N) (q : Q) → stands n q → CarriesLoud new processor stands is-loud n q) where
      standing : (p : P) (q : Q) (r : ℕ) → StandsBy p q r → Standing old processor nodes p q r
      standing p q r s =
          let h = alike _ _ s.by in
          let low = rank_low silent nodes busy s.k in
          record {
            goes = ap old.status s.is ∙ sym (follow.status s.k s.fine) ∙ h.goes;
            runs = h.runs;
            out = h.out ∙ follow.out s.k s.fine ∙ ap old.out (sym s.is);
            low = omega (arith, s.ranked, low);
          }

      module _ (p : P) (q : Q) (r : ℕ) (s : StandsBy p q r) where
        next : old.step p ≡ p-at (suc s.k)
        next = ap old.step s.is ∙ sym (iter-suc old.step s.k p0)

        out-here : new.out (n-at s.k) ≡ old.out p
        out-here = follow.out s.k s.fine ∙ ap old.out (sym s.is)

        less : old.status (p-at (suc s.k)) ≡ Running → (j (suc s.k) ≡ j s.k) ⊎ (is-loud (n-at s.k) ≡ false) → rank (suc s.k) < r
        less run w = let f = rank_falls silent nodes busy s.k (is-silent s.k run w) in omega (arith, f, s.ranked)

        not-some : (b : Bool) (m : ℕ) → (b ≡ true → 0 < m) → m ≡ 0 → b ≡ false
        not-some true m h e = let z = h refl in absurd (omega arith)
        not-some false m h e = refl

        module _ (fine : old.status (old.step p) ≢ Bad) where
          fine' : old.status (p-at (suc s.k)) ≢ Bad
          fine' b = fine (ap old.status next ∙ b)

          to : (q' : Q) → stands (n-at (suc s.k)) q' → StandsBy (old.step p) q' (rank (suc s.k))
          to q' st = record { k = suc s.k; is = next; fine = fine'; by = st; ranked = refl }

          -- the new run rests
          rests : j (suc s.k) ≡ j s.k → Lands old processor StandsBy p q r
          unfolding iter
          rests e =
              let st : stands (n-at (suc s.k)) q = subst (λ i. stands (iter new.step i n0) q) (sym e) s.by in
              record {
                steps = 0;
                few = omega arith;
                way = λ i lt. absurd (omega arith);
                there = inr (rank (suc s.k), to q st, λ z. less (sym (follow.status (suc s.k) fine') ∙ (alike _ _ st).goes) (inl e));
              }

          -- it steps
          module _ (e : j (suc s.k) ≡ suc (j s.k)) where
            onward : n-at (suc s.k) ≡ new.step (n-at s.k)
            onward = ap (λ i. iter new.step i n0) e ∙ iter-suc new.step (j s.k) n0

            status : new.status (new.step (n-at s.k)) ≡ old.status (old.step p)
            status = ap new.status (sym onward) ∙ follow.status (suc s.k) fine' ∙ ap old.status (sym next)

            out : new.out (new.step (n-at s.k)) ≡ old.out (old.step p)
            out = ap new.out (sym onward) ∙ follow.out (suc s.k) fine' ∙ ap old.out (sym next)

            steps : LandsLoud new processor stands is-loud (n-at s.k) q → Lands old processor StandsBy p q r
            steps l = record {
              steps = l.steps;
              few = l.few;
              way = λ i lt. ⊎_elim (λ o. inl (o ∙ out-here)) (λ o. inr (o ∙ out)) (l.way i lt);
              there = elim l.there [
                | inl d ↦ inl (d.0, sym status ∙ d.1, d.2, d.3 ∙ out)
                | inr st ↦ inr (rank (suc s.k), to _ (subst (λ x. stands x (iter processor.step l.steps q)) (sym onward) st), λ z. less (ap old.status (sym next) ∙ sym status ∙ (alike _ _ st).goes) (inr (not-some (is-loud (n-at s.k)) l.steps l.some z)))
              ];
            }

          go : Carries old processor StandsBy p q r
          go = elim (follow.rises s.k) [
            | inl e ↦ inr (rests e)
            | inr e ↦ elim (carry (n-at s.k) q s.by) [
              | inl bad ↦ absurd (fine (sym (status e) ∙ bad))
              | inr l ↦ inr (steps e l)
            ]
          ]

        split : (t : Status) → old.status (old.step p) ≡ t → Carries old processor StandsBy p q r
        split Bad e = inl e
        split Running e = go (λ b. cc)
        split (Ended c) e = go (λ b. cc)

      carries : (p : P) (q : Q) (r : ℕ) → StandsBy p q r → Carries old processor StandsBy p q r
      carries p q r s = split p q r s (old.status (old.step p)) refl

      -- the old nodes and the processor agree, with the number of the old nodes in the bound
      pub followed-agree : old.status p0 ≡ Running → (q : Q) → stands n0 q → (m : ℕ) → AgreesAt old processor nodes p0 q m
      unfolding iter
      followed-agree run q st m =
          agrees old processor StandsBy nodes is-p silent-p is-q standing carries p0 q (rank 0)
          record { k = 0; is = refl; fine = λ b. cc; by = subst (λ i. stands (iter new.step i n0) q) (sym follow.start) st; ranked = refl } m
