-- From what each portable step is carried to, to a processor that keeps pace; and the ends of both.
use Rattle.std.proofs.Common.{◌≡◌, ◌≢◌, ℕ, zero, suc, ◌+◌, ◌≤◌, ◌⊎◌, inl, inr, refl, sym, ap, ◌∙◌, subst, arith, ⊎_elim}
use Rattle.std.proofs.lemmas.Bool.{cases_lt}
use Rattle.lg_base.specs.Runs.{Running, Ended, Bad, Machine, iter, IsMachine}
use Rattle.lg_temp.specs.Agrees.{SameAt, AgreesAt}
use Rattle.lg_temp.specs.Paces.{KeepsPace, EndsAlike, StandingAlike, CarriesAlike}
use Rattle.lg_temp.proofs.Steps.{iter-suc, iter-plus, iter-after}

ended-runs : {s : ℕ} → Ended s ≡ Running → ⊥
ended-runs e = cc

ended-bad : {s : ℕ} → Ended s ≡ Bad → ⊥
ended-bad e = cc

bad-runs : Bad ≡ Running → ⊥
bad-runs e = cc

runs-bad : Running ≡ Bad → ⊥
runs-bad e = cc

module _ {P Q : Type 0} (portable : Machine P) (processor : Machine Q) (Alike : P → Q → Type 0) (stands : P → Q → Type 0) (is-p : IsMachine portable)
    (standing : (p : P) (q : Q) → stands p q → StandingAlike portable processor Alike p q)
    (carry : (p : P) (q : Q) → stands p q → CarriesAlike portable processor Alike stands p q) (p0 : P) (q0 : Q) (st : stands p0 q0) where
  abbrev p-at : ℕ → P
  p-at k = iter portable.step k p0

  abbrev q-at : ℕ → Q
  q-at n = iter processor.step n q0

  -- both have ended alike
  record HaveEnded (k n : ℕ) : Type 0 where
    status : ℕ
    meaning : portable.status (p-at k) ≡ Ended status
    code : processor.status (q-at n) ≡ Ended status
    out : processor.out (q-at n) ≡ portable.out (p-at k)
    alike : Alike (p-at k) (q-at n)

  -- how both are after k and n steps
  abbrev Both : ℕ → ℕ → Type 0
  Both k n = (portable.status (p-at k) ≡ Bad) ⊎ (HaveEnded k n ⊎ stands (p-at k) (q-at n))

  -- one portable step on
  abbrev Onward : ℕ → ℕ → Type 0
  Onward k n = (m : ℕ) × Both (suc k) m × (n ≤ m) × (m ≤ n + 64)

  rests : (k : ℕ) → portable.status (p-at k) ≢ Running → p-at (suc k) ≡ p-at k
  rests k over = iter-suc portable.step k p0 ∙ is-p.stays (p-at k) over

  onward : (k n : ℕ) → Both k n → Onward k n
  onward k n (inl bad) =
      (n, inl (ap portable.status (rests k (λ e. bad-runs (sym bad ∙ e))) ∙ bad), omega arith, omega arith)
  onward k n (inr (inl h)) =
      let same = rests k (λ e. ended-runs (sym h.meaning ∙ e)) in (
        n,
        inr (inl record {
          status = h.status;
          meaning = ap portable.status same ∙ h.meaning;
          code = h.code;
          out = h.out ∙ ap portable.out (sym same);
          alike = subst (λ x. Alike x (q-at n)) (sym same) h.alike;
        }),
        omega arith,
        omega arith,
      )
  onward k n (inr (inr s)) = elim (carry (p-at k) (q-at n) s) [
    | inl bad ↦ (n, inl (ap portable.status (iter-suc portable.step k p0) ∙ bad), omega arith, omega arith)
    | inr l ↦
        let next = iter-suc portable.step k p0 in
        let there = iter-plus processor.step (n + l.steps) n l.steps q0 refl in
        let few = l.few in (
          n + l.steps,
          inr (elim l.there [
            | inl d ↦ inl record {
              status = d.0;
              meaning = ap portable.status next ∙ d.1;
              code = ap processor.status there ∙ d.2;
              out = ap processor.out there ∙ d.3 ∙ ap portable.out (sym next);
              alike = subst (λ x. Alike x (q-at (n + l.steps))) (sym next) (subst (Alike (portable.step (p-at k))) (sym there) d.4);
            }
            | inr d ↦ inr (subst (λ x. stands x (q-at (n + l.steps))) (sym next) (subst (stands (portable.step (p-at k))) (sym there) d))
          ]),
          omega arith,
          omega (arith, few),
        )
  ]

  walk : (k : ℕ) → (n : ℕ) × Both k n
  unfolding iter
  walk zero = (0, inr (inr st))
  walk (suc k) = let o = onward k (walk k).0 (walk k).1 in (o.0, o.1)

  same-at : (k n : ℕ) → Both k n → portable.status (p-at k) ≢ Bad → SameAt portable processor (p-at k) (q-at n) × Alike (p-at k) (q-at n)
  same-at k n (inl bad) fine = absurd (fine bad)
  same-at k n (inr (inl h)) fine = (record { sound = λ b. ended-bad (sym h.code ∙ b); status = h.code ∙ sym h.meaning; out = h.out }, h.alike)
  same-at k n (inr (inr s)) fine =
      let h = standing (p-at k) (q-at n) s in
      (record { sound = λ b. runs-bad (sym h.runs ∙ b); status = h.runs ∙ sym h.goes; out = h.out }, h.alike)

  pub keeps-pace : KeepsPace portable processor Alike p0 q0
  unfolding walk
  keeps-pace = record {
    pace = λ k. (walk k).0;
    start = refl;
    rises = λ k. let o = onward k (walk k).0 (walk k).1 in (o.2, o.3);
    same = λ k fine. (same-at k (walk k).0 (walk k).1 fine).0;
    alike = λ k fine. (same-at k (walk k).0 (walk k).1 fine).1;
  }

-- where the processor has ended, both are as they are at the meaning's end
pub ends-alike : {P Q : Type 0} (portable : Machine P) (processor : Machine Q) (Alike : P → Q → Type 0) (nodes : ℕ) (p : P) (q : Q) → IsMachine processor
    → ((n : ℕ) → AgreesAt portable processor nodes p q n) → KeepsPace portable processor Alike p q → EndsAlike portable processor Alike p q
ends-alike portable processor Alike nodes p q is-q agrees paced n status ended =
    let (k, low, high, what) = agrees n in (k, elim what [ inl same ↦ inl (at k same) | inr past ↦ inr past.bad ])
  where
    over : (m : ℕ) → processor.status (iter processor.step m q) ≡ Ended status → processor.status (iter processor.step m q) ≢ Running
    over m e r = ended-runs (sym e ∙ r)

    -- two states of one run that have ended are one
    meets : (m : ℕ) → processor.status (iter processor.step m q) ≡ Ended status → iter processor.step m q ≡ iter processor.step n q
    meets m e = ⊎_elim
        (λ lt. sym (iter-after processor is-q m n q (omega (arith, lt)) (over m e)))
        (λ le. iter-after processor is-q n m q le (over n ended))
        (cases_lt m n)

    at : (k : ℕ) → SameAt portable processor (iter portable.step k p) (iter processor.step n q)
        → (portable.status (iter portable.step k p) ≡ Ended status) × Alike (iter portable.step k p) (iter processor.step n q)
    at k same =
        let meaning : portable.status (iter portable.step k p) ≡ Ended status = sym same.status ∙ ended in
        let fine : portable.status (iter portable.step k p) ≢ Bad = λ b. ended-bad (sym meaning ∙ b) in
        let here = paced.same k fine in
        (meaning, subst (Alike (iter portable.step k p)) (meets (paced.pace k) (here.status ∙ meaning)) (paced.alike k fine))
