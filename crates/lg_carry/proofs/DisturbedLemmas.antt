-- The way of a node leads there with changes below the stack pointer too.
use Rattle.std.proofs.Common.{◌≡◌, ℕ, zero, suc, ◌<◌, ◌≤◌, inl, inr, Bool, false, List, refl, sym, ap, ◌∙◌, subst, arith, ⊎_elim}
use Rattle.lg_base.specs.HostNames.{host_by_address}
use Rattle.lg_base.specs.Runs.{Running, iter}
use Rattle.lg_base.specs.declared.target.Target.{Target}
use Rattle.lg_base.specs.declared.target.Target.TheVariants.{X86_64, Aarch64, Riscv64}
use Rattle.std.specs.Prelude.{slice_get}
use Rattle.lg_carry.specs.Carries.{moves_at, BeginsInside, IsHostStep, KeepsOutside, Meets}
use Rattle.lg_carry.specs.FinalNodes.{Code}
use Rattle.lg_carry.specs.Places.{ArePassedFew}
use Rattle.lg_carry.specs.Processors.{IsSeen, Processor, is_below, stack_of, DoesNotFall, DoesNotRise}
use Rattle.lg_meaning.specs.States.{Frame, State}
use Rattle.lg_meaning.specs.Steps.{Outcome, Goes, Ends, Undefined}
use Rattle.lg_carry.specs.Below.{Disturbs}
use Rattle.lg_carry.specs.Disturbed.{AreSame, hidden_in, IsDisturber, next_of, disturbed, IsSteady, SteadyWaysLead}
use Rattle.lg_carry.proofs.OuterLemmas.{ended-on}
use Rattle.lg_carry.proofs.BelowLemmas.{not-below, state-kept, touches-same}

-- where the stack pointer does not fall, what did not count does not count
stays-below : (target : Target) (s t a : ℕ) → s ≤ t → is_below target t a ≡ false → is_below target s a ≡ false
stays-below X86_64 s t a h e = grind (arith, h, e)
stays-below other s t a h e = grind (arith, h, e)

module _ {Q : Type 0} (P : Processor Q) where
  -- a change more, where more does not count
  pub same-more : (h k : ℕ → Bool) (q r t : Q) → ((a : ℕ) → k a ≡ false → h a ≡ false) → AreSame P h q r → AreSame P k r t → AreSame P k q t
  same-more h k q r t more x y = record {
    status = y.status ∙ x.status;
    out = y.out ∙ x.out;
    look = record {
      pc = y.look.pc ∙ x.look.pc;
      registers = y.look.registers ∙ x.look.registers;
      bytes = λ a e. y.look.bytes a e ∙ x.look.bytes a (more a e);
      mark = y.look.mark ∙ x.look.mark;
      flags = y.look.flags ∙ x.look.flags;
    };
  }

  pub same-self : (h : ℕ → Bool) (q : Q) → AreSame P h q q
  same-self h q = record {
    status = refl;
    out = refl;
    look = record { pc = refl; registers = refl; bytes = λ a e. refl; mark = refl; flags = refl };
  }

  pub disturbs-same : (q r : Q) → Disturbs P q r → AreSame P (hidden_in P q) q r
  disturbs-same q r d = record { status = d.status; out = d.out; look = d.look }

  pub same-stack : (h : ℕ → Bool) (q r : Q) → AreSame P h q r → stack_of P.target (P.seen r) ≡ stack_of P.target (P.seen q)
  same-stack h q r x = ap (λ w. stack_of P.target (record (P.seen q) { registers = w })) x.look.registers

  module _ (d : ℕ → Q → Q) (disturbs : IsDisturber P d) (q : Q) (n : ℕ) where
    abbrev step' : Q × ℕ → Q × ℕ
    step' = (disturbed P d).machine.step

    abbrev at : ℕ → Q
    at j = iter P.machine.step j q

    abbrev at' : ℕ → Q × ℕ
    at' j = iter step' j (q, n)

    -- a step that runs
    goes : (x : Q × ℕ) → P.machine.status x.0 ≡ Running → step' x ≡ (d x.1 (P.machine.step x.0), suc x.1)
    goes x e = ap (λ s. next_of P d s x) e

    module _ (steps : ℕ) (seen : IsSeen (P.seen q)) (steady : IsSteady P steps q) where
      follows : (j : ℕ) → j ≤ steps → AreSame P (hidden_in P (at j)) (at j) (at' j).0 × IsSeen (P.seen (at' j).0)
      unfolding iter
      follows zero le = (same-self (hidden_in P q) q, seen)
      follows (suc j) le =
          let before = follows j (omega (arith, le)) in
          let runs = before.0.status ∙ steady.runs j (omega (arith, le)) in
          let e : step' (at' j) ≡ (d (at' j).1 (P.machine.step (at' j).0), suc (at' j).1) = goes (at' j) runs in
          let stepped = steady.overlooks j (omega (arith, le)) (at' j).0 before.1 before.0 in
          let change = disturbs (at' j).1 (P.machine.step (at' j).0) in
          let s = disturbs-same (P.machine.step (at' j).0) (d (at' j).1 (P.machine.step (at' j).0)) change in
          let same = same-stack (hidden_in P (at j)) (P.machine.step (at j)) (P.machine.step (at' j).0) stepped.0 in
          let up = steady.falls_not j (omega (arith, le)) in
          subst (λ x. AreSame P (hidden_in P (P.machine.step (at j))) (P.machine.step (at j)) x.0 × IsSeen (P.seen x.0)) (sym e) (
            same-more (hidden_in P (at j)) (hidden_in P (P.machine.step (at j))) (P.machine.step (at j)) (P.machine.step (at' j).0)
                (d (at' j).1 (P.machine.step (at' j).0)) (λ a f. stays-below P.target _ _ a up f) stepped.0
                (subst (λ z. AreSame P (is_below P.target z) (P.machine.step (at' j).0) (d (at' j).1 (P.machine.step (at' j).0))) same s),
            change.seen stepped.1,
          )

      module _ (c : Code) (live : Frame → ℕ → Bool) (after : State → ℕ → Bool) (i : ℕ) (out : List ℕ) (few : ArePassedFew c.nodes.nodes) where
        begins : (j : ℕ) → j ≤ steps → BeginsInside c i (P.seen (at j)) → BeginsInside c i (P.seen (at' j).0)
        begins j le b = let e = (follows j le).0.look.pc in (omega (arith, b.0, e), omega (arith, b.1, e))

        host : (j : ℕ) → j ≤ steps → IsHostStep c i steps j (P.seen (at j)) → IsHostStep c i steps j (P.seen (at' j).0)
        host j le h = (h.0, h.1, h.2, ap host_by_address (follows j le).0.look.pc ∙ h.3)

        keeps : (moves : Bool) (j : ℕ) → j < steps → KeepsOutside P moves (at j) → KeepsOutside (disturbed P d) moves (at' j)
        unfolding iter
        keeps moves j lt k r o =
            ap (λ w. w r) (follows (suc j) (omega (arith, lt))).0.look.registers ∙ k r o ∙ sym (ap (λ w. w r) (follows j (omega (arith, lt))).0.look.registers)

        level : (j : ℕ) → j ≤ steps → stack_of P.target (P.seen (at' j).0) ≡ stack_of P.target (P.seen (at j))
        level j le = ap (λ w. stack_of P.target (record (P.seen (at j)) { registers = w })) (follows j le).0.look.registers

        lowers : (j : ℕ) → j < steps → DoesNotRise P (at j) → DoesNotRise (disturbed P d) (at' j)
        unfolding iter
        lowers j lt h = let a = level j (omega (arith, lt)) in let b = level (suc j) (omega (arith, lt)) in omega (arith, h, a, b)

        raises : (j : ℕ) → j < steps → DoesNotFall P (at j) → DoesNotFall (disturbed P d) (at' j)
        unfolding iter
        raises j lt h = let a = level j (omega (arith, lt)) in let b = level (suc j) (omega (arith, lt)) in omega (arith, h, a, b)

        meets : (o : Outcome) → Meets P c live after q o out (at steps) → Meets (disturbed P d) c live after (q, n) o out (at' steps)
        meets (Goes t bytes) st =
            let f = follows steps (omega arith) in
            record {
              runs = f.0.status ∙ st.runs;
              wrote = f.0.out ∙ st.wrote;
              state = state-kept P.target c live t (P.seen (at steps)) (P.seen (at' steps).0) (after t) few st.state f.1 f.0.look;
            }
        meets (Ends e) m =
            let f = follows steps (omega arith) in (
              f.0.status ∙ m.0,
              f.0.out ∙ m.1,
              record {
                bytes = λ a lt. f.0.look.bytes a (not-below P.target _ a (inl lt)) ∙ m.2.bytes a lt;
                mark = f.0.look.mark ∙ m.2.mark;
              },
              ended-on P.target c e (P.seen (at steps)) (P.seen (at' steps).0) f.0.look.pc f.0.look.registers m.3,
            )
        meets Undefined m = absurd m

pub steady-leads : {Q : Type 0} (P : Processor Q) → SteadyWaysLead P
steady-leads P d c live after i next out q n disturbs few seen way steady = record {
  steps = way.steps;
  few = way.few;
  inside = λ j lt. ⊎_elim
      (λ b. inl (begins P d disturbs q n way.steps seen steady c live after i out few j (omega (arith, lt)) b))
      (λ h. inr (host P d disturbs q n way.steps seen steady c live after i out few j (omega (arith, lt)) h)) (way.inside j lt);
  outside = λ j lt. ⊎_elim
      (λ k. inl (keeps P d disturbs q n way.steps seen steady c live after i out few (moves_at P.target (slice_get c.nodes.nodes i)) j lt k))
      (λ h. inr (host P d disturbs q n way.steps seen steady c live after i out few j (omega (arith, lt)) h)) (way.outside j lt);
  above = λ j lt. ⊎_elim
      (λ a. inl (touches-same P _ (iter P.machine.step j q) (iter (disturbed P d).machine.step j (q, n)).0 (follows P d disturbs q n way.steps seen steady j (omega (arith, lt))).0.look a))
      (λ h. inr (host P d disturbs q n way.steps seen steady c live after i out few j (omega (arith, lt)) h)) (way.above j lt);
  falls = λ e j lt. ⊎_elim
      (λ k. inl (lowers P d disturbs q n way.steps seen steady c live after i out few j lt k))
      (λ h. inr (host P d disturbs q n way.steps seen steady c live after i out few j (omega (arith, lt)) h)) (way.falls e j lt);
  ahead = λ e j some lt. ⊎_elim
      (λ k. let same = (follows P d disturbs q n way.steps seen steady j (omega (arith, lt))).0.look.pc in inl (omega (arith, k, same)))
      (λ h. inr (host P d disturbs q n way.steps seen steady c live after i out few j (omega (arith, lt)) h)) (way.ahead e j some lt);
  rises = λ e j lt. raises P d disturbs q n way.steps seen steady c live after i out few j lt (way.rises e j lt);
  none = way.none;
  some = way.some;
  way = λ j lt. let e = (follows P d disturbs q n way.steps seen steady j (omega (arith, lt))).0.out in
      ⊎_elim (λ a. inl (e ∙ a)) (λ b. inr (e ∙ b)) (way.way j lt);
  there = meets P d disturbs q n way.steps seen steady c live after i out few next way.there;
}
