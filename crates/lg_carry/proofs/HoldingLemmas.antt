-- Each node that is carried withstands changes below the stack pointer.
use Rattle.std.proofs.Common.{◌≡◌, ◌≢◌, ℕ, zero, suc, ◌+◌, ◌<◌, ◌≤◌, ◌⊎◌, inl, inr, ⊎_elim, Bool, true, false, List, Option, None, Some, refl, sym, ap, ◌∙◌, subst, arith}
use Rattle.std.proofs.lemmas.Bool.{cases_lt}
use Rattle.std.specs.Prelude.{◌&&◌, ◌||◌, slice_get}
use Rattle.lg_base.specs.Layout.{code_base, most_code}
use Rattle.lg_base.specs.Runs.{Status, Running, Ended, Bad, IsMachine, iter}
use Rattle.lg_op.specs.declared.node.Node.{Node}
use Rattle.lg_op.specs.declared.op.ControlOp.TheVariants as control
use Rattle.lg_op.specs.declared.op.Op.{Op}
use Rattle.lg_op.specs.declared.op.Op.TheVariants as op
use Rattle.lg_node.specs.Functions.{is_prolog, is_prolog_at}
use Rattle.lg_meaning.specs.Fits.{is_call}
use Rattle.lg_meaning.specs.Reaching.{is_return}
use Rattle.lg_meaning.specs.States.{Frame, State}
use Rattle.lg_meaning.specs.Steps.{Outcome}
use Rattle.lg_meaning.specs.Texts.{step}
use Rattle.lg_carry.specs.Carries.{leaps, leaps_at, calls_at, moves_at, sinks_at, rises_at, BeginsInside, IsHostStep, KeepsOutside, Meets, Leads}
use Rattle.lg_carry.specs.Disturbed.{hidden_in, IsSteady, IsSinking}
use Rattle.lg_carry.specs.FinalNodes.{Code}
use Rattle.lg_carry.specs.Outside.{calls_move, moves_stack}
use Rattle.lg_carry.specs.Processors.{Processor, DoesNotFall}
use Rattle.lg_carry.specs.Stands.{Stands}
use Rattle.lg_carry.specs.Undisturbed.{HoldsUp, IsInPart, IsBlind, CarriedNodesWithstand}
use Rattle.lg_base.specs.declared.target.Target.{Target}
use Rattle.lg_carry.proofs.TurnLemmas.{keeps-stack}

off-more : (b c : Bool) → (b ≡ true → c ≡ true) → c ≡ false → b ≡ false
off-more true c h e = let z : true ≡ false = sym (h refl) ∙ e in cc
off-more false c h e = refl

-- ---- nodes
-- a node that neither sinks nor rises moves no stack pointer, and calls none
never : (target : Target) (o : Op) → (is_prolog o || is_call o) ≡ false → is_return o ≡ false → moves_stack target o ≡ false
never target o h k = by (is_prolog o) (is_call o) (is_return o) (calls_move target) h k
  where
    by : (p c r m : Bool) → (p || c) ≡ false → r ≡ false → (p || (r || (c && m))) ≡ false
    by true c r m h k = cc
    by false true r m h k = cc
    by false false true m h k = cc
    by false false false m h k = refl

level : (target : Target) (o : Option Node) → sinks_at o ≡ false → rises_at o ≡ false → moves_at target o ≡ false
level target None h k = refl
level target (Some n) h k = never target n.op h k

no-call : (o : Option Node) → sinks_at o ≡ false → calls_at o ≡ true → ⊥
no-call None h k = cc
no-call (Some n) h k = by (is_prolog n.op) (is_call n.op) h k
  where
    by : (p c : Bool) → (p || c) ≡ false → c ≡ true → ⊥
    by true c h k = cc
    by false true h k = cc
    by false false h k = cc

call-leaps : (o : Op) → is_call o ≡ true → leaps o ≡ true
call-leaps (op.Control control.Call last) h = refl
call-leaps (op.Control control.Finish last) h = refl
call-leaps o h = cc

-- a node that sinks is a `prolog` or transfers control
sinks-or-leaps : (o : Option Node) → sinks_at o ≡ true → (is_prolog_at o ≡ true) ⊎ (leaps_at o ≡ true)
sinks-or-leaps None h = cc
sinks-or-leaps (Some n) h = by (is_prolog n.op) refl
  where
    second : (p c : Bool) → (p || c) ≡ true → p ≡ false → c ≡ true
    second true c h k = cc
    second false c h k = h

    by : (b : Bool) → is_prolog n.op ≡ b → (is_prolog n.op ≡ true) ⊎ (leaps n.op ≡ true)
    by true e = inl e
    by false e = inr (call-leaps n.op (second (is_prolog n.op) (is_call n.op) h e))

-- ---- ways
module _ {Q : Type 0} (P : Processor Q) (c : Code) (live : Frame → ℕ → Bool) (after : State → ℕ → Bool) (i : ℕ) (next : Outcome) (out : List ℕ) (q : Q) where
  abbrev at : ℕ → Q
  at j = iter P.machine.step j q

  -- a way all of whose steps run
  record Running-way : Type 0 where
    pub way : Leads P c live after i next out q
    pub runs : (j : ℕ) → j < way.steps → P.machine.status (at j) ≡ Running

  -- a way whose last step does nothing is one without it
  shorter : (w : Leads P c live after i next out q) (m : ℕ) → w.steps ≡ suc m → 0 < m → at (suc m) ≡ at m → (v : Leads P c live after i next out q) × (v.steps ≡ m)
  shorter w m e some same = (
    record {
      steps = m;
      few = let f = w.few in omega (arith, f, e);
      inside = λ j lt. ⊎_elim inl (host j lt) (w.inside j (omega (arith, lt, e)));
      outside = λ j lt. ⊎_elim inl (host j lt) (w.outside j (omega (arith, lt, e)));
      above = λ j lt. ⊎_elim inl (host j lt) (w.above j (omega (arith, lt, e)));
      falls = λ s j lt. ⊎_elim inl (host j lt) (w.falls s j (omega (arith, lt, e)));
      ahead = λ s j z lt. ⊎_elim inl (host j lt) (w.ahead s j z (omega (arith, lt, e)));
      rises = λ r j lt. w.rises r j (omega (arith, lt, e));
      none = λ z. absurd (omega (arith, z, some));
      some = λ l. some;
      way = λ j lt. w.way j (omega (arith, lt, e));
      there = subst (Meets P c live after q next out) (ap at e ∙ same) w.there;
    },
    refl,
  )
    where
      host : {T : Type 0} (j : ℕ) → j < m → IsHostStep c i w.steps j (P.seen (at j)) → T
      host j lt h = let z = h.1 in absurd (omega (arith, z, lt, e))

  module _ (machine : IsMachine P.machine) (start : P.machine.status q ≡ Running) where
    -- a run that goes on has gone on before
    before : (m : ℕ) → P.machine.status (at m) ≡ Running → (j : ℕ) → j ≤ m → P.machine.status (at j) ≡ Running
    unfolding iter
    before zero e j le = let z : j ≡ 0 = omega (arith, le) in subst (λ k. P.machine.status (at k) ≡ Running) (sym z) e
    before (suc m) e j le = ⊎_elim
        (λ (l : j < suc m). before m (goes (P.machine.status (at m)) refl) j (omega (arith, l)))
        (λ (g : suc m ≤ j). let z : suc m ≡ j = omega (arith, le, g) in subst (λ k. P.machine.status (at k) ≡ Running) z e) (cases_lt j (suc m))
      where
        stays : P.machine.status (at m) ≢ Running → P.machine.status (at m) ≡ Running
        stays h = subst (λ x. P.machine.status x ≡ Running) (machine.stays (at m) h) e

        goes : (s : Status) → P.machine.status (at m) ≡ s → P.machine.status (at m) ≡ Running
        goes Running h = h
        goes (Ended n) h = stays (λ k. let z : Ended n ≡ Running = sym h ∙ k in cc)
        goes Bad h = stays (λ k. let z : Bad ≡ Running = sym h ∙ k in cc)

    -- a way is cut where it runs no more
    cut : (fuel : ℕ) (w : Leads P c live after i next out q) → w.steps ≤ suc fuel → ((v : Leads P c live after i next out q) → v.steps ≤ fuel → Running-way) → Running-way
    unfolding iter
    cut fuel w le more = by w.steps refl
      where
        by : (n : ℕ) → w.steps ≡ n → Running-way
        by zero e = record { way = w; runs = λ j lt. absurd (omega (arith, lt, e)) }
        by (suc m) e = last (P.machine.status (at m)) refl
          where
            less : P.machine.status (at m) ≢ Running → Running-way
            less h = ⊎_elim
                (λ (some : 0 < m). let v = shorter w m e some (machine.stays (at m) h) in more v.0 (omega (arith, le, e, v.1)))
                (λ (none : m ≤ 0). let z : m ≡ 0 = omega (arith, none) in absurd (h (ap (λ k. P.machine.status (at k)) z ∙ start))) (cases_lt 0 m)

            last : (s : Status) → P.machine.status (at m) ≡ s → Running-way
            last Running h = record { way = w; runs = λ j lt. before m h j (omega (arith, lt, e)) }
            last (Ended n) h = less (λ k. let z : Ended n ≡ Running = sym h ∙ k in cc)
            last Bad h = less (λ k. let z : Bad ≡ Running = sym h ∙ k in cc)

    running : (fuel : ℕ) (w : Leads P c live after i next out q) → w.steps ≤ fuel → Running-way
    running zero w le = record { way = w; runs = λ j lt. absurd (omega (arith, lt, le)) }
    running (suc fuel) w le = cut fuel w le (λ v l. running fuel v l)

    -- ---- how it turns
    module _ (blind : IsBlind P) (low : code_base ≤ c.place i) (high : c.place (i + 1) ≤ code_base + most_code) where
      in-part : (j : ℕ) → BeginsInside c i (P.seen (at j)) → IsInPart (P.seen (at j))
      in-part j b = (omega (arith, low, b.0), omega (arith, high, b.1))

      steady : (r : Running-way) → sinks_at (slice_get c.nodes.nodes i) ≡ false → IsSteady P r.way.steps q
      unfolding iter
      steady r off = record {
        runs = r.runs;
        overlooks = λ j lt. blind.overlooks (at j) (in-part j (⊎_elim (λ b. b) (host j) (r.way.inside j lt))) (⊎_elim (λ a. a) (host j) (r.way.above j lt));
        falls_not = falls-not (rises_at (slice_get c.nodes.nodes i)) refl;
      }
        where
          host : {T : Type 0} (j : ℕ) → IsHostStep c i r.way.steps j (P.seen (at j)) → T
          host j h = absurd (no-call (slice_get c.nodes.nodes i) off h.0)

          falls-not : (b : Bool) → rises_at (slice_get c.nodes.nodes i) ≡ b → (j : ℕ) → j < r.way.steps → DoesNotFall P (at j)
          falls-not true e j lt = r.way.rises e j lt
          falls-not false e j lt =
              let k = keeps-stack P (at j) (subst (λ b. KeepsOutside P b (at j)) (level P.target (slice_get c.nodes.nodes i) off e) (⊎_elim (λ x. x) (host j) (r.way.outside j lt))) in
              omega (arith, k)

      sinks : (r : Running-way) → sinks_at (slice_get c.nodes.nodes i) ≡ true → IsSinking P r.way.steps q
      sinks r on = record {
        runs = r.runs;
        alike = λ j lt. blind.alike (at j);
        leaves = λ j lt hidden more. blind.leaves hidden (at j) (in-part j (⊎_elim (λ b. b) (host j lt) (r.way.inside j (omega (arith, lt)))))
            (λ a from to. off-more (hidden a) (hidden_in P (at j) a) (more a) ((⊎_elim (λ x. x) (host j lt) (r.way.above j (omega (arith, lt)))) a from to));
        falls = λ j lt. ⊎_elim (λ x. x) (host j lt) (r.way.falls on j (omega (arith, lt)));
      }
        where
          host : {T : Type 0} (j : ℕ) → j + 1 < r.way.steps → IsHostStep c i r.way.steps j (P.seen (at j)) → T
          host j lt h = let z = h.1 in absurd (omega (arith, z, lt))

-- ---- nodes
pub carried-withstand : {Q : Type 0} (P : Processor Q) → CarriedNodesWithstand P
carried-withstand P c before i blind machine placed w = record {
  order = w.order;
  short = w.short;
  apart = placed.apart;
  holds = λ s out q at st. ⊎_elim (λ u. inl u) (λ l. inr (by s out q at st l (sinks_at (slice_get c.nodes.nodes i)) refl)) (w.carries s out q at st);
}
  where
    next : State → Outcome
    next s = step c.nodes c.shape c.addresses s

    live : Frame → ℕ → Bool
    live f = before f.back

    after : State → ℕ → Bool
    after t = before t.at

    way : (s : State) (out : List ℕ) (p : _) → Stands P c live s out p (before i) → Leads P c live after i (next s) out p → Running-way P c live after i (next s) out p
    way s out p st l = running P c live after i (next s) out p machine st.runs l.steps l (omega arith)

    some : (s : State) (out : List ℕ) (p : _) (v : Leads P c live after i (next s) out p) → sinks_at (slice_get c.nodes.nodes i) ≡ true → 0 < v.steps
    some s out p v on = ⊎_elim
        (λ prolog. let b = placed.begins prolog in ⊎_elim (λ (lt : 0 < v.steps). lt) (λ (le : v.steps ≤ 0). let n = v.none (omega (arith, le)) in absurd (omega (arith, n, b))) (cases_lt 0 v.steps))
        v.some (sinks-or-leaps (slice_get c.nodes.nodes i) on)

    by : (s : State) (out : List ℕ) (q : _) → s.at ≡ i → Stands P c live s out q (before i) → Leads P c live after i (next s) out q → (b : Bool) → sinks_at (slice_get c.nodes.nodes i) ≡ b
        → HoldsUp P c live after i s (before i) out q
    by s out q at st l false e = let r = way s out q st l in inl (r.way, steady P c live after i (next s) out q machine st.runs blind placed.low placed.high r e)
    by s out q at st l true e = inr (
      e,
      λ p st'. ⊎_elim
          (λ u. absurd (subst (λ o. Meets P c live after q o out (iter P.machine.step l.steps q)) u l.there))
          (λ (v : Leads P c live after i (next s) out p). let r = way s out p st' v in record {
            way = r.way;
            some = some s out p r.way e;
            sinks = sinks P c live after i (next s) out p machine st'.runs blind placed.low placed.high r e;
          })
          (w.carries s out p at st'),
    )
