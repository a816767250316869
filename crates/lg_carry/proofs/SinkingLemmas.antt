-- The way of a node that lets the stack pointer fall leads there with changes below the stack pointer too: such a change might have come before the node.
use Rattle.std.proofs.Common.{◌≡◌, ℕ, zero, suc, ◌+◌, ◌-◌, ◌^◌, ◌<◌, ◌≤◌, ◌⊎◌, inl, inr, Bool, true, false, List, Option, refl, sym, ap, ◌∙◌, subst, arith, ⊎_elim}
use Rattle.std.specs.Prelude.{◌||◌, if◌then◌else◌, is_some, Some, None, length, slice_get}
use Rattle.std.proofs.lemmas.Bool.{cases_lt}
use Rattle.lg_base.specs.HostNames.{host_by_address}
use Rattle.lg_base.specs.Parts.{heap_base, stack_base}
use Rattle.lg_base.specs.Runs.{Running, Ended, iter}
use Rattle.lg_base.specs.declared.target.Target.{Target}
use Rattle.lg_base.specs.declared.target.Target.TheVariants.{X86_64, Aarch64, Riscv64}
use Rattle.lg_cells.specs.Cells.{within}
use Rattle.lg_carry.specs.Carries.{moves_at, sinks_at, rises_at, written, BeginsInside, IsHostStep, KeepsMemory, KeepsOutside, Meets, Leads}
use Rattle.lg_carry.specs.FinalNodes.{Code}
use Rattle.lg_base.specs.Conventions.{stack_register}
use Rattle.lg_base.specs.declared.host_name.HostName.{HostName}
use Rattle.lg_meaning.specs.Fits.{is_call}
use Rattle.lg_meaning.specs.Reaching.{is_return}
use Rattle.lg_node.specs.Functions.{is_prolog}
use Rattle.lg_op.specs.declared.node.Node.{Node}
use Rattle.lg_op.specs.declared.op.ControlOp.TheVariants as control
use Rattle.lg_op.specs.declared.op.Op.{Op}
use Rattle.lg_op.specs.declared.op.Op.TheVariants as op
use Rattle.lg_op.specs.declared.op.PlainOp.TheVariants as plain
use Rattle.lg_carry.specs.Places.{ArePassedFew}
use Rattle.lg_carry.specs.Processors.{IsSeen, TouchesAbove, Processor, is_below, stack_of, DoesNotRise}
use Rattle.lg_carry.specs.Stands.{Stands}
use Rattle.lg_meaning.specs.States.{Frame, State}
use Rattle.lg_meaning.specs.Steps.{ending_status, Outcome, Goes, Ends, Undefined}
use Rattle.lg_carry.specs.Below.{Disturbs}
use Rattle.lg_carry.specs.Disturbed.{AreSame, hidden_in, IsDisturber, next_of, disturbed, IsSinking, Patches, SinksTo, LiesApart, SinkingWaysLead}
use Rattle.lg_carry.proofs.BelowLemmas.{not-below, state-kept, stands-kept, touches-same}
use Rattle.lg_carry.proofs.OuterLemmas.{ended-on}
use Rattle.lg_carry.proofs.DisturbedLemmas.{same-more, same-self, disturbs-same, same-stack}

below-more : (target : Target) (s t a : ℕ) → s ≤ t → is_below target s a ≡ true → is_below target t a ≡ true
below-more X86_64 s t a h e = grind (arith, h, e)
below-more other s t a h e = grind (arith, h, e)

off-more : (b c : Bool) → (b ≡ true → c ≡ true) → c ≡ false → b ≡ false
off-more true c h e = let z : true ≡ false = sym (h refl) ∙ e in cc
off-more false c h e = refl

-- a node whose way sinks is no return
sink-no-rise : (o : Op) → (is_prolog o || is_call o) ≡ true → is_return o ≡ true → ⊥
sink-no-rise (op.Control control.Ret last) h k = cc
sink-no-rise (op.Plain plain.Ret) h k = cc
sink-no-rise (op.Plain plain.Epilog) h k = cc
sink-no-rise o h k = cc

sinks-no-rise : (o : Option Node) → sinks_at o ≡ true → rises_at o ≡ true → ⊥
sinks-no-rise None h k = cc
sinks-no-rise (Some n) h k = sink-no-rise n.op h k

le-self : (x : ℕ) → x ≤ x
le-self x = omega arith

abbrev none : ℕ → Bool
none a = false

-- bytes of one memory at some addresses, and of another elsewhere
abbrev over : (ℕ → Bool) → (ℕ → Option ℕ) → (ℕ → Option ℕ) → ℕ → Option ℕ
over hidden m n a = if hidden a then m a else n a

over-some : (b : Bool) (x y : Option ℕ) → is_some x ≡ true → is_some y ≡ true → is_some (if b then x else y) ≡ true
over-some true x y h k = h
over-some false x y h k = k

over-small : (b : Bool) (x y : Option ℕ) (v : ℕ) → (x ≡ Some v → v < 256) → (y ≡ Some v → v < 256) → (if b then x else y) ≡ Some v → v < 256
over-small true x y v h k e = h e
over-small false x y v h k e = k e

over-off : (b : Bool) (x y : Option ℕ) → b ≡ false → (if b then x else y) ≡ y
over-off true x y e = cc
over-off false x y e = refl

over-on : (b : Bool) (x y : Option ℕ) → b ≡ true → (if b then x else y) ≡ x
over-on true x y e = refl
over-on false x y e = cc

module _ {Q : Type 0} (P : Processor Q) where
  -- what is asked of what is seen, it keeps
  same-seen : (q r : Q) → AreSame P none q r → IsSeen (P.seen q) → IsSeen (P.seen r)
  same-seen q r x s =
      let k = x.look.mark in
      let low = s.low in
      let high = s.high in
      record {
        words = λ i. subst (λ w. w i < 2 ^ 64) (sym x.look.registers) (s.words i);
        bytes = λ a v f. s.bytes a v (sym (x.look.bytes a refl) ∙ f);
        heap = λ a w. ap is_some (x.look.bytes a refl) ∙ s.heap a w;
        stack = λ a w. ap is_some (x.look.bytes a refl) ∙ s.stack a w;
        low = omega (arith, k, low);
        high = omega (arith, k, high);
      }

  same-back : (q r : Q) → AreSame P none q r → AreSame P none r q
  same-back q r x = record {
    status = sym x.status;
    out = sym x.out;
    look = record {
      pc = sym x.look.pc;
      registers = sym x.look.registers;
      bytes = λ a e. sym (x.look.bytes a e);
      mark = sym x.look.mark;
      flags = sym x.look.flags;
    };
  }

  -- two that are the same as a third but for some bytes, which are the same in both
  alike : (h : ℕ → Bool) (q r t : Q) → AreSame P h q r → AreSame P h q t → ((a : ℕ) → h a ≡ true → (P.seen t).bytes a ≡ (P.seen r).bytes a) → AreSame P none r t
  alike h q r t x y same = record {
    status = y.status ∙ sym x.status;
    out = y.out ∙ sym x.out;
    look = record {
      pc = y.look.pc ∙ sym x.look.pc;
      registers = y.look.registers ∙ sym x.look.registers;
      bytes = λ a e. by a (h a) refl;
      mark = y.look.mark ∙ sym x.look.mark;
      flags = y.look.flags ∙ sym x.look.flags;
    };
  }
    where
      by : (a : ℕ) (b : Bool) → h a ≡ b → (P.seen t).bytes a ≡ (P.seen r).bytes a
      by a true e = same a e
      by a false e = y.look.bytes a e ∙ sym (x.look.bytes a e)

  -- ---- a state with some bytes of another
  module _ (pt : Patches P) (h : ℕ → Bool) (p : Q) (m : ℕ → Option ℕ) where
    abbrev with-bytes : Q
    with-bytes = pt.patch (over h m (P.seen p).bytes) p

    patched : AreSame P h p with-bytes
    patched = let x = pt.is (over h m (P.seen p).bytes) p in record {
      status = x.status;
      out = x.out;
      look = record {
        pc = x.look.pc;
        registers = x.look.registers;
        bytes = λ a e. ap (λ f. f a) (pt.bytes (over h m (P.seen p).bytes) p) ∙ over-off (h a) (m a) ((P.seen p).bytes a) e;
        mark = x.look.mark;
        flags = x.look.flags;
      };
    }

    patched-on : (a : ℕ) → h a ≡ true → (P.seen with-bytes).bytes a ≡ m a
    patched-on a e = ap (λ f. f a) (pt.bytes (over h m (P.seen p).bytes) p) ∙ over-on (h a) (m a) ((P.seen p).bytes a) e

    patched-seen : IsSeen (P.seen p) → ((a v : ℕ) → m a ≡ Some v → v < 256) → ((a : ℕ) → within heap_base 0x400000 a ≡ true → is_some (m a) ≡ true)
        → ((a : ℕ) → within stack_base 0x100000 a ≡ true → is_some (m a) ≡ true) → IsSeen (P.seen with-bytes)
    patched-seen s small heap stack =
        let x = pt.is (over h m (P.seen p).bytes) p in
        let e = pt.bytes (over h m (P.seen p).bytes) p in
        let k = x.look.mark in
        let low = s.low in
        let high = s.high in
        record {
          words = λ r. subst (λ w. w r < 2 ^ 64) (sym x.look.registers) (s.words r);
          bytes = λ a v f. over-small (h a) (m a) ((P.seen p).bytes a) v (small a v) (s.bytes a v) (sym (ap (λ g. g a) e) ∙ f);
          heap = λ a w. ap (λ g. is_some (g a)) e ∙ over-some (h a) (m a) ((P.seen p).bytes a) (heap a w) (s.heap a w);
          stack = λ a w. ap (λ g. is_some (g a)) e ∙ over-some (h a) (m a) ((P.seen p).bytes a) (stack a w) (s.stack a w);
          low = omega (arith, k, low);
          high = omega (arith, k, high);
        }

  -- ---- a way that sinks
  module _ (p : Q) (steps : ℕ) (sinks : IsSinking P steps p) where
    abbrev at : ℕ → Q
    at j = iter P.machine.step j p

    drops : (i k : ℕ) → (i + k < steps) ⊎ (i ≡ 0) → stack_of P.target (P.seen (at (i + k))) ≤ stack_of P.target (P.seen (at k))
    unfolding iter
    drops zero k le =
        let e : k ≡ 0 + k = omega arith in
        subst (λ x. stack_of P.target (P.seen (at x)) ≤ stack_of P.target (P.seen (at k))) e (le-self (stack_of P.target (P.seen (at k))))
    drops (suc i) k le =
        let below : suc i + k < steps = ⊎_elim (λ a. a) (λ z. absurd (omega (arith, z))) le in
        let h = drops i k (inl (omega (arith, below))) in
        let f : stack_of P.target (P.seen (at (suc (i + k)))) ≤ stack_of P.target (P.seen (at (i + k))) = sinks.falls (i + k) (omega (arith, below)) in
        let e : suc (i + k) ≡ suc i + k = omega arith in
        subst (λ x. stack_of P.target (P.seen (at x)) ≤ stack_of P.target (P.seen (at k))) e (omega (arith, h, f))

    lower : (k j : ℕ) → k ≤ j → j < steps → stack_of P.target (P.seen (at j)) ≤ stack_of P.target (P.seen (at k))
    lower k j le few =
        let e : j - k + k ≡ j = omega (arith, le) in
        subst (λ x. stack_of P.target (P.seen (at x)) ≤ stack_of P.target (P.seen (at k))) e (drops (j - k) k (inl (omega (arith, le, few))))

    -- what does not count at the end of some steps is left alone by all of them
    tracked : (j : ℕ) → j < steps → (r : Q) → IsSeen (P.seen r) → AreSame P (hidden_in P (at j)) p r → (k : ℕ) → k ≤ j
        → AreSame P (hidden_in P (at j)) (at k) (iter P.machine.step k r) × IsSeen (P.seen (iter P.machine.step k r))
        × ((a : ℕ) → hidden_in P (at j) a ≡ true → (P.seen (iter P.machine.step k r)).bytes a ≡ (P.seen r).bytes a)
    unfolding iter
    tracked j few r seen same zero le = (same, seen, λ a e. refl)
    tracked j few r seen same (suc k) le =
        let before = tracked j few r seen same k (omega (arith, le)) in
        let l = sinks.leaves k (omega (arith, le, few)) (hidden_in P (at j))
        (λ a e. below-more P.target _ _ a (lower k j (omega (arith, le)) few) e) (iter P.machine.step k r) before.1 before.0 in
        (l.0, l.1, λ a e. l.2 a e ∙ before.2 a e)

  -- ---- the processor with changes
  module _ (d : ℕ → Q → Q) (c : Code) (live : Frame → ℕ → Bool) (after : State → ℕ → Bool) (i : ℕ) (s : State) (S : ℕ → Bool) (next : Outcome) (out : List ℕ)
      (n : ℕ) (q : Q) (pt : Patches P) (disturbs : IsDisturber P d) (few : ArePassedFew c.nodes.nodes)
      (falls-here : sinks_at (slice_get c.nodes.nodes i) ≡ true) (apart : LiesApart c i) (st : Stands P c live s out q S)
      (leads : (p : Q) → Stands P c live s out p S → SinksTo P c live after i next out p) where
    abbrev step' : Q × ℕ → Q × ℕ
    step' = (disturbed P d).machine.step

    abbrev at' : ℕ → Q × ℕ
    at' j = iter step' j (q, n)

    goes : (x : Q × ℕ) → P.machine.status x.0 ≡ Running → step' x ≡ (d x.1 (P.machine.step x.0), suc x.1)
    goes x e = ap (λ z. next_of P d z x) e

    -- where a way has gone on, no other way from a state that is there has ended
    goes-on : (p r : Q) (w : SinksTo P c live after i next out p) (v : SinksTo P c live after i next out r) → v.way.steps < w.way.steps
        → (h : ℕ → Bool) → AreSame P h (iter P.machine.step v.way.steps p) (iter P.machine.step v.way.steps r) → ⊥
    goes-on p r w v lt h same = by next v.way.there
      where
        runs : P.machine.status (iter P.machine.step v.way.steps p) ≡ Running
        runs = w.sinks.runs v.way.steps lt

        not-there : (k : ℕ) → k < length c.nodes.nodes → (P.seen (iter P.machine.step v.way.steps p)).pc ≡ c.place k → ⊥
        not-there k within here =
            let a = apart k within in
            let host : IsHostStep c i w.way.steps v.way.steps (P.seen (iter P.machine.step v.way.steps p)) → ⊥ =
            λ z. no-host (sym (ap host_by_address here ∙ a.1) ∙ z.3) in
            ⊎_elim (λ (b : BeginsInside c i (P.seen (iter P.machine.step v.way.steps p))). ⊎_elim
            (λ (up : c.place i < (P.seen (iter P.machine.step v.way.steps p)).pc). ⊎_elim
            (λ (le : c.place k ≤ c.place i). absurd (omega (arith, le, here, up)))
            (λ (le : c.place (i + 1) ≤ c.place k). let z = b.1 in absurd (omega (arith, le, here, z))) a.0)
            host (w.way.ahead falls-here v.way.steps v.some lt)) host (w.way.inside v.way.steps lt)
          where
            no-host : {name : HostName} → None ≡ Some name → ⊥
            no-host e = cc

        by : (x : Outcome) → Meets P c live after r x out (iter P.machine.step v.way.steps r) → ⊥
        by (Goes t bytes) there = not-there t.at there.state.fits.inside (sym same.look.pc ∙ there.state.here)
        by (Ends e) there = no-end (sym runs ∙ sym same.status ∙ there.0)
          where
            no-end : Running ≡ Ended (ending_status e) → ⊥
            no-end z = cc
        by Undefined there = there

    -- a state at the node from which this many steps lead to the same without changes, and at least one leads on
    record Origin (j : ℕ) : Type 0 where
      pub from : Q
      pub stands : Stands P c live s out from S
      pub low : KeepsMemory (P.seen q) (P.seen from)
      pub same : AreSame P none (iter P.machine.step j from) (at' j).0
      pub seen : IsSeen (P.seen (at' j).0)
      pub more : j < (leads from stands).way.steps

    stepped : (j : ℕ) → (o : Origin j) → AreSame P none (P.machine.step (iter P.machine.step j o.from)) (P.machine.step (at' j).0)
    stepped j o = (leads o.from o.stands).sinks.alike j o.more (at' j).0 o.same

    reaches : (j : ℕ) → (o : Origin j) → at' (suc j) ≡ (d (at' j).1 (P.machine.step (at' j).0), suc (at' j).1)
    unfolding iter
    reaches j o = goes (at' j) (o.same.status ∙ (leads o.from o.stands).sinks.runs j o.more)

    -- after a step and the change after it
    behind-step : (j : ℕ) → (o : Origin j)
        → AreSame P (hidden_in P (iter P.machine.step (suc j) o.from)) (iter P.machine.step (suc j) o.from) (d (at' j).1 (P.machine.step (at' j).0))
    unfolding iter
    behind-step j o =
        let more = stepped j o in
        let v = d (at' j).1 (P.machine.step (at' j).0) in
        let change = disturbs (at' j).1 (P.machine.step (at' j).0) in
        let h = hidden_in P (iter P.machine.step (suc j) o.from) in
        let level = same-stack P none (P.machine.step (iter P.machine.step j o.from)) (P.machine.step (at' j).0) more in
        same-more P none h (P.machine.step (iter P.machine.step j o.from)) (P.machine.step (at' j).0) v (λ a e. refl) more
        (subst (λ z. AreSame P (is_below P.target z) (P.machine.step (at' j).0) v) level (disturbs-same P (P.machine.step (at' j).0) v change))

    after-seen : (j : ℕ) → (o : Origin j) → IsSeen (P.seen (iter P.machine.step (suc j) o.from))
        → IsSeen (P.seen (d (at' j).1 (P.machine.step (at' j).0)))
    unfolding iter
    after-seen j o seen = (disturbs (at' j).1 (P.machine.step (at' j).0)).seen
        (same-seen (P.machine.step (iter P.machine.step j o.from)) (P.machine.step (at' j).0) (stepped j o) seen)

    onward : (j : ℕ) → (o : Origin j) → suc j < (leads o.from o.stands).way.steps → Origin (suc j)
    unfolding iter
    onward j o lt =
        let p = o.from in
        let w = leads p o.stands in
        let steps = w.way.steps in
        let sinks = w.sinks in
        let v = d (at' j).1 (P.machine.step (at' j).0) in
        let h = hidden_in P (iter P.machine.step (suc j) p) in
        let big : AreSame P h (iter P.machine.step (suc j) p) v = behind-step j o in
        let seen-here = same-seen (at' j).0 (iter P.machine.step j p) (same-back (iter P.machine.step j p) (at' j).0 o.same) o.seen in
        let step-seen = (sinks.leaves j (omega (arith, lt)) none (λ a e. cc) (iter P.machine.step j p) seen-here (same-self P none (iter P.machine.step j p))).1 in
        let v-seen = after-seen j o step-seen in
        let p' = with-bytes pt h p (P.seen v).bytes in
        let close = patched pt h p (P.seen v).bytes in
        let p-seen = patched-seen pt h p (P.seen v).bytes o.stands.state.seen v-seen.bytes v-seen.heap v-seen.stack in
        let deep = lower p steps sinks 0 (suc j) (omega arith) lt in
        let kept : Disturbs P p p' = record {
          status = close.status;
          out = close.out;
          seen = λ z. p-seen;
          look = record {
            pc = close.look.pc;
            registers = close.look.registers;
            bytes = λ a e. close.look.bytes a (off-more _ _ (λ t. below-more P.target _ _ a deep t) e);
            mark = close.look.mark;
            flags = close.look.flags;
          };
        } in
        let stands' = stands-kept P c live s out p p' S few o.stands kept in
        let w' = leads p' stands' in
        let t = tracked p steps sinks (suc j) lt p' p-seen close (suc j) (omega arith) in
        let e = reaches j o in
        record {
          from = p';
          stands = stands';
          low = record {
            bytes = λ a lt. close.look.bytes a (not-below P.target _ a (inl lt)) ∙ o.low.bytes a lt;
            mark = close.look.mark ∙ o.low.mark;
          };
          same = subst (λ x. AreSame P none (iter P.machine.step (suc j) p') x.0) (sym e)
              (alike h (iter P.machine.step (suc j) p) (iter P.machine.step (suc j) p') v t.0 big
              (λ a on. sym (t.2 a on ∙ patched-on pt h p (P.seen v).bytes a on)));
          seen = subst (λ x. IsSeen (P.seen x.0)) (sym e) v-seen;
          more = ⊎_elim {C = suc j < w'.way.steps} (λ (more : suc j < w'.way.steps). more)
              (λ (le : w'.way.steps ≤ suc j). absurd (goes-on p p' w w' (omega (arith, le, lt)) h
              (tracked p steps sinks (suc j) lt p' p-seen close w'.way.steps le).0)) (cases_lt (suc j) w'.way.steps);
        }

    -- ---- the node
    abbrev moves : Bool
    moves = moves_at P.target (slice_get c.nodes.nodes i)

    -- what is said of a step of the way, or it is a host function's
    OrHost : (j : ℕ) → (o : Origin j) → Type 0 → Type 0
    OrHost j o T = T ⊎ IsHostStep c i (leads o.from o.stands).way.steps j (P.seen (at' j).0)

    or-host : (j : ℕ) (o : Origin j) (T U : Type 0) → (T → U) → T ⊎ IsHostStep c i (leads o.from o.stands).way.steps j (P.seen (iter P.machine.step j o.from)) → OrHost j o U
    unfolding OrHost
    or-host j o T U f (inl t) = inl (f t)
    or-host j o T U f (inr h) = inr (h.0, h.1, h.2, ap host_by_address o.same.look.pc ∙ h.3)

    begins : (j : ℕ) (o : Origin j) → OrHost j o (BeginsInside c i (P.seen (at' j).0))
    begins j o = or-host j o (BeginsInside c i (P.seen (iter P.machine.step j o.from))) (BeginsInside c i (P.seen (at' j).0))
        (λ b. let e = o.same.look.pc in (omega (arith, b.0, e), omega (arith, b.1, e))) ((leads o.from o.stands).way.inside j o.more)

    keeps : (j : ℕ) (o : Origin j) → OrHost j o (KeepsOutside (disturbed P d) moves (at' j))
    unfolding iter
    keeps j o = or-host j o (KeepsOutside P moves (iter P.machine.step j o.from)) (KeepsOutside (disturbed P d) moves (at' j)) (by j o) ((leads o.from o.stands).way.outside j o.more)
      where
        by : (j : ℕ) (o : Origin j) → KeepsOutside P moves (iter P.machine.step j o.from) → KeepsOutside (disturbed P d) moves (at' j)
        by j o kept r out-of =
            let change = disturbs (at' j).1 (P.machine.step (at' j).0) in
            let e = reaches j o in
            ap (λ x. (P.seen x.0).registers r) e ∙ ap (λ w. w r) change.look.registers ∙ ap (λ w. w r) (stepped j o).look.registers
            ∙ kept r out-of ∙ sym (ap (λ w. w r) o.same.look.registers)

    touches : (j : ℕ) (o : Origin j) → OrHost j o (TouchesAbove (disturbed P d) (at' j))
    touches j o = or-host j o (TouchesAbove P (iter P.machine.step j o.from)) (TouchesAbove (disturbed P d) (at' j))
        (touches-same P none (iter P.machine.step j o.from) (at' j).0 o.same.look) ((leads o.from o.stands).way.above j o.more)

    lowers : (j : ℕ) (o : Origin j) → OrHost j o (DoesNotRise (disturbed P d) (at' j))
    unfolding iter
    lowers j o = or-host j o (DoesNotRise P (iter P.machine.step j o.from)) (DoesNotRise (disturbed P d) (at' j)) (by j o) ((leads o.from o.stands).way.falls falls-here j o.more)
      where
        by : (j : ℕ) (o : Origin j) → DoesNotRise P (iter P.machine.step j o.from) → DoesNotRise (disturbed P d) (at' j)
        by j o h =
            let change = disturbs (at' j).1 (P.machine.step (at' j).0) in
            let e : stack_of P.target (P.seen (at' (suc j)).0) ≡ stack_of P.target (P.seen (d (at' j).1 (P.machine.step (at' j).0))) = ap (λ x. stack_of P.target (P.seen x.0)) (reaches j o) in
            let changed : stack_of P.target (P.seen (d (at' j).1 (P.machine.step (at' j).0))) ≡ stack_of P.target (P.seen (P.machine.step (at' j).0)) = ap (λ w. w (stack_register P.target)) change.look.registers in
            let now = same-stack P none (P.machine.step (iter P.machine.step j o.from)) (P.machine.step (at' j).0) (stepped j o) in
            let before = same-stack P none (iter P.machine.step j o.from) (at' j).0 o.same in
            omega (arith, h, e, changed, now, before)

    leaves-front : (j : ℕ) (o : Origin j) → OrHost j o (0 < j → c.place i < (P.seen (at' j).0).pc)
    unfolding OrHost
    leaves-front j o = by (cases_lt 0 j)
      where
        by : (0 < j) ⊎ (j ≤ 0) → OrHost j o (0 < j → c.place i < (P.seen (at' j).0).pc)
        by (inl some) = or-host j o (c.place i < (P.seen (iter P.machine.step j o.from)).pc) (0 < j → c.place i < (P.seen (at' j).0).pc)
            (λ a z. let e = o.same.look.pc in omega (arith, a, e)) ((leads o.from o.stands).way.ahead falls-here j some o.more)
        by (inr le) = inl (λ z. absurd (omega (arith, z, le)))

    wrote : (j : ℕ) → (o : Origin j) → (P.machine.out (at' j).0 ≡ out) ⊎ (P.machine.out (at' j).0 ≡ written next out)
    wrote j o = ⊎_elim (λ a. inl (o.same.out ∙ a)) (λ b. inr (o.same.out ∙ b)) ((leads o.from o.stands).way.way j o.more)

    -- what is known of each step of the front, which is no host function's
    record IsQuiet (k : ℕ) : Type 0 where
      pub inside : BeginsInside c i (P.seen (at' k).0)
      pub outside : KeepsOutside (disturbed P d) moves (at' k)
      pub above : TouchesAbove (disturbed P d) (at' k)
      pub falls : DoesNotRise (disturbed P d) (at' k)
      pub ahead : 0 < k → c.place i < (P.seen (at' k).0).pc
      pub wrote : (P.machine.out (at' k).0 ≡ out) ⊎ (P.machine.out (at' k).0 ≡ written next out)

    quiet : (j : ℕ) (o : Origin j) → suc j < (leads o.from o.stands).way.steps → IsQuiet j
    unfolding OrHost
    quiet j o lt =
        let no : (T : Type 0) → IsHostStep c i (leads o.from o.stands).way.steps j (P.seen (at' j).0) → T = λ T h. let e = h.1 in absurd (omega (arith, e, lt)) in
        record {
          inside = ⊎_elim (λ x. x) (no (BeginsInside c i (P.seen (at' j).0))) (begins j o);
          outside = ⊎_elim (λ x. x) (no (KeepsOutside (disturbed P d) moves (at' j))) (keeps j o);
          above = ⊎_elim (λ x. x) (no (TouchesAbove (disturbed P d) (at' j))) (touches j o);
          falls = ⊎_elim (λ x. x) (no (DoesNotRise (disturbed P d) (at' j))) (lowers j o);
          ahead = ⊎_elim (λ x. x) (no (0 < j → c.place i < (P.seen (at' j).0).pc)) (leaves-front j o);
          wrote = wrote j o;
        }

    meets : (p : Q) → KeepsMemory (P.seen q) (P.seen p) → (x : Outcome) (u v : Q) → AreSame P (hidden_in P u) u v → (IsSeen (P.seen u) → IsSeen (P.seen v)) → Meets P c live after p x out u → (j : ℕ)
        → Meets (disturbed P d) c live after (q, n) x out (v, j)
    meets p low (Goes t bytes) u v f seen there j = record {
      runs = f.status ∙ there.runs;
      wrote = f.out ∙ there.wrote;
      state = state-kept P.target c live t (P.seen u) (P.seen v) (after t) few there.state (seen there.state.seen) f.look;
    }
    meets p low (Ends e) u v f seen there j = (
      f.status ∙ there.0,
      f.out ∙ there.1,
      record {
        bytes = λ a lt. f.look.bytes a (not-below P.target _ a (inl lt)) ∙ there.2.bytes a lt ∙ low.bytes a lt;
        mark = f.look.mark ∙ there.2.mark ∙ low.mark;
      },
      ended-on P.target c e (P.seen u) (P.seen v) f.look.pc f.look.registers there.3,
    )
    meets p low Undefined u v f seen there j = absurd there

    arrives : (j : ℕ) (o : Origin j) → (leads o.from o.stands).way.steps ≡ suc j → Meets (disturbed P d) c live after (q, n) next out (at' (suc j))
    unfolding iter
    arrives j o last =
        subst (Meets (disturbed P d) c live after (q, n) next out) (sym (reaches j o))
        (meets o.from o.low next (iter P.machine.step (suc j) o.from) (d (at' j).1 (P.machine.step (at' j).0)) (behind-step j o) (after-seen j o)
        (subst (λ x. Meets P c live after o.from next out (iter P.machine.step x o.from)) last (leads o.from o.stands).way.there) (suc (at' j).1))

    -- the last step, after a front of quiet ones
    module _ (j : ℕ) (o : Origin j) (last : (leads o.from o.stands).way.steps ≡ suc j) (front : (k : ℕ) → k < j → IsQuiet k) where
      each : (T : ℕ → Type 0) → ((k : ℕ) → k < j → T k) → OrHost j o (T j) → (k : ℕ) → k < suc j → T k ⊎ IsHostStep c i (suc j) k (P.seen (at' k).0)
      unfolding OrHost
      each T before here k lt = ⊎_elim
          (λ (l : k < j). inl (before k l))
          (λ (g : j ≤ k). let e : j ≡ k = omega (arith, lt, g) in subst (λ x. T x ⊎ IsHostStep c i (suc j) x (P.seen (at' x).0)) e
          (subst (λ x. T j ⊎ IsHostStep c i x j (P.seen (at' j).0)) last here)) (cases_lt k j)

      done : Leads (disturbed P d) c live after i next out (q, n)
      done =
          let most = (leads o.from o.stands).way.few in
          record {
            steps = suc j;
            few = omega (arith, most, last);
            inside = each (λ k. BeginsInside c i (P.seen (at' k).0)) (λ k l. (front k l).inside) (begins j o);
            outside = each (λ k. KeepsOutside (disturbed P d) moves (at' k)) (λ k l. (front k l).outside) (keeps j o);
            above = each (λ k. TouchesAbove (disturbed P d) (at' k)) (λ k l. (front k l).above) (touches j o);
            falls = λ e. each (λ k. DoesNotRise (disturbed P d) (at' k)) (λ k l. (front k l).falls) (lowers j o);
            ahead = λ e k some lt. ⊎_elim (λ f. inl (f some)) (λ h. inr h)
                (each (λ k. 0 < k → c.place i < (P.seen (at' k).0).pc) (λ k l. (front k l).ahead) (leaves-front j o) k lt);
            rises = λ e. absurd (sinks-no-rise (slice_get c.nodes.nodes i) falls-here e);
            none = λ e. absurd (omega (arith, e));
            some = λ e. omega arith;
            way = λ k lt. ⊎_elim
                (λ (l : k < j). (front k l).wrote)
                (λ (g : j ≤ k). let e : j ≡ k = omega (arith, lt, g) in
                subst (λ x. (P.machine.out (at' x).0 ≡ out) ⊎ (P.machine.out (at' x).0 ≡ written next out)) e (wrote j o)) (cases_lt k j);
            there = arrives j o last;
          }

    -- from a state to which this many steps lead, the last one is found
    front-more : (j : ℕ) (o : Origin j) → ((k : ℕ) → k < j → IsQuiet k) → suc j < (leads o.from o.stands).way.steps → (k : ℕ) → k < suc j → IsQuiet k
    front-more j o front lt k l = ⊎_elim
        (λ (b : k < j). front k b)
        (λ (g : j ≤ k). let e : j ≡ k = omega (arith, l, g) in subst IsQuiet e (quiet j o lt)) (cases_lt k j)

    search : (fuel j : ℕ) → 64 ≤ j + fuel → Origin j → ((k : ℕ) → k < j → IsQuiet k) → Leads (disturbed P d) c live after i next out (q, n)
    search zero j enough o front = ⊎_elim
        (λ (lt : suc j < (leads o.from o.stands).way.steps). let most = (leads o.from o.stands).way.few in absurd (omega (arith, most, lt, enough)))
        (λ (le : (leads o.from o.stands).way.steps ≤ suc j). let m = o.more in done j o (omega (arith, le, m)) front) (cases_lt (suc j) (leads o.from o.stands).way.steps)
    search (suc fuel) j enough o front = ⊎_elim
        (λ (lt : suc j < (leads o.from o.stands).way.steps). search fuel (suc j) (omega (arith, enough)) (onward j o lt) (front-more j o front lt))
        (λ (le : (leads o.from o.stands).way.steps ≤ suc j). let m = o.more in done j o (omega (arith, le, m)) front) (cases_lt (suc j) (leads o.from o.stands).way.steps)

    sinking : Leads (disturbed P d) c live after i next out (q, n)
    unfolding iter
    sinking = search 64 0 (omega arith)
        record { from = q; stands = st; low = record { bytes = λ a lt. refl; mark = refl }; same = same-self P none q; seen = st.state.seen; more = (leads q st).some }
        (λ k lt. absurd (omega (arith, lt)))

pub sinking-leads : {Q : Type 0} (P : Processor Q) → SinkingWaysLead P
sinking-leads P d c live after i s S next out n q pt disturbs few falls-here apart st leads = sinking P d c live after i s S next out n q pt disturbs few falls-here apart st leads
