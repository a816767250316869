-- Runs of nodes whose jumps were threaded.
use Rattle.std.proofs.Common.{◌≡◌, ◌≢◌, ℕ, suc, ◌<◌, ◌==◌, ◌&&◌, ◌⊎◌, inl, inr, Bool, true, false, Option, Some, None, List, [], refl, sym, ap, ◌∙◌, subst, arith, length, add-one}
use Rattle.std.specs.Prelude.{if◌then◌else◌, slice_get}
use Rattle.std.proofs.lemmas.Bool.Decides.{eqb_tells}
use Rattle.std.proofs.lemmas.Option.{slice_get-get_or}
use Rattle.std.proofs.lemmas.Bool.{true≢false, false≢true, and_parts, eqb-true}
use Rattle.lg_base.specs.Runs.{Status, Running, Ended, Bad}
use Rattle.lg_op.specs.declared.node.Node.{Node}
use Rattle.lg_op.specs.declared.op.Op.{Op}
use Rattle.lg_op.specs.declared.op.Op.TheVariants as op
use Rattle.lg_op.specs.declared.op.ControlOp.TheVariants as control
use Rattle.lg_op.specs.declared.op.PlainOp.TheVariants as plain
use Rattle.lg_op.specs.declared.op.LastOperand.TheVariants as last_operand
use Rattle.lg_carry.specs.Carries.{leaps, leaps_at}
use Rattle.lg_carry.proofs.FallLemmas.{nodes-fall}
use Rattle.lg_meaning.specs.States.{State}
use Rattle.lg_meaning.specs.Steps.{ending_status, Outcome, Goes, Ends, Undefined, Text, operand_at, node_of_label, to, node_step}
use Rattle.lg_node.specs.Nodes.{LabelledNodes}
use Rattle.lg_node.specs.Shapes.{TextShape}
use Rattle.lg_meaning.specs.Texts.{text, step_at, step}
use Rattle.lg_meaning.specs.Means.{Run, run_at, behind, run_step, machine, mean_from}
use Rattle.lg_meaning.proofs.MeanLemmas.{means_are_machines}
use Rattle.lg_opt.specs.Follows.{LooksAlike, IsLoudAt}
use Rattle.lg_opt.specs.Drops.{Threading, Threads}
use Rattle.lg_opt.proofs.ThreadLemmas.{threading-turns}
use Rattle.lg_opt.proofs.TimeLemmas.{went-on}
use Rattle.lg_opt.specs.Rewritten.{memory_in, memory_of}
use Rattle.lg_temp.proofs.Steps.{iter-suc}
use Rattle.lg_opt.specs.Renumbered.{over, Alike, Meets}
use Rattle.lg_opt.specs.Paired.{Pair, old_step, new_step, moves_made, RestsAt, AreStepped}
use Rattle.lg_opt.specs.Hops.{is_jump, is_jump_at, jump_at, hop_of, hop}
use Rattle.lg_opt.specs.Threads.{Threaded, Lands, IsThreadedBy, moves}
use Rattle.lg_opt.proofs.StepLemmas.{steps-meet}
use Rattle.lg_opt.proofs.RunLemmas.{RunsAlike, goes, moved-on, rested, runs-alike, runs-follow, runs-look}

-- the step of a jump
jump-goes : (t : Text) (n : Node) (s : State) (o : Op) → is_jump o ≡ true → node_step t n o s ≡ Goes (to s (node_of_label t.places (operand_at n 0))) []
jump-goes t n s (op.Control control.Jmp last_operand.Immediate) e = refl
jump-goes t n s o e = cc

jump-leaps : (o : Op) → is_jump o ≡ true → leaps o ≡ true
jump-leaps (op.Control control.Jmp last_operand.Immediate) e = refl
jump-leaps o e = cc

-- the step of a text at a jump
pub old-jump : (l : LabelledNodes) (shape : TextShape) (addresses : List ℕ) (s : State) → jump_at l s.at ≡ true → step l shape addresses s ≡ Goes (to s (hop l s.at)) []
old-jump l shape addresses s e = by (slice_get l.nodes s.at) e
  where
    by : (o : Option Node) → is_jump_at o ≡ true → step_at (text l shape addresses) o s ≡ Goes (to s (hop_of l.places s.at o)) []
    by None e = cc
    by (Some n) e = jump-goes (text l shape addresses) n s n.op e ∙ ap (λ b. Goes (to s (if b then node_of_label l.places (operand_at n 0) else s.at)) []) (sym e)

module _ (p : Pair) (h : Threaded) (th : IsThreadedBy p h) where
  abbrev t : Text
  t = text p.old p.old_shape p.addresses

  abbrev u : Text
  u = text p.new p.new_shape p.addresses

  abbrev R : State → State → Type 0
  R = Alike h.number (Lands p.old h)

  abbrev Inside : State → Type 0
  Inside s = s.at < length p.old.nodes

  -- both step
  both : (s m : State) (a : R s m) → Inside s → h.stays s.at ≡ true → a.at ≡ h.number s.at → Meets R (old_step p s) (new_step p m)
  both s m a inside st e = by (slice_get p.old.nodes s.at) refl
    where
      here : m ≡ over h.number s (h.number s.at) a.bit a.result
      here = a.is ∙ ap (λ k. over h.number s k a.bit a.result) e

      by : (o : Option Node) → slice_get p.old.nodes s.at ≡ o → Meets R (step_at t o s) (new_step p m)
      by None f = tt
      by (Some n) f =
          let w = th.nodes s.at n f st in
          subst (λ x. Meets R (node_step t n n.op s) (new_step p x)) (sym here)
          (subst (λ o. Meets R (node_step t n n.op s) (step_at u o (over h.number s (h.number s.at) a.bit a.result))) (sym w.here)
          (steps-meet t u h.number (Lands p.old h) s (th.renumbers s.at st) a.bit a.result a.carries a.answers n w.node w.rewritten))

  -- where the new run is at another node than the number, it is already where the jump leads
  elsewhere : (k n : ℕ) → Lands p.old h k n → n ≢ h.number k → n ≡ h.goal k
  elsewhere k n (inl e) ne = absurd (ne e)
  elsewhere k n (inr e) ne = e.2

  at-number : (k n : ℕ) → Lands p.old h k n → (jump_at p.old k ≡ false) ⊎ (h.turns k ≡ true) → n ≡ h.number k
  at-number k n (inl e) w = e
  at-number k n (inr e) (inl w) = absurd (false≢true (sym w ∙ e.0))
  at-number k n (inr e) (inr w) = absurd (false≢true (sym e.1 ∙ w))

  -- the old run makes a jump at which the new one rests
  alone : (s m : State) (a : R s m) → Lands p.old h (hop p.old s.at) a.at → jump_at p.old s.at ≡ true → RestsAt R (old_step p s) m
  alone s m a l e = subst (λ o. RestsAt R o m) (sym (old-jump p.old p.old_shape p.addresses s e)) (record { at = a.at; bit = a.bit; result = a.result; is = a.is; lands = l; carries = inl refl; answers = inl refl })

  at-of : (s m : State) (a : R s m) → m.at ≡ a.at
  at-of s m a = ap (λ x. x.at) a.is

  -- where the new run rests at a jump that does not turn, it is where the jump leads
  at-goal : (s m : State) (a : R s m) → jump_at p.old s.at ≡ true → h.turns s.at ≡ false → (h.stays s.at && (m.at == h.number s.at)) ≡ false → a.at ≡ h.goal s.at
  at-goal s m a e f g = by (h.stays s.at) refl (eqb_tells m.at (h.number s.at)) g
    where
      by : (b : Bool) → h.stays s.at ≡ b → ((m.at == h.number s.at) ≡ true) × (m.at ≡ h.number s.at) ⊎ ((m.at == h.number s.at) ≡ false) × (m.at ≢ h.number s.at) → (b && (m.at == h.number s.at)) ≡ false → a.at ≡ h.goal s.at
      by true st (inl z) g = absurd (true≢false (sym z.0 ∙ g))
      by true st (inr z) g = elsewhere s.at a.at a.lands (λ q. z.1 (at-of s m a ∙ q))
      by false st (inl z) g = sym (at-of s m a) ∙ z.1 ∙ th.dropped s.at e f st
      by false st (inr z) g = elsewhere s.at a.at a.lands (λ q. z.1 (at-of s m a ∙ q))

  moves-is : (s m : State) (b c : Bool) → jump_at p.old s.at ≡ b → h.turns s.at ≡ c → moves p.old h s m ≡ (if b then (if c then h.stays s.at else h.stays s.at && (m.at == h.number s.at)) else true)
  moves-is s m b c e f = ap (λ x. if x then (if h.turns s.at then h.stays s.at else h.stays s.at && (m.at == h.number s.at)) else true) e ∙ ap (λ x. if b then (if x then h.stays s.at else h.stays s.at && (m.at == h.number s.at)) else true) f

  pub stepped : AreStepped p Inside R (moves p.old h)
  stepped = record {
    meets = λ s m inside a mv. meets s m inside a mv (jump_at p.old s.at) (h.turns s.at) refl refl;
    rests = λ s m inside a mv. rests s m inside a mv (jump_at p.old s.at) (h.turns s.at) refl refl;
  }
    where
      meets : (s m : State) → Inside s → (a : R s m) → moves p.old h s m ≡ true → (b c : Bool) → jump_at p.old s.at ≡ b → h.turns s.at ≡ c → Meets R (old_step p s) (new_step p m)
      meets s m inside a mv false c e f = both s m a inside (th.only s.at e) (at-number s.at a.at a.lands (inl e))
      meets s m inside a mv true true e f = both s m a inside (sym (moves-is s m true true e f) ∙ mv) (at-number s.at a.at a.lands (inr f))
      meets s m inside a mv true false e f =
          let g = sym (moves-is s m true false e f) ∙ mv in
          both s m a inside (and_parts _ _ g).0 (sym (at-of s m a) ∙ eqb-true m.at (h.number s.at) (and_parts (h.stays s.at) _ g).1)

      rests : (s m : State) → Inside s → (a : R s m) → moves p.old h s m ≡ false → (b c : Bool) → jump_at p.old s.at ≡ b → h.turns s.at ≡ c → RestsAt R (old_step p s) m
      rests s m inside a mv false c e f = absurd (true≢false (sym (moves-is s m false c e f) ∙ mv))
      rests s m inside a mv true true e f =
          let st = sym (moves-is s m true true e f) ∙ mv in
          let w = th.forward s.at e f st in
          alone s m a (inl (at-number s.at a.at a.lands (inr f) ∙ sym w.1)) e
      rests s m inside a mv true false e f =
          let g = sym (moves-is s m true false e f) ∙ mv in
          alone s m a (subst (λ k. Lands p.old h (hop p.old s.at) k) (sym (at-goal s m a e f g)) (th.leads s.at e f)) e

  module _ (s0 m0 : State) (good : (k : ℕ) → Inside (mean_from p.old p.old_shape p.addresses s0 k).state) (alike : R s0 m0) where
    abbrev o-at : ℕ → Run
    o-at k = mean_from p.old p.old_shape p.addresses s0 k

    abbrev j : ℕ → ℕ
    j k = moves_made p (moves p.old h) s0 m0 k

    abbrev n-at : ℕ → Run
    n-at i = mean_from p.new p.new_shape p.addresses m0 i

    abbrev at : ℕ → ℕ
    at k = (o-at k).state.at

    abbrev place : Run → ℕ
    place r = r.state.at

    abbrev loud : Run → Bool
    loud r = leaps_at (slice_get p.new.nodes r.state.at)

    not-bad : (s : Status) → s ≡ Running → s ≢ Bad
    not-bad s e b = bad (sym b ∙ e)
      where
        bad : Bad ≡ Running → ⊥
        bad e = cc

    stands : (k : ℕ) → (o-at k).status ≡ Running → RunsAlike R (o-at k) (n-at (j k))
    stands k run = runs-alike p Inside R (moves p.old h) stepped s0 m0 good alike k (not-bad (o-at k).status run)

    states : (k : ℕ) → (o-at k).status ≡ Running → R (o-at k).state (n-at (j k)).state
    states k run = (stands k run).states (not-bad (o-at k).status run)

    going : (k : ℕ) → (o-at k).status ≡ Running → (n-at (j k)).status ≡ Running
    going k run = (stands k run).status ∙ run

    node-here : (k : ℕ) → (n : Node) × (slice_get p.old.nodes (at k) ≡ Some n)
    node-here k = by (slice_get p.old.nodes (at k)) refl
      where
        by : (o : Option Node) → slice_get p.old.nodes (at k) ≡ o → (n : Node) × (slice_get p.old.nodes (at k) ≡ Some n)
        by (Some n) e = (n, e)
        by None e = absurd (missing (slice_get-get_or p.old.nodes (at k) record { op = op.Plain plain.Ret; operands = []; line = 0 } (good k)) e)
          where
            missing : {n : Node} → slice_get p.old.nodes (at k) ≡ Some n → slice_get p.old.nodes (at k) ≡ None → ⊥
            missing a b = cc

    -- where both are at one node, the new node has the operation of the old one
    module _ (k : ℕ) (run : (o-at k).status ≡ Running) (st : h.stays (at k) ≡ true) (here : (n-at (j k)).state.at ≡ h.number (at k)) where
      old-node : Node
      old-node = (node-here k).0

      same-kind : leaps_at (slice_get p.new.nodes (n-at (j k)).state.at) ≡ leaps_at (slice_get p.old.nodes (at k))
      same-kind =
          let n = node-here k in
          let w = th.nodes (at k) n.0 n.1 st in
          ap (λ i. leaps_at (slice_get p.new.nodes i)) here ∙ ap leaps_at w.here ∙ ap leaps w.rewritten.0 ∙ ap leaps_at (sym n.1)

    jump-is-leap : (k : ℕ) → jump_at p.old (at k) ≡ true → leaps_at (slice_get p.old.nodes (at k)) ≡ true
    jump-is-leap k e = by (slice_get p.old.nodes (at k)) e
      where
        by : (o : Option Node) → is_jump_at o ≡ true → leaps_at o ≡ true
        by None e = cc
        by (Some n) e = jump-leaps n.op e

    placed : (k : ℕ) (run : (o-at k).status ≡ Running) → (n-at (j k)).state.at ≡ (states k run).at
    placed k run = at-of (o-at k).state (n-at (j k)).state (states k run)

    o-next : (k : ℕ) → o-at (suc k) ≡ run_step (old_step p) (o-at k)
    o-next k = iter-suc (run_step (old_step p)) k (run_at s0 [])

    n-next : (i : ℕ) → n-at (suc i) ≡ run_step (new_step p) (n-at i)
    n-next i = iter-suc (run_step (new_step p)) i (run_at m0 [])

    -- the old run after a jump
    after-jump : (k : ℕ) → (o-at k).status ≡ Running → jump_at p.old (at k) ≡ true → at (suc k) ≡ hop p.old (at k)
    after-jump k run e = ap (λ r. r.state.at) (o-next k ∙ goes (old_step p) (o-at k) run ∙ ap (behind (o-at k)) (old-jump p.old p.old_shape p.addresses (o-at k).state e))

    moved : (k : ℕ) → moves p.old h (o-at k).state (n-at (j k)).state ≡ true → j (suc k) ≡ suc (j k)
    moved k e = moved-on p Inside R (moves p.old h) stepped s0 m0 good alike k e

    stayed : (k : ℕ) → moves p.old h (o-at k).state (n-at (j k)).state ≡ false → j (suc k) ≡ j k
    stayed k e = rested p Inside R (moves p.old h) stepped s0 m0 good alike k e

    plain-moves : (k : ℕ) → jump_at p.old (at k) ≡ false → moves p.old h (o-at k).state (n-at (j k)).state ≡ true
    plain-moves k e = moves-is (o-at k).state (n-at (j k)).state false (h.turns (at k)) e refl

    plain-here : (k : ℕ) → (o-at k).status ≡ Running → jump_at p.old (at k) ≡ false → (n-at (j k)).state.at ≡ h.number (at k)
    plain-here k run e = placed k run ∙ at-number (at k) (states k run).at (states k run).lands (inl e)

    -- another node than a transfer of control goes on to the next node of the new run too
    onward : (k : ℕ) → (o-at (suc k)).status ≡ Running → jump_at p.old (at k) ≡ false → leaps_at (slice_get p.old.nodes (at k)) ≡ false → (n-at (j (suc k))).state.at ≡ suc (h.number (at k))
    onward k run e f = by (new_step p (n-at (j k)).state) refl
      where
        before : (o-at k).status ≡ Running
        before = went-on (machine p.old p.old_shape p.addresses) (means_are_machines p.old p.old_shape p.addresses).0 (run_at s0 []) k (suc k) (omega arith) run

        one : n-at (j (suc k)) ≡ behind (n-at (j k)) (new_step p (n-at (j k)).state)
        one = ap n-at (moved k (plain-moves k e)) ∙ n-next (j k) ∙ goes (new_step p) (n-at (j k)) (going k before)

        calm : leaps_at (slice_get p.new.nodes (n-at (j k)).state.at) ≡ false
        calm = same-kind k before (th.only (at k) e) (plain-here k before e) ∙ f

        by : (o : Outcome) → new_step p (n-at (j k)).state ≡ o → (n-at (j (suc k))).state.at ≡ suc (h.number (at k))
        by (Goes x bytes) g =
            ap (λ r. r.state.at) (one ∙ ap (behind (n-at (j k))) g) ∙ nodes-fall p.new p.new_shape p.addresses (n-at (j k)).state x bytes calm g ∙ add-one (n-at (j k)).state.at ∙ ap suc (plain-here k before e)
        by (Ends c) g = absurd (over-now (ap (λ r. r.status) (one ∙ ap (behind (n-at (j k))) g)) (going (suc k) run))
          where
            over-now : (n-at (j (suc k))).status ≡ Ended (ending_status c) → (n-at (j (suc k))).status ≡ Running → ⊥
            over-now a b = cc
        by Undefined g = absurd (over-now (ap (λ r. r.status) (one ∙ ap (behind (n-at (j k))) g)) (going (suc k) run))
          where
            over-now : (n-at (j (suc k))).status ≡ Bad → (n-at (j (suc k))).status ≡ Running → ⊥
            over-now a b = cc

    loud-jump : (k : ℕ) → (o-at k).status ≡ Running → jump_at p.old (at k) ≡ true → h.stays (at k) ≡ true → (n-at (j k)).state.at ≡ h.number (at k) → moves p.old h (o-at k).state (n-at (j k)).state ≡ true
        → IsLoudAt (machine p.new p.new_shape p.addresses) (run_at m0 []) (moves_made p (moves p.old h) s0 m0) loud k
    loud-jump k run e st here mv = (moved k mv, same-kind k run st here ∙ jump-is-leap k e)

    -- the new run makes a jump, to where it leads in the end
    made : (k : ℕ) (run : (o-at k).status ≡ Running) → jump_at p.old (at k) ≡ true → h.turns (at k) ≡ false → h.stays (at k) ≡ true → (n-at (j k)).state.at ≡ h.number (at k) → moves p.old h (o-at k).state (n-at (j k)).state ≡ true → (n-at (j (suc k))).state.at ≡ h.goal (at k)
    made k run e f st here mv =
        let n = node-here k in
        let w = th.nodes (at k) n.0 n.1 st in
        let jumps : is_jump w.node.op ≡ true = ap is_jump w.rewritten.0 ∙ ap is_jump_at (sym n.1) ∙ e in
        let goes-there : new_step p (n-at (j k)).state ≡ Goes (to (n-at (j k)).state (node_of_label p.new.places (operand_at w.node 0))) [] =
        ap (λ i. step_at u (slice_get p.new.nodes i) (n-at (j k)).state) here ∙ ap (λ o. step_at u o (n-at (j k)).state) w.here ∙ jump-goes u w.node (n-at (j k)).state w.node.op jumps in
        ap (λ r. r.state.at) (ap n-at (moved k mv) ∙ n-next (j k) ∙ goes (new_step p) (n-at (j k)) (going k run) ∙ ap (behind (n-at (j k))) goes-there) ∙ w.threaded e f

    leads-at : (k : ℕ) (run : (o-at k).status ≡ Running) → jump_at p.old (at k) ≡ true → h.turns (at k) ≡ false → (b : Bool) → moves p.old h (o-at k).state (n-at (j k)).state ≡ b
        → (IsLoudAt (machine p.new p.new_shape p.addresses) (run_at m0 []) (moves_made p (moves p.old h) s0 m0) loud k ⊎ ((j (suc k) ≡ j k) × ((n-at (j k)).state.at ≡ h.goal (at k)))) × ((n-at (j (suc k))).state.at ≡ h.goal (at k))
    leads-at k run e f true mv =
        let g = sym (moves-is (o-at k).state (n-at (j k)).state true false e f) ∙ mv in
        let st = (and_parts _ _ g).0 in
        let here = eqb-true (n-at (j k)).state.at (h.number (at k)) (and_parts (h.stays (at k)) _ g).1 in
        (inl (loud-jump k run e st here mv), made k run e f st here mv)
    leads-at k run e f false mv =
        let g = sym (moves-is (o-at k).state (n-at (j k)).state true false e f) ∙ mv in
        let there = placed k run ∙ at-goal (o-at k).state (n-at (j k)).state (states k run) e f g in
        (inr (stayed k mv, there), ap (λ i. (n-at i).state.at) (stayed k mv) ∙ there)

    pub threading : Threading (machine p.old p.old_shape p.addresses) (machine p.new p.new_shape p.addresses) (run_at s0 []) (run_at m0 []) (moves_made p (moves p.old h) s0 m0)
        (λ r. r.state.at) (λ r. r.state.at) (jump_at p.old) (λ i. leaps_at (slice_get p.old.nodes i)) h.turns h.stays h.number h.goal h.depth (λ r. leaps_at (slice_get p.new.nodes r.state.at))
    threading = record {
      steps = λ k run e. moved k (plain-moves k e);
      kinds = λ k run e. same-kind k run (th.only (at k) e) (plain-here k run e);
      here = plain-here;
      next = onward;
      leads = λ k run e f. (leads-at k run e f (moves p.old h (o-at k).state (n-at (j k)).state) refl).0;
      led = λ k run e f.
          let next = after-jump k run e in
          let w = th.ends (at k) e f in
          ((leads-at k run e f (moves p.old h (o-at k).state (n-at (j k)).state) refl).1, ap h.turns next ∙ w.0, subst (λ i. h.depth i < h.depth (at k)) (sym next) w.1);
      turns = λ k run e f.
          let next = after-jump k run e in
          let w = th.turning (at k) e f in
          let mv = moves-is (o-at k).state (n-at (j k)).state true true e f in (
            λ st. loud-jump k run e st (placed k run ∙ at-number (at k) (states k run).at (states k run).lands (inr f)) (mv ∙ st),
            λ st. (stayed k (mv ∙ st), subst (λ i. at k < i) (sym next) (th.forward (at k) e f st).0),
            ap (jump_at p.old) next ∙ w.0,
            ap h.turns next ∙ w.1,
          );
    }

    -- threaded nodes: the new run follows the old one, turns with it, and steps at each other node than a jump
    pub threads : Threads (machine p.old p.old_shape p.addresses) (machine p.new p.new_shape p.addresses) (run_at s0 []) (run_at m0 []) (moves_made p (moves p.old h) s0 m0)
        (λ r. r.state.at) (jump_at p.old) (λ i. leaps_at (slice_get p.old.nodes i)) (λ r. leaps_at (slice_get p.new.nodes r.state.at))
    threads = record {
      follows = runs-follow p Inside R (moves p.old h) stepped s0 m0 good alike;
      turns = threading-turns _ _ (run_at s0 []) (run_at m0 []) (moves_made p (moves p.old h) s0 m0) (λ (r : Run). r.state.at) (λ (r : Run). r.state.at) (jump_at p.old) (λ i. leaps_at (slice_get p.old.nodes i)) h.turns h.stays h.number h.goal h.depth (λ (r : Run). leaps_at (slice_get p.new.nodes r.state.at))
          (means_are_machines p.old p.old_shape p.addresses).0 threading;
      steps = threading.steps;
      kinds = threading.kinds;
    }

    -- and it has the memory of the old one
    pub threads-look : LooksAlike (machine p.old p.old_shape p.addresses) (machine p.new p.new_shape p.addresses) (run_at s0 []) (run_at m0 []) (moves_made p (moves p.old h) s0 m0) memory_of memory_of
    threads-look = runs-look p Inside R (moves p.old h) stepped s0 m0 good alike memory_in (λ s m a. ap memory_in a.is)
