-- The run of threaded nodes.
use Rattle.std.proofs.Common.{◌≡◌, inl, inr, ℕ, ◌<◌, Bool, true, false, List, Option, Some, None, length, refl, sym, ap, ◌∙◌, subst, arith}
use Rattle.std.specs.Prelude.{if◌then◌else◌, slice_get}
use Rattle.std.specs.List.{All}
use Rattle.std.proofs.lemmas.Option.{slice_get_within}
use Rattle.lg_op.specs.Nodes.{InForm}
use Rattle.lg_op.specs.declared.node.Node.{Node}
use Rattle.lg_op.specs.declared.operand.Label.{Label}
use Rattle.lg_op.specs.declared.carry.Carry.TheVariants as carry
use Rattle.lg_node.specs.Functions.{functions}
use Rattle.lg_node.specs.Nodes.{LabelledNodes}
use Rattle.lg_node.specs.Shapes.{TextShape, IsShapeOf}
use Rattle.lg_node.proofs.SuccessorLaws.{has_functions}
use Rattle.lg_node.proofs.WellShaped.{well_shaped}
use Rattle.lg_meaning.specs.Addresses.{AreAddresses}
use Rattle.lg_meaning.specs.Means.{mean_from}
use Rattle.lg_meaning.specs.Starts.{begins_at, entered_state}
use Rattle.lg_meaning.specs.States.{State}
use Rattle.lg_meaning.specs.Steps.{operand_at, Text}
use Rattle.lg_meaning.specs.Texts.{text}
use Rattle.lg_meaning.proofs.MeanLemmas.{mean_fits}
use Rattle.lg_opt.specs.Goals.{lead, turns, jumps_from, goal_node, stays}
use Rattle.lg_opt.specs.Hops.{jump_at, hop, is_jump_at}
use Rattle.lg_opt.specs.Paired.{Pair}
use Rattle.lg_opt.specs.Remaining.{new_number, retargeted, rewritten}
use Rattle.lg_opt.specs.Renumbered.{Alike}
use Rattle.lg_opt.specs.Rewritings.{FromEachStart}
use Rattle.lg_opt.specs.Runs.{AreThreaded}
use Rattle.lg_opt.specs.Targets.{target_node, end_of, AreTargets}
use Rattle.lg_opt.specs.Threads.{Threaded, Lands, StandsFor, IsThreadedBy}
use Rattle.lg_opt.proofs.RemainingLemmas.{number-zero}
use Rattle.lg_opt.proofs.AcceptLemmas.{begins-moved}
use Rattle.lg_opt.proofs.MovedLemmas.{same-op, same-second, same-third, stands, label-moved, beginning-moved}
use Rattle.lg_opt.proofs.RenumberLemmas.{renumbers}
use Rattle.lg_opt.proofs.GoalLemmas.{lead-on, ends-on, lead-there, turns-on, dropped-number, one-less}
use Rattle.lg_opt.proofs.TargetLemmas.{jump-there, jump-targets, jumps-within, lead-rests, goal-is, others-stay, threads-rewrite, same-node, target-moved}
use Rattle.lg_opt.proofs.DropLemmas.{start-over}
use Rattle.lg_opt.proofs.ThreadRunLemmas.{threads, threads-look}

-- how the jumps of nodes are threaded
abbrev pub threaded : LabelledNodes → Threaded
threaded l = record {
  stays = stays l;
  number = new_number (stays l);
  turns = turns l;
  goal = λ i. new_number (stays l) (lead l i);
  depth = jumps_from l (length l.nodes);
}

module _ (l : LabelledNodes) (shape : TextShape) (is : IsShapeOf l shape) (formed : All InForm l.nodes) (targets : ℕ → Option Label) (are : AreTargets l targets)
    (new_shape : TextShape) (en : new_shape.functions ≡ functions (rewritten l (stays l) targets).nodes) (et : new_shape.taken ≡ shape.taken) (A : List ℕ) (size : ℕ) (addresses : AreAddresses (rewritten l (stays l) targets) size A) where
  abbrev m : LabelledNodes
  m = rewritten l (stays l) targets

  abbrev nu : ℕ → ℕ
  nu = new_number (stays l)

  abbrev p : Pair
  p = record { old = l; old_shape = shape; new = rewritten l (stays l) targets; new_shape = new_shape; addresses = A }

  abbrev h : Threaded
  h = threaded l

  abbrev t : Text
  t = text l shape A

  abbrev u : Text
  u = text (rewritten l (stays l) targets) new_shape A

  inside : (i : ℕ) → jump_at l i ≡ true → i < length l.nodes
  inside i e = let j = jump-there l is.accepted formed i e in slice_get_within l.nodes i j.node j.here

  -- where the new target leads, the old one may land
  lands-at-end : (k : ℕ) → Lands l h k (nu (end_of l k))
  lands-at-end k = by (turns l k) (jump_at l k) refl refl
    where
      by : (b c : Bool) → turns l k ≡ b → jump_at l k ≡ c → Lands l h k (nu (end_of l k))
      by true c e f = inl (ap nu (ap (λ b. if b then k else lead l k) e))
      by false true e f = inr (f, e, ap nu (ap (λ b. if b then k else lead l k) e))
      by false false e f = inl (ap nu (ap (λ b. if b then k else lead l k) e ∙ lead-rests l is.accepted formed k f))

  node : (i : ℕ) (n : Node) → slice_get l.nodes i ≡ Some n → stays l i ≡ true → StandsFor p h i n
  node i n e s = record {
    node = retargeted (targets i) n;
    here = stands l (stays l) targets i n e s;
    rewritten = (
      same-op (targets i) n,
      λ f. record {
        second = same-second (targets i) n;
        third = same-third (targets i) n;
        leads = subst (Lands l h (target_node l n)) (sym (target-moved l is.accepted formed targets are i n e f)) (lands-at-end (target_node l n));
      },
      λ f. (same-node l is.accepted formed targets are i n e f, λ c. label-moved l (stays l) targets (operand_at n 0)),
    );
    threaded = λ f g.
        let j = jump-there l is.accepted formed i f in
        let jumps : is_jump_at (Some n) ≡ true = ap is_jump_at (sym e) ∙ f in
        let goes : hop l i ≡ target_node l n = j.goes ∙ ap (λ o. at-node o) (sym j.here ∙ e) in
        target-moved l is.accepted formed targets are i n e (jump-targets n.op jumps)
        ∙ ap (λ k. nu (end_of l k)) (sym goes)
        ∙ ap nu (goal-is l is.accepted formed i (inside i f) ∙ ap (λ b. if b then hop l i else lead l i) g);
  }
    where
      at-node : Option Node → ℕ
      at-node None = 0
      at-node (Some n) = target_node l n

  by-threads : IsThreadedBy p h
  by-threads = record {
    only = others-stay l is.accepted formed;
    nodes = node;
    renumbers = λ i s. renumbers l (stays l) targets (threads-rewrite l is.accepted formed targets are) is.accepted shape new_shape is.functions en et A size addresses (Lands l h) (λ k. inl refl) i s;
    leads = λ i e f. leads i e f (jump_at l (hop l i)) refl;
    ends = λ i e f. (ends-on l (jumps-within l is.accepted formed) i (inside i e) f, less i e f);
    dropped = λ i e f s.
        let d = dropped-number l i (inside i e) s in
        sym d.2 ∙ ap nu (ap (λ b. if b then hop l i else lead l i) f);
    turning = λ i e f. turns-on l (jumps-within l is.accepted formed) i (inside i e) f;
    forward = λ i e f s.
        let d = dropped-number l i (inside i e) s in
        let goal : goal_node l i ≡ hop l i = ap (λ b. if b then hop l i else lead l i) f in
        (subst (λ k. i < k) goal d.1, ap nu (sym goal) ∙ d.2);
  }
    where
      leads : (i : ℕ) → jump_at l i ≡ true → turns l i ≡ false → (b : Bool) → jump_at l (hop l i) ≡ b → Lands l h (hop l i) (h.goal i)
      leads i e f true g = inr (g, ends-on l (jumps-within l is.accepted formed) i (inside i e) f, ap nu (sym (lead-on l (jumps-within l is.accepted formed) i (inside i e) f)))
      leads i e f false g = inl (ap nu (lead-there l (jumps-within l is.accepted formed) i (inside i e) g))

      less : (i : ℕ) → jump_at l i ≡ true → turns l i ≡ false → h.depth (hop l i) < h.depth i
      less i e f = one-less l (length l.nodes) i (λ z. let lt = inside i e in omega arith) e f

  -- the run of the new nodes follows that of the old ones, and turns with it
  pub are-threaded : FromEachStart l (rewritten l (stays l) targets) (AreThreaded l shape (rewritten l (stays l) targets) new_shape A)
  are-threaded e b may begins =
      let first : State = entered_state e (begins_at l b) in
      let second : State = entered_state e (begins_at m b) in
      let inside-it : (k : ℕ) → (mean_from l shape A first k).state.at < length l.nodes =
      λ k. (mean_fits l shape A is (well_shaped l is.accepted) (has_functions l is.accepted) formed e b may begins k).fits.inside in
      let start : Alike nu (Lands l h) first second = record {
        at = begins_at m b;
        bit = carry.Undefined;
        result = None;
        is = start-over nu (number-zero (stays l)) e (begins_at l b) (begins_at m b);
        lands = inl (beginning-moved l (stays l) targets b);
        carries = inl refl;
        answers = inl refl;
      } in (
        begins-moved l (stays l) targets (threads-rewrite l is.accepted formed targets are) is.accepted b begins,
        record { j = _; threads = threads p h by-threads first second inside-it start; memory = threads-look p h by-threads first second inside-it start },
      )
