-- A state that goes on to a node with the frames that it has fits there.
use Rattle.std.proofs.Common.{◌≡◌, ⊎_elim, ℕ, ◌+◌, ◌<◌, ◌≤◌, true, false, Option, Some, None, refl, sym, ap, ◌∙◌, length, subst, arith}
use Rattle.std.proofs.lemmas.Bool.{cases_lt}
use Rattle.lg_op.specs.declared.node.Node.{Node}
use Rattle.lg_node.specs.declared.function.Function.{Function}
use Rattle.lg_node.specs.Nodes.{LabelledNodes}
use Rattle.lg_node.specs.Functions.{home, frame_of, is_prolog, is_epilog, is_epilog_at}
use Rattle.lg_node.specs.Preparations.{pushed, variadic}
use Rattle.lg_node.specs.Checks.{is_begun}
use Rattle.lg_node.specs.Shapes.{TextShape}
use Rattle.lg_node.proofs.FunctionLaws.{home_within}
use Rattle.lg_node.proofs.WalkLemmas.{begun_on}
use Rattle.lg_meaning.specs.States.{State, is_open}
use Rattle.lg_meaning.specs.Steps.{function_here}
use Rattle.lg_meaning.specs.Starts.{IsEntryStack, IsHeapMark}
use Rattle.lg_meaning.specs.Fits.{RunsIn, IsBeforeAll, IsTopOf, AreLinked, FitsWell}
use Rattle.lg_meaning.proofs.FunctionFacts.{IsAt, same_function}
use Rattle.lg_meaning.proofs.NodeFacts.{AtNode, Running, at_home}
use Rattle.lg_meaning.proofs.StartLemmas.{frame_small}

-- a state at a node, with the frames of another, and with all that a state there is to have but for its function
pub record GoesOn (l : LabelledNodes) (s t : State) (k : ℕ) : Type 0 where
  pub at : t.at ≡ k
  pub frame : t.frame ≡ s.frame
  pub callers : t.callers ≡ s.callers
  pub memory : (a b : ℕ) → t.mem a ≡ Some b → is_open t a ≡ true
  pub heap : IsHeapMark t.mark
  pub pushed : length t.pushed ≡ pushed l.nodes k
  pub variadic : t.variadic ≡ variadic l.nodes k

module _ (l : LabelledNodes) (shape : TextShape) (s : State) (n : Node) (x : AtNode l shape s n) where
  -- with its function it fits
  pub fits_at : (t : State) (k : ℕ) → GoesOn l s t k → k < length l.nodes → IsTopOf l shape t (home l.nodes k) → FitsWell l shape t
  fits_at t k g lt top = record {
    fits = record {
      inside = rw g.at lt;
      top = subst (λ (i : ℕ). IsTopOf l shape t (home l.nodes i)) (sym g.at) top;
      linked = rw (g.frame, g.callers) x.well.fits.linked;
      low = rw g.frame x.well.fits.low;
      pushed = g.pushed ∙ sym (ap (pushed l.nodes) g.at);
      variadic = g.variadic ∙ sym (ap (variadic l.nodes) g.at);
      memory = g.memory;
    };
    heap = g.heap;
  }

  -- a frame of the function of a node after its `prolog`
  pub after_top : (t : State) (k p : ℕ) (f : Function) → IsAt l shape k p f → p < k → t.at ≡ k → t.frame.size ≡ frame_of f → t.frame.locals ≡ f.locals → RunsIn shape t p
  after_top t k p f is lt at size locals =
      let other : t.at ≡ f.entry → ⊥ = λ e. (let no : k ≡ p = sym at ∙ e ∙ is.entry in absurd (omega arith)) in
      record { function = f; here = ap (function_here shape.functions) at ∙ is.here; entry = is.entry; top = record { behind = λ _. (size, locals); before = λ e. absurd (other e) } }

  -- a frame that has not begun
  pub before_top : (t : State) (k : ℕ) (f : Function) → IsAt l shape k k f → t.at ≡ k → t.frame.size ≡ 0 → t.frame.locals ≡ 0 → 0x3FF00010 + frame_of f ≤ t.frame.sp → RunsIn shape t k
  before_top t k f is at size locals room =
      record { function = f; here = ap (function_here shape.functions) at ∙ is.here; entry = is.entry; top = record { behind = λ other. absurd (other (at ∙ sym is.entry)); before = λ _. (size, locals, room) } }

  -- within a function that runs
  pub within_function : (t : State) (k p : ℕ) → Running l shape s p → home l.nodes k ≡ Some p → p < k → GoesOn l s t k → FitsWell l shape t
  within_function t k p r h lt g =
      let f = at_home l shape s n x k p h in
      let same : r.function ≡ f.0 = same_function l r.function f.0 r.is.is f.1.is (r.is.entry ∙ sym f.1.entry) in
      let size : t.frame.size ≡ frame_of f.0 = ap (λ u. u.size) g.frame ∙ r.size ∙ ap frame_of same in
      let locals : t.frame.locals ≡ f.0.locals = ap (λ u. u.locals) g.frame ∙ r.locals ∙ ap (λ u. u.locals) same in
      fits_at t k g (home_within l.nodes k p h) (subst (IsTopOf l shape t) (sym h) (after_top t k p f.0 f.1 lt g.at size locals))

  -- to the next node within a function
  pub next_within : (t : State) (p : ℕ) → Running l shape s p → is_epilog n.op ≡ false → GoesOn l s t (s.at + 1) → FitsWell l shape t
  next_within t p r falls g =
      let f = x.shaped.falls s.at p r.home (ap is_epilog_at x.here ∙ falls) in
      within_function t (s.at + 1) p r f.0 f.1 g

  -- ---- before the first `prolog`
  module _ (out : home l.nodes s.at ≡ None) where
    all : IsBeforeAll l s
    all = subst (IsTopOf l shape s) out x.well.fits.top

    stack : IsEntryStack s.frame.sp
    stack = (subst (AreLinked l shape s.frame) all.alone x.well.fits.linked).0

    -- into the first function
    pub into_function : (t : State) (k : ℕ) → home l.nodes k ≡ Some k → GoesOn l s t k → FitsWell l shape t
    into_function t k h g =
        let f = at_home l shape s n x k k h in
        let size : t.frame.size ≡ 0 = ap (λ u. u.size) g.frame ∙ all.size in
        let locals : t.frame.locals ≡ 0 = ap (λ u. u.locals) g.frame ∙ all.locals in
        let room = frame_small f.0 s.frame.sp f.1.small stack in
        fits_at t k g (home_within l.nodes k k h) (subst (IsTopOf l shape t) (sym h) (before_top t k f.0 f.1 g.at size locals (rw g.frame room)))

    -- to the next node
    pub next_outside : (t : State) → is_prolog n.op ≡ false → GoesOn l s t (s.at + 1) → FitsWell l shape t
    next_outside t other_op g = by (home l.nodes (s.at + 1)) refl
      where
        not_begun : is_begun l.nodes (s.at + 1) ≡ false
        not_begun = begun_on l.nodes s.at n x.here ∙ rw (all.outside, other_op) refl

        -- the text has a `prolog`, so this is not its last node
        inside : s.at + 1 < length l.nodes
        inside = ⊎_elim (λ (h : s.at + 1 < length l.nodes). h) (λ (h : length l.nodes ≤ s.at + 1). let end : s.at + 1 ≡ length l.nodes = (let here : s.at < length l.nodes = x.well.fits.inside in omega arith) in let no_more : true ≡ false = sym x.begun ∙ ap (is_begun l.nodes) (sym end) ∙ not_begun in cc) (cases_lt (s.at + 1) (length l.nodes))

        by : (o : Option ℕ) → home l.nodes (s.at + 1) ≡ o → FitsWell l shape t
        by None e = fits_at t (s.at + 1) g inside (subst (IsTopOf l shape t) (sym e) record {
          outside = ap (is_begun l.nodes) g.at ∙ not_begun;
          alone = g.callers ∙ all.alone;
          size = ap (λ u. u.size) g.frame ∙ all.size;
          locals = ap (λ u. u.locals) g.frame ∙ all.locals;
        })
        by (Some p) e =
            let f = at_home l shape s n x (s.at + 1) p e in
            let range = f.1.is.only (s.at + 1) (e ∙ ap Some (sym f.1.entry)) in
            let first : p ≡ s.at + 1 = ⊎_elim (λ (h : s.at < p). omega (arith, f.1.entry, range.0)) (λ (h : p ≤ s.at). let in_it : ◌≡◌ {A = Option ℕ} None (Some f.0.entry) = sym out ∙ f.1.is.all s.at (omega (arith, f.1.entry)) (omega (arith, range.1)) in cc) (cases_lt s.at p) in
            into_function t (s.at + 1) (e ∙ ap Some first) g
