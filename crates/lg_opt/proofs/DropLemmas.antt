-- The run of the nodes that stay where moves that do nothing are dropped.
use Rattle.std.proofs.Common.{◌≡◌, ◌≢◌, inl, inr, ℕ, zero, suc, ◌+◌, Bool, true, false, not, List, [], ◌∷◌, Option, Some, None, length, refl, sym, ap, ◌∙◌, subst, add-one}
use Rattle.std.specs.Prelude.{if◌then◌else◌, slice_get}
use Rattle.std.specs.List.{All}
use Rattle.std.proofs.lemmas.Bool.{not-false}
use Rattle.lg_op.specs.Forms.{forms_of, admit}
use Rattle.lg_op.specs.Nodes.{InForm}
use Rattle.lg_op.specs.declared.node.Node.{Node}
use Rattle.lg_op.specs.declared.op.Op.{Op}
use Rattle.lg_op.specs.declared.op.Op.TheVariants as op
use Rattle.lg_op.specs.declared.op.ControlOp.TheVariants as control
use Rattle.lg_op.specs.declared.op.UnaryOp.TheVariants as unary
use Rattle.lg_op.specs.declared.operand.Label.{Label}
use Rattle.lg_op.specs.declared.operand.Operand.TheVariants as operand
use Rattle.lg_op.specs.declared.operand.Reg.TheVariants.{Fp}
use Rattle.lg_op.specs.declared.carry.Carry.TheVariants as carry
use Rattle.lg_node.specs.Functions.{functions}
use Rattle.lg_node.specs.Labels.{place_of, is_entry, is_labelled}
use Rattle.lg_node.specs.Nodes.{LabelledNodes}
use Rattle.lg_node.specs.declared.place.Place.{Place}
use Rattle.lg_node.specs.declared.place.Place.TheVariants as place
use Rattle.lg_node.specs.Shapes.{TextShape, IsShapeOf}
use Rattle.lg_node.proofs.FunctionLaws.{node_within}
use Rattle.lg_node.proofs.SuccessorLaws.{has_functions}
use Rattle.lg_node.proofs.WellShaped.{well_shaped}
use Rattle.lg_meaning.specs.Addresses.{AreAddresses}
use Rattle.lg_meaning.specs.Fits.{is_call, FitsWell, AreLinked}
use Rattle.lg_meaning.specs.Means.{mean_from}
use Rattle.lg_meaning.specs.Starts.{Entry, MayEnter, begins_at, MayBegin, entry_frame, entered_state}
use Rattle.lg_meaning.specs.States.{Frame, State}
use Rattle.lg_meaning.specs.Steps.{Goes, Text, node_step, node_in}
use Rattle.lg_meaning.specs.Texts.{text, step_at, step}
use Rattle.lg_meaning.proofs.KeepLemmas.{steps_fit}
use Rattle.lg_meaning.proofs.MeanLemmas.{always, formed_at}
use Rattle.lg_meaning.proofs.StartLemmas.{start_fits}
use Rattle.lg_meaning.proofs.Outcomes.{on_result}
use Rattle.lg_carry.specs.Carries.{leaps, leaps_at}
use Rattle.lg_carry.proofs.FallLemmas.{nodes-fall}
use Rattle.lg_opt.specs.Rewritten.{memory_in}
use Rattle.lg_opt.specs.Moves.{Move, move_of, move_at, no_sources, is_idle, after_node, after_at, sources_before, stays}
use Rattle.lg_opt.specs.Paired.{Pair, Dropped, RestsAt, AreStepped}
use Rattle.lg_opt.specs.Remaining.{new_number, rewritten, no_targets, origins, may_go, IsRewriting}
use Rattle.lg_opt.specs.Renumbered.{over, Meets, IsRewritten}
use Rattle.lg_opt.specs.Rewritings.{FromEachStart, RunIsDropped}
use Rattle.lg_opt.proofs.RemainingLemmas.{number-zero, number-goes}
use Rattle.lg_opt.proofs.AcceptLemmas.{begins-moved}
use Rattle.lg_opt.proofs.LabelLemmas.{labelled-at}
use Rattle.lg_opt.proofs.MovedLemmas.{stands, label-moved, beginning-moved}
use Rattle.lg_opt.proofs.RenumberLemmas.{renumbers}
use Rattle.lg_opt.proofs.ArrivalLemmas.{Arrives, leap-arrives}
use Rattle.lg_opt.proofs.MoveLemmas.{AreSources, idle-rests}
use Rattle.lg_opt.proofs.TidyLemmas.{move-is}
use Rattle.lg_opt.proofs.HoldLemmas.{sources-on}
use Rattle.lg_opt.proofs.OriginLemmas.{numbered}
use Rattle.lg_opt.proofs.StepLemmas.{steps-meet}
use Rattle.lg_opt.proofs.DropRunLemmas.{drops, drops-look}

-- a register that is written is not FP
pub not-fp : (n : Node) (k : Move) → InForm n → move_of n.op n.operands ≡ Some k → k.into ≢ Fp
not-fp n k formed e z =
    let w = move-is n.op n.operands k e in
    let a : admit (forms_of (op.Unary unary.Mov)) (operand.Reg Fp ∷ operand.Reg k.from ∷ []) ≡ true =
    ap (λ r. admit (forms_of (op.Unary unary.Mov)) (operand.Reg r ∷ operand.Reg k.from ∷ [])) (sym z) ∙ ap (admit (forms_of (op.Unary unary.Mov))) (sym w.1) ∙ ap (λ o. admit (forms_of o) n.operands) (sym w.0) ∙ formed.forms in
    cc

call-leaps : (o : Op) → is_call o ≡ true → leaps o ≡ true
call-leaps (op.Control control.Call last) e = refl
call-leaps (op.Control control.Finish last) e = refl
call-leaps o e = cc

-- the start, over other numbers
pub start-over : (nu : ℕ → ℕ) → nu 0 ≡ 0 → (e : Entry) (i k : ℕ) → entered_state e k ≡ over nu (entered_state e i) k carry.Undefined None
start-over nu h e i k = ap (λ b. record (entered_state e k) { frame = record (entry_frame e.sp e.args) { back = b } }) (sym h)

module _ (l : LabelledNodes) where
  -- a move that does nothing
  pub record IsIdle (i : ℕ) (n : Node) : Type 0 where
    pub move : Move
    pub is : move_of n.op n.operands ≡ Some move
    pub idle : is_idle (sources_before l i) (Some move) ≡ true

  pub idle-there : (i : ℕ) (n : Node) → slice_get l.nodes i ≡ Some n → stays l i ≡ false → IsIdle i n
  idle-there i n e s = by (move_of n.op n.operands) refl (not-false (is_idle (sources_before l i) (move_of n.op n.operands)) (ap (λ o. not (is_idle (sources_before l i) (move_at o))) (sym e) ∙ s))
    where
      by : (o : Option Move) → move_of n.op n.operands ≡ o → is_idle (sources_before l i) (move_of n.op n.operands) ≡ true → IsIdle i n
      by None f h = let no : false ≡ true = sym (ap (is_idle (sources_before l i)) f) ∙ h in cc
      by (Some k) f h = record { move = k; is = f; idle = sym (ap (is_idle (sources_before l i)) f) ∙ h }

  pub drops-rewrite : IsRewriting l (stays l) no_targets
  drops-rewrite = record {
    goes = λ i n e s. let k = idle-there i n e s in ap may_go (move-is n.op n.operands k.move k.is).0;
    leads = λ i n y e t. cc;
  }

  pub drops-calm : (i : ℕ) → stays l i ≡ false → leaps_at (slice_get l.nodes i) ≡ false
  drops-calm i s = by (slice_get l.nodes i) refl
    where
      by : (o : Option Node) → slice_get l.nodes i ≡ o → leaps_at o ≡ false
      by None e = refl
      by (Some n) e = let k = idle-there i n e s in ap leaps (move-is n.op n.operands k.move k.is).0

  -- no sources after a transfer of control, and at a label
  fresh-after : (i : ℕ) (n : Node) → slice_get l.nodes i ≡ Some n → leaps n.op ≡ true → sources_before l (i + 1) ≡ no_sources
  unfolding sources_before
  fresh-after i n e h =
      ap (sources_before l) (add-one i)
      ∙ ap (λ f. if is_labelled l.places (suc i) then no_sources else f) (ap (after_at (sources_before l i)) e ∙ ap (λ b. if b then no_sources else after_node (sources_before l i) n (move_of n.op n.operands)) h)
      ∙ by (is_labelled l.places (suc i))
    where
      by : (b : Bool) → (if b then no_sources else no_sources) ≡ no_sources
      by true = refl
      by false = refl

  fresh-at : (k : ℕ) → is_labelled l.places k ≡ true → sources_before l k ≡ no_sources
  unfolding sources_before
  fresh-at zero h = refl
  fresh-at (suc k) h = ap (λ b. if b then no_sources else after_at (sources_before l k) (slice_get l.nodes k)) h

  next-sources : (i : ℕ) (n : Node) → slice_get l.nodes i ≡ Some n → leaps n.op ≡ false → is_labelled l.places (i + 1) ≡ false → sources_before l (i + 1) ≡ after_node (sources_before l i) n (move_of n.op n.operands)
  unfolding sources_before
  next-sources i n e h free =
      ap (sources_before l) (add-one i)
      ∙ ap (λ b. if b then no_sources else after_at (sources_before l i) (slice_get l.nodes i)) (ap (is_labelled l.places) (sym (add-one i)) ∙ free)
      ∙ ap (after_at (sources_before l i)) e ∙ ap (λ b. if b then no_sources else after_node (sources_before l i) n (move_of n.op n.operands)) h

  no-sources : (t : State) → AreSources t no_sources
  no-sources t x y e = cc

  at-fresh : (t : State) → sources_before l t.at ≡ no_sources → AreSources t (sources_before l t.at)
  at-fresh t e = subst (AreSources t) (sym e) (no-sources t)

  module _ (shape : TextShape) (is : IsShapeOf l shape) (formed : All InForm l.nodes) (A : List ℕ) where
    abbrev pub Good : State → Type 0
    Good s = FitsWell l shape s × AreSources s (sources_before l s.at)

    formed-at : (i : ℕ) (n : Node) → slice_get l.nodes i ≡ Some n → InForm n
    formed-at = formed_at l shape A is (well_shaped l is.accepted) (has_functions l is.accepted) formed

    sources-step : (s t : State) (bytes : List ℕ) → Good s → step l shape A s ≡ Goes t bytes → AreSources t (sources_before l t.at)
    sources-step s t bytes good g = by (leaps n.0.op) refl
      where
        n : (n : Node) × (slice_get l.nodes s.at ≡ Some n)
        n = node_within l.nodes s.at good.0.fits.inside

        went : node_step (text l shape A) n.0 n.0.op s ≡ Goes t bytes
        went = ap (λ o. step_at (text l shape A) o s) (sym n.1) ∙ g

        to-node : (k : ℕ) → t.at ≡ k → sources_before l k ≡ no_sources → AreSources t (sources_before l t.at)
        to-node k e f = at-fresh t (ap (sources_before l) e ∙ f)

        back : (f : Frame) (fs : List Frame) → s.callers ≡ f ∷ fs → t.at ≡ s.frame.back → AreSources t (sources_before l t.at)
        back f fs e at =
            let linked : AreLinked l shape s.frame (f ∷ fs) = subst (AreLinked l shape s.frame) e good.0.fits.linked in
            let c = linked.0 in
            to-node (c.at + 1) (at ∙ c.back) (fresh-after c.at c.node c.here (call-leaps c.node.op c.calls))

        arrived : leaps n.0.op ≡ true → Arrives l s t → AreSources t (sources_before l t.at)
        arrived h (inl e) = to-node (s.at + 1) e (fresh-after s.at n.0 n.1 h)
        arrived h (inr (inl e)) = at-fresh t (fresh-at t.at e)
        arrived h (inr (inr e)) = back e.1 e.2 e.3 e.0

        by : (b : Bool) → leaps n.0.op ≡ b → AreSources t (sources_before l t.at)
        by true h = arrived h (on_result (Arrives l s) _ t bytes (leap-arrives l shape A is.accepted is.functions s n.0 n.1 (formed-at s.at n.0 n.1) h) went)
        by false h =
            let at : t.at ≡ s.at + 1 = nodes-fall l shape A s t bytes (ap leaps_at n.1 ∙ h) g in
            free (is_labelled l.places (s.at + 1)) refl at h
          where
            free : (b : Bool) → is_labelled l.places (s.at + 1) ≡ b → t.at ≡ s.at + 1 → leaps n.0.op ≡ false → AreSources t (sources_before l t.at)
            free true f at h = to-node (s.at + 1) at (fresh-at (s.at + 1) f)
            free false f at h =
                subst (AreSources t) (sym (ap (sources_before l) at ∙ next-sources s.at n.0 n.1 h f))
                (sources-on (text l shape A) n.0 s t bytes (sources_before l s.at) good.1 h went (λ k e. not-fp n.0 k (formed-at s.at n.0 n.1) e))

    -- nothing is known of registers at the first node, and at a label
    fresh-start : (b : Option Label) → MayBegin l b → sources_before l (begins_at l b) ≡ no_sources
    unfolding sources_before
    fresh-start None h = refl
    fresh-start (Some x) h = at-place (place_of l.places x) refl h
      where
        at-place : (o : Option Place) → place_of l.places x ≡ o → is_entry l.nodes o ≡ true → sources_before l (node_in o) ≡ no_sources
        at-place None e f = cc
        at-place (Some (place.Image k)) e f = cc
        at-place (Some (place.Node k)) e f = fresh-at k (labelled-at l.places x k e)

    all-good : (e : Entry) (b : Option Label) → MayEnter e → MayBegin l b → (k : ℕ) → Good (mean_from l shape A (entered_state e (begins_at l b)) k).state
    all-good e b may begins k = always l shape A Good
        (λ s t bytes good g. (steps_fit l shape A s t bytes is (well_shaped l is.accepted) (has_functions l is.accepted) (formed-at s.at) good.0 g, sources-step s t bytes good g))
        (entered_state e (begins_at l b))
        (start_fits l shape is (well_shaped l is.accepted) (has_functions l is.accepted) e may b begins, at-fresh (entered_state e (begins_at l b)) (fresh-start b begins))
        k

    module _ (new_shape : TextShape) (en : new_shape.functions ≡ functions (rewritten l (stays l) no_targets).nodes) (et : new_shape.taken ≡ shape.taken) (size : ℕ) (are : AreAddresses (rewritten l (stays l) no_targets) size A) where
      abbrev m : LabelledNodes
      m = rewritten l (stays l) no_targets

      abbrev nu : ℕ → ℕ
      nu = new_number (stays l)

      abbrev p : Pair
      p = record { old = l; old_shape = shape; new = rewritten l (stays l) no_targets; new_shape = new_shape; addresses = A }

      abbrev t : Text
      t = text l shape A

      abbrev u : Text
      u = text (rewritten l (stays l) no_targets) new_shape A

      abbrev Lands : ℕ → ℕ → Type 0
      Lands k j = j ≡ new_number (stays l) k

      same : (n : Node) → IsRewritten t u nu Lands n n
      same n = (
        refl,
        λ e. record { second = refl; third = refl; leads = label-moved l (stays l) no_targets _ },
        λ e. (refl, λ c. label-moved l (stays l) no_targets _),
      )

      meets : (s k : State) → Good s → Dropped nu s k → stays l s.at ≡ true → Meets (Dropped nu) (step l shape A s) (step m new_shape A k)
      meets s k good a keeps =
          let n = node_within l.nodes s.at good.0.fits.inside in
          let here : k ≡ over nu s (nu s.at) a.bit a.result = a.is ∙ ap (λ i. over nu s i a.bit a.result) a.lands in
          subst (λ o. Meets (Dropped nu) (step_at t o s) (step m new_shape A k)) (sym n.1)
          (subst (λ x. Meets (Dropped nu) (node_step t n.0 n.0.op s) (step m new_shape A x)) (sym here)
          (subst (λ o. Meets (Dropped nu) (node_step t n.0 n.0.op s) (step_at u o (over nu s (nu s.at) a.bit a.result))) (sym (stands l (stays l) no_targets s.at n.0 n.1 keeps))
          (steps-meet t u nu Lands s (renumbers l (stays l) no_targets drops-rewrite is.accepted shape new_shape is.functions en et A size are Lands (λ i. refl) s.at keeps) a.bit a.result a.carries a.answers n.0 n.0 (same n.0))))

      rests : (s k : State) → Good s → Dropped nu s k → stays l s.at ≡ false → RestsAt (Dropped nu) (step l shape A s) k
      rests s k good a gone =
          let n = node_within l.nodes s.at good.0.fits.inside in
          let idle = idle-there s.at n.0 n.1 gone in
          let w = move-is n.0.op n.0.operands idle.move idle.is in
          subst (λ o. RestsAt (Dropped nu) (step_at t o s) k) (sym n.1)
          (idle-rests t s (sources_before l s.at) good.1 nu Lands k a (a.lands ∙ sym (ap nu (add-one s.at) ∙ number-goes (stays l) s.at gone)) n.0 idle.move.into idle.move.from w.0 w.1
          (not-fp n.0 idle.move (formed-at s.at n.0 n.1) idle.is) idle.idle)

      stepped : AreStepped p Good (Dropped nu) (λ s k. stays l s.at)
      stepped = record { meets = meets; rests = rests }

      -- what transfers control stays
      leaps-stay : (i : ℕ) → leaps_at (slice_get l.nodes i) ≡ true → (stays l i ≡ true) × (leaps_at (slice_get m.nodes (nu i)) ≡ true)
      leaps-stay i e = by (slice_get l.nodes i) (stays l i) refl refl e
        where
          by : (o : Option Node) (b : Bool) → slice_get l.nodes i ≡ o → stays l i ≡ b → leaps_at o ≡ true → (stays l i ≡ true) × (leaps_at (slice_get m.nodes (nu i)) ≡ true)
          by None b f s h = cc
          by (Some n) true f s h = (s, ap leaps_at (stands l (stays l) no_targets i n f s) ∙ h)
          by (Some n) false f s h = let no : false ≡ true = sym (drops-calm i s) ∙ ap leaps_at f ∙ h in cc

      -- the run of the new nodes follows
      pub are-dropped : FromEachStart l (rewritten l (stays l) no_targets) (RunIsDropped l shape (rewritten l (stays l) no_targets) new_shape (origins (stays l) (length l.nodes)) A)
      are-dropped e b may begins =
          let first : State = entered_state e (begins_at l b) in
          let second : State = entered_state e (begins_at m b) in
          let start : Dropped nu first second = record {
            at = begins_at m b;
            bit = carry.Undefined;
            result = None;
            is = start-over nu (number-zero (stays l)) e (begins_at l b) (begins_at m b);
            lands = beginning-moved l (stays l) no_targets b;
            carries = inl refl;
            answers = inl refl;
          } in (
            begins-moved l (stays l) no_targets drops-rewrite is.accepted b begins,
            (
              record {
                j = _;
                stays = stays l;
                to = nu;
                drops = drops p (stays l) nu Good (Dropped nu) (λ s k a. ap (λ (x : State). x.at) a.is ∙ a.lands) stepped drops-calm first second (all-good e b may begins) start;
                memory = drops-look p (stays l) nu Good (Dropped nu) (λ s k a. ap (λ (x : State). x.at) a.is ∙ a.lands) stepped drops-calm first second (all-good e b may begins) start
                    (λ s k a. ap memory_in a.is);
                leaps = leaps-stay;
              },
              numbered l (stays l) no_targets,
            ),
          )
