-- Steps within a function keep the fit: to the next node, and to the target of a branch or jump.
use Rattle.std.proofs.Common.{◌≡◌, ◌⊎◌, ⊎_elim, ℕ, zero, suc, ◌+◌, ◌<◌, ◌≤◌, Bool, true, false, List, ◌∷◌, Option, Some, None, refl, sym, ap, ◌∙◌, length, arith}
use Rattle.std.specs.Prelude.{◌&&◌, ◌==◌, if◌then◌else◌, slice_get, slice_index, slice_index_or, max, nat_lt, nat_le}
use Rattle.std.proofs.lemmas.Bool.{and_parts}
use Rattle.lg_op.specs.declared.form.Form.{Form}
use Rattle.lg_op.specs.declared.form.Form.TheVariants as form
use Rattle.lg_op.specs.declared.node.Node.{Node}
use Rattle.lg_op.specs.declared.operand.Label.{Label}
use Rattle.lg_op.specs.declared.operand.Operand.{Operand}
use Rattle.lg_op.specs.declared.operand.Operand.TheVariants as operand
use Rattle.lg_op.specs.Forms.{admit}
use Rattle.lg_node.specs.declared.place.Place.{Place}
use Rattle.lg_node.specs.declared.place.Place.TheVariants as place
use Rattle.lg_node.specs.Nodes.{LabelledNodes}
use Rattle.lg_node.specs.Functions.{home, is_prolog, is_epilog}
use Rattle.lg_node.specs.Labels.{place_of}
use Rattle.lg_node.specs.Preparations.{prepared_before, pushed_of, variadic_of}
use Rattle.lg_node.specs.Checks.{is_begun, may_stand_outside, breaks_preparation}
use Rattle.lg_node.specs.Shapes.{TextShape}
use Rattle.lg_node.specs.ShapeLaws.{has_target, IsTargetIn, IsEntry, JumpsTo}
use Rattle.lg_meaning.specs.States.{State, value}
use Rattle.lg_meaning.specs.Steps.{operand_at, to, branch, node_in, node_of_label, later, landing, last_landing, function_here, is_after, is_target, jump_target, jump_step}
use Rattle.lg_meaning.specs.Texts.{text}
use Rattle.lg_meaning.specs.Fits.{FitsWell}
use Rattle.lg_meaning.proofs.ArriveLemmas.{GoesOn, within_function, next_within, into_function, next_outside}
use Rattle.lg_meaning.proofs.FallLemmas.{Moves, Falls, move}
use Rattle.lg_meaning.proofs.NodeFacts.{AtNode, prepares, still, target_first, in_some, running, prepared_next, unprepared_label, unprepared_here}
use Rattle.lg_meaning.proofs.Outcomes.{OnGoes, need_on}

-- ---- where a word leads
-- the place of a label at which a word lands
pub record Lands (test : ℕ → ℕ → Bool) (places : List (Option Place)) (k : ℕ) : Type 0 where
  pub label : ℕ
  pub bound : slice_get places label ≡ Some (Some (place.Node k))
  pub passes : test label k ≡ true

landed : (test : ℕ → ℕ → Bool) (places : List (Option Place)) (A : List ℕ) (w y k : ℕ) (o : Option (Option Place)) → slice_get places y ≡ o → landing test places A w y ≡ Some k → Lands test places k
landed test places A w y k (Some (Some (place.Node i))) e h = by (slice_index A y == w) (test y i) refl (rw e at h)
  where
    by : (b c : Bool) → test y i ≡ c → ◌≡◌ {A = Option ℕ} (if b && c then Some i else None) (Some k) → Lands test places k
    by true true ok h = let same : i ≡ k = cc in record { label = y; bound = rw (← same) e; passes = rw (← same) ok }
    by true false ok h = cc
    by false c ok h = cc
landed test places A w y k _ e h = let none : ◌≡◌ {A = Option ℕ} None (Some k) = rw e at h in cc

pub last_landed : (test : ℕ → ℕ → Bool) (places : List (Option Place)) (A : List ℕ) (w n k : ℕ) → last_landing test places A w n ≡ Some k → Lands test places k
unfolding last_landing
last_landed test places A w zero k h = let none : ◌≡◌ {A = Option ℕ} None (Some k) = h in cc
last_landed test places A w (suc n) k h = by (last_landed test places A w n k) (landing test places A w n) (last_landing test places A w n) refl refl h
  where
    either_of : (i j : ℕ) → (max i j ≡ i) ⊎ (max i j ≡ j)
    either_of i j = grind arith

    by : (last_landing test places A w n ≡ Some k → Lands test places k) → (a b : Option ℕ) → landing test places A w n ≡ a → last_landing test places A w n ≡ b → later a b ≡ Some k → Lands test places k
    by before None b ea eb h = before (eb ∙ h)
    by before (Some i) None ea eb h = landed test places A w n k (slice_get places n) refl (ea ∙ h)
    by before (Some i) (Some j) ea eb h =
        let top : max i j ≡ k = cc in
        ⊎_elim
        (λ (e : max i j ≡ i). landed test places A w n k (slice_get places n) refl (ea ∙ ap Some (sym e ∙ top)))
        (λ (e : max i j ≡ j). before (eb ∙ ap Some (sym e ∙ top)))
        (either_of i j)

-- ---- steps
module _ (l : LabelledNodes) (shape : TextShape) (s : State) (n : Node) (x : AtNode l shape s n) where
  -- a state that moves to a node at which as much is prepared
  pub moves_on : (t : State) (k : ℕ) → prepared_before l.nodes k ≡ prepared_before l.nodes s.at → Moves s t k → GoesOn l s t k
  moves_on t k same m = record {
    at = m.at;
    frame = m.frame;
    callers = m.callers;
    memory = λ a b e. rw (m.data_size, m.args_size, m.mark, m.frame, m.callers) (x.well.fits.memory a b (sym (ap (λ (f : ℕ → Option ℕ). f a) m.mem) ∙ e));
    heap = rw m.mark x.well.heap;
    pushed = ap length m.pushed ∙ x.well.fits.pushed ∙ sym (ap pushed_of same);
    variadic = m.variadic ∙ x.well.fits.variadic ∙ sym (ap variadic_of same);
  }

  same_prepared : prepares n.op ≡ false → prepared_before l.nodes (s.at + 1) ≡ prepared_before l.nodes s.at
  same_prepared silent = prepared_next l shape s n x ∙ still (prepared_before l.nodes s.at) n.op silent

  -- to the next node, of an operation that is in functions alone
  pub next_fits : (t : State) → may_stand_outside n.op (is_begun l.nodes s.at) ≡ false → is_prolog n.op ≡ false → is_epilog n.op ≡ false → GoesOn l s t (s.at + 1) → FitsWell l shape t
  next_fits t out pro epi g =
      let h = in_some l shape s n x out in
      next_within l shape s n x t h.0 (running l shape s n x h.0 h.1 pro) epi g

  pub falls_fit : may_stand_outside n.op (is_begun l.nodes s.at) ≡ false → is_prolog n.op ≡ false → is_epilog n.op ≡ false → prepares n.op ≡ false → (t : State) → Falls s t → FitsWell l shape t
  falls_fit out pro epi silent t m = next_fits t out pro epi (moves_on t (s.at + 1) (same_prepared silent) m)

  -- to the next node, of an operation that may be anywhere
  pub passes_fit : is_prolog n.op ≡ false → is_epilog n.op ≡ false → prepares n.op ≡ false → (t : State) → Falls s t → FitsWell l shape t
  passes_fit pro epi silent t m = by (home l.nodes s.at) refl
    where
      by : (o : Option ℕ) → home l.nodes s.at ≡ o → FitsWell l shape t
      by None e = next_outside l shape s n x e t pro (moves_on t (s.at + 1) (same_prepared silent) m)
      by (Some p) e = next_within l shape s n x t p (running l shape s n x p e pro) epi (moves_on t (s.at + 1) (same_prepared silent) m)

  -- ---- branches and jumps
  -- the label that is the target
  pub target_node : (fs : List Form) → admit (form.Target ∷ fs) n.operands ≡ true → has_target n.op ≡ true → (y : Label) × (JumpsTo l (home l.nodes s.at) (place_of l.places y)) × (node_of_label l.places (operand_at n 0) ≡ node_in (place_of l.places y))
  target_node fs first targets =
      let y = target_first fs n.operands first in (
        y.0,
        x.shaped.jumps s.at n y.0 y.1 x.here targets y.2,
        ap (λ (xs : List Operand). node_of_label l.places (slice_index_or xs 0 (operand.Number 0))) y.2,
      )

  module _ (fs : List Form) (first : admit (form.Target ∷ fs) n.operands ≡ true) (targets : has_target n.op ≡ true) (breaks : breaks_preparation n.op ≡ true) (pro : is_prolog n.op ≡ false) where
    -- to the target within a function
    pub jump_within : (p : ℕ) → home l.nodes s.at ≡ Some p → (t : State) → Moves s t (node_of_label l.places (operand_at n 0)) → FitsWell l shape t
    jump_within p h t m =
        let y = target_node fs first targets in
        let j : IsTargetIn l p (place_of l.places y.0) = rw h at y.1 in
        let same : node_of_label l.places (operand_at n 0) ≡ j.node = y.2 ∙ ap node_in j.place in
        let there : Moves s t j.node = rw same at m in
        within_function l shape s n x t j.node p (running l shape s n x p h pro) j.inside j.behind (moves_on t j.node (j.unprepared ∙ sym (unprepared_here l shape s n x breaks)) there)

    -- to the target outside of every function
    pub jump_outside : home l.nodes s.at ≡ None → (t : State) → Moves s t (node_of_label l.places (operand_at n 0)) → FitsWell l shape t
    jump_outside h t m =
        let y = target_node fs first targets in
        let j : IsEntry l (place_of l.places y.0) = rw h at y.1 in
        let same : node_of_label l.places (operand_at n 0) ≡ j.node = y.2 ∙ ap node_in j.place in
        let there : Moves s t j.node = rw same at m in
        into_function l shape s n x h t j.node j.entry (moves_on t j.node (j.unprepared ∙ sym (unprepared_here l shape s n x breaks)) there)

    pub jump_fits : (t : State) → Moves s t (node_of_label l.places (operand_at n 0)) → FitsWell l shape t
    jump_fits t m = by (home l.nodes s.at) refl
      where
        by : (o : Option ℕ) → home l.nodes s.at ≡ o → FitsWell l shape t
        by None e = jump_outside e t m
        by (Some p) e = jump_within p e t m

    -- a branch, that is taken or not
    pub branch_fits : may_stand_outside n.op (is_begun l.nodes s.at) ≡ false → is_epilog n.op ≡ false → prepares n.op ≡ false → (b : Bool) (regs : ℕ → Option ℕ) → OnGoes (FitsWell l shape) (branch b l.places (record s { regs = regs }) (operand_at n 0))
    branch_fits out epi silent true regs = jump_fits (to (record s { regs = regs }) (node_of_label l.places (operand_at n 0))) (move s _ _ _ _)
    branch_fits out epi silent false regs = falls_fit out pro epi silent (to (record s { regs = regs }) (s.at + 1)) (move s _ _ _ _)

  -- `jmpr`
  pub register_jump_fits : (A : List ℕ) → may_stand_outside n.op (is_begun l.nodes s.at) ≡ false → breaks_preparation n.op ≡ true → is_prolog n.op ≡ false → OnGoes (FitsWell l shape) (jump_step (text l shape A) n s)
  register_jump_fits A out breaks pro =
      need_on (FitsWell l shape) (value A s (operand_at n 0)) _ (λ w e. need_on (FitsWell l shape) (jump_target (text l shape A) s.at w) _ (λ k t. by w k t))
    where
      by : (w k : ℕ) → jump_target (text l shape A) s.at w ≡ Some k → FitsWell l shape (to s k)
      by w k t =
          let h = in_some l shape s n x out in
          let r = running l shape s n x h.0 h.1 pro in
          let d = last_landed (is_target (text l shape A) s.at) l.places A w (length l.places) k t in
          let behind : is_after (function_here shape.functions s.at) k ≡ true = (and_parts (slice_index_or shape.taken d.label false) (is_after (function_here shape.functions s.at) k) d.passes).1 in
          let range : (nat_lt r.function.entry k && nat_le k r.function.last) ≡ true = rw r.is.here at behind in
          let low : r.function.entry < k = grind arith in
          let high : k ≤ r.function.last = grind arith in
          let inside : home l.nodes k ≡ Some h.0 = r.is.is.all k (omega arith) high ∙ ap Some r.is.entry in
          let lt : h.0 < k = omega (arith, r.is.entry) in
          let none = unprepared_label l shape s n x d.label k h.0 d.bound inside in
          within_function l shape s n x (to s k) k h.0 r inside lt (moves_on (to s k) k (none ∙ sym (unprepared_here l shape s n x breaks)) (move s _ _ _ _))
