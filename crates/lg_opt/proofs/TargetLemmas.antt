-- Where the jumps of accepted nodes lead, and the targets of threaded ones.
use Rattle.std.proofs.Common.{◌≡◌, ℕ, zero, suc, ◌<◌, Bool, true, false, not, ◌&&◌, nat_lt, nat_le, List, [], ◌∷◌, Option, Some, None, length, refl, sym, ap, ◌∙◌, subst, arith}
use Rattle.std.specs.Prelude.{◌-◌, if◌then◌else◌, slice_get, slice_index_or}
use Rattle.std.specs.List.{All}
use Rattle.std.proofs.lemmas.List.Elements.{All-get_or}
use Rattle.std.proofs.lemmas.Option.{slice_get_within, get_or_from_slice_get}
use Rattle.std.proofs.lemmas.Bool.{true≢false}
use Rattle.lg_base.specs.Runs.{iter}
use Rattle.lg_temp.proofs.Steps.{iter-zero, iter-suc}
use Rattle.lg_op.specs.Forms.{last_form, forms_of, admit}
use Rattle.lg_op.specs.Nodes.{InForm}
use Rattle.lg_op.specs.declared.form.Form.{Form}
use Rattle.lg_op.specs.declared.form.Form.TheVariants as form
use Rattle.lg_op.specs.declared.node.Node.{Node}
use Rattle.lg_op.specs.declared.op.Op.{Op}
use Rattle.lg_op.specs.declared.op.Op.TheVariants as op
use Rattle.lg_op.specs.declared.op.ControlOp.TheVariants as control
use Rattle.lg_op.specs.declared.op.LastOperand.TheVariants as last_operand
use Rattle.lg_op.specs.declared.operand.Label.{Label}
use Rattle.lg_op.specs.declared.operand.Operand.{Operand}
use Rattle.lg_op.specs.declared.operand.Operand.TheVariants as operand
use Rattle.lg_node.specs.declared.place.Place.{Place}
use Rattle.lg_node.specs.declared.place.Place.TheVariants as place
use Rattle.lg_node.specs.Checks.{IsAccepted}
use Rattle.lg_node.specs.Functions.{is_prolog, is_prolog_at, home}
use Rattle.lg_node.specs.Labels.{place_of, is_labelled}
use Rattle.lg_node.specs.Nodes.{LabelledNodes}
use Rattle.lg_node.specs.ShapeLaws.{has_target, JumpsTo, IsWellShaped}
use Rattle.lg_node.proofs.FunctionLaws.{home_within}
use Rattle.lg_node.proofs.WellShaped.{well_shaped}
use Rattle.lg_meaning.specs.Steps.{operand_at, node_in, node_of_label}
use Rattle.lg_meaning.proofs.NodeFacts.{target_first}
use Rattle.lg_opt.specs.Goals.{lead, turns, goal_node, next_stays, stays}
use Rattle.lg_opt.specs.Hops.{is_jump, is_jump_at, jump_at, hop_of, hop, JumpsWithin}
use Rattle.lg_opt.specs.Remaining.{new_number, with_first, retargeted, rewritten, may_go, IsRewriting}
use Rattle.lg_opt.specs.Targets.{target_node, end_of, AreTargets}
use Rattle.lg_opt.proofs.GoalLemmas.{rests-there, lead-on, ends-on, turns-on}
use Rattle.lg_opt.proofs.LabelLemmas.{labelled-at}
use Rattle.lg_opt.proofs.MovedLemmas.{label-moved}

pub jump-targets : (o : Op) → is_jump o ≡ true → has_target o ≡ true
jump-targets (op.Control control.Jmp last_operand.Immediate) e = refl
jump-targets o e = cc

pub jump-may-go : (o : Op) → is_jump o ≡ true → may_go o ≡ true
jump-may-go (op.Control control.Jmp last_operand.Immediate) e = refl
jump-may-go o e = cc

no-prolog : (o : Op) → is_jump o ≡ true → is_prolog o ≡ false
no-prolog (op.Control control.Jmp last_operand.Immediate) e = refl
no-prolog o e = cc

target-forms : (p : Op) → has_target p ≡ true → (fs : List Form) × (forms_of p ≡ form.Target ∷ fs)
target-forms (op.Branch c last) e = (form.Read ∷ last_form last ∷ [], refl)
target-forms (op.BranchSum o last) e = (form.Update ∷ last_form last ∷ [], refl)
target-forms (op.Control control.Jmp last_operand.Immediate) e = ([], refl)
target-forms p e = cc

-- the label that is the target
pub record HasTarget (l : LabelledNodes) (i : ℕ) (n : Node) : Type 0 where
  pub label : Label
  pub rest : List Operand
  pub operands : n.operands ≡ operand.Label label ∷ rest
  pub leads : JumpsTo l (home l.nodes i) (place_of l.places label)
  pub place : place_of l.places label ≡ Some (place.Node (target_node l n))

module _ (l : LabelledNodes) (a : IsAccepted l) (formed : All InForm l.nodes) where
  w : IsWellShaped l
  w = well_shaped l a

  pub formed-at : (i : ℕ) (n : Node) → slice_get l.nodes i ≡ Some n → InForm n
  formed-at i n e = subst InForm (get_or_from_slice_get l.nodes i n n e) (All-get_or InForm l.nodes i n (slice_get_within l.nodes i n e) formed)

  placed : (h : Option ℕ) (o : Option Place) → JumpsTo l h o → o ≡ Some (place.Node (node_in o))
  placed None o j = j.place ∙ ap (λ k. Some (place.Node k)) (sym (ap node_in j.place))
  placed (Some p) o j = j.place ∙ ap (λ k. Some (place.Node k)) (sym (ap node_in j.place))

  pub target-of : (i : ℕ) (n : Node) → slice_get l.nodes i ≡ Some n → has_target n.op ≡ true → HasTarget l i n
  target-of i n e t =
      let fs = target-forms n.op t in
      let y = target_first fs.0 n.operands (ap (λ f. admit f n.operands) (sym fs.1) ∙ (formed-at i n e).forms) in
      let j = w.jumps i n y.0 y.1 e t y.2 in
      record {
        label = y.0;
        rest = y.1;
        operands = y.2;
        leads = j;
        place = placed (home l.nodes i) (place_of l.places y.0) j
            ∙ ap (λ k. Some (place.Node k)) (sym (ap (λ (xs : List Operand). node_of_label l.places (slice_index_or xs 0 (operand.Number 0))) y.2));
      }

  -- the node of a jump, and where it goes
  pub record IsJump (i : ℕ) : Type 0 where
    pub node : Node
    pub here : slice_get l.nodes i ≡ Some node
    pub jumps : is_jump node.op ≡ true
    pub goes : hop l i ≡ target_node l node

  pub jump-there : (i : ℕ) → jump_at l i ≡ true → IsJump i
  jump-there i e = by (slice_get l.nodes i) refl e
    where
      by : (o : Option Node) → slice_get l.nodes i ≡ o → is_jump_at o ≡ true → IsJump i
      by None f e = cc
      by (Some n) f e = record { node = n; here = f; jumps = e; goes = ap (hop_of l.places i) f ∙ ap (λ b. if b then node_of_label l.places (operand_at n 0) else i) e }

  -- ---- each jump goes to a label, in its function
  abbrev Reached : Option ℕ → ℕ → Type 0
  Reached h k = JumpsTo l h (Some (place.Node k))

  some-node : {x y : ℕ} → ◌≡◌ {A = Option Place} (Some (place.Node x)) (Some (place.Node y)) → x ≡ y
  some-node e = cc

  hop-reached : (h : Option ℕ) (k : ℕ) → Reached h k → Reached h (hop l k)
  hop-reached h k r = by (jump_at l k) refl
    where
      jumped : (h : Option ℕ) → Reached h k → jump_at l k ≡ true → Reached h (hop l k)
      jumped None r e =
          let j = jump-there k e in
          let same : k ≡ r.node = some-node r.place in
          let begins : is_prolog_at (slice_get l.nodes k) ≡ true = ap (λ i. is_prolog_at (slice_get l.nodes i)) same ∙ w.prologs r.node r.entry in
          absurd (true≢false (sym begins ∙ ap is_prolog_at j.here ∙ no-prolog j.node.op j.jumps))
      jumped (Some p) r e =
          let j = jump-there k e in
          let t = target-of k j.node j.here (jump-targets j.node.op j.jumps) in
          let same : k ≡ r.node = some-node r.place in
          let home-is : home l.nodes k ≡ Some p = ap (home l.nodes) same ∙ r.inside in
          subst (λ o. JumpsTo l (Some p) o) (t.place ∙ ap (λ i. Some (place.Node i)) (sym j.goes)) (subst (λ h. JumpsTo l h (place_of l.places t.label)) home-is t.leads)

      by : (b : Bool) → jump_at l k ≡ b → Reached h (hop l k)
      by true e = jumped h r e
      by false e = subst (Reached h) (sym (rests-there l k e)) r

  iter-reached : (h : Option ℕ) (k m : ℕ) → Reached h k → Reached h (iter (hop l) m k)
  iter-reached h k zero r = subst (Reached h) (sym (iter-zero (hop l) k)) r
  iter-reached h k (suc m) r = subst (Reached h) (sym (iter-suc (hop l) m k)) (hop-reached h (iter (hop l) m k) (iter-reached h k m r))

  -- from a label to labels
  pub jump-labelled : (k : ℕ) → jump_at l k ≡ true → is_labelled l.places (hop l k) ≡ true
  jump-labelled k e =
      let j = jump-there k e in
      let t = target-of k j.node j.here (jump-targets j.node.op j.jumps) in
      ap (is_labelled l.places) j.goes ∙ labelled-at l.places t.label (target_node l j.node) t.place

  hop-labelled : (k : ℕ) → is_labelled l.places k ≡ true → is_labelled l.places (hop l k) ≡ true
  hop-labelled k h = by (jump_at l k) refl
    where
      by : (b : Bool) → jump_at l k ≡ b → is_labelled l.places (hop l k) ≡ true
      by true e = jump-labelled k e
      by false e = ap (is_labelled l.places) (rests-there l k e) ∙ h

  iter-labelled : (k m : ℕ) → is_labelled l.places k ≡ true → is_labelled l.places (iter (hop l) m k) ≡ true
  iter-labelled k zero h = ap (is_labelled l.places) (iter-zero (hop l) k) ∙ h
  iter-labelled k (suc m) h = ap (is_labelled l.places) (iter-suc (hop l) m k) ∙ hop-labelled (iter (hop l) m k) (iter-labelled k m h)

  pub lead-labelled : (k : ℕ) → is_labelled l.places k ≡ true → is_labelled l.places (lead l k) ≡ true
  lead-labelled k h = iter-labelled k (length l.nodes) h

  -- jumps go to nodes
  reached-within : (h : Option ℕ) (k : ℕ) → Reached h k → k < length l.nodes
  reached-within None k r = let same : k ≡ r.node = some-node r.place in let lt = home_within l.nodes r.node r.node r.entry in omega arith
  reached-within (Some p) k r = let same : k ≡ r.node = some-node r.place in let lt = home_within l.nodes r.node p r.inside in omega arith

  pub target-within : (i : ℕ) (n : Node) → slice_get l.nodes i ≡ Some n → has_target n.op ≡ true → target_node l n < length l.nodes
  target-within i n e t = let h = target-of i n e t in reached-within (home l.nodes i) (target_node l n) (subst (λ o. JumpsTo l (home l.nodes i) o) h.place h.leads)

  pub jumps-within : JumpsWithin l
  jumps-within i lt = by (jump_at l i) refl
    where
      by : (b : Bool) → jump_at l i ≡ b → hop l i < length l.nodes
      by true e = let j = jump-there i e in subst (λ k. k < length l.nodes) (sym j.goes) (target-within i j.node j.here (jump-targets j.node.op j.jumps))
      by false e = subst (λ k. k < length l.nodes) (sym (rests-there l i e)) lt

  -- another node than a jump is its own end
  iter-rests : (k m : ℕ) → jump_at l k ≡ false → iter (hop l) m k ≡ k
  iter-rests k zero e = iter-zero (hop l) k
  iter-rests k (suc m) e = iter-suc (hop l) m k ∙ ap (hop l) (iter-rests k m e) ∙ rests-there l k e

  pub lead-rests : (k : ℕ) → jump_at l k ≡ false → lead l k ≡ k
  lead-rests k e = iter-rests k (length l.nodes) e

  -- only a jump turns
  pub turning-jumps : (k : ℕ) → turns l k ≡ true → jump_at l k ≡ true
  turning-jumps k e = by (jump_at l k) refl
    where
      by : (b : Bool) → jump_at l k ≡ b → jump_at l k ≡ true
      by true f = f
      by false f = absurd (true≢false (sym e ∙ ap (jump_at l) (lead-rests k f) ∙ f))

  -- where a jump leads there is a label
  pub goal-labelled : (i : ℕ) → i < length l.nodes → jump_at l i ≡ true → is_labelled l.places (goal_node l i) ≡ true
  goal-labelled i lt j = by (turns l i) refl
    where
      by : (b : Bool) → turns l i ≡ b → is_labelled l.places (goal_node l i) ≡ true
      by true e = ap (is_labelled l.places) (ap (λ b. if b then hop l i else lead l i) e) ∙ jump-labelled i j
      by false e =
          ap (is_labelled l.places) (ap (λ b. if b then hop l i else lead l i) e ∙ sym (lead-on l jumps-within i lt e)) ∙ lead-labelled (hop l i) (jump-labelled i j)

  -- a jump and where it goes have one end
  pub goal-is : (i : ℕ) → i < length l.nodes → end_of l (hop l i) ≡ goal_node l i
  goal-is i lt = by (turns l i) refl
    where
      by : (b : Bool) → turns l i ≡ b → end_of l (hop l i) ≡ goal_node l i
      by true e = ap (λ b. if b then hop l i else lead l (hop l i)) (turns-on l jumps-within i lt e).1 ∙ sym (ap (λ b. if b then hop l i else lead l i) e)
      by false e = ap (λ b. if b then hop l i else lead l (hop l i)) (ends-on l jumps-within i lt e) ∙ lead-on l jumps-within i lt e ∙ sym (ap (λ b. if b then hop l i else lead l i) e)

  -- only jumps are dropped
  pub others-stay : (i : ℕ) → jump_at l i ≡ false → stays l i ≡ true
  others-stay i e = ap (λ b. not (b && (nat_lt i (goal_node l i) && nat_le (goal_node l i) (next_stays l (length l.nodes - suc i))))) e

  pub dropped-jumps : (i : ℕ) → stays l i ≡ false → jump_at l i ≡ true
  dropped-jumps i s = by (jump_at l i) refl
    where
      by : (b : Bool) → jump_at l i ≡ b → jump_at l i ≡ true
      by true e = e
      by false e = absurd (true≢false (sym (others-stay i e) ∙ s))

  module _ (targets : ℕ → Option Label) (are : AreTargets l targets) where
    pub threads-rewrite : IsRewriting l (stays l) targets
    threads-rewrite = record {
      goes = λ i n e s. let j = jump-there i (dropped-jumps i s) in jump-may-go n.op (ap is_jump_at (sym e) ∙ dropped-jumps i s);
      leads = λ i n y e t.
          let o = are.others i n y e t in
          let h = target-of i n e o.jumps in
          (o.jumps, subst (λ p. JumpsTo l (home l.nodes i) p) (sym o.place) (iter-reached (home l.nodes i) (target_node l n) (length l.nodes) (subst (λ p. JumpsTo l (home l.nodes i) p) h.place h.leads)));
    }

    -- a node that is neither branch nor jump is as it was
    pub same-node : (i : ℕ) (n : Node) → slice_get l.nodes i ≡ Some n → has_target n.op ≡ false → retargeted (targets i) n ≡ n
    same-node i n e f = by (targets i) refl
      where
        by : (o : Option Label) → targets i ≡ o → retargeted o n ≡ n
        by None g = refl
        by (Some y) g = absurd (true≢false (sym (are.others i n y e g).jumps ∙ f))

    -- the new target is the new number of the end
    pub target-moved : (i : ℕ) (n : Node) → slice_get l.nodes i ≡ Some n → has_target n.op ≡ true
        → node_of_label (rewritten l (stays l) targets).places (operand_at (retargeted (targets i) n) 0) ≡ new_number (stays l) (end_of l (target_node l n))
    target-moved i n e t = label-moved l (stays l) targets (operand_at (retargeted (targets i) n) 0) ∙ ap (new_number (stays l)) (by (targets i) refl)
      where
        first : (xs : List Operand) (x y : Label) (rest : List Operand) → xs ≡ operand.Label x ∷ rest → slice_index_or (with_first xs y) 0 (operand.Number 0) ≡ operand.Label y
        first xs x y rest e = ap (λ zs. slice_index_or (with_first zs y) 0 (operand.Number 0)) e

        by : (o : Option Label) → targets i ≡ o → node_of_label l.places (operand_at (retargeted o n) 0) ≡ end_of l (target_node l n)
        by None f = sym (are.own i n e t f)
        by (Some y) f =
            let o = are.others i n y e f in
            let h = target-of i n e t in
            ap (node_of_label l.places) (first n.operands h.label y h.rest h.operands) ∙ ap node_in o.place ∙ sym (ap (λ b. if b then target_node l n else lead l (target_node l n)) o.ends)
