-- Resolved nodes go on as the nodes for which they stand.
use Rattle.std.proofs.Common.{◌≡◌, ◌<◌, ◌⊎◌, inl, inr, ⊎_elim, ℕ, zero, suc, Bool, true, false, List, [], ◌∷◌, ◌++◌, Option, Some, None, refl, sym, ap, ◌∙◌, subst, length}
use Rattle.std.specs.Prelude.{IfNone, IfSome, slice_get}
use Rattle.std.proofs.KnownBytes.{Appends-nil}
use Rattle.std.proofs.lemmas.Option.{same_Some}
use Rattle.std.specs.Option.{option_and_then}
use Rattle.lg_base.specs.Words.{add_words}
use Rattle.lg_op.specs.declared.node.Node.{Node}
use Rattle.lg_op.specs.declared.op.Op.{Op}
use Rattle.lg_op.specs.declared.op.Op.TheVariants as op
use Rattle.lg_op.specs.declared.op.Condition.{Condition}
use Rattle.lg_op.specs.declared.op.StoreType.{StoreType}
use Rattle.lg_op.specs.declared.op.Addressing.{Addressing}
use Rattle.lg_op.specs.declared.op.LastOperand.{LastOperand}
use Rattle.lg_node.specs.declared.place.Place.{Place}
use Rattle.lg_meaning.specs.States.{State}
use Rattle.lg_node.specs.Nodes.{LabelledNodes}
use Rattle.lg_node.specs.Shapes.{TextShape}
use Rattle.lg_meaning.specs.Texts.{text, step, step_at}
use Rattle.lg_meaning.specs.Steps.{Outcome, Goes, Ends, Undefined, Text, need, is_indexed, operand_at, node_of_label, branch_step, store_step, store_to, node_step}
use Rattle.lg_mean.specs.declared.resolved.Act.TheVariants as act
use Rattle.lg_mean.specs.declared.resolved.ResolvedNode.{ResolvedNode}
use Rattle.lg_mean.specs.declared.mean_step.MeanStep.{MeanStep}
use Rattle.lg_mean.specs.declared.mean_step.MeanStep.TheVariants as mean
use Rattle.lg_mean.specs.Says.{Does, Steps}
use Rattle.lg_mean.specs.Resolved.{IsRegister, IsSource, IsResolved, acts, resolved_step, register_at, source_at}

-- ---- whatever the places and addresses
pub with_places : (A : List ℕ) (places : List (Option Place)) (n : Node) (o : Option ResolvedNode) → IfSome o (λ q. (t : Text) → t.addresses ≡ A → IsResolved t n q) → IfSome o (λ q. (t : Text) → t.addresses ≡ A → t.places ≡ places → IsResolved t n q)
with_places A places n None h = h
with_places A places n (Some q) h = λ t e f. h t e

pub with_all : (A : List ℕ) (places : List (Option Place)) (n : Node) (o : Option ResolvedNode) → IfSome o (λ q. (t : Text) → IsResolved t n q) → IfSome o (λ q. (t : Text) → t.addresses ≡ A → t.places ≡ places → IsResolved t n q)
with_all A places n None h = h
with_all A places n (Some q) h = λ t e f. h t

-- ---- a branch
module _ (t : Text) (n : Node) (q : ResolvedNode) (c : Condition) (last : LastOperand) (is : n.op ≡ op.Branch c last) (does : q.act ≡ act.Branch c) (second : IsRegister (operand_at n 1) q.second) (third : IsSource t.addresses (operand_at n 2) q.third q.number) (target : q.target ≡ node_of_label t.places (operand_at n 0)) where
  same_branch : (s : State) → branch_step t n c s ≡ acts q (act.Branch c) s
  same_branch s = rw (second.word t.addresses s, third.word s, target)

  branch_goes : (s : State) → node_step t n n.op s ≡ resolved_step q s
  branch_goes s = ap (λ (o : Op). node_step t n o s) is ∙ same_branch s ∙ ap (λ a. acts q a s) (sym does)

  pub branch_resolved : q.first < 7 → IsResolved t n q
  branch_resolved first = record {
    placed = record { first_is = first; second_is = second.bound; third_is = third.bound };
    goes = λ s u bytes e. branch_goes s ∙ e;
  }

-- ---- a store to a sum
need_sum : (x y : Option ℕ) (f : ℕ → Outcome) → need (option_and_then (λ a. option_and_then (λ b. Some (add_words a b)) y) x) f ≡ need x (λ a. need y (λ b. f (add_words a b)))
need_sum None y f = refl
need_sum (Some a) None f = refl
need_sum (Some a) (Some b) f = refl

module _ (t : Text) (n : Node) (q : ResolvedNode) (st : StoreType) (at : Addressing) (is : n.op ≡ op.Store st at) (indexed : is_indexed at ≡ true) (does : q.act ≡ act.StoreSum st) (first : IsRegister (operand_at n 2) q.first) (second : IsRegister (operand_at n 1) q.second) (third : IsSource t.addresses (operand_at n 0) q.third q.number) where
  same_store : (s : State) → store_step t.addresses n st at s ≡ acts q (act.StoreSum st) s
  same_store s =
      let f : ℕ → Outcome = λ a. need (register_at s q.first) (λ v. store_to s st a v) in
      rw (indexed, third.word s, second.word t.addresses s, first.word t.addresses s) (need_sum (source_at s q.third q.number) (register_at s q.second) f)

  store_goes : (s : State) → node_step t n n.op s ≡ resolved_step q s
  store_goes s = ap (λ (o : Op). node_step t n o s) is ∙ same_store s ∙ ap (λ a. acts q a s) (sym does)

  pub store_sum_resolved : IsResolved t n q
  store_sum_resolved = record {
    placed = record { first_is = first.bound; second_is = second.bound; third_is = third.bound };
    goes = λ s u bytes e. store_goes s ∙ e;
  }

-- ---- the table
pushed : {X : Type 0} (xs : List X) (y q : X) (i : ℕ) → slice_get (xs ++ y ∷ []) i ≡ Some q → (slice_get xs i ≡ Some q) ⊎ ((i ≡ length xs) × (y ≡ q))
pushed [] y q zero h = inr (refl, cc)
pushed [] y q (suc i) h = cc
pushed (x ∷ xs) y q zero h = inl h
pushed (x ∷ xs) y q (suc i) h = ⊎_elim (λ a. inl a) (λ b. inr (ap suc b.0, b.1)) (pushed xs y q i h)

pub pushed_each : (nodes : List Node) (t : Text) (found : List ResolvedNode) (k : ℕ) (m : Node) (r : ResolvedNode) → length found ≡ k → slice_get nodes k ≡ Some m → IsResolved t m r
    → ((i : ℕ) (n : Node) (q : ResolvedNode) → slice_get nodes i ≡ Some n → slice_get found i ≡ Some q → IsResolved t n q)
    → (i : ℕ) (n : Node) (q : ResolvedNode) → slice_get nodes i ≡ Some n → slice_get (found ++ r ∷ []) i ≡ Some q → IsResolved t n q
pushed_each nodes t found k m r len here is each i n q e f = ⊎_elim
    (λ (a : slice_get found i ≡ Some q). each i n q e a)
    (λ (b : (i ≡ length found) × (r ≡ q)).
    let same : m ≡ n = same_Some m n (sym here ∙ ap (slice_get nodes) (sym (b.0 ∙ len)) ∙ e) in
    subst (λ (x : ResolvedNode). IsResolved t n x) b.1 (subst (λ (x : Node). IsResolved t x r) same is))
    (pushed found r q i f)

-- ---- a step that goes
does_goes : (o : Outcome) (s u : State) (went : Bool) → went ≡ true → Does o s went u → o ≡ Goes u []
does_goes (Goes v bytes) s u went e d = rw (d.1, d.2)
does_goes (Ends n) s u went e d = absurd d
does_goes Undefined s u went e d = let f : false ≡ true = sym d.0 ∙ e in cc

pub resolved_goes : (l : LabelledNodes) (shape : TextShape) (A : List ℕ) (n : Node) (q : ResolvedNode) (s u : State) (went : Bool) → slice_get l.nodes s.at ≡ Some n → IsResolved (text l shape A) n q → went ≡ true → Does (resolved_step q s) s went u → step l shape A s ≡ Goes u []
resolved_goes l shape A n q s u went here r e d = ap (λ (o : Option Node). step_at (text l shape A) o s) here ∙ r.goes s u [] (does_goes (resolved_step q s) s u went e d)

pub goes_says : (l : LabelledNodes) (shape : TextShape) (A : List ℕ) (s u : State) (line : ℕ) (out : Option (List ℕ)) (faults : ℕ) → step l shape A s ≡ Goes u [] → Steps (step l shape A s) line s mean.Went u out out faults faults
goes_says l shape A s u line out faults e = rw e (inl (refl, refl, Appends-nil out))

pub stays_state : (o : Outcome) (s u : State) (went : Bool) → went ≡ false → Does o s went u → u ≡ s
stays_state (Goes v bytes) s u went e d = let f : true ≡ false = sym d.0 ∙ e in cc
stays_state (Ends n) s u went e d = absurd d
stays_state Undefined s u went e d = d.1

pub if_none : (o : Option MeanStep) (P : Type 0) → P → IfNone o P
if_none None P p = p
if_none (Some a) P p = tt
