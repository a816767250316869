-- Rewritings one after the other.
use Rattle.std.proofs.Common.{◌≡◌, ℕ, zero, suc, ◌+◌, ◌-◌, ◌<◌, ◌≤◌, Bool, true, false, not, List, [], Option, Some, None, ◌∷◌, length, map, refl, sym, ap, ◌∙◌, subst, arith, Ok, Err}
use Rattle.std.specs.Prelude.{if◌then◌else◌, Result, IfOk, slice_get, slice_index}
use Rattle.std.proofs.lemmas.List.{length-map, get_or-map}
use Rattle.std.proofs.lemmas.Option.{slice_get_within, same_Some}
use Rattle.std.proofs.lemmas.Bool.{or_parts}
use Rattle.lg_op.specs.declared.node.Node.{Node}
use Rattle.lg_op.specs.declared.op.Op.{Op}
use Rattle.lg_op.specs.declared.op.Op.TheVariants as op
use Rattle.lg_op.specs.declared.operand.Operand.{Operand}
use Rattle.lg_op.specs.declared.operand.Reg.{Reg}
use Rattle.lg_node.specs.Nodes.{LabelledNodes}
use Rattle.lg_node.proofs.FunctionLaws.{node_within}
use Rattle.lg_live.specs.Definitions.{defines}
use Rattle.lg_opt.specs.Hops.{is_jump}
use Rattle.lg_opt.specs.Moves.{is_movr}
use Rattle.lg_opt.specs.Rewritings.{IsOrigin, IsSameNode, KeepsOthers, KeepsLabels}
use Rattle.lg_opt.proofs.ClauseLemmas.{Joined, origins-join}
use Rattle.lg_opt.proofs.RebuildLemmas.{same-lists}
use Rattle.lg_dead.specs.Folds.{IsFoldedNode, IsFoldedTo, ComesFolded}
use Rattle.lg_dead.specs.Known.{number_in, both_known, made, last_known, with_immediate, folded_by, folded, known_before}
use Rattle.lg_op.specs.Operators.{sets_carry, binary_value}
use Rattle.lg_dead.specs.Rewritten.{is_droppable}

pub origin-weaker : (R S : Node → Node → Type 0) (l m : LabelledNodes) (origin : List ℕ) → ((old n : Node) → R old n → S old n) → IsOrigin R l m origin → IsOrigin S l m origin
origin-weaker R S l m origin h o = record {
  count = o.count;
  rises = o.rises;
  nodes = λ k n e. let c = o.nodes k n e in (c.0, c.1, h c.0 n c.2);
}

pub others-weaker : (f g : Op → Bool) (l : LabelledNodes) (origin : List ℕ) → ((o : Op) → g o ≡ false → f o ≡ false) → KeepsOthers f l origin → KeepsOthers g l origin
others-weaker f g l origin h k i n e may = k i n e (h n.op may)

-- nodes that come folded, and others that come from them
pub folded-joins : (Stands : Node → Node → Type 0) (l m n : LabelledNodes) (first second : List ℕ) → ComesFolded IsSameNode l m first → IsOrigin Stands m n second
    → ComesFolded Stands l n (map (slice_index first) second)
folded-joins Stands l m n first second made o = record {
  middle = made.middle;
  folded = made.folded;
  from = origin-weaker (Joined IsSameNode Stands) Stands made.middle n (map (slice_index first) second) (λ old x j. subst (λ (a : Node). Stands a x) j.1 j.2)
      (origins-join IsSameNode Stands made.middle m n first second made.from o);
}

-- ---- which operations go

pub no-definition : (o : Op) → is_droppable o ≡ false → defines o ≡ false
no-definition o e = (or_parts (defines o) (is_jump o) e).0

pub no-jump : (o : Op) → is_droppable o ≡ false → is_jump o ≡ false
no-jump o e = (or_parts (defines o) (is_jump o) e).1

pub no-movr : (o : Op) → is_droppable o ≡ false → is_movr o ≡ false
no-movr o e = by o (no-definition o e)
  where
    by : (p : Op) → defines p ≡ false → is_movr p ≡ false
    by (op.Unary u) f = cc
    by p f = refl

made-defines : (known : Reg → Option ℕ) (o : Op) (xs : List Operand) (v : ℕ) → made known o xs ≡ Some v → defines o ≡ true
made-defines known (op.Binary o last) (d ∷ a ∷ b ∷ []) v e = by (sets_carry o) e
  where
    by : (c : Bool) → (if c then None else both_known (number_in known a) (number_in known b) (binary_value o)) ≡ Some v → not c ≡ true
    by true f = cc
    by false f = refl
made-defines known (op.Unary o) xs v e = refl
made-defines known o xs v e = cc

immediate-same : (known : Reg → Option ℕ) (o : Op) (xs : List Operand) (v : ℕ) → last_known known o xs ≡ Some v → is_droppable (with_immediate o) ≡ is_droppable o
immediate-same known (op.Binary o last) xs v e = refl
immediate-same known (op.Branch c last) xs v e = refl
immediate-same known o xs v e = cc

-- a node that may not be dropped is folded to one that may not
still : (known : Reg → Option ℕ) (n : Node) → is_droppable n.op ≡ false → is_droppable (folded known n).op ≡ false
still known n e = by (made known n.op n.operands) (last_known known n.op n.operands) refl refl
  where
    by : (a b : Option ℕ) → made known n.op n.operands ≡ a → last_known known n.op n.operands ≡ b → is_droppable (folded_by n a b).op ≡ false
    by (Some v) b f g = let no : ◌≡◌ {A = Bool} true false = sym (made-defines known n.op n.operands v f) ∙ no-definition n.op e in absurd (cc)
    by None (Some v) f g = immediate-same known n.op n.operands v g ∙ e
    by None None f g = e

pub folded-still : (old middle : Node) → IsFoldedNode old middle → is_droppable old.op ≡ false → is_droppable middle.op ≡ false
folded-still old middle f e = ap (λ (x : Node). is_droppable x.op) f.1 ∙ still f.0 old e

-- ---- after folding, which leaves every node in its place
module _ (l m n : LabelledNodes) (origin : List ℕ) (to : IsFoldedTo l m) where
  pub folded-origin : IsOrigin IsSameNode m n origin → IsOrigin IsFoldedNode l n origin
  folded-origin o = record {
    count = o.count;
    rises = o.rises;
    nodes = λ k x e.
        let c = o.nodes k x e in
        let lt : slice_index origin k < length l.nodes = (let z = slice_get_within m.nodes (slice_index origin k) c.0 c.1 in omega (arith, z, to.count)) in
        let old = node_within l.nodes (slice_index origin k) lt in
        let f : c.0 ≡ folded (known_before m (slice_index origin k)) old.0 = same_Some c.0 (folded (known_before m (slice_index origin k)) old.0) (sym c.1 ∙ to.nodes (slice_index origin k) old.0 old.1) in
        (old.0, old.1, (known_before m (slice_index origin k), c.2 ∙ f));
  }

  pub folded-others : KeepsOthers defines m origin → KeepsOthers is_droppable l origin
  folded-others k i x e may = k i (folded (known_before m i) x) (to.nodes i x e) (no-definition (folded (known_before m i) x).op (still (known_before m i) x may))

  pub folded-labels : KeepsLabels m n origin → KeepsLabels l n origin
  folded-labels k = record {
    words = k.words ∙ to.words;
    count = k.count ∙ ap length to.places;
    images = λ x j e. ap (λ ps. slice_get ps x) (sym to.places) ∙ k.images x j e;
    nodes = λ x i e. k.nodes x i (ap (λ ps. slice_get ps x) to.places ∙ e);
  }

pub ok-two : {A E : Type 0} (P Q R : A → Type 0) (r : Result A E) → ((x : A) → P x → Q x → R x) → IfOk r P → IfOk r Q → IfOk r R
ok-two P Q R (Ok x) f p q = f x p q
ok-two P Q R (Err e) f p q = tt

-- numbers below another that rise, as many as that, are all below it
module _ (xs : List ℕ) (rises : (i k : ℕ) → i < k → k < length xs → slice_index xs i < slice_index xs k) (within : (k : ℕ) → k < length xs → slice_index xs k < length xs) where
  not-less : (k : ℕ) → k < length xs → k ≤ slice_index xs k
  not-less zero lt = omega arith
  not-less (suc k) lt =
      let low = not-less k (omega (arith, lt)) in
      let up = rises k (suc k) (omega arith) lt in
      omega (arith, low, up)

  not-more : (d k : ℕ) → k + d + 1 ≡ length xs → slice_index xs k + d < length xs
  not-more zero k e = let w = within k (omega (arith, e)) in omega (arith, w)
  not-more (suc d) k e =
      let next = not-more d (suc k) (omega (arith, e)) in
      let up = rises k (suc k) (omega arith) (omega (arith, e)) in
      omega (arith, next, up)

  pub each-itself : (k : ℕ) → k < length xs → slice_index xs k ≡ k
  each-itself k lt =
      let low = not-less k lt in
      let high = not-more (length xs - 1 - k) k (omega (arith, lt)) in
      omega (arith, low, high, lt)

pub all_kept : (first second : List ℕ) → length second ≡ length first → ((k : ℕ) → k < length second → slice_index second k < length first)
    → ((i k : ℕ) → i < k → k < length second → slice_index second i < slice_index second k) → first ≡ map (slice_index first) second
all_kept first second e within rises =
    same-lists 0 first (map (slice_index first) second) (sym e ∙ sym (length-map second (slice_index first)))
    (λ k lt.
    let small : k < length second = omega (arith, lt, e) in
    sym (get_or-map (slice_index first) second k 0 0 small ∙ ap (slice_index first) (each-itself second rises (λ j less. let w = within j less in omega (arith, w, e)) k small)))
