-- Where no node is refused, functions and calls stay within their limits.
use Rattle.std.proofs.Common.{◌≡◌, ℕ, zero, suc, ◌+◌, ◌<◌, ◌≤◌, Bool, true, false, ◌&&◌, cond, List, [], ◌∷◌, ◌⊎◌, inl, inr, ⊎_elim, Option, Some, None, refl, ap, ◌∙◌, length, get_or, add-one, arith}
use Rattle.std.specs.Prelude.{nat_lt, nat_le, slice_get}
use Rattle.std.specs.List.{find}
use Rattle.std.specs.Option.{option_map}
use Rattle.std.proofs.lemmas.Bool.{leb-false, ltb-false, cases_lt, or_parts}
use Rattle.std.proofs.lemmas.Option.{slice_get-get_or}
use Rattle.lg_base.specs.declared.refusal.Refusal.{Refusal}
use Rattle.lg_base.specs.declared.refusal.RefusalKind.{RefusalKind}
use Rattle.lg_op.specs.declared.op.Op.{Op}
use Rattle.lg_op.specs.declared.op.Op.TheVariants.{Control, Plain}
use Rattle.lg_op.specs.declared.op.ControlOp.TheVariants as control
use Rattle.lg_op.specs.declared.op.PlainOp.TheVariants as plain
use Rattle.lg_op.specs.declared.node.Node.{Node}
use Rattle.lg_node.specs.declared.preparation.Preparation.{Preparation}
use Rattle.lg_node.specs.Nodes.{LabelledNodes}
use Rattle.lg_node.specs.Functions.{local_size}
use Rattle.lg_node.specs.Preparations.{prepared_after, prepared_before, pushed_of}
use Rattle.lg_node.specs.Checks.{FailsAll, is_arg, args_before, locals_before, pushes_too_many, refuses, kinds, refusal_at, NoneBefore}
use Rattle.lg_node.specs.Walks.{walk_at, walk_after, IsWithinLimits}
use Rattle.lg_node.proofs.WalkLemmas.{walk_start, walk_on}

-- what an index after the last node would give
empty_node : Node
empty_node = record { op = Plain plain.Movi; operands = []; line = 0 }

fails_all : (p : RefusalKind → Bool) (ks : List RefusalKind) → find p ks ≡ None → FailsAll p ks
fails_all p [] e = tt
fails_all p (k ∷ ks) e = by (p k) refl e (fails_all p ks)
  where
    by : (b : Bool) → p k ≡ b → cond b (Some k) (find p ks) ≡ None → (find p ks ≡ None → FailsAll p ks) → (p k ≡ false) × FailsAll p ks
    by true t e rest = cc
    by false t e rest = (t, rest e)

-- a node that is not refused is refused by no kind
pub not_refused : (l : LabelledNodes) (i : ℕ) (n : Node) → slice_get l.nodes i ≡ Some n → refusal_at l i ≡ None → FailsAll (refuses l i n) kinds
unfolding refusal_at
not_refused l i n e r = fails_all (refuses l i n) kinds (by (find (refuses l i n) kinds) (rw e at r))
  where
    by : (o : Option RefusalKind) → option_map {U = Refusal} (λ k. record { kind = k; line = n.line }) o ≡ None → o ≡ None
    by None r = refl
    by (Some k) r = cc

args_on : (a : Bool) (args : ℕ) (op : Op) → is_arg op ≡ a → (is_arg op && nat_le 16 args) ≡ false → args ≤ 16 → args + cond (is_arg op) 1 0 ≤ 16
args_on true args op ea few h = let below : nat_le 16 args ≡ false = rw ea at few in rw ea (omega (arith, leb-false 16 args below))
args_on false args op ea few h = rw ea (omega arith)

pushed_on : (call : Option Preparation) (op : Op) → pushes_too_many call op ≡ false → pushed_of call ≤ 16 → pushed_of (prepared_after call op) ≤ 16
pushed_on None (Plain plain.Prepare) few h = omega arith
pushed_on (Some c) (Plain plain.Prepare) few h = omega arith
pushed_on None (Control control.Finish last) few h = omega arith
pushed_on (Some c) (Control control.Finish last) few h = omega arith
pushed_on (Some c) (Control control.Pusharg last) few h = omega (arith, leb-false 16 c.pushed few)
pushed_on None op few h = h
pushed_on (Some c) op few h = h

within : (b : Bool) (n most : ℕ) → n ≤ most → cond b n 0 ≤ most
within true n most h = h
within false n most h = omega arith

limits_on : (l : LabelledNodes) (i : ℕ) (n : Node) → slice_get l.nodes i ≡ Some n → refusal_at l i ≡ None → IsWithinLimits (walk_at l.nodes i) → IsWithinLimits (walk_at l.nodes (i + 1))
limits_on l i n e r limits =
    let none = not_refused l i n e r in
    let many = or_parts (is_arg n.op && nat_le 16 (args_before l.nodes i)) (pushes_too_many (prepared_before l.nodes i) n.op) none.1.1.1.1.1.0 in
    let big : nat_lt 65536 (locals_before l.nodes i + local_size n) ≡ false = none.1.1.1.1.1.1.0 in
    let few : args_before l.nodes i + cond (is_arg n.op) 1 0 ≤ 16 = args_on (is_arg n.op) (args_before l.nodes i) n.op refl many.0 limits.args in
    let small : locals_before l.nodes i + local_size n ≤ 65536 = ltb-false 65536 (locals_before l.nodes i + local_size n) big in
    let behind : IsWithinLimits (walk_after (walk_at l.nodes i) i n) = record {
      args = within _ (args_before l.nodes i + cond (is_arg n.op) 1 0) 16 few;
      locals = within _ (locals_before l.nodes i + local_size n) 65536 small;
      pushed = pushed_on (prepared_before l.nodes i) n.op many.1 limits.pushed;
    } in
    rw (walk_on l.nodes i n e) at behind

pub limits_at : (l : LabelledNodes) (i : ℕ) → i ≤ length l.nodes → NoneBefore l i → IsWithinLimits (walk_at l.nodes i)
limits_at l zero h none = rw (walk_start l.nodes) record { args = omega arith; locals = omega arith; pushed = omega arith }
limits_at l (suc i) h none = next (limits_at l i (omega arith) (λ j below. none j (omega arith)))
  where
    next : IsWithinLimits (walk_at l.nodes i) → IsWithinLimits (walk_at l.nodes (suc i))
    next limits = rw (← add-one) (limits_on l i (get_or l.nodes i empty_node) (slice_get-get_or l.nodes i empty_node (omega arith)) (none i (omega arith)) limits)

-- one node more that is not refused
pub none_on : (l : LabelledNodes) (i : ℕ) → NoneBefore l i → refusal_at l i ≡ None → NoneBefore l (i + 1)
none_on l i none here j h = ⊎_elim (λ (e : j ≡ i). ap (refusal_at l) e ∙ here) (λ (b : j < i). none j b) (last (cases_lt j i))
  where
    last : (j < i) ⊎ (i ≤ j) → (j ≡ i) ⊎ (j < i)
    last (inl b) = inr b
    last (inr b) = inl (omega arith)

-- where no node at all is refused
pub limits_before : (l : LabelledNodes) (i : ℕ) → i ≤ length l.nodes → NoneBefore l (length l.nodes) → IsWithinLimits (walk_at l.nodes i)
limits_before l i h none = limits_at l i h (λ j b. none j (omega arith))
