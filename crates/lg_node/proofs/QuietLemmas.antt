-- Nothing refuses a node that is quiet.
use Rattle.std.proofs.Common.{◌≡◌, ℕ, ◌≤◌, Bool, true, false, not, ◌&&◌, List, [], ◌∷◌, Option, None, Some, is_none, is_some, refl, sym, ap, ◌∙◌, arith}
use Rattle.std.specs.Prelude.{slice_get}
use Rattle.std.specs.List.{find, list_any}
use Rattle.std.proofs.lemmas.Bool.{and_parts, or_parts, or_from}
use Rattle.std.proofs.lemmas.Bool.Decides.{nat_tests}
use Rattle.lg_base.specs.declared.refusal.RefusalKind.{RefusalKind}
use Rattle.lg_op.specs.Forms.{forms_of}
use Rattle.lg_op.specs.declared.node.Node.{Node}
use Rattle.lg_op.specs.declared.op.Op.{Op}
use Rattle.lg_op.specs.declared.op.Op.TheVariants as op
use Rattle.lg_op.specs.declared.operand.Operand.{Operand}
use Rattle.lg_op.specs.declared.operand.Operand.TheVariants as operand
use Rattle.lg_node.specs.declared.place.Place.{Place}
use Rattle.lg_node.specs.declared.walk.Walk.{Walk}
use Rattle.lg_node.specs.Nodes.{LabelledNodes}
use Rattle.lg_node.specs.Functions.{home_of, open_before, home, local_size}
use Rattle.lg_node.specs.Labels.{is_labelled}
use Rattle.lg_node.specs.Preparations.{prepared_before, varies_before}
use Rattle.lg_node.specs.Checks.{FailsAll, is_label, is_missing, is_bad_call, is_too_big, locals_before, refusal_at, refuses, kinds}
use Rattle.lg_node.specs.Walks.{is_mark, is_quiet, walk_at, walk_after, IsWithinLimits}
use Rattle.lg_node.proofs.AstrayLemmas.{none_astray}
use Rattle.lg_node.proofs.MarkLemmas.{inner, unmarked}
use Rattle.lg_node.proofs.WalkLemmas.{home_here}

find_none : (test : RefusalKind → Bool) (ks : List RefusalKind) → FailsAll test ks → find test ks ≡ None
find_none test [] h = refl
find_none test (k ∷ ks) h = rw h.0 (find_none test ks h.1)

found : (places : List (Option Place)) (x : Operand) → is_label x ≡ false → is_missing places x ≡ false
found places (operand.Label l) e = cc
found places x e = refl

none_missing : (places : List (Option Place)) (xs : List Operand) → list_any is_label xs ≡ false → list_any (is_missing places) xs ≡ false
none_missing places [] e = refl
none_missing places (x ∷ xs) e =
    let parts = or_parts (is_label x) (list_any is_label xs) e in
    or_from (is_missing places x) (list_any (is_missing places) xs) (found places x parts.0) (none_missing places xs parts.1)

good_call : (varies labelled : Bool) (o : Op) → is_mark o ≡ false → is_bad_call None varies labelled o ≡ false
good_call false labelled (op.Binary a b) e = refl
good_call false labelled (op.Wide a b) e = refl
good_call false labelled (op.Branch a b) e = refl
good_call false labelled (op.BranchSum a b) e = refl
good_call false labelled (op.Unary a) e = refl
good_call false labelled (op.Load a b) e = refl
good_call false labelled (op.Store a b) e = refl
good_call false labelled (op.Retval a) e = refl
good_call false labelled (op.Getarg a) e = refl
good_call varies labelled (op.Plain a) e = cc
good_call varies labelled (op.Control a b) e = cc
good_call true labelled other e = refl

false_of : (b : Bool) → not b ≡ true → b ≡ false
false_of false e = refl
false_of true e = sym e

none_of : {A : Type 0} (o : Option A) → is_none o ≡ true → o ≡ None
none_of None e = refl
none_of (Some x) e = cc

-- the kinds, one by one
none_refuses : (l : LabelledNodes) (i p : ℕ) (n : Node) → slice_get l.nodes i ≡ Some n → open_before l.nodes i ≡ Some p → prepared_before l.nodes i ≡ None → is_mark n.op ≡ false → list_any is_label n.operands ≡ false
    → locals_before l.nodes i ≤ 65536 → FailsAll (refuses l i n) kinds
none_refuses l i p n here opened call unmarked labels few =
    let t = inner p i None true n.operands n.op unmarked in
    let function : home l.nodes i ≡ Some p = home_here l.nodes i n here ∙ ap (λ h. home_of h i n.op) opened in
    let small : is_too_big (locals_before l.nodes i) (local_size n) ≡ false = ap (λ size. is_too_big (locals_before l.nodes i) size) t.3 ∙ grind (arith, nat_tests) in (
      none_missing l.places n.operands labels,
      (
        rw function refl,
        (
          rw t.1 refl,
          (
            none_astray l n.op (home l.nodes i) (forms_of n.op) n.operands labels,
            (rw call (good_call (varies_before l.nodes i) (is_labelled l.places i) n.op unmarked), (rw (t.2, call) refl, (small, tt))),
          ),
        ),
      ),
    )

by_function : (l : LabelledNodes) (i : ℕ) (n : Node) (function : Option ℕ) → slice_get l.nodes i ≡ Some n → open_before l.nodes i ≡ function → is_some function ≡ true → prepared_before l.nodes i ≡ None → is_mark n.op ≡ false → list_any is_label n.operands ≡ false
    → locals_before l.nodes i ≤ 65536 → FailsAll (refuses l i n) kinds
by_function l i n None here opened some call unmarked labels few = cc
by_function l i n (Some p) here opened some call unmarked labels few = none_refuses l i p n here opened call unmarked labels few

pub quiet : (l : LabelledNodes) (i : ℕ) (n : Node) (w : Walk) → slice_get l.nodes i ≡ Some n → w ≡ walk_at l.nodes i → IsWithinLimits w → is_quiet w n.op n.operands ≡ true → None ≡ find (refuses l i n) kinds
quiet l i n w here at limits is =
    let one = and_parts (is_some w.function) (is_none w.call && (not (is_mark n.op) && not (list_any is_label n.operands))) is in
    let two = and_parts (is_none w.call) (not (is_mark n.op) && not (list_any is_label n.operands)) one.1 in
    let three = and_parts (not (is_mark n.op)) (not (list_any is_label n.operands)) two.1 in
    let function = ap (λ (v : Walk). v.function) at in
    let call = ap (λ (v : Walk). v.call) at in
    let locals = ap (λ (v : Walk). v.locals) at in
    sym (find_none (refuses l i n) kinds
    (by_function l i n (open_before l.nodes i) here refl (sym (ap is_some function) ∙ one.0) (sym call ∙ none_of w.call two.0) (false_of (is_mark n.op) three.0) (false_of (list_any is_label n.operands) three.1) (omega (arith, limits.locals, locals))))

pub quiet_passes : (l : LabelledNodes) (i : ℕ) (n : Node) (w : Walk) → slice_get l.nodes i ≡ Some n → w ≡ walk_at l.nodes i → IsWithinLimits w → is_quiet w n.op n.operands ≡ true → refusal_at l i ≡ None
unfolding refusal_at
quiet_passes l i n w here at limits is = rw (here, sym (quiet l i n w here at limits is)) refl

pub quiet_stays : (w : Walk) (i : ℕ) (n : Node) → is_quiet w n.op n.operands ≡ true → w ≡ walk_after w i n
quiet_stays w i n is =
    let one = and_parts (is_some w.function) (is_none w.call && (not (is_mark n.op) && not (list_any is_label n.operands))) is in
    let two = and_parts (is_none w.call) (not (is_mark n.op) && not (list_any is_label n.operands)) one.1 in
    let three = and_parts (not (is_mark n.op)) (not (list_any is_label n.operands)) two.1 in
    unmarked w i n one.0 (false_of (is_mark n.op) three.0)
