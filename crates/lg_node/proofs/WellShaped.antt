-- Accepted nodes are well shaped.
use Rattle.std.proofs.Common.{◌≡◌, ◌⊎◌, inl, inr, ⊎_elim, ℕ, zero, suc, ◌+◌, ◌<◌, ◌≤◌, Bool, true, false, not, ◌&&◌, ◌||◌, cond, List, [], ◌∷◌, Option, Some, None, is_some, refl, sym, ap, ◌∙◌, length, arith}
use Rattle.std.specs.Prelude.{is_none, nat_le, slice_get, ◌==◌}
use Rattle.std.specs.List.{list_any}
use Rattle.std.specs.Option.{option_flatten}
use Rattle.std.proofs.lemmas.Bool.{and_parts, leb-false, eqb-true, eqb-false, eq-eqb, cases_lt, not-true, not-false, or_right, or_parts}
use Rattle.std.proofs.lemmas.Option.{slice_get_within}
use Rattle.lg_op.specs.Forms.{last_form, forms_of}
use Rattle.lg_op.specs.declared.form.Form.{Form}
use Rattle.lg_op.specs.declared.form.Form.TheVariants as form
use Rattle.lg_op.specs.declared.op.Op.{Op}
use Rattle.lg_op.specs.declared.op.Op.TheVariants.{Branch, BranchSum, Control, Plain}
use Rattle.lg_op.specs.declared.op.ControlOp.TheVariants as control
use Rattle.lg_op.specs.declared.op.PlainOp.TheVariants as plain
use Rattle.lg_op.specs.declared.op.LastOperand.TheVariants as last_operand
use Rattle.lg_op.specs.declared.operand.Label.{Label}
use Rattle.lg_op.specs.declared.operand.Operand.{Operand}
use Rattle.lg_op.specs.declared.operand.Operand.TheVariants as operand
use Rattle.lg_op.specs.declared.node.Node.{Node}
use Rattle.lg_node.specs.declared.place.Place.{Place}
use Rattle.lg_node.specs.declared.place.Place.TheVariants as place
use Rattle.lg_node.specs.declared.preparation.Preparation.{Preparation}
use Rattle.lg_node.specs.Nodes.{LabelledNodes}
use Rattle.lg_node.specs.Functions.{is_prolog, is_epilog, is_prolog_at, is_epilog_at, home_of, open_before, home}
use Rattle.lg_node.specs.Preparations.{prepared_after, prepared_before, pushed_of, varies_before}
use Rattle.lg_node.specs.Labels.{place_of, is_labelled, is_at, is_entry, is_inside, is_after_prolog}
use Rattle.lg_node.specs.Checks.{FailsAll, refuses, kinds, may_stand_outside, is_begun, is_astray, any_by_form, needs_preparation, breaks_preparation, is_ellipsis, is_out_of_turn, is_bad_call, is_arg, is_pusharg, pushes_too_many, args_before, IsAccepted}
use Rattle.lg_node.specs.Walks.{walk_at, IsWithinLimits}
use Rattle.lg_node.specs.ShapeLaws.{has_target, has_callee, IsTargetIn, IsEntry, JumpsTo, IsWellShaped}
use Rattle.lg_node.proofs.AcceptedLaws.{is_closed}
use Rattle.lg_node.proofs.FunctionLaws.{node_within, home_within, home_from, home_next, goes_on, Begins, home_cases}
use Rattle.lg_node.proofs.LimitLemmas.{not_refused, limits_before}
use Rattle.lg_node.proofs.WalkLemmas.{home_here, open_below, prepared_start, prepared_on}

and_false : (x y : Bool) → (x && y) ≡ false → x ≡ true → y ≡ false
and_false true y e h = e
and_false false y e h = cc

and_false_left : (x y : Bool) → (x && y) ≡ false → y ≡ true → x ≡ false
and_false_left true y e h = cc
and_false_left false y e h = refl

some_from : (o : Option ℕ) → is_some o ≡ true → (p : ℕ) × (o ≡ Some p)
some_from None e = cc
some_from (Some p) e = (p, refl)

prepared_some : (o : Option Preparation) → is_some o ≡ true → (call : Preparation) × (o ≡ Some call)
prepared_some None e = cc
prepared_some (Some call) e = (call, refl)

some_of : (o : Option ℕ) → is_none o ≡ false → (p : ℕ) × (o ≡ Some p)
some_of None e = cc
some_of (Some p) e = (p, refl)

none_of : (o : Option ℕ) → is_some o ≡ false → o ≡ None
none_of None e = refl
none_of (Some p) e = cc

-- what begins to be prepared is in a function, and goes on
is_prepare : Op → Bool
is_prepare (Plain plain.Prepare) = true
is_prepare op = false

prepare_inside : (op : Op) (begun : Bool) → is_prepare op ≡ true → may_stand_outside op begun ≡ false
unfolding is_prepare
prepare_inside (Plain plain.Prepare) begun e = refl
prepare_inside op begun e = cc

prepare_goes_on : (op : Op) → is_prepare op ≡ true → is_epilog op ≡ false
unfolding is_prepare
prepare_goes_on (Plain plain.Prepare) e = refl
prepare_goes_on op e = cc

unbroken_goes_on : (op : Op) → breaks_preparation op ≡ false → is_epilog op ≡ false
unbroken_goes_on (Plain plain.Epilog) e = cc
unbroken_goes_on op e = refl

prepared_from : (o : Option Preparation) (op : Op) (call : Preparation) → prepared_after o op ≡ Some call → (is_prepare op ≡ true) ⊎ (is_some o ≡ true)
unfolding is_prepare
prepared_from (Some c) op call e = inr refl
prepared_from None (Plain plain.Prepare) call e = inl refl
prepared_from None (Control control.Finish last) call e = cc
prepared_from None op call e = cc

unbroken : (o : Option Preparation) (varies labelled : Bool) (op : Op) → is_some o ≡ true → is_bad_call o varies labelled op ≡ false → (labelled ≡ false) × (breaks_preparation op ≡ false)
unbroken None varies labelled op s e = cc
unbroken (Some call) varies labelled op s e =
    let rest = (call.variadic && is_ellipsis op) || is_out_of_turn varies op in
    let one = or_parts labelled (breaks_preparation op || rest) e in
    (one.0, (or_parts (breaks_preparation op) rest one.1).0)

both_false : {A : Type 0} (x y : Bool) → x ≡ false → y ≡ false → (x || y) ≡ true → A
both_false true y ex ey e = cc
both_false false true ex ey e = cc
both_false false false ex ey e = cc

-- a label is bound at the node that is its place
any_at : (test : Option Place → Bool) (places : List (Option Place)) (x : ℕ) (o : Option Place) → slice_get places x ≡ Some o → test o ≡ true → list_any test places ≡ true
any_at test [] x o e t = cc
any_at test (q ∷ qs) zero o e t = let same : q ≡ o = cc in rw (same, t) refl
any_at test (q ∷ qs) (suc x) o e t = or_right (test q) (list_any test qs) (any_at test qs x o e t)

labelled_at : (places : List (Option Place)) (x : Label) (k : ℕ) → place_of places x ≡ Some (place.Node k) → is_labelled places k ≡ true
labelled_at places x k at = any_at (is_at k) places x.0 (Some (place.Node k)) (bound (slice_get places x.0) at) (eq-eqb k k refl)
  where
    bound : (o : Option (Option Place)) → option_flatten o ≡ Some (place.Node k) → o ≡ Some (Some (place.Node k))
    bound None e = cc
    bound (Some q) e = ap (λ (r : Option Place). Some r) e

-- the targets of jumps and of calls come first
target_first : (op : Op) → has_target op ≡ true → (fs : List Form) × (forms_of op ≡ form.Target ∷ fs)
target_first (Branch condition last) e = (form.Read ∷ last_form last ∷ [], refl)
target_first (BranchSum sum last) e = (form.Update ∷ last_form last ∷ [], refl)
target_first (Control control.Jmp last_operand.Immediate) e = ([], refl)
target_first op e = cc

callee_first : (op : Op) → has_callee op ≡ true → (fs : List Form) × (forms_of op ≡ form.Callee ∷ fs)
callee_first (Control control.Call last_operand.Immediate) e = ([], refl)
callee_first (Control control.Finish last_operand.Immediate) e = ([], refl)
callee_first op e = cc

module _ (l : LabelledNodes) (a : IsAccepted l) where
  pub passes : (i : ℕ) (n : Node) → slice_get l.nodes i ≡ Some n → FailsAll (refuses l i n) kinds
  passes i n e = not_refused l i n e (a.nodes i (slice_get_within l.nodes i n e))

  -- a call is prepared where a function is open
  open_on_prepared : (i : ℕ) (n : Node) (call : Preparation) → slice_get l.nodes i ≡ Some n → (is_some (prepared_before l.nodes i) ≡ true → is_some (open_before l.nodes i) ≡ true) → prepared_before l.nodes (i + 1) ≡ Some call → is_some (open_before l.nodes (i + 1)) ≡ true
  open_on_prepared i n call e before after = ⊎_elim begins goes (prepared_from (prepared_before l.nodes i) n.op call (sym (prepared_on l.nodes i n e) ∙ after))
    where
      opened : (p : ℕ) → home l.nodes i ≡ Some p → is_epilog n.op ≡ false → is_some (open_before l.nodes (i + 1)) ≡ true
      opened p h eb = ap is_some (goes_on l.nodes i p n e h eb).1

      begins : is_prepare n.op ≡ true → is_some (open_before l.nodes (i + 1)) ≡ true
      begins pre =
          let outside = (passes i n e).1.0 in
          let stands = ap not (prepare_inside n.op (is_begun l.nodes i) pre) in
          let inside = some_of (home l.nodes i) (and_false_left (is_none (home l.nodes i)) (not (may_stand_outside n.op (is_begun l.nodes i))) outside stands) in
          opened inside.0 inside.1 (prepare_goes_on n.op pre)

      goes : is_some (prepared_before l.nodes i) ≡ true → is_some (open_before l.nodes (i + 1)) ≡ true
      goes some =
          let was = some_from (open_before l.nodes i) (before some) in
          let h = home_next l.nodes i was.0 (slice_get_within l.nodes i n e) was.1 in
          opened was.0 h (unbroken_goes_on n.op (unbroken (prepared_before l.nodes i) (varies_before l.nodes i) (is_labelled l.places i) n.op some (passes i n e).1.1.1.1.0).1)

  pub prepared_open : (i : ℕ) → i ≤ length l.nodes → is_some (prepared_before l.nodes i) ≡ true → is_some (open_before l.nodes i) ≡ true
  prepared_open zero h some = let no : is_some (prepared_before l.nodes 0) ≡ false = ap is_some (prepared_start l.nodes) in cc
  prepared_open (suc i) h some =
      let there = node_within l.nodes i (omega arith) in
      let call = prepared_some (prepared_before l.nodes (suc i)) some in
      let next : suc i ≡ i + 1 = omega arith in
      ap (λ (j : ℕ). is_some (open_before l.nodes j)) next ∙ open_on_prepared i there.0 call.0 there.1 (prepared_open i (omega arith)) (ap (prepared_before l.nodes) (sym next) ∙ call.1)

  pub falls : (i p : ℕ) → home l.nodes i ≡ Some p → is_epilog_at (slice_get l.nodes i) ≡ false → (home l.nodes (i + 1) ≡ Some p) × (p < i + 1)
  falls i p h eb =
      let there = node_within l.nodes i (home_within l.nodes i p h) in
      let next = (goes_on l.nodes i p there.0 there.1 h (ap is_epilog_at (sym there.1) ∙ eb)).1 in
      let from : p ≤ i = home_from l.nodes i p h in (
        ⊎_elim
            (λ (within : i + 1 < length l.nodes). home_next l.nodes (i + 1) p within next)
            (λ (past : length l.nodes ≤ i + 1). let w : i < length l.nodes = home_within l.nodes i p h in let end : i + 1 ≡ length l.nodes = omega arith in let no : ◌≡◌ {A = Option ℕ} None (Some p) = sym (is_closed l a) ∙ ap (open_before l.nodes) (sym end) ∙ next in cc)
            (cases_lt (i + 1) (length l.nodes)),
        omega arith,
      )

  unopened : (i : ℕ) (n : Node) → slice_get l.nodes i ≡ Some n → is_prolog n.op ≡ true → open_before l.nodes i ≡ None
  unopened i n e pro = none_of (open_before l.nodes i) (and_false (is_prolog n.op) (is_some (open_before l.nodes i)) (passes i n e).1.1.0 pro)

  unprepared_outside : (i : ℕ) → i ≤ length l.nodes → open_before l.nodes i ≡ None → prepared_before l.nodes i ≡ None
  unprepared_outside i h closed = by (prepared_before l.nodes i) refl
    where
      by : (o : Option Preparation) → prepared_before l.nodes i ≡ o → o ≡ None
      by None e = refl
      by (Some call) e = let some : is_some (open_before l.nodes i) ≡ true = prepared_open i h (ap is_some e) in let no : is_some (open_before l.nodes i) ≡ false = ap is_some closed in cc

  pub entries : (i : ℕ) → is_prolog_at (slice_get l.nodes i) ≡ true → (home l.nodes i ≡ Some i) × (prepared_before l.nodes i ≡ None)
  entries i pro = by (slice_get l.nodes i) refl pro
    where
      by : (o : Option Node) → slice_get l.nodes i ≡ o → is_prolog_at o ≡ true → (home l.nodes i ≡ Some i) × (prepared_before l.nodes i ≡ None)
      by None e pro = cc
      by (Some n) e pro =
          let closed = unopened i n e pro in (
            home_here l.nodes i n e ∙ ap (λ (o : Option ℕ). home_of o i n.op) closed ∙ ap (λ b. cond b (Some i) None) pro,
            unprepared_outside i (let w : i < length l.nodes = slice_get_within l.nodes i n e in omega arith) closed,
          )

  pub prologs : (i : ℕ) → home l.nodes i ≡ Some i → is_prolog_at (slice_get l.nodes i) ≡ true
  prologs i h = ⊎_elim (λ (o : open_before l.nodes i ≡ Some i). let no : i < i = open_below l.nodes i i o in absurd (omega arith)) (λ (b : Begins l.nodes i i). b.prolog) (home_cases l.nodes i i h)

  pub unprepared : (i : ℕ) (n : Node) → slice_get l.nodes i ≡ Some n → (breaks_preparation n.op || is_labelled l.places i) ≡ true → prepared_before l.nodes i ≡ None
  unprepared i n e here = by (prepared_before l.nodes i) refl
    where
      by : (o : Option Preparation) → prepared_before l.nodes i ≡ o → o ≡ None
      by None eo = refl
      by (Some call) eo =
          let parts = unbroken (prepared_before l.nodes i) (varies_before l.nodes i) (is_labelled l.places i) n.op (ap is_some eo) (passes i n e).1.1.1.1.0 in
          both_false (breaks_preparation n.op) (is_labelled l.places i) parts.1 parts.0 here

  -- nothing is prepared where a label is bound
  unprepared_label : (x : Label) (k p : ℕ) → place_of l.places x ≡ Some (place.Node k) → home l.nodes k ≡ Some p → prepared_before l.nodes k ≡ None
  unprepared_label x k p at h =
      let there = node_within l.nodes k (home_within l.nodes k p h) in
      unprepared k there.0 there.1 (or_right (breaks_preparation there.0.op) (is_labelled l.places k) (labelled_at l.places x k at))

  entry_of : (o : Option Place) → is_entry l.nodes o ≡ true → IsEntry l o
  entry_of None t = cc
  entry_of (Some (place.Image k)) t = cc
  entry_of (Some (place.Node k)) t = let e = entries k t in record { node = k; place = refl; entry = e.0; unprepared = e.1 }

  target_of_label : (x : Label) (p : ℕ) (o : Option Place) → place_of l.places x ≡ o → is_inside l.nodes p o ≡ true → IsTargetIn l p o
  target_of_label x p None at t = cc
  target_of_label x p (Some (place.Image k)) at t = cc
  target_of_label x p (Some (place.Node k)) at t = by (home l.nodes k) refl t
    where
      by : (h : Option ℕ) → home l.nodes k ≡ h → is_after_prolog h p k ≡ true → IsTargetIn l p (Some (place.Node k))
      by None e t = cc
      by (Some q) e t =
          let parts = and_parts (q == p) (not (k == p)) t in
          let same : q ≡ p = eqb-true q p parts.0 in
          let inside : home l.nodes k ≡ Some p = e ∙ ap (λ (r : ℕ). Some r) same in
          let from : p ≤ k = home_from l.nodes k p inside in
          let other : k ≡ p → ⊥ = eqb-false k p (not-true (k == p) parts.1) in
          record { node = k; place = refl; inside = inside; behind = ⊎_elim (λ (b : p < k). b) (λ (b : k ≤ p). absurd (other (omega arith))) (cases_lt p k); unprepared = unprepared_label x k p at inside }

  jump_to : (x : Label) (op : Op) (h : Option ℕ) → is_astray l h op form.Target (operand.Label x) ≡ false → JumpsTo l h (place_of l.places x)
  jump_to x op None t = entry_of (place_of l.places x) (not-false (is_entry l.nodes (place_of l.places x)) t)
  jump_to x op (Some p) t = target_of_label x p (place_of l.places x) refl (not-false (is_inside l.nodes p (place_of l.places x)) t)

  callee_to : (x : Label) (op : Op) (h : Option ℕ) → is_astray l h op form.Callee (operand.Label x) ≡ false → IsEntry l (place_of l.places x)
  callee_to x op None t = entry_of (place_of l.places x) (not-false (is_entry l.nodes (place_of l.places x)) t)
  callee_to x op (Some p) t = entry_of (place_of l.places x) (not-false (is_entry l.nodes (place_of l.places x)) t)

  -- the first operand does not lead astray
  first_passes : (i : ℕ) (n : Node) (x : Label) (xs : List Operand) (f : Form) (fs : List Form) → slice_get l.nodes i ≡ Some n → forms_of n.op ≡ f ∷ fs → n.operands ≡ operand.Label x ∷ xs → is_astray l (home l.nodes i) n.op f (operand.Label x) ≡ false
  first_passes i n x xs f fs e forms operands =
      let test : any_by_form (is_astray l (home l.nodes i) n.op) (forms_of n.op) n.operands ≡ false = (passes i n e).1.1.1.0 in
      let first : any_by_form (is_astray l (home l.nodes i) n.op) (f ∷ fs) (operand.Label x ∷ xs) ≡ false = rw (forms, operands) at test in
      (or_parts (is_astray l (home l.nodes i) n.op f (operand.Label x)) (any_by_form (is_astray l (home l.nodes i) n.op) fs xs) first).0

  pub jumps : (i : ℕ) (n : Node) (x : Label) (xs : List Operand) → slice_get l.nodes i ≡ Some n → has_target n.op ≡ true → n.operands ≡ operand.Label x ∷ xs → JumpsTo l (home l.nodes i) (place_of l.places x)
  jumps i n x xs e t operands =
      let first = target_first n.op t in
      jump_to x n.op (home l.nodes i) (first_passes i n x xs form.Target first.0 e first.1 operands)

  pub calls : (i : ℕ) (n : Node) (x : Label) (xs : List Operand) → slice_get l.nodes i ≡ Some n → has_callee n.op ≡ true → n.operands ≡ operand.Label x ∷ xs → IsEntry l (place_of l.places x)
  calls i n x xs e t operands =
      let first = callee_first n.op t in
      callee_to x n.op (home l.nodes i) (first_passes i n x xs form.Callee first.0 e first.1 operands)

  limits : (i : ℕ) → i ≤ length l.nodes → IsWithinLimits (walk_at l.nodes i)
  limits i h = limits_before l i h a.nodes

  pub prepared : (i : ℕ) (call : Preparation) → i ≤ length l.nodes → prepared_before l.nodes i ≡ Some call → (is_some (home l.nodes i) ≡ true) × (call.pushed ≤ 16)
  prepared i call h e =
      let opened = some_from (open_before l.nodes i) (prepared_open i h (ap is_some e)) in (
        ⊎_elim
            (λ (within : i < length l.nodes). ap is_some (home_next l.nodes i opened.0 within opened.1))
            (λ (past : length l.nodes ≤ i). let end : i ≡ length l.nodes = omega arith in let no : ◌≡◌ {A = Option ℕ} None (Some opened.0) = sym (is_closed l a) ∙ ap (open_before l.nodes) (sym end) ∙ opened.1 in cc)
            (cases_lt i (length l.nodes)),
        (let few : pushed_of (prepared_before l.nodes i) ≤ 16 = (limits i h).pushed in rw e at few),
      )

  pub pushes : (i : ℕ) (n : Node) → slice_get l.nodes i ≡ Some n → needs_preparation n.op ≡ true → (call : Preparation) × (prepared_before l.nodes i ≡ Some call) × (is_pusharg n.op ≡ true → call.pushed < 16)
  pushes i n e needs = by (prepared_before l.nodes i) refl
    where
      by : (o : Option Preparation) → prepared_before l.nodes i ≡ o → (call : Preparation) × (prepared_before l.nodes i ≡ Some call) × (is_pusharg n.op ≡ true → call.pushed < 16)
      by None eo =
          let varies = varies_before l.nodes i in
          let bad : is_bad_call None varies (is_labelled l.places i) n.op ≡ false = rw eo at (passes i n e).1.1.1.1.0 in
          let parts = or_parts (needs_preparation n.op) ((varies && is_ellipsis n.op) || is_out_of_turn varies n.op) bad in
          let no : true ≡ false = sym needs ∙ parts.0 in cc
      by (Some call) eo = (
        call,
        eo,
        λ push.
            let many = or_parts (is_arg n.op && nat_le 16 (args_before l.nodes i)) (pushes_too_many (prepared_before l.nodes i) n.op) (passes i n e).1.1.1.1.1.0 in
            let few : (is_pusharg n.op && nat_le 16 call.pushed) ≡ false = rw eo at many.1 in
            leb-false 16 call.pushed (and_false (is_pusharg n.op) (nat_le 16 call.pushed) few push),
      )

  pub well_shaped : IsWellShaped l
  well_shaped = record {
    passes = passes;
    falls = falls;
    entries = entries;
    prologs = prologs;
    jumps = jumps;
    calls = calls;
    prepared = prepared;
    unprepared = unprepared;
    pushes = pushes;
    args = λ i h. (limits i h).args;
    locals = λ i h. (limits i h).locals;
  }
