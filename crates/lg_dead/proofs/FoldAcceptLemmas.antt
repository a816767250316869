-- Folded nodes are accepted, and their functions are those of the old ones.
use Rattle.std.proofs.Common.{◌≡◌, ⊎_elim, ℕ, zero, suc, ◌+◌, ◌<◌, ◌≤◌, Bool, true, false, not, ◌&&◌, ◌||◌, cond, List, [], ◌∷◌, ◌++◌, Option, Some, None, is_some, length, refl, sym, ap, ◌∙◌, subst, arith, add-one}
use Rattle.std.specs.Prelude.{is_none, if◌then◌else◌, slice_get, slice_range, slice_index_or}
use Rattle.std.specs.List.{find, list_any, sum_by}
use Rattle.std.specs.Option.{option_map, option_and_then, option_to_list}
use Rattle.std.proofs.lemmas.Bool.{cases_lt, or_parts, or_from}
use Rattle.std.proofs.Math.Seq.{take-length}
use Rattle.std.proofs.lemmas.Option.{slice_get_within}
use Rattle.lg_base.specs.declared.refusal.Refusal.{Refusal}
use Rattle.lg_base.specs.declared.refusal.RefusalKind.{RefusalKind}
use Rattle.lg_op.specs.Forms.{forms_of}
use Rattle.lg_op.specs.declared.form.Form.{Form}
use Rattle.lg_op.specs.declared.form.Form.TheVariants as form
use Rattle.lg_op.specs.declared.node.Node.{Node}
use Rattle.lg_op.specs.declared.op.Op.{Op}
use Rattle.lg_op.specs.declared.op.Op.TheVariants as op
use Rattle.lg_op.specs.declared.op.LastOperand.TheVariants as last_operand
use Rattle.lg_op.specs.declared.op.PlainOp.TheVariants as plain
use Rattle.lg_op.specs.declared.operand.Label.{Label}
use Rattle.lg_op.specs.declared.operand.Operand.{Operand}
use Rattle.lg_op.specs.declared.operand.Operand.TheVariants as operand
use Rattle.lg_op.specs.declared.operand.Reg.{Reg}
use Rattle.lg_node.specs.declared.place.Place.{Place}
use Rattle.lg_node.specs.declared.place.Place.TheVariants as place
use Rattle.lg_node.specs.declared.preparation.Preparation.{Preparation}
use Rattle.lg_node.specs.declared.walk.Walk.{Walk}
use Rattle.lg_node.specs.Checks.{FailsAll, refuses, kinds, refusal_of, refusal_at, end_refusal_of, may_stand_outside, is_begun, is_missing, is_astray, any_by_form, is_bad_call, is_too_many, is_too_big, is_arg, args_before, locals_before, IsAccepted}
use Rattle.lg_node.specs.Functions.{is_prolog, is_epilog, is_prolog_at, is_prolog_node, home_of, open_after, open_before, home, local_of, local_size, ended, functions_before, functions}
use Rattle.lg_node.specs.Labels.{place_of, is_labelled, is_code, is_entry, is_inside, is_after_prolog, takes_address}
use Rattle.lg_node.specs.Nodes.{LabelledNodes}
use Rattle.lg_node.specs.Preparations.{prepared_after, prepared_before, varies_after, varies_before}
use Rattle.lg_node.specs.ShapeLaws.{IsWellShaped}
use Rattle.lg_node.specs.Walks.{walk_at, walk_after}
use Rattle.lg_node.proofs.AcceptedLaws.{is_closed}
use Rattle.lg_node.proofs.FunctionLaws.{node_within}
use Rattle.lg_node.proofs.FunctionLemmas.{functions_start, functions_on}
use Rattle.lg_node.proofs.WalkLemmas.{home_here, home_past, walk_start, walk_on, home_sum}
use Rattle.lg_node.proofs.WellShaped.{well_shaped}
use Rattle.lg_meaning.specs.Starts.{begins_at, MayBegin}
use Rattle.lg_meaning.specs.Steps.{node_in}
use Rattle.lg_dead.specs.Folds.{IsFoldedTo}
use Rattle.lg_dead.specs.Known.{made, last_known, as_movi, as_immediate, folded_by, folded, known_before}
use Rattle.lg_dead.proofs.FoldNodeLemmas.{BinaryMade, UnaryMade, BinaryLast, BranchLast, made-cases, last-cases}

-- ---- what a node is to the checks
record Acts (o : Op) (xs : List Operand) (p : Op) (ys : List Operand) : Type 0 where
  prolog : is_prolog p ≡ is_prolog o
  epilog : is_epilog p ≡ is_epilog o
  arg : is_arg p ≡ is_arg o
  size : local_of p ys ≡ local_of o xs
  call : (c : Option Preparation) → prepared_after c p ≡ prepared_after c o
  varies : (v : Bool) (c : Option Preparation) → varies_after v c p ≡ varies_after v c o
  outside : (b : Bool) → may_stand_outside p b ≡ may_stand_outside o b
  bad : (c : Option Preparation) (v k : Bool) → is_bad_call c v k p ≡ is_bad_call c v k o
  many : (a : ℕ) (c : Option Preparation) → is_too_many a c p ≡ is_too_many a c o

same-acts : (o : Op) (xs : List Operand) → Acts o xs o xs
same-acts o xs = record { prolog = refl; epilog = refl; arg = refl; size = refl; call = λ c. refl; varies = λ v c. refl; outside = λ b. refl; bad = λ c v k. refl; many = λ a c. refl }

binary-acts : (b : _) (last : _) (xs ys : List Operand) → Acts (op.Binary b last) xs (op.Plain plain.Movi) ys
binary-acts b last xs ys = record { prolog = refl; epilog = refl; arg = refl; size = refl; call = calls; varies = vary; outside = λ b. refl; bad = bads; many = manies }
  where
    calls : (c : Option Preparation) → prepared_after c (op.Plain plain.Movi) ≡ prepared_after c (op.Binary b last)
    calls None = refl
    calls (Some c) = refl

    vary : (v : Bool) (c : Option Preparation) → varies_after v c (op.Plain plain.Movi) ≡ varies_after v c (op.Binary b last)
    vary v None = refl
    vary v (Some c) = refl

    bads : (c : Option Preparation) (v k : Bool) → is_bad_call c v k (op.Plain plain.Movi) ≡ is_bad_call c v k (op.Binary b last)
    bads None true k = refl
    bads None false k = refl
    bads (Some c) true k = refl
    bads (Some c) false k = refl

    manies : (a : ℕ) (c : Option Preparation) → is_too_many a c (op.Plain plain.Movi) ≡ is_too_many a c (op.Binary b last)
    manies a None = refl
    manies a (Some c) = refl

unary-acts : (b : _) (xs ys : List Operand) → Acts (op.Unary b) xs (op.Plain plain.Movi) ys
unary-acts b xs ys = record { prolog = refl; epilog = refl; arg = refl; size = refl; call = calls; varies = vary; outside = λ b. refl; bad = bads; many = manies }
  where
    calls : (c : Option Preparation) → prepared_after c (op.Plain plain.Movi) ≡ prepared_after c (op.Unary b)
    calls None = refl
    calls (Some c) = refl

    vary : (v : Bool) (c : Option Preparation) → varies_after v c (op.Plain plain.Movi) ≡ varies_after v c (op.Unary b)
    vary v None = refl
    vary v (Some c) = refl

    bads : (c : Option Preparation) (v k : Bool) → is_bad_call c v k (op.Plain plain.Movi) ≡ is_bad_call c v k (op.Unary b)
    bads None true k = refl
    bads None false k = refl
    bads (Some c) true k = refl
    bads (Some c) false k = refl

    manies : (a : ℕ) (c : Option Preparation) → is_too_many a c (op.Plain plain.Movi) ≡ is_too_many a c (op.Unary b)
    manies a None = refl
    manies a (Some c) = refl

immediate-acts : (b : _) (xs ys : List Operand) → Acts (op.Binary b last_operand.Register) xs (op.Binary b last_operand.Immediate) ys
immediate-acts b xs ys = record { prolog = refl; epilog = refl; arg = refl; size = refl; call = calls; varies = vary; outside = λ b. refl; bad = bads; many = manies }
  where
    calls : (c : Option Preparation) → prepared_after c (op.Binary b last_operand.Immediate) ≡ prepared_after c (op.Binary b last_operand.Register)
    calls None = refl
    calls (Some c) = refl

    vary : (v : Bool) (c : Option Preparation) → varies_after v c (op.Binary b last_operand.Immediate) ≡ varies_after v c (op.Binary b last_operand.Register)
    vary v None = refl
    vary v (Some c) = refl

    bads : (c : Option Preparation) (v k : Bool) → is_bad_call c v k (op.Binary b last_operand.Immediate) ≡ is_bad_call c v k (op.Binary b last_operand.Register)
    bads None true k = refl
    bads None false k = refl
    bads (Some c) true k = refl
    bads (Some c) false k = refl

    manies : (a : ℕ) (c : Option Preparation) → is_too_many a c (op.Binary b last_operand.Immediate) ≡ is_too_many a c (op.Binary b last_operand.Register)
    manies a None = refl
    manies a (Some c) = refl

branch-acts : (b : _) (xs ys : List Operand) → Acts (op.Branch b last_operand.Register) xs (op.Branch b last_operand.Immediate) ys
branch-acts b xs ys = record { prolog = refl; epilog = refl; arg = refl; size = refl; call = calls; varies = vary; outside = λ b. refl; bad = bads; many = manies }
  where
    calls : (c : Option Preparation) → prepared_after c (op.Branch b last_operand.Immediate) ≡ prepared_after c (op.Branch b last_operand.Register)
    calls None = refl
    calls (Some c) = refl

    vary : (v : Bool) (c : Option Preparation) → varies_after v c (op.Branch b last_operand.Immediate) ≡ varies_after v c (op.Branch b last_operand.Register)
    vary v None = refl
    vary v (Some c) = refl

    bads : (c : Option Preparation) (v k : Bool) → is_bad_call c v k (op.Branch b last_operand.Immediate) ≡ is_bad_call c v k (op.Branch b last_operand.Register)
    bads None true k = refl
    bads None false k = refl
    bads (Some c) true k = refl
    bads (Some c) false k = refl

    manies : (a : ℕ) (c : Option Preparation) → is_too_many a c (op.Branch b last_operand.Immediate) ≡ is_too_many a c (op.Branch b last_operand.Register)
    manies a None = refl
    manies a (Some c) = refl

fails-none : (p : RefusalKind → Bool) (ks : List RefusalKind) → FailsAll p ks → find p ks ≡ None
fails-none p [] h = refl
fails-none p (k ∷ ks) h = ap (λ b. cond b (Some k) (find p ks)) h.0 ∙ fails-none p ks h.1

module _ (known : Reg → Option ℕ) where
  abbrev ActsAs : Node → Node → Type 0
  ActsAs n k = Acts n.op n.operands k.op k.operands

  folded-acts : (n : Node) → ActsAs n (folded known n)
  folded-acts n = by (made known n.op n.operands) (last_known known n.op n.operands) refl refl
    where
      by : (p q : Option ℕ) → made known n.op n.operands ≡ p → last_known known n.op n.operands ≡ q → ActsAs n (folded_by n p q)
      by (Some v) q ep eq = ⊎_elim
          (λ (b : BinaryMade known n.op n.operands v). subst (λ o. Acts o n.operands (op.Plain plain.Movi) (as_movi n v).operands) (sym b.op_is) (binary-acts b.name b.last n.operands (as_movi n v).operands))
          (λ (b : UnaryMade known n.op n.operands v). subst (λ o. Acts o n.operands (op.Plain plain.Movi) (as_movi n v).operands) (sym b.op_is) (unary-acts b.name n.operands (as_movi n v).operands))
          (made-cases known n.op n.operands v ep)
      by None (Some v) ep eq = ⊎_elim
          (λ (b : BinaryLast known n.op n.operands v). subst (λ o. Acts o n.operands (as_immediate (record n { op = o }) v).op (as_immediate n v).operands) (sym b.op_is) (immediate-acts b.name n.operands (as_immediate n v).operands))
          (λ (b : BranchLast known n.op n.operands v). subst (λ o. Acts o n.operands (as_immediate (record n { op = o }) v).op (as_immediate n v).operands) (sym b.op_is) (branch-acts b.name n.operands (as_immediate n v).operands))
          (last-cases known n.op n.operands v eq)
      by None None ep eq = same-acts n.op n.operands

-- ---- the walk
home-same-of : (f : Option ℕ) (i : ℕ) (o p : Op) → is_prolog p ≡ is_prolog o → home_of f i p ≡ home_of f i o
home-same-of None i o p e = ap (λ b. if b then Some i else None) e
home-same-of (Some q) i o p e = refl

open-same-of : (f g : Option ℕ) (o p : Op) → is_epilog p ≡ is_epilog o → g ≡ f → open_after g p ≡ open_after f o
open-same-of f g o p e h = ap (λ b. if b then None else g) e ∙ ap (λ x. open_after x o) h

after-same : (w : Walk) (i : ℕ) (n k : Node) → Acts n.op n.operands k.op k.operands → walk_after w i k ≡ walk_after w i n
after-same w i n k a =
    let opened = open-same-of (home_of w.function i n.op) (home_of w.function i k.op) n.op k.op a.epilog (home-same-of w.function i n.op k.op a.prolog) in
    ap (λ f. at f (is_prolog k.op) (is_arg k.op) (local_size k) (prepared_after w.call k.op) (varies_after w.varies w.call k.op)) opened
    ∙ ap (λ b. at there b (is_arg k.op) (local_size k) (prepared_after w.call k.op) (varies_after w.varies w.call k.op)) a.prolog
    ∙ ap (λ b. at there (is_prolog n.op) b (local_size k) (prepared_after w.call k.op) (varies_after w.varies w.call k.op)) a.arg
    ∙ ap (λ x. at there (is_prolog n.op) (is_arg n.op) x (prepared_after w.call k.op) (varies_after w.varies w.call k.op)) a.size
    ∙ ap (λ c. at there (is_prolog n.op) (is_arg n.op) (local_size n) c (varies_after w.varies w.call k.op)) (a.call w.call)
    ∙ ap (λ v. at (open_after (home_of w.function i n.op) n.op) (is_prolog n.op) (is_arg n.op) (local_size n) (prepared_after w.call n.op) v) (a.varies w.varies w.call)
  where
    there : Option ℕ
    there = open_after (home_of w.function i n.op) n.op

    at : Option ℕ → Bool → Bool → ℕ → Option Preparation → Bool → Walk
    at f p a x c v = record {
      function = f;
      begun = w.begun || p;
      args = if is_some f then w.args + cond a 1 0 else 0;
      locals = if is_some f then w.locals + x else 0;
      call = c;
      varies = v;
    }

module _ (l m : LabelledNodes) (a : IsAccepted l) (to : IsFoldedTo l m) where
  w : IsWellShaped l
  w = well_shaped l a

  acts : (i : ℕ) (n : Node) → Acts n.op n.operands (folded (known_before m i) n).op (folded (known_before m i) n).operands
  acts i n = folded-acts (known_before m i) n

  walk-same : (i : ℕ) → i ≤ length l.nodes → walk_at m.nodes i ≡ walk_at l.nodes i
  walk-same zero le = walk_start m.nodes ∙ sym (walk_start l.nodes)
  walk-same (suc i) le = by (node_within l.nodes i (omega arith)) (walk-same i (omega arith))
    where
      by : (n : Node) × (slice_get l.nodes i ≡ Some n) → walk_at m.nodes i ≡ walk_at l.nodes i → walk_at m.nodes (suc i) ≡ walk_at l.nodes (suc i)
      by n h =
          ap (walk_at m.nodes) (sym (add-one i)) ∙ sym (walk_on m.nodes i (folded (known_before m i) n.0) (to.nodes i n.0 n.1))
          ∙ ap (λ v. walk_after v i (folded (known_before m i) n.0)) h
          ∙ after-same (walk_at l.nodes i) i n.0 (folded (known_before m i) n.0) (acts i n.0)
          ∙ walk_on l.nodes i n.0 n.1 ∙ ap (walk_at l.nodes) (add-one i)

  home-same : (i : ℕ) → home m.nodes i ≡ home l.nodes i
  home-same i = ⊎_elim below past (cases_lt i (length l.nodes))
    where
      below : i < length l.nodes → home m.nodes i ≡ home l.nodes i
      below lt =
          let n = node_within l.nodes i lt in
          home_here m.nodes i (folded (known_before m i) n.0) (to.nodes i n.0 n.1)
          ∙ ap (λ v. home_of v.function i (folded (known_before m i) n.0).op) (walk-same i (omega arith))
          ∙ home-same-of (open_before l.nodes i) i n.0.op (folded (known_before m i) n.0).op (acts i n.0).prolog
          ∙ sym (home_here l.nodes i n.0 n.1)

      past : length l.nodes ≤ i → home m.nodes i ≡ home l.nodes i
      past ge = home_past m.nodes i (omega (arith, ge, to.count)) ∙ sym (home_past l.nodes i ge)

  pub prolog-same : (k : ℕ) → is_prolog_at (slice_get m.nodes k) ≡ is_prolog_at (slice_get l.nodes k)
  prolog-same k = by (slice_get l.nodes k) (slice_get m.nodes k) refl refl
    where
      by : (o p : Option Node) → slice_get l.nodes k ≡ o → slice_get m.nodes k ≡ p → is_prolog_at (slice_get m.nodes k) ≡ is_prolog_at (slice_get l.nodes k)
      by (Some n) p eo ep = ap is_prolog_at (to.nodes k n eo) ∙ (acts k n).prolog ∙ sym (ap is_prolog_at eo)
      by None None eo ep = ap is_prolog_at ep ∙ sym (ap is_prolog_at eo)
      by None (Some x) eo ep =
          let lt = slice_get_within m.nodes k x ep in
          let n = node_within l.nodes k (omega (arith, lt, to.count)) in
          absurd (not-both (sym eo ∙ n.1))
        where
          not-both : {y : Node} → ◌≡◌ {A = Option Node} None (Some y) → ⊥
          not-both e = cc

  -- ---- operands
  place-same : (y : Label) → place_of m.places y ≡ place_of l.places y
  place-same y = ap (λ ps. place_of ps y) to.places

  entry-same : (o : Option Place) → is_entry m.nodes o ≡ is_entry l.nodes o
  entry-same (Some (place.Node k)) = prolog-same k
  entry-same _ = refl

  -- a run begins at the same node
  pub beginning-same : (b : Option Label) → begins_at m b ≡ begins_at l b
  beginning-same None = refl
  beginning-same (Some y) = ap node_in (place-same y)

  pub begins-same : (b : Option Label) → MayBegin l b → MayBegin m b
  begins-same None e = tt
  begins-same (Some y) e = ap (is_entry m.nodes) (place-same y) ∙ entry-same (place_of l.places y) ∙ e

  inside-same : (p : ℕ) (o : Option Place) → is_inside m.nodes p o ≡ is_inside l.nodes p o
  inside-same p (Some (place.Node k)) = ap (λ h. is_after_prolog h p k) (home-same k)
  inside-same p _ = refl

  astray-same : (h : Option ℕ) (p : Op) (f : Form) (x : Operand) → is_astray m h p f x ≡ is_astray l h p f x
  astray-same None p form.Target (operand.Label y) = ap (λ o. not (is_entry m.nodes o)) (place-same y) ∙ ap not (entry-same (place_of l.places y))
  astray-same (Some q) p form.Target (operand.Label y) = ap (λ o. not (is_inside m.nodes q o)) (place-same y) ∙ ap not (inside-same q (place_of l.places y))
  astray-same None p form.Callee (operand.Label y) = ap (λ o. not (is_entry m.nodes o)) (place-same y) ∙ ap not (entry-same (place_of l.places y))
  astray-same (Some q) p form.Callee (operand.Label y) = ap (λ o. not (is_entry m.nodes o)) (place-same y) ∙ ap not (entry-same (place_of l.places y))
  astray-same None p form.Immediate (operand.Label y) = ap (λ o. is_code o && not (takes_address p)) (place-same y)
  astray-same (Some q) p form.Immediate (operand.Label y) = ap (λ o. is_code o && not (takes_address p)) (place-same y)
  astray-same None p f x = refl
  astray-same (Some q) p f x = refl

  all-astray-same : (h : Option ℕ) (p : Op) (fs : List Form) (xs : List Operand) → any_by_form (is_astray m h p) fs xs ≡ any_by_form (is_astray l h p) fs xs
  all-astray-same h p [] xs = refl
  all-astray-same h p (f ∷ fs) [] = refl
  all-astray-same h p (f ∷ fs) (x ∷ xs) = ap (λ b. b || any_by_form (is_astray m h p) fs xs) (astray-same h p f x) ∙ ap (λ b. is_astray l h p f x || b) (all-astray-same h p fs xs)

  -- registers and numbers are never astray, and a target is as it was
  never-write : (h : Option ℕ) (p : Op) (x : Operand) → is_astray l h p form.Write x ≡ false
  never-write None p x = refl
  never-write (Some q) p x = refl

  never-read : (h : Option ℕ) (p : Op) (x : Operand) → is_astray l h p form.Read x ≡ false
  never-read None p x = refl
  never-read (Some q) p x = refl

  never-number : (h : Option ℕ) (p : Op) (v : ℕ) → is_astray l h p form.Immediate (operand.Number v) ≡ false
  never-number None p v = refl
  never-number (Some q) p v = refl

  target-same : (h : Option ℕ) (o p : Op) (x : Operand) → is_astray l h p form.Target x ≡ is_astray l h o form.Target x
  target-same None o p (operand.Label y) = refl
  target-same (Some q) o p (operand.Label y) = refl
  target-same None o p _ = refl
  target-same (Some q) o p _ = refl

  abbrev Clear : Option ℕ → Node → Type 0
  Clear h k = (any_by_form (is_astray l h k.op) (forms_of k.op) k.operands ≡ false) × (list_any (is_missing l.places) k.operands ≡ false)

  first-missing : (xs : List Operand) → list_any (is_missing l.places) xs ≡ false → is_missing l.places (slice_index_or xs 0 (operand.Number 0)) ≡ false
  first-missing [] e = refl
  first-missing (x ∷ xs) e = (or_parts (is_missing l.places x) (list_any (is_missing l.places) xs) e).0

  folded-clear : (known : Reg → Option ℕ) (h : Option ℕ) (n : Node) → Clear h n → Clear h (folded known n)
  folded-clear known h n c = by (made known n.op n.operands) (last_known known n.op n.operands) refl refl
    where
      by : (p q : Option ℕ) → made known n.op n.operands ≡ p → last_known known n.op n.operands ≡ q → Clear h (folded_by n p q)
      by (Some v) q ep eq = (
        or_from _ _ (never-write h (op.Plain plain.Movi) (slice_index_or n.operands 0 (operand.Number 0))) (or_from _ _ (never-number h (op.Plain plain.Movi) v) refl),
        or_from _ _ (first-missing n.operands c.1) refl,
      )
      by None (Some v) ep eq = ⊎_elim binary branch (last-cases known n.op n.operands v eq)
        where
          missing : (x y z : Operand) → n.operands ≡ x ∷ y ∷ z ∷ [] → list_any (is_missing l.places) (x ∷ y ∷ operand.Number v ∷ []) ≡ false
          missing x y z e =
              let p = or_parts (is_missing l.places x) (list_any (is_missing l.places) (y ∷ z ∷ [])) (ap (list_any (is_missing l.places)) (sym e) ∙ c.1) in
              let q = or_parts (is_missing l.places y) (list_any (is_missing l.places) (z ∷ [])) p.1 in
              or_from _ _ p.0 (or_from _ _ q.0 refl)

          binary : BinaryLast known n.op n.operands v → Clear h (as_immediate n v)
          binary b =
              subst (λ o. Clear h (as_immediate (record n { op = o }) v)) (sym b.op_is)
              (subst (λ xs. Clear h (as_immediate (record n { op = op.Binary b.name last_operand.Register; operands = xs }) v)) (sym b.operands_are) (
                or_from _ _ (never-write h (op.Binary b.name last_operand.Immediate) b.into) (or_from _ _ (never-read h (op.Binary b.name last_operand.Immediate) b.first) (or_from _ _ (never-number h (op.Binary b.name last_operand.Immediate) v) refl)),
                missing b.into b.first (operand.Reg b.second) b.operands_are,
              ))

          branch : BranchLast known n.op n.operands v → Clear h (as_immediate n v)
          branch b =
              let old = sym (ap (λ o. any_by_form (is_astray l h o) (forms_of o) n.operands) b.op_is ∙ ap (any_by_form (is_astray l h (op.Branch b.name last_operand.Register)) (forms_of (op.Branch b.name last_operand.Register))) b.operands_are) ∙ c.0 in
              let first = or_parts (is_astray l h (op.Branch b.name last_operand.Register) form.Target b.to) _ old in
              subst (λ o. Clear h (as_immediate (record n { op = o }) v)) (sym b.op_is)
              (subst (λ xs. Clear h (as_immediate (record n { op = op.Branch b.name last_operand.Register; operands = xs }) v)) (sym b.operands_are) (
                or_from _ _ (target-same h (op.Branch b.name last_operand.Register) (op.Branch b.name last_operand.Immediate) b.to ∙ first.0) (or_from _ _ (never-read h (op.Branch b.name last_operand.Immediate) b.first) (or_from _ _ (never-number h (op.Branch b.name last_operand.Immediate) v) refl)),
                missing b.to b.first (operand.Reg b.second) b.operands_are,
              ))
      by None None ep eq = c

  -- ---- no kind refuses a folded node
  passes-same : (i : ℕ) (n : Node) → slice_get l.nodes i ≡ Some n → FailsAll (refuses m i (folded (known_before m i) n)) kinds
  passes-same i n e =
      let k = folded (known_before m i) n in
      let lt : i ≤ length l.nodes = (let z = slice_get_within l.nodes i n e in omega arith) in
      let old = w.passes i n e in
      let x = acts i n in
      let walk = walk-same i lt in
      let clear = folded-clear (known_before m i) (home l.nodes i) n (old.1.1.1.0, old.0) in (
        ap (λ ps. list_any (is_missing ps) k.operands) to.places ∙ clear.1,
        (
          ap (λ o. is_none o && not (may_stand_outside k.op (is_begun m.nodes i))) (home-same i)
              ∙ ap (λ v. is_none (home l.nodes i) && not (may_stand_outside k.op v.begun)) walk
              ∙ ap (λ b. is_none (home l.nodes i) && not b) (x.outside (is_begun l.nodes i)) ∙ old.1.0,
          (
            ap (λ v. is_prolog k.op && is_some v.function) walk ∙ ap (λ b. b && is_some (open_before l.nodes i)) x.prolog ∙ old.1.1.0,
            (
              ap (λ o. any_by_form (is_astray m o k.op) (forms_of k.op) k.operands) (home-same i) ∙ all-astray-same (home l.nodes i) k.op (forms_of k.op) k.operands ∙ clear.0,
              (
                ap (λ v. is_bad_call v.call v.varies (is_labelled m.places i) k.op) walk
                    ∙ ap (λ ps. is_bad_call (prepared_before l.nodes i) (varies_before l.nodes i) (is_labelled ps i) k.op) to.places
                    ∙ x.bad (prepared_before l.nodes i) (varies_before l.nodes i) (is_labelled l.places i) ∙ old.1.1.1.1.0,
                (
                  ap (λ v. is_too_many v.args v.call k.op) walk ∙ x.many (args_before l.nodes i) (prepared_before l.nodes i) ∙ old.1.1.1.1.1.0,
                  (
                    ap (λ v. is_too_big v.locals (local_size k)) walk ∙ ap (is_too_big (locals_before l.nodes i)) x.size ∙ old.1.1.1.1.1.1.0,
                    tt,
                  ),
                ),
              ),
            ),
          ),
        ),
      )

  none-refused : (i : ℕ) (n : Node) → slice_get l.nodes i ≡ Some n → refusal_at m i ≡ None
  unfolding refusal_at
  none-refused i n e =
      ap (option_and_then (refusal_of m i)) (to.nodes i n e)
      ∙ ap (option_map {U = Refusal} (λ k. record { kind = k; line = (folded (known_before m i) n).line })) (fails-none (refuses m i (folded (known_before m i) n)) kinds (passes-same i n e))

  pub folded-accepted : IsAccepted m
  folded-accepted = record {
    nodes = λ k lt. let n = node_within l.nodes k (omega (arith, lt, to.count)) in none-refused k n.0 n.1;
    end =
        ap (λ v. end_refusal_of m.nodes v.function (list_any is_prolog_node m.nodes)) end-walk
        ∙ ap (λ o. end_refusal_of m.nodes o (list_any is_prolog_node m.nodes)) (is_closed l a)
        ∙ ap (λ b. end_refusal_of m.nodes None b) (sym (ap (list_any is_prolog_node) (take-length m.nodes)) ∙ ap (λ v. v.begun) end-walk ∙ ap (list_any is_prolog_node) (take-length l.nodes))
        ∙ by (list_any is_prolog_node l.nodes) (ap (λ o. end_refusal_of l.nodes o (list_any is_prolog_node l.nodes)) (sym (is_closed l a)) ∙ a.end);
  }
    where
      end-walk : walk_at m.nodes (length m.nodes) ≡ walk_at l.nodes (length l.nodes)
      end-walk = ap (walk_at m.nodes) to.count ∙ walk-same (length l.nodes) (omega arith)

      by : (b : Bool) → end_refusal_of l.nodes None b ≡ None → end_refusal_of m.nodes None b ≡ None
      by true e = refl
      by false e = cc

  -- ---- functions
  ended-same : (i : ℕ) (n : Node) (h : Option ℕ) → slice_get l.nodes i ≡ Some n → home l.nodes i ≡ h → ended m.nodes h i (folded (known_before m i) n).op ≡ ended l.nodes h i n.op
  ended-same i n None e g = refl
  ended-same i n (Some p) e g =
      ap (λ b. if b then Some record { entry = p; last = i; locals = sum_by local_size (slice_range m.nodes p (i + 1)) } else None) (acts i n).epilog
      ∙ ap (λ x. if is_epilog n.op then Some record { entry = p; last = i; locals = x } else None) sizes
    where
      k : Node
      k = folded (known_before m i) n

      old : sum_by local_size (slice_range l.nodes p (i + 1)) ≡ locals_before l.nodes i + local_size n
      old = home_sum local_size l.nodes i p n e (sym (home_here l.nodes i n e) ∙ g)

      new : sum_by local_size (slice_range m.nodes p (i + 1)) ≡ locals_before m.nodes i + local_size (folded (known_before m i) n)
      new = home_sum local_size m.nodes i p (folded (known_before m i) n) (to.nodes i n e) (sym (home_here m.nodes i (folded (known_before m i) n) (to.nodes i n e)) ∙ home-same i ∙ g)

      sizes : sum_by local_size (slice_range m.nodes p (i + 1)) ≡ sum_by local_size (slice_range l.nodes p (i + 1))
      sizes =
          let lt : i ≤ length l.nodes = (let z = slice_get_within l.nodes i n e in omega arith) in
          new ∙ ap (λ v. v.locals + local_size (folded (known_before m i) n)) (walk-same i lt) ∙ ap (λ x. locals_before l.nodes i + x) (acts i n).size ∙ sym old

  before-same : (i : ℕ) → i ≤ length l.nodes → functions_before m.nodes i ≡ functions_before l.nodes i
  before-same zero le = functions_start m.nodes ∙ sym (functions_start l.nodes)
  before-same (suc i) le = by (node_within l.nodes i (omega arith)) (before-same i (omega arith))
    where
      by : (n : Node) × (slice_get l.nodes i ≡ Some n) → functions_before m.nodes i ≡ functions_before l.nodes i → functions_before m.nodes (suc i) ≡ functions_before l.nodes (suc i)
      by n h =
          ap (functions_before m.nodes) (sym (add-one i)) ∙ functions_on m.nodes i (folded (known_before m i) n.0) (to.nodes i n.0 n.1)
          ∙ ap (λ fs. fs ++ option_to_list (ended m.nodes (home m.nodes i) i (folded (known_before m i) n.0).op)) h
          ∙ ap (λ o. functions_before l.nodes i ++ option_to_list (ended m.nodes o i (folded (known_before m i) n.0).op)) (home-same i)
          ∙ ap (λ o. functions_before l.nodes i ++ option_to_list o) (ended-same i n.0 (home l.nodes i) n.1 refl)
          ∙ sym (functions_on l.nodes i n.0 n.1) ∙ ap (functions_before l.nodes) (add-one i)

  pub functions-same : functions m.nodes ≡ functions l.nodes
  functions-same = ap (functions_before m.nodes) to.count ∙ before-same (length l.nodes) (omega arith)
