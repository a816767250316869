-- What is known before a node leads to what is known before the next one.
use Rattle.std.proofs.Common.{◌≡◌, ℕ, zero, suc, ◌+◌, ◌-◌, ◌<◌, ◌≤◌, Bool, true, false, ◌||◌, cond, List, [], ◌∷◌, ◌++◌, Option, Some, None, is_some, refl, sym, ap, ◌∙◌, length, take, add-one, arith}
use Rattle.std.specs.Prelude.{if◌then◌else◌, slice_get, slice_range}
use Rattle.std.specs.List.{list_any, sum_by}
use Rattle.std.proofs.lemmas.List.{take_more}
use Rattle.std.proofs.lemmas.List.Edits.{between_more}
use Rattle.std.proofs.lemmas.List.Folds.{list_any-append}
use Rattle.std.proofs.lemmas.Grind.{common_steps}
use Rattle.std.proofs.lemmas.Option.{slice_get_within, get_or_from_slice_get, slice_get_past}
use Rattle.std.proofs.Math.Bool.{or-false}
use Rattle.lg_op.specs.declared.node.Node.{Node}
use Rattle.lg_node.specs.Functions.{is_prolog, is_epilog, is_prolog_node, home_of, home_at, open_after, open_after_at, open_before, home, since, local_size}
use Rattle.lg_node.specs.Preparations.{prepared_after, prepared_before, varies_after, varies_before}
use Rattle.lg_node.specs.Checks.{is_arg_node, is_begun}
use Rattle.lg_node.specs.Walks.{walk_at, after_in, walk_after}

pub take_on : (nodes : List Node) (i : ℕ) (n : Node) → slice_get nodes i ≡ Some n → take (i + 1) nodes ≡ take i nodes ++ n ∷ []
take_on nodes i n e = take_more nodes i n (slice_get_within nodes i n e) ∙ ap (λ x. take i nodes ++ x ∷ []) (get_or_from_slice_get nodes i n n e)

-- the node of an index, and its function
pub home_here : (nodes : List Node) (i : ℕ) (n : Node) → slice_get nodes i ≡ Some n → home nodes i ≡ home_of (open_before nodes i) i n.op
unfolding home
home_here nodes i n e = ap (home_at (open_before nodes i) i) e

pub home_past : (nodes : List Node) (i : ℕ) → length nodes ≤ i → home nodes i ≡ None
unfolding home
home_past nodes i h = ap (home_at (open_before nodes i) i) (slice_get_past nodes i h)

pub open_start : (nodes : List Node) → open_before nodes 0 ≡ None
unfolding open_before
open_start nodes = refl

pub open_on : (nodes : List Node) (i : ℕ) (n : Node) → slice_get nodes i ≡ Some n → open_before nodes (i + 1) ≡ open_after (home_of (open_before nodes i) i n.op) n.op
unfolding open_before
open_on nodes i n e = rw (add-one, e) refl

pub prepared_start : (nodes : List Node) → prepared_before nodes 0 ≡ None
unfolding prepared_before
prepared_start nodes = refl

pub prepared_on : (nodes : List Node) (i : ℕ) (n : Node) → slice_get nodes i ≡ Some n → prepared_before nodes (i + 1) ≡ prepared_after (prepared_before nodes i) n.op
unfolding prepared_before
prepared_on nodes i n e = rw (add-one, e) refl

pub varies_start : (nodes : List Node) → varies_before nodes 0 ≡ false
unfolding varies_before
varies_start nodes = refl

pub varies_on : (nodes : List Node) (i : ℕ) (n : Node) → slice_get nodes i ≡ Some n → varies_before nodes (i + 1) ≡ varies_after (varies_before nodes i) (prepared_before nodes i) n.op
unfolding varies_before
varies_on nodes i n e = rw (add-one, e) refl

-- a function begins at a node before
abbrev IsBelow : Option ℕ → ℕ → Type 0
IsBelow None i = Unit {0}
IsBelow (Some p) i = p < i

below_after : (current : Option ℕ) (i : ℕ) (n : Node) → IsBelow current i → IsBelow (open_after (home_of current i n.op) n.op) (i + 1)
below_after current i n h = by current (is_prolog n.op) (is_epilog n.op) refl refl h
  where
    by : (o : Option ℕ) (a b : Bool) → is_prolog n.op ≡ a → is_epilog n.op ≡ b → IsBelow o i → IsBelow (open_after (home_of o i n.op) n.op) (i + 1)
    by None true true ea eb h = rw (ea, eb) tt
    by None true false ea eb h = rw (ea, eb) (omega arith)
    by None false true ea eb h = rw (ea, eb) tt
    by None false false ea eb h = rw (ea, eb) tt
    by (Some p) a true ea eb h = rw eb tt
    by (Some p) a false ea eb h = rw eb (omega arith)

below_at : (nodes : List Node) (i : ℕ) (o : Option Node) → slice_get nodes i ≡ o → IsBelow (open_before nodes i) i → IsBelow (open_before nodes (suc i)) (suc i)
unfolding open_before
below_at nodes i None e h = rw e (weaker (open_before nodes i) h)
  where
    weaker : (o : Option ℕ) → IsBelow o i → IsBelow (open_after_at (home_at o i None) None) (suc i)
    weaker o h = tt
below_at nodes i (Some n) e h = rw (e, ← add-one) (below_after (open_before nodes i) i n h)

pub open_is_below : (nodes : List Node) (i : ℕ) → IsBelow (open_before nodes i) i
unfolding open_before
open_is_below nodes zero = tt
open_is_below nodes (suc i) = below_at nodes i (slice_get nodes i) refl (open_is_below nodes i)

pub open_below : (nodes : List Node) (i p : ℕ) → open_before nodes i ≡ Some p → p < i
open_below nodes i p e = rw e at (open_is_below nodes i)

sum_push : (f : Node → ℕ) (xs : List Node) (n : Node) → sum_by f (xs ++ n ∷ []) ≡ sum_by f xs + f n
sum_push f xs n = grind (arith, common_steps)

-- a sum over the nodes of a function
range_on : (f : Node → ℕ) (nodes : List Node) (p i : ℕ) (n : Node) → slice_get nodes i ≡ Some n → p ≤ i → sum_by f (slice_range nodes p (i + 1)) ≡ sum_by f (slice_range nodes p i) + f n
range_on f nodes p i n e h =
    let more : slice_range nodes p (i + 1) ≡ slice_range nodes p i ++ n ∷ [] = between_more nodes p i n h (slice_get_within nodes i n e) ∙ ap (λ x. slice_range nodes p i ++ x ∷ []) (get_or_from_slice_get nodes i n n e) in
    ap (sum_by f) more ∙ sum_push f (slice_range nodes p i) n

-- a function that begins here has no node before
range_none : (f : Node → ℕ) (nodes : List Node) (i : ℕ) → sum_by f (slice_range nodes i i) ≡ 0
range_none f nodes i = let e : i - i ≡ 0 = omega arith in rw e refl

-- of all nodes of a function up to this one
sum_here : (f : Node → ℕ) (nodes : List Node) (i p : ℕ) (n : Node) (o : Option ℕ) (a : Bool) → slice_get nodes i ≡ Some n → is_prolog n.op ≡ a → IsBelow o i → home_of o i n.op ≡ Some p → sum_by f (slice_range nodes p (i + 1)) ≡ sum_by f (since nodes o i) + f n
sum_here f nodes i p n None true e ea below h =
    let at : Some i ≡ Some p = rw ea at h in
    let same : i ≡ p = cc in
    ap (λ (q : ℕ). sum_by f (slice_range nodes q (i + 1))) (sym same) ∙ range_on f nodes i i n e (omega arith) ∙ ap (λ s. s + f n) (range_none f nodes i)
sum_here f nodes i p n None false e ea below h = let no : ◌≡◌ {A = Option ℕ} None (Some p) = rw ea at h in cc
sum_here f nodes i p n (Some q) a e ea below h =
    let same : q ≡ p = cc in
    ap (λ (r : ℕ). sum_by f (slice_range nodes r (i + 1))) (sym same) ∙ range_on f nodes q i n e (omega arith)

pub home_sum : (f : Node → ℕ) (nodes : List Node) (i p : ℕ) (n : Node) → slice_get nodes i ≡ Some n → home_of (open_before nodes i) i n.op ≡ Some p → sum_by f (slice_range nodes p (i + 1)) ≡ sum_by f (since nodes (open_before nodes i) i) + f n
home_sum f nodes i p n e h = sum_here f nodes i p n (open_before nodes i) (is_prolog n.op) e refl (open_is_below nodes i) h

-- of the open function
sum_of_open : (f : Node → ℕ) (nodes : List Node) (i : ℕ) (n : Node) → slice_get nodes i ≡ Some n → (b : Bool) (o : Option ℕ) → is_epilog n.op ≡ b → home_of (open_before nodes i) i n.op ≡ o → sum_by f (since nodes (cond b None o) (i + 1)) ≡ cond (is_some (cond b None o)) (sum_by f (since nodes (open_before nodes i) i) + f n) 0
sum_of_open f nodes i n e true o eb eo = refl
sum_of_open f nodes i n e false None eb eo = refl
sum_of_open f nodes i n e false (Some p) eb eo = home_sum f nodes i p n e eo

pub since_on : (f : Node → ℕ) (nodes : List Node) (i : ℕ) (n : Node) → slice_get nodes i ≡ Some n → sum_by f (since nodes (open_before nodes (i + 1)) (i + 1)) ≡ (if is_some (open_before nodes (i + 1)) then sum_by f (since nodes (open_before nodes i) i) + f n else 0)
since_on f nodes i n e = rw (open_on nodes i n e) (sum_of_open f nodes i n e (is_epilog n.op) (home_of (open_before nodes i) i n.op) refl refl)

pub begun_on : (nodes : List Node) (i : ℕ) (n : Node) → slice_get nodes i ≡ Some n → is_begun nodes (i + 1) ≡ (is_begun nodes i || is_prolog n.op)
begun_on nodes i n e = ap (list_any is_prolog_node) (take_on nodes i n e) ∙ list_any-append is_prolog_node (take i nodes) (n ∷ []) ∙ ap (λ b. list_any is_prolog_node (take i nodes) || b) (or-false (is_prolog n.op))

-- what is known before the first node, and after each one
pub walk_start : (nodes : List Node) → walk_at nodes 0 ≡ record { function = None; begun = false; args = 0; locals = 0; call = None; varies = false }
walk_start nodes = rw (open_start nodes, prepared_start nodes, varies_start nodes) refl

pub walk_on : (nodes : List Node) (i : ℕ) (n : Node) → slice_get nodes i ≡ Some n → walk_after (walk_at nodes i) i n ≡ walk_at nodes (i + 1)
walk_on nodes i n e =
    let args = since_on (λ x. cond (is_arg_node x) 1 0) nodes i n e in
    let locals = since_on local_size nodes i n e in
    let same : after_in (open_before nodes (i + 1)) (walk_at nodes i) n ≡ walk_at nodes (i + 1) = rw (begun_on nodes i n e, args, locals, prepared_on nodes i n e, varies_on nodes i n e) refl in
    ap (λ (o : Option ℕ). after_in o (walk_at nodes i) n) (sym (open_on nodes i n e)) ∙ same
