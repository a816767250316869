-- The function of a node is the one that runs to it.
use Rattle.std.proofs.Common.{◌≡◌, ◌↔◌, ⊎_elim, ℕ, zero, suc, ◌+◌, ◌-◌, ◌<◌, ◌≤◌, Bool, true, false, cond, List, Option, Some, None, refl, sym, ap, ◌∙◌, subst, length, add-one, arith}
use Rattle.std.specs.Prelude.{slice_get}
use Rattle.std.proofs.lemmas.Bool.{cases_eq}
use Rattle.lg_op.specs.declared.node.Node.{Node}
use Rattle.lg_node.specs.Functions.{is_prolog, is_epilog, is_prolog_at, is_epilog_at, home_of, open_before, home}
use Rattle.lg_node.proofs.WalkLemmas.{home_here, open_on, open_below}
use Rattle.lg_node.proofs.FunctionLaws.{node_within, home_within, Begins, home_cases, home_from, home_between, goes_on, home_next}
use Rattle.lg_node.specs.FunctionRuns.{HasEpilog, RunsTo}

-- a test is passed or failed
if_not : (b : Bool) → (b ≡ true → ⊥) → b ≡ false
if_not true h = absurd (h refl)
if_not false h = refl

-- no function is open after an `epilog`
ends_at : (nodes : List Node) (j : ℕ) → j < length nodes → is_epilog_at (slice_get nodes j) ≡ true → open_before nodes (j + 1) ≡ None
ends_at nodes j h e =
    let there = node_within nodes j h in
    let at : is_epilog there.0.op ≡ true = sym (ap is_epilog_at there.1) ∙ e in
    open_on nodes j there.0 there.1 ∙ ap (λ b. cond b None (home_of (open_before nodes j) j there.0.op)) at

-- a function has no `epilog` before its last node
no_end_before : (nodes : List Node) (i p : ℕ) → home nodes i ≡ Some p → HasEpilog nodes p i → ⊥
no_end_before nodes i p h x =
    let j = x.0 in
    let to = x.2 in
    let within = home_within nodes i p h in
    let w : j < length nodes = omega (arith, to, within) in
    let from = x.1 in
    let next : home nodes (j + 1) ≡ Some p = home_between nodes i p h (j + 1) (omega (arith, from)) (omega (arith, to)) in
    let none : open_before nodes (j + 1) ≡ None = ends_at nodes j w x.3 in
    ⊎_elim
    (λ (o : open_before nodes (j + 1) ≡ Some p). let no : ◌≡◌ {A = Option ℕ} None (Some p) = sym none ∙ o in cc)
    (λ (b : Begins nodes (j + 1) p). absurd (omega (arith, b.here, from)))
    (home_cases nodes (j + 1) p next)

-- a function begins at its `prolog`, with none open before
first_of_home : (nodes : List Node) (i p : ℕ) → home nodes i ≡ Some p → Begins nodes p p
first_of_home nodes i p h = ⊎_elim
    (λ (o : open_before nodes p ≡ Some p). let no : p < p = open_below nodes p p o in absurd (omega arith))
    (λ (b : Begins nodes p p). b)
    (home_cases nodes p p (home_between nodes i p h p (omega arith) (home_from nodes i p h)))

-- a node is of no function only where none is open before it, and it is no `prolog`
none_of : (nodes : List Node) (i : ℕ) → i < length nodes → home nodes i ≡ None → (open_before nodes i ≡ None) × (is_prolog_at (slice_get nodes i) ≡ false)
none_of nodes i h e = let there = node_within nodes i h in by there.0 there.1 (open_before nodes i) (is_prolog there.0.op) refl refl (sym (home_here nodes i there.0 there.1) ∙ e)
  where
    by : (n : Node) → slice_get nodes i ≡ Some n → (o : Option ℕ) (a : Bool) → open_before nodes i ≡ o → is_prolog n.op ≡ a → home_of (open_before nodes i) i n.op ≡ None → (open_before nodes i ≡ None) × (is_prolog_at (slice_get nodes i) ≡ false)
    by n en (Some q) a eo ea none = let no : ◌≡◌ {A = Option ℕ} (Some q) None = sym (ap (λ (x : Option ℕ). home_of x i n.op) eo) ∙ none in cc
    by n en None false eo ea none = (eo, ap is_prolog_at en ∙ ea)
    by n en None true eo ea none = let no : ◌≡◌ {A = Option ℕ} (Some i) None = sym (ap (λ (x : Option ℕ). home_of x i n.op) eo ∙ ap (λ b. cond b (Some i) None) ea) ∙ none in cc

-- where no function is open after a node that is no `epilog`, it is of none
none_behind : (nodes : List Node) (i : ℕ) → i < length nodes → is_epilog_at (slice_get nodes i) ≡ false → open_before nodes (i + 1) ≡ None → home nodes i ≡ None
none_behind nodes i h e none =
    let there = node_within nodes i h in
    let at : is_epilog there.0.op ≡ false = sym (ap is_epilog_at there.1) ∙ e in
    home_here nodes i there.0 there.1 ∙ sym (open_on nodes i there.0 there.1 ∙ ap (λ b. cond b None (home_of (open_before nodes i) i there.0.op)) at) ∙ none

-- where no function is open, an `epilog` is after each `prolog` before
ended_before : (nodes : List Node) (q m : ℕ) → q < m → m ≤ length nodes → is_prolog_at (slice_get nodes q) ≡ true → open_before nodes m ≡ None → HasEpilog nodes q m
ended_before nodes q zero lt le begins none = absurd (omega arith)
ended_before nodes q (suc m) lt le begins none = by (is_epilog_at (slice_get nodes m)) refl (λ less closed. ended_before nodes q m less (omega arith) begins closed)
  where
    closed : open_before nodes (m + 1) ≡ None
    closed = ap (open_before nodes) (add-one m) ∙ none

    before : (q < m → open_before nodes m ≡ None → HasEpilog nodes q m) → (open_before nodes m ≡ None) × (is_prolog_at (slice_get nodes m) ≡ false) → HasEpilog nodes q (suc m)
    before again x = ⊎_elim
        (λ (same : q ≡ m). let clash : true ≡ false = sym begins ∙ ap (λ (k : ℕ). is_prolog_at (slice_get nodes k)) same ∙ x.1 in cc)
        (λ (other : q ≡ m → ⊥). let f = again (omega arith) x.0 in (f.0, f.1, omega (arith, f.2), f.3))
        (cases_eq q m)

    by : (b : Bool) → is_epilog_at (slice_get nodes m) ≡ b → (q < m → open_before nodes m ≡ None → HasEpilog nodes q m) → HasEpilog nodes q (suc m)
    by true e again = (m, omega arith, omega arith, e)
    by false e again = before again (none_of nodes m (omega arith) (none_behind nodes m (omega arith) e closed))

pub run_of_home : (nodes : List Node) (i p : ℕ) → home nodes i ≡ Some p → RunsTo nodes p i
run_of_home nodes i p h = record {
  order = home_from nodes i p h;
  begins = (first_of_home nodes i p h).prolog;
  goes_on = no_end_before nodes i p h;
  outside = λ q lt begins. ended_before nodes q p lt (let le = home_from nodes i p h in let w = home_within nodes i p h in omega (arith, le, w)) begins (first_of_home nodes i p h).closed;
}

-- no function is open where one begins
closed_where : (nodes : List Node) (p i : ℕ) → p < length nodes → RunsTo nodes p i → open_before nodes p ≡ None
closed_where nodes p i h r = by (open_before nodes p) refl
  where
    by : (o : Option ℕ) → open_before nodes p ≡ o → open_before nodes p ≡ None
    by None e = e
    by (Some q) e =
        let before = run_of_home nodes p q (home_next nodes p q h e) in
        absurd (before.goes_on (r.outside q (open_below nodes p q e) before.begins))

home_first : (nodes : List Node) (p i : ℕ) → p < length nodes → RunsTo nodes p i → home nodes p ≡ Some p
home_first nodes p i h r =
    let there = node_within nodes p h in
    let at : is_prolog there.0.op ≡ true = sym (ap is_prolog_at there.1) ∙ r.begins in
    home_here nodes p there.0 there.1 ∙ ap (λ (o : Option ℕ). home_of o p there.0.op) (closed_where nodes p i h r) ∙ ap (λ b. cond b (Some p) None) at

-- it goes on as long as no `epilog` is before
home_on : (nodes : List Node) (p d : ℕ) → p + d < length nodes → home nodes p ≡ Some p → (HasEpilog nodes p (p + d) → ⊥) → home nodes (p + d) ≡ Some p
home_on nodes p zero h first never = let e : p + 0 ≡ p = omega arith in rw e first
home_on nodes p (suc d) h first never =
    let e : p + suc d ≡ p + d + 1 = omega arith in
    let w : p + d < length nodes = omega arith in
    let before = home_on nodes p d w first (λ x. never (x.0, x.1, omega (arith, x.2), x.3)) in
    let there = node_within nodes (p + d) w in
    let goes : is_epilog there.0.op ≡ false = if_not (is_epilog there.0.op) (λ t. never (p + d, omega arith, omega arith, ap is_epilog_at there.1 ∙ t)) in
    let on = goes_on nodes (p + d) p there.0 there.1 before goes in
    rw e (home_next nodes (p + d + 1) p (omega arith) on.1)

pub home_of_run : (nodes : List Node) (i p : ℕ) → i < length nodes → RunsTo nodes p i → home nodes i ≡ Some p
home_of_run nodes i p h r =
    let order = r.order in
    let e : p + (i - p) ≡ i = omega arith in
    subst (λ (k : ℕ). home nodes k ≡ Some p) e
    (home_on nodes p (i - p) (omega arith) (home_first nodes p i (omega arith) r) (λ x. r.goes_on (x.0, x.1, omega (arith, x.2), x.3)))

pub homes_are : (nodes : List Node) (i p : ℕ) → i < length nodes → (home nodes i ≡ Some p) ↔ RunsTo nodes p i
homes_are nodes i p h = (run_of_home nodes i p, home_of_run nodes i p h)
