-- Each function is a range of nodes, and each node of a function is in the range of exactly that one.
use Rattle.std.proofs.Common.{◌≡◌, ◌⊎◌, inl, inr, ⊎_elim, ℕ, zero, suc, ◌+◌, ◌-◌, ◌<◌, ◌≤◌, Bool, true, false, cond, List, [], ◌∷◌, ◌++◌, Option, Some, None, refl, sym, ap, ◌∙◌, length, get_or, add-one, add-zero, append_assoc, append-nil, ap₂, arith}
use Rattle.std.specs.Prelude.{slice_get, slice_range}
use Rattle.std.specs.List.{All, sum_by}
use Rattle.std.specs.Option.{option_to_list}
use Rattle.std.proofs.lemmas.Bool.{cases_lt, cases_eq}
use Rattle.std.proofs.lemmas.List.Elements.{All-nil, All-push, All-weaker}
use Rattle.std.proofs.lemmas.Option.{slice_get-get_or, slice_get_within}
use Rattle.lg_op.specs.declared.op.Op.TheVariants.{Plain}
use Rattle.lg_op.specs.declared.op.PlainOp.TheVariants as plain
use Rattle.lg_op.specs.declared.node.Node.{Node}
use Rattle.lg_node.specs.declared.function.Function.{Function}
use Rattle.lg_node.specs.Functions.{is_prolog, is_epilog, is_prolog_at, is_epilog_at, home_of, home_at, open_after_at, open_before, home, local_size, ended, ended_at, functions_before, functions, IsFunction}
use Rattle.lg_node.proofs.WalkLemmas.{home_here, home_past, open_start, open_on, open_below}
use Rattle.lg_node.proofs.FunctionLemmas.{functions_start, functions_on}

empty_node : Node
empty_node = record { op = Plain plain.Movi; operands = []; line = 0 }

-- the node of an index
pub node_within : (nodes : List Node) (i : ℕ) → i < length nodes → (n : Node) × (slice_get nodes i ≡ Some n)
node_within nodes i h = (get_or nodes i empty_node, slice_get-get_or nodes i empty_node h)

pub home_within : (nodes : List Node) (i p : ℕ) → home nodes i ≡ Some p → i < length nodes
home_within nodes i p e = ⊎_elim (λ (h : i < length nodes). h) (λ (h : length nodes ≤ i). let no : ◌≡◌ {A = Option ℕ} None (Some p) = sym (home_past nodes i h) ∙ e in cc) (cases_lt i (length nodes))

-- a node of a function: the function was open before it, or begins there
pub record Begins (nodes : List Node) (i p : ℕ) : Type 0 where
  pub here : p ≡ i
  pub closed : open_before nodes i ≡ None
  pub prolog : is_prolog_at (slice_get nodes i) ≡ true

begins_or : (nodes : List Node) (i p : ℕ) (n : Node) (o : Option ℕ) (a : Bool) → open_before nodes i ≡ o → is_prolog n.op ≡ a → slice_get nodes i ≡ Some n → home_of o i n.op ≡ Some p → (open_before nodes i ≡ Some p) ⊎ Begins nodes i p
begins_or nodes i p n (Some q) a eo ea en h = inl (eo ∙ h)
begins_or nodes i p n None true eo ea en h =
    let at : ◌≡◌ {A = Option ℕ} (Some i) (Some p) = rw ea at h in
    inr record { here = cc; closed = eo; prolog = ap is_prolog_at en ∙ ea }
begins_or nodes i p n None false eo ea en h = let no : ◌≡◌ {A = Option ℕ} None (Some p) = rw ea at h in cc

pub home_cases : (nodes : List Node) (i p : ℕ) → home nodes i ≡ Some p → (open_before nodes i ≡ Some p) ⊎ Begins nodes i p
home_cases nodes i p e =
    let there = node_within nodes i (home_within nodes i p e) in
    begins_or nodes i p there.0 (open_before nodes i) (is_prolog there.0.op) refl refl there.1 (sym (home_here nodes i there.0 there.1) ∙ e)

pub home_from : (nodes : List Node) (i p : ℕ) → home nodes i ≡ Some p → p ≤ i
home_from nodes i p e = ⊎_elim (λ (o : open_before nodes i ≡ Some p). let h : p < i = open_below nodes i p o in omega arith) (λ (b : Begins nodes i p). omega (arith, b.here)) (home_cases nodes i p e)

-- a function that is open before a node is that of the node before
open_from : (nodes : List Node) (i p : ℕ) → open_before nodes (suc i) ≡ Some p → home nodes i ≡ Some p
unfolding open_before home
open_from nodes i p e = by (home_at (open_before nodes i) i (slice_get nodes i)) (slice_get nodes i) e
  where
    kept : (h : Option ℕ) (b : Bool) → cond b None h ≡ Some p → h ≡ Some p
    kept h true e = cc
    kept h false e = e

    by : (h : Option ℕ) (o : Option Node) → open_after_at h o ≡ Some p → h ≡ Some p
    by h None e = e
    by h (Some n) e = kept h (is_epilog n.op) e

home_back : (nodes : List Node) (i p : ℕ) → p ≤ i → home nodes (suc i) ≡ Some p → home nodes i ≡ Some p
home_back nodes i p h e = ⊎_elim (λ (o : open_before nodes (suc i) ≡ Some p). open_from nodes i p o) (λ (b : Begins nodes (suc i) p). absurd (omega (arith, b.here))) (home_cases nodes (suc i) p e)

-- all nodes from the `prolog` on are of the function
pub home_between : (nodes : List Node) (e p : ℕ) → home nodes e ≡ Some p → (k : ℕ) → p ≤ k → k ≤ e → home nodes k ≡ Some p
home_between nodes zero p h k from to = let same : k ≡ 0 = omega arith in rw same h
home_between nodes (suc e) p h k from to = ⊎_elim (λ (same : k ≡ suc e). rw same h) (λ (other : k ≡ suc e → ⊥). home_between nodes e p (home_back nodes e p (omega arith) h) k from (omega arith)) (cases_eq k (suc e))

home_begins : (nodes : List Node) (e p : ℕ) → home nodes e ≡ Some p → is_prolog_at (slice_get nodes p) ≡ true
home_begins nodes e p h = ⊎_elim (λ (o : open_before nodes p ≡ Some p). let no : p < p = open_below nodes p p o in absurd (omega arith)) (λ (b : Begins nodes p p). b.prolog) (home_cases nodes p p (home_between nodes e p h p (omega arith) (home_from nodes e p h)))

-- where no function is open, each one that is open later begins there or later
pub closed_on : (nodes : List Node) (i j q : ℕ) → open_before nodes i ≡ None → i ≤ j → open_before nodes j ≡ Some q → i ≤ q
closed_on nodes i zero q closed h e = let no : ◌≡◌ {A = Option ℕ} None (Some q) = sym (open_start nodes) ∙ e in cc
closed_on nodes i (suc j) q closed h e = ⊎_elim
    (λ (same : i ≡ suc j). let no : ◌≡◌ {A = Option ℕ} None (Some q) = sym (ap (open_before nodes) (sym same) ∙ closed) ∙ e in cc)
    (λ (other : i ≡ suc j → ⊥). ⊎_elim
    (λ (o : open_before nodes j ≡ Some q). closed_on nodes i j q closed (omega arith) o)
    (λ (b : Begins nodes j q). omega (arith, b.here))
    (home_cases nodes j q (open_from nodes j q e)))
    (cases_eq i (suc j))

-- after its `epilog` no node is of the function
home_until : (nodes : List Node) (e p k : ℕ) → home nodes e ≡ Some p → open_before nodes (e + 1) ≡ None → home nodes k ≡ Some p → k ≤ e
home_until nodes e p k h closed at = ⊎_elim
    (λ (below : k < e + 1). omega arith)
    (λ (above : e + 1 ≤ k). ⊎_elim
    (λ (o : open_before nodes k ≡ Some p). let from : e + 1 ≤ p = closed_on nodes (e + 1) k p closed above o in let to : p ≤ e = home_from nodes e p h in absurd (omega arith))
    (λ (b : Begins nodes k p). let to : p ≤ e = home_from nodes e p h in absurd (omega (arith, b.here)))
    (home_cases nodes k p at))
    (cases_lt k (e + 1))

ended_is : (nodes : List Node) (i p : ℕ) (n : Node) → slice_get nodes i ≡ Some n → home nodes i ≡ Some p → is_epilog n.op ≡ true → IsFunction nodes record { entry = p; last = i; locals = sum_by local_size (slice_range nodes p (i + 1)) }
ended_is nodes i p n en h epilog = record {
  order = home_from nodes i p h;
  within = home_within nodes i p h;
  begins = home_begins nodes i p h;
  ends = ap is_epilog_at en ∙ epilog;
  all = home_between nodes i p h;
  only = λ k at. (home_from nodes k p at, home_until nodes i p k h (open_on nodes i n en ∙ ap (λ b. cond b None (home_of (open_before nodes i) i n.op)) epilog) at);
  locals = refl;
}

-- each of these functions is one, and ends before a node
pub record IsBefore (nodes : List Node) (i : ℕ) (f : Function) : Type 0 where
  pub is : IsFunction nodes f
  pub below : f.last < i

before_push : (nodes : List Node) (i : ℕ) (n : Node) (fs : List Function) (o : Option ℕ) (b : Bool) → slice_get nodes i ≡ Some n → home nodes i ≡ o → is_epilog n.op ≡ b → All (IsBefore nodes (i + 1)) fs → All (IsBefore nodes (i + 1)) (fs ++ option_to_list (ended nodes o i n.op))
before_push nodes i n fs None b en eo eb all = rw append-nil all
before_push nodes i n fs (Some p) true en eo eb all = rw eb (All-push (IsBefore nodes (i + 1)) fs record { entry = p; last = i; locals = sum_by local_size (slice_range nodes p (i + 1)) } all record { is = ended_is nodes i p n en eo eb; below = omega arith })
before_push nodes i n fs (Some p) false en eo eb all = rw (eb, append-nil) all

pub all_before : (nodes : List Node) (i : ℕ) → i ≤ length nodes → All (IsBefore nodes i) (functions_before nodes i)
all_before nodes zero h = rw (functions_start nodes) (All-nil (IsBefore nodes 0))
all_before nodes (suc i) h =
    let there = node_within nodes i (omega arith) in
    let weaker : (f : Function) → IsBefore nodes i f → IsBefore nodes (i + 1) f = λ f w. record { is = w.is; below = omega (arith, w.below) } in
    let more = before_push nodes i there.0 (functions_before nodes i) (home nodes i) (is_epilog there.0.op) there.1 refl refl (All-weaker (IsBefore nodes i) (IsBefore nodes (i + 1)) weaker (functions_before nodes i) (all_before nodes i (omega arith))) in
    rw (← add-one, functions_on nodes i there.0 there.1) more

-- later nodes only add functions
grows : (nodes : List Node) (i d : ℕ) → i + d ≤ length nodes → (rest : List Function) × (functions_before nodes (i + d) ≡ functions_before nodes i ++ rest)
grows nodes i zero h = ([], ap (functions_before nodes) (add-zero i) ∙ sym (append-nil (functions_before nodes i)))
grows nodes i (suc d) h =
    let before = grows nodes i d (omega arith) in
    let there = node_within nodes (i + d) (omega arith) in
    let next : i + suc d ≡ i + d + 1 = omega arith in
    let ends = option_to_list (ended_at nodes (home nodes (i + d)) (i + d) (Some there.0)) in
    (before.0 ++ ends, ap (functions_before nodes) next ∙ functions_on nodes (i + d) there.0 there.1 ∙ ap (λ (fs : List Function). fs ++ ends) before.1 ∙ append_assoc (functions_before nodes i) before.0 ends)

grows_to : (nodes : List Node) (i j : ℕ) → i ≤ j → j ≤ length nodes → (rest : List Function) × (functions_before nodes j ≡ functions_before nodes i ++ rest)
grows_to nodes i j h to =
    let more = grows nodes i (j - i) (omega arith) in
    let at : i + (j - i) ≡ j = omega arith in
    (more.0, ap (functions_before nodes) (sym at) ∙ more.1)

-- the function of a node is the next to end
pub record Closes (nodes : List Node) (k p : ℕ) : Type 0 where
  pub function : Function
  pub rest : List Function
  pub split : functions nodes ≡ functions_before nodes k ++ function ∷ rest
  pub entry : function.entry ≡ p
  pub last : k ≤ function.last

closes_here : (nodes : List Node) (k j p : ℕ) (n : Node) → slice_get nodes j ≡ Some n → k ≤ j → home nodes j ≡ Some p → is_epilog n.op ≡ true → functions_before nodes j ≡ functions_before nodes k → Closes nodes k p
closes_here nodes k j p n en from h eb same =
    let f : Function = record { entry = p; last = j; locals = sum_by local_size (slice_range nodes p (j + 1)) } in
    let more = grows_to nodes (j + 1) (length nodes) (let w : j < length nodes = slice_get_within nodes j n en in omega arith) (omega arith) in
    let ends : ended_at nodes (home nodes j) j (Some n) ≡ Some f = rw (h, eb) refl in
    let here : functions_before nodes (j + 1) ≡ functions_before nodes k ++ f ∷ [] = functions_on nodes j n en ∙ ap₂ (λ (fs : List Function) (o : Option Function). fs ++ option_to_list o) same ends in
    record {
      function = f;
      rest = more.0;
      split = more.1 ∙ ap (λ (fs : List Function). fs ++ more.0) here ∙ append_assoc (functions_before nodes k) (f ∷ []) more.0;
      entry = refl;
      last = from;
    }

-- no function ends at a node that is no `epilog`, and its function is open after it
pub goes_on : (nodes : List Node) (j p : ℕ) (n : Node) → slice_get nodes j ≡ Some n → home nodes j ≡ Some p → is_epilog n.op ≡ false → (functions_before nodes (j + 1) ≡ functions_before nodes j) × (open_before nodes (j + 1) ≡ Some p)
goes_on nodes j p n en h eb =
    let ends : ended_at nodes (home nodes j) j (Some n) ≡ None = rw (h, eb) refl in (
      functions_on nodes j n en ∙ ap (λ (o : Option Function). functions_before nodes j ++ option_to_list o) ends ∙ append-nil (functions_before nodes j),
      open_on nodes j n en ∙ ap (λ b. cond b None (home_of (open_before nodes j) j n.op)) eb ∙ sym (home_here nodes j n en) ∙ h,
    )

pub home_next : (nodes : List Node) (i p : ℕ) → i < length nodes → open_before nodes i ≡ Some p → home nodes i ≡ Some p
home_next nodes i p h e =
    let there = node_within nodes i h in
    home_here nodes i there.0 there.1 ∙ ap (λ (o : Option ℕ). home_of o i there.0.op) e

closes_from : (nodes : List Node) (k p : ℕ) → open_before nodes (length nodes) ≡ None → (fuel j : ℕ) → j + fuel ≡ length nodes → k ≤ j → home nodes j ≡ Some p → functions_before nodes j ≡ functions_before nodes k → Closes nodes k p
closes_from nodes k p closed zero j end from h same = let w : j < length nodes = home_within nodes j p h in absurd (omega arith)
closes_from nodes k p closed (suc fuel) j end from h same =
    let there = node_within nodes j (home_within nodes j p h) in
    by there.0 (is_epilog there.0.op) there.1 refl (closes_from nodes k p closed fuel (j + 1) (omega arith) (omega arith))
  where
    by : (n : Node) (b : Bool) → slice_get nodes j ≡ Some n → is_epilog n.op ≡ b → (home nodes (j + 1) ≡ Some p → functions_before nodes (j + 1) ≡ functions_before nodes k → Closes nodes k p) → Closes nodes k p
    by n true en eb next = closes_here nodes k j p n en from h eb same
    by n false en eb next =
        let on = goes_on nodes j p n en h eb in
        ⊎_elim
        (λ (within : j + 1 < length nodes). next (home_next nodes (j + 1) p within on.1) (on.0 ∙ same))
        (λ (past : length nodes ≤ j + 1). let w : j < length nodes = home_within nodes j p h in let at : j + 1 ≡ length nodes = omega arith in let no : ◌≡◌ {A = Option ℕ} None (Some p) = sym closed ∙ ap (open_before nodes) (sym at) ∙ on.1 in cc)
        (cases_lt (j + 1) (length nodes))

pub closes : (nodes : List Node) (k p : ℕ) → open_before nodes (length nodes) ≡ None → home nodes k ≡ Some p → Closes nodes k p
closes nodes k p closed h = closes_from nodes k p closed (length nodes - k) k (let w : k < length nodes = home_within nodes k p h in omega arith) (omega arith) h refl
