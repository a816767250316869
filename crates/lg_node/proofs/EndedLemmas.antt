-- The functions are the runs that end, in order.
use Rattle.std.proofs.Common.{◌≡◌, ◌↔◌, ⊎_elim, ℕ, zero, suc, ◌+◌, ◌-◌, ◌<◌, ◌≤◌, Bool, true, false, cond, List, [], ◌∷◌, ◌++◌, Option, Some, None, refl, sym, ap, ◌∙◌, subst, length, get_or, add-one, append-nil, arith}
use Rattle.std.specs.Prelude.{slice_range}
use Rattle.std.specs.List.{Contains, AllPairs, All, sum_by}
use Rattle.std.specs.Option.{option_to_list}
use Rattle.std.proofs.lemmas.Bool.{cases_lt}
use Rattle.std.proofs.lemmas.List.Elements.{All-contains, All-get_or, Contains-append_left, Contains-push}
use Rattle.std.proofs.lemmas.List.Quantifiers.{all_pairs_push}
use Rattle.lg_op.specs.declared.node.Node.{Node}
use Rattle.lg_node.specs.declared.function.Function.{Function}
use Rattle.lg_node.specs.Functions.{is_epilog, is_epilog_at, home, local_size, ended, ended_at, functions_before, functions}
use Rattle.lg_node.proofs.FunctionLemmas.{functions_start, functions_on}
use Rattle.lg_node.proofs.FunctionLaws.{node_within, IsBefore, all_before}
use Rattle.lg_node.specs.FunctionRuns.{IsEndedRun}
use Rattle.lg_node.proofs.RunLemmas.{run_of_home, home_of_run}

run_of_function : (nodes : List Node) (f : Function) → Contains (functions nodes) f → IsEndedRun nodes f
run_of_function nodes f here =
    let b = All-contains (IsBefore nodes (length nodes)) (functions nodes) f (all_before nodes (length nodes) (omega arith)) here in
    let is = b.is in
    record { within = is.within; runs = run_of_home nodes f.last f.entry (is.all f.last is.order (omega arith)); ends = is.ends; locals = is.locals }

-- later nodes only add functions
stays : (nodes : List Node) (f : Function) (i d : ℕ) → i + d ≤ length nodes → Contains (functions_before nodes i) f → Contains (functions_before nodes (i + d)) f
stays nodes f i zero h here = let e : i + 0 ≡ i = omega arith in rw e here
stays nodes f i (suc d) h here =
    let e : i + suc d ≡ i + d + 1 = omega arith in
    let there = node_within nodes (i + d) (omega arith) in
    rw (e, functions_on nodes (i + d) there.0 there.1)
    (Contains-append_left (functions_before nodes (i + d)) (option_to_list (ended_at nodes (home nodes (i + d)) (i + d) (Some there.0))) f (stays nodes f i d (omega arith) here))

abbrev with_locals : Function → ℕ → Function
with_locals f n = record { entry = f.entry; last = f.last; locals = n }

-- the function that ends at an `epilog` is there after it
ends_here : (nodes : List Node) (f : Function) → IsEndedRun nodes f → Contains (functions_before nodes (f.last + 1)) f
ends_here nodes f r =
    let there = node_within nodes f.last r.within in
    let at : is_epilog there.0.op ≡ true = sym (ap is_epilog_at there.1) ∙ r.ends in
    let h : home nodes f.last ≡ Some f.entry = home_of_run nodes f.last f.entry r.within r.runs in
    let made : Function = record { entry = f.entry; last = f.last; locals = sum_by local_size (slice_range nodes f.entry (f.last + 1)) } in
    let same : made ≡ f = ap (λ (n : ℕ). with_locals f n) (sym r.locals) in
    let ends : ended_at nodes (home nodes f.last) f.last (Some there.0) ≡ Some f = ap (λ (o : Option ℕ). ended nodes o f.last there.0.op) h ∙ ap (λ b. cond b (Some made) None) at ∙ ap Some same in
    rw (functions_on nodes f.last there.0 there.1, ends) (Contains-push (functions_before nodes f.last) f)

function_of_run : (nodes : List Node) (f : Function) → IsEndedRun nodes f → Contains (functions nodes) f
function_of_run nodes f r =
    let within = r.within in
    let e : f.last + 1 + (length nodes - (f.last + 1)) ≡ length nodes = omega arith in
    subst (λ (k : ℕ). Contains (functions_before nodes k) f) e (stays nodes f (f.last + 1) (length nodes - (f.last + 1)) (omega arith) (ends_here nodes f r))

pub functions_are : (nodes : List Node) (f : Function) → Contains (functions nodes) f ↔ IsEndedRun nodes f
functions_are nodes f = (run_of_function nodes f, function_of_run nodes f)

abbrev pub EndsBefore : Function → Function → Type 0
EndsBefore f g = f.last < g.entry

-- a function that ended before a node of another ended before that began
ended_first : (nodes : List Node) (i p : ℕ) → home nodes i ≡ Some p → (f : Function) → IsBefore nodes i f → f.last < p
ended_first nodes i p h f b = ⊎_elim
    (λ (lt : f.last < p). lt)
    (λ (le : p ≤ f.last). absurd ((run_of_home nodes i p h).goes_on (f.last, le, b.below, b.is.ends)))
    (cases_lt f.last p)

order_push : (nodes : List Node) (i : ℕ) (n : Node) (fs : List Function) (o : Option ℕ) (b : Bool) → home nodes i ≡ o → is_epilog n.op ≡ b → All (IsBefore nodes i) fs → AllPairs EndsBefore fs → AllPairs EndsBefore (fs ++ option_to_list (ended nodes o i n.op))
order_push nodes i n fs None b eo eb all order = rw append-nil order
order_push nodes i n fs (Some p) false eo eb all order = rw (eb, append-nil) order
order_push nodes i n fs (Some p) true eo eb all order =
    let made : Function = record { entry = p; last = i; locals = sum_by local_size (slice_range nodes p (i + 1)) } in
    let one : fs ++ option_to_list (ended nodes (Some p) i n.op) ≡ fs ++ made ∷ [] = ap (λ c. fs ++ option_to_list (cond c (Some made) None)) eb in
    subst (AllPairs EndsBefore) (sym one) (all_pairs_push EndsBefore fs made order (λ k d lt. ended_first nodes i p eo (get_or fs k d) (All-get_or (IsBefore nodes i) fs k d lt all)))

order_before : (nodes : List Node) (i : ℕ) → i ≤ length nodes → AllPairs EndsBefore (functions_before nodes i)
order_before nodes zero h = rw (functions_start nodes) (λ i j d lt le. absurd (omega arith))
order_before nodes (suc i) h =
    let there = node_within nodes i (omega arith) in
    let more = order_push nodes i there.0 (functions_before nodes i) (home nodes i) (is_epilog there.0.op) refl refl (all_before nodes i (omega arith)) (order_before nodes i (omega arith)) in
    rw (← add-one, functions_on nodes i there.0 there.1) more

pub in_order : (nodes : List Node) → AllPairs (λ f g. f.last < g.entry) (functions nodes)
in_order nodes = order_before nodes (length nodes) (omega arith)
