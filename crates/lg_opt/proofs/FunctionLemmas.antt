-- The functions of rewritten nodes.
use Rattle.std.proofs.Common.{◌≡◌, ℕ, zero, suc, ◌+◌, ◌<◌, ◌≤◌, Bool, true, false, not, ◌&&◌, cond, List, [], ◌∷◌, ◌++◌, Option, Some, None, length, map, position, refl, sym, ap, ◌∙◌, subst, arith, add-one, append-nil, nat_lt, ⊎_elim}
use Rattle.std.specs.Prelude.{nat_le, if◌then◌else◌, slice_get, slice_range}
use Rattle.std.specs.List.{All, sum_by, position_or_len}
use Rattle.std.specs.Option.{option_map, option_and_then, option_to_list}
use Rattle.std.proofs.lemmas.Bool.{cases_lt, lt-leb, le-leb, false≢true, and_right}
use Rattle.std.proofs.lemmas.Bool.Decides.{leb_tells}
use Rattle.std.proofs.lemmas.List.{length-map, map-append}
use Rattle.std.proofs.lemmas.List.Elements.{All-head, All-tail, All-weaker}
use Rattle.std.proofs.lemmas.Option.{slice_get-map, same_Some}
use Rattle.lg_op.specs.declared.node.Node.{Node}
use Rattle.lg_op.specs.declared.op.Op.{Op}
use Rattle.lg_op.specs.declared.operand.Label.{Label}
use Rattle.lg_node.specs.declared.function.Function.{Function}
use Rattle.lg_node.specs.Checks.{locals_before, IsAccepted}
use Rattle.lg_node.specs.Functions.{is_epilog, is_epilog_at, home, local_size, ended, functions_before, functions, has_node, function_of, IsFunction}
use Rattle.lg_node.specs.Nodes.{LabelledNodes}
use Rattle.lg_node.specs.ShapeLaws.{HasFunctions}
use Rattle.lg_node.proofs.FunctionLaws.{node_within}
use Rattle.lg_node.proofs.FunctionLemmas.{functions_start, functions_on}
use Rattle.lg_node.proofs.SuccessorLaws.{has_functions}
use Rattle.lg_node.proofs.WalkLemmas.{home_here, home_sum}
use Rattle.lg_meaning.specs.Steps.{function_here}
use Rattle.lg_opt.specs.Remaining.{new_number, retargeted, rewritten, IsRewriting}
use Rattle.lg_opt.specs.Renumbered.{moved_function}
use Rattle.lg_opt.proofs.RemainingLemmas.{number-zero, number-stays, number-goes, number-le, number-lt}
use Rattle.lg_opt.proofs.MovedLemmas.{same-op, same-size, new-count, stands}
use Rattle.lg_opt.proofs.ShapeLemmas.{goes-no-epilog, locals-moved, home-moved}

-- places in a list each of whose elements was replaced
position-map : {A B : Type 0} (p : A → Bool) (q : B → Bool) (f : A → B) (xs : List A) → All (λ x. q (f x) ≡ p x) xs → position_or_len q (map f xs) ≡ position_or_len p xs
position-map p q f [] all = refl
position-map p q f (x ∷ xs) all =
    ap (λ b. cond (not b) (1 + position_or_len q (map f xs)) 0) (All-head (λ x. q (f x) ≡ p x) x xs all)
    ∙ ap (λ n. cond (not (p x)) (1 + n) 0) (position-map p q f xs (All-tail (λ x. q (f x) ≡ p x) x xs all))

found-map : {A B : Type 0} (p : A → Bool) (q : B → Bool) (f : A → B) (xs : List A) → All (λ x. q (f x) ≡ p x) xs → position q (map f xs) ≡ position p xs
found-map p q f xs all =
    ap (λ n. cond (nat_lt n (length (map f xs))) (Some n) None) (position-map p q f xs all)
    ∙ ap (λ n. cond (nat_lt (position_or_len p xs) n) (Some (position_or_len p xs)) None) (length-map xs f)

-- an element of a list
pub element : {X : Type 0} (P : X → Type 0) (xs : List X) (i : ℕ) (x : X) → slice_get xs i ≡ Some x → All P xs → P x
element P [] i x e all = cc
element P (y ∷ ys) zero x e all = let same : y ≡ x = cc in subst P same (All-head P y ys all)
element P (y ∷ ys) (suc i) x e all = element P ys i x e (All-tail P y ys all)

-- what a node of accepted nodes has as its function
pub function-is : (l : LabelledNodes) (a : IsAccepted l) (k : ℕ) (f : Function) → function_here (functions l.nodes) k ≡ Some f → IsFunction l.nodes f
function-is l a k f e = by (function_of (functions l.nodes) k) e
  where
    by : (o : Option ℕ) → option_and_then (slice_get (functions l.nodes)) o ≡ Some f → IsFunction l.nodes f
    by None e = cc
    by (Some i) e = element (IsFunction l.nodes) (functions l.nodes) i f e (has_functions l a).ranges

-- a node that has a function is one of it
pub here-home : (l : LabelledNodes) (a : IsAccepted l) (k : ℕ) (f : Function) → function_here (functions l.nodes) k ≡ Some f → home l.nodes k ≡ Some f.entry
here-home l a k f e = by (home l.nodes k) refl
  where
    by : (o : Option ℕ) → home l.nodes k ≡ o → home l.nodes k ≡ Some f.entry
    by None h =
        let none = ap (option_and_then (slice_get (functions l.nodes))) ((has_functions l a).outside k h).0 in
        let no : ◌≡◌ {A = Option Function} None (Some f) = sym none ∙ e in
        cc
    by (Some p) h =
        let one = (has_functions l a).numbers k p h in
        let found : function_here (functions l.nodes) k ≡ Some one.function = ap (option_and_then (slice_get (functions l.nodes))) one.numbered ∙ one.listed in
        let same : one.function ≡ f = cc in
        h ∙ ap (λ (x : ℕ). Some x) (sym one.entry ∙ ap (λ (g : Function). g.entry) same)

module _ (l : LabelledNodes) (stays : ℕ → Bool) (targets : ℕ → Option Label) (r : IsRewriting l stays targets) (a : IsAccepted l) where
  abbrev m : LabelledNodes
  m = rewritten l stays targets

  abbrev nu : ℕ → ℕ
  nu = new_number stays

  has : HasFunctions l
  has = has_functions l a

  -- a node that ends a function stays
  pub epilog-stays : (k : ℕ) → is_epilog_at (slice_get l.nodes k) ≡ true → stays k ≡ true
  epilog-stays k e = by (slice_get l.nodes k) (stays k) refl refl e
    where
      by : (o : Option Node) (b : Bool) → slice_get l.nodes k ≡ o → stays k ≡ b → is_epilog_at o ≡ true → stays k ≡ true
      by None b f s e = cc
      by (Some n) true f s e = s
      by (Some n) false f s e = absurd (false≢true (sym (goes-no-epilog n.op (r.goes k n f s)) ∙ e))

  -- a function that ends at a node
  ended-moved : (i : ℕ) (n : Node) (h : Option ℕ) → slice_get l.nodes i ≡ Some n → i < length l.nodes → stays i ≡ true → home l.nodes i ≡ h → ended m.nodes (option_map nu h) (nu i) n.op ≡ option_map (moved_function nu) (ended l.nodes h i n.op)
  ended-moved i n None e lt s h = refl
  ended-moved i n (Some p) e lt s h =
      ap (λ k. if is_epilog n.op then Some record { entry = nu p; last = nu i; locals = k } else None) sizes ∙ by (is_epilog n.op)
    where
      old : sum_by local_size (slice_range l.nodes p (i + 1)) ≡ locals_before l.nodes i + local_size n
      old = home_sum local_size l.nodes i p n e (sym (home_here l.nodes i n e) ∙ h)

      k : Node
      k = retargeted (targets i) n

      there : slice_get m.nodes (nu i) ≡ Some (retargeted (targets i) n)
      there = stands l stays targets i n e s

      new : sum_by local_size (slice_range m.nodes (nu p) (nu i + 1)) ≡ locals_before m.nodes (nu i) + local_size (retargeted (targets i) n)
      new = home_sum local_size m.nodes (nu i) (nu p) (retargeted (targets i) n) there (sym (home_here m.nodes (nu i) (retargeted (targets i) n) there) ∙ home-moved l stays targets r i n e (omega arith) s ∙ ap (option_map nu) h)

      sizes : sum_by local_size (slice_range m.nodes (nu p) (nu i + 1)) ≡ sum_by local_size (slice_range l.nodes p (i + 1))
      sizes = new ∙ ap (λ x. x + local_size (retargeted (targets i) n)) (locals-moved l stays targets r i (omega arith)) ∙ ap (λ x. locals_before l.nodes i + x) (same-size (targets i) n (λ y t. (r.leads i n y e t).0)) ∙ sym old

      by : (b : Bool) → (if b then Some record { entry = nu p; last = nu i; locals = sum_by local_size (slice_range l.nodes p (i + 1)) } else None)
          ≡ option_map (moved_function nu) (if b then Some record { entry = p; last = i; locals = sum_by local_size (slice_range l.nodes p (i + 1)) } else None)
      by true = refl
      by false = refl

  none-ends : (h : Option ℕ) (i : ℕ) (p : Op) → is_epilog p ≡ false → ended l.nodes h i p ≡ None
  none-ends None i p e = refl
  none-ends (Some q) i p e = ap (λ b. if b then Some record { entry = q; last = i; locals = sum_by local_size (slice_range l.nodes q (i + 1)) } else None) e

  map-one : (o : Option Function) → option_to_list (option_map (moved_function nu) o) ≡ map (moved_function nu) (option_to_list o)
  map-one None = refl
  map-one (Some f) = refl

  before-moved : (i : ℕ) → i ≤ length l.nodes → functions_before m.nodes (nu i) ≡ map (moved_function nu) (functions_before l.nodes i)
  before-moved zero le = ap (functions_before m.nodes) (number-zero stays) ∙ functions_start m.nodes ∙ ap (map (moved_function nu)) (sym (functions_start l.nodes))
  before-moved (suc i) le = by (stays i) refl (node_within l.nodes i (omega arith)) (before-moved i (omega arith))
    where
      by : (b : Bool) → stays i ≡ b → (n : Node) × (slice_get l.nodes i ≡ Some n) → functions_before m.nodes (nu i) ≡ map (moved_function nu) (functions_before l.nodes i) → functions_before m.nodes (nu (suc i)) ≡ map (moved_function nu) (functions_before l.nodes (suc i))
      by true s n h =
          let k = retargeted (targets i) n.0 in
          ap (functions_before m.nodes) (number-stays stays i s)
          ∙ functions_on m.nodes (nu i) k (stands l stays targets i n.0 n.1 s)
          ∙ ap (λ fs. fs ++ option_to_list (ended m.nodes (home m.nodes (nu i)) (nu i) k.op)) h
          ∙ ap (λ p. map (moved_function nu) (functions_before l.nodes i) ++ option_to_list (ended m.nodes (home m.nodes (nu i)) (nu i) p)) (same-op (targets i) n.0)
          ∙ ap (λ o. map (moved_function nu) (functions_before l.nodes i) ++ option_to_list (ended m.nodes o (nu i) n.0.op)) (home-moved l stays targets r i n.0 n.1 (omega arith) s)
          ∙ ap (λ o. map (moved_function nu) (functions_before l.nodes i) ++ option_to_list o) (ended-moved i n.0 (home l.nodes i) n.1 (omega arith) s refl)
          ∙ ap (λ fs. map (moved_function nu) (functions_before l.nodes i) ++ fs) (map-one (ended l.nodes (home l.nodes i) i n.0.op))
          ∙ sym (map-append (moved_function nu) (functions_before l.nodes i) (option_to_list (ended l.nodes (home l.nodes i) i n.0.op)))
          ∙ ap (map (moved_function nu)) (sym (functions_on l.nodes i n.0 n.1) ∙ ap (functions_before l.nodes) (add-one i))
      by false s n h =
          ap (functions_before m.nodes) (number-goes stays i s) ∙ h
          ∙ ap (map (moved_function nu)) (sym (ap (λ o. functions_before l.nodes i ++ option_to_list o) (none-ends (home l.nodes i) i n.0.op (goes-no-epilog n.0.op (r.goes i n.0 n.1 s))) ∙ append-nil (functions_before l.nodes i))
          ∙ sym (functions_on l.nodes i n.0 n.1) ∙ ap (functions_before l.nodes) (add-one i))

  pub functions-moved : functions (rewritten l stays targets).nodes ≡ map (moved_function (new_number stays)) (functions l.nodes)
  functions-moved = ap (functions_before m.nodes) (new-count l stays targets) ∙ before-moved (length l.nodes) (omega arith)

  -- a node of a function is one of the same function
  same-has : (k p : ℕ) → home l.nodes k ≡ Some p → (f : Function) → IsFunction l.nodes f → has_node (nu k) (moved_function nu f) ≡ has_node k f
  same-has k p h f is = ⊎_elim
      (λ from. ⊎_elim
      (λ to. inside from.0 from.1 to.0 to.1)
      (λ out. let up = number-lt stays f.last k out.1 (epilog-stays f.last is.ends) in ap (λ b. nat_le (nu f.entry) (nu k) && b) (lt-leb (nu k) (nu f.last) up) ∙ and_right (nat_le (nu f.entry) (nu k)) false refl ∙ sym (ap (λ b. nat_le f.entry k && b) out.0 ∙ and_right (nat_le f.entry k) false refl))
      (leb_tells k f.last))
      (λ out. ap (λ b. b && nat_le (nu k) (nu f.last)) (lt-leb (nu f.entry) (nu k) (before out.1)) ∙ sym (ap (λ b. b && nat_le k f.last) out.0))
      (leb_tells f.entry k)
    where
      inside : nat_le f.entry k ≡ true → f.entry ≤ k → nat_le k f.last ≡ true → k ≤ f.last → has_node (nu k) (moved_function nu f) ≡ has_node k f
      inside e from e' to =
          ap (λ b. b && nat_le (nu k) (nu f.last)) (le-leb (nu f.entry) (nu k) (number-le stays f.entry k from)) ∙ le-leb (nu k) (nu f.last) (number-le stays k f.last to)
          ∙ sym (ap (λ b. b && nat_le k f.last) e ∙ e')

      -- the function of a node has ended before one that begins after it
      before : k < f.entry → nu k < nu f.entry
      before lt =
          let one = has.numbers k p h in
          let all = element (IsFunction l.nodes) (functions l.nodes) one.number one.function one.listed has.ranges in
          let ends = epilog-stays one.function.last all.ends in
          let low = number-le stays k one.function.last one.to in
          ⊎_elim
          (λ apart. let up = number-lt stays one.function.last f.entry apart ends in omega arith)
          (λ over.
          let here = all.all f.entry (let z = one.from in omega arith) over in
          let begins = is.all f.entry (omega arith) is.order in
          let same : one.function.entry ≡ f.entry = same_Some _ _ (sym here ∙ begins) in
          let z = one.from in absurd (omega arith))
          (cases_lt one.function.last f.entry)

  number-moved : (k p : ℕ) → home l.nodes k ≡ Some p → function_of (map (moved_function nu) (functions l.nodes)) (nu k) ≡ function_of (functions l.nodes) k
  number-moved k p h = found-map (has_node k) (has_node (nu k)) (moved_function nu) (functions l.nodes) (All-weaker (IsFunction l.nodes) (λ f. has_node (nu k) (moved_function nu f) ≡ has_node k f) (same-has k p h) (functions l.nodes) has.ranges)

  pub here-moved : (k p : ℕ) → home l.nodes k ≡ Some p → function_here (functions (rewritten l stays targets).nodes) (new_number stays k) ≡ option_map (moved_function (new_number stays)) (function_here (functions l.nodes) k)
  here-moved k p h =
      ap (λ fs. function_here fs (nu k)) functions-moved
      ∙ ap (option_and_then (slice_get (map (moved_function nu) (functions l.nodes)))) (number-moved k p h)
      ∙ by (function_of (functions l.nodes) k)
    where
      by : (o : Option ℕ) → option_and_then (slice_get (map (moved_function nu) (functions l.nodes))) o ≡ option_map (moved_function nu) (option_and_then (slice_get (functions l.nodes)) o)
      by None = refl
      by (Some j) = slice_get-map (moved_function nu) (functions l.nodes) j

  pub function-moved : (k : ℕ) (f : Function) → function_here (functions l.nodes) k ≡ Some f → function_here (functions (rewritten l stays targets).nodes) (new_number stays k) ≡ Some (moved_function (new_number stays) f)
  function-moved k f e = here-moved k f.entry (here-home l a k f e) ∙ ap (option_map (moved_function nu)) e
