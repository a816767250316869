-- The number of a node's function is how many functions end before the node.
use Rattle.std.proofs.Common.{◌≡◌, ℕ, suc, ◌+◌, ◌<◌, ◌≤◌, Bool, true, false, cond, List, [], ◌∷◌, ◌++◌, Option, Some, None, refl, sym, ap, ◌∙◌, length, length-append, arith}
use Rattle.std.specs.Prelude.{nat_le, nat_lt}
use Rattle.std.specs.List.{All, find, position, position_or_len}
use Rattle.std.proofs.lemmas.Bool.{leb-true, lt-leb, lt-ltb, le-ltb, le-leb, and_parts, and_right, and_from}
use Rattle.std.proofs.lemmas.List.Elements.{All-head, All-tail, All-weaker}
use Rattle.lg_op.specs.declared.node.Node.{Node}
use Rattle.lg_node.specs.declared.function.Function.{Function}
use Rattle.lg_node.specs.Functions.{open_before, home, functions_before, functions, has_node, function_of, function_at, IsFunction}
use Rattle.lg_node.specs.Tables.{number_in, number_of}
use Rattle.lg_node.proofs.FunctionLaws.{IsBefore, all_before, home_within, home_from, Closes, closes}

one_more : (n : ℕ) → 1 + n ≡ suc n
one_more n = omega arith

module _ {A : Type 0} (test : A → Bool) where
  position_split_or : (xs : List A) (y : A) (ys : List A) → All (λ x. test x ≡ false) xs → test y ≡ true → position_or_len test (xs ++ y ∷ ys) ≡ length xs
  position_split_or [] y ys all here = rw here refl
  position_split_or (x ∷ xs) y ys all here = rw (All-head (λ z. test z ≡ false) x xs all) (ap (λ n. 1 + n) (position_split_or xs y ys (All-tail (λ z. test z ≡ false) x xs all) here) ∙ one_more (length xs))

  pub position_split : (xs : List A) (y : A) (ys : List A) → All (λ x. test x ≡ false) xs → test y ≡ true → position test (xs ++ y ∷ ys) ≡ Some (length xs)
  position_split xs y ys all here =
      let count : length (xs ++ y ∷ ys) ≡ length xs + length (y ∷ ys) = length-append xs (y ∷ ys) in
      let some : 0 < length (y ∷ ys) = omega arith in
      ap (λ (n : ℕ). cond (nat_lt n (length (xs ++ y ∷ ys))) (Some n) None) (position_split_or xs y ys all here)
      ∙ ap (λ b. cond b (Some (length xs)) None) (lt-ltb (length xs) (length (xs ++ y ∷ ys)) (omega arith))

  pub find_split : (xs : List A) (y : A) (ys : List A) → All (λ x. test x ≡ false) xs → test y ≡ true → find test (xs ++ y ∷ ys) ≡ Some y
  find_split [] y ys all here = rw here refl
  find_split (x ∷ xs) y ys all here = rw (All-head (λ z. test z ≡ false) x xs all) (find_split xs y ys (All-tail (λ z. test z ≡ false) x xs all) here)

  position_none_or : (xs : List A) → All (λ x. test x ≡ false) xs → position_or_len test xs ≡ length xs
  position_none_or [] all = refl
  position_none_or (x ∷ xs) all = rw (All-head (λ z. test z ≡ false) x xs all) (ap (λ n. 1 + n) (position_none_or xs (All-tail (λ z. test z ≡ false) x xs all)) ∙ one_more (length xs))

  pub position_none : (xs : List A) → All (λ x. test x ≡ false) xs → position test xs ≡ None
  position_none xs all =
      ap (λ (n : ℕ). cond (nat_lt n (length xs)) (Some n) None) (position_none_or xs all)
      ∙ ap (λ b. cond b (Some (length xs)) None) (le-ltb (length xs) (length xs) (omega arith))

  pub find_none : (xs : List A) → All (λ x. test x ≡ false) xs → find test xs ≡ None
  find_none [] all = refl
  find_none (x ∷ xs) all = rw (All-head (λ z. test z ≡ false) x xs all) (find_none xs (All-tail (λ z. test z ≡ false) x xs all))

-- a function that ends before a node does not have it
not_before : (nodes : List Node) (k : ℕ) (f : Function) → IsBefore nodes k f → has_node k f ≡ false
not_before nodes k f b = and_right (nat_le f.entry k) (nat_le k f.last) (lt-leb k f.last b.below)

-- a function that has a node is that node's
pub has_home : (nodes : List Node) (k : ℕ) (f : Function) → IsFunction nodes f → has_node k f ≡ true → home nodes k ≡ Some f.entry
has_home nodes k f is h =
    let parts = and_parts (nat_le f.entry k) (nat_le k f.last) h in
    is.all k (leb-true f.entry k parts.0) (leb-true k f.last parts.1)

-- outside of each function
not_outside : (nodes : List Node) (k : ℕ) (f : Function) (b : Bool) → home nodes k ≡ None → IsFunction nodes f → has_node k f ≡ b → b ≡ false
not_outside nodes k f true out is e = let no : ◌≡◌ {A = Option ℕ} None (Some f.entry) = sym out ∙ has_home nodes k f is e in cc
not_outside nodes k f false out is e = refl

-- no function that ends before a node has it, and the next one to end has it
module _ (nodes : List Node) (k p : ℕ) (h : home nodes k ≡ Some p) where
  none_before : All (λ f. has_node k f ≡ false) (functions_before nodes k)
  none_before = All-weaker (IsBefore nodes k) (λ f. has_node k f ≡ false) (not_before nodes k) (functions_before nodes k) (all_before nodes k (let w : k < length nodes = home_within nodes k p h in omega arith))

  next_has : (c : Closes nodes k p) → has_node k c.function ≡ true
  next_has c = and_from (nat_le c.function.entry k) (nat_le k c.function.last) (le-leb c.function.entry k (let from : p ≤ k = home_from nodes k p h in omega (arith, c.entry))) (le-leb k c.function.last c.last)

  pub number_split : (c : Closes nodes k p) → function_of (functions nodes) k ≡ Some (length (functions_before nodes k))
  number_split c = ap (position (has_node k)) c.split ∙ position_split (has_node k) (functions_before nodes k) c.function c.rest none_before (next_has c)

  pub function_split : (c : Closes nodes k p) → function_at (functions nodes) k ≡ Some c.function
  function_split c = ap (find (has_node k)) c.split ∙ find_split (has_node k) (functions_before nodes k) c.function c.rest none_before (next_has c)

none_has : (nodes : List Node) (k : ℕ) → home nodes k ≡ None → All (λ f. has_node k f ≡ false) (functions nodes)
none_has nodes k out = All-weaker (IsBefore nodes (length nodes)) (λ f. has_node k f ≡ false) (λ f b. not_outside nodes k f (has_node k f) out b.is refl) (functions nodes) (all_before nodes (length nodes) (omega arith))

number_by : (nodes : List Node) (k : ℕ) → open_before nodes (length nodes) ≡ None → (o : Option ℕ) → home nodes k ≡ o → function_of (functions nodes) k ≡ number_in (length (functions_before nodes k)) o
number_by nodes k closed None out = position_none (has_node k) (functions nodes) (none_has nodes k out)
number_by nodes k closed (Some p) h = number_split nodes k p h (closes nodes k p closed h)

pub number_is : (nodes : List Node) → open_before nodes (length nodes) ≡ None → (k : ℕ) → function_of (functions nodes) k ≡ number_of nodes k
number_is nodes closed k = number_by nodes k closed (home nodes k) refl

pub function_none : (nodes : List Node) (k : ℕ) → home nodes k ≡ None → function_at (functions nodes) k ≡ None
function_none nodes k out = find_none (has_node k) (functions nodes) (none_has nodes k out)
