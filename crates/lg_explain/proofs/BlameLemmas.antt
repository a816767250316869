-- The first node that gives something.
use Rattle.std.proofs.Common.{◌≡◌, ℕ, zero, suc, ◌+◌, ◌-◌, ◌<◌, Option, Some, None, refl, ap, add-one, arith}
use Rattle.std.specs.Prelude.{slice_get}
use Rattle.std.specs.Option.{option_and_then}
use Rattle.lg_node.specs.Nodes.{LabelledNodes}
use Rattle.lg_op.specs.declared.node.Node.{Node}
use Rattle.lg_explain.specs.Blames.{first_of, of_node}

pub first_start : {A : Type 0} (f : ℕ → Option A) → first_of f 0 ≡ None
unfolding first_of
first_start f = refl

pub first_on : {A : Type 0} (f : ℕ → Option A) (i : ℕ) → first_of f i ≡ None → f i ≡ None → first_of f (i + 1) ≡ None
unfolding first_of
first_on f i before here = rw (add-one, before, here) refl

first_here : {A : Type 0} (f : ℕ → Option A) (i : ℕ) (x : A) → first_of f i ≡ None → f i ≡ Some x → first_of f (suc i) ≡ Some x
unfolding first_of
first_here f i x before here = rw (before, here) refl

first_kept : {A : Type 0} (f : ℕ → Option A) (i : ℕ) (x : A) → first_of f i ≡ Some x → first_of f (suc i) ≡ Some x
unfolding first_of
first_kept f i x before = rw before refl

first_later : {A : Type 0} (f : ℕ → Option A) (i more : ℕ) (x : A) → first_of f i ≡ None → f i ≡ Some x → first_of f (suc i + more) ≡ Some x
first_later f i zero x before here = let e : suc i + 0 ≡ suc i = omega arith in rw e (first_here f i x before here)
first_later f i (suc more) x before here =
    let e : suc i + suc more ≡ suc (suc i + more) = omega arith in rw e (first_kept f (suc i + more) x (first_later f i more x before here))

pub first_found : {A : Type 0} (f : ℕ → Option A) (i n : ℕ) (x : A) → i < n → first_of f i ≡ None → f i ≡ Some x → first_of f n ≡ Some x
first_found f i n x h before here =
    let e : n ≡ suc i + (n - suc i) = omega arith in rw e (first_later f i (n - suc i) x before here)

pub at_node : {A : Type 0} (gives : ℕ → Node → Option A) (l : LabelledNodes) (i : ℕ) (n : Node) → slice_get l.nodes i ≡ Some n → of_node gives l i ≡ gives i n
at_node gives l i n e = ap (option_and_then (gives i)) e
