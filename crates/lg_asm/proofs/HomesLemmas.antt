-- How many homes nodes read, one after the other.
use Rattle.std.proofs.Common.{◌≡◌, ℕ, zero, suc, ◌+◌, ◌-◌, ◌<◌, ◌≤◌, Bool, true, false, List, [], ◌∷◌, ◌++◌, Option, Some, None, refl, sym, ap, subst, ◌∙◌, arith, length, take, drop, ⊎_elim}
use Rattle.std.specs.Prelude.{max, nat_lt, if◌then◌else◌, ◌==◌, slice_get, slice_range}
use Rattle.std.specs.Option.{option_map, option_and_then}
use Rattle.std.proofs.lemmas.Bool.{cases_lt, eq-eqb, le-ltb}
use Rattle.std.proofs.lemmas.List.Edits.{between_more}
use Rattle.std.proofs.lemmas.Option.{slice_get_within, get_or_from_slice_get}
use Rattle.lg_op.specs.declared.node.Node.{Node}
use Rattle.lg_op.specs.declared.op.Op.{Op}
use Rattle.lg_op.specs.declared.op.Op.TheVariants as op
use Rattle.lg_op.specs.declared.op.PlainOp.TheVariants as plain
use Rattle.lg_node.specs.Functions.{IsFunction, function_of, is_prolog_at}
use Rattle.lg_node.specs.Nodes.{LabelledNodes}
use Rattle.lg_node.specs.Shapes.{TextShape, IsShapeOf}
use Rattle.lg_node.specs.declared.function.Function.{Function}
use Rattle.lg_node.proofs.SuccessorLaws.{has_functions}
use Rattle.lg_meaning.proofs.NodeFacts.{function_found}
use Rattle.lg_meaning.specs.Steps.{function_here, operand_at, slot}
use Rattle.lg_carry.specs.Homes.{homes_to, homes_by, homes_of, homes_in}
use Rattle.lg_asm.specs.Lowered.{reads_home, AreUnreadFrom, FramesStoreFew}

pub none-read : (nodes : List Node) (p : ℕ) → 0 ≡ homes_of (slice_range nodes p p)
none-read nodes p = let e : p - p ≡ 0 = omega arith in subst (λ k. 0 ≡ homes_of (take k (drop p nodes))) (sym e) refl

joined : (xs : List Node) (n : Node) → homes_of (xs ++ n ∷ []) ≡ max (homes_of xs) (homes_by n.op n)
joined [] n = omega arith
joined (x ∷ xs) n = let h = joined xs n in omega (arith, h)

pub one-read : (nodes : List Node) (p i : ℕ) (n : Node) → p ≤ i → slice_get nodes i ≡ Some n
    → homes_of (slice_range nodes p (i + 1)) ≡ max (homes_of (slice_range nodes p i)) (homes_by n.op n)
one-read nodes p i n le here =
    ap homes_of (between_more nodes p i n le (slice_get_within nodes i n here)
    ∙ ap (λ x. slice_range nodes p i ++ x ∷ []) (get_or_from_slice_get nodes i n n here))
    ∙ joined (slice_range nodes p i) n

-- ---- of a function
-- the function of a number, with its first and its last node
found : (functions : List Function) (k entry last : ℕ) → Some entry ≡ option_map (λ f. f.entry) (slice_get functions k)
    → Some last ≡ option_map (λ f. f.last) (slice_get functions k)
    → (f : Function) × (slice_get functions k ≡ Some f) × (f.entry ≡ entry) × (f.last ≡ last)
found functions k entry last e d = by (slice_get functions k) refl e d
  where
    by : (o : Option Function) → slice_get functions k ≡ o → Some entry ≡ option_map (λ f. f.entry) o → Some last ≡ option_map (λ f. f.last) o
        → (f : Function) × (slice_get functions k ≡ Some f) × (f.entry ≡ entry) × (f.last ≡ last)
    by None is e d = cc
    by (Some f) is e d = let same : f.entry ≡ entry = cc in let end : f.last ≡ last = cc in (f, is, same, end)

module _ (l : LabelledNodes) (shape : TextShape) (shaped : IsShapeOf l shape) (i k entry last : ℕ) (numbered : Some k ≡ function_of shape.functions i)
    (first-is : Some entry ≡ option_map (λ f. f.entry) (slice_get shape.functions k)) (last-is : Some last ≡ option_map (λ f. f.last) (slice_get shape.functions k)) where
  here : (f : Function) → slice_get shape.functions k ≡ Some f → function_here shape.functions i ≡ Some f
  here f e = ap (option_and_then (slice_get shape.functions)) (sym numbered) ∙ e

  pub range : (entry ≤ last) × (last < length l.nodes)
  range =
      let x = found shape.functions k entry last first-is last-is in
      let is : IsFunction l.nodes x.0 = function_found l shape (has_functions l shaped.accepted) shaped.functions i x.0 (here x.0 x.1) in
      let order = is.order in let within = is.within in let e = x.2 in let d = x.3 in
      (omega (arith, order, e, d), omega (arith, within, d))

  pub homes-are : homes_in l.nodes (function_here shape.functions i) ≡ homes_of (slice_range l.nodes entry (last + 1))
  homes-are =
      let x = found shape.functions k entry last first-is last-is in
      ap (homes_in l.nodes) (here x.0 x.1)
      ∙ ap (λ p. homes_of (slice_range l.nodes p (x.0.last + 1))) x.2 ∙ ap (λ p. homes_of (slice_range l.nodes entry (p + 1))) x.3

-- ---- no more than are read
-- those of one node
homes-below : (s : ℕ) → homes_to s ≤ suc s
homes-below s = by (nat_lt s 16)
  where
    by : (b : Bool) → (if b then suc s else 0) ≤ suc s
    by true = omega arith
    by false = omega arith

homes-above : (s : ℕ) → 16 ≤ s → homes_to s ≡ 0
homes-above s le = ap (λ b. if b then suc s else 0) (le-ltb s 16 le)

to-few : (s k : ℕ) → ((j : ℕ) → k ≤ j → j < 16 → (s == j) ≡ false) → homes_to s ≤ k
to-few s k h =
    ⊎_elim
    (λ (lt : s < k). let e = homes-below s in omega (arith, lt, e))
    (λ (ge : k ≤ s).
    ⊎_elim (λ (few : s < 16). let e = h s ge few in let same : (s == s) ≡ true = eq-eqb s s refl in cc)
    (λ (out : 16 ≤ s). let e = homes-above s out in omega (arith, e)) (cases_lt s 16))
    (cases_lt s k)

by-few : (o : Op) (n : Node) (k : ℕ) → ((j : ℕ) → k ≤ j → j < 16 → reads_home o n j ≡ false) → homes_by o n ≤ k
by-few (op.Getarg t) n k h = to-few (slot (operand_at n 1)) k h
by-few (op.Plain plain.VaArg) n k h = ⊎_elim (λ (lt : k < 16). let e = h k (omega arith) lt in cc) (λ (ge : 16 ≤ k). ge) (cases_lt k 16)
by-few o n k h = omega arith

-- those of the nodes from a place on
from-few : (nodes : List Node) (p m k : ℕ) → ((j : ℕ) (n : Node) → j < m → slice_get nodes (p + j) ≡ Some n → homes_by n.op n ≤ k)
    → homes_of (take m (drop p nodes)) ≤ k
from-few nodes zero zero k h = omega arith
from-few [] zero (suc m) k h = omega arith
from-few (x ∷ xs) zero (suc m) k h =
    let first = h 0 x (omega arith) refl in
    let next : (j : ℕ) → suc (0 + j) ≡ 0 + suc j = λ j. omega arith in
    let rest = from-few xs 0 m k (λ j n lt is. h (suc j) n (omega (arith, lt)) (subst (λ q. slice_get (x ∷ xs) q ≡ Some n) (next j) is)) in
    omega (arith, first, rest)
from-few [] (suc p) zero k h = omega arith
from-few [] (suc p) (suc m) k h = omega arith
from-few (x ∷ xs) (suc p) m k h =
    let next : (j : ℕ) → suc (p + j) ≡ suc p + j = λ j. omega arith in
    from-few xs p m k (λ j n lt is. h j n lt (subst (λ q. slice_get (x ∷ xs) q ≡ Some n) (next j) is))

pub frames-store-few : FramesStoreFew
frames-store-few nodes shape i k h = by (is_prolog_at (slice_get nodes i)) (function_here shape.functions i) refl
  where
    read : (f : Function) → AreUnreadFrom nodes f k → homes_in nodes (Some f) ≤ k
    read f none =
        from-few nodes f.entry (f.last + 1 - f.entry) k
        (λ j n lt here. by-few n.op n k (none (f.entry + j) n here (omega arith) (omega (arith, lt))))

    by : (b : Bool) (o : Option Function) → function_here shape.functions i ≡ o → (if b then homes_in nodes (function_here shape.functions i) else 0) ≤ k
    by true None e = let none = ap (homes_in nodes) e in omega (arith, none)
    by true (Some f) e = let few = read f (h f e) in let same = ap (homes_in nodes) e in omega (arith, few, same)
    by false o e = omega arith
