-- Lists of folded nodes, node by node.
use Rattle.std.proofs.Common.{◌≡◌, ⊎_elim, ℕ, zero, suc, ◌+◌, ◌<◌, ◌≤◌, Bool, true, false, List, [], ◌∷◌, ◌++◌, Option, Some, None, length, map, refl, sym, ap, ◌∙◌, subst, arith, add-one, length-append}
use Rattle.std.specs.Prelude.{if◌then◌else◌, slice_get}
use Rattle.std.proofs.lemmas.Bool.{cases_lt}
use Rattle.std.proofs.lemmas.List.{get_or_append_left}
use Rattle.std.proofs.lemmas.Option.{slice_get_within, slice_get-get_or, same_Some}
use Rattle.std.proofs.Math.Seq.{get_or-append_seam}
use Rattle.lg_op.specs.declared.node.Node.{Node}
use Rattle.lg_op.specs.declared.op.Op.{Op}
use Rattle.lg_op.specs.declared.op.Op.TheVariants as op
use Rattle.lg_op.specs.declared.op.PlainOp.TheVariants as plain
use Rattle.lg_op.specs.declared.operand.Operand.{Operand}
use Rattle.lg_op.specs.declared.operand.Operand.TheVariants as operand
use Rattle.lg_op.specs.declared.operand.Reg.{Reg}
use Rattle.lg_op.specs.declared.operand.Reg.TheVariants.{R0, R1, R2, V0, V1, V2, Fp}
use Rattle.lg_live.specs.Registers.{is_same}
use Rattle.lg_live.specs.Uses.{is_written}
use Rattle.lg_carry.specs.Carries.{leaps}
use Rattle.lg_node.specs.declared.place.Place.{Place}
use Rattle.lg_node.specs.declared.place.Place.TheVariants as place
use Rattle.lg_node.specs.Labels.{is_labelled}
use Rattle.lg_node.specs.Nodes.{LabelledNodes}
use Rattle.lg_node.specs.Shapes.{TextShape, IsShapeOf}
use Rattle.lg_dead.proofs.FoldAcceptLemmas.{folded-accepted, functions-same}
use Rattle.lg_node.proofs.FunctionLaws.{node_within}
use Rattle.lg_opt.specs.Remaining.{moved_place}
use Rattle.lg_dead.specs.declared.known.Known.{Known}
use Rattle.lg_dead.specs.Folds.{IsFoldedTo}
use Rattle.lg_dead.specs.Known.{folded, none_known, moved_number, or_else, known_after, known_at, known_before}
use Rattle.lg_dead.specs.Lists.{with_nodes, AreFolded, AreAfter}
use Rattle.lg_dead.specs.Tables.{known_of}

get-left : (xs ys : List Node) (i : ℕ) → i < length xs → slice_get (xs ++ ys) i ≡ slice_get xs i
get-left xs ys i lt =
    let n = node_within xs i lt in
    slice_get-get_or (xs ++ ys) i n.0 (omega (arith, length-append xs ys)) ∙ ap Some (get_or_append_left xs ys n.0 i lt) ∙ sym (slice_get-get_or xs i n.0 lt)

get-seam : (xs : List Node) (y : Node) → slice_get (xs ++ y ∷ []) (length xs) ≡ Some y
get-seam xs y = slice_get-get_or (xs ++ y ∷ []) (length xs) y (omega (arith, length-append xs (y ∷ []))) ∙ ap Some (get_or-append_seam xs y [] y)

module _ (l : LabelledNodes) where
  -- what is known before a node goes by the nodes before it
  stable : (xs ys : List Node) (i : ℕ) → i ≤ length xs → known_before (with_nodes l (xs ++ ys)) i ≡ known_before (with_nodes l xs) i
  unfolding known_before
  stable xs ys zero le = refl
  stable xs ys (suc i) le =
      ap (λ f. if is_labelled l.places (suc i) then none_known else known_at f (slice_get (xs ++ ys) i)) (stable xs ys i (omega arith))
      ∙ ap (λ o. if is_labelled l.places (suc i) then none_known else known_at (known_before (with_nodes l xs) i) o) (get-left xs ys i (omega arith))

  pub first-folded : (ns : List Node) → ns ≡ [] → AreFolded l ns 0
  first-folded ns e = record { many = ap length e; each = λ i n lt h. absurd (omega arith) }

  pub first-after : (ns : List Node) (k : Known) → ((r : Reg) → known_of k r ≡ None) → AreAfter l ns 0 k
  unfolding known_before
  first-after ns k none r = by (is_labelled l.places 0)
    where
      by : (b : Bool) → (if b then None else known_of k r) ≡ None
      by true = refl
      by false = none r

  module _ (ns ms : List Node) (i : ℕ) (n k : Node) (are : AreFolded l ns i) (here : slice_get l.nodes i ≡ Some n) (f : Known) (known : (r : Reg) → known_of f r ≡ known_before (with_nodes l ns) i r) (new : k ≡ folded (known_of f) n) (grown : ms ≡ ns ++ k ∷ []) where
    same : known_of f ≡ known_before (with_nodes l ns) i
    same = λ j. λ r. known r j

    before : (j : ℕ) → j ≤ i → known_before (with_nodes l ms) j ≡ known_before (with_nodes l ns) j
    before j le = ap (λ xs. known_before (with_nodes l xs) j) grown ∙ stable ns (k ∷ []) j (let c = are.many in omega arith)

    last-here : slice_get ms i ≡ Some k
    last-here = ap (λ xs. slice_get xs i) grown ∙ ap (slice_get (ns ++ k ∷ [])) (sym are.many) ∙ get-seam ns k

    pub next-folded : AreFolded l ms (i + 1)
    next-folded = record {
      many = ap length grown ∙ length-append ns (k ∷ []) ∙ ap (λ x. x + 1) are.many;
      each = λ j x lt h. ⊎_elim
          (λ (less : j < i). ap (λ xs. slice_get xs j) grown ∙ get-left ns (k ∷ []) j (let c = are.many in omega arith) ∙ are.each j x less h ∙ ap (λ g. Some (folded g x)) (sym (before j (omega arith))))
          (λ (ge : i ≤ j).
          let at : j ≡ i = omega arith in
          let node : n ≡ x = same_Some n x (sym here ∙ ap (slice_get l.nodes) (sym at) ∙ h) in
          ap (slice_get ms) at ∙ last-here ∙ ap Some new ∙ ap (λ g. Some (folded g n)) (same ∙ sym (before i (omega arith))) ∙ ap (λ y. Some (folded (known_before (with_nodes l ms) i) y)) node
          ∙ ap (λ q. Some (folded (known_before (with_nodes l ms) q) x)) (sym at))
          (cases_lt j i);
    }

    pub next-after : (g : Known) → ((r : Reg) → known_of g r ≡ known_at (known_of f) (Some k) r) → AreAfter l ms (i + 1) g
    unfolding known_before
    next-after g e r =
        let step : known_of g r ≡ known_at (known_before (with_nodes l ms) i) (slice_get ms i) r = e r ∙ ap (λ h. known_at h (Some k) r) (same ∙ sym (before i (omega arith))) ∙ ap (λ o. known_at (known_before (with_nodes l ms) i) o r) (sym last-here) in
        rw add-one (by (is_labelled l.places (suc i)) step)
      where
        by : (b : Bool) → known_of g r ≡ known_at (known_before (with_nodes l ms) i) (slice_get ms i) r → (if b then None else known_of g r) ≡ (if b then none_known else known_at (known_before (with_nodes l ms) i) (slice_get ms i)) r
        by true e = refl
        by false e = e

-- six registers are all
same-fp : (q : Reg) → is_same q Fp ≡ false
same-fp R0 = refl
same-fp _ = refl

no-move : (o : Op) (xs : List Operand) → moved_number o xs Fp ≡ None
no-move (op.Plain plain.Movi) (operand.Reg q ∷ operand.Number v ∷ []) = ap (λ b. if b then Some v else None) (same-fp q)
no-move o xs = refl

fp-none : (k : Known) → known_of k Fp ≡ None
fp-none k = by k.some
  where
    by : (b : Bool) → ◌≡◌ {A = Option ℕ} (if b then None else None) None
    by true = refl
    by false = refl

pub all-registers : (f g : Known) (n : Node) → known_of g R0 ≡ known_at (known_of f) (Some n) R0 → known_of g R1 ≡ known_at (known_of f) (Some n) R1 → known_of g R2 ≡ known_at (known_of f) (Some n) R2
    → known_of g V0 ≡ known_at (known_of f) (Some n) V0 → known_of g V1 ≡ known_at (known_of f) (Some n) V1 → known_of g V2 ≡ known_at (known_of f) (Some n) V2 → (r : Reg) → known_of g r ≡ known_at (known_of f) (Some n) r
all-registers f g n a b c d e h R0 = a
all-registers f g n a b c d e h R1 = b
all-registers f g n a b c d e h R2 = c
all-registers f g n a b c d e h V0 = d
all-registers f g n a b c d e h V1 = e
all-registers f g n a b c d e h V2 = h
all-registers f g n a b c d e h Fp = fp-none g ∙ by (leaps n.op)
  where
    behind : None ≡ known_after (known_of f) n Fp
    behind = sym (ap (λ o. or_else o (if is_written n Fp then None else known_of f Fp)) (no-move n.op n.operands) ∙ ap (λ o. if is_written n Fp then None else o) (fp-none f) ∙ if-none (is_written n Fp))
      where
        if-none : (b : Bool) → ◌≡◌ {A = Option ℕ} (if b then None else None) None
        if-none true = refl
        if-none false = refl

    by : (b : Bool) → None ≡ (if b then none_known else known_after (known_of f) n) Fp
    by true = refl
    by false = behind

-- all nodes stay where they are

pub places-kept : (ps : List (Option Place)) → map (moved_place (λ k. k)) ps ≡ ps
places-kept [] = refl
places-kept (p ∷ ps) = ap (λ q. q ∷ map (moved_place (λ k. k)) ps) (one p) ∙ ap (λ qs. p ∷ qs) (places-kept ps)
  where
    one : (p : Option Place) → moved_place (λ k. k) p ≡ p
    one None = refl
    one (Some (place.Node k)) = refl
    one (Some (place.Image k)) = refl

-- a whole list
pub folded-to : (l m : LabelledNodes) (ns : List Node) → AreFolded l ns (length l.nodes) → m ≡ record l { nodes = ns } → IsFoldedTo l m
folded-to l m ns are e = subst (IsFoldedTo l) (sym e) record { words = refl; places = refl; count = are.many; nodes = λ i n h. are.each i n (slice_get_within l.nodes i n h) h }

-- the shape of the old nodes is theirs
pub shape-kept : (l m : LabelledNodes) (s t : TextShape) → IsShapeOf l s → IsFoldedTo l m → t ≡ s → IsShapeOf m t
shape-kept l m s t is to e = subst (IsShapeOf m) (sym e) record { accepted = folded-accepted l m is.accepted to; functions = is.functions ∙ sym (functions-same l m is.accepted to) }
