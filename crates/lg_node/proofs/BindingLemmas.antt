-- What is kept of the chains of all nodes as labels and nodes are added and labels are bound.
use Rattle.std.proofs.Common.{◌≡◌, ◌≢◌, true, false, Bool, ℕ, zero, suc, ◌+◌, ◌<◌, ◌≤◌, ◌⊎◌, inl, inr, List, [], ◌∷◌, ◌++◌, Option, Some, None, is_some, length, length-append, get_or, sym, ap, subst, ◌∙◌, refl, arith}
use Rattle.std.proofs.Math.ListN.{set, length-set}
use Rattle.std.proofs.Math.Seq.{get_or-append_seam}
use Rattle.std.specs.Prelude.{slice_get}
use Rattle.std.proofs.lemmas.Bool.{cases_order}
use Rattle.std.proofs.lemmas.Bool.Decides.{nat_tests}
use Rattle.std.proofs.lemmas.List.{get_or-set_same, get_or-set_other, get_or_append_left, get_or_past}
use Rattle.std.proofs.lemmas.List.Elements.{All-set}
use Rattle.std.specs.Prelude.{IfSome, IfNone}
use Rattle.std.specs.List.{All}
use Rattle.std.proofs.lemmas.Option.{slice_get-get_or}
use Rattle.lg_op.specs.declared.operand.Label.{Label}
use Rattle.lg_node.specs.declared.chain.Ends.{Ends}
use Rattle.lg_node.specs.declared.place.Place.{Place}
use Rattle.lg_node.specs.declared.place.Place.TheVariants as place
use Rattle.lg_node.specs.Labels.{is_at}
use Rattle.lg_node.specs.NextLabels.{NextAt, NoneAt}
use Rattle.lg_node.specs.Nodes.{MayStand}
use Rattle.lg_node.specs.declared.bindings.Bindings.TheInside.{Inside}
use Rattle.lg_node.specs.Chains.{IsFirst, IsChain, IsJoined, AreBindings, bound_at}
use Rattle.lg_node.proofs.NodeListLemmas.{longer}

-- a list is no other where the value after its end is appended
pub read-longer : {A : Type 0} (xs : List A) (d : A) (i : ℕ) → get_or (xs ++ d ∷ []) i d ≡ get_or xs i d
read-longer [] d zero = refl
read-longer [] d (suc i) = refl
read-longer (x ∷ xs) d zero = refl
read-longer (x ∷ xs) d (suc i) = read-longer xs d i

-- the chain of a set is that of each set of the same labels
pub same-chain : (at more : ℕ → Bool) (next : List (Option Label)) (ends : Option Ends) → ((k : ℕ) → more k ≡ at k) → IsChain at next ends → IsChain more next ends
same-chain at more next ends same chain =
    let e : at ≡ more = λ i. λ k. sym (same k) i in
    subst (λ (s : ℕ → Bool). IsChain s next ends) e chain

-- labels of other nodes may lead elsewhere
pub kept-chain : (at : ℕ → Bool) (next new : List (Option Label)) (ends : Option Ends) → length next ≤ length new → ((k : ℕ) → at k ≡ true → k < length next → get_or new k None ≡ get_or next k None) → IsChain at next ends → IsChain at new ends
kept-chain at next new ends size same chain = record {
  bounds = chain.bounds;
  links = λ k t. subst (IsFirst at (k + 1)) (sym (same k t (chain.within k t))) (chain.links k t);
  within = λ k t. omega (arith, chain.within k t, size);
}

pub longer-chain : (at : ℕ → Bool) (next new : List (Option Label)) (ends : Option Ends) (o : Option Label) → new ≡ next ++ o ∷ [] → IsChain at next ends → IsChain at new ends
longer-chain at next new ends o e chain =
    kept-chain at next new ends (omega (arith, ap length e ∙ length-append next (o ∷ []))) (λ k t lt. ap (λ (n : List (Option Label)). get_or n k None) e ∙ get_or_append_left next (o ∷ []) None k lt) chain

-- a label is bound at one node
pub one-node : (i j : ℕ) (p : Option Place) → is_at i p ≡ true → is_at j p ≡ true → i ≡ j
one-node i j (Some (place.Node k)) e f = let a : k ≡ i = grind (arith, nat_tests) in let b : k ≡ j = grind (arith, nat_tests) in omega (arith, a, b)
one-node i j (Some (place.Image k)) e f = cc
one-node i j None e f = cc

node-at : (n : ℕ) → is_at n (Some (place.Node n)) ≡ true
node-at n = grind (arith, nat_tests)

not-at : (j n : ℕ) → j ≢ n → is_at j (Some (place.Node n)) ≡ false
not-at j n other = let back : n ≢ j = λ e. other (sym e) in grind (arith, nat_tests)

module _ (places : List (Option Place)) (x : ℕ) (within : x < length places) (free : get_or places x None ≡ None) where
  -- a label that is bound at a node joins the labels of that node
  pub joins : (n : ℕ) → IsJoined (bound_at places n) (bound_at (set places x (Some (place.Node n))) n) x
  joins n = record {
    joined = ap (is_at n) (get_or-set_same places x (Some (place.Node n)) None within) ∙ node-at n;
    others = λ k other. ap (is_at n) (get_or-set_other places x k (Some (place.Node n)) None other);
  }

  pub was-free : (n : ℕ) → bound_at places n x ≡ false
  was-free n = ap (is_at n) free

  -- the labels of the other nodes stay
  pub stay : (j : ℕ) (p : Place) → is_at j (Some p) ≡ false → (k : ℕ) → bound_at (set places x (Some p)) j k ≡ bound_at places j k
  stay j p off k = by (cases_order k x)
    where
      at_x : bound_at (set places x (Some p)) j x ≡ bound_at places j x
      at_x = ap (is_at j) (get_or-set_same places x (Some p) None within) ∙ off ∙ sym (was-free j)

      by : (k ≡ x) ⊎ ((k < x) ⊎ (x < k)) → bound_at (set places x (Some p)) j k ≡ bound_at places j k
      by (inl e) = subst (λ m. bound_at (set places x (Some p)) j m ≡ bound_at places j m) (sym e) at_x
      by (inr (inl lt)) = ap (is_at j) (get_or-set_other places x k (Some p) None (λ e. omega (arith, e, lt)))
      by (inr (inr lt)) = ap (is_at j) (get_or-set_other places x k (Some p) None (λ e. omega (arith, e, lt)))

  pub stay-chain : (j n : ℕ) (next new : List (Option Label)) (ends : Option Ends) → j ≢ n → length next ≤ length new → ((k : ℕ) → k ≢ x → bound_at places n k ≡ false → get_or new k None ≡ get_or next k None) → IsChain (bound_at places j) next ends → IsChain (bound_at (set places x (Some (place.Node n))) j) new ends
  stay-chain j n next new ends other size same chain =
      same-chain (bound_at places j) (bound_at (set places x (Some (place.Node n))) j) new ends (stay j (place.Node n) (not-at j n other))
      (kept-chain (bound_at places j) next new ends size (λ k t lt. same k (apart k t) (elsewhere k t)) chain)
    where
      apart : (k : ℕ) → bound_at places j k ≡ true → k ≢ x
      apart k t e = let f : bound_at places j k ≡ false = ap (bound_at places j) e ∙ was-free j in cc

      elsewhere : (k : ℕ) → bound_at places j k ≡ true → bound_at places n k ≡ false
      elsewhere k t = by (bound_at places n k) refl
        where
          by : (b : Bool) → bound_at places n k ≡ b → b ≡ false
          by true e = absurd (other (one-node j n (get_or places k None) t e))
          by false e = refl

  pub free-is : slice_get places x ≡ Some None
  free-is = slice_get-get_or places x None within ∙ ap (λ p. Some p) free

-- what is read of a place that is not bound
pub unbound : (places : List (Option Place)) (x : ℕ) (p : Option Place) → p ≡ get_or places x p → is_some p ≡ false → x < length places → get_or places x None ≡ None
unbound places x None e none lt = sym e
unbound places x (Some p) e none lt = cc

-- a label that is bound is one of the labels
pub bound-within : (places : List (Option Place)) (i k : ℕ) → bound_at places i k ≡ true → k < length places
bound-within places i k t = by (cases_order k (length places))
  where
    past : length places ≤ k → k < length places
    past le = let f : bound_at places i k ≡ false = ap (is_at i) (get_or_past places k None le) in cc

    by : (k ≡ length places) ⊎ ((k < length places) ⊎ (length places < k)) → k < length places
    by (inl e) = past (omega (arith, e))
    by (inr (inl lt)) = lt
    by (inr (inr gt)) = past (omega (arith, gt))

-- the first label of a node from a number on
pub next-found : (places : List (Option Place)) (i from : ℕ) (o : Option Label) → IsFirst (bound_at places i) from o → IfSome o (λ l. NextAt places i from l.0)
next-found places i from None f = tt
next-found places i from (Some l) f = record { later = f.later; within = bound-within places i l.0 f.bound; bound = f.bound; none = f.none }

pub next-none : (places : List (Option Place)) (i from : ℕ) (o : Option Label) → IsFirst (bound_at places i) from o → IfNone o (NoneAt places i from)
next-none places i from None f = λ k le lt. f k le
next-none places i from (Some l) f = tt

-- the labels of a node are a chain, whichever node it is
stands : (n i : ℕ) (p : Option Place) → MayStand n p → is_at i p ≡ true → i ≤ n
stands n i (Some (place.Node k)) s e = let same : k ≡ i = grind (arith, nat_tests) in omega (arith, same, s)
stands n i (Some (place.Image k)) s e = cc
stands n i None s e = cc

-- no label is bound past the node after the last
none-past : (places : List (Option Place)) (n i : ℕ) → All (MayStand n) places → n < i → (k : ℕ) → bound_at places i k ≡ false
none-past places n i placed past k = by (bound_at places i k) refl
  where
    by : (b : Bool) → bound_at places i k ≡ b → b ≡ false
    by false e = refl
    by true e = let le : i ≤ n = stands n i (get_or places k None) (placed k None (bound-within places i k e)) e in absurd (omega (arith, le, past))

may-still-stand : (n m : ℕ) (p : Option Place) → n ≤ m → MayStand n p → MayStand m p
may-still-stand n m (Some (place.Node k)) le s = omega (arith, le, s)
may-still-stand n m (Some (place.Image k)) le s = tt
may-still-stand n m None le s = tt

no-chain : (at : ℕ → Bool) (next : List (Option Label)) → ((k : ℕ) → at k ≡ false) → IsChain at next None
no-chain at next none = record {
  bounds = λ k le. none k;
  links = λ k t. absurd (bound k t);
  within = λ k t. absurd (bound k t);
}
  where
    bound : (k : ℕ) → at k ≡ true → ⊥
    bound k t = let f : at k ≡ false = none k in cc

-- the labels after the last node are those of the next one
pub node-added : (b new : Inside) → AreBindings b → new.places.items ≡ b.places.items → new.next.items ≡ b.next.items → new.ends.items ≡ b.ends.items ++ b.end ∷ [] → new.end ≡ None → AreBindings new
node-added b new a places next ends end = record {
  paired = omega (arith, ap length places, ap length next, a.paired);
  placed = subst (λ (ps : List (Option Place)). All (MayStand (length new.ends.items)) ps) (sym places) (λ k d lt. may-still-stand n (length new.ends.items) (get_or b.places.items k d) (omega (arith, count)) (a.placed k d lt));
  nodes = λ i lt. in-new i (get_or new.ends.items i None) (node i (omega (arith, lt, count)) (cases_order i n));
  end = in-new (length new.ends.items) new.end (subst (IsChain (bound_at b.places.items (length new.ends.items)) b.next.items) (sym end) (no-chain _ b.next.items (none-past b.places.items n (length new.ends.items) a.placed (omega (arith, count)))));
}
  where
    n : ℕ
    n = length b.ends.items

    count : length new.ends.items ≡ length b.ends.items + 1
    count = longer b.ends.items new.ends.items b.end ends

    in-new : (i : ℕ) (e : Option Ends) → IsChain (bound_at b.places.items i) b.next.items e → IsChain (bound_at new.places.items i) new.next.items e
    in-new i e chain = subst (λ (ps : List (Option Place)). IsChain (bound_at ps i) new.next.items e) (sym places) (subst (λ (ls : List (Option Label)). IsChain (bound_at b.places.items i) ls e) (sym next) chain)

    read : (i : ℕ) (e : Option Ends) → get_or (b.ends.items ++ b.end ∷ []) i None ≡ e → get_or new.ends.items i None ≡ e
    read i e is = ap (λ (es : List (Option Ends)). get_or es i None) ends ∙ is

    node : (i : ℕ) → i < n + 1 → (i ≡ n) ⊎ ((i < n) ⊎ (n < i)) → IsChain (bound_at b.places.items i) b.next.items (get_or new.ends.items i None)
    node i lt (inl e) =
        let P : ℕ → Type 0 = λ m. IsChain (bound_at b.places.items m) b.next.items (get_or new.ends.items m None) in
        subst P (sym e) (subst (IsChain (bound_at b.places.items n) b.next.items) (sym (read n b.end (get_or-append_seam b.ends.items b.end [] None))) a.end)
    node i lt (inr (inl less)) = subst (IsChain (bound_at b.places.items i) b.next.items) (sym (read i (get_or b.ends.items i None) (get_or_append_left b.ends.items (b.end ∷ []) None i less))) (a.nodes i less)
    node i lt (inr (inr more)) = absurd (omega (arith, lt, more))

pub next-first : (b : Inside) → AreBindings b → (i k : ℕ) → bound_at b.places.items i k ≡ true → IsFirst (bound_at b.places.items i) (k + 1) (get_or b.next.items k None)
next-first b a i k t = by (cases_order i (length b.ends.items))
  where
    le : i ≤ length b.ends.items
    le = stands (length b.ends.items) i (get_or b.places.items k None) (a.placed k None (bound-within b.places.items i k t)) t

    by : (i ≡ length b.ends.items) ⊎ ((i < length b.ends.items) ⊎ (length b.ends.items < i)) → IsFirst (bound_at b.places.items i) (k + 1) (get_or b.next.items k None)
    by (inl e) =
        let P : ℕ → Type 0 = λ n. bound_at b.places.items n k ≡ true → IsFirst (bound_at b.places.items n) (k + 1) (get_or b.next.items k None) in
        subst P (sym e) (a.end.links k) t
    by (inr (inl lt)) = (a.nodes i lt).links k t
    by (inr (inr gt)) = absurd (omega (arith, gt, le))

-- a label that was bound at no node is bound at one that has these ends
pub bound-somewhere : (b : Inside) (new : Inside) (x n : ℕ) → AreBindings b → x < length b.places.items → get_or b.places.items x None ≡ None → n ≤ length b.ends.items
    → length b.next.items ≤ length new.next.items → ((k : ℕ) → k ≢ x → bound_at b.places.items n k ≡ false → get_or new.next.items k None ≡ get_or b.next.items k None)
    → new.places.items ≡ set b.places.items x (Some (place.Node n)) → length new.ends.items ≡ length b.ends.items
    → ((i : ℕ) → i < length b.ends.items → i ≢ n → get_or new.ends.items i None ≡ get_or b.ends.items i None) → (length b.ends.items ≢ n → new.end ≡ b.end)
    → (n < length b.ends.items → IsChain (bound_at (set b.places.items x (Some (place.Node n))) n) new.next.items (get_or new.ends.items n None))
    → (n ≡ length b.ends.items → IsChain (bound_at (set b.places.items x (Some (place.Node n))) n) new.next.items new.end)
    → AreBindings new
bound-somewhere b new x n a within free le size others places count ends end here there = record {
  paired = omega (arith, ap length places, length-set b.places.items x (Some (place.Node n)), size, a.paired);
  placed = subst (λ m. All (MayStand m) new.places.items) (sym count) (subst (λ (ps : List (Option Place)). All (MayStand (length b.ends.items)) ps) (sym places) (All-set (MayStand (length b.ends.items)) b.places.items x (Some (place.Node n)) le a.placed));
  nodes = λ i lt. in-new i (get_or new.ends.items i None) (node i (omega (arith, lt, count)) (cases_order i n));
  end = subst (λ m. IsChain (bound_at new.places.items m) new.next.items new.end) (sym count) (in-new (length b.ends.items) new.end (behind (cases_order (length b.ends.items) n)));
}
  where
    in-new : (i : ℕ) (e : Option Ends) → IsChain (bound_at (set b.places.items x (Some (place.Node n))) i) new.next.items e → IsChain (bound_at new.places.items i) new.next.items e
    in-new i e chain = subst (λ (ps : List (Option Place)). IsChain (bound_at ps i) new.next.items e) (sym places) chain

    other : (i : ℕ) (e o : Option Ends) → i ≢ n → o ≡ e → IsChain (bound_at b.places.items i) b.next.items e → IsChain (bound_at (set b.places.items x (Some (place.Node n))) i) new.next.items o
    other i e o apart same chain = subst (IsChain (bound_at (set b.places.items x (Some (place.Node n))) i) new.next.items) (sym same) (stay-chain b.places.items x within free i n b.next.items new.next.items e apart size others chain)

    node : (i : ℕ) → i < length b.ends.items → (i ≡ n) ⊎ ((i < n) ⊎ (n < i)) → IsChain (bound_at (set b.places.items x (Some (place.Node n))) i) new.next.items (get_or new.ends.items i None)
    node i lt (inl e) = subst (λ m. IsChain (bound_at (set b.places.items x (Some (place.Node n))) m) new.next.items (get_or new.ends.items m None)) (sym e) (here (omega (arith, e, lt)))
    node i lt (inr (inl less)) = other i (get_or b.ends.items i None) (get_or new.ends.items i None) (λ e. omega (arith, e, less)) (ends i lt (λ e. omega (arith, e, less))) (a.nodes i lt)
    node i lt (inr (inr more)) = other i (get_or b.ends.items i None) (get_or new.ends.items i None) (λ e. omega (arith, e, more)) (ends i lt (λ e. omega (arith, e, more))) (a.nodes i lt)

    behind : (length b.ends.items ≡ n) ⊎ ((length b.ends.items < n) ⊎ (n < length b.ends.items)) → IsChain (bound_at (set b.places.items x (Some (place.Node n))) (length b.ends.items)) new.next.items new.end
    behind (inl e) = subst (λ m. IsChain (bound_at (set b.places.items x (Some (place.Node n))) m) new.next.items new.end) (sym e) (there (sym e))
    behind (inr (inl less)) = absurd (omega (arith, less, le))
    behind (inr (inr more)) = other (length b.ends.items) b.end new.end (λ e. omega (arith, e, more)) (end (λ e. omega (arith, e, more))) a.end

-- a label that is bound in the data is at no node
pub bound-in-data : (b new : Inside) (x k : ℕ) → AreBindings b → x < length b.places.items → get_or b.places.items x None ≡ None → new.next.items ≡ b.next.items → new.ends.items ≡ b.ends.items → new.end ≡ b.end
    → new.places.items ≡ set b.places.items x (Some (place.Image k)) → AreBindings new
bound-in-data b new x k a within free next ends end places = record {
  paired = omega (arith, ap length places, length-set b.places.items x (Some (place.Image k)), ap length next, a.paired);
  placed = subst (λ m. All (MayStand m) new.places.items) (sym (ap length ends)) (subst (λ (ps : List (Option Place)). All (MayStand (length b.ends.items)) ps) (sym places) (All-set (MayStand (length b.ends.items)) b.places.items x (Some (place.Image k)) tt a.placed));
  nodes = λ i lt. chain i (get_or b.ends.items i None) (get_or new.ends.items i None) (ap (λ (es : List (Option Ends)). get_or es i None) ends) (a.nodes i (omega (arith, lt, ap length ends)));
  end = subst (λ m. IsChain (bound_at new.places.items m) new.next.items new.end) (sym (ap length ends)) (chain (length b.ends.items) b.end new.end end a.end);
}
  where
    chain : (i : ℕ) (e o : Option Ends) → o ≡ e → IsChain (bound_at b.places.items i) b.next.items e → IsChain (bound_at new.places.items i) new.next.items o
    chain i e o same c =
        subst (IsChain (bound_at new.places.items i) new.next.items) (sym same)
        (subst (λ (n : List (Option Label)). IsChain (bound_at new.places.items i) n e) (sym next)
        (same-chain (bound_at b.places.items i) (bound_at new.places.items i) b.next.items e (λ y. ap (λ (ps : List (Option Place)). bound_at ps i y) places ∙ stay b.places.items x within free i (place.Image k) refl y) c))
