-- What the items of a node have beside their instructions: the labels that they name, their fixes, and how many of the instructions store.
use Rattle.std.proofs.Common.{◌≡◌, ℕ, ◌+◌, ◌≤◌, Bool, true, false, List, [], ◌∷◌, ◌++◌, length, ap, ◌∙◌, arith, length-append}
use Rattle.std.specs.Prelude.{count_by, if◌then◌else◌}
use Rattle.std.proofs.lemmas.List.{append-nil}
use Rattle.lg_sel.proofs.StoreLemmas.{stores_among, count-is, among-append}
use Rattle.lg_sel.specs.Holes.{Holes, blanks, settled, fixes_of, Each, ones}
use Rattle.lg_sel.proofs.ListLemmas.{each-append, settled-append, settled-ones, fixes-append, fixes-ones}

module _ {L I : Type 0} (H : Holes L I) (is_store : I → Bool) (passes : L → Type 0) where
  -- the labels of each pass a test, there are at most this many fixes wherever they are, and at most this many of their instructions store, whatever the
  -- labels are
  pub record Emits (fixes stores : ℕ) (xs : List L) : Type 0 where
    pub named : Each passes xs
    pub fixed : (place : ℕ) → length (fixes_of H place xs) ≤ fixes
    pub few : (to : ℕ → ℕ) (at : ℕ) → stores_among is_store (settled H to at xs) ≤ stores

  pub stores-counted : (fixes stores : ℕ) (xs : List L) → Emits fixes stores xs → (to : ℕ → ℕ) (at : ℕ) → count_by is_store (settled H to at xs) ≤ stores
  stores-counted fixes stores xs e to at = let same = count-is is_store (settled H to at xs) in let f = e.few to at in omega (arith, same, f)

  pub emits-none : Emits 0 0 []
  emits-none = record { named = tt; fixed = λ place. omega arith; few = λ to at. omega arith }

  pub emits-append : (f g s t : ℕ) (xs ys : List L) → Emits f s xs → Emits g t ys → Emits (f + g) (s + t) (xs ++ ys)
  emits-append f g s t xs ys a b = record {
    named = each-append passes xs ys a.named b.named;
    fixed = λ place.
        let behind : ℕ = place + length (blanks H xs) in
        let e = ap length (fixes-append H place xs ys) ∙ length-append (fixes_of H place xs) (fixes_of H behind ys) in
        let u = a.fixed place in let v = b.fixed behind in omega (arith, e, u, v);
    few = λ to at.
        let behind : ℕ = at + length (blanks H xs) in
        let e = ap (stores_among is_store) (settled-append H to at xs ys) ∙ among-append is_store (settled H to at xs) (settled H to behind ys) in
        let u = a.few to at in let v = b.few to behind in omega (arith, e, u, v);
  }

  pub emits-more : (f g s t : ℕ) (xs : List L) → f ≤ g → s ≤ t → Emits f s xs → Emits g t xs
  emits-more f g s t xs above more a = record {
    named = a.named;
    fixed = λ place. let u = a.fixed place in omega (arith, u, above);
    few = λ to at. let u = a.few to at in omega (arith, u, more);
  }

  pub emits-if : (f s : ℕ) (b : Bool) (xs ys : List L) → Emits f s xs → Emits f s ys → Emits f s (if b then xs else ys)
  emits-if f s true xs ys a c = a
  emits-if f s false xs ys a c = c

  -- an item with a label, none of whose instructions stores
  pub emits-item : (x : L) → passes x → ((place : ℕ) → length (H.fix_of place x) ≤ 1) → ((to : ℕ → ℕ) (at : ℕ) → stores_among is_store (H.settle to at x) ≤ 0) → Emits 1 0 (x ∷ [])
  emits-item x names fixed few = record {
    named = (names, tt);
    fixed = λ place. let e = ap length (append-nil (H.fix_of place x)) in let u = fixed place in omega (arith, e, u);
    few = λ to at. let e = ap (stores_among is_store) (append-nil (H.settle to at x)) in let u = few to at in omega (arith, e, u);
  }

  -- instructions that name no label
  module _ (one : I → L) (settles : (to : ℕ → ℕ) (at : ℕ) (i : I) → H.settle to at (one i) ≡ i ∷ []) (free : (place : ℕ) (i : I) → H.fix_of place (one i) ≡ []) (all : (i : I) → passes (one i)) where
    names-ones : (is : List I) → Each passes (ones one is)
    names-ones [] = tt
    names-ones (i ∷ is) = (all i, names-ones is)

    pub emits-ones : (stores : ℕ) (is : List I) → stores_among is_store is ≤ stores → Emits 0 stores (ones one is)
    emits-ones stores is few = record {
      named = names-ones is;
      fixed = λ place. let e = ap length (fixes-ones H one free place is) in omega (arith, e);
      few = λ to at. let e = ap (stores_among is_store) (settled-ones H one settles to at is) in omega (arith, e, few);
    }
