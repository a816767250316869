-- Good items (few): instructions alone, and two lists in a row.
use Rattle.std.proofs.Common.{◌≡◌, ℕ, ◌+◌, ◌≤◌, Bool, List, [], ◌++◌, length, ap, ◌∙◌, arith, length-append}
use Rattle.lg_sel.proofs.ListLemmas.{each-append, words_append, words-ones, fixes-append, fixes-ones}
use Rattle.lg_sel.specs.GoodItems.{GoodItemsAreAppendable, AreFew}
use Rattle.lg_sel.specs.Holes.{Holes, Each, words_in, blanks, fixes_of, ones}

-- at most this many instructions and fixes
pub record AreBounded {L I : Type 0} (H : Holes L I) (is_good : L → Type 0) (most fixes : ℕ) (xs : List L) : Type 0 where
  pub good : Each is_good xs
  pub short : words_in H xs ≤ most
  pub fixed : (p : ℕ) → length (fixes_of H p xs) ≤ fixes

module _ {L I : Type 0} (H : Holes L I) (good : L → Type 0) where
  pub bounded-append : (m n f g : ℕ) (xs ys : List L) → AreBounded H good m f xs → AreBounded H good n g ys → AreBounded H good (m + n) (f + g) (xs ++ ys)
  bounded-append m n f g xs ys a b = record {
    good = each-append good xs ys a.good b.good;
    short = let w = words_append H xs ys in let s = a.short in let t = b.short in omega (arith, w, s, t);
    fixed = λ p.
        let behind : ℕ = p + length (blanks H xs) in
        let e = ap length (fixes-append H p xs ys) ∙ length-append (fixes_of H p xs) (fixes_of H behind ys) in
        let s = a.fixed p in let t = b.fixed behind in omega (arith, e, s, t);
  }

  pub bounded-more : (m n f g : ℕ) (xs : List L) → m ≤ n → f ≤ g → AreBounded H good m f xs → AreBounded H good n g xs
  bounded-more m n f g xs l k a = record { good = a.good; short = let s = a.short in omega (arith, l, s); fixed = λ p. let s = a.fixed p in omega (arith, k, s) }

  -- instructions have no fix
  pub bounded-ones : (one : I → L) → ((i : I) → H.words (one i) ≡ 1) → ((p : ℕ) (i : I) → H.fix_of p (one i) ≡ []) → (most : ℕ) (is : List I)
      → Each good (ones one is) → length is ≤ most → AreBounded H good most 0 (ones one is)
  bounded-ones one single none most is fine few = record {
    good = fine;
    short = let w = words-ones H one single is in omega (arith, w, few);
    fixed = λ p. let e = ap length (fixes-ones H one none p is) in omega (arith, e);
  }

  pub bounded-few : (straight : I → Bool) (is_item stays : L → Type 0) → GoodItemsAreAppendable H straight is_item stays good → (most fixes : ℕ) (xs : List L)
      → fixes ≤ 1 → AreBounded H good most fixes xs → AreFew H straight is_item stays most xs
  bounded-few straight is_item stays appendable most fixes xs one a =
      record { appendable = appendable xs a.good; short = a.short; one_fix = λ p. let f = a.fixed p in omega (arith, one, f) }
