-- Items that can be appended: none, instructions alone, and instructions in front of others.
use Rattle.std.proofs.Common.{◌≡◌, ℕ, ◌+◌, ◌<◌, Bool, true, false, List, [], ◌++◌, length, ap, ◌∙◌, arith}
use Rattle.lg_sel.proofs.ListLemmas.{each-append, any-ones, words_append, words-ones, fixes-append, fixes-ones}
use Rattle.lg_sel.specs.GoodItems.{AreEmitted}
use Rattle.lg_sel.specs.Holes.{Holes, Each, blanks, fixes_of, ones}

module _ {L I : Type 0} (H : Holes L I) (is_item : L → Type 0) (names_one_of : ℕ → L → Type 0) (labels : ℕ) where
  pub nothing-emitted : AreEmitted H is_item names_one_of labels false []
  nothing-emitted = record { items = tt; labels = tt; one_fix = λ place. omega arith; some = λ e. cc }

  -- instructions have no fix and name no label
  module _ (one : I → L) (single : (i : I) → H.words (one i) ≡ 1) (none : (place : ℕ) (i : I) → H.fix_of place (one i) ≡ [])
      (free : (i : I) → names_one_of labels (one i)) where
    pub ones-emitted : (leaping : Bool) (is : List I) → Each is_item (ones one is) → (leaping ≡ true → 0 < length is)
        → AreEmitted H is_item names_one_of labels leaping (ones one is)
    ones-emitted leaping is fit some = record {
      items = fit;
      labels = any-ones (names_one_of labels) one free is;
      one_fix = λ place. let e = ap length (fixes-ones H one none place is) in omega (arith, e);
      some = λ e. let z = some e in let w = words-ones H one single is in omega (arith, z, w);
    }

    pub ones-in-front : (leaping : Bool) (is : List I) (xs : List L) → Each is_item (ones one is) → AreEmitted H is_item names_one_of labels leaping xs
        → AreEmitted H is_item names_one_of labels leaping (ones one is ++ xs)
    ones-in-front leaping is xs fit h = record {
      items = each-append is_item (ones one is) xs fit h.items;
      labels = each-append (names_one_of labels) (ones one is) xs (any-ones (names_one_of labels) one free is) h.labels;
      one_fix = λ place. let p = place + length (blanks H (ones one is)) in
          let e = ap length (fixes-append H place (ones one is) xs ∙ ap (λ z. z ++ fixes_of H p xs) (fixes-ones H one none place is)) in
          let f = h.one_fix p in omega (arith, e, f);
      some = λ e. let z = h.some e in let w = words_append H (ones one is) xs in omega (arith, z, w);
    }
