-- What is said of each good item holds of the instructions of good items in a row.
use Rattle.std.proofs.Common.{◌≡◌, ℕ, zero, suc, ◌+◌, Bool, true, List, [], ◌∷◌, length, arith}
use Rattle.std.specs.List.{All}
use Rattle.lg_carry.specs.Blocks.{IsBlock}
use Rattle.lg_sel.specs.Holes.{Holes, Each, settled}
use Rattle.lg_sel.specs.GoodItems.{Settles, GoodItemsSettle, GoodItemsAreBlocks, GoodItemsAreAppendable}
use Rattle.lg_sel.proofs.ListLemmas.{each-append, each-weaker}

each-settled : {L I : Type 0} (H : Holes L I) (good : L → Type 0) (P : I → Type 0) → Settles H good P → (items : List L) → Each good items → (to : ℕ → ℕ) (at : ℕ) → Each P (settled H to at items)
each-settled H good P one [] h to at = tt
each-settled H good P one (x ∷ xs) h to at =
    each-append P (H.settle to at x) (settled H to (at + length (H.blank x)) xs) (one x to at h.0) (each-settled H good P one xs h.1 to (at + length (H.blank x)))

all-of : {I : Type 0} (P : I → Type 0) (is : List I) → Each P is → All P is
all-of P [] h = λ k d lt. absurd (omega (arith, lt))
all-of P (i ∷ is) h = by (all-of P is h.1)
  where
    by : All P is → All P (i ∷ is)
    by rest zero d lt = h.0
    by rest (suc k) d lt = rest k d (omega (arith, lt))

block-of : {I : Type 0} (straight : I → Bool) (is : List I) → Each (λ i. straight i ≡ true) is → IsBlock straight is
block-of straight [] h = tt
block-of straight (i ∷ []) h = tt
block-of straight (i ∷ j ∷ is) h = (h.0, block-of straight (j ∷ is) h.1)

pub good-items-settle : {L I : Type 0} (H : Holes L I) (good : L → Type 0) (P : I → Type 0) → GoodItemsSettle H good P
good-items-settle H good P one items h to at = all-of P (settled H to at items) (each-settled H good P one items h to at)

pub good-items-are-blocks : {L I : Type 0} (H : Holes L I) (straight : I → Bool) (good : L → Type 0) → GoodItemsAreBlocks H straight good
good-items-are-blocks H straight good one items h to at =
    block-of straight (settled H to at items) (each-settled H good (λ i. straight i ≡ true) one items h to at)

pub good-items-are-appendable : {L I : Type 0} (H : Holes L I) (straight : I → Bool) (is_item stays good : L → Type 0) → ((x : L) → good x → is_item x)
    → ((x : L) → good x → stays x) → Settles H good (λ i. straight i ≡ true) → GoodItemsAreAppendable H straight is_item stays good
good-items-are-appendable H straight is_item stays good fit stay follow items h = record {
  fit = each-weaker good is_item fit items h;
  within = each-weaker good stays stay items h;
  block = good-items-are-blocks H straight good follow items h;
}
