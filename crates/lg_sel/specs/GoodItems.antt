-- Items each of which is good: in range, within the conventions, and, but for those that jump, followed by the next.
use Rattle.std.specs.Prelude.{◌≡◌, ℕ, ◌<◌, ◌≤◌, Bool, true, List, length}
use Rattle.std.specs.List.{All}
use Rattle.lg_carry.specs.Blocks.{IsBlock}
use Rattle.lg_sel.specs.Holes.{Holes, Each, words_in, settled, fixes_of}

-- an instruction is one of the processor, writes no register outside of the conventions, and is followed by the next
abbrev pub IsGood : {I : Type 0} → (I → Type 0) → (I → Type 0) → (I → Bool) → I → Type 0
IsGood fits stays straight i = fits i × stays i × (straight i ≡ true)

-- wherever a good item stands and whatever the labels are, its instructions have a property
abbrev pub Settles : {L I : Type 0} → Holes L I → (L → Type 0) → (I → Type 0) → Type 0
Settles {L} {I} H good P = (x : L) (to : ℕ → ℕ) (at : ℕ) → good x → Each P (H.settle to at x)

-- then so have those of good items in a row
abbrev pub GoodItemsSettle : {L I : Type 0} → Holes L I → (L → Type 0) → (I → Type 0) → Type 0
GoodItemsSettle {L} H good P = Settles H good P → (items : List L) → Each good items → (to : ℕ → ℕ) (at : ℕ) → All P (settled H to at items)

-- where the property is that the next one follows, they are a block
abbrev pub GoodItemsAreBlocks : {L I : Type 0} → Holes L I → (I → Bool) → (L → Type 0) → Type 0
GoodItemsAreBlocks {L} H straight good =
    Settles H good (λ i. straight i ≡ true) → (items : List L) → Each good items → (to : ℕ → ℕ) (at : ℕ) → IsBlock straight (settled H to at items)

-- what is asked of items that are appended, but for their number and the labels that they name
pub record AreAppendable {L I : Type 0} (H : Holes L I) (straight : I → Bool) (is_item stays : L → Type 0) (items : List L) : Type 0 where
  pub fit : Each is_item items
  pub within : Each stays items
  pub block : (to : ℕ → ℕ) (at : ℕ) → IsBlock straight (settled H to at items)

-- it holds of good items
abbrev pub GoodItemsAreAppendable : {L I : Type 0} → Holes L I → (I → Bool) → (L → Type 0) → (L → Type 0) → (L → Type 0) → Type 0
GoodItemsAreAppendable {L} H straight is_item stays good = (items : List L) → Each good items → AreAppendable H straight is_item stays items

-- items that can be appended to a buffer with this many labels, with at most one fix; and where the node transfers control there are some
pub record AreEmitted {L I : Type 0} (H : Holes L I) (is_item : L → Type 0) (names_one_of : ℕ → L → Type 0) (count : ℕ) (leaping : Bool)
    (xs : List L) : Type 0 where
  pub items : Each is_item xs
  pub labels : Each (names_one_of count) xs
  pub one_fix : (place : ℕ) → length (fixes_of H place xs) ≤ 1
  pub some : leaping ≡ true → 0 < words_in H xs

-- appendable items (at most this many instructions), with at most one fix
pub record AreFew {L I : Type 0} (H : Holes L I) (straight : I → Bool) (is_item stays : L → Type 0) (most : ℕ) (items : List L) : Type 0 where
  pub appendable : AreAppendable H straight is_item stays items
  pub short : words_in H items ≤ most
  pub one_fix : (place : ℕ) → length (fixes_of H place items) ≤ 1
