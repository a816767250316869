-- Lists of items.
use Rattle.std.proofs.Common.{◌≡◌, ℕ, ◌+◌, List, [], ◌++◌, length, refl}
use Rattle.lg_x86.specs.declared.instruction.Instr.{Instr}
use Rattle.lg_sel.proofs.ListLemmas as lists
use Rattle.lg_selx_values.specs.declared.items.Item.{Item}
use Rattle.lg_selx_values.specs.declared.items.Item.TheVariants.{One}
use Rattle.lg_selx_values.specs.Items.{x86_holes, IsItem, NamesOneOf, words_in, blanks, settled, fixes_of, AreItems, NameLabels, ones}

-- ---- two lists in a row
pub words_append : (xs ys : List Item) → words_in (xs ++ ys) ≡ words_in xs + words_in ys
words_append = lists.words_append x86_holes

pub settled-append : (to : ℕ → ℕ) (p : ℕ) (xs ys : List Item) → settled to p (xs ++ ys) ≡ settled to p xs ++ settled to (p + length (blanks xs)) ys
settled-append to p xs ys = lists.settled-append x86_holes to p xs ys

pub fixes-append : (p : ℕ) (xs ys : List Item) → fixes_of p (xs ++ ys) ≡ fixes_of p xs ++ fixes_of (p + length (blanks xs)) ys
fixes-append p xs ys = lists.fixes-append x86_holes p xs ys

pub items-append : (xs ys : List Item) → AreItems xs → AreItems ys → AreItems (xs ++ ys)
items-append = lists.each-append IsItem

pub names-append : (labels : ℕ) (xs ys : List Item) → NameLabels labels xs → NameLabels labels ys → NameLabels labels (xs ++ ys)
names-append labels = lists.each-append (NamesOneOf labels)

-- ---- instructions that name no label
pub words-ones : (is : List Instr) → words_in (ones is) ≡ length is
words-ones = lists.words-ones x86_holes One (λ i. refl)

pub ones-append : (is js : List Instr) → ones (is ++ js) ≡ ones is ++ ones js
ones-append = lists.ones-append One

pub settled-ones : (to : ℕ → ℕ) (p : ℕ) (is : List Instr) → settled to p (ones is) ≡ is
settled-ones = lists.settled-ones x86_holes One (λ to p i. refl)

pub fixes-ones : (p : ℕ) (is : List Instr) → fixes_of p (ones is) ≡ []
fixes-ones = lists.fixes-ones x86_holes One (λ p i. refl)

pub names-ones : (labels : ℕ) (is : List Instr) → NameLabels labels (ones is)
names-ones labels = lists.any-ones (NamesOneOf labels) One (λ i. tt)
