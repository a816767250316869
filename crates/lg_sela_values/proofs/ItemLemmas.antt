-- Lists of items.
use Rattle.std.proofs.Common.{◌≡◌, ℕ, ◌+◌, List, [], ◌∷◌, ◌++◌, length, refl, ap, ◌∙◌, arith}
use Rattle.std.specs.List.{All}
use Rattle.lg_a64.specs.declared.instruction.Instr.{Instr}
use Rattle.lg_a64.specs.Spelling.{IsInstr}
use Rattle.lg_sel.proofs.ListLemmas as lists
use Rattle.lg_sela_values.specs.declared.items.Item.{Item}
use Rattle.lg_sela_values.specs.declared.items.Item.TheVariants.{One, Branch, CondBranch, Address}
use Rattle.lg_sela_values.specs.Items.{a64_holes, IsItem, NamesOneOf, words_in, bytes_in, blanks, settled, fixes_of, AreItems, NameLabels, ones}

-- four bytes for each instruction
pub blank_bytes : (xs : List Item) → length (blanks xs) ≡ bytes_in xs
blank_bytes [] = refl
blank_bytes (One i ∷ xs) = let h = blank_bytes xs in omega (arith, h)
blank_bytes (Branch op label ∷ xs) = let h = blank_bytes xs in omega (arith, h)
blank_bytes (CondBranch cond label ∷ xs) = let h = blank_bytes xs in omega (arith, h)
blank_bytes (Address rd label ∷ xs) = let h = blank_bytes xs in omega (arith, h)

-- ---- two lists in a row
pub words_append : (xs ys : List Item) → words_in (xs ++ ys) ≡ words_in xs + words_in ys
words_append = lists.words_append a64_holes

pub settled-append : (to : ℕ → ℕ) (p : ℕ) (xs ys : List Item) → settled to p (xs ++ ys) ≡ settled to p xs ++ settled to (p + bytes_in xs) ys
settled-append to p xs ys = lists.settled-append a64_holes to p xs ys ∙ ap (λ n. settled to p xs ++ settled to (p + n) ys) (blank_bytes xs)

pub fixes-append : (p : ℕ) (xs ys : List Item) → fixes_of p (xs ++ ys) ≡ fixes_of p xs ++ fixes_of (p + bytes_in xs) ys
fixes-append p xs ys = lists.fixes-append a64_holes p xs ys ∙ ap (λ n. fixes_of p xs ++ fixes_of (p + n) ys) (blank_bytes xs)

pub items-append : (xs ys : List Item) → AreItems xs → AreItems ys → AreItems (xs ++ ys)
items-append = lists.each-append IsItem

pub names-append : (labels : ℕ) (xs ys : List Item) → NameLabels labels xs → NameLabels labels ys → NameLabels labels (xs ++ ys)
names-append labels = lists.each-append (NamesOneOf labels)

-- ---- instructions that name no label
pub words-ones : (is : List Instr) → words_in (ones is) ≡ length is
words-ones = lists.words-ones a64_holes One (λ i. refl)

pub ones-append : (is js : List Instr) → ones (is ++ js) ≡ ones is ++ ones js
ones-append = lists.ones-append One

pub settled-ones : (to : ℕ → ℕ) (p : ℕ) (is : List Instr) → settled to p (ones is) ≡ is
settled-ones = lists.settled-ones a64_holes One (λ to p i. refl)

pub fixes-ones : (p : ℕ) (is : List Instr) → fixes_of p (ones is) ≡ []
fixes-ones = lists.fixes-ones a64_holes One (λ p i. refl)

pub items-ones : (is : List Instr) → All IsInstr is → AreItems (ones is)
items-ones = lists.all-ones IsItem One IsInstr (λ i h. h)

pub names-ones : (labels : ℕ) (is : List Instr) → NameLabels labels (ones is)
names-ones labels = lists.any-ones (NamesOneOf labels) One (λ i. tt)
