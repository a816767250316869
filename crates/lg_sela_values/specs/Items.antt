-- The items of AArch64: as they are emitted, with 0 in the fields of labels, and as they are once the labels have places.
use Rattle.std.specs.Prelude.{◌≡◌, ℕ, ◌*◌, ◌/◌, ◌%◌, ◌^◌, ◌<◌, false, ℤ, pos, ◌-ℤ◌, List, [], ◌∷◌, ⊤, Bool}
use Rattle.std.proofs.Common.{lit<}
use Rattle.lg_a64.specs.declared.instruction.Instr.{Instr}
use Rattle.lg_a64.specs.declared.instruction.Instr.TheVariants as instr
use Rattle.lg_a64.specs.declared.instruction.WideOp.TheVariants.{Movz, Movk}
use Rattle.lg_a64.specs.Spelling.{IsInstr, spelling}
use Rattle.lg_buf.specs.declared.fixes.Fix.{Fix}
use Rattle.lg_buf.specs.declared.fixes.FixKind.TheVariants.{A64Branch26, A64Cond19, A64MovPair}
use Rattle.lg_base.specs.declared.target.Target.TheVariants.{Aarch64}
use Rattle.lg_carry.specs.Blocks.{spellings}
use Rattle.lg_carry.specs.Outside.{is_outside}
use Rattle.lg_sela_values.specs.Processor.Destinations.{IsWithin, branch_destination, WritesWithin}
use Rattle.lg_sel.specs.Holes.{Holes, Each, AreHoles}
use Rattle.lg_sel.specs.Holes as holes
use Rattle.lg_sela_values.specs.declared.items.Item.{Item}
use Rattle.lg_sela_values.specs.declared.items.Item.TheVariants.{One, Branch, CondBranch, Address}

-- ---- an item
-- how many instructions it is
abbrev pub words_of : Item → ℕ
words_of (One i) = 1
words_of (Branch op label) = 1
words_of (CondBranch cond label) = 1
words_of (Address rd label) = 2

-- it is some
pub has_word : (x : Item) → 0 < words_of x
has_word (One i) = lit< tt
has_word (Branch op label) = lit< tt
has_word (CondBranch cond label) = lit< tt
has_word (Address rd label) = lit< tt

-- the instructions as they are emitted
abbrev pub blank : Item → List Instr
blank (One i) = i ∷ []
blank (Branch op label) = instr.Branch op (pos 0) ∷ []
blank (CondBranch cond label) = instr.BranchIf cond (pos 0) ∷ []
blank (Address rd label) = instr.Wide Movz rd 0 0 ∷ instr.Wide Movk rd 0 1 ∷ []

-- how many words of 4 bytes the one address lies after the other, where it lies whole words away
abbrev pub words_between : ℕ → ℕ → ℤ
words_between from to = pos (to / 4) -ℤ pos (from / 4)

-- the quarters of an address of 32 bits
abbrev pub low_quarter : ℕ → ℕ
low_quarter a = a % 2 ^ 16

abbrev pub next_quarter : ℕ → ℕ
next_quarter a = a / 2 ^ 16 % 2 ^ 16

-- the instructions of an item that is at an address, where the labels have these addresses
abbrev pub settle : (ℕ → ℕ) → ℕ → Item → List Instr
settle to at (One i) = i ∷ []
settle to at (Branch op label) = instr.Branch op (words_between at (to label)) ∷ []
settle to at (CondBranch cond label) = instr.BranchIf cond (words_between at (to label)) ∷ []
settle to at (Address rd label) = instr.Wide Movz rd (low_quarter (to label)) 0 ∷ instr.Wide Movk rd (next_quarter (to label)) 1 ∷ []

-- the fix of an item that is at a place of the buffer
abbrev pub fix_of : ℕ → Item → List Fix
fix_of place (One i) = []
fix_of place (Branch op label) = record { place = place; kind = A64Branch26; label = record { 0 = label } } ∷ []
fix_of place (CondBranch cond label) = record { place = place; kind = A64Cond19; label = record { 0 = label } } ∷ []
fix_of place (Address rd label) = record { place = place; kind = A64MovPair; label = record { 0 = label } } ∷ []

abbrev pub a64_holes : Holes Item Instr
a64_holes = record { words = words_of; blank = λ x. spellings spelling (blank x); settle = settle; fix_of = fix_of }

-- the numbers are in the ranges of their instructions
abbrev pub IsItem : Item → Type 0
IsItem (One i) = IsInstr i
IsItem (Branch op label) = ⊤
IsItem (CondBranch cond label) = ⊤
IsItem (Address rd label) = rd < 32

-- an item of code that moves the stack pointer, or does not, writes no register that is outside of the conventions
abbrev pub StaysWithin : Bool → Item → Type 0
StaysWithin moves (One i) = WritesWithin moves i
StaysWithin moves (Branch op label) = IsWithin moves (branch_destination op)
StaysWithin moves (CondBranch cond label) = ⊤
StaysWithin moves (Address rd label) = is_outside Aarch64 moves rd ≡ false

-- an item names one of n labels, or none
abbrev pub NamesOneOf : ℕ → Item → Type 0
NamesOneOf labels (One i) = ⊤
NamesOneOf labels (Branch op label) = label < labels
NamesOneOf labels (CondBranch cond label) = label < labels
NamesOneOf labels (Address rd label) = label < labels

-- ---- lists of items
-- how many instructions they are
abbrev pub words_in : List Item → ℕ
words_in xs = holes.words_in a64_holes xs

-- how many bytes: an instruction has four
abbrev pub bytes_in : List Item → ℕ
bytes_in xs = 4 * words_in xs

-- their bytes as they are emitted
abbrev pub blanks : List Item → List ℕ
blanks xs = holes.blanks a64_holes xs

-- the instructions of those that begin at an address
abbrev pub settled : (ℕ → ℕ) → ℕ → List Item → List Instr
settled to at xs = holes.settled a64_holes to at xs

-- the fixes of those that begin at a place of the buffer
abbrev pub fixes_of : ℕ → List Item → List Fix
fixes_of place xs = holes.fixes_of a64_holes place xs

abbrev pub AreItems : List Item → Type 0
AreItems xs = Each IsItem xs

abbrev pub StayWithin : Bool → List Item → Type 0
StayWithin moves xs = Each (StaysWithin moves) xs

abbrev pub NameLabels : ℕ → List Item → Type 0
NameLabels labels xs = Each (NamesOneOf labels) xs

-- instructions that name no label, as items
abbrev pub ones : List Instr → List Item
ones is = holes.ones One is

-- ---- what is claimed
-- patched bytes are those of the instructions
abbrev pub A64Holes : Type 0
A64Holes = AreHoles a64_holes spelling IsInstr IsItem

-- the instructions of two lists in a row
abbrev pub WordsAppend : Type 0
WordsAppend = holes.WordsAppend a64_holes
