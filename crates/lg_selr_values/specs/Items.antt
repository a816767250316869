-- The items of RV64: as they are emitted, with 0 in the fields of labels, and as they are once the labels have places.
use Rattle.std.specs.Prelude.{◌≡◌, ℕ, ◌*◌, ◌<◌, false, pos, ◌-ℤ◌, List, [], ◌∷◌, ⊤, Bool}
use Rattle.std.proofs.Common.{lit<}
use Rattle.lg_rv.specs.declared.instruction.Instr.{Instr}
use Rattle.lg_rv.specs.declared.instruction.Instr.TheVariants as instr
use Rattle.lg_rv.specs.declared.instruction.UpperOp.TheVariants.{Lui, Auipc}
use Rattle.lg_rv.specs.declared.instruction.ImmOp.TheVariants.{Addi, Jalr}
use Rattle.lg_rv.specs.Spelling.{IsInstr, spelling}
use Rattle.lg_buf.specs.declared.fixes.Fix.{Fix}
use Rattle.lg_buf.specs.declared.fixes.FixKind.TheVariants.{RvBranch, RvJal, RvLuiAddi, RvAuipcJalr}
use Rattle.lg_base.specs.Fields.{word_of}
use Rattle.lg_base.specs.declared.target.Target.TheVariants.{Riscv64}
use Rattle.lg_carry.specs.Blocks.{spellings}
use Rattle.lg_carry.specs.Outside.{is_outside}
use Rattle.lg_selr_values.specs.Processor.Destinations.{WritesWithin}
use Rattle.lg_selr_values.specs.Processor.Numbers.{high_part, low_part}
use Rattle.lg_sel.specs.Holes.{Holes, Each, AreHoles}
use Rattle.lg_sel.specs.Holes as holes
use Rattle.lg_selr_values.specs.declared.items.Item.{Item}
use Rattle.lg_selr_values.specs.declared.items.Item.TheVariants.{One, Branch, Jump, FarJump, Address}

-- ---- an item
-- how many instructions it is
abbrev pub words_of : Item → ℕ
words_of (One i) = 1
words_of (Branch o rs1 rs2 label) = 1
words_of (Jump rd label) = 1
words_of (FarJump rd base label) = 2
words_of (Address rd label) = 2

-- it is some
pub has_word : (x : Item) → 0 < words_of x
has_word (One i) = lit< tt
has_word (Branch o rs1 rs2 label) = lit< tt
has_word (Jump rd label) = lit< tt
has_word (FarJump rd base label) = lit< tt
has_word (Address rd label) = lit< tt

-- the instructions as they are emitted
abbrev pub blank : Item → List Instr
blank (One i) = i ∷ []
blank (Branch o rs1 rs2 label) = instr.Branch o rs1 rs2 (pos 0) ∷ []
blank (Jump rd label) = instr.Jal rd (pos 0) ∷ []
blank (FarJump rd base label) = instr.Upper Auipc base 0 ∷ instr.Imm Jalr rd base (pos 0) ∷ []
blank (Address rd label) = instr.Upper Lui rd 0 ∷ instr.Imm Addi rd rd (pos 0) ∷ []

-- the word whose signed view is the distance from an address to another one
abbrev pub distance : ℕ → ℕ → ℕ
distance from to = word_of (pos to -ℤ pos from)

-- a jump over any distance, from an address to another one: `auipc` adds the high part of the distance to its own address, and `jalr` the low part
abbrev pub far_jump : ℕ → ℕ → ℕ → ℕ → List Instr
far_jump rd base from to =
    instr.Upper Auipc base (high_part (distance from to)) ∷ instr.Imm Jalr rd base (low_part (distance from to)) ∷ []

-- the instructions of an item that is at an address, where the labels have these addresses
abbrev pub settle : (ℕ → ℕ) → ℕ → Item → List Instr
settle to at (One i) = i ∷ []
settle to at (Branch o rs1 rs2 label) = instr.Branch o rs1 rs2 (pos (to label) -ℤ pos at) ∷ []
settle to at (Jump rd label) = instr.Jal rd (pos (to label) -ℤ pos at) ∷ []
settle to at (FarJump rd base label) = far_jump rd base at (to label)
settle to at (Address rd label) = instr.Upper Lui rd (high_part (to label)) ∷ instr.Imm Addi rd rd (low_part (to label)) ∷ []

-- the fix of an item that is at a place of the buffer
abbrev pub fix_of : ℕ → Item → List Fix
fix_of place (One i) = []
fix_of place (Branch o rs1 rs2 label) = record { place = place; kind = RvBranch; label = record { 0 = label } } ∷ []
fix_of place (Jump rd label) = record { place = place; kind = RvJal; label = record { 0 = label } } ∷ []
fix_of place (FarJump rd base label) = record { place = place; kind = RvAuipcJalr; label = record { 0 = label } } ∷ []
fix_of place (Address rd label) = record { place = place; kind = RvLuiAddi; label = record { 0 = label } } ∷ []

abbrev pub rv_holes : Holes Item Instr
rv_holes = record { words = words_of; blank = λ x. spellings spelling (blank x); settle = settle; fix_of = fix_of }

-- the numbers are in the ranges of their instructions
abbrev pub IsItem : Item → Type 0
IsItem (One i) = IsInstr i
IsItem (Branch o rs1 rs2 label) = (rs1 < 32) × (rs2 < 32)
IsItem (Jump rd label) = rd < 32
IsItem (FarJump rd base label) = (rd < 32) × (base < 32)
IsItem (Address rd label) = rd < 32

-- an item of code that moves the stack pointer, or does not, writes no register that is outside of the conventions
abbrev pub StaysWithin : Bool → Item → Type 0
StaysWithin moves (One i) = WritesWithin moves i
StaysWithin moves (Branch o rs1 rs2 label) = ⊤
StaysWithin moves (Jump rd label) = is_outside Riscv64 moves rd ≡ false
StaysWithin moves (FarJump rd base label) = (is_outside Riscv64 moves base ≡ false) × (is_outside Riscv64 moves rd ≡ false)
StaysWithin moves (Address rd label) = is_outside Riscv64 moves rd ≡ false

-- an item names one of n labels, or none
abbrev pub NamesOneOf : ℕ → Item → Type 0
NamesOneOf labels (One i) = ⊤
NamesOneOf labels (Branch o rs1 rs2 label) = label < labels
NamesOneOf labels (Jump rd label) = label < labels
NamesOneOf labels (FarJump rd base label) = label < labels
NamesOneOf labels (Address rd label) = label < labels

-- ---- lists of items
-- how many instructions they are
abbrev pub words_in : List Item → ℕ
words_in xs = holes.words_in rv_holes xs

-- how many bytes: an instruction has four
abbrev pub bytes_in : List Item → ℕ
bytes_in xs = 4 * words_in xs

-- their bytes as they are emitted
abbrev pub blanks : List Item → List ℕ
blanks xs = holes.blanks rv_holes xs

-- the instructions of those that begin at an address
abbrev pub settled : (ℕ → ℕ) → ℕ → List Item → List Instr
settled to at xs = holes.settled rv_holes to at xs

-- the fixes of those that begin at a place of the buffer
abbrev pub fixes_of : ℕ → List Item → List Fix
fixes_of place xs = holes.fixes_of rv_holes place xs

abbrev pub AreItems : List Item → Type 0
AreItems xs = Each IsItem xs

abbrev pub StayWithin : Bool → List Item → Type 0
StayWithin moves xs = Each (StaysWithin moves) xs

abbrev pub NameLabels : ℕ → List Item → Type 0
NameLabels labels xs = Each (NamesOneOf labels) xs

-- instructions that name no label, as items
abbrev pub ones : List Instr → List Item
ones is = holes.ones One is

-- ---- what is claimed
-- patched bytes are those of the instructions
abbrev pub RvHoles : Type 0
RvHoles = AreHoles rv_holes spelling IsInstr IsItem

-- the instructions of two lists in a row
abbrev pub WordsAppend : Type 0
WordsAppend = holes.WordsAppend rv_holes
