-- The items of x86-64: as they are emitted, with 0 in the fields of labels, and as they are once the labels have places. Each is one instruction, of 1 to
-- 10 bytes.
use Rattle.std.specs.Prelude.{◌≡◌, ℕ, ◌+◌, ◌<◌, nat_lt, false, ℤ, pos, ◌-ℤ◌, if◌then◌else◌, List, [], ◌∷◌, ⊤, Bool}
use Rattle.std.proofs.Common.{lit<}
use Rattle.lg_base.specs.declared.target.Target.TheVariants.{X86_64}
use Rattle.lg_x86.specs.declared.instruction.Instr.{Instr}
use Rattle.lg_x86.specs.declared.instruction.Instr.TheVariants as instr
use Rattle.lg_x86.specs.Spelling.{IsInstr, spelling}
use Rattle.lg_buf.specs.declared.fixes.Fix.{Fix}
use Rattle.lg_buf.specs.declared.fixes.FixKind.{FixKind}
use Rattle.lg_buf.specs.declared.fixes.FixKind.TheVariants.{X86Rel8, X86Rel32, X86Abs32}
use Rattle.lg_carry.specs.Outside.{is_outside}
use Rattle.lg_selx_values.specs.Processor.Destinations.{WritesWithin}
use Rattle.lg_sel.specs.Holes.{Holes, Each, AreHoles}
use Rattle.lg_sel.specs.Holes as holes
use Rattle.lg_selx_values.specs.declared.items.Item.{Item}
use Rattle.lg_selx_values.specs.declared.items.Item.TheVariants.{One, Jump, Address}
use Rattle.lg_selx_values.specs.declared.items.JumpKind.{JumpKind}
use Rattle.lg_selx_values.specs.declared.items.JumpKind.TheVariants.{Near, NearIf, Short, ShortIf}

-- ---- jumps
-- the instruction of a jump or call by a distance
abbrev pub jump_by : JumpKind → ℤ → Instr
jump_by (Near op) distance = instr.JumpNear op distance
jump_by (NearIf cond) distance = instr.JumpIfNear cond distance
jump_by Short distance = instr.JumpShort distance
jump_by (ShortIf cond) distance = instr.JumpIfShort cond distance

-- how many bytes are in front of the distance
abbrev pub opcode_size : JumpKind → ℕ
opcode_size (NearIf cond) = 2
opcode_size kind = 1

-- how many bytes it has in all: a distance counts from its end
abbrev pub jump_size : JumpKind → ℕ
jump_size (Near op) = 5
jump_size (NearIf cond) = 6
jump_size Short = 2
jump_size (ShortIf cond) = 2

abbrev pub fix_kind : JumpKind → FixKind
fix_kind (Near op) = X86Rel32
fix_kind (NearIf cond) = X86Rel32
fix_kind Short = X86Rel8
fix_kind (ShortIf cond) = X86Rel8

-- how many bytes of a move of 32 bits are in front of its number: registers 8 to 15 need a prefix
abbrev pub move_size : ℕ → ℕ
move_size reg = if nat_lt reg 8 then 1 else 2

-- ---- an item
-- the instruction as it is emitted
abbrev pub blank : Item → Instr
blank (One i) = i
blank (Jump kind label) = jump_by kind (pos 0)
blank (Address reg label) = instr.Movi32 reg 0

-- the instruction of an item that is at an address, where the labels have these addresses
abbrev pub settled_one : (ℕ → ℕ) → ℕ → Item → Instr
settled_one to at (One i) = i
settled_one to at (Jump kind label) = jump_by kind (pos (to label) -ℤ pos (at + jump_size kind))
settled_one to at (Address reg label) = instr.Movi32 reg (to label)

abbrev pub settle : (ℕ → ℕ) → ℕ → Item → List Instr
settle to at x = settled_one to at x ∷ []

-- the fix of an item that is at a place of the buffer
abbrev pub fix_of : ℕ → Item → List Fix
fix_of place (One i) = []
fix_of place (Jump kind label) = record { place = place + opcode_size kind; kind = fix_kind kind; label = record { 0 = label } } ∷ []
fix_of place (Address reg label) = record { place = place + move_size reg; kind = X86Abs32; label = record { 0 = label } } ∷ []

abbrev pub x86_holes : Holes Item Instr
x86_holes = record { words = λ x. 1; blank = λ x. spelling (blank x); settle = settle; fix_of = fix_of }

-- it is some
pub has_word : (x : Item) → 0 < holes.words_of x86_holes x
has_word x = lit< tt

-- the numbers are in the ranges of the instruction
abbrev pub IsItem : Item → Type 0
IsItem (One i) = IsInstr i
IsItem (Jump kind label) = ⊤
IsItem (Address reg label) = reg < 16

-- an item of code that moves the stack pointer, or does not, writes no register that is outside of the conventions
abbrev pub StaysWithin : Bool → Item → Type 0
StaysWithin moves (One i) = WritesWithin moves i
StaysWithin moves (Jump kind label) = WritesWithin moves (jump_by kind (pos 0))
StaysWithin moves (Address reg label) = is_outside X86_64 moves reg ≡ false

-- an item names one of n labels, or none
abbrev pub NamesOneOf : ℕ → Item → Type 0
NamesOneOf labels (One i) = ⊤
NamesOneOf labels (Jump kind label) = label < labels
NamesOneOf labels (Address reg label) = label < labels

-- ---- lists of items
-- how many instructions they are
abbrev pub words_in : List Item → ℕ
words_in xs = holes.words_in x86_holes xs

-- their bytes as they are emitted
abbrev pub blanks : List Item → List ℕ
blanks xs = holes.blanks x86_holes xs

-- the instructions of those that begin at an address
abbrev pub settled : (ℕ → ℕ) → ℕ → List Item → List Instr
settled to at xs = holes.settled x86_holes to at xs

-- the fixes of those that begin at a place of the buffer
abbrev pub fixes_of : ℕ → List Item → List Fix
fixes_of place xs = holes.fixes_of x86_holes place xs

abbrev pub AreItems : List Item → Type 0
AreItems xs = Each IsItem xs

abbrev pub StayWithin : Bool → List Item → Type 0
StayWithin moves xs = Each (StaysWithin moves) xs

abbrev pub NameLabels : ℕ → List Item → Type 0
NameLabels labels xs = Each (NamesOneOf labels) xs

-- instructions that name no label, as items
abbrev pub ones : List Instr → List Item
ones is = holes.ones One is

-- ---- what is claimed
-- patched bytes are those of the instructions
abbrev pub X86Holes : Type 0
X86Holes = AreHoles x86_holes spelling IsInstr IsItem

-- the instructions of two lists in a row
abbrev pub WordsAppend : Type 0
WordsAppend = holes.WordsAppend x86_holes
