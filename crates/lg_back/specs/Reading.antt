-- How a text begins: with which lines of a listing, and what they leave.
use Rattle.std.specs.Prelude.{◌≡◌, ℕ, ◌+◌, ◌≤◌, List, ◌++◌, length}
use Rattle.std.specs.List.{All}
use Rattle.lg_base.specs.Layout.{code_base, most_code}
use Rattle.lg_base.specs.declared.target.Target.{Target}
use Rattle.lg_list.specs.Back.{IsEntry}
use Rattle.lg_op.specs.declared.op.Op.{Op}
use Rattle.lg_list.specs.Instructions.{spelling}
use Rattle.lg_list.specs.Lines.{Entry, first_line, line_of, rendered, joined, node_line, label_line, instruction_line}
use Rattle.lg_list.specs.Lines.Entry.{Code, Label, Node}
use Rattle.lg_list.specs.declared.instruction.Instruction.{Instruction}

-- a text begins with the first line of a listing for a target, which names a number of bytes
pub record HasHead (text : List ℕ) (t : Target) (count : ℕ) : Type 0 where
  pub rest : List ℕ
  pub text_is : text ≡ first_line t count ++ rest
  pub small : count ≤ most_code

-- a text begins with a line that may be after the first of a listing, at an address
pub record HasLine (t : Target) (at : ℕ) (text : List ℕ) (e : Entry) : Type 0 where
  pub form : IsEntry t e
  pub rest : List ℕ
  pub text_is : text ≡ line_of at e ++ rest

-- and it begins with none
abbrev pub HasNoLine : Target → ℕ → List ℕ → Type 0
HasNoLine t at text = (e : Entry) → ¬ HasLine t at text e

-- a text begins with the line of a node, which has this length on any target and at any address
abbrev pub HasNodeLine : List ℕ → ℕ → Type 0
HasNodeLine text len = (line : ℕ) × (op : Op) × ((t : Target) (at : ℕ) → HasLine t at text (Node line op)) × (len ≡ length (node_line line op))

-- a text begins with the line of a label at an address, which has this length on any target
abbrev pub HasLabelLine : ℕ → List ℕ → ℕ → Type 0
HasLabelLine at text len = (word : List ℕ) × ((t : Target) → HasLine t at text (Label word)) × (len ≡ length (label_line at word))

-- a text begins with the line of an instruction at an address, which has this length and denotes these bytes
abbrev pub HasCodeLine : Target → ℕ → List ℕ → List ℕ → ℕ → Type 0
HasCodeLine t at text bytes len = (i : Instruction) × HasLine t at text (Code i) × (bytes ≡ spelling i) × (len ≡ length (instruction_line at i))

-- a text begins with a first line and these lines after it, and this is the rest
pub record HasLines (text : List ℕ) (t : Target) (count : ℕ) (lines : List Entry) (rest : List ℕ) : Type 0 where
  pub form : All (IsEntry t) lines
  pub text_is : text ≡ first_line t count ++ (rendered code_base lines ++ rest)
  pub small : count ≤ most_code

-- the address of the line after these
abbrev pub address_after : List Entry → ℕ
address_after lines = code_base + length (joined lines)
