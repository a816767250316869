-- What a listing says: the definition of reading a listing back.
use Rattle.std.specs.Prelude.{◌≡◌, true, ℕ, ◌^◌, ◌<◌, ◌≤◌, List, ◌++◌, length, map}
use Rattle.std.specs.List.{All}
use Rattle.lg_base.specs.Layout.{code_base, most_code}
use Rattle.lg_base.specs.declared.target.Target.{Target}
use Rattle.lg_node.specs.Nodes.{LabelledNodes, is_word}
use Rattle.lg_list.specs.declared.instruction.Instruction.{Instruction}
use Rattle.lg_list.specs.Instructions.{target_of, IsInstruction}
use Rattle.lg_list.specs.Lines.{Entry, first_line, rendered, joined}
use Rattle.lg_list.specs.Lines.Entry.{Label, Node as NodeEntry, Code}
use Rattle.lg_list.specs.Listing.{bytes_between, Placed, AreAddressed}

-- an instruction of a target
abbrev pub IsOf : Target → Instruction → Type 0
IsOf t i = (target_of i ≡ t) × IsInstruction i

-- a line that the listing of code for a target may have
abbrev pub IsEntry : Target → Entry → Type 0
IsEntry t (Label word) = is_word word ≡ true
IsEntry t (NodeEntry line op) = line < 2 ^ 32
IsEntry t (Code i) = IsOf t i

-- a text is a listing of these bytes for this target
pub record Back (text : List ℕ) (t : Target) (bytes : List ℕ) : Type 0 where
  pub lines : List Entry
  pub form : All (IsEntry t) lines
  pub text_is : text ≡ first_line t (length bytes) ++ rendered code_base lines
  pub bytes_are : bytes ≡ joined lines
  pub small : length bytes ≤ most_code

-- bytes are whole instructions of a target
pub record IsWhole (t : Target) (bytes : List ℕ) : Type 0 where
  pub instructions : List Instruction
  pub form : All (IsOf t) instructions
  pub bytes_are : bytes ≡ joined (map Code instructions)

-- code that a listing describes: the places of the nodes and of the end, between them whole instructions, the addresses of the labels, whose words are words
-- of a text
pub record IsListable (t : Target) (code places : List ℕ) (l : LabelledNodes) (labels : List ℕ) : Type 0 where
  pub placed : Placed places (length l.nodes) (length code)
  pub whole : (i : ℕ) → i < length l.nodes → IsWhole t (bytes_between code places i)
  pub addressed : AreAddressed l.places places labels
  pub words : All (λ w. is_word w ≡ true) l.words
