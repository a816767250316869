-- The word that a refusal blames.
use Rattle.std.specs.Prelude.{ℕ, Bool, true, false, if◌then◌else◌, List, Option, None, Result, Ok, Err}
use Rattle.std.specs.Option.{option_map}
use Rattle.lg_base.specs.declared.refusal.Refusal.{Refusal}
use Rattle.lg_base.specs.declared.refusal.RefusalKind.{RefusalKind}
use Rattle.lg_base.specs.declared.refusal.RefusalKind.TheVariants.{BadToken, UnknownName, BadOperand, LabelTwice, LabelMissing, TargetOutside, BadCall}
use Rattle.lg_node.specs.declared.unit.Unit.{Unit as TextUnit}
use Rattle.lg_pre.specs.Expanded.{expanded}
use Rattle.lg_tst.specs.Units.{unit_of}
use Rattle.lg_explain.specs.Blames.{word_in}
use Rattle.lg_explain.specs.BadBytes.{bad_byte}
use Rattle.lg_explain.specs.Lines.{shown}
use Rattle.lg_explain.specs.Misfits.{first_misfit}
use Rattle.lg_explain.specs.Twice.{made_twice}
use Rattle.lg_explain.specs.Unknown.{first_unknown}

-- the kinds that are about a word of the text
abbrev pub names_word : RefusalKind → Bool
names_word BadToken = true
names_word UnknownName = true
names_word BadOperand = true
names_word LabelTwice = true
names_word LabelMissing = true
names_word TargetOutside = true
names_word BadCall = true
names_word kind = false

-- of a text that has no unit: of the byte that begins no token what it might be, the first token that begins no statement, of the first operand that its place
-- does not take what belongs there, or the word that is made a second time
abbrev pub token_in : RefusalKind → List ℕ → Option (List ℕ)
token_in BadToken text = bad_byte text
token_in UnknownName text = first_unknown text
token_in BadOperand text = first_misfit text
token_in LabelTwice text = made_twice text
token_in kind text = None

-- of a text by what it is read as: the word of the label that the nodes give, or a word of its tokens
abbrev pub blamed_as : RefusalKind → List ℕ → Result TextUnit Refusal → Option (List ℕ)
blamed_as kind text (Ok unit) = word_in kind unit.nodes
blamed_as kind text (Err fault) = token_in kind text

-- of an expansion
abbrev pub blamed_by : RefusalKind → Result (List ℕ) Refusal → Option (List ℕ)
blamed_by kind (Ok text) = blamed_as kind text (unit_of text)
blamed_by kind (Err fault) = None

-- the word that a refusal of what was read blames, by its kind
abbrev pub blamed_in : (read : List ℕ) → RefusalKind → Option (List ℕ)
blamed_in read kind = if names_word kind then blamed_by kind (expanded read) else None

-- as it is shown: as a line is
abbrev pub word_told : (read : List ℕ) → RefusalKind → Option (List ℕ)
word_told read kind = option_map shown (blamed_in read kind)
