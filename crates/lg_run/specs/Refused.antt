-- Why a call is refused, in the order of the reasons.
use Rattle.std.specs.Prelude.{◌≡◌, ◌⊎◌, ℕ, ◌+◌, ◌*◌, ◌<◌, ◌≤◌, List, length, Option, Some, None, Result, Ok, Err, ⊤}
use Rattle.lg_asm.specs.Assembled.{HasNoRoom}
use Rattle.lg_base.specs.Arguments.{args_of, most_args, args_too_long}
use Rattle.lg_base.specs.Refusals.{text_too_long}
use Rattle.lg_base.specs.declared.refusal.Refusal.{Refusal}
use Rattle.lg_base.specs.declared.refusal.RefusalKind.TheVariants.{BadListing, CodeFull}
use Rattle.lg_base.specs.declared.target.Target.{Target}
use Rattle.lg_command.specs.Commands.{Command}
use Rattle.lg_command.specs.Plans.{source_of}
use Rattle.lg_command.specs.declared.plan.Source.{Source}
use Rattle.lg_command.specs.declared.plan.Source.TheVariants as source
use Rattle.lg_io.specs.NamedTexts.{NamedTexts, text_under}
use Rattle.lg_back.specs.Refused.{IsBadListing}
use Rattle.lg_list.specs.Back.{Back}
use Rattle.lg_run.specs.Made.{made}
use Rattle.lg_node.specs.Nodes.{LabelledNodes}
use Rattle.lg_node.specs.Checks.{IsAccepted, IsRefused}
use Rattle.lg_node.specs.declared.unit.Unit.{Unit as TextUnit}
use Rattle.lg_pre.specs.Expanded.{expanded}
use Rattle.lg_tst.specs.Units.{unit_of}

-- the most bytes of a text
abbrev pub most_text : ℕ
most_text = 16777216

abbrev pub code_full : Refusal
code_full = record { kind = CodeFull; line = 0 }

-- code of n nodes may have more bytes than the size
abbrev pub MayBeFull : (nodes size : ℕ) → Type 0
MayBeFull nodes size = size < 256 * nodes + 256

-- nodes that are accepted are refused where they have no room in the size
abbrev pub IsRefusedCode : Target → LabelledNodes → (size : ℕ) → Refusal → Type 0
IsRefusedCode target l size refusal = (refusal ≡ code_full) × MayBeFull (length l.nodes) size × HasNoRoom target l size

abbrev pub IsRefusedAccepted : Command → LabelledNodes → Refusal → Type 0
IsRefusedAccepted c l refusal = IsRefusedCode c.target l c.size refusal

-- nodes are refused by the first fault of their checks, or else as code
abbrev pub IsRefusedUnit : Command → LabelledNodes → Refusal → Type 0
IsRefusedUnit c l refusal = IsRefused l refusal ⊎ (IsAccepted l × IsRefusedAccepted c l refusal)

-- the first fault of the reading is the reason, or else that of the unit
abbrev pub IsRefusedAs : Command → Result TextUnit Refusal → Refusal → Type 0
IsRefusedAs c (Err fault) refusal = refusal ≡ fault
IsRefusedAs c (Ok unit) refusal = IsRefusedUnit c unit.nodes refusal

-- a text is refused as its unit is
abbrev pub IsRefusedText : Command → List ℕ → Refusal → Type 0
IsRefusedText c text refusal = IsRefusedAs c (unit_of text) refusal

-- its expansion is refused, or the text that it expands to
abbrev pub IsRefusedExpansion : Command → Result (List ℕ) Refusal → Refusal → Type 0
IsRefusedExpansion c (Err fault) refusal = refusal ≡ fault
IsRefusedExpansion c (Ok text) refusal = IsRefusedText c text refusal

-- what is read is too long, or its expansion is refused
abbrev pub IsRefusedRead : Command → List ℕ → Refusal → Type 0
IsRefusedRead c read refusal =
    ((refusal ≡ text_too_long) × (most_text < length read)) ⊎ ((length read ≤ most_text) × IsRefusedExpansion c (expanded read) refusal)

-- what is read expands to a text
abbrev pub Expands : (read text : List ℕ) → Type 0
Expands read text = (length read ≤ most_text) × (expanded read ≡ Ok text)

-- a text is read as this unit
abbrev pub IsUnitOf : List ℕ → TextUnit → Type 0
IsUnitOf text unit = unit_of text ≡ Ok unit

-- what is read as a listing is too long, or is none, at this line
abbrev pub IsRefusedListing : List ℕ → Refusal → Type 0
IsRefusedListing read refusal =
    ((refusal ≡ text_too_long) × (most_text < length read))
    ⊎ ((length read ≤ most_text) × (refusal.kind ≡ BadListing) × IsBadListing read refusal.line)

-- the text is the one under this name; where the texts are not shown it may be any
abbrev pub IsTextUnder : Option NamedTexts → List ℕ → List ℕ → Type 0
IsTextUnder None name text = ⊤
IsTextUnder (Some texts) name text = text_under texts name ≡ Some text

-- the text is the expansion of what is under a name
abbrev pub IsExpandedUnder : Option NamedTexts → List ℕ → List ℕ → Type 0
IsExpandedUnder held name text = (read : List ℕ) × IsTextUnder held name read × Expands read text

-- the text that a command wants code of: the expansion of what is under the name of its file, or the generator's for its seed; none of a listing
abbrev pub IsTextIn : Source → Command → Option NamedTexts → List ℕ → Type 0
IsTextIn source.File c held text = IsExpandedUnder held c.file text
IsTextIn source.Generator c held text = text ≡ made c.seed
IsTextIn source.Listing c held text = ⊥

-- the words of the arguments fit the argument part
abbrev pub ArgumentsFit : Command → Type 0
ArgumentsFit c = length (args_of c.arguments) ≤ most_args

-- a refusal that speaks of what is under the name of the file
abbrev pub IsRefusedUnder : Command → Option NamedTexts → Refusal → Type 0
IsRefusedUnder c held refusal = (read : List ℕ) × IsTextUnder held c.file read × IsRefusedRead c read refusal

-- or of it as a listing
abbrev pub IsRefusedBack : Command → Option NamedTexts → Refusal → Type 0
IsRefusedBack c held refusal = (read : List ℕ) × IsTextUnder held c.file read × IsRefusedListing read refusal

-- a refusal of the command's text
abbrev pub IsRefusedIn : Source → Command → Option NamedTexts → Refusal → Type 0
IsRefusedIn source.File c held refusal = IsRefusedUnder c held refusal
IsRefusedIn source.Generator c held refusal = IsRefusedText c (made c.seed) refusal
IsRefusedIn source.Listing c held refusal = IsRefusedBack c held refusal

-- the arguments are too long, or they fit and the text is refused
abbrev pub IsRefusedCall : Command → Option NamedTexts → Refusal → Type 0
IsRefusedCall c held refusal =
    ((refusal ≡ args_too_long) × (most_args < length (args_of c.arguments))) ⊎ (ArgumentsFit c × IsRefusedIn (source_of c.mode) c held refusal)

-- what is read is refused for one reason, and not where the unit of its expansion is accepted and its code has room
abbrev pub TextsAreRefusedOnce : Type 0
TextsAreRefusedOnce =
    (c : Command) (read : List ℕ) (refusal : Refusal) → IsRefusedRead c read refusal
    → ((other : Refusal) → IsRefusedRead c read other → other ≡ refusal)
    × ((text : List ℕ) (unit : TextUnit) → Expands read text → IsUnitOf text unit → IsAccepted unit.nodes → 256 * length unit.nodes.nodes + 256 ≤ c.size → ⊥)

-- what is read as a listing is refused for one reason, and not where it is one
abbrev pub ListingsAreRefusedOnce : Type 0
ListingsAreRefusedOnce =
    (read : List ℕ) (refusal : Refusal) → IsRefusedListing read refusal
    → ((other : Refusal) → IsRefusedListing read other → other ≡ refusal)
    × ((target : Target) (bytes : List ℕ) → length read ≤ most_text → Back read target bytes → ⊥)
