-- What the top call says.
use Rattle.std.specs.Prelude.{◌≡◌, ◌⊎◌, ⊤, ℕ, ◌≤◌, List, [], ◌++◌, length, Option, Some, None, IfSome, codes}
use Rattle.lg_base.specs.Arguments.{args_of}
use Rattle.lg_asm.specs.Assembled.{Assembled}
use Rattle.lg_carry.specs.Agreement.{Agrees, shape_of_unit}
use Rattle.lg_command.specs.Commands.{Command, IsCommand, AreNoCommand}
use Rattle.lg_command.specs.Plans.{action_of, source_of}
use Rattle.lg_command.specs.declared.plan.Action.{Action}
use Rattle.lg_command.specs.declared.plan.Action.TheVariants as action
use Rattle.lg_command.specs.declared.plan.Source.{Source}
use Rattle.lg_command.specs.declared.plan.Source.TheVariants as source
use Rattle.lg_cpu.specs.Laws.{AreBytes}
use Rattle.lg_cpu.specs.States.{CpuState}
use Rattle.lg_cpu.specs.Steps.{Run}
use Rattle.lg_cpu.specs.Targets.{run_at}
use Rattle.lg_dead.specs.Rewritten.{AreFinal}
use Rattle.lg_io.specs.Counts.{Rose}
use Rattle.lg_io.specs.NamedTexts.{NamedTexts}
use Rattle.lg_base.specs.declared.target.Target.{Target}
use Rattle.lg_list.specs.Back.{Back}
use Rattle.lg_list.specs.Listing.{listing}
use Rattle.lg_meaning.specs.Means as means
use Rattle.lg_node.specs.Checks.{IsAccepted}
use Rattle.lg_node.specs.Labels.{taken_labels}
use Rattle.lg_node.specs.declared.unit.Unit.{Unit as TextUnit}
use Rattle.lg_io.specs.SinkChanges.{SinkChange, Took, TookPart}
use Rattle.lg_run.specs.Changes.{IsReadSurely, TextsChange, TellsReads, TellsWrites}
use Rattle.lg_run.specs.Lines.{line_of, stats_of}
use Rattle.lg_run.specs.Refused.{ArgumentsFit, IsRefusedCall, IsTextIn, IsTextUnder, IsUnitOf, most_text}
use Rattle.lg_run.specs.Runs.{RunSays, MeanSays}
use Rattle.lg_run.specs.declared.answer.Answer.{Answer}
use Rattle.lg_run.specs.declared.answer.Answer.TheVariants.{Ended, Listed, Undefined, Refused, Usage, ReadFault, WriteFault, StepsOut, Fault, OutOfMemory}

-- what registers hold at first, and after a call of a host function
abbrev pub trash_word : ℕ
trash_word = 0x5A5A5A5A5A5A5A5A

-- ---- what the mode asks for
-- a file is read
abbrev pub ReadsFile : Source → Type 0
ReadsFile source.File = ⊤
ReadsFile source.Generator = ⊥
ReadsFile source.Listing = ⊤

-- the words ask for no command that reads its file: where one is read in the mode, the arguments do not fit
abbrev pub AskForNoFile : List (List ℕ) → Type 0
AskForNoFile words = (c : Command) → IsCommand words c → ReadsFile (source_of c.mode) → ArgumentsFit c → ⊥

-- ---- code

-- the code is that of the command's text: the text has a unit, the unit is accepted, the code is made for the command's
-- target in a buffer of its size, of the unit's nodes, folded and without needless definitions, moves and jumps, with the unit's labels and taken labels;
-- it fits that size, and agrees with the unit's meaning over the addresses of its labels
pub record IsCodeOf (c : Command) (held : Option NamedTexts) (code : Assembled) : Type 0 where
  pub text : List ℕ
  pub given : IsTextIn (source_of c.mode) c held text
  pub unit : TextUnit
  pub reads : IsUnitOf text unit
  pub accepted : IsAccepted unit.nodes
  pub fits : ArgumentsFit c
  pub bytes : AreBytes (args_of c.arguments)
  pub target : code.target ≡ c.target
  pub size_is : code.size ≡ c.size
  pub taken : code.shape.taken ≡ taken_labels unit.nodes
  pub rewritten : AreFinal unit.nodes code.nodes code.shape code.origin
  pub size : length code.bytes ≤ c.size
  pub agrees : Agrees code.bytes code.labels unit c.target

abbrev pub CodeSays : Command → Option NamedTexts → Option Assembled → Type 0
CodeSays c held code = IfSome code (IsCodeOf c held)

-- the run of this code of a unit
abbrev pub code_run : Command → Assembled → TextUnit → ℕ → Run CpuState
code_run c code unit n = run_at c.target code.bytes unit.image (args_of c.arguments) trash_word n

-- the unit's meaning over the addresses of the code's labels
abbrev pub code_meaning : Command → Assembled → TextUnit → ℕ → means.Run
code_meaning c code unit k = means.mean unit.nodes (shape_of_unit unit) code.labels unit.image (args_of c.arguments) k

-- the listing of code
unfoldable pub listing_of : Assembled → List ℕ
listing_of code = listing code.target code.bytes code.places code.nodes

-- what an answer says of a listing: nothing ran, and out took it, or a part of it
abbrev pub ListSays : Assembled → (steps : ℕ) → SinkChange → Answer → Type 0
ListSays code steps out Listed = (steps ≡ 0) × Took out (listing_of code)
ListSays code steps out WriteFault = (steps ≡ 0) × TookPart out (listing_of code)
ListSays code steps out answer = ⊥

-- what an answer says of what is done with code: it runs, it is listed, or its meaning runs
abbrev pub ActionSays : Action → Command → Assembled → TextUnit → (steps : ℕ) → SinkChange → Answer → Type 0
ActionSays action.Run c code unit steps out answer = RunSays (code_run c code unit) c.steps steps out answer
ActionSays action.List c code unit steps out answer = ListSays code steps out answer
ActionSays action.Mean c code unit steps out answer = MeanSays unit.nodes (code_meaning c code unit) c.steps steps out answer
ActionSays action.ReadBack c code unit steps out answer = ⊥

-- there is code, and it, or its meaning, ran so, or was listed so
pub record Ran (c : Command) (held : Option NamedTexts) (code : Option Assembled) (steps : ℕ) (out : SinkChange) (answer : Answer) : Type 0 where
  pub ran : Assembled
  pub is : code ≡ Some ran
  pub made : IsCodeOf c held ran
  pub says : ActionSays (action_of c.mode) c ran made.unit steps out answer

-- ---- listings that are read back

-- what is under the name of the file is a listing of these bytes
pub record IsListingUnder (c : Command) (held : Option NamedTexts) (bytes : List ℕ) : Type 0 where
  pub text : List ℕ
  pub given : IsTextUnder held c.file text
  pub short : length text ≤ most_text
  pub target : Target
  pub reads : Back text target bytes

-- what an answer says of bytes that were to be written: out took them, or a part of them
abbrev pub BytesSay : List ℕ → SinkChange → Answer → Type 0
BytesSay bytes out Listed = Took out bytes
BytesSay bytes out WriteFault = TookPart out bytes
BytesSay bytes out answer = ⊥

-- in a mode that reads a listing nothing was assembled and nothing ran; the text is a listing, and its bytes were written so
pub record WroteBack (c : Command) (held : Option NamedTexts) (code : Option Assembled) (steps : ℕ) (out : SinkChange) (answer : Answer) : Type 0 where
  pub asked : source_of c.mode ≡ source.Listing
  pub fits : ArgumentsFit c
  pub none : code ≡ None
  pub steps_none : steps ≡ 0
  pub bytes : List ℕ
  pub listing : IsListingUnder c held bytes
  pub wrote : BytesSay bytes out answer

-- ---- answers

-- nothing ran, and out is as it was
pub record IsStill (steps : ℕ) (out : SinkChange) : Type 0 where
  pub steps_none : steps ≡ 0
  pub out_same : out.taken' ≡ out.taken

-- and nothing was assembled
pub record IsUntouched (code : Option Assembled) (steps : ℕ) (out : SinkChange) : Type 0 where
  pub none : code ≡ None
  pub still : IsStill steps out

-- what each answer says of the text, the code, the steps and out
abbrev pub AnswerSays : Command → Option NamedTexts → Option Assembled → (steps : ℕ) → SinkChange → Answer → Type 0
AnswerSays c held code steps out (Ended status) = Ran c held code steps out (Ended status)
AnswerSays c held code steps out StepsOut = Ran c held code steps out StepsOut
AnswerSays c held code steps out (Fault kind pc) = Ran c held code steps out (Fault kind pc)
AnswerSays c held code steps out (Undefined line) = Ran c held code steps out (Undefined line)
AnswerSays c held code steps out WriteFault = Ran c held code steps out WriteFault ⊎ WroteBack c held code steps out WriteFault
AnswerSays c held code steps out (Refused refusal) = IsUntouched code steps out × IsRefusedCall c held refusal
AnswerSays c held code steps out ReadFault = IsUntouched code steps out × ReadsFile (source_of c.mode) × ArgumentsFit c
AnswerSays c held code steps out OutOfMemory = IsStill steps out × CodeSays c held code
AnswerSays c held code steps out Usage = ⊥
AnswerSays c held code steps out Listed = Ran c held code steps out Listed ⊎ WroteBack c held code steps out Listed

-- a fault of texts and of out came exactly where that is the answer
pub record TellsFaults (texts : TextsChange) (out : SinkChange) (answer : Answer) : Type 0 where
  pub reads : TellsReads answer texts
  pub writes : TellsWrites answer out

-- what is said where the words ask for a command
pub record WorkSays (c : Command) (texts : TextsChange) (out : SinkChange) (code : Option Assembled) (steps : ℕ) (answer : Answer) : Type 0 where
  pub says : AnswerSays c texts.held code steps out answer
  pub faults : TellsFaults texts out answer
  pub sure : IsReadSurely texts c.file

-- words that ask for none are no command, or memory ran out
abbrev pub NoCommandSays : List (List ℕ) → Answer → Type 0
NoCommandSays words Usage = AreNoCommand words
NoCommandSays words OutOfMemory = Unit {0}
NoCommandSays words answer = ⊥

abbrev pub AskedSays : List (List ℕ) → Option Command → TextsChange → SinkChange → Option Assembled → (steps : ℕ) → Answer → Type 0
AskedSays words None texts out code steps answer = IsUntouched code steps out × NoCommandSays words answer × TellsFaults texts out answer
AskedSays words (Some c) texts out code steps answer = IsCommand words c × WorkSays c texts out code steps answer

-- the name of the text in the line of a refusal
abbrev pub name_in : Source → Command → List ℕ
name_in source.File c = c.file
name_in source.Generator c = codes "gen"
name_in source.Listing c = c.file

-- the lines on err: the statistics, and the line of the answer
abbrev pub lines_of : Option Command → Option Assembled → (steps : ℕ) → Answer → List ℕ
lines_of None code steps answer = line_of [] steps answer
lines_of (Some c) code steps answer = stats_of c.stats code steps answer ++ line_of (name_in (source_of c.mode) c) steps answer

-- the lines of the inner answer are on err and that is the answer, or a part of them is there and the answer is a write fault
abbrev pub ReportSays : (lines : List ℕ) → SinkChange → (inner outer : Answer) → Type 0
ReportSays lines err inner outer =
    ((outer ≡ inner) × (err.faults' ≡ err.faults) × Took err lines) ⊎ ((outer ≡ WriteFault) × Rose err.faults err.faults' × TookPart err lines)
