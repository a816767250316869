-- What explains an answer: the lines that are after it where the mode asks for an explanation.
use Rattle.std.specs.Prelude.{◌≡◌, ℕ, ◌+◌, Bool, true, false, ◌&&◌, if◌then◌else◌, List, [], Option, Some, None}
use Rattle.lg_asm.specs.Assembled.{Assembled}
use Rattle.lg_base.specs.Runs.{Bad}
use Rattle.lg_base.specs.declared.refusal.Refusal.{Refusal}
use Rattle.lg_base.specs.declared.refusal.RefusalKind.{RefusalKind}
use Rattle.lg_base.specs.declared.refusal.RefusalKind.TheVariants.{BadToken, UnknownName, FloatRefused, BadOperand, BadExpr, LabelTwice, LabelMissing, NotInFunction, FunctionOpen, TargetOutside, BadCall, TooManyArgs, NoSuchArg, UnknownHost, DataFull, TextTooLong, TooManyNodes, CodeFull, FrameTooBig, NoCode, ArgsTooLong, BadDirective, BadMacro, ExpandTooMuch, BadListing}
use Rattle.lg_carry.specs.Agreement.{shape_of_unit}
use Rattle.lg_command.specs.Commands.{Command}
use Rattle.lg_command.specs.Plans.{report_of}
use Rattle.lg_command.specs.declared.plan.Report.{Report}
use Rattle.lg_command.specs.declared.plan.Report.TheVariants as report
use Rattle.lg_explain.specs.Sentences.{refusal_lines, step_lines}
use Rattle.lg_explain.specs.Stops.{IsStuck}
use Rattle.lg_explain.specs.Words.{word_told}
use Rattle.lg_explain.specs.declared.stop.StuckAt.{StuckAt}
use Rattle.lg_io.specs.NamedTexts.{NamedTexts}
use Rattle.lg_meaning.specs.Texts.{line_at}
use Rattle.lg_node.specs.declared.unit.Unit.{Unit as TextUnit}
use Rattle.lg_run.specs.Refused.{Expands, IsRefusedRead, IsTextUnder}
use Rattle.lg_run.specs.Runs.{HasMeant}
use Rattle.lg_run.specs.Says.{IsCodeOf, code_meaning}
use Rattle.lg_run.specs.declared.answer.Answer.{Answer}
use Rattle.lg_run.specs.declared.answer.Answer.TheVariants.{Ended, Listed, Undefined, Refused, Usage, ReadFault, WriteFault, StepsOut, Fault, OutOfMemory}

-- ---- where there are such lines
abbrev pub is_explain : Report → Bool
is_explain report.Nothing = false
is_explain report.Profile = false
is_explain report.Explanation = true

-- the kinds of refusal that name a line
abbrev pub names_line : RefusalKind → Bool
names_line BadToken = true
names_line UnknownName = true
names_line FloatRefused = true
names_line BadOperand = true
names_line BadExpr = true
names_line LabelTwice = true
names_line LabelMissing = true
names_line NotInFunction = true
names_line FunctionOpen = true
names_line TargetOutside = true
names_line BadCall = true
names_line TooManyArgs = true
names_line NoSuchArg = true
names_line UnknownHost = true
names_line DataFull = true
names_line TextTooLong = false
names_line TooManyNodes = true
names_line CodeFull = false
names_line FrameTooBig = true
names_line NoCode = true
names_line ArgsTooLong = false
names_line BadDirective = true
names_line BadMacro = true
names_line ExpandTooMuch = true
names_line BadListing = true

-- the answers that are explained
abbrev pub is_explained : Answer → Bool
is_explained (Ended status) = false
is_explained Listed = false
is_explained (Undefined line) = true
is_explained (Refused refusal) = names_line refusal.kind
is_explained Usage = false
is_explained ReadFault = false
is_explained WriteFault = false
is_explained StepsOut = false
is_explained (Fault kind pc) = false
is_explained OutOfMemory = false

abbrev pub explains : Report → Answer → Bool
explains r answer = is_explain r && is_explained answer

-- ---- what they are
-- what was read is refused so, and the lines are those of its line, of the kind, and of the word that the kind blames in what was read
pub record RefusalIsExplained (c : Command) (read : List ℕ) (refusal : Refusal) (lines : List ℕ) : Type 0 where
  pub refused : IsRefusedRead c read refusal
  pub are : lines ≡ refusal_lines c.file read (word_told read refusal.kind) refusal

-- the first step of the meaning that is undefined is the one after this many, at this line
pub record IsUndefinedAt (c : Command) (code : Assembled) (unit : TextUnit) (steps line : ℕ) : Type 0 where
  pub goes : HasMeant (code_meaning c code unit) steps
  pub bad : (code_meaning c code unit (steps + 1)).status ≡ Bad
  pub at : line ≡ line_at unit.nodes (code_meaning c code unit steps).state

-- there is code of the text to which what was read expands, whose meaning is undefined there, and the lines are those of the line in what was read, of the
-- first row of the table of undefined steps that holds, and of the registers
pub record StepIsExplained (c : Command) (held : Option NamedTexts) (read : List ℕ) (code : Option Assembled) (steps line : ℕ) (lines : List ℕ) : Type 0 where
  pub ran : Assembled
  pub is : code ≡ Some ran
  pub made : IsCodeOf c held ran
  pub expands : Expands read made.text
  pub undefined : IsUndefinedAt c ran made.unit steps line
  pub stuck : StuckAt
  pub why : IsStuck made.unit.nodes (shape_of_unit made.unit) ran.labels (code_meaning c ran made.unit steps).state stuck
  pub are : lines ≡ step_lines c.file read line stuck

abbrev pub IsExplainedBy : Command → Option NamedTexts → (read : List ℕ) → Option Assembled → (steps : ℕ) → Answer → (lines : List ℕ) → Type 0
IsExplainedBy c held read code steps (Refused refusal) lines = RefusalIsExplained c read refusal lines
IsExplainedBy c held read code steps (Undefined line) lines = StepIsExplained c held read code steps line lines
IsExplainedBy c held read code steps answer lines = ⊥

-- the lines speak of what is under the name of the file
pub record IsExplained (c : Command) (held : Option NamedTexts) (code : Option Assembled) (steps : ℕ) (answer : Answer) (lines : List ℕ) : Type 0 where
  pub read : List ℕ
  pub under : IsTextUnder held c.file read
  pub by : IsExplainedBy c held read code steps answer lines

-- and there are none elsewhere
abbrev pub ExplainedIn : Bool → Command → Option NamedTexts → Option Assembled → (steps : ℕ) → Answer → (lines : List ℕ) → Type 0
ExplainedIn false c held code steps answer lines = lines ≡ []
ExplainedIn true c held code steps answer lines = IsExplained c held code steps answer lines

abbrev pub ExplainSays : Option Command → Option NamedTexts → Option Assembled → (steps : ℕ) → Answer → (lines : List ℕ) → Type 0
ExplainSays None held code steps answer lines = lines ≡ []
ExplainSays (Some c) held code steps answer lines = ExplainedIn (explains (report_of c.mode) answer) c held code steps answer lines

-- ---- what is written of what was read, of the word to blame, and of the step before which the machine stood
abbrev pub step_explained : (file read : List ℕ) (line : ℕ) → Option StuckAt → List ℕ
step_explained file read line None = []
step_explained file read line (Some stuck) = step_lines file read line stuck

abbrev pub refusal_explained : (file read : List ℕ) → Option (List ℕ) → Refusal → List ℕ
refusal_explained file read word refusal = if names_line refusal.kind then refusal_lines file read word refusal else []

abbrev pub answer_explained : (file read : List ℕ) → (word : Option (List ℕ)) → Option StuckAt → Answer → List ℕ
answer_explained file read word stuck (Ended status) = []
answer_explained file read word stuck Listed = []
answer_explained file read word stuck (Undefined line) = step_explained file read line stuck
answer_explained file read word stuck (Refused refusal) = refusal_explained file read word refusal
answer_explained file read word stuck Usage = []
answer_explained file read word stuck ReadFault = []
answer_explained file read word stuck WriteFault = []
answer_explained file read word stuck StepsOut = []
answer_explained file read word stuck (Fault kind pc) = []
answer_explained file read word stuck OutOfMemory = []
