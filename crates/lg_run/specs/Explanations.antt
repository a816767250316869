-- What an explanation is made from.
use Rattle.std.specs.Prelude.{◌≡◌, ℕ, Bool, true, false, ◌&&◌, if◌then◌else◌, List, [], Option, Some, None, ⊤}
use Rattle.std.specs.Global.{Vec}
use Rattle.lg_asm.specs.Assembled.{Assembled}
use Rattle.lg_carry.specs.Agreement.{shape_of_unit}
use Rattle.lg_command.specs.Commands.{Command}
use Rattle.lg_command.specs.Plans.{report_of}
use Rattle.lg_command.specs.declared.plan.Report.{Report}
use Rattle.lg_explain.specs.Stops.{IsStuck}
use Rattle.lg_explain.specs.Words.{word_told}
use Rattle.lg_explain.specs.declared.stop.StuckAt.{StuckAt}
use Rattle.lg_io.specs.NamedTexts.{NamedTexts}
use Rattle.lg_mean.specs.declared.run.RunEnd.{RunEnd}
use Rattle.lg_mean.specs.declared.run.RunEnd.TheVariants as runs_end
use Rattle.lg_meaning.specs.States.{State}
use Rattle.lg_meaning.specs.Steps as steps
use Rattle.lg_meaning.specs.Texts.{step}
use Rattle.lg_node.specs.Nodes.{LabelledNodes}
use Rattle.lg_node.specs.Shapes.{TextShape}
use Rattle.lg_node.specs.declared.unit.Unit.{Unit as TextUnit}
use Rattle.lg_run.specs.Explained.{ExplainedIn, answer_explained, explains, is_explain}
use Rattle.lg_run.specs.Refused.{IsTextUnder}
use Rattle.lg_run.specs.Says.{IsCodeOf, code_meaning}
use Rattle.lg_run.specs.declared.answer.Answer.{Answer}
use Rattle.lg_run.specs.declared.answer.Answer.TheVariants.{Ended, Listed, Undefined, Refused, Usage, ReadFault, WriteFault, StepsOut, Fault, OutOfMemory}
use Rattle.lg_run.specs.declared.profile.Worked.{Worked}

abbrev pub is_undefined : Answer → Bool
is_undefined (Ended status) = false
is_undefined Listed = false
is_undefined (Undefined line) = true
is_undefined (Refused refusal) = false
is_undefined Usage = false
is_undefined ReadFault = false
is_undefined WriteFault = false
is_undefined StepsOut = false
is_undefined (Fault kind pc) = false
is_undefined OutOfMemory = false

-- why a step is undefined is reported with that answer, where the mode asks for an explanation
abbrev pub tells_stuck : Report → Answer → Bool
tells_stuck r answer = is_explain r && is_undefined answer

-- a run of the machine came to a step that is undefined
abbrev pub IsStepUndefined : RunEnd → LabelledNodes → TextShape → List ℕ → State → Type 0
IsStepUndefined (runs_end.Ended status) l shape addresses s = ⊤
IsStepUndefined (runs_end.Undefined line) l shape addresses s = step l shape addresses s ≡ steps.Undefined
IsStepUndefined runs_end.StepsOut l shape addresses s = ⊤
IsStepUndefined runs_end.WriteFault l shape addresses s = ⊤

-- a step from a state is undefined, and that is reported, or nothing is reported
abbrev pub StuckWhere : Bool → LabelledNodes → TextShape → List ℕ → State → Option StuckAt → Type 0
StuckWhere false l shape addresses s stuck = stuck ≡ None
StuckWhere true l shape addresses s stuck = (at : StuckAt) × (stuck ≡ Some at) × IsStuck l shape addresses s at

-- the same of the meaning of code, after this many steps
abbrev pub StuckFor : Bool → Command → Assembled → TextUnit → (steps : ℕ) → Option StuckAt → Type 0
StuckFor b c code unit steps stuck = StuckWhere b unit.nodes (shape_of_unit unit) code.labels (code_meaning c code unit steps).state stuck

pub record HasStuck (c : Command) (held : Option NamedTexts) (code : Option Assembled) (steps : ℕ) (stuck : Option StuckAt) : Type 0 where
  pub ran : Assembled
  pub is : code ≡ Some ran
  pub made : IsCodeOf c held ran
  pub at : StuckAt
  pub told : stuck ≡ Some at
  pub why : IsStuck made.unit.nodes (shape_of_unit made.unit) ran.labels (code_meaning c ran made.unit steps).state at

abbrev pub StuckIn : Bool → Command → Option NamedTexts → Option Assembled → (steps : ℕ) → Option StuckAt → Type 0
StuckIn false c held code steps stuck = stuck ≡ None
StuckIn true c held code steps stuck = HasStuck c held code steps stuck

abbrev pub is_refused : Answer → Bool
is_refused (Ended status) = false
is_refused Listed = false
is_refused (Undefined line) = false
is_refused (Refused refusal) = true
is_refused Usage = false
is_refused ReadFault = false
is_refused WriteFault = false
is_refused StepsOut = false
is_refused (Fault kind pc) = false
is_refused OutOfMemory = false

-- the word that an answer blames in what was read
abbrev pub word_of_answer : (read : List ℕ) → Answer → Option (List ℕ)
word_of_answer read (Ended status) = None
word_of_answer read Listed = None
word_of_answer read (Undefined line) = None
word_of_answer read (Refused refusal) = word_told read refusal.kind
word_of_answer read Usage = None
word_of_answer read ReadFault = None
word_of_answer read WriteFault = None
word_of_answer read StepsOut = None
word_of_answer read (Fault kind pc) = None
word_of_answer read OutOfMemory = None

abbrev pub word_explained : Report → (read : List ℕ) → Answer → Option (List ℕ)
word_explained r read answer = if is_explain r then word_of_answer read answer else None

-- the lines that explain an answer, where something was read
abbrev pub read_explained : (file : List ℕ) → Option (Vec ℕ) → (word : Option (List ℕ)) → Option StuckAt → Answer → List ℕ
read_explained file None word stuck answer = []
read_explained file (Some read) word stuck answer = answer_explained file read.items word stuck answer

-- and what was done
abbrev pub explained_of : Report → (file : List ℕ) → Worked → List ℕ
explained_of r file w = if is_explain r then read_explained file w.read w.word w.stuck w.done.answer else []

-- what is said of them: of what was done for a command, and with what is under the name of the file
abbrev pub WorkExplains : Command → Option NamedTexts → Worked → Type 0
WorkExplains c held w = ExplainedIn (explains (report_of c.mode) w.done.answer) c held w.done.code w.done.steps w.done.answer (explained_of (report_of c.mode) c.file w)

abbrev pub ReadExplains : Command → List ℕ → Worked → Type 0
ReadExplains c read w = (held : Option NamedTexts) → IsTextUnder held c.file read → WorkExplains c held w
