-- What a profile begins with, and its outcome.
use Rattle.std.specs.Prelude.{◌≡◌, ℕ, ◌<◌, Bool, true, false, List, Option, Some, None, length}
use Rattle.lg_asm.specs.Assembled.{Assembled}
use Rattle.lg_command.specs.Commands.{Command}
use Rattle.lg_command.specs.Plans.{report_of, source_of}
use Rattle.lg_cpu.specs.Machines.{shown, shown_at_start}
use Rattle.lg_cpu.specs.Series.{run_from}
use Rattle.lg_io.specs.NamedTexts.{NamedTexts}
use Rattle.lg_mean.specs.Machines.{state_of}
use Rattle.lg_mean.specs.Programs.{IsTableOf}
use Rattle.lg_meaning.specs.Fits.{Fits}
use Rattle.lg_meaning.specs.Means.{mean_from}
use Rattle.lg_meaning.specs.Starts.{start_state}
use Rattle.lg_node.specs.Shapes.{TextShape}
use Rattle.lg_node.specs.declared.unit.Unit.{Unit as TextUnit}
use Rattle.lg_prof.specs.Places.{AreLines}
use Rattle.lg_prof.specs.Tallies.{AreBelow, ran_at, spent_at}
use Rattle.lg_prof.specs.declared.tally.Counts.{Counts}
use Rattle.lg_prof.specs.Counts.{count}
use Rattle.lg_cpu.specs.LineCounts.{table_line}
use Rattle.lg_prof.specs.Spent.{spent}
use Rattle.lg_run.specs.Explanations.{StuckFor, StuckIn, tells_stuck}
use Rattle.lg_run.specs.Profiles.{TableFor, TableIn, table_of, tells_table}
use Rattle.lg_run.specs.Refused.{IsTextIn, IsTextUnder, IsUnitOf}
use Rattle.lg_run.specs.Says.{trash_word}
use Rattle.lg_run.specs.declared.profile.Profiled.{Profiled}
use Rattle.lg_run.specs.declared.profile.Start.{Start}
use Rattle.lg_run.specs.declared.profile.Worked.{Worked}

-- the portable machine is before its first step, and the numbers of the text's lines are 0
pub record StandsAtStart (unit : TextUnit) (shape : TextShape) (s : Start) : Type 0 where
  pub below : AreBelow unit.nodes.nodes (length s.tally)
  pub some : 0 < length s.tally
  pub ran : (line : ℕ) → ran_at s.tally line ≡ 0
  pub spent : (line : ℕ) → spent_at s.tally line ≡ 0
  pub fits : Fits unit.nodes shape (state_of s.machine.machine)
  pub made : IsTableOf unit.nodes shape s.machine.labels
  pub running : s.machine.over ≡ None
  pub steps : s.machine.steps ≡ 0

-- both machines are at the start of code of a text, and the table has the lines of the code
pub record IsStartOf (unit : TextUnit) (shape : TextShape) (code : Assembled) (args : List ℕ) (s : Start) : Type 0 where
  pub stands : StandsAtStart unit shape s
  pub cpu : shown s.cpu ≡ shown_at_start code.target code.bytes unit.image args trash_word
  pub lines : AreLines code.nodes.nodes code.places s.lines
  pub state : state_of s.machine.machine ≡ start_state unit.image args
  pub addresses : s.machine.labels.addresses ≡ code.labels

-- the numbers of the lines after such a run, and the meaning's from its start; none where the run did not end
pub record AreTallied (unit : TextUnit) (shape : TextShape) (s : Start) (most steps : ℕ) (tally : List Counts) : Type 0 where
  pub kept : length tally ≡ length s.tally
  pub ran : (line : ℕ) → ran_at tally line ≡ count unit.nodes (mean_from unit.nodes shape s.machine.labels.addresses (state_of s.machine.machine)) line most
  pub spent : (line : ℕ) → spent_at tally line ≡ spent (table_line s.lines) (run_from (shown s.cpu)) line steps

abbrev pub TalliesFor : Bool → TextUnit → TextShape → Start → (most steps : ℕ) → Option (List Counts) → Type 0
TalliesFor false unit shape s most steps tally = tally ≡ None
TalliesFor true unit shape s most steps tally = (t : List Counts) × (tally ≡ Some t) × AreTallied unit shape s most steps t

-- the table, and where a step of the meaning is undefined, that are reported of code that ran
abbrev pub RanTells : Command → Assembled → TextUnit → Profiled → Type 0
RanTells c code unit p =
    TableFor (tells_table (report_of c.mode) p.ran.answer) c code unit p.ran.steps (table_of p.tally)
    × StuckFor (tells_stuck (report_of c.mode) p.ran.answer) c code unit p.ran.steps p.stuck

-- and of what was done with a command's text, with any text that has a unit, and with what is under the name of the file
abbrev pub WorkTells : Command → Option NamedTexts → Worked → Type 0
WorkTells c held w =
    TableIn (tells_table (report_of c.mode) w.done.answer) c held w.done.code w.done.steps (table_of w.tally)
    × StuckIn (tells_stuck (report_of c.mode) w.done.answer) c held w.done.code w.done.steps w.stuck

abbrev pub TextTells : Command → List ℕ → Worked → Type 0
TextTells c text w = (held : Option NamedTexts) → IsTextIn (source_of c.mode) c held text → WorkTells c held w

abbrev pub UnitTells : Command → TextUnit → Worked → Type 0
UnitTells c unit w = (text : List ℕ) → IsUnitOf text unit → TextTells c text w

abbrev pub ReadTold : Command → List ℕ → Worked → Type 0
ReadTold c read w = (held : Option NamedTexts) → IsTextUnder held c.file read → WorkTells c held w
