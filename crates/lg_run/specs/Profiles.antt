-- The profile of a run: how many steps belong to each line of the text.
use Rattle.std.specs.Prelude.{◌≡◌, ℕ, ◌<◌, Bool, true, false, ◌&&◌, List, [], Option, Some, None}
use Rattle.lg_asm.specs.Assembled.{Assembled}
use Rattle.lg_command.specs.Commands.{Command}
use Rattle.lg_command.specs.Plans.{report_of}
use Rattle.lg_command.specs.declared.plan.Report.{Report}
use Rattle.lg_command.specs.declared.plan.Report.TheVariants as report
use Rattle.lg_io.specs.NamedTexts.{NamedTexts}
use Rattle.lg_io.specs.SinkChanges.{SinkChange}
use Rattle.lg_node.specs.declared.unit.Unit.{Unit as TextUnit}
use Rattle.lg_prof.specs.Tables.{table, table_below}
use Rattle.lg_prof.specs.Tallies.{AreBelow}
use Rattle.lg_prof.specs.declared.tally.Counts.{Counts}
use Rattle.lg_prof.specs.Counted.{all_made, total}
use Rattle.lg_prof.specs.Counts.{count, has_meant}
use Rattle.lg_prof.specs.Spent.{code_line, spent}
use Rattle.lg_run.specs.Runs.{RunSays}
use Rattle.lg_run.specs.Says.{IsCodeOf, code_meaning, code_run}
use Rattle.lg_run.specs.declared.answer.Answer.{Answer}
use Rattle.lg_run.specs.declared.answer.Answer.TheVariants.{Ended, Listed, Undefined, Refused, Usage, ReadFault, WriteFault, StepsOut, Fault, OutOfMemory}

-- ---- the numbers of a line
-- how many of the first `--steps` steps of the meaning went or ended at a node of this line: the text's nodes run, dropped ones too
abbrev pub meant_at : Command → Assembled → TextUnit → (line : ℕ) → ℕ
meant_at c code unit line = count unit.nodes (code_meaning c code unit) line c.steps

-- and how many of the first n steps of the processor: those in the bytes of a final node of this line, and the host steps after them
abbrev pub spent_at : Command → Assembled → TextUnit → (steps line : ℕ) → ℕ
spent_at c code unit steps line = spent (code_line code.nodes.nodes code.places) (code_run c code unit) line steps

-- ---- the table
-- it has the lines one of whose numbers is not 0, rising: all lines of the text's nodes are below a number, and it has those below it
pub record IsProfileOf (c : Command) (code : Assembled) (unit : TextUnit) (steps : ℕ) (lines : List ℕ) : Type 0 where
  pub top : ℕ
  pub some : 0 < top
  pub below : AreBelow unit.nodes.nodes top
  pub is : lines ≡ table_below (meant_at c code unit) (spent_at c code unit steps) top

-- the answers that a run results in, but a write fault
abbrev pub is_run_end : Answer → Bool
is_run_end (Ended status) = true
is_run_end Listed = false
is_run_end (Undefined line) = false
is_run_end (Refused refusal) = false
is_run_end Usage = false
is_run_end ReadFault = false
is_run_end WriteFault = false
is_run_end StepsOut = true
is_run_end (Fault kind pc) = true
is_run_end OutOfMemory = false

abbrev pub is_profile : Report → Bool
is_profile report.Nothing = false
is_profile report.Profile = true
is_profile report.Explanation = false

-- a table is reported with these answers, where the mode asks for a profile
abbrev pub tells_table : Report → Answer → Bool
tells_table r answer = is_profile r && is_run_end answer

-- it is that of code and of the unit from which the code was made, where it is reported, and empty elsewhere
abbrev pub TableFor : Bool → Command → Assembled → TextUnit → (steps : ℕ) → List ℕ → Type 0
TableFor false c code unit steps lines = lines ≡ []
TableFor true c code unit steps lines = IsProfileOf c code unit steps lines

pub record HasProfile (c : Command) (held : Option NamedTexts) (code : Option Assembled) (steps : ℕ) (lines : List ℕ) : Type 0 where
  pub ran : Assembled
  pub is : code ≡ Some ran
  pub made : IsCodeOf c held ran
  pub profile : IsProfileOf c ran made.unit steps lines

abbrev pub TableIn : Bool → Command → Option NamedTexts → Option Assembled → (steps : ℕ) → List ℕ → Type 0
TableIn false c held code steps lines = lines ≡ []
TableIn true c held code steps lines = HasProfile c held code steps lines

abbrev pub TableSays : Option Command → Option NamedTexts → Option Assembled → (steps : ℕ) → Answer → List ℕ → Type 0
TableSays None held code steps answer lines = lines ≡ []
TableSays (Some c) held code steps answer lines = TableIn (tells_table (report_of c.mode) answer) c held code steps lines

-- the lines that report numbers, where there are some
abbrev pub table_of : Option (List Counts) → List ℕ
table_of None = []
table_of (Some tally) = table tally

-- ---- a law: the numbers of the meaning add up to all its steps that went or ended, and those of the code to the steps of the run
abbrev pub ProfilesAddUp : Type 0
ProfilesAddUp =
    (c : Command) (held : Option NamedTexts) (code : Assembled) (made : IsCodeOf c held code) (top : ℕ) → 0 < top → AreBelow made.unit.nodes.nodes top
    → (total (meant_at c code made.unit) top ≡ all_made (has_meant (code_meaning c code made.unit)) c.steps)
    × ((steps : ℕ) (out : SinkChange) (answer : Answer) → RunSays (code_run c code made.unit) c.steps steps out answer
    → total (spent_at c code made.unit steps) top ≡ steps)
