-- What the parts of the call say.
use Rattle.std.specs.Prelude.{◌≡◌, List, ℕ, Option}
use Rattle.lg_asm.specs.Assembled.{Assembled}
use Rattle.lg_command.specs.Commands.{Command}
use Rattle.lg_command.specs.Plans.{source_of}
use Rattle.lg_command.specs.declared.plan.Action.{Action}
use Rattle.lg_io.specs.NamedTexts.{NamedTexts}
use Rattle.lg_node.specs.declared.unit.Unit.{Unit as TextUnit}
use Rattle.lg_io.specs.SinkChanges.{SinkChange}
use Rattle.lg_run.specs.Changes.{TextsChange, TellsReads}
use Rattle.lg_run.specs.Refused.{IsTextIn, IsTextUnder, IsUnitOf}
use Rattle.lg_run.specs.Says.{ActionSays, AnswerSays, IsStill, WorkSays}
use Rattle.lg_run.specs.declared.answer.Answer.{Answer}
use Rattle.lg_run.specs.declared.answer.Answer.TheVariants.{OutOfMemory}
use Rattle.lg_run.specs.declared.answer.Done.{Done}
use Rattle.lg_run.specs.declared.run.Ran.{Ran}

-- memory ran out before the first step, or code, or its meaning, ran so
abbrev pub StartSays : Action → Command → Assembled → TextUnit → SinkChange → (steps : ℕ) → Answer → Type 0
StartSays a c code unit out steps OutOfMemory = IsStill steps out
StartSays a c code unit out steps answer = ActionSays a c code unit steps out answer

abbrev pub RanSays : Action → Command → Assembled → TextUnit → SinkChange → Ran → Type 0
RanSays a c code unit out ran = StartSays a c code unit out ran.steps ran.answer

abbrev pub DoneSays : Command → Option NamedTexts → SinkChange → Done → Type 0
DoneSays c held out done = AnswerSays c held done.code done.steps out done.answer

abbrev pub WorkDone : Command → TextsChange → SinkChange → Done → Type 0
WorkDone c texts out done = WorkSays c texts out done.code done.steps done.answer

-- this was done with the command's text
abbrev pub TextDone : Command → List ℕ → SinkChange → Done → Type 0
TextDone c text out done = (held : Option NamedTexts) → IsTextIn (source_of c.mode) c held text → DoneSays c held out done

-- and with any that has this unit
abbrev pub UnitDone : Command → TextUnit → SinkChange → Done → Type 0
UnitDone c unit out done = (text : List ℕ) → IsUnitOf text unit → TextDone c text out done

-- this was done with what is under the name of the file
abbrev pub ReadDone : Command → List ℕ → SinkChange → Done → Type 0
ReadDone c read out done = (held : Option NamedTexts) → IsTextUnder held c.file read → DoneSays c held out done

-- no fault of texts is reported
abbrev pub TellsNoRead : Answer → Type 0
TellsNoRead answer = (t : TextsChange) → t.faults' ≡ t.faults → TellsReads answer t
