-- The causes of answers: an answer comes only where its row says so.
use Rattle.std.specs.Prelude.{◌≡◌, ◌⊎◌, ℕ, ◌+◌, ◌*◌, ◌/◌, ◌<◌, ◌≤◌, true, List, length, Option, Some, None}
use Rattle.lg_asm.specs.Assembled.{Assembled}
use Rattle.lg_base.specs.Runs.{Bad}
use Rattle.lg_base.specs.declared.fault.FaultKind.{FaultKind}
use Rattle.lg_base.specs.declared.refusal.Refusal.{Refusal}
use Rattle.lg_command.specs.Commands.{AreNoCommand, Command, IsCommand}
use Rattle.lg_command.specs.Plans.{action_of, source_of}
use Rattle.lg_command.specs.declared.plan.Action.{Action}
use Rattle.lg_command.specs.declared.plan.Action.TheVariants as action
use Rattle.lg_io.specs.Counts.{Rose}
use Rattle.lg_io.specs.NamedTexts.{IsHeld, NamedTexts}
use Rattle.lg_meaning.specs.Means as means
use Rattle.lg_meaning.specs.Texts.{line_at}
use Rattle.lg_node.specs.declared.unit.Unit.{Unit as TextUnit}
use Rattle.lg_io.specs.SinkChanges.{SinkChange, Took}
use Rattle.lg_run.specs.Changes.{TextsChange}
use Rattle.lg_run.specs.Refused.{ArgumentsFit, IsRefusedCall}
use Rattle.lg_run.specs.Runs.{HasMeant, HasRun}
use Rattle.lg_run.specs.Says.{IsCodeOf, IsStill, IsUntouched, ReadsFile, WroteBack, code_meaning, code_run, listing_of}
use Rattle.lg_run.specs.declared.answer.Answer.TheVariants.{Listed, Undefined, Refused, Usage, ReadFault, WriteFault, StepsOut, Fault, OutOfMemory}
use Rattle.lg_run.specs.declared.answer.Done.{Done}

-- the words ask for a command, there is code of its text's unit, and this holds of them
pub record HasCode (words : List (List ℕ)) (held : Option NamedTexts) (code : Option Assembled) (holds : Command → Assembled → TextUnit → Type 0) : Type 0 where
  pub command : Command
  pub asked : IsCommand words command
  pub ran : Assembled
  pub is : code ≡ Some ran
  pub made : IsCodeOf command held ran
  pub here : holds command ran made.unit

-- the words ask for a listing to be read back, and out took the bytes that the text is a listing of
pub record HasBack (words : List (List ℕ)) (held : Option NamedTexts) (code : Option Assembled) (steps : ℕ) (out : SinkChange) : Type 0 where
  pub command : Command
  pub asked : IsCommand words command
  pub wrote : WroteBack command held code steps out Listed

-- the meaning becomes undefined within this many steps
abbrev pub IsUndefinedWithin : ℕ → (ℕ → means.Run) → Type 0
IsUndefinedWithin most meaning = (k : ℕ) × (k ≤ most) × ((meaning k).status ≡ Bad)

-- where the run of code goes on after all its steps: the meaning of n nodes has not ended within a sixty-fourth of them, unless it became undefined
abbrev pub Lasts : (nodes steps : ℕ) → (ℕ → means.Run) → Type 0
Lasts nodes steps meaning = ((k : ℕ) → k ≤ steps / 64 → HasMeant meaning k) ⊎ IsUndefinedWithin ((steps + 1) * (nodes + 1)) meaning

-- the steps ran out
abbrev pub StepsOutCause : Action → Command → Assembled → TextUnit → Type 0
StepsOutCause action.Run c code unit = HasRun (code_run c code unit) c.steps × Lasts (length unit.nodes.nodes) c.steps (code_meaning c code unit)
StepsOutCause action.List c code unit = ⊥
StepsOutCause action.Mean c code unit = HasMeant (code_meaning c code unit) c.steps
StepsOutCause action.ReadBack c code unit = ⊥

-- the run of code faulted after this many steps
abbrev pub FaultCause : (steps : ℕ) → Command → Assembled → TextUnit → Type 0
FaultCause steps c code unit =
    (action_of c.mode ≡ action.Run) × IsUndefinedWithin ((steps + 2) * (length unit.nodes.nodes + 1)) (code_meaning c code unit)

-- the step of the meaning after this many is the first that is undefined, at this line
abbrev pub UndefinedCause : (steps line : ℕ) → Command → Assembled → TextUnit → Type 0
UndefinedCause steps line c code unit =
    (action_of c.mode ≡ action.Mean) × (steps < c.steps) × HasMeant (code_meaning c code unit) steps × ((code_meaning c code unit (steps + 1)).status ≡ Bad)
    × (line ≡ line_at unit.nodes (code_meaning c code unit steps).state)

pub record Causes (words : List (List ℕ)) (texts : TextsChange) (out err : SinkChange) (done : Done) : Type 0 where
  -- Usage comes only for words that are no command
  pub usage : done.answer ≡ Usage → AreNoCommand words
  -- and for such words comes only it, out of memory, or a write fault of a line
  pub no_command : AreNoCommand words → (done.code ≡ None)
      × ((done.answer ≡ Usage) ⊎ ((done.answer ≡ OutOfMemory) ⊎ ((done.answer ≡ WriteFault) × Rose err.faults err.faults')))
  pub refused : (refusal : Refusal) → done.answer ≡ Refused refusal → (c : Command) × IsCommand words c × IsRefusedCall c texts.held refusal
  -- a fault of the outside is reported only where a count rose, and each that rose is reported; a file is read only where the arguments fit
  pub read_fault : done.answer ≡ ReadFault → Rose texts.faults texts.faults' × ((c : Command) × IsCommand words c × ReadsFile (source_of c.mode) × ArgumentsFit c)
  pub write_fault : done.answer ≡ WriteFault → Rose out.faults out.faults' ⊎ Rose err.faults err.faults'
  pub read_told : texts.faults < texts.faults' → (done.answer ≡ ReadFault) ⊎ ((done.answer ≡ WriteFault) × Rose err.faults err.faults')
  -- and none is brought about: of a sure source that holds the file that the words ask for no call failed
  pub sure_reads : texts.sure ≡ true → ((c : Command) → IsCommand words c → IsHeld texts.held c.file) → texts.faults' ≡ texts.faults
  pub out_told : out.faults < out.faults' → done.answer ≡ WriteFault
  pub err_told : err.faults < err.faults' → done.answer ≡ WriteFault
  -- a listing is reported only where it is asked for, and all of it was written, or where the text is one, and all its bytes were written
  pub listed : done.answer ≡ Listed
      → HasCode words texts.held done.code (λ c code unit. (action_of c.mode ≡ action.List) × Took out (listing_of code))
      ⊎ HasBack words texts.held done.code done.steps out
  -- the rows on runs
  pub steps_out : done.answer ≡ StepsOut → HasCode words texts.held done.code (λ c code unit. StepsOutCause (action_of c.mode) c code unit)
  pub fault : (kind : FaultKind) (pc : ℕ) → done.answer ≡ Fault kind pc → HasCode words texts.held done.code (FaultCause done.steps)
  pub undefined : (line : ℕ) → done.answer ≡ Undefined line → HasCode words texts.held done.code (UndefinedCause done.steps line)
  -- what leaves out as it was
  pub usage_still : done.answer ≡ Usage → IsUntouched done.code done.steps out
  pub refused_still : (refusal : Refusal) → done.answer ≡ Refused refusal → IsUntouched done.code done.steps out
  pub read_still : done.answer ≡ ReadFault → IsUntouched done.code done.steps out
  pub memory_still : done.answer ≡ OutOfMemory → IsStill done.steps out
