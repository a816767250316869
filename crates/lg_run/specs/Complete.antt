-- Which answer comes, where no count rose and memory was had.
use Rattle.std.specs.Prelude.{◌≡◌, ◌≢◌, ◌<◌, ◌≤◌, ◌+◌, ◌*◌, ◌-◌, ◌^◌, ◌⊎◌, ℕ, true, List, length, Option, Some, IsSome}
use Rattle.lg_asm.specs.Assembled.{Assembled}
use Rattle.lg_base.specs.Arguments.{args_of, args_too_long, most_args}
use Rattle.lg_base.specs.Runs.{Status, Running, Ended, Bad}
use Rattle.lg_base.specs.declared.fault.FaultKind.{FaultKind}
use Rattle.lg_base.specs.declared.refusal.Refusal.{Refusal}
use Rattle.lg_command.specs.Commands.{Command, IsCommand, Takes}
use Rattle.lg_command.specs.Plans.{action_of, source_of}
use Rattle.lg_command.specs.declared.plan.Action.{Action}
use Rattle.lg_command.specs.declared.plan.Action.TheVariants as action
use Rattle.lg_command.specs.declared.plan.Source.TheVariants as source
use Rattle.lg_cpu.specs.Steps.{Progress, Goes, EndedWith, Faulted}
use Rattle.lg_io.specs.Counts.{Rose}
use Rattle.lg_io.specs.NamedTexts.{IsHeld, NamedTexts}
use Rattle.lg_node.specs.Checks.{IsAccepted}
use Rattle.lg_node.specs.declared.unit.Unit.{Unit as TextUnit}
use Rattle.lg_io.specs.SinkChanges.{SinkChange}
use Rattle.lg_run.specs.Changes.{TextsChange}
use Rattle.lg_run.specs.Refused.{ArgumentsFit, IsRefusedCall, IsTextIn, IsUnitOf, code_full}
use Rattle.lg_run.specs.Calls.{Says}
use Rattle.lg_run.specs.Says.{IsCodeOf, IsListingUnder, code_meaning, code_run}
use Rattle.lg_run.specs.declared.answer.Answer.{Answer}
use Rattle.lg_run.specs.declared.answer.Answer.TheVariants as answer
use Rattle.lg_run.specs.declared.answer.Done.{Done}

-- no count rose
pub record NoneRose (texts : TextsChange) (out err : SinkChange) : Type 0 where
  pub reads : ¬ Rose texts.faults texts.faults'
  pub writes : ¬ Rose out.faults out.faults'
  pub errs : ¬ Rose err.faults err.faults'

-- an answer, or out of memory
abbrev pub Comes : Answer → Answer → Type 0
Comes a wanted = (a ≡ wanted) ⊎ (a ≡ answer.OutOfMemory)

-- the answer says where the run of code, or the meaning, is after the most steps
abbrev pub AnswersRun : Progress → Answer → Type 0
AnswersRun Goes a = Comes a answer.StepsOut
AnswersRun (EndedWith status) a = Comes a (answer.Ended status)
AnswersRun (Faulted kind) a = (pc : ℕ) × Comes a (answer.Fault kind pc)

abbrev pub AnswersMeaning : Status → Answer → Type 0
AnswersMeaning Running a = Comes a answer.StepsOut
AnswersMeaning (Ended status) a = Comes a (answer.Ended status)
AnswersMeaning Bad a = (line : ℕ) × Comes a (answer.Undefined line)

-- where code runs: the answer says where the run is; where the meaning ends in time, that end is the answer; and there is no fault where the meaning is never
-- undefined
pub record IsCompleteRun (c : Command) (code : Assembled) (unit : TextUnit) (a : Answer) : Type 0 where
  pub stands : AnswersRun (code_run c code unit c.steps).progress a
  pub ends : (m status : ℕ) → 64 * m ≤ c.steps → (code_meaning c code unit m).status ≡ Ended status → Comes a (answer.Ended status)
  pub sound : ((k : ℕ) → (code_meaning c code unit k).status ≢ Bad) → (kind : FaultKind) (pc : ℕ) → a ≢ answer.Fault kind pc

-- where the meaning runs: the answer says where the meaning stands, and is its end exactly where it ends in time
pub record IsCompleteMean (c : Command) (code : Assembled) (unit : TextUnit) (a : Answer) : Type 0 where
  pub stands : AnswersMeaning (code_meaning c code unit c.steps).status a
  pub ends : (m status : ℕ) → m ≤ c.steps → (code_meaning c code unit m).status ≡ Ended status → Comes a (answer.Ended status)
  pub only : (status : ℕ) → a ≡ answer.Ended status → (m : ℕ) × (m ≤ c.steps) × ((code_meaning c code unit m).status ≡ Ended status)

abbrev pub IsCompleteIn : Action → Command → Assembled → TextUnit → Answer → Type 0
IsCompleteIn action.Run c code unit a = IsCompleteRun c code unit a
IsCompleteIn action.List c code unit a = Comes a answer.Listed
IsCompleteIn action.Mean c code unit a = IsCompleteMean c code unit a
IsCompleteIn action.ReadBack c code unit a = ⊥

-- the command's text has this unit, which is accepted and whose code has room
pub record IsFit (c : Command) (told : NamedTexts) (unit : TextUnit) : Type 0 where
  pub fits : ArgumentsFit c
  pub text : List ℕ
  pub given : IsTextIn (source_of c.mode) c (Some told) text
  pub reads : IsUnitOf text unit
  pub accepted : IsAccepted unit.nodes
  pub room : 256 * length unit.nodes.nodes + 256 ≤ c.size

-- what is answered to a command: arguments that are too long are refused, and code that is there runs as it means
pub record AnswersCode (c : Command) (held : Option NamedTexts) (code : Option Assembled) (a : Answer) : Type 0 where
  pub long : most_args < length (args_of c.arguments) → Comes a (answer.Refused args_too_long)
  pub runs : (ran : Assembled) → code ≡ Some ran → (made : IsCodeOf c held ran) × IsCompleteIn (action_of c.mode) c ran made.unit a

-- and where the texts are shown
pub record AnswersCommand (c : Command) (told : NamedTexts) (code : Option Assembled) (a : Answer) : Type 0 where
  -- where there is a cause of refusal, other than that code has no room, that is the answer
  pub refuses : (refusal : Refusal) → refusal ≢ code_full → IsRefusedCall c (Some told) refusal → Comes a (answer.Refused refusal)
  -- there is code of a fit unit, which runs as it means
  pub makes : (unit : TextUnit) → IsFit c told unit → IsSome code ⊎ (a ≡ answer.OutOfMemory)
  pub runs : (unit : TextUnit) (ran : Assembled) → IsFit c told unit → code ≡ Some ran → IsCompleteIn (action_of c.mode) c ran unit a
  -- a listing is read back
  pub reads : (bytes : List ℕ) → source_of c.mode ≡ source.Listing → ArgumentsFit c → IsListingUnder c (Some told) bytes → Comes a answer.Listed

-- what is answered to words that ask for a command: it, or out of memory
abbrev pub IsAnswered : List (List ℕ) → Option NamedTexts → Done → Type 0
IsAnswered words held done =
    (done.answer ≡ answer.OutOfMemory) ⊎ ((c : Command) × IsCommand words c × AnswersCode c held done.code done.answer
    × ((told : NamedTexts) → held ≡ Some told → AnswersCommand c told done.code done.answer))

abbrev pub Completeness : Type 0
Completeness =
    (words : List (List ℕ)) (texts : TextsChange) (out err : SinkChange) (done : Done)
    → Says words texts out err done → NoneRose texts out err → Takes words → IsAnswered words texts.held done

-- a source that can be trusted before the call: it is sure, its count has not reached its end, and it holds the file that the words ask for
pub record IsTrusted (words : List (List ℕ)) (texts : TextsChange) : Type 0 where
  pub sure : texts.sure ≡ true
  pub room : texts.faults < 2 ^ 64 - 1
  pub holds : (c : Command) → IsCommand words c → IsHeld texts.held c.file

-- the same where that is all that is known of the texts
abbrev pub SureCompleteness : Type 0
SureCompleteness =
    (words : List (List ℕ)) (texts : TextsChange) (out err : SinkChange) (done : Done)
    → Says words texts out err done → IsTrusted words texts → ¬ Rose out.faults out.faults' → ¬ Rose err.faults err.faults' → Takes words
    → IsAnswered words texts.held done
