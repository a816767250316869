-- What the parts of the call say.
use Rattle.std.proofs.Common.{◌≡◌, ℕ, inl, Option, Some, refl, sym, subst}
use Rattle.std.specs.Prelude.{Ok}
use Rattle.lg_asm.specs.Assembled.{Assembled}
use Rattle.lg_base.specs.declared.refusal.Refusal.{Refusal}
use Rattle.lg_base.specs.declared.refusal.Stop.{Stop}
use Rattle.lg_base.specs.declared.refusal.Stop.TheVariants as stop
use Rattle.lg_command.specs.Commands.{Command}
use Rattle.lg_command.specs.Plans.{action_of}
use Rattle.lg_command.specs.declared.plan.Action.{Action}
use Rattle.lg_command.specs.declared.plan.Action.TheVariants as action
use Rattle.lg_io.specs.NamedTexts.{NamedTexts}
use Rattle.lg_node.specs.Labels.{taken_labels}
use Rattle.lg_node.specs.Nodes.{LabelledNodes}
use Rattle.lg_node.specs.Shapes.{IsChecked, TextShape, shape_of}
use Rattle.lg_node.specs.declared.unit.Unit.{Unit as TextUnit}
use Rattle.lg_io.specs.SinkChanges.{SinkChange}
use Rattle.lg_run.specs.Changes.{TellsWrites}
use Rattle.lg_run.specs.Refused.{IsRefusedCall}
use Rattle.lg_run.specs.Runs.{MeanSays, RunSays}
use Rattle.lg_run.specs.Says.{ActionSays, AnswerSays, CodeSays, IsCodeOf, IsUntouched, code_meaning, code_run}
use Rattle.lg_run.specs.Work.{StartSays, TellsNoRead}
use Rattle.lg_run.specs.declared.answer.Answer.{Answer}
use Rattle.lg_run.specs.declared.answer.Answer.TheVariants.{Ended, Listed, Undefined, Refused, Usage, ReadFault, WriteFault, StepsOut, Fault, OutOfMemory}

-- the shape of a checked text
pub shape_is : (l : LabelledNodes) (s : TextShape) → IsChecked l (Ok s) → s ≡ shape_of l.nodes (taken_labels l)
shape_is l s h = λ i. record { functions = h.0.functions i; taken = h.1 i }

module _ (c : Command) (code : Assembled) (unit : TextUnit) (out : SinkChange) (steps : ℕ) where
  pub run_started : (a : Answer) → RunSays (code_run c code unit) c.steps steps out a → StartSays action.Run c code unit out steps a
  run_started OutOfMemory h = absurd h
  run_started a h = h

  pub mean_started : (a : Answer) → MeanSays unit.nodes (code_meaning c code unit) c.steps steps out a → StartSays action.Mean c code unit out steps a
  mean_started OutOfMemory h = absurd h
  mean_started a h = h

  no_refusal : (m : Action) (r : Refusal) → ActionSays m c code unit steps out (Refused r) → ⊥
  no_refusal action.Run r h = h
  no_refusal m r h = h

  no_usage : (m : Action) → ActionSays m c code unit steps out Usage → ⊥
  no_usage action.Run h = h
  no_usage m h = h

  no_read : (m : Action) → ActionSays m c code unit steps out ReadFault → ⊥
  no_read action.Run h = h
  no_read m h = h

  -- a run reports no fault of texts
  pub run_reads : (m : Action) (a : Answer) → StartSays m c code unit out steps a → TellsNoRead a
  run_reads m ReadFault h t e = absurd (no_read m h)
  run_reads m a h t e = e

-- the answer of a run of code
pub run_answers : (c : Command) (held : Option NamedTexts) (code : Assembled) (made : IsCodeOf c held code) (out : SinkChange) (steps : ℕ) (a : Answer) → StartSays (action_of c.mode) c code made.unit out steps a
    → AnswerSays c held (Some code) steps out a
run_answers c held code made out steps WriteFault h = inl (record { ran = code; is = refl; made = made; says = h })
run_answers c held code made out steps OutOfMemory h = (h, made)
run_answers c held code made out steps Listed h = inl (record { ran = code; is = refl; made = made; says = h })
run_answers c held code made out steps (Refused refusal) h = absurd (no_refusal c code made.unit out steps (action_of c.mode) refusal h)
run_answers c held code made out steps Usage h = absurd (no_usage c code made.unit out steps (action_of c.mode) h)
run_answers c held code made out steps ReadFault h = absurd (no_read c code made.unit out steps (action_of c.mode) h)
run_answers c held code made out steps other h = record { ran = code; is = refl; made = made; says = h }

-- a call that stops before it runs
pub record Stops (s : Stop) (a : Answer) : Type 0 where
  pub refused : (r : Refusal) → s ≡ stop.Refused r → a ≡ Refused r
  pub memory : s ≡ stop.OutOfMemory → a ≡ OutOfMemory

pub stopped_says : (c : Command) (held : Option NamedTexts) (code : Option Assembled) (steps : ℕ) (out : SinkChange) (a : Answer) (s : Stop) → Stops s a → IsUntouched code steps out
    → ((r : Refusal) → s ≡ stop.Refused r → IsRefusedCall c held r) → AnswerSays c held code steps out a
stopped_says c held code steps out a (stop.Refused r) is still cause = subst (AnswerSays c held code steps out) (sym (is.refused r refl)) (still, cause r refl)
stopped_says c held code steps out a stop.OutOfMemory is still cause =
    subst (AnswerSays c held code steps out) (sym (is.memory refl)) (still.still, subst (CodeSays c held) (sym still.none) tt)

pub stopped_reads : (a : Answer) (s : Stop) → Stops s a → TellsNoRead a
stopped_reads a (stop.Refused r) is = subst TellsNoRead (sym (is.refused r refl)) (λ t e. e)
stopped_reads a stop.OutOfMemory is = subst TellsNoRead (sym (is.memory refl)) (λ t e. e)

pub stopped_writes : (out : SinkChange) (a : Answer) (s : Stop) → Stops s a → out.faults' ≡ out.faults → TellsWrites a out
stopped_writes out a (stop.Refused r) is kept = subst (λ x. TellsWrites x out) (sym (is.refused r refl)) kept
stopped_writes out a stop.OutOfMemory is kept = subst (λ x. TellsWrites x out) (sym (is.memory refl)) kept
