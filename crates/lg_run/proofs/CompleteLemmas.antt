-- Which answer comes, where no count rose.
use Rattle.std.proofs.Common.{◌≡◌, ℕ, ◌+◌, ◌*◌, ◌-◌, ◌^◌, ◌<◌, ◌≤◌, inl, inr, List, Option, Some, None, IsSome, refl, sym, ap, ◌∙◌, subst, arith}
use Rattle.std.specs.Prelude.{◌⊎◌}
use Rattle.lg_asm.specs.Assembled.{Assembled}
use Rattle.lg_base.specs.Runs.{Status, Running, Bad}
use Rattle.lg_base.specs.Runs as runs
use Rattle.lg_command.specs.Commands.{Command, IsCommand, Takes}
use Rattle.lg_command.specs.Plans.{action_of, source_of}
use Rattle.lg_command.specs.declared.plan.Action.{Action}
use Rattle.lg_command.specs.declared.plan.Action.TheVariants as action
use Rattle.lg_command.proofs.PlanLemmas.{read_back}
use Rattle.lg_cpu.specs.Steps.{Progress, Goes, EndedWith, Faulted, status_of}
use Rattle.lg_io.specs.Counts.{Rose}
use Rattle.lg_io.specs.NamedTexts.{NamedTexts}
use Rattle.lg_node.specs.declared.unit.Unit.{Unit as TextUnit}
use Rattle.lg_tst.specs.Units.{unit_of}
use Rattle.lg_io.specs.SinkChanges.{SinkChange}
use Rattle.lg_run.specs.Changes.{TellsReads, TellsWrites, TextsChange}
use Rattle.lg_run.specs.Refused.{IsTextIn}
use Rattle.lg_run.specs.Complete.{AnswersCode, AnswersCommand, AnswersMeaning, AnswersRun, Comes, Completeness, SureCompleteness, IsCompleteIn, IsCompleteMean, IsCompleteRun, IsFit}
use Rattle.lg_run.specs.Runs.{HasMeant, MeanSays, RunSays}
use Rattle.lg_run.specs.Says.{AnswerSays, AskedSays, CodeSays, IsCodeOf, ListSays, ActionSays, NoCommandSays, Ran, TellsFaults, WroteBack, code_meaning, code_run}
use Rattle.lg_run.specs.declared.answer.Answer.{Answer}
use Rattle.lg_run.specs.declared.answer.Answer.TheVariants.{Ended, Listed, Undefined, Refused, Usage, ReadFault, WriteFault, StepsOut, Fault, OutOfMemory}
use Rattle.lg_run.proofs.CauseLemmas.{causes}
use Rattle.lg_run.proofs.AgreementLemmas.{ends_in_time, meant_later, run_later, undefined_at}
use Rattle.lg_run.proofs.OverLemmas.{bad_running, ended_running}
use Rattle.lg_run.proofs.RefusedLemmas.{back_no_text, call_for_room, call_once, call_stays, text_same}
use Rattle.lg_run.proofs.SameLemmas.{answer_same, none_some, ok_same, some_same}

-- ---- out of memory
memory_run : (p : Progress) → AnswersRun p OutOfMemory
memory_run Goes = inr refl
memory_run (EndedWith status) = inr refl
memory_run (Faulted kind) = (0, inr refl)

memory_meaning : (s : Status) → AnswersMeaning s OutOfMemory
memory_meaning Running = inr refl
memory_meaning (runs.Ended status) = inr refl
memory_meaning Bad = (0, inr refl)

memory_of_run : (c : Command) (code : Assembled) (unit : TextUnit) → IsCompleteRun c code unit OutOfMemory
memory_of_run c code unit = record {
  stands = memory_run (code_run c code unit c.steps).progress;
  ends = λ m status time is. inr refl;
  sound = λ sound kind pc e. cc (e);
}

memory_of_mean : (c : Command) (code : Assembled) (unit : TextUnit) → IsCompleteMean c code unit OutOfMemory
memory_of_mean c code unit = record {
  stands = memory_meaning (code_meaning c code unit c.steps).status;
  ends = λ m status time is. inr refl;
  only = λ status e. absurd (no e);
}
  where
    no : {s : ℕ} → OutOfMemory ≡ Ended s → ⊥
    no e = cc

memory_in : (m : Action) (c : Command) (held : Option NamedTexts) (text : List ℕ) (code : Assembled) (unit : TextUnit) → action_of c.mode ≡ m → IsTextIn (source_of c.mode) c held text → IsCompleteIn m c code unit OutOfMemory
memory_in action.Run c held text code unit is given = memory_of_run c code unit
memory_in action.List c held text code unit is given = inr refl
memory_in action.Mean c held text code unit is given = memory_of_mean c code unit
memory_in action.ReadBack c held text code unit is given = absurd (subst (λ s. IsTextIn s c held text) (read_back c.mode is) given)

-- ---- runs
ended_goes : {s : ℕ} → EndedWith s ≡ Goes → ⊥
ended_goes e = cc

module _ (c : Command) (held : Option NamedTexts) (code : Assembled) (made : IsCodeOf c held code) where
  -- where the run has ended in time, it is there after the most steps
  over_at : (n : ℕ) (p : Progress) → n ≤ c.steps → (code_run c code made.unit n).progress ≡ p → (status_of p ≡ Running → ⊥) → (code_run c code made.unit c.steps).progress ≡ p
  over_at n p le is over = ap (λ r. r.progress) (run_later c held code made n c.steps le (λ r. over (ap status_of (sym is) ∙ r))) ∙ is

  run_ends : (a : Answer) → AnswersRun (code_run c code made.unit c.steps).progress a → (m status : ℕ) → 64 * m ≤ c.steps → (code_meaning c code made.unit m).status ≡ runs.Ended status → Comes a (Ended status)
  run_ends a stands m status time is = subst (λ p. AnswersRun p a) (ends_in_time c held code made m c.steps status time is) stands

  complete_run : (steps : ℕ) (out : SinkChange) (a : Answer) → RunSays (code_run c code made.unit) c.steps steps out a → (a ≡ WriteFault → ⊥) → IsCompleteRun c code made.unit a
  complete_run steps out (Ended status) says other =
      let stands = subst (λ p. AnswersRun p (Ended status)) (sym (over_at steps (EndedWith status) says.0 says.1 (λ e. ended_running e))) (inl refl) in
      record {
        stands = stands;
        ends = run_ends (Ended status) stands;
        sound = λ sound kind pc e. cc (e);
      }
  complete_run steps out StepsOut says other =
      let here = subst (λ n. (code_run c code made.unit n).progress ≡ Goes) says.0 says.1 in
      let stands = subst (λ p. AnswersRun p StepsOut) (sym here) (inl refl) in
      record {
        stands = stands;
        ends = run_ends StepsOut stands;
        sound = λ sound kind pc e. cc (e);
      }
  complete_run steps out (Fault kind pc) says other =
      let low = says.0 in
      let le : steps + 1 ≤ c.steps = omega (arith, low) in
      let stands : AnswersRun (code_run c code made.unit c.steps).progress (Fault kind pc) =
      subst (λ p. AnswersRun p (Fault kind pc)) (sym (over_at (steps + 1) (Faulted kind) le says.2 (λ e. bad_running e))) (pc, inl refl) in
      record {
        stands = stands;
        ends = run_ends (Fault kind pc) stands;
        sound = λ sound k p e. let bad = undefined_at c held code made steps kind says.2 in sound bad.0 bad.2;
      }
  complete_run steps out WriteFault says other = absurd (other refl)
  complete_run steps out others says other = absurd says

  -- ---- the meaning
  meant_at : (n : ℕ) (s : Status) → n ≤ c.steps → (code_meaning c code made.unit n).status ≡ s → (s ≡ Running → ⊥) → (code_meaning c code made.unit c.steps).status ≡ s
  meant_at n s le is over = meant_later c held code made n c.steps le (λ r. over (sym is ∙ r)) ∙ is

  mean_ends : (a : Answer) → AnswersMeaning (code_meaning c code made.unit c.steps).status a → (m status : ℕ) → m ≤ c.steps → (code_meaning c code made.unit m).status ≡ runs.Ended status → Comes a (Ended status)
  mean_ends a stands m status time is = subst (λ s. AnswersMeaning s a) (meant_at m (runs.Ended status) time is (λ e. ended_running e)) stands

  complete_mean : (steps : ℕ) (out : SinkChange) (a : Answer) → MeanSays made.unit.nodes (code_meaning c code made.unit) c.steps steps out a → (a ≡ WriteFault → ⊥) → IsCompleteMean c code made.unit a
  complete_mean steps out (Ended status) says other =
      let stands = subst (λ s. AnswersMeaning s (Ended status)) (sym (meant_at steps (runs.Ended status) says.0 says.1 (λ e. ended_running e))) (inl refl) in
      record {
        stands = stands;
        ends = mean_ends (Ended status) stands;
        only = λ s e. (steps, says.0, says.1 ∙ ap runs.Ended (answer_same e));
      }
  complete_mean steps out StepsOut says other =
      let here = subst (HasMeant (code_meaning c code made.unit)) says.0 says.1 in
      let stands = subst (λ s. AnswersMeaning s StepsOut) (sym here) (inl refl) in
      record {
        stands = stands;
        ends = mean_ends StepsOut stands;
        only = λ s e. absurd (out_ended e);
      }
    where
      out_ended : {s : ℕ} → StepsOut ≡ Ended s → ⊥
      out_ended e = cc
  complete_mean steps out (Undefined line) says other =
      let low = says.0 in
      let le : steps + 1 ≤ c.steps = omega (arith, low) in
      let stands : AnswersMeaning (code_meaning c code made.unit c.steps).status (Undefined line) =
      subst (λ s. AnswersMeaning s (Undefined line)) (sym (meant_at (steps + 1) Bad le says.2 (λ e. bad_running e))) (line, inl refl) in
      record {
        stands = stands;
        ends = mean_ends (Undefined line) stands;
        only = λ s e. absurd (undefined_ended e);
      }
    where
      undefined_ended : {s : ℕ} → Undefined line ≡ Ended s → ⊥
      undefined_ended e = cc
  complete_mean steps out WriteFault says other = absurd (other refl)
  complete_mean steps out others says other = absurd says

  -- ---- the listing
  complete_list : (steps : ℕ) (out : SinkChange) (a : Answer) → ListSays code steps out a → (a ≡ WriteFault → ⊥) → Comes a Listed
  complete_list steps out Listed says other = inl refl
  complete_list steps out WriteFault says other = absurd (other refl)
  complete_list steps out others says other = absurd says

  complete_in : (m : Action) (steps : ℕ) (out : SinkChange) (a : Answer) → ActionSays m c code made.unit steps out a → (a ≡ WriteFault → ⊥) → IsCompleteIn m c code made.unit a
  complete_in action.Run steps out a says other = complete_run steps out a says other
  complete_in action.List steps out a says other = complete_list steps out a says other
  complete_in action.Mean steps out a says other = complete_mean steps out a says other
  complete_in action.ReadBack steps out a says other = absurd says

-- ---- the command's answer
module _ (c : Command) (told : NamedTexts) (out : SinkChange) (code : Option Assembled) (steps : ℕ) where
  -- code that ran is that of a fit unit
  unit_same : (unit : TextUnit) (ran : Assembled) → IsFit c told unit → (made : IsCodeOf c (Some told) ran) → made.unit ≡ unit
  unit_same unit ran fit made =
      ok_same (sym made.reads ∙ ap unit_of (text_same (source_of c.mode) c told made.text fit.text made.given fit.given) ∙ fit.reads)

  ran_complete : (a : Answer) (unit : TextUnit) (ran : Assembled) → IsFit c told unit → Ran c (Some told) code steps out a → (a ≡ WriteFault → ⊥) → code ≡ Some ran → IsCompleteIn (action_of c.mode) c ran unit a
  ran_complete a unit ran fit r other there =
      subst (λ x. IsCompleteIn (action_of c.mode) c x unit a) (some_same (sym r.is ∙ there))
      (subst (λ u. IsCompleteIn (action_of c.mode) c r.ran u a) (unit_same unit r.ran fit r.made) (complete_in c (Some told) r.ran r.made (action_of c.mode) steps out a r.says other))

  ran_answers : (a : Answer) → Ran c (Some told) code steps out a → (a ≡ WriteFault → ⊥) → AnswersCommand c told code a
  ran_answers a r other = record {
    refuses = λ refusal full refused. let m = r.made in absurd (full (call_for_room c told m.text m.unit refusal m.reads m.accepted m.fits m.given refused).0);
    makes = λ unit fit. inl (subst IsSome (sym r.is) refl);
    runs = λ unit ran fit there. ran_complete a unit ran fit r other there;
    reads = λ bytes is fits l. absurd (back_no_text c (Some told) r.made.text is r.made.given);
  }

  -- bytes of a listing that were written
  back_answers : (a : Answer) → WroteBack c (Some told) code steps out a → a ≡ Listed → AnswersCommand c told code a
  back_answers a w is = record {
    refuses = λ refusal full refused. absurd (call_stays c told w.bytes refusal w.asked w.fits w.listing refused);
    makes = λ unit fit. absurd (back_no_text c (Some told) fit.text w.asked fit.given);
    runs = λ unit ran fit there. absurd (none_some (sym w.none ∙ there));
    reads = λ bytes asked fits l. inl is;
  }

  answers : (a : Answer) → AnswerSays c (Some told) code steps out a → (a ≡ ReadFault → ⊥) → (a ≡ WriteFault → ⊥) → AnswersCommand c told code a
  answers (Ended status) says read write = ran_answers (Ended status) says write
  answers StepsOut says read write = ran_answers StepsOut says write
  answers (Fault kind pc) says read write = ran_answers (Fault kind pc) says write
  answers (Undefined line) says read write = ran_answers (Undefined line) says write
  answers WriteFault says read write = absurd (write refl)
  answers ReadFault says read write = absurd (read refl)
  answers Usage says read write = absurd says
  answers Listed (inl says) read write = ran_answers Listed says write
  answers Listed (inr says) read write = back_answers Listed says refl
  answers OutOfMemory says read write = record {
    refuses = λ refusal full refused. inr refl;
    makes = λ unit fit. inr refl;
    runs = λ unit ran fit there. memory_in (action_of c.mode) c (Some told) fit.text ran unit refl fit.given;
    reads = λ bytes is fits l. inr refl;
  }
  answers (Refused q) says read write = record {
    refuses = λ refusal full refused. inl (ap Refused (call_once c told q refusal says.1 refused));
    makes = λ unit fit. absurd (room unit fit);
    runs = λ unit ran fit there. absurd (none_some (sym says.0.none ∙ there));
    reads = λ bytes is fits l. absurd (call_stays c told bytes q is fits l says.1);
  }
    where
      room : (unit : TextUnit) → IsFit c told unit → ⊥
      room unit fit =
          let full = (call_for_room c told fit.text unit q fit.reads fit.accepted fit.fits fit.given says.1).1 in
          let enough = fit.room in omega (arith, full, enough)

-- whatever the texts show
module _ (c : Command) (held : Option NamedTexts) (out : SinkChange) (code : Option Assembled) (steps : ℕ) where
  ran_code : (a : Answer) → Ran c held code steps out a → (a ≡ WriteFault → ⊥) → AnswersCode c held code a
  ran_code a r other = record {
    long = λ long. let fits = r.made.fits in absurd (omega (arith, long, fits));
    runs = λ ran there. subst (λ x. (made : IsCodeOf c held x) × IsCompleteIn (action_of c.mode) c x made.unit a) (some_same (sym r.is ∙ there)) (r.made, complete_in c held r.ran r.made (action_of c.mode) steps out a r.says other);
  }

  answers_code : (a : Answer) → AnswerSays c held code steps out a → (a ≡ ReadFault → ⊥) → (a ≡ WriteFault → ⊥) → AnswersCode c held code a
  answers_code (Ended status) says read write = ran_code (Ended status) says write
  answers_code StepsOut says read write = ran_code StepsOut says write
  answers_code (Fault kind pc) says read write = ran_code (Fault kind pc) says write
  answers_code (Undefined line) says read write = ran_code (Undefined line) says write
  answers_code WriteFault says read write = absurd (write refl)
  answers_code ReadFault says read write = absurd (read refl)
  answers_code Usage says read write = absurd says
  answers_code Listed (inl says) read write = ran_code Listed says write
  answers_code Listed (inr says) read write = record {
    long = λ long. let fits = says.fits in absurd (omega (arith, long, fits));
    runs = λ ran there. absurd (none_some (sym says.none ∙ there));
  }
  answers_code OutOfMemory says read write = record {
    long = λ long. inr refl;
    runs = λ ran there. let made = subst (CodeSays c held) there says.1 in (made, memory_in (action_of c.mode) c held made.text ran made.unit refl made.given);
  }
  answers_code (Refused q) says read write = record {
    long = λ long. elim says.1 [
      | inl h ↦ inl (ap Refused h.0)
      | inr h ↦ let fits = h.0 in absurd (omega (arith, long, fits))
    ];
    runs = λ ran there. absurd (none_some (sym says.0.none ∙ there));
  }

-- ---- the call
read_not : (a : Answer) (texts : TextsChange) (out : SinkChange) → TellsFaults texts out a → (¬ Rose texts.faults texts.faults') → a ≡ ReadFault → ⊥
read_not a texts out tells none is = none (subst (λ x. TellsReads x texts) is tells.reads)

write_not : (a : Answer) (texts : TextsChange) (out : SinkChange) → TellsFaults texts out a → (¬ Rose out.faults out.faults') → a ≡ WriteFault → ⊥
write_not a texts out tells none is = none (subst (λ x. TellsWrites x out) is tells.writes)

-- words that ask for a command are no usage
none_memory : (words : List (List ℕ)) (a : Answer) → Takes words → NoCommandSays words a → a ≡ OutOfMemory
none_memory words OutOfMemory takes h = refl
none_memory words Usage takes h = absurd (none_some (sym h ∙ takes.1))
none_memory words other takes h = absurd h

abbrev Answered : List (List ℕ) → TextsChange → Option Assembled → Answer → Type 0
Answered words texts code a =
    (a ≡ OutOfMemory) ⊎ ((c : Command) × IsCommand words c × AnswersCode c texts.held code a × ((told : NamedTexts) → texts.held ≡ Some told → AnswersCommand c told code a))

asked_complete : (words : List (List ℕ)) (texts : TextsChange) (out : SinkChange) (code : Option Assembled) (steps : ℕ) (inner : Answer) (asked : Option Command)
    → (¬ Rose texts.faults texts.faults') → (¬ Rose out.faults out.faults') → Takes words → AskedSays words asked texts out code steps inner → Answered words texts code inner
asked_complete words texts out code steps inner None reads writes takes h = inl (none_memory words inner takes h.1)
asked_complete words texts out code steps inner (Some c) reads writes takes h =
    let read = read_not inner texts out h.1.faults reads in
    let write = write_not inner texts out h.1.faults writes in
    inr (
      c,
      h.0,
      answers_code c texts.held out code steps inner h.1.says read write,
      λ told held. answers c told out code steps inner (subst (λ t. AnswerSays c t code steps out inner) held h.1.says) read write,
    )

pub complete : Completeness
complete words texts out err done s none takes = elim s.report [
  | inl h ↦ subst (Answered words texts done.code) (sym h.0) (asked_complete words texts out done.code done.steps s.inner s.asked none.reads none.writes takes s.says)
  | inr h ↦ absurd (none.errs h.1)
]

-- a count that stays did not rise
stayed : (before now : ℕ) → before < 2 ^ 64 - 1 → now ≡ before → Rose before now → ⊥
stayed before now room same rose = omega (arith, room, same, rose)

pub sure-complete : SureCompleteness
sure-complete words texts out err done s trusted writes errs takes =
    let same = (causes words texts out err done s).sure_reads trusted.sure trusted.holds in
    complete words texts out err done s (record { reads = stayed texts.faults texts.faults' trusted.room same; writes = writes; errs = errs }) takes
