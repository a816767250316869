-- The causes of answers, from what a call says.
use Rattle.std.proofs.Common.{◌≡◌, ℕ, ◌<◌, true, inl, inr, List, ◌++◌, Option, Some, None, refl, sym, ◌∙◌, subst, arith}
use Rattle.std.specs.Prelude.{◌⊎◌}
use Rattle.lg_asm.specs.Assembled.{Assembled}
use Rattle.lg_base.specs.declared.fault.FaultKind.{FaultKind}
use Rattle.lg_base.specs.declared.refusal.Refusal.{Refusal}
use Rattle.lg_command.specs.Commands.{AreNoCommand, Command, IsCommand}
use Rattle.lg_command.specs.Plans.{action_of, source_of}
use Rattle.lg_command.specs.declared.plan.Action.{Action}
use Rattle.lg_command.specs.declared.plan.Action.TheVariants as action
use Rattle.lg_run.specs.Causes.{Causes, FaultCause, HasBack, HasCode, StepsOutCause, UndefinedCause}
use Rattle.lg_io.specs.NamedTexts.{IsHeld}
use Rattle.lg_io.specs.SinkChanges.{SinkChange, Took}
use Rattle.lg_run.specs.Changes.{TextsChange, TellsReads, TellsWrites}
use Rattle.lg_run.specs.Refused.{ArgumentsFit, IsRefusedCall}
use Rattle.lg_run.specs.Runs.{HasRun, HasMeant}
use Rattle.lg_run.specs.Calls.{Says}
use Rattle.lg_run.specs.Says.{AskedSays, IsCodeOf, IsStill, IsUntouched, ActionSays, NoCommandSays, Ran, ReadsFile, ReportSays, WroteBack, code_meaning, code_run, lines_of, listing_of}
use Rattle.lg_run.specs.declared.answer.Answer.{Answer}
use Rattle.lg_run.specs.declared.answer.Answer.TheVariants.{Ended, Listed, Undefined, Refused, Usage, ReadFault, WriteFault, StepsOut, Fault, OutOfMemory}
use Rattle.lg_run.specs.declared.answer.Done.{Done}
use Rattle.lg_run.proofs.AgreementLemmas.{lasts, undefined_at}

-- ---- counts
read_inner : (a : Answer) (t : TextsChange) → TellsReads a t → t.faults < t.faults' → a ≡ ReadFault
read_inner ReadFault t h lt = refl
read_inner other t h lt = absurd (omega (arith, h, lt))

write_inner : (a : Answer) (s : SinkChange) → TellsWrites a s → s.faults < s.faults' → a ≡ WriteFault
write_inner WriteFault s h lt = refl
write_inner other s h lt = absurd (omega (arith, h, lt))

-- ---- the inner answer
module _ (words : List (List ℕ)) (texts : TextsChange) (out : SinkChange) (code : Option Assembled) (steps : ℕ) where
  reads_of : (asked : Option Command) (a : Answer) → AskedSays words asked texts out code steps a → TellsReads a texts
  reads_of None a h = h.2.reads
  reads_of (Some c) a h = h.1.faults.reads

  writes_of : (asked : Option Command) (a : Answer) → AskedSays words asked texts out code steps a → TellsWrites a out
  writes_of None a h = h.2.writes
  writes_of (Some c) a h = h.1.faults.writes

  no_command_reads : (a : Answer) → NoCommandSays words a → TellsReads a texts → texts.faults' ≡ texts.faults
  no_command_reads ReadFault h reads = absurd h
  no_command_reads other h reads = reads

  surely_of : (asked : Option Command) (a : Answer) → AskedSays words asked texts out code steps a → texts.sure ≡ true → ((c : Command) → IsCommand words c → IsHeld texts.held c.file)
      → texts.faults' ≡ texts.faults
  surely_of None a h sure held = no_command_reads a h.1 h.2.reads
  surely_of (Some c) a h sure held = h.1.sure sure (held c h.0)

  usage_of : (asked : Option Command) → AskedSays words asked texts out code steps Usage → AreNoCommand words × IsUntouched code steps out
  usage_of None h = (h.1, h.0)
  usage_of (Some c) h = absurd h.1.says

  refused_of : (asked : Option Command) (r : Refusal) → AskedSays words asked texts out code steps (Refused r) → ((c : Command) × IsCommand words c × IsRefusedCall c texts.held r) × IsUntouched code steps out
  refused_of None r h = absurd h.1
  refused_of (Some c) r h = ((c, h.0, h.1.says.1), h.1.says.0)

  read_of : (asked : Option Command) → AskedSays words asked texts out code steps ReadFault → IsUntouched code steps out × ((c : Command) × IsCommand words c × ReadsFile (source_of c.mode) × ArgumentsFit c)
  read_of None h = absurd h.1
  read_of (Some c) h = (h.1.says.0, (c, h.0, h.1.says.1, h.1.says.2))

  memory_of : (asked : Option Command) → AskedSays words asked texts out code steps OutOfMemory → IsStill steps out
  memory_of None h = h.0.still
  memory_of (Some c) h = h.1.says.0

  -- no command was read where the words ask for none
  none_of : (asked : Option Command) (a : Answer) → AreNoCommand words → AskedSays words asked texts out code steps a → (code ≡ None) × ((a ≡ Usage) ⊎ (a ≡ OutOfMemory))
  none_of (Some c) a asks h = let both : None ≡ Some c = sym asks ∙ h.0 in cc
  none_of None a asks h = (h.0.none, at a h.1)
    where
      at : (b : Answer) → NoCommandSays words b → (b ≡ Usage) ⊎ (b ≡ OutOfMemory)
      at Usage k = inl refl
      at OutOfMemory k = inr refl
      at other k = absurd k

  -- the rows on runs
  steps_cause : (c : Command) (m : Action) (ran : Assembled) (made : IsCodeOf c texts.held ran) → ActionSays m c ran made.unit steps out StepsOut → StepsOutCause m c ran made.unit
  steps_cause c action.Run ran made says =
      let going = subst (HasRun (code_run c ran made.unit)) says.0 says.1 in (going, lasts c texts.held ran made c.steps going)
  steps_cause c action.Mean ran made says = subst (HasMeant (code_meaning c ran made.unit)) says.0 says.1
  steps_cause c m ran made says = absurd says

  fault_cause : (c : Command) (m : Action) (ran : Assembled) (made : IsCodeOf c texts.held ran) (kind : FaultKind) (pc : ℕ) → action_of c.mode ≡ m → ActionSays m c ran made.unit steps out (Fault kind pc) → FaultCause steps c ran made.unit
  fault_cause c action.Run ran made kind pc is says = (is, undefined_at c texts.held ran made steps kind says.2)
  fault_cause c m ran made kind pc is says = absurd says

  undefined_cause : (c : Command) (m : Action) (ran : Assembled) (made : IsCodeOf c texts.held ran) (line : ℕ) → action_of c.mode ≡ m → ActionSays m c ran made.unit steps out (Undefined line) → UndefinedCause steps line c ran made.unit
  undefined_cause c action.Mean ran made line is says = (is, says.0, says.1, says.2, says.3)
  undefined_cause c m ran made line is says = absurd says

  abbrev Lists : Type 0
  Lists = HasCode words texts.held code (λ c ran unit. (action_of c.mode ≡ action.List) × Took out (listing_of ran))

  listed_cause : (c : Command) (m : Action) (ran : Assembled) (made : IsCodeOf c texts.held ran) → action_of c.mode ≡ m → ActionSays m c ran made.unit steps out Listed → (action_of c.mode ≡ action.List) × Took out (listing_of ran)
  listed_cause c action.List ran made is says = (is, says.1)
  listed_cause c m ran made is says = absurd says

  listed_by : (c : Command) → IsCommand words c → Ran c texts.held code steps out Listed ⊎ WroteBack c texts.held code steps out Listed → Lists ⊎ HasBack words texts.held code steps out
  listed_by c asked (inl r) = inl (record { command = c; asked = asked; ran = r.ran; is = r.is; made = r.made; here = listed_cause c (action_of c.mode) r.ran r.made refl r.says })
  listed_by c asked (inr b) = inr (record { command = c; asked = asked; wrote = b })

  listed_of : (asked : Option Command) → AskedSays words asked texts out code steps Listed → Lists ⊎ HasBack words texts.held code steps out
  listed_of None h = absurd h.1
  listed_of (Some c) h = listed_by c h.0 h.1.says

  steps_out_of : (asked : Option Command) → AskedSays words asked texts out code steps StepsOut → HasCode words texts.held code (λ c ran unit. StepsOutCause (action_of c.mode) c ran unit)
  steps_out_of None h = absurd h.1
  steps_out_of (Some c) h = let r = h.1.says in record { command = c; asked = h.0; ran = r.ran; is = r.is; made = r.made; here = steps_cause c (action_of c.mode) r.ran r.made r.says }

  fault_of : (asked : Option Command) (kind : FaultKind) (pc : ℕ) → AskedSays words asked texts out code steps (Fault kind pc) → HasCode words texts.held code (FaultCause steps)
  fault_of None kind pc h = absurd h.1
  fault_of (Some c) kind pc h = let r = h.1.says in record { command = c; asked = h.0; ran = r.ran; is = r.is; made = r.made; here = fault_cause c (action_of c.mode) r.ran r.made kind pc refl r.says }

  undefined_of : (asked : Option Command) (line : ℕ) → AskedSays words asked texts out code steps (Undefined line) → HasCode words texts.held code (UndefinedCause steps line)
  undefined_of None line h = absurd h.1
  undefined_of (Some c) line h = let r = h.1.says in record { command = c; asked = h.0; ran = r.ran; is = r.is; made = r.made; here = undefined_cause c (action_of c.mode) r.ran r.made line refl r.says }

-- ---- the answer
-- an answer other than a write fault is the inner one
inner_is : (lines : List ℕ) (err : SinkChange) (inner outer a : Answer) → ReportSays lines err inner outer → outer ≡ a → (WriteFault ≡ a → ⊥) → inner ≡ a
inner_is lines err inner outer a report is other = elim report [
  | inl h ↦ sym h.0 ∙ is
  | inr h ↦ absurd (other (sym h.0 ∙ is))
]

pub causes : (words : List (List ℕ)) (texts : TextsChange) (out err : SinkChange) (done : Done) → Says words texts out err done → Causes words texts out err done
causes words texts out err done s = record {
  usage = λ e. (usage_of words texts out done.code done.steps s.asked (here Usage e (λ h. cc))).0;
  no_command = λ fault. let n = none_of words texts out done.code done.steps s.asked s.inner fault s.says in (
    n.0,
    elim s.report [
      | inl h ↦ elim n.1 [
        | inl u ↦ inl (h.0 ∙ u)
        | inr m ↦ inr (inl (h.0 ∙ m))
      ]
      | inr h ↦ inr (inr (h.0, h.1))
    ],
  );
  refused = λ r e. (refused_of words texts out done.code done.steps s.asked r (here (Refused r) e (λ h. cc))).0;
  read_fault = λ e. let says = here ReadFault e (λ h. cc) in (reads_of words texts out done.code done.steps s.asked ReadFault says, (read_of words texts out done.code done.steps s.asked says).1);
  write_fault = λ e. elim s.report [
    | inl h ↦ inl (writes_of words texts out done.code done.steps s.asked WriteFault (subst (AskedSays words s.asked texts out done.code done.steps) (sym h.0 ∙ e) s.says))
    | inr h ↦ inr h.1
  ];
  read_told = λ lt. let inner = read_inner s.inner texts (reads_of words texts out done.code done.steps s.asked s.inner s.says) lt in elim s.report [
    | inl h ↦ inl (h.0 ∙ inner)
    | inr h ↦ inr (h.0, h.1)
  ];
  sure_reads = λ sure held. surely_of words texts out done.code done.steps s.asked s.inner s.says sure held;
  out_told = λ lt. let inner = write_inner s.inner out (writes_of words texts out done.code done.steps s.asked s.inner s.says) lt in elim s.report [
    | inl h ↦ h.0 ∙ inner
    | inr h ↦ h.0
  ];
  err_told = λ lt. elim s.report [
    | inl h ↦ let same = h.1 in absurd (omega (arith, same, lt))
    | inr h ↦ h.0
  ];
  listed = λ e. listed_of words texts out done.code done.steps s.asked (here Listed e (λ h. cc));
  steps_out = λ e. steps_out_of words texts out done.code done.steps s.asked (here StepsOut e (λ h. cc));
  fault = λ kind pc e. fault_of words texts out done.code done.steps s.asked kind pc (here (Fault kind pc) e (λ h. cc));
  undefined = λ line e. undefined_of words texts out done.code done.steps s.asked line (here (Undefined line) e (λ h. cc));
  usage_still = λ e. (usage_of words texts out done.code done.steps s.asked (here Usage e (λ h. cc))).1;
  refused_still = λ r e. (refused_of words texts out done.code done.steps s.asked r (here (Refused r) e (λ h. cc))).1;
  read_still = λ e. (read_of words texts out done.code done.steps s.asked (here ReadFault e (λ h. cc))).0;
  memory_still = λ e. memory_of words texts out done.code done.steps s.asked (here OutOfMemory e (λ h. cc));
}
  where
    here : (a : Answer) → done.answer ≡ a → (WriteFault ≡ a → ⊥) → AskedSays words s.asked texts out done.code done.steps a
    here a is other = subst (AskedSays words s.asked texts out done.code done.steps) (inner_is (s.table ++ (lines_of s.asked done.code done.steps s.inner ++ s.explained)) err s.inner done.answer a s.report is other) s.says
