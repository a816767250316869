use Rattle.std.proofs.Common.{◌≤◌, inr, length, refl, sym, ap, ◌∙◌, subst, Err}
use Rattle.lg_base.specs.Arguments.{most_args}
use Rattle.lg_command.specs.Commands.{shown}
use Rattle.lg_command.specs.Plans.{report_of, source_of}
use Rattle.lg_cpu.specs.Laws.{AreBytes}
use Rattle.lg_io.specs.SinkChanges.{on_sink}
use Rattle.lg_run.specs.Explanations.{tells_stuck}
use Rattle.lg_run.specs.Profiles.{table_of, tells_table}
use Rattle.lg_run.specs.Refused.{IsRefusedAs}
use Rattle.lg_run.specs.Says.{IsCodeOf}
use Rattle.lg_run.specs.Work.{DoneSays}
use Rattle.lg_run.proofs.ExplainLemmas.{stopped_tells, stuck_tells}
use Rattle.lg_run.proofs.ProfileLemmas.{run_tells}
use Rattle.lg_run.proofs.RefusedLemmas.{text_refused}
use Rattle.lg_run.proofs.WorkLemmas.{run_answers, stopped_says}
use Rattle.lg_run.proofs.work.do_unit.Goals as goal

pub returns-in-Ok-clause-says : goal.returns-in-Ok-clause-says
returns-in-Ok-clause-says g c = λ text is held under.
    let made = c.in-Ok.ensures in
    run_answers (shown c.args.command.now) held c.in-Ok.code (record {
      text = text;
      given = under;
      unit = c.args.text.now.unit;
      reads = is;
      accepted = c.requires.checked.0.accepted;
      fits = subst (λ a. length a ≤ most_args) c.requires.args c.requires.args_size;
      bytes = subst AreBytes (c.as_slice.ensures.value ∙ c.requires.args) c.see_bytes.ensures;
      target = made.target;
      size_is = made.size_is;
      taken = made.taken;
      rewritten = made.rewritten;
      size = made.size;
      agrees = made.agrees;
    }) (on_sink g.O.Sink.taken g.O.Sink.faults c.args.out.now c.run_mode-profiled.new.out) c.run_mode-profiled.result.ran.steps c.run_mode-profiled.result.ran.answer
    c.run_mode-profiled.ensures.says

pub returns-in-Ok-clause-told : goal.returns-in-Ok-clause-told
returns-in-Ok-clause-told g c = λ text is held under.
    let command = shown c.args.command.now in
    let p = c.run_mode-profiled.result in
    let ran = c.in-Ok.ensures in
    let made : IsCodeOf command held c.in-Ok.code = record {
      text = text;
      given = under;
      unit = c.args.text.now.unit;
      reads = is;
      accepted = c.requires.checked.0.accepted;
      fits = subst (λ a. length a ≤ most_args) c.requires.args c.requires.args_size;
      bytes = subst AreBytes (c.as_slice.ensures.value ∙ c.requires.args) c.see_bytes.ensures;
      target = ran.target;
      size_is = ran.size_is;
      taken = ran.taken;
      rewritten = ran.rewritten;
      size = ran.size;
      agrees = ran.agrees;
    } in (
      run_tells command held c.in-Ok.code made (tells_table (report_of command.mode) p.ran.answer) p.ran.steps (table_of p.tally) c.run_mode-profiled.ensures.told.0,
      stuck_tells command held c.in-Ok.code made (tells_stuck (report_of command.mode) p.ran.answer) p.ran.steps p.stuck c.run_mode-profiled.ensures.told.1,
    )

pub returns-in-Err-clause-says : goal.returns-in-Err-clause-says
returns-in-Err-clause-says g c = λ text is held under.
    let out = on_sink g.O.Sink.taken g.O.Sink.faults c.args.out.now c.args.out.now in
    let done = c.without_code.result in
    subst (DoneSays (shown c.args.command.now) held out) (sym c.untold.ensures.0)
    (stopped_says (shown c.args.command.now) held done.code done.steps out done.answer c.in-Err.stop
    record { refused = λ r e. c.without_code.ensures.0 ∙ c.stopped.ensures.refused r e; memory = λ e. c.without_code.ensures.0 ∙ c.stopped.ensures.memory e }
    record { none = c.without_code.ensures.1; still = record { steps_none = c.without_code.ensures.2; out_same = refl } }
    (λ r e. inr (
      subst (λ a. length a ≤ most_args) c.requires.args c.requires.args_size,
      text_refused (shown c.args.command.now) held r (source_of c.args.command.now.mode) text under
          (subst (λ x. IsRefusedAs (shown c.args.command.now) x r) (sym is) (inr (c.requires.checked.0.accepted, c.in-Err.ensures.refused r (ap Err e)))),
    )))

pub returns-in-Err-clause-told : goal.returns-in-Err-clause-told
returns-in-Err-clause-told g c = λ text is held under.
    let u = c.untold.ensures in
    stopped_tells (shown c.args.command.now) held c.untold.result c.without_code.result c.stopped.result u.0 u.1 u.2 c.without_code.ensures.0 c.stopped.ensures.end c.stopped.ensures.defined
