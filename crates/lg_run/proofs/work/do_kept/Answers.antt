use Rattle.std.proofs.Common.{◌≡◌, refl, sym, ap, ◌∙◌, subst}
use Rattle.lg_command.specs.Commands.{shown}
use Rattle.lg_command.specs.Plans.{report_of}
use Rattle.lg_io.specs.SinkChanges.{on_sink}
use Rattle.lg_run.specs.Changes.{TellsWrites}
use Rattle.lg_run.specs.Explanations.{word_explained}
use Rattle.lg_run.specs.ProfileStarts.{ReadTold}
use Rattle.lg_run.specs.Work.{ReadDone, TellsNoRead}
use Rattle.lg_run.proofs.ExplainLemmas.{kept_explains, kept_tells, memory_says, memory_writes, stopped_explains, stopped_tells}
use Rattle.lg_run.proofs.work.do_kept.Goals as goal

pub returns-in-Ok-clause-says : goal.returns-in-Ok-clause-says
returns-in-Ok-clause-says g c =
    let command = shown c.args.command.now in
    let out = on_sink g.O.Sink.taken g.O.Sink.faults c.args.out.now c.do_read-worked.new.out in
    subst (ReadDone command c.args.read.items out) (sym c.keep.ensures.done)
    (subst (λ r. ReadDone command r out c.do_read-worked.result.done) c.deref.ensures.value c.do_read-worked.ensures.says)

pub returns-in-Ok-clause-told : goal.returns-in-Ok-clause-told
returns-in-Ok-clause-told g c =
    let command = shown c.args.command.now in
    kept_tells command c.args.read.items c.do_read-worked.result c.keep.result c.keep.ensures.done c.keep.ensures.tally c.keep.ensures.stuck
    (subst (λ r. ReadTold command r c.do_read-worked.result) c.deref.ensures.value c.do_read-worked.ensures.told)

pub returns-in-Ok-clause-explains : goal.returns-in-Ok-clause-explains
returns-in-Ok-clause-explains g c =
    let command = shown c.args.command.now in
    let out = on_sink g.O.Sink.taken g.O.Sink.faults c.args.out.now c.do_read-worked.new.out in
    kept_explains command c.args.read out c.do_read-worked.result c.keep.result c.keep.ensures.done c.keep.ensures.stuck c.keep.ensures.read
    (c.keep.ensures.word ∙ subst (λ r. c.in-Ok.word ≡ word_explained (report_of command.mode) r c.do_read-worked.result.done.answer) c.deref-2.ensures.value
    (c.in-Ok.ensures.word ∙ ap (λ p. word_explained p.report c.deref-2.result.now c.do_read-worked.result.done.answer) c.plan.ensures))
    (subst (λ r. ReadDone command r out c.do_read-worked.result.done) c.deref.ensures.value c.do_read-worked.ensures.says)
    (subst (λ r. ReadTold command r c.do_read-worked.result) c.deref.ensures.value c.do_read-worked.ensures.told)

pub returns-in-Ok-clause-writes : goal.returns-in-Ok-clause-writes
returns-in-Ok-clause-writes g c =
    subst (λ d. TellsWrites d.answer (on_sink g.O.Sink.taken g.O.Sink.faults c.args.out.now c.do_read-worked.new.out)) (sym c.keep.ensures.done) c.do_read-worked.ensures.writes

pub returns-in-Ok-clause-reads : goal.returns-in-Ok-clause-reads
returns-in-Ok-clause-reads g c = subst (λ d. TellsNoRead d.answer) (sym c.keep.ensures.done) c.do_read-worked.ensures.reads

pub returns-in-Err-clause-says : goal.returns-in-Err-clause-says
returns-in-Err-clause-says g c =
    let command = shown c.args.command.now in
    let out = on_sink g.O.Sink.taken g.O.Sink.faults c.args.out.now c.do_read-worked.new.out in
    let w = c.without_code.ensures in
    subst (ReadDone command c.args.read.items out) (sym c.untold.ensures.0)
    (memory_says command c.args.read.items out c.do_read-worked.result.done c.without_code.result c.in-Err.ensures.refused
    (subst (λ r. ReadDone command r out c.do_read-worked.result.done) c.deref.ensures.value c.do_read-worked.ensures.says) w.0 w.1 w.2)

pub returns-in-Err-clause-told : goal.returns-in-Err-clause-told
returns-in-Err-clause-told g c = λ held under.
    let u = c.untold.ensures in
    stopped_tells (shown c.args.command.now) held c.untold.result c.without_code.result _ u.0 u.1 u.2 c.without_code.ensures.0 refl refl

pub returns-in-Err-clause-explains : goal.returns-in-Err-clause-explains
returns-in-Err-clause-explains g c = λ held under.
    let u = c.untold.ensures in
    stopped_explains (shown c.args.command.now) held c.untold.result c.without_code.result _ u.0 u.3 c.without_code.ensures.0 refl

pub returns-in-Err-clause-writes : goal.returns-in-Err-clause-writes
returns-in-Err-clause-writes g c =
    let out = on_sink g.O.Sink.taken g.O.Sink.faults c.args.out.now c.do_read-worked.new.out in
    subst (λ a. TellsWrites a out) (sym (ap (λ d. d.answer) c.untold.ensures.0 ∙ c.without_code.ensures.0))
    (memory_writes c.do_read-worked.result.done.answer out c.in-Err.ensures.refused c.do_read-worked.ensures.writes)
