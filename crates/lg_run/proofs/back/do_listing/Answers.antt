use Rattle.std.proofs.Common.{refl, ◌∙◌}
use Rattle.lg_command.specs.Commands.{shown}
use Rattle.lg_io.specs.SinkChanges.{on_sink}
use Rattle.lg_run.proofs.BackLemmas.{back_refused}
use Rattle.lg_run.proofs.WorkLemmas.{stopped_says}
use Rattle.lg_run.proofs.back.do_listing.Goals as goal

pub returns-in-Err-clause-says : goal.returns-in-Err-clause-says
returns-in-Err-clause-says g c = λ held under.
    let done = c.without_code.result in
    stopped_says (shown c.args.command.now) held done.code done.steps (on_sink g.O.Sink.taken g.O.Sink.faults c.args.out.now c.args.out.now) done.answer c.in-Err.stop
    record { refused = λ r e. c.without_code.ensures.0 ∙ c.stopped.ensures.refused r e; memory = λ e. c.without_code.ensures.0 ∙ c.stopped.ensures.memory e }
    record { none = c.without_code.ensures.1; still = record { steps_none = c.without_code.ensures.2; out_same = refl } }
    (λ r e. back_refused (shown c.args.command.now) held c.args.read.now r c.in-Err.stop c.requires.listing c.requires.fits under c.in-Err.ensures.reads c.requires.short e)
