use Rattle.std.proofs.Common.{◌++◌, subst}
use Rattle.lg_command.specs.Commands.{shown}
use Rattle.lg_explain.proofs.WriteLemmas.{then_wrote}
use Rattle.lg_io.specs.SinkChanges.{WroteTo, on_sink}
use Rattle.lg_run.specs.Explanations.{explained_of}
use Rattle.lg_run.specs.Says.{lines_of}
use Rattle.std.specs.Prelude.{Some}
use Rattle.lg_run.proofs.top.write_told.Goals as goal

pub returns-in-Ok : goal.returns-in-Ok
returns-in-Ok g c =
    let worked = c.args.worked.now in
    let lines = lines_of (Some (shown c.args.command.now)) worked.done.code worked.done.steps worked.done.answer in
    subst (λ p. WroteTo (on_sink g.E.Sink.taken g.E.Sink.faults c.args.err.now c.write_explained.new.err) c.write_explained.result (lines ++ explained_of p.report c.args.command.now.file.now worked)) c.plan.ensures
    (then_wrote _ _ _ _ _ _ _ _ _ c.in-Ok.ensures.ok c.in-Ok.ensures.cause.kept c.write_explained.ensures)
