use Rattle.std.proofs.Common.{ℕ, List, ◌++◌, subst}
use Rattle.lg_io.specs.SinkChanges.{WroteTo, on_sink}
use Rattle.lg_run.specs.Lines.{line_of, stats_of}
use Rattle.lg_run.proofs.top.write_answer.Goals as goal

pub returns : goal.returns
returns g c =
    let done = c.args.done.now in
    let stats = stats_of c.args.command.now.stats done.code done.steps done.answer in
    subst (λ (file : List ℕ). WroteTo (on_sink g.E.Sink.taken g.E.Sink.faults c.args.err.now c.write_lines.new.err) c.write_lines.result (stats ++ line_of file done.steps done.answer))
    c.name_in.ensures c.write_lines.ensures
