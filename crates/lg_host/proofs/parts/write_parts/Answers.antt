use Rattle.lg_host.specs.Output.{output}
use Rattle.lg_host.proofs.OutputLemmas.{Wrote-flushed}
use Rattle.lg_host.proofs.parts.write_parts.Goals as goal

pub returns-in-Ok : goal.returns-in-Ok
returns-in-Ok g c = Wrote-flushed (output (g.O.Sink.taken c.args.out.now) c.new-buffer.result (g.O.Sink.faults c.args.out.now)) (output (g.O.Sink.taken c.put_parts.new.out) c.put_parts.new.buffer (g.O.Sink.faults c.put_parts.new.out)) (g.O.Sink.taken c.flush.new.out) _ c.flush.result _ c.new-buffer.ensures c.in-Ok.ensures.ok c.in-Ok.ensures.cause.kept c.flush.ensures.wrote
