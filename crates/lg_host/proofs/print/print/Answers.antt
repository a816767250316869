use Rattle.lg_host.specs.Output.{output}
use Rattle.lg_host.proofs.PrintLemmas.{Prints-flushed, Prints-none, Prints-err}
use Rattle.lg_host.proofs.print.print.Goals as goal

pub returns-in-Ok-Some : goal.returns-in-Ok-Some
returns-in-Ok-Some g c = Prints-flushed _ (output (g.O.Sink.taken c.args.out.now) c.new-buffer.result (g.O.Sink.faults c.args.out.now)) (output (g.O.Sink.taken c.put_format.new.out) c.put_format.new.buffer (g.O.Sink.faults c.put_format.new.out)) (g.O.Sink.taken c.flush_all.new.out) _ c.in-Ok-Some.count c.flush_all.result c.new-buffer.ensures (rw c.in-Ok-Some.field-0-is at c.in-Ok-Some.ensures.ok) c.in-Ok-Some.ensures.cause.kept c.flush_all.ensures.ok c.flush_all.ensures.err c.flush_all.ensures.cause

pub returns-in-Ok-None : goal.returns-in-Ok-None
returns-in-Ok-None g c = Prints-none _ (output (g.O.Sink.taken c.args.out.now) c.new-buffer.result (g.O.Sink.faults c.args.out.now)) (output (g.O.Sink.taken c.put_format.new.out) c.put_format.new.buffer (g.O.Sink.faults c.put_format.new.out)) (rw c.in-Ok-None.field-0-is at c.in-Ok-None.ensures.ok) c.in-Ok-None.ensures.cause.kept

pub returns-in-Err : goal.returns-in-Err
returns-in-Err g c = Prints-err _ (output (g.O.Sink.taken c.args.out.now) c.new-buffer.result (g.O.Sink.faults c.args.out.now)) (output (g.O.Sink.taken c.put_format.new.out) c.put_format.new.buffer (g.O.Sink.faults c.put_format.new.out)) c.in-Err.fault c.new-buffer.ensures c.in-Err.ensures
