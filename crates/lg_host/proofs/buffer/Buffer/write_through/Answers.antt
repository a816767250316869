use Rattle.std.proofs.Common.{List, ℕ, sym, subst}
use Rattle.lg_host.specs.Output.{Passed, output}
use Rattle.lg_host.proofs.OutputLemmas.{Passed-written}
use Rattle.lg_host.proofs.buffer.Buffer.write_through.Goals as goal

pub returns-in-Ok : goal.returns-in-Ok
returns-in-Ok g c =
    let old = output (g.O.Sink.taken c.args.out.now) c.args.self.now (g.O.Sink.faults c.args.out.now) in
    let now = g.O.Sink.faults c.write_all.new.out in
    let w = Passed-written old (g.O.Sink.taken c.flush.new.out) (g.O.Sink.taken c.write_all.new.out) (g.O.Sink.faults c.flush.new.out) now c.write_all.result c.args.bytes.now
    c.in-Ok.ensures.wrote.ok c.in-Ok.ensures.wrote.cause.kept c.write_all.ensures.ok c.write_all.ensures.err c.write_all.ensures.cause in
    subst (λ (waiting : List ℕ). Passed old (output (g.O.Sink.taken c.write_all.new.out) waiting now) c.write_all.result c.args.bytes.now) (sym c.in-Ok.ensures.empty) w
