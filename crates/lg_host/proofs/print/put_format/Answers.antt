use Rattle.std.proofs.Common.{◌+◌, drop, sym, ap, ◌∙◌, arith}
use Rattle.lg_host.specs.Printed.{step_of, printed_at}
use Rattle.lg_host.specs.Output.{output}
use Rattle.lg_host.proofs.PrintLemmas.{onto, printed-none, printed-end, printed-open, printed-stop, printed-step, printed-top, Told-none, Told-end, Told-err, after-none, SoFar-more}
use Rattle.lg_host.proofs.print.put_format.Goals as goal

pub returns-in_default : goal.returns-in_default
returns-in_default g c =
    let i = c.loop-at.invariant in
    Told-none _ (output (g.O.Sink.taken c.args.out.now) c.args.buffer.now (g.O.Sink.faults c.args.out.now)) (output (g.O.Sink.taken c.loop-at.out) c.loop-at.buffer (g.O.Sink.faults c.loop-at.out)) (i.so_far.is ∙ ap (onto i.so_far.done) (printed-none (g.S.Space.byte_of c.args.mem.now) c.loop-at.place.reading c.loop-at.at (drop c.loop-at.place.used c.args.args.now) c.in_default.ensures)) i.same

pub returns-then-is_plain : goal.returns-then-is_plain
returns-then-is_plain g c =
    let i = c.loop-at.invariant in
    Told-end _ (output (g.O.Sink.taken c.args.out.now) c.args.buffer.now (g.O.Sink.faults c.args.out.now)) (output (g.O.Sink.taken c.loop-at.out) c.loop-at.buffer (g.O.Sink.faults c.loop-at.out)) _ i.so_far.done (i.so_far.is ∙ ap (onto i.so_far.done) (printed-end (g.S.Space.byte_of c.args.mem.now) c.loop-at.place.reading c.loop-at.at c.in-Some.byte (drop c.loop-at.place.used c.args.args.now) (omega arith) c.in-Some.ensures c.if-byte-eq0.true (sym c.is_plain.ensures ∙ c.if-is_plain.true))) i.so_far.told i.so_far.count_is i.same

pub returns-then-byte-eq0 : goal.returns-then-byte-eq0
returns-then-byte-eq0 g c =
    let i = c.loop-at.invariant in
    Told-none _ (output (g.O.Sink.taken c.args.out.now) c.args.buffer.now (g.O.Sink.faults c.args.out.now)) (output (g.O.Sink.taken c.loop-at.out) c.loop-at.buffer (g.O.Sink.faults c.loop-at.out)) (i.so_far.is ∙ ap (onto i.so_far.done) (printed-open (g.S.Space.byte_of c.args.mem.now) c.loop-at.place.reading c.loop-at.at c.in-Some.byte (drop c.loop-at.place.used c.args.args.now) (omega arith) c.in-Some.ensures c.if-byte-eq0.true (sym c.is_plain.ensures ∙ c.if-is_plain.false))) i.same

pub returns-in-Ok-None : goal.returns-in-Ok-None
returns-in-Ok-None g c =
    let i = c.loop-at.invariant in
    let m = g.S.Space.byte_of c.args.mem.now in
    let no = after-none (step_of m c.loop-at.place.reading c.in-Some.byte (drop c.loop-at.place.used c.args.args.now)) c.loop-at.place.count c.args.args.now (output (g.O.Sink.taken c.loop-at.out) c.loop-at.buffer (g.O.Sink.faults c.loop-at.out)) (output (g.O.Sink.taken c.step.new.out) c.step.new.buffer (g.O.Sink.faults c.step.new.out)) (rw c.in-Ok-None.field-0-is at c.in-Ok-None.ensures.ok) in
    Told-none _ (output (g.O.Sink.taken c.args.out.now) c.args.buffer.now (g.O.Sink.faults c.args.out.now)) (output (g.O.Sink.taken c.step.new.out) c.step.new.buffer (g.O.Sink.faults c.step.new.out)) (i.so_far.is ∙ ap (onto i.so_far.done) (printed-stop m c.loop-at.place.reading c.loop-at.at c.in-Some.byte (drop c.loop-at.place.used c.args.args.now) (omega arith) c.in-Some.ensures c.if-byte-eq0.false no)) (omega (arith, i.same, c.in-Ok-None.ensures.cause.kept))

pub returns-in-Err : goal.returns-in-Err
returns-in-Err g c =
    let i = c.loop-at.invariant in
    let m = g.S.Space.byte_of c.args.mem.now in
    Told-err _ (output (g.O.Sink.taken c.args.out.now) c.args.buffer.now (g.O.Sink.faults c.args.out.now)) (output (g.O.Sink.taken c.loop-at.out) c.loop-at.buffer (g.O.Sink.faults c.loop-at.out)) (output (g.O.Sink.taken c.step.new.out) c.step.new.buffer (g.O.Sink.faults c.step.new.out)) c.in-Err.fault i.so_far.done (step_of m c.loop-at.place.reading c.in-Some.byte (drop c.loop-at.place.used c.args.args.now)) (λ e. printed_at m e.reading (c.loop-at.at + 1) e.left) (i.so_far.is ∙ ap (onto i.so_far.done) (printed-step m c.loop-at.place.reading c.loop-at.at c.in-Some.byte (drop c.loop-at.place.used c.args.args.now) (omega arith) c.in-Some.ensures c.if-byte-eq0.false)) i.so_far.told c.in-Err.ensures.err i.same c.in-Err.ensures.cause.later c.in-Err.ensures.cause.failed

pub loop-at-preserved : goal.loop-at-preserved
loop-at-preserved g c =
    let i = c.loop-at.invariant in
    record {
      so_far = SoFar-more _ (g.S.Space.byte_of c.args.mem.now) c.loop-at.place c.in-Ok-Some.more c.in-Some.byte c.loop-at.at c.args.args.now (output (g.O.Sink.taken c.args.out.now) c.args.buffer.now (g.O.Sink.faults c.args.out.now)) (output (g.O.Sink.taken c.loop-at.out) c.loop-at.buffer (g.O.Sink.faults c.loop-at.out)) (output (g.O.Sink.taken c.step.new.out) c.step.new.buffer (g.O.Sink.faults c.step.new.out)) (omega arith) c.in-Some.ensures c.if-byte-eq0.false i.so_far (rw c.in-Ok-Some.field-0-is at c.in-Ok-Some.ensures.ok);
      same = omega (arith, i.same, c.in-Ok-Some.ensures.cause.kept);
    }

pub returns : goal.returns
returns g c =
    let i = c.loop-at.invariant in
    Told-none _ (output (g.O.Sink.taken c.args.out.now) c.args.buffer.now (g.O.Sink.faults c.args.out.now)) (output (g.O.Sink.taken c.loop-at.out) c.loop-at.buffer (g.O.Sink.faults c.loop-at.out)) (i.so_far.is ∙ ap (onto i.so_far.done) (printed-top (g.S.Space.byte_of c.args.mem.now) c.loop-at.place.reading c.loop-at.at (drop c.loop-at.place.used c.args.args.now) (omega arith))) i.same

pub returns-in-Ok-Some : goal.returns-in-Ok-Some
returns-in-Ok-Some g c =
    let i = c.loop-at.invariant in
    let m = g.S.Space.byte_of c.args.mem.now in
    let old = output (g.O.Sink.taken c.args.out.now) c.args.buffer.now (g.O.Sink.faults c.args.out.now) in
    let mid = output (g.O.Sink.taken c.loop-at.out) c.loop-at.buffer (g.O.Sink.faults c.loop-at.out) in
    let new = output (g.O.Sink.taken c.step.new.out) c.step.new.buffer (g.O.Sink.faults c.step.new.out) in
    let more = c.in-Ok-Some.more in
    let s = SoFar-more _ m c.loop-at.place more c.in-Some.byte c.loop-at.at c.args.args.now old mid new (omega arith) c.in-Some.ensures c.if-byte-eq0.false i.so_far (rw c.in-Ok-Some.field-0-is at c.in-Ok-Some.ensures.ok) in
    Told-none _ old new (s.is ∙ ap (onto s.done) (printed-top m more.reading (c.loop-at.at + 1) (drop more.used c.args.args.now) (omega arith))) (omega (arith, i.same, c.in-Ok-Some.ensures.cause.kept))
