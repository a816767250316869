use Rattle.std.proofs.Common.{ℕ, List, sym, ap, ◌∙◌, subst}
use Rattle.lg_host.specs.Output.{Passed, output, bytes_from}
use Rattle.lg_host.proofs.OutputLemmas.{bytes_from-list}
use Rattle.lg_host.proofs.parts.put_text.Goals as goal

pub returns-in-Some : goal.returns-in-Some
returns-in-Some g c =
    let m = g.S.Space.byte_of c.args.mem.now in
    let old = output (g.O.Sink.taken c.args.out.now) c.args.buffer.now (g.O.Sink.faults c.args.out.now) in
    let new = output (g.O.Sink.taken c.put.new.out) c.put.new.self (g.O.Sink.faults c.put.new.out) in
    let is = ap (λ n. bytes_from n m c.args.from) (sym c.saturating_sub.ensures) ∙ bytes_from-list m c.args.from c.saturating_sub.result c.in-Some.bytes.now c.in-Some.ensures in
    subst (λ (bytes : List ℕ). Passed old new c.put.result bytes) (sym is) record { ok = c.put.ensures.ok; err = c.put.ensures.err; cause = c.put.ensures.cause }
