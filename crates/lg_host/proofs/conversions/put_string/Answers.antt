use Rattle.std.proofs.Common.{ℕ, List, [], Option, sym, subst}
use Rattle.std.specs.Option.{option_map}
use Rattle.lg_host.specs.Printed.{padded}
use Rattle.lg_host.specs.Output.{output, Told}
use Rattle.lg_host.proofs.StringLemmas.{length-bytes, string-told}
use Rattle.lg_host.proofs.conversions.put_string.Goals as goal

pub put_padded-requires-clause-len : goal.put_padded-requires-clause-len
put_padded-requires-clause-len g c = length-bytes _ (g.S.Space.byte_of c.args.mem.now) _

pub returns : goal.returns
returns g c = subst (λ (o : Option (List ℕ)). Told (option_map (padded c.args.style []) o) (output (g.O.Sink.taken c.args.out.now) c.args.buffer.now (g.O.Sink.faults c.args.out.now)) (output (g.O.Sink.taken c.put_padded.new.out) c.put_padded.new.buffer (g.O.Sink.faults c.put_padded.new.out)) c.put_padded.result) (sym (string-told (g.S.Space.byte_of c.args.mem.now) c.args.from c.in-Some.end c.in-Some.ensures.value)) c.put_padded.ensures
