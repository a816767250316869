use Rattle.std.proofs.Common.{◌≡◌, ℕ, ◌+◌, ◌-◌, List, [], ◌∷◌, ◌++◌, length, Option, sym, ap, ◌∙◌, subst, arith, length-append}
use Rattle.std.specs.Option.{option_map}
use Rattle.lg_host.specs.Output.{bytes_from}
use Rattle.lg_host.specs.Host.{TextSays, int_answer}
use Rattle.lg_host.specs.declared.host_end.HostEnd.TheVariants as end
use Rattle.lg_host.proofs.StringLemmas.{length-bytes, string-told}
use Rattle.lg_host.proofs.OutputLemmas.{int_answer-low}
use Rattle.lg_host.proofs.output.puts.Goals as goal

pub returns-in-Ok-clause-says : goal.returns-in-Ok-clause-says
returns-in-Ok-clause-says g c =
    let m = g.S.Space.byte_of c.args.mem.now in
    let bs : List ℕ = bytes_from (c.in-Some.end - c.args.from) m c.args.from in
    let len : c.in-Some.end - c.args.from + 1 ≡ length (bs ++ 10 ∷ []) = omega (arith, length-append bs (10 ∷ []), length-bytes (c.in-Some.end - c.args.from) m c.args.from) in
    subst (λ (o : Option (List ℕ)). TextSays (option_map (λ string. string ++ 10 ∷ []) o) record { old = g.O.Sink.taken c.args.out.now; new = g.O.Sink.taken c.write_parts.new.out; before = g.O.Sink.faults c.args.out.now; now = g.O.Sink.faults c.write_parts.new.out } (end.Value c.int_answer.result)) (sym (string-told m c.args.from c.in-Some.end c.in-Some.ensures.value)) (c.int_answer.ensures ∙ int_answer-low (c.in-Some.end - c.args.from + 1) ∙ ap int_answer len, c.in-Ok.ensures.ok, c.in-Ok.ensures.cause.kept)

pub returns-in-Err-clause-says : goal.returns-in-Err-clause-says
returns-in-Err-clause-says g c =
    let m = g.S.Space.byte_of c.args.mem.now in
    subst (λ (o : Option (List ℕ)). TextSays (option_map (λ string. string ++ 10 ∷ []) o) record { old = g.O.Sink.taken c.args.out.now; new = g.O.Sink.taken c.write_parts.new.out; before = g.O.Sink.faults c.args.out.now; now = g.O.Sink.faults c.write_parts.new.out } end.WriteFault) (sym (string-told m c.args.from c.in-Some.end c.in-Some.ensures.value)) (c.in-Err.ensures.err, c.in-Err.ensures.cause.failed)
