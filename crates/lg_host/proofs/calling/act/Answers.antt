use Rattle.std.proofs.Common.{ℕ, length, Option, subst}
use Rattle.std.specs.Option.{option_map}
use Rattle.lg_host.specs.Runs.{run}
use Rattle.lg_host.specs.Strings.{string_in, compared, atoi_in}
use Rattle.lg_host.specs.Host.{Mem, MemSays, answered}
use Rattle.lg_host.proofs.HostLemmas.{HostSays-memory}
use Rattle.lg_host.proofs.calling.act.Goals as goal

pub returns-in-Atoi-clause-says : goal.returns-in-Atoi-clause-says
returns-in-Atoi-clause-says g c =
    let m : Mem = record { bytes = g.S.Space.byte_of c.args.mem.now; room = g.S.Space.room c.args.mem.now; mark = c.args.heap.now } in
    rw c.in-Atoi.is (HostSays-memory (answered m.mark (atoi_in (run m.bytes c.args.a))) m m (g.O.Sink.taken c.args.out.now) (g.O.Sink.faults c.args.out.now) c.answered.result (subst (λ (o : Option ℕ). MemSays (answered m.mark o) m m c.answered.result) c.atoi.ensures (c.answered.ensures m.bytes m.room m.mark)))

pub returns-in-Strlen-clause-says : goal.returns-in-Strlen-clause-says
returns-in-Strlen-clause-says g c =
    let m : Mem = record { bytes = g.S.Space.byte_of c.args.mem.now; room = g.S.Space.room c.args.mem.now; mark = c.args.heap.now } in
    rw c.in-Strlen.is (HostSays-memory (answered m.mark (option_map length (string_in (run m.bytes c.args.a)))) m m (g.O.Sink.taken c.args.out.now) (g.O.Sink.faults c.args.out.now) c.answered-in-Strlen.result (subst (λ (o : Option ℕ). MemSays (answered m.mark o) m m c.answered-in-Strlen.result) c.strlen.ensures (c.answered-in-Strlen.ensures m.bytes m.room m.mark)))

pub returns-in-Strcmp-clause-says : goal.returns-in-Strcmp-clause-says
returns-in-Strcmp-clause-says g c =
    let m : Mem = record { bytes = g.S.Space.byte_of c.args.mem.now; room = g.S.Space.room c.args.mem.now; mark = c.args.heap.now } in
    rw c.in-Strcmp.is (HostSays-memory (answered m.mark (compared (run m.bytes c.args.a) (run m.bytes c.args.b))) m m (g.O.Sink.taken c.args.out.now) (g.O.Sink.faults c.args.out.now) c.answered-in-Strcmp.result (subst (λ (o : Option ℕ). MemSays (answered m.mark o) m m c.answered-in-Strcmp.result) c.compare.ensures (c.answered-in-Strcmp.ensures m.bytes m.room m.mark)))
