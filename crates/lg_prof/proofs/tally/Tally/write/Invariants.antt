use Rattle.std.proofs.Common.{◌≡◌}
use Rattle.std.specs.Io.KnownBytes.{Appends}
use Rattle.lg_prof.specs.Tables.{table_below}
use Rattle.lg_prof.specs.Tallies.{ran_at, spent_at}
use Rattle.lg_prof.proofs.tally.Tally.write.Given as goal

abbrev pub invariant-loop-line : goal.invariant-loop-line
invariant-loop-line g l = record {
  told : Appends (g.E.Sink.taken l.fn.err) (g.E.Sink.taken l.err) (table_below (ran_at l.self) (spent_at l.self) l.line);
  same : g.E.Sink.faults l.err ≡ g.E.Sink.faults l.fn.err;
}
