use Rattle.lg_meaning.specs.Texts.{text}
use Rattle.lg_mean.specs.Programs.{LeadsAmong}
use Rattle.lg_mean.proofs.labels.Tables.of.Given as goal

abbrev pub invariant-loop-label : goal.invariant-loop-label
invariant-loop-label l = LeadsAmong l.nodes (text l.nodes l.shape l.addresses) l.tables.jumps.entries l.tables.calls.entries l.label
