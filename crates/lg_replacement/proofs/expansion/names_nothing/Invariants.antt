use Rattle.std.proofs.Common.{drop}
use Rattle.lg_replacement.specs.Replacements.{NameNothing}
use Rattle.lg_replacement.proofs.expansion.names_nothing.Given as goal

abbrev pub invariant-pieces : goal.invariant-pieces
invariant-pieces l = NameNothing l.table (drop l.at l.pieces) → NameNothing l.table l.pieces
