use Rattle.std.proofs.Common.{drop}
use Rattle.std.specs.List.{AllByRecursion}
use Rattle.lg_replacement.specs.Replacements.{NameNothing}
use Rattle.lg_replacement.proofs.expansion.name_nothing.Given as goal

abbrev pub invariant-raw : goal.invariant-raw
invariant-raw l = AllByRecursion (NameNothing l.table) (drop l.i l.raw) → AllByRecursion (NameNothing l.table) l.raw
