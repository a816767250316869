use Rattle.std.proofs.Common.{◌≡◌, [], drop}
use Rattle.lg_macro.specs.Defines.{names_of}
use Rattle.lg_macro.proofs.defines.names_of.Given as goal

abbrev pub invariant-groups : goal.invariant-groups
invariant-groups l = names_of l.names.items (drop l.i l.groups) ≡ names_of [] l.groups
