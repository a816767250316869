-- How the macros that are defined are held.
use Rattle.std.specs.Prelude.{◌≡◌, map}
use Rattle.lg_macro.specs.declared.macros.Table.TheInside.{Inside}

-- the names beside the macros are theirs, in the same order
abbrev pub IsTable : Inside → Type 0
IsTable t = map (λ w. w.items) t.names.keys ≡ map (λ m. m.name) t.macros.items
