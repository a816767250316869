-- How the names of a function are held.
use Rattle.std.specs.Prelude.{◌≡◌, ◌≤◌, length, map}
use Rattle.lg_tst.specs.Names.{FunctionNames}
use Rattle.lg_tst.specs.declared.names.Names.TheInside.{Inside}

abbrev pub view_of : Inside → FunctionNames
view_of n = record { words = map (λ w. w.items) n.words.keys; meanings = n.meanings.items; arguments = n.arguments; locals = n.locals; lowest = n.lowest }

-- each name has its meaning, and each argument and local its name
pub record IsNames (n : Inside) : Type 0 where
  pub paired : length n.meanings.items ≡ length n.words.keys
  pub arguments : n.arguments ≤ length n.words.keys
  pub locals : n.locals ≤ length n.words.keys
