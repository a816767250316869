-- How words that were made are held.
use Rattle.std.specs.Prelude.{ℕ, List, map}
use Rattle.lg_explain.specs.declared.made.Made.TheInside.{Inside}

abbrev pub view_of : Inside → List (List ℕ)
view_of m = map (λ w. w.items) m.words.keys
