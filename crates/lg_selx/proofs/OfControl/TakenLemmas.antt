-- The first of a list.
use Rattle.std.proofs.Common.{ℕ, zero, suc, List, [], ◌∷◌}
use Rattle.std.specs.Prelude.{take}
use Rattle.lg_sel.specs.Holes.{Each}

-- what holds of each holds of each of the first
pub each-taken : {L : Type 0} (P : L → Type 0) (n : ℕ) (xs : List L) → Each P xs → Each P (take n xs)
each-taken P zero xs h = tt
each-taken P (suc n) [] h = tt
each-taken P (suc n) (x ∷ xs) h = (h.0, each-taken P n xs h.1)
