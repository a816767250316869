-- The status that says whether all cases are right.
use Rattle.std.specs.Prelude.{ℕ, Bool, true, false}

-- the status of the program, by whether all cases are right
abbrev pub status_of : Bool → ℕ
status_of true = 0
status_of false = 1
