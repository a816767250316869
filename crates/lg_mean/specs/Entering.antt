-- Calls of functions from outside of the text.
use Rattle.std.specs.Prelude.{◌≡◌, ℕ, List}
use Rattle.lg_meaning.specs.States.{State}
use Rattle.lg_meaning.specs.Starts.{entry_after}

-- a call from outside begins with the same after a run that came to the one state or to the other
abbrev pub BeginsAlike : State → State → Type 0
BeginsAlike s t = (sp : ℕ) (args : List ℕ) → entry_after t sp args ≡ entry_after s sp args
