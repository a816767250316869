-- The numbers of the lines of a text.
use Rattle.std.specs.Prelude.{ℕ, List, [], ◌∷◌, slice_index_or}
pub use Rattle.lg_mean.specs.LineCounts.{AreBelow}
use Rattle.lg_prof.specs.declared.tally.Counts.{Counts}

abbrev pub no_counts : Counts
no_counts = record { ran = 0; spent = 0 }

-- the numbers of each line, from two lists
abbrev pub zipped : (ran spent : List ℕ) → List Counts
zipped (r ∷ ran) (s ∷ spent) = record { ran = r; spent = s } ∷ zipped ran spent
zipped ran spent = []

-- how many steps of the text a line has, and how many of its code; a line that is in no tally has none
abbrev pub ran_at : List Counts → ℕ → ℕ
ran_at tally line = (slice_index_or tally line no_counts).ran

abbrev pub spent_at : List Counts → ℕ → ℕ
spent_at tally line = (slice_index_or tally line no_counts).spent
