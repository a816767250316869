-- The calls of a source or sink in memory, some of which are to fail.
use Rattle.std.specs.Prelude.{ℕ, ◌==◌, Bool, List, if◌then◌else◌}
use Rattle.std.specs.List.{list_any}
use Rattle.lg_io.specs.Counts.{next_count}

-- the numbers of the calls that are to fail, how many calls were made, and how many of them failed
pub record Calls : Type 0 where
  pub fail_at : List ℕ
  pub made : ℕ
  pub faults : ℕ

-- whether the next call is to fail; the first one has the number 1
abbrev pub fails_next : Calls → Bool
fails_next calls = list_any (λ k. k == next_count calls.made) calls.fail_at

-- one call more, which failed or did not
abbrev pub counted : Calls → Bool → Calls
counted calls failed = record { fail_at = calls.fail_at; made = next_count calls.made; faults = if failed then next_count calls.faults else calls.faults }
