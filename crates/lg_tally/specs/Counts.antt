-- Counts, which stop at the greatest number of 64 bits.
use Rattle.std.specs.Prelude.{ℕ, ◌+◌, ◌-◌, ◌^◌, min, ⊤}
use Rattle.lg_tally.specs.declared.counts.Counts.{Counts}
use Rattle.lg_tally.specs.declared.counts.Outcome.{Outcome}
use Rattle.lg_tally.specs.declared.counts.Outcome.TheVariants.{Agrees, Differs}

abbrev pub one_more : ℕ → ℕ
one_more n = min (n + 1) (2 ^ 64 - 1)

-- the counts with one case more
abbrev pub counted : Counts → Outcome → Counts
counted counts Agrees = record counts { agree = one_more counts.agree }
counted counts (Differs found) = record counts { differ = one_more counts.differ }

-- the outcome of a case that differs
abbrev pub Differing : Outcome → Type 0
Differing Agrees = ⊥
Differing (Differs found) = ⊤
