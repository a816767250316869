-- The lines that report the numbers.
use Rattle.std.specs.Prelude.{ℕ, zero, suc, ◌==◌, ◌&&◌, if◌then◌else◌, List, [], ◌∷◌, ◌++◌, length, codes}
use Rattle.lg_io.specs.Wrote.{row}
use Rattle.lg_io.specs.Radixes.{digits_in}
use Rattle.lg_io.specs.declared.digits.Radix.TheVariants.{Decimal}
use Rattle.lg_prof.specs.Tallies.{ran_at, spent_at}
use Rattle.lg_prof.specs.declared.tally.Counts.{Counts}

abbrev pub numbers_line : (line ran spent : ℕ) → List ℕ
numbers_line line ran spent =
    row (codes "line " ∷ digits_in Decimal line ∷ codes " steps " ∷ digits_in Decimal ran ∷ codes " instructions " ∷ digits_in Decimal spent ∷ codes "\n" ∷ [])

-- a line is reported where one of its numbers is not 0
abbrev pub told_line : (line ran spent : ℕ) → List ℕ
told_line line ran spent = if ran == 0 && spent == 0 then [] else numbers_line line ran spent

-- the lines below a number, rising
unfoldable pub table_below : (ran spent : ℕ → ℕ) → (top : ℕ) → List ℕ
table_below ran spent zero = []
table_below ran spent (suc line) = table_below ran spent line ++ told_line line (ran line) (spent line)

abbrev pub table : List Counts → List ℕ
table tally = table_below (ran_at tally) (spent_at tally) (length tally)
