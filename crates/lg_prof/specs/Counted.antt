-- Steps that are counted for lines.
use Rattle.std.specs.Prelude.{ℕ, zero, suc, ◌+◌, ◌==◌, ◌&&◌, Bool, if◌then◌else◌}

-- of the first n steps those that were made and belong to a line, by whether each was made and by the line of each
unfoldable pub counted : (made : ℕ → Bool) → (line_of : ℕ → ℕ) → (line : ℕ) → ℕ → ℕ
counted made line_of line zero = 0
counted made line_of line (suc n) = counted made line_of line n + (if made n && line_of n == line then 1 else 0)

-- of the first n steps those that were made
unfoldable pub all_made : (made : ℕ → Bool) → ℕ → ℕ
all_made made zero = 0
all_made made (suc n) = all_made made n + (if made n then 1 else 0)

-- the sum of the numbers of the lines below a number
unfoldable pub total : (numbers : ℕ → ℕ) → (top : ℕ) → ℕ
total numbers zero = 0
total numbers (suc line) = total numbers line + numbers line
