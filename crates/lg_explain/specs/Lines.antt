-- A line of a text, and how it is shown.
use Rattle.std.specs.Prelude.{ℕ, zero, suc, ◌+◌, ◌-◌, ◌==◌, Bool, not, ◌&&◌, ◌||◌, nat_lt, if◌then◌else◌, Option, Some, None, List, [], map, take, drop, position}

-- the place of the first line feed
abbrev pub first_feed : List ℕ → Option ℕ
first_feed text = position (λ b. b == 10) text

-- what is before it, and what after it
abbrev pub before_feed : List ℕ → Option ℕ → List ℕ
before_feed text None = text
before_feed text (Some at) = take at text

abbrev pub after_feed : List ℕ → Option ℕ → List ℕ
after_feed text None = []
after_feed text (Some at) = drop (at + 1) text

abbrev pub first_line : List ℕ → List ℕ
first_line text = before_feed text (first_feed text)

abbrev pub after_line : List ℕ → List ℕ
after_line text = after_feed text (first_feed text)

-- what is after the first n line feeds
abbrev pub after_lines : ℕ → List ℕ → List ℕ
after_lines zero text = text
after_lines (suc n) text = after_line (after_lines n text)

-- the line of a number, counted from 1, without its line feed; no bytes, where a text has fewer
abbrev pub line_in : List ℕ → ℕ → List ℕ
line_in text line = first_line (after_lines (line - 1) text)

-- the most bytes of a line that are shown
abbrev pub most_shown : ℕ
most_shown = 160

-- a control byte other than a tab
abbrev pub is_hidden : ℕ → Bool
is_hidden b = (nat_lt b 32 && not (b == 9)) || (b == 127)

-- which is shown as a question mark
abbrev pub shown_byte : ℕ → ℕ
shown_byte b = if is_hidden b then 63 else b

abbrev pub shown : List ℕ → List ℕ
shown line = map shown_byte (take most_shown line)
