-- How long the argument part is.
use Rattle.std.specs.Prelude.{ℕ, ◌+◌, ◌*◌, List, length, sum_by}

-- 8 bytes for each word and for the word of 0, and each string with its zero byte
abbrev pub args_len : List (List ℕ) → ℕ
args_len words = 8 * (length words + 1) + sum_by (λ w. length w + 1) words
