-- White space and comments.
use Rattle.std.specs.Prelude.{ℕ, zero, suc, ◌+◌, ◌==◌, ◌&&◌, if◌then◌else◌, List, [], ◌∷◌, length, drop, slice_index, Option, Some, None}
use Rattle.std.specs.List.{prefix_len}
use Rattle.std.specs.Option.{option_map_or}
use Rattle.lg_lex.specs.Bytes.{is_space, is_in_line, further}

-- how many bytes there are up to the first */, that included
unfoldable pub block_rest : List ℕ → Option ℕ
block_rest [] = None
block_rest (b ∷ bytes) = if (b == 42) && (slice_index bytes 0 == 47) then Some 2 else further 1 (block_rest bytes)

-- the length of a comment: // to the end of the line, or /* to the first */ after it
unfoldable pub comment_at : List ℕ → Option ℕ
comment_at bytes =
    if slice_index bytes 0 == 47 then
    (if slice_index bytes 1 == 47 then Some (prefix_len is_in_line bytes)
    else (if slice_index bytes 1 == 42 then further 2 (block_rest (drop 2 bytes)) else None))
    else None

-- the length of white space or of a comment
unfoldable pub blank_at : List ℕ → Option ℕ
blank_at bytes = if is_space (slice_index bytes 0) then Some (prefix_len is_space bytes) else comment_at bytes

-- the place after the white space and the comments from a place on; at most this many of them
unfoldable pub after_most_blanks : ℕ → List ℕ → ℕ → ℕ
after_most_blanks zero bytes place = place
after_most_blanks (suc k) bytes place = option_map_or (λ n. after_most_blanks k bytes (place + n)) (blank_at (drop place bytes)) place

-- the place after all white space and comments from a place on; an unfinished comment is none
unfoldable pub after_blanks : List ℕ → ℕ → ℕ
after_blanks bytes place = after_most_blanks (suc (length bytes)) bytes place
