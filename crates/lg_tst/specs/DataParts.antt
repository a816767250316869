-- The data part of a text as it is read.
use Rattle.std.specs.Prelude.{ℕ, ◌+◌, ◌-◌, Bool, nat_le, List, [], ◌++◌, length, replicate, Option, None, unwrap_or}

-- the size that `.data` gives it, and the bytes of the items and skips so far
pub record DataBytes : Type 0 where
  pub size : Option ℕ
  pub bytes : List ℕ

abbrev pub no_data : DataBytes
no_data = record { size = None; bytes = [] }

abbrev pub limit_of : DataBytes → ℕ
limit_of part = unwrap_or part.size 0

-- this many bytes more do not pass the size
abbrev pub fits : DataBytes → ℕ → Bool
fits part n = nat_le (length part.bytes + n) (limit_of part)

abbrev pub with_bytes : DataBytes → List ℕ → DataBytes
with_bytes part more = record part { bytes = part.bytes ++ more }

abbrev pub zeros : ℕ → List ℕ
zeros n = replicate n 0

-- the bytes of the data part: those of its items and skips, and zeros up to its size
abbrev pub image_of : DataBytes → List ℕ
image_of part = part.bytes ++ zeros (limit_of part - length part.bytes)
