-- Fields: runs of neighbouring bits of a word, and the numbers that they hold.
use Rattle.std.specs.Prelude.{ℕ, suc, ◌+◌, ◌-◌, ◌/◌, ◌%◌, ◌^◌, ℤ, pos, negsuc, nat_lt, if◌then◌else◌}

-- the len bits of a word from bit lo on
abbrev pub part : ℕ → ℕ → ℕ → ℕ
part lo len word = word / 2 ^ lo % 2 ^ len

-- the signed number that is in a field of half + half values: the upper half of them is negative
abbrev pub signed : ℕ → ℕ → ℤ
signed half bits = if nat_lt bits half then pos bits else negsuc (half + half - suc bits)

-- the bits of a signed number in a field of half + half values
abbrev pub bits_of : ℕ → ℤ → ℕ
bits_of half (pos k) = k
bits_of half (negsuc k) = half + half - suc k

-- the word of 64 bits whose signed view is the number
abbrev pub word_of : ℤ → ℕ
word_of (pos k) = k
word_of (negsuc k) = 2 ^ 64 - suc k
