-- The generator splitmix64 (Steele, Lea and Flood, "Fast Splittable Pseudorandom Number Generators"): the state goes up by a fixed word, and a number is a
-- mixture of its bits.
use Rattle.std.specs.Prelude.{ℕ, ◌/◌, ◌^◌, bit_xor}
use Rattle.lg_base.specs.Words.{add_words, mul_words}

abbrev pub next : ℕ → ℕ
next state = add_words state 0x9e3779b97f4a7c15

abbrev pub folded : ℕ → ℕ → ℕ
folded word shift = bit_xor word (word / 2 ^ shift)

abbrev pub mixed : ℕ → ℕ
mixed state = folded (mul_words (folded (mul_words (folded state 30) 0xbf58476d1ce4e5b9) 27) 0x94d049bb133111eb) 31
