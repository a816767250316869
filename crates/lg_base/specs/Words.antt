-- Words of 64 bits: numbers below 2 ^ 64, and the operators that the portable meaning and the three
-- processors share. Arithmetic is modulo 2 ^ 64; signed operators read a word in two's complement.
use Rattle.std.specs.Prelude.{ℕ, ◌+◌, ◌-◌, ◌*◌, ◌/◌, ◌%◌, ◌^◌, Bool, false, nat_lt, nat_le, ℤ, pos, negsuc, if◌then◌else◌, not}

-- the signed view of a word
abbrev pub signed_view : ℕ → ℤ
signed_view a = if nat_lt a (2 ^ 63) then pos a else negsuc (2 ^ 64 - 1 - a)

abbrev pub is_negative : ℕ → Bool
is_negative a = nat_le (2 ^ 63) a

-- sums, differences, products
abbrev pub add_words : ℕ → ℕ → ℕ
add_words a b = (a + b) % 2 ^ 64

abbrev pub sub_words : ℕ → ℕ → ℕ
sub_words a b = (a + (2 ^ 64 - b)) % 2 ^ 64

abbrev pub mul_words : ℕ → ℕ → ℕ
mul_words a b = a * b % 2 ^ 64

abbrev pub negated : ℕ → ℕ
negated a = (2 ^ 64 - a) % 2 ^ 64

-- each bit turned
abbrev pub complement : ℕ → ℕ
complement a = 2 ^ 64 - 1 - a

-- the word of 128 bits with the same signed view
abbrev pub extended : ℕ → ℕ
extended a = if nat_lt a (2 ^ 63) then a else a + (2 ^ 128 - 2 ^ 64)

-- the high word of the product of 128 bits: of unsigned words, of signed ones, and of a signed and an unsigned one
abbrev pub high_product : ℕ → ℕ → ℕ
high_product a b = a * b / 2 ^ 64

abbrev pub high_product_signed : ℕ → ℕ → ℕ
high_product_signed a b = extended a * extended b % 2 ^ 128 / 2 ^ 64

abbrev pub high_product_mixed : ℕ → ℕ → ℕ
high_product_mixed a b = extended a * b % 2 ^ 128 / 2 ^ 64

-- the size of a signed word, at most 2 ^ 63
abbrev pub magnitude : ℕ → ℕ
magnitude a = if nat_lt a (2 ^ 63) then a else 2 ^ 64 - a

abbrev pub with_sign : Bool → ℕ → ℕ
with_sign negative n = if negative then negated n else n

abbrev pub differ : Bool → Bool → Bool
differ a b = if a then not b else b

-- quotients towards zero, and remainders with the dividend's sign; the least word by -1 gives itself and 0
abbrev pub quotient : ℕ → ℕ → ℕ
quotient a b = a / b

abbrev pub remainder : ℕ → ℕ → ℕ
remainder a b = a % b

abbrev pub quotient_signed : ℕ → ℕ → ℕ
quotient_signed a b = with_sign (differ (is_negative a) (is_negative b)) (magnitude a / magnitude b)

abbrev pub remainder_signed : ℕ → ℕ → ℕ
remainder_signed a b = with_sign (is_negative a) (magnitude a % magnitude b)

-- shifts by a count below 64: to the left, to the right with zeros, to the right with the sign
abbrev pub shifted_left : ℕ → ℕ → ℕ
shifted_left a n = a * 2 ^ n % 2 ^ 64

abbrev pub shifted_right : ℕ → ℕ → ℕ
shifted_right a n = a / 2 ^ n

abbrev pub shifted_right_signed : ℕ → ℕ → ℕ
shifted_right_signed a n = if nat_lt a (2 ^ 63) then a / 2 ^ n else complement (complement a / 2 ^ n)

-- comparisons
abbrev pub is_less : ℕ → ℕ → Bool
is_less a b = nat_lt a b

abbrev pub is_less_signed : ℕ → ℕ → Bool
is_less_signed a b = nat_lt (add_words a (2 ^ 63)) (add_words b (2 ^ 63))

-- a test as a word
abbrev pub word_of_test : Bool → ℕ
word_of_test b = if b then 1 else 0

-- the carry out of a sum of two words and a carry, and the borrow of a difference
abbrev pub carry_out : ℕ → ℕ → ℕ → Bool
carry_out a b carry = nat_le (2 ^ 64) (a + b + carry)

abbrev pub borrow_out : ℕ → ℕ → ℕ → Bool
borrow_out a b borrow = nat_lt a (b + borrow)

-- whether the signed sum or difference does not fit a signed word
abbrev pub sum_overflows : ℕ → ℕ → Bool
sum_overflows a b = if differ (is_negative a) (is_negative b) then false else differ (is_negative a) (is_negative (add_words a b))

abbrev pub difference_overflows : ℕ → ℕ → Bool
difference_overflows a b = if differ (is_negative a) (is_negative b) then differ (is_negative a) (is_negative (sub_words a b)) else false

-- the low 32 bits with their sign, and with zeros
abbrev pub sign_32 : ℕ → ℕ
sign_32 a = let low = a % 2 ^ 32 in if nat_lt low (2 ^ 31) then low else low + (2 ^ 64 - 2 ^ 32)

abbrev pub zero_32 : ℕ → ℕ
zero_32 a = a % 2 ^ 32

-- the signed view has 32 bits: it is from -2 ^ 31 to 2 ^ 31 - 1
abbrev pub is_half : ℕ → Bool
is_half v = nat_lt ((v + 2 ^ 31) % 2 ^ 64) (2 ^ 32)
