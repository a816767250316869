-- Words and flags.
use Rattle.std.proofs.Common.{◌≡◌, ℕ, ◌+◌, ◌*◌, ◌/◌, ◌^◌, ◌<◌, Bool, true, false, refl, arith}
use Rattle.std.specs.Prelude.{◌==◌, not}
use Rattle.lg_base.specs.Words.{add_words, sub_words, negated, differ, is_negative, is_less, is_less_signed, word_of_test, borrow_out}
use Rattle.lg_base.specs.Wide.{zero_part_of}
use Rattle.lg_cpu.specs.X86Operators.{bit, overflows_difference, either}

pub add-swap : (a b : ℕ) → add_words a b ≡ add_words b a
add-swap a b = grind arith

pub negate-difference : (a b : ℕ) → a < 2 ^ 64 → b < 2 ^ 64 → negated (sub_words b a) ≡ sub_words a b
negate-difference a b h k = grind (arith, h, k)

-- the answer of a comparison, as a byte and extended
pub answer-word : (x : ℕ) (b : Bool) → zero_part_of (x / 256 * 256 + bit b) 1 ≡ word_of_test b
answer-word x true = grind arith
answer-word x false = grind arith

-- ---- the flags of a difference
pub less-signed : (a b : ℕ) → a < 2 ^ 64 → b < 2 ^ 64 → differ (is_negative (sub_words a b)) (overflows_difference a b (sub_words a b)) ≡ is_less_signed a b
less-signed a b h k = grind (arith, h, k)

pub less : (a b : ℕ) → borrow_out a b 0 ≡ is_less a b
less a b = grind arith

pub zero-difference : (a b : ℕ) → a < 2 ^ 64 → b < 2 ^ 64 → (sub_words a b == 0) ≡ (a == b)
zero-difference a b h k = grind (arith, h, k)

pub not-greater-signed : (a b : ℕ) → a < 2 ^ 64 → b < 2 ^ 64 → either (a == b) (is_less_signed a b) ≡ not (is_less_signed b a)
not-greater-signed a b h k = grind (arith, h, k)

pub not-greater : (a b : ℕ) → either (is_less a b) (a == b) ≡ not (is_less b a)
not-greater a b = grind arith

pub turned-twice : (b : Bool) → not (not b) ≡ b
turned-twice true = refl
turned-twice false = refl
