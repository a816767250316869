-- Addresses of instructions, and the words of distances.
use Rattle.std.proofs.Common.{◌≡◌, ◌≢◌, ℕ, ◌+◌, ◌-◌, ◌*◌, ◌/◌, ◌%◌, ◌^◌, ◌<◌, ◌≤◌, Bool, true, false, refl, ap, ◌∙◌, arith}
use Rattle.lg_selr_values.specs.Processor.Numbers.{high_part, low_part}
use Rattle.std.specs.Prelude.{not, pos, negsuc, nat_lt, ◌-ℤ◌, if◌then◌else◌}
use Rattle.std.proofs.lemmas.Int.{ints}
use Rattle.lg_base.specs.Layout.{code_base, most_code}
use Rattle.lg_base.specs.Fields.{word_of}
use Rattle.lg_base.specs.Words.{add_words, sign_32}
use Rattle.lg_cpu.specs.HostSteps.{put}

-- a distance leads to its target
pub distance-leads : (from to : ℕ) → from < 2 ^ 62 → to < 2 ^ 62 → add_words from (word_of (pos to -ℤ pos from)) ≡ to
distance-leads from to h k = grind (arith, ints)

pub put-same : (w : ℕ → ℕ) (d v : ℕ) → put w d v d ≡ v
put-same w d v = grind arith

pub put-other : (w : ℕ → ℕ) (d v x : ℕ) → x ≢ d → put w d v x ≡ w x
put-other w d v x ne = grind (arith, ne)

-- so does one in two parts, the first of which is added to the address
far-sum : (b : Bool) (at to : ℕ) → at < 2 ^ 30 → to < 2 ^ 30 → nat_lt (word_of (pos to -ℤ pos at) % 4096) 2048 ≡ b
    → add_words (add_words at (sign_32 (high_part (word_of (pos to -ℤ pos at)) * 4096)))
    (word_of (if b then pos (word_of (pos to -ℤ pos at) % 4096) else negsuc (4095 - word_of (pos to -ℤ pos at) % 4096))) ≡ to
far-sum true at to h k e = grind (arith, ints, e)
far-sum false at to h k e = grind (arith, ints, e)

pub far-leads : (at to : ℕ) → code_base ≤ at → at ≤ code_base + most_code → code_base ≤ to → to ≤ code_base + most_code → to % 4 ≡ 0
    → add_words (add_words at (sign_32 (high_part (word_of (pos to -ℤ pos at)) * 4096))) (word_of (low_part (word_of (pos to -ℤ pos at)))) / 2 * 2 ≡ to
far-leads at to la ha lt ht even =
    let sum = far-sum (nat_lt (word_of (pos to -ℤ pos at) % 4096) 2048) at to (omega (arith, ha)) (omega (arith, ht)) refl in
    ap (λ (z : ℕ). z / 2 * 2) sum ∙ omega (arith, even)

pub twice : (b : Bool) → not (not b) ≡ b
twice true = refl
twice false = refl

-- `lui` and `addiw` make a word of 32 bits
pub number-made : (v : ℕ) → v < 2 ^ 64 → (v + 2 ^ 31) % 2 ^ 64 < 2 ^ 32 → sign_32 (add_words (sign_32 (high_part v * 4096)) (word_of (low_part v))) ≡ v
number-made v small near = by (nat_lt (v % 4096) 2048) refl
  where
    by : (b : Bool) → nat_lt (v % 4096) 2048 ≡ b → sign_32 (add_words (sign_32 (high_part v * 4096)) (word_of (if b then pos (v % 4096) else negsuc (4095 - v % 4096)))) ≡ v
    by true h = grind (arith, small, near, h)
    by false h = grind (arith, small, near, h)
