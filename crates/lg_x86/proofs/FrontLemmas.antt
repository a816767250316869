-- Prefixes and the opcode, as the decoder reads them.
use Rattle.std.proofs.Common.{◌≡◌, ℕ, ◌+◌, ◌/◌, ◌%◌, ◌<◌, Bool, true, false, List, [], ◌∷◌, ◌++◌, slice_index, refl, ap, ◌∙◌, arith}
use Rattle.std.specs.Prelude.{◌==◌, if◌then◌else◌}
use Rattle.std.proofs.lemmas.Bool.Decides.{nat_tests}
use Rattle.lg_x86.specs.declared.rows.Mark.{Mark}
use Rattle.lg_x86.specs.declared.rows.Mark.TheVariants.{Wide, Low, Plain}
use Rattle.lg_x86.specs.Spelling.{rex, size_prefix, opcode_bytes}
use Rattle.lg_x86.specs.Reading.{mark_in, has_registers, code_at, code_of, sized_of, guess_of}

-- REX's byte, or 0 where there is none
abbrev pub rex_value : Mark → ℕ → ℕ
rex_value Wide bits = 0x48 + bits
rex_value Low bits = 0x40 + bits
rex_value Plain bits = if bits == 0 then 0 else 0x40 + bits

abbrev pub is_wide : Mark → Bool
is_wide Wide = true
is_wide Low = false
is_wide Plain = false

abbrev pub read_mark : Mark → Mark
read_mark mark = if is_wide mark then Wide else Plain

plain_low : (bits : ℕ) → (b : Bool) → (bits == 0) ≡ b → (if b then 0 else 0x40 + bits) % 8 ≡ bits % 8
plain_low bits true e = let zero : bits ≡ 0 = grind (arith, nat_tests) in rw zero refl
plain_low bits false e = omega arith

-- the low bits of REX
pub rex_low : (mark : Mark) (bits : ℕ) → bits < 8 → rex_value mark bits % 8 ≡ bits
rex_low Wide bits fits = omega arith
rex_low Low bits fits = omega arith
rex_low Plain bits fits = let low = plain_low bits (bits == 0) refl in omega (arith, low)

plain_wide : (bits : ℕ) → bits < 8 → (b : Bool) → ((if b then 0 else 0x40 + bits) / 8 % 2 == 1) ≡ false
plain_wide bits fits true = refl
plain_wide bits fits false = let zero : (0x40 + bits) / 8 % 2 ≡ 0 = omega arith in rw zero refl

-- and its bit W
pub rex_wide : (mark : Mark) (bits : ℕ) → bits < 8 → (rex_value mark bits / 8 % 2 == 1) ≡ is_wide mark
rex_wide Wide bits fits = let one : (0x48 + bits) / 8 % 2 ≡ 1 = omega arith in rw one refl
rex_wide Low bits fits = let zero : (0x40 + bits) / 8 % 2 ≡ 0 = omega arith in rw zero refl
rex_wide Plain bits fits = plain_wide bits fits (bits == 0)

-- an opcode is no prefix
pub record IsOpcode (opcode : ℕ) : Type 0 where
  pub no_rex : (opcode / 16 == 4) ≡ false
  pub no_size : (opcode == 0x66) ≡ false
  pub no_escape : (opcode == 0x0f) ≡ false

plain_rex : (s : Bool) (bits : ℕ) → bits < 8 → (rest : List ℕ) → (slice_index rest 0 / 16 == 4) ≡ false → (b : Bool) → sized_of s ((if b then [] else (0x40 + bits) ∷ []) ++ rest) ≡ code_of s (if b then 0 else 0x40 + bits) rest
unfolding sized_of
plain_rex s bits fits rest other true = rw other refl
plain_rex s bits fits rest other false = let four : (0x40 + bits) / 16 ≡ 4 = omega arith in rw four refl

-- REX is read where it is
sized_rex : (s : Bool) (mark : Mark) (bits : ℕ) → bits < 8 → (rest : List ℕ) → (slice_index rest 0 / 16 == 4) ≡ false → sized_of s (rex mark bits ++ rest) ≡ code_of s (rex_value mark bits) rest
unfolding sized_of
sized_rex s Wide bits fits rest other = let four : (0x48 + bits) / 16 ≡ 4 = omega arith in rw four refl
sized_rex s Low bits fits rest other = let four : (0x40 + bits) / 16 ≡ 4 = omega arith in rw four refl
sized_rex s Plain bits fits rest other = plain_rex s bits fits rest other (bits == 0)

plain_first : (bits : ℕ) → bits < 8 → (rest : List ℕ) → (slice_index rest 0 == 0x66) ≡ false → (b : Bool) → (slice_index ((if b then [] else (0x40 + bits) ∷ []) ++ rest) 0 == 0x66) ≡ false
plain_first bits fits rest other true = other
plain_first bits fits rest other false = grind (arith, nat_tests)

rex_first : (mark : Mark) (bits : ℕ) → bits < 8 → (rest : List ℕ) → (slice_index rest 0 == 0x66) ≡ false → (slice_index (rex mark bits ++ rest) 0 == 0x66) ≡ false
rex_first Wide bits fits rest other = grind (arith, nat_tests)
rex_first Low bits fits rest other = grind (arith, nat_tests)
rex_first Plain bits fits rest other = plain_first bits fits rest other (bits == 0)

-- and so is the size prefix
prefixes_read : (s : Bool) (mark : Mark) (bits : ℕ) → bits < 8 → (rest : List ℕ) → (slice_index rest 0 / 16 == 4) ≡ false → (slice_index rest 0 == 0x66) ≡ false → guess_of (size_prefix s ++ (rex mark bits ++ rest)) ≡ code_of s (rex_value mark bits) rest
unfolding guess_of
prefixes_read true mark bits fits rest no_rex no_size = sized_rex true mark bits fits rest no_rex
prefixes_read false mark bits fits rest no_rex no_size = rw (rex_first mark bits fits rest no_size) (sized_rex false mark bits fits rest no_rex)

opcode_read : (s : Bool) (r : ℕ) (escaped : Bool) (opcode : ℕ) (tail : List ℕ) → IsOpcode opcode → code_of s r (opcode_bytes escaped opcode ++ tail) ≡ code_at s r (mark_in r) (has_registers tail) escaped opcode tail
unfolding code_of
opcode_read s r true opcode tail is = refl
opcode_read s r false opcode tail is = rw is.no_escape refl

first_no_rex : (escaped : Bool) (opcode : ℕ) (tail : List ℕ) → IsOpcode opcode → (slice_index (opcode_bytes escaped opcode ++ tail) 0 / 16 == 4) ≡ false
first_no_rex true opcode tail is = refl
first_no_rex false opcode tail is = is.no_rex

first_no_size : (escaped : Bool) (opcode : ℕ) (tail : List ℕ) → IsOpcode opcode → (slice_index (opcode_bytes escaped opcode ++ tail) 0 == 0x66) ≡ false
first_no_size true opcode tail is = refl
first_no_size false opcode tail is = is.no_size

-- what is in front of an operand is read as it was spelled
pub front_read : (s : Bool) (mark : Mark) (bits : ℕ) → bits < 8 → (escaped : Bool) (opcode : ℕ) → IsOpcode opcode → (tail : List ℕ) (registers : Bool) → has_registers tail ≡ registers → guess_of (size_prefix s ++ (rex mark bits ++ (opcode_bytes escaped opcode ++ tail))) ≡ code_at s (rex_value mark bits) (read_mark mark) registers escaped opcode tail
front_read s mark bits fits escaped opcode is tail registers e =
    prefixes_read s mark bits fits (opcode_bytes escaped opcode ++ tail) (first_no_rex escaped opcode tail is) (first_no_size escaped opcode tail is)
    ∙ opcode_read s (rex_value mark bits) escaped opcode tail is
    ∙ ap (λ wide. code_at s (rex_value mark bits) (if wide then Wide else Plain) (has_registers tail) escaped opcode tail) (rex_wide mark bits fits)
    ∙ ap (λ named. code_at s (rex_value mark bits) (read_mark mark) named escaped opcode tail) e
