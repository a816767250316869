-- Registers, numbers and the operand in memory, as the decoder reads them.
use Rattle.std.proofs.Common.{◌≡◌, ℕ, ◌+◌, ◌*◌, ◌/◌, ◌%◌, ◌^◌, ◌<◌, ℤ, pos, negsuc, Bool, true, false, List, [], ◌∷◌, ◌++◌, drop, slice_index, refl, ap, ◌∙◌, arith}
use Rattle.std.specs.Prelude.{◌==◌, ◌&&◌, not, if◌then◌else◌}
use Rattle.std.specs.Int.{w32, w64, to_le_bytes}
use Rattle.std.proofs.lemmas.Int.{ints}
use Rattle.std.proofs.lemmas.Nat.{from_le_bytes-to_le_bytes_4, from_le_bytes-to_le_bytes_8}
use Rattle.std.proofs.lemmas.Bool.Decides.{nat_tests}
use Rattle.lg_base.specs.Fields.{bits_of, signed}
use Rattle.lg_base.proofs.NumberLemmas.{signed-bits_of}
use Rattle.lg_x86.specs.Spelling.{extension, modrm, sib, is_short, short_bytes, long_bytes, number_bytes, memory_mode, memory, IsNumber8, IsNumber32}
use Rattle.lg_x86.specs.Reading.{has_registers, index_in, word_in, wide_in, short_in, long_in, number_in, disp_place, disp_in}

pub extension_fits : (reg index rm : ℕ) → reg < 16 → index < 16 → rm < 16 → extension reg index rm < 8
extension_fits reg index rm a b c = omega arith

pub modrm_mode : (mode reg rm : ℕ) → modrm mode reg rm / 64 ≡ mode
modrm_mode mode reg rm = omega arith

pub modrm_digit : (mode digit rm : ℕ) → digit < 8 → modrm mode digit rm / 8 % 8 ≡ digit
modrm_digit mode digit rm fits = omega arith

pub modrm_rm : (mode reg rm : ℕ) → modrm mode reg rm % 8 ≡ rm % 8
modrm_rm mode reg rm = omega arith

-- the registers that REX and ModRM name together
pub reg_is : (r mode reg field index rm : ℕ) → reg < 16 → index < 16 → rm < 16 → r % 8 ≡ extension reg index rm → r / 4 % 2 * 8 + modrm mode reg field / 8 % 8 ≡ reg
reg_is r mode reg field index rm a b c e = omega arith

pub rm_is : (r mode reg field index rm : ℕ) → reg < 16 → index < 16 → rm < 16 → r % 8 ≡ extension reg index rm → r % 2 * 8 + modrm mode field rm % 8 ≡ rm
rm_is r mode reg field index rm a b c e = omega arith

pub low_is : (r place reg index rm : ℕ) → reg < 16 → index < 16 → rm < 16 → r % 8 ≡ extension reg index rm → r % 2 * 8 + (place * 8 + rm % 8) % 8 ≡ rm
low_is r place reg index rm a b c e = omega arith

pub index_is : (r reg index rm : ℕ) → reg < 16 → index < 16 → rm < 16 → r % 8 ≡ extension reg index rm → r / 2 % 2 * 8 + sib index rm / 8 % 8 ≡ index
index_is r reg index rm a b c e = omega arith

pub base_is : (r reg index rm : ℕ) → reg < 16 → index < 16 → rm < 16 → r % 8 ≡ extension reg index rm → r % 2 * 8 + sib index rm % 8 ≡ rm
base_is r reg index rm a b c e = omega arith

-- the numbers that bytes begin with
pub word_read : (n : ℕ) (more : List ℕ) → n < 2 ^ 32 → word_in (to_le_bytes w32 n ++ more) ≡ n
word_read n more fits = from_le_bytes-to_le_bytes_4 n fits

pub wide_read : (n : ℕ) (more : List ℕ) → n < 2 ^ 64 → wide_in (to_le_bytes w64 n ++ more) ≡ n
wide_read n more fits = from_le_bytes-to_le_bytes_8 n fits

pub short_read : (z : ℤ) (more : List ℕ) → IsNumber8 z → short_in (short_bytes z ++ more) ≡ z
short_read z more ok = signed-bits_of 128 z (omega (arith, ints, ok.0)) (omega (arith, ints, ok.1))

bits_fit : (z : ℤ) → IsNumber32 z → bits_of 2147483648 z < 2 ^ 32
bits_fit (pos k) ok = omega (arith, ints, ok.1)
bits_fit (negsuc k) ok = omega (arith, ints, ok.0)

pub long_read : (z : ℤ) (more : List ℕ) → IsNumber32 z → long_in (long_bytes z ++ more) ≡ z
long_read z more ok =
    ap (signed 2147483648) (word_read (bits_of 2147483648 z) more (bits_fit z ok))
    ∙ signed-bits_of 2147483648 z (omega (arith, ints, ok.0)) (omega (arith, ints, ok.1))

pub short_number : (z : ℤ) → is_short z ≡ true → IsNumber8 z
short_number (pos k) e = let lt : k < 128 = grind (arith, nat_tests) in (omega (arith, ints), omega (arith, ints))
short_number (negsuc k) e = let lt : k < 128 = grind (arith, nat_tests) in (omega (arith, ints), omega (arith, ints))

pub number_read_as : (z : ℤ) (more : List ℕ) → IsNumber32 z → (short : Bool) → is_short z ≡ short → number_in short ((if short then short_bytes z else long_bytes z) ++ more) ≡ z
number_read_as z more ok true e = short_read z more (short_number z e)
number_read_as z more ok false e = long_read z more ok

pub number_read : (z : ℤ) (more : List ℕ) → IsNumber32 z → number_in (is_short z) (number_bytes z ++ more) ≡ z
number_read z more ok = number_read_as z more ok (is_short z) refl

-- the mode of the operand in memory
short_mode : (short : Bool) → ((if short then 1 else 2) == 1) ≡ short
short_mode true = refl
short_mode false = refl

memory_mode_no_registers : (short : Bool) → ((if short then 1 else 2) == 3) ≡ false
memory_mode_no_registers true = refl
memory_mode_no_registers false = refl

pub memory_has_no_registers : (reg base : ℕ) (disp : ℤ) (more : List ℕ) → has_registers (memory reg base disp ++ more) ≡ false
memory_has_no_registers reg base disp more =
    ap (λ mode. mode == 3) (modrm_mode (memory_mode disp) reg base) ∙ memory_mode_no_registers (is_short disp)

-- what is after ModRM and SIB
after_sib : (b : Bool) (m s : ℕ) (number more : List ℕ) → drop (if b then 2 else 1) (m ∷ (((if b then s ∷ [] else []) ++ number) ++ more)) ≡ number ++ more
after_sib true m s number more = refl
after_sib false m s number more = refl

pub disp_read : (reg base : ℕ) (disp : ℤ) (more : List ℕ) → IsNumber32 disp → disp_in (memory reg base disp ++ more) ≡ disp
disp_read reg base disp more ok =
    let m = modrm (memory_mode disp) reg base in
    let tail : List ℕ = memory reg base disp ++ more in
    ap (λ mode. number_in (mode == 1) (drop (disp_place tail) tail)) (modrm_mode (memory_mode disp) reg base)
    ∙ ap (λ short. number_in short (drop (disp_place tail) tail)) (short_mode (is_short disp))
    ∙ ap (λ low. number_in (is_short disp) (drop (if low == 4 then 2 else 1) tail)) (modrm_rm (memory_mode disp) reg base)
    ∙ ap (number_in (is_short disp)) (after_sib (base % 8 == 4) m (sib 4 base) (number_bytes disp) more)
    ∙ number_read disp more ok

-- SIB of a base names no index, so that this is no sum of registers
no_index : (r reg base : ℕ) → reg < 16 → base < 16 → r % 8 ≡ extension reg 0 base → (r / 2 % 2 * 8 + sib 4 base / 8 % 8 == 4) ≡ true
no_index r reg base a b e = let four : r / 2 % 2 * 8 + sib 4 base / 8 % 8 ≡ 4 = omega arith in rw four refl

one_register_as : (r reg base : ℕ) (disp : ℤ) (more : List ℕ) → reg < 16 → base < 16 → r % 8 ≡ extension reg 0 base → (b : Bool) → (b && not (index_in r (modrm (memory_mode disp) reg base ∷ (((if b then sib 4 base ∷ [] else []) ++ number_bytes disp) ++ more)) == 4)) ≡ false
one_register_as r reg base disp more a c e true = ap not (no_index r reg base a c e)
one_register_as r reg base disp more a c e false = refl

pub one_register : (r reg base : ℕ) (disp : ℤ) (more : List ℕ) → reg < 16 → base < 16 → r % 8 ≡ extension reg 0 base → (slice_index (memory reg base disp ++ more) 0 % 8 == 4 && not (index_in r (memory reg base disp ++ more) == 4)) ≡ false
one_register r reg base disp more a b e =
    let tail : List ℕ = memory reg base disp ++ more in
    ap (λ low. low == 4 && not (index_in r tail == 4)) (modrm_rm (memory_mode disp) reg base)
    ∙ one_register_as r reg base disp more a b e (base % 8 == 4)
