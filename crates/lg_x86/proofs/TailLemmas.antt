-- What is after the opcode is that of the spelling exactly where the tests of ModRM, SIB and the number say so.
use Rattle.std.proofs.Common.{◌≡◌, ℕ, zero, suc, ◌+◌, ◌-◌, ◌/◌, ◌%◌, ◌<◌, ◌≤◌, ℤ, pos, negsuc, Bool, true, false, List, [], ◌∷◌, ◌++◌, drop, length, length-append, slice_index, Some, refl, sym, ap, ◌∙◌, arith, lit<, nat_lt, nat_eq}
use Rattle.std.specs.Prelude.{◌==◌, ◌&&◌, not, nat_le, if◌then◌else◌}
use Rattle.std.specs.List.{starts_with}
use Rattle.std.proofs.lemmas.Bool.Decides.{nat_tests}
use Rattle.lg_x86.specs.declared.instruction.Instr.{Instr}
use Rattle.lg_x86.specs.Spelling.{modrm, sib, is_short, short_bytes, long_bytes, number_bytes, base_sib, memory_mode, memory}
use Rattle.lg_x86.specs.Reading.{front_length, accepted, has_one, has_bytes, is_displaced, is_memory, memory_length, has_registers, word_in, wide_in, short_in, long_in, number_in, disp_place, disp_in}
use Rattle.std.specs.Int.{w32, w64, to_le_bytes}
use Rattle.std.proofs.lemmas.Nat.{le_bytes_4, le_bytes_8}
use Rattle.std.proofs.lemmas.Bool.{and_parts, eqb-true, ne_eqb, not-true}
use Rattle.lg_base.specs.Fields.{signed}
use Rattle.lg_base.proofs.NumberLemmas.{bits_of-signed}
use Rattle.lg_x86.proofs.NumberLemmas.{AreBytes, drop_bytes, word-small}
use Rattle.lg_x86.proofs.FrontLemmas.{IsOpcode}
use Rattle.lg_x86.proofs.AcceptLemmas.{same, turned, accepts, true_is, decided, IsRex, Tested, Same}
use Rattle.lg_x86.proofs.PrefixLemmas.{end_of}

pub tail_of : (o p : ℕ) (b c : Bool) → p ≡ o → b ≡ c → (p == o && b) ≡ c
tail_of o p b c e f = rw (true_is p o e) f

pub registers_tail : (t more : List ℕ) (reg rm : ℕ) → reg % 8 ≡ slice_index t 0 / 8 % 8 → rm % 8 ≡ slice_index t 0 % 8 → starts_with nat_eq t (modrm 3 reg rm ∷ more) ≡ (has_registers t && starts_with nat_eq (drop 1 t) more)
registers_tail [] more reg rm a b = refl
registers_tail (m ∷ t) more reg rm a b = ap (λ x. x && starts_with nat_eq t more)
    (decided (modrm 3 reg rm == m) (m / 64 == 3)
    (λ e. let is = eqb-true (modrm 3 reg rm) m e in true_is (m / 64) 3 (omega (arith, is, a, b)))
    (λ e. let is = eqb-true (m / 64) 3 e in true_is (modrm 3 reg rm) m (omega (arith, is, a, b))))

pub one_tail : (t more : List ℕ) (rm : ℕ) → rm % 8 ≡ slice_index t 0 % 8 → starts_with nat_eq t (modrm 3 0 rm ∷ more) ≡ (has_one t && starts_with nat_eq (drop 1 t) more)
one_tail [] more rm a = refl
one_tail (m ∷ t) more rm a = ap (λ x. x && starts_with nat_eq t more)
    (decided (modrm 3 0 rm == m) (m / 8 == 24)
    (λ e. let is = eqb-true (modrm 3 0 rm) m e in true_is (m / 8) 24 (omega (arith, is, a)))
    (λ e. let is = eqb-true (m / 8) 24 e in true_is (modrm 3 0 rm) m (omega (arith, is, a))))

pub prefix : (p more : List ℕ) → starts_with nat_eq (p ++ more) p ≡ true
prefix [] more = refl
prefix (x ∷ p) more = rw (same x) (prefix p more)

pub and_false : (b : Bool) → (b && false) ≡ false
and_false true = refl
and_false false = refl

pub too_short : (p t : List ℕ) → length t < length p → starts_with nat_eq t p ≡ false
too_short [] t lt = absurd (omega (arith, lt))
too_short (y ∷ p) [] lt = refl
too_short (y ∷ p) (x ∷ t) lt = rw (too_short p t (omega (arith, lt))) (and_false (y == x))

-- this many bytes that are read are those in front, where there are this many
pub read_tail : (t p : List ℕ) (k : ℕ) → length p ≡ k → (k ≤ length t → t ≡ p ++ drop k t) → starts_with nat_eq t p ≡ has_bytes k t
read_tail t p k long is = by (nat_le k (length t)) refl
  where
    by : (b : Bool) → nat_le k (length t) ≡ b → starts_with nat_eq t p ≡ b
    by true e = let le : k ≤ length t = grind (arith, nat_tests) in ap (λ x. starts_with nat_eq x p) (is le) ∙ prefix p (drop k t)
    by false e = let lt : length t < k = grind (arith, nat_tests) in too_short p t (omega (arith, lt, long))

pub four_read : (t : List ℕ) → AreBytes t → 4 ≤ length t → t ≡ to_le_bytes w32 (word_in t) ++ drop 4 t
four_read (a ∷ b ∷ c ∷ d ∷ t) h le = ap (λ xs. xs ++ t) (sym (le_bytes_4 (a ∷ b ∷ c ∷ d ∷ []) (word_in (a ∷ b ∷ c ∷ d ∷ t)) refl each refl))
  where
    each : (i : ℕ) → slice_index (a ∷ b ∷ c ∷ d ∷ []) i < 256
    each zero = h 0
    each (suc zero) = h 1
    each (suc (suc zero)) = h 2
    each (suc (suc (suc zero))) = h 3
    each (suc (suc (suc (suc i)))) = lit< tt
four_read _ h le = absurd (omega (arith, le))

pub eight_read : (t : List ℕ) → AreBytes t → 8 ≤ length t → t ≡ to_le_bytes w64 (wide_in t) ++ drop 8 t
eight_read (a ∷ b ∷ c ∷ d ∷ e ∷ f ∷ g ∷ k ∷ t) h le = ap (λ xs. xs ++ t) (sym (le_bytes_8 (a ∷ b ∷ c ∷ d ∷ e ∷ f ∷ g ∷ k ∷ []) (wide_in (a ∷ b ∷ c ∷ d ∷ e ∷ f ∷ g ∷ k ∷ t)) refl each refl))
  where
    each : (i : ℕ) → slice_index (a ∷ b ∷ c ∷ d ∷ e ∷ f ∷ g ∷ k ∷ []) i < 256
    each zero = h 0
    each (suc zero) = h 1
    each (suc (suc zero)) = h 2
    each (suc (suc (suc zero))) = h 3
    each (suc (suc (suc (suc zero)))) = h 4
    each (suc (suc (suc (suc (suc zero))))) = h 5
    each (suc (suc (suc (suc (suc (suc zero)))))) = h 6
    each (suc (suc (suc (suc (suc (suc (suc zero))))))) = h 7
    each (suc (suc (suc (suc (suc (suc (suc (suc i)))))))) = lit< tt
eight_read _ h le = absurd (omega (arith, le))

pub word_tail : (t : List ℕ) → AreBytes t → starts_with nat_eq t (to_le_bytes w32 (word_in t)) ≡ has_bytes 4 t
word_tail t h = read_tail t (to_le_bytes w32 (word_in t)) 4 refl (four_read t h)

pub wide_tail : (t : List ℕ) → AreBytes t → starts_with nat_eq t (to_le_bytes w64 (wide_in t)) ≡ has_bytes 8 t
wide_tail t h = read_tail t (to_le_bytes w64 (wide_in t)) 8 refl (eight_read t h)

pub long_tail : (t : List ℕ) → AreBytes t → starts_with nat_eq t (long_bytes (long_in t)) ≡ has_bytes 4 t
long_tail t h =
    let small = word-small t h in
    ap (λ n. starts_with nat_eq t (to_le_bytes w32 n)) (bits_of-signed 2147483648 (word_in t) (omega (arith, small))) ∙ word_tail t h

pub short_read_is : (t : List ℕ) → AreBytes t → 1 ≤ length t → t ≡ short_bytes (short_in t) ++ drop 1 t
short_read_is [] h le = absurd (omega (arith, le))
short_read_is (a ∷ t) h le = let small = h 0 in ap (λ x. x ∷ t) (sym (bits_of-signed 128 a (omega (arith, small))))

pub short_tail : (t : List ℕ) → AreBytes t → starts_with nat_eq t (short_bytes (short_in t)) ≡ has_bytes 1 t
short_tail t h = read_tail t (short_bytes (short_in t)) 1 refl (short_read_is t h)

pub byte_read : (t : List ℕ) → 1 ≤ length t → t ≡ (slice_index t 0 ∷ []) ++ drop 1 t
byte_read [] le = absurd (omega (arith, le))
byte_read (a ∷ t) le = refl

pub byte_tail : (t : List ℕ) → starts_with nat_eq t (slice_index t 0 ∷ []) ≡ has_bytes 1 t
byte_tail t = read_tail t (slice_index t 0 ∷ []) 1 refl (byte_read t)

-- a byte is a short number
pub short_is_short : (n : ℕ) → is_short (signed 128 n) ≡ true
short_is_short n = by (nat_lt n 128) refl
  where
    by : (b : Bool) → nat_lt n 128 ≡ b → is_short (if b then pos n else negsuc (128 + 128 - suc n)) ≡ true
    by true e = e
    by false e = grind (arith, nat_tests)

-- bytes after the first
pub after_first : (t : List ℕ) (k : ℕ) → (has_registers t && has_bytes k (drop 1 t)) ≡ (has_registers t && has_bytes (suc k) t)
after_first [] k = refl
after_first (m ∷ t) k = ap (λ b. (m / 64 == 3) && b) (decided (nat_le k (length t)) (nat_le (suc k) (suc (length t))) (λ e. grind (arith, nat_tests)) (λ e. grind (arith, nat_tests)))

pub after_one : (t : List ℕ) (k : ℕ) → (has_one t && has_bytes k (drop 1 t)) ≡ (has_one t && has_bytes (suc k) t)
after_one [] k = refl
after_one (m ∷ t) k = ap (λ b. (m / 8 == 24) && b) (decided (nat_le k (length t)) (nat_le (suc k) (suc (length t))) (λ e. grind (arith, nat_tests)) (λ e. grind (arith, nat_tests)))

-- ---- the operand in memory
pub displaced : (m reg base : ℕ) (b : List ℕ) → AreBytes b → reg % 8 ≡ m / 8 % 8 → base % 8 ≡ m % 8 → ((modrm (memory_mode (number_in (m / 64 == 1) b)) reg base == m) && starts_with nat_eq b (number_bytes (number_in (m / 64 == 1) b))) ≡ is_displaced (m / 64) b
displaced m reg base b h x y = by (m / 64 == 1) refl
  where
    by : (c : Bool) → (m / 64 == 1) ≡ c → ((modrm (memory_mode (number_in c b)) reg base == m) && starts_with nat_eq b (number_bytes (number_in c b))) ≡ (if c then has_bytes 1 b else ((m / 64 == 2) && (has_bytes 4 b && not (is_short (long_in b)))))
    by true e =
        let one = eqb-true (m / 64) 1 e in
        rw (short_is_short (slice_index b 0), true_is (modrm 1 reg base) m (omega (arith, one, x, y))) (short_tail b h)
    by false e = long (is_short (long_in b)) refl
      where
        long : (c : Bool) → is_short (long_in b) ≡ c → ((modrm (if c then 1 else 2) reg base == m) && starts_with nat_eq b (if c then short_bytes (long_in b) else long_bytes (long_in b))) ≡ ((m / 64 == 2) && (has_bytes 4 b && not c))
        long true f = rw (ne_eqb (modrm 1 reg base) m (λ same. let t = true_is (m / 64) 1 (omega (arith, same)) in absurd (let none : ⊥ = cc in none)), and_false (has_bytes 4 b), and_false (m / 64 == 2)) refl
        long false f =
            ap (λ c. c && starts_with nat_eq b (long_bytes (long_in b)))
            (decided (modrm 2 reg base == m) (m / 64 == 2)
            (λ g. let is = eqb-true (modrm 2 reg base) m g in true_is (m / 64) 2 (omega (arith, is)))
            (λ g. let is = eqb-true (m / 64) 2 g in true_is (modrm 2 reg base) m (omega (arith, is, x, y))))
            ∙ ap (λ c. (m / 64 == 2) && c) (long_tail b h ∙ sym (end_of (has_bytes 4 b)))

pub swapped : (a b c : Bool) → (a && (b && c)) ≡ (b && (a && c))
swapped true true c = refl
swapped true false c = refl
swapped false true c = refl
swapped false false c = refl

pub memory_after : (m : ℕ) (t : List ℕ) (reg base : ℕ) → AreBytes (m ∷ t) → reg % 8 ≡ m / 8 % 8 → base % 8 ≡ m % 8 → (s : Bool) → (m % 8 == 4) ≡ s → (z : ℤ) → z ≡ number_in (m / 64 == 1) (drop (if s then 2 else 1) (m ∷ t)) → ((modrm (memory_mode z) reg base == m) && starts_with nat_eq t ((if s then sib 4 base ∷ [] else []) ++ number_bytes z)) ≡ ((if s then slice_index (m ∷ t) 1 == 0x24 else true) && is_displaced (m / 64) (drop (if s then 2 else 1) (m ∷ t)))
memory_after m t reg base h x y false e z is = rw is (displaced m reg base t (drop_bytes (m ∷ t) 1 h) x y)
memory_after m [] reg base h x y true e z is = and_false (modrm (memory_mode z) reg base == m)
memory_after m (b ∷ t) reg base h x y true e z is =
    let four = eqb-true (m % 8) 4 e in
    let none : sib 4 base ≡ 0x24 = omega (arith, four, y) in
    swapped (modrm (memory_mode z) reg base == m) (sib 4 base == b) (starts_with nat_eq t (number_bytes z))
    ∙ ap (λ c. c && ((modrm (memory_mode z) reg base == m) && starts_with nat_eq t (number_bytes z))) (ap (λ n. n == b) none ∙ turned 0x24 b)
    ∙ ap (λ c. (b == 0x24) && c) (rw is (displaced m reg base t (drop_bytes (m ∷ b ∷ t) 2 h) x y))

pub memory_tail : (t : List ℕ) (reg base : ℕ) → AreBytes t → reg % 8 ≡ slice_index t 0 / 8 % 8 → base % 8 ≡ slice_index t 0 % 8 → starts_with nat_eq t (memory reg base (disp_in t)) ≡ is_memory t
memory_tail [] reg base h x y = refl
memory_tail (m ∷ t) reg base h x y =
    ap (λ low. (modrm (memory_mode (disp_in (m ∷ t))) reg base == m) && starts_with nat_eq t ((if low == 4 then sib 4 base ∷ [] else []) ++ number_bytes (disp_in (m ∷ t)))) y
    ∙ memory_after m t reg base h x y (m % 8 == 4) refl (disp_in (m ∷ t)) refl

pub displaced_long : (mode : ℕ) (b : List ℕ) → is_displaced mode b ≡ true → length (number_bytes (number_in (mode == 1) b)) ≡ (if mode == 1 then 1 else 4)
displaced_long mode b = by (mode == 1)
  where
    by : (c : Bool) → (if c then has_bytes 1 b else ((mode == 2) && (has_bytes 4 b && not (is_short (long_in b))))) ≡ true → length (number_bytes (number_in c b)) ≡ (if c then 1 else 4)
    by true e = rw (short_is_short (slice_index b 0)) refl
    by false e = rw (not-true (is_short (long_in b)) (and_parts (has_bytes 4 b) _ (and_parts (mode == 2) _ e).1).1) refl

pub memory_long : (t : List ℕ) (reg base : ℕ) → base % 8 ≡ slice_index t 0 % 8 → is_memory t ≡ true → length (memory reg base (disp_in t)) ≡ memory_length t
memory_long t reg base y e =
    let a = length-append (base_sib base) (number_bytes (disp_in t)) in
    let d = displaced_long (slice_index t 0 / 64) (drop (disp_place t) t) (and_parts (if slice_index t 0 % 8 == 4 then slice_index t 1 == 0x24 else true) _ e).1 in
    let s : length (base_sib base) + 1 ≡ disp_place t = ap (λ low. length (if low == 4 then sib 4 base ∷ [] else []) + 1) y ∙ one (slice_index t 0 % 8 == 4) in
    omega (arith, a, d, s)
  where
    one : (b : Bool) → length (if b then sib 4 base ∷ [] else []) + 1 ≡ (if b then 2 else 1)
    one true = refl
    one false = refl

-- a row without prefixes of its own: its opcode and digits
pub plain_opcode : (n : ℕ) → (n / 16 == 4) ≡ false → (n == 0x66) ≡ false → (n == 0x0f) ≡ false → IsOpcode n
plain_opcode n a b c = record { no_rex = a; no_size = b; no_escape = c }

pub no_tail : (p o : ℕ) → p ≡ o → (t : List ℕ) → (p == o && starts_with nat_eq t []) ≡ true
no_tail p o e t = rw (true_is p o e) refl

pub accepts_bare : (s : Bool) (r : ℕ) → IsRex r → (e : Bool) (o : ℕ) (t : List ℕ) (i : Instr) (front : Bool) (len : ℕ) → len ≡ front_length s r e → Tested s r e o t i front true 0 → Same s r e o t front len (Some i)
accepts_bare s r rex_is e o t i front len at x =
    ap (λ b. accepted b len (Some i)) (sym (end_of front)) ∙ ap (λ n. accepted (front && true) n (Some i)) (omega arith) ∙ accepts s r rex_is e o t i front true len 0 at x
