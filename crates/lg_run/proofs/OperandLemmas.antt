-- No operand has a line feed.
use Rattle.std.proofs.Common.{◌≡◌, ℕ, zero, suc, ◌+◌, ◌/◌, ◌%◌, ℤ, pos, negsuc, Bool, true, false, List, [], ◌∷◌, ◌++◌, refl, arith, codes}
use Rattle.std.specs.Prelude.{◌==◌, nat_lt, if◌then◌else◌}
use Rattle.std.specs.Fmt.{digits, digits_onto, digit_glyph}
use Rattle.std.specs.Int.{w32, to_be_bytes}
use Rattle.std.proofs.lemmas.Bool.Decides.{nat_tests}
use Rattle.lg_back.specs.Words.{is_free}
use Rattle.lg_back.proofs.WordLemmas.{free-append, free-one}
use Rattle.lg_list.specs.Texts.{decimal, signed_decimal, displacement, hex}
use Rattle.lg_list.specs.Operands.{x86_name, register_name, spelled, spelled_after, text}
use Rattle.lg_list.specs.declared.operand.Register.{Register}
use Rattle.lg_list.specs.declared.operand.Register.TheVariants as register
use Rattle.lg_list.specs.declared.operand.Operand.{Operand}
use Rattle.lg_list.specs.declared.operand.Operand.TheVariants as operand

-- ---- digits
glyph_at : (d : ℕ) (b : Bool) → nat_lt d 10 ≡ b → ((if b then 48 + d else 87 + d) == 10) ≡ false
glyph_at d true e = grind (arith, nat_tests)
glyph_at d false e = grind (arith, nat_tests)

glyph_other : (d : ℕ) → (digit_glyph false d == 10) ≡ false
glyph_other d = glyph_at d (nat_lt d 10) refl

step_free : (b : Bool) (xs ys : List ℕ) → is_free 10 xs ≡ true → is_free 10 ys ≡ true → is_free 10 (if b then xs else ys) ≡ true
step_free true xs ys e f = e
step_free false xs ys e f = f

onto_free : (k n : ℕ) (acc : List ℕ) → is_free 10 acc ≡ true → is_free 10 (digits_onto k 10 false n acc) ≡ true
onto_free zero n acc e = e
onto_free (suc k) n acc e =
    let more : is_free 10 (digit_glyph false (n % 10) ∷ acc) ≡ true = free-one 10 (digit_glyph false (n % 10)) acc (glyph_other (n % 10)) e in
    step_free (n / 10 == 0) (digit_glyph false (n % 10) ∷ acc) (digits_onto k 10 false (n / 10) (digit_glyph false (n % 10) ∷ acc)) more (onto_free k (n / 10) (digit_glyph false (n % 10) ∷ acc) more)

pub decimal_free : (n : ℕ) → is_free 10 (decimal n) ≡ true
unfolding digits
decimal_free n = onto_free 64 n [] refl

pub hex_free : (bs : List ℕ) → is_free 10 (hex bs) ≡ true
hex_free [] = refl
hex_free (b ∷ bs) = free-one 10 (digit_glyph false (b / 16)) (digit_glyph false (b % 16) ∷ hex bs) (glyph_other (b / 16)) (free-one 10 (digit_glyph false (b % 16)) (hex bs) (glyph_other (b % 16)) (hex_free bs))

signed_free : (z : ℤ) → is_free 10 (signed_decimal z) ≡ true
signed_free (pos n) = decimal_free n
signed_free (negsuc n) = free-append 10 (codes "-") (decimal (n + 1)) refl (decimal_free (n + 1))

displacement_free : (z : ℤ) → is_free 10 (displacement z) ≡ true
displacement_free (pos n) = free-append 10 (codes "+") (decimal n) refl (decimal_free n)
displacement_free (negsuc n) = free-append 10 (codes "-") (decimal (n + 1)) refl (decimal_free (n + 1))

-- ---- registers and operands
x86_free : (n : ℕ) → is_free 10 (x86_name n) ≡ true
unfolding x86_name
x86_free n =
    step_free (n == 0) (codes "rax") _ refl (step_free (n == 1) (codes "rcx") _ refl (step_free (n == 2) (codes "rdx") _ refl (step_free (n == 3) (codes "rbx") _ refl
    (step_free (n == 4) (codes "rsp") _ refl (step_free (n == 5) (codes "rbp") _ refl (step_free (n == 6) (codes "rsi") _ refl (step_free (n == 7) (codes "rdi") _ refl
    (step_free (n == 8) (codes "r8") _ refl (step_free (n == 9) (codes "r9") _ refl (step_free (n == 10) (codes "r10") _ refl (step_free (n == 11) (codes "r11") _ refl
    (step_free (n == 12) (codes "r12") _ refl (step_free (n == 13) (codes "r13") _ refl (step_free (n == 14) (codes "r14") (codes "r15") refl refl))))))))))))))

register_free : (r : Register) → is_free 10 (register_name r) ≡ true
register_free (register.X n) = free-append 10 (codes "x") (decimal n) refl (decimal_free n)
register_free register.Sp = refl
register_free register.Xzr = refl
register_free (register.X86 n) = x86_free n

spelled_free : (o : Operand) → is_free 10 (spelled o) ≡ true
spelled_free (operand.Register r) = register_free r
spelled_free (operand.Signed z) = signed_free z
spelled_free (operand.Unsigned n) = decimal_free n
spelled_free (operand.Memory base disp) =
    free-append 10 (codes "[" ++ register_name base ++ displacement disp) (codes "]")
    (free-append 10 (codes "[" ++ register_name base) (displacement disp) (free-append 10 (codes "[") (register_name base) refl (register_free base)) (displacement_free disp)) refl
spelled_free (operand.Indexed base index) =
    free-append 10 (codes "[" ++ register_name base ++ codes "+" ++ register_name index) (codes "]")
    (free-append 10 (codes "[" ++ register_name base ++ codes "+") (register_name index)
    (free-append 10 (codes "[" ++ register_name base) (codes "+") (free-append 10 (codes "[") (register_name base) refl (register_free base)) refl) (register_free index)) refl
spelled_free (operand.Target a) = free-append 10 (codes "0x") (hex (to_be_bytes w32 a)) refl (hex_free (to_be_bytes w32 a))

after_free : (before : List ℕ) (os : List Operand) → is_free 10 before ≡ true → is_free 10 (spelled_after before os) ≡ true
after_free before [] e = refl
after_free before (o ∷ os) e = free-append 10 (before ++ spelled o) (spelled_after (codes ", ") os) (free-append 10 before (spelled o) e (spelled_free o)) (after_free (codes ", ") os refl)

pub words_free : (name : List ℕ) (os : List Operand) → is_free 10 name ≡ true → is_free 10 (text name os) ≡ true
words_free name os e = free-append 10 name (spelled_after (codes " ") os) e (after_free (codes " ") os refl)
