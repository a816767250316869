-- The numbers of an instruction that is read from bytes are in its ranges, so those that become words of registers are words.
use Rattle.std.proofs.Common.{◌≡◌, ℕ, suc, ◌+◌, ◌-◌, ◌*◌, ◌/◌, ◌%◌, ◌^◌, ◌<◌, ◌≤◌, Bool, true, false, List, [], ◌∷◌, drop, Option, Some, None, arith, refl}
use Rattle.std.specs.Prelude.{⊤, ◌==◌, ◌&&◌, ◌||◌, not, nat_eq, nat_lt, length, slice_index, IfSome, ℤ, pos, negsuc, if◌then◌else◌}
use Rattle.std.proofs.lemmas.Int.{ints}
use Rattle.std.proofs.lemmas.List.{get_or-drop}
use Rattle.std.specs.Int.{w32, w64, from_le_bytes}
use Rattle.std.specs.List.{starts_with}
use Rattle.std.specs.Option.{option_map}
use Rattle.lg_base.specs.Fields.{signed, word_of}
use Rattle.lg_x86.specs.Spelling.{spelling, IsInstr, IsNumber8, IsNumber32}
use Rattle.lg_x86.specs.declared.rows.Mark.{Mark}
use Rattle.lg_x86.specs.declared.rows.Mark.TheVariants.{Wide, Low, Plain}
use Rattle.lg_x86.specs.declared.instruction.Instr.{Instr}
use Rattle.lg_x86.specs.declared.instruction.Instr.TheVariants.{RmReg, Imm, RegRm, Load, Store, Lea2, Movi32, Movs32, Movi64, Unary, Shift, Stack, JumpIfShort, JumpIfNear, Set, JumpNear, JumpReg, Bare}
use Rattle.lg_x86.specs.declared.instruction.LoadOp.TheVariants.{Lea}
use Rattle.lg_x86.specs.Reading.{mark_in, has_registers, opcode_reg, digit_in, disp_place, reg_in, rm_in, index_in, base_in, word_in, wide_in, short_in, long_in, number_in, disp_in}
use Rattle.lg_x86.specs.Reading.{rm_reg_by_opcode, imm_by_digit, reg_rm_by_prefixes, load_by_prefixes, store_by_prefixes, unary_by_digit, shift_by_digit, stack_by_opcode, jump_near_by_opcode, jump_reg_by_digit, bare_by_prefixes, cond_by_number}
use Rattle.lg_x86.specs.Reading.{rm_reg_of, imm_of, reg_rm_of, load_of, store_of, lea_of, movi_of, movs_of, unary_of, shift_of, bswap_of, stack_of, jump_if_short_of, jump_if_near_of, set_of, jump_short_of, jump_near_of, jump_reg_of, bare_of}
use Rattle.lg_x86.specs.Reading.{short_at, escaped_at, code_at, code_of, sized_of, guess_of, checked, front_of}

abbrev pub AreBytes : List ℕ → Type 0
AreBytes bytes = (k : ℕ) → slice_index bytes k < 256

pub drop_bytes : (bytes : List ℕ) (p : ℕ) → AreBytes bytes → AreBytes (drop p bytes)
drop_bytes bytes p h k = let e : slice_index (drop p bytes) k ≡ slice_index bytes (p + k) = get_or-drop p bytes k 0 in omega (arith, e, h (p + k))

-- the numbers that become words of registers
abbrev pub HasWords : Instr → Type 0
HasWords (Imm op rm imm) = word_of imm < 2 ^ 64
HasWords (Movi32 reg imm) = imm < 2 ^ 64
HasWords (Movs32 rm imm) = word_of imm < 2 ^ 64
HasWords (Movi64 reg imm) = imm < 2 ^ 64
HasWords i = ⊤

abbrev Fit : Option Instr → Type 0
Fit o = IfSome o IsInstr

-- ---- numbers
pub word-small : (bytes : List ℕ) → AreBytes bytes → word_in bytes < 2 ^ 32
word-small bytes h = let a = h 0 in let b = h 1 in let c = h 2 in let d = h 3 in by (slice_index bytes 0) (slice_index bytes 1) (slice_index bytes 2) (slice_index bytes 3) a b c d
  where
    by : (a b c d : ℕ) → a < 256 → b < 256 → c < 256 → d < 256 → from_le_bytes w32 (a ∷ b ∷ c ∷ d ∷ []) < 2 ^ 32
    by a b c d p q r s = omega arith

wide-small : (bytes : List ℕ) → AreBytes bytes → wide_in bytes < 2 ^ 64
wide-small bytes z =
    by (slice_index bytes 0) (slice_index bytes 1) (slice_index bytes 2) (slice_index bytes 3) (slice_index bytes 4) (slice_index bytes 5) (slice_index bytes 6) (slice_index bytes 7) (z 0) (z 1) (z 2) (z 3) (z 4) (z 5) (z 6) (z 7)
  where
    by : (a b c d e f g h : ℕ) → a < 256 → b < 256 → c < 256 → d < 256 → e < 256 → f < 256 → g < 256 → h < 256 → from_le_bytes w64 (a ∷ b ∷ c ∷ d ∷ e ∷ f ∷ g ∷ h ∷ []) < 2 ^ 64
    by a b c d e f g h p q r s t u v w = omega arith

short-number : (n : ℕ) → n < 256 → IsNumber8 (signed 128 n)
short-number n h = by (nat_lt n 128) refl
  where
    by : (b : Bool) → nat_lt n 128 ≡ b → IsNumber8 (if b then pos n else negsuc (128 + 128 - suc n))
    by true e = let lt : n < 128 = grind (arith, e) in (omega (arith, ints, lt), omega (arith, ints, lt))
    by false e = let ge : 128 ≤ n = grind (arith, e) in (omega (arith, ints, ge, h), omega (arith, ints, ge, h))

long-number : (n : ℕ) → n < 2 ^ 32 → IsNumber32 (signed 2147483648 n)
long-number n h = by (nat_lt n 2147483648) refl
  where
    by : (b : Bool) → nat_lt n 2147483648 ≡ b → IsNumber32 (if b then pos n else negsuc (2147483648 + 2147483648 - suc n))
    by true e = let lt : n < 2147483648 = grind (arith, e) in (omega (arith, ints, lt), omega (arith, ints, lt))
    by false e = let ge : 2147483648 ≤ n = grind (arith, e) in (omega (arith, ints, ge, h), omega (arith, ints, ge, h))

widened : (z : ℤ) → IsNumber8 z → IsNumber32 z
widened z h = (omega (arith, ints, h.0), omega (arith, ints, h.1))

short-fits-in : (bytes : List ℕ) → AreBytes bytes → IsNumber8 (short_in bytes)
short-fits-in bytes h = short-number (slice_index bytes 0) (h 0)

long-fits-in : (bytes : List ℕ) → AreBytes bytes → IsNumber32 (long_in bytes)
long-fits-in bytes h = long-number (word_in bytes) (word-small bytes h)

number-fits-in : (short : Bool) (bytes : List ℕ) → AreBytes bytes → IsNumber32 (number_in short bytes)
number-fits-in true bytes h = widened (short_in bytes) (short-fits-in bytes h)
number-fits-in false bytes h = long-fits-in bytes h

disp-fits-in : (tail : List ℕ) → AreBytes tail → IsNumber32 (disp_in tail)
disp-fits-in tail h = number-fits-in (slice_index tail 0 / 64 == 1) (drop (disp_place tail) tail) (drop_bytes tail (disp_place tail) h)

-- ---- what is read, shape by shape
given : {A : Type 0} (f : A → Instr) (o : Option A) → ((a : A) → IsInstr (f a)) → Fit (option_map f o)
given f None h = tt
given f (Some a) h = h a

choice : (b : Bool) (x y : Option Instr) → Fit x → Fit y → Fit (if b then x else y)
choice true x y h k = h
choice false x y h k = k

rm-reg-fits : (rex opcode : ℕ) (tail : List ℕ) → Fit (rm_reg_of rex opcode tail)
unfolding rm_reg_of
rm-reg-fits rex opcode tail = given (λ op. RmReg op (rm_in rex tail) (reg_in rex tail)) (rm_reg_by_opcode opcode) (λ op. (omega arith, omega arith))

imm-fits : (rex opcode : ℕ) (tail : List ℕ) → AreBytes tail → Fit (imm_of rex opcode tail)
unfolding imm_of
imm-fits rex opcode tail h = given (λ op. Imm op (rm_in rex tail) (number_in (opcode == 0x83) (drop 1 tail))) (imm_by_digit (digit_in tail)) (λ op. (omega arith, number-fits-in (opcode == 0x83) (drop 1 tail) (drop_bytes tail 1 h)))

reg-rm-fits : (mark : Mark) (escaped : Bool) (rex opcode : ℕ) (tail : List ℕ) → Fit (reg_rm_of mark escaped rex opcode tail)
unfolding reg_rm_of
reg-rm-fits mark escaped rex opcode tail = given (λ op. RegRm op (reg_in rex tail) (rm_in rex tail)) (reg_rm_by_prefixes false mark escaped opcode) (λ op. (omega arith, omega arith))

load-fits : (mark : Mark) (escaped : Bool) (rex opcode : ℕ) (tail : List ℕ) → AreBytes tail → Fit (load_of mark escaped rex opcode tail)
unfolding load_of
load-fits mark escaped rex opcode tail h = given (λ op. Load op (reg_in rex tail) (rm_in rex tail) (disp_in tail)) (load_by_prefixes false mark escaped opcode) (λ op. (omega arith, omega arith, disp-fits-in tail h))

store-fits : (word_sized : Bool) (mark : Mark) (rex opcode : ℕ) (tail : List ℕ) → AreBytes tail → Fit (store_of word_sized mark rex opcode tail)
unfolding store_of
store-fits word_sized mark rex opcode tail h = given (λ op. Store op (rm_in rex tail) (disp_in tail) (reg_in rex tail)) (store_by_prefixes word_sized mark false opcode) (λ op. (omega arith, disp-fits-in tail h, omega arith))

lea-fits : (rex : ℕ) (tail : List ℕ) → AreBytes tail → Fit (lea_of rex tail)
unfolding lea_of
lea-fits rex tail h = by (slice_index tail 0 % 8 == 4) (index_in rex tail == 4) refl
  where
    by : (a b : Bool) → (index_in rex tail == 4) ≡ b
        → Fit (if a && not b then Some (Lea2 (reg_in rex tail) (base_in rex tail) (index_in rex tail)) else Some (Load Lea (reg_in rex tail) (rm_in rex tail) (disp_in tail)))
    by true false e = (omega arith, omega arith, omega arith, λ same. grind (arith, e, same))
    by true true e = (omega arith, omega arith, disp-fits-in tail h)
    by false b e = (omega arith, omega arith, disp-fits-in tail h)

movi-fits : (mark : Mark) (rex opcode : ℕ) (tail : List ℕ) → AreBytes tail → Fit (movi_of mark rex opcode tail)
unfolding movi_of
movi-fits Wide rex opcode tail h = (omega arith, wide-small tail h)
movi-fits Low rex opcode tail h = (omega arith, word-small tail h)
movi-fits Plain rex opcode tail h = (omega arith, word-small tail h)

movs-fits : (rex : ℕ) (tail : List ℕ) → AreBytes tail → Fit (movs_of rex tail)
unfolding movs_of
movs-fits rex tail h = (omega arith, long-fits-in (drop 1 tail) (drop_bytes tail 1 h))

unary-fits : (rex opcode : ℕ) (tail : List ℕ) → Fit (unary_of rex opcode tail)
unfolding unary_of
unary-fits rex opcode tail = given (λ op. Unary op (rm_in rex tail)) (unary_by_digit opcode (digit_in tail)) (λ op. omega arith)

shift-fits : (rex : ℕ) (tail : List ℕ) → Fit (shift_of rex tail)
unfolding shift_of
shift-fits rex tail = by (nat_lt (slice_index tail 1) 64) refl
  where
    by : (b : Bool) → nat_lt (slice_index tail 1) 64 ≡ b → Fit (if b then option_map (λ op. Shift op (rm_in rex tail) (slice_index tail 1)) (shift_by_digit (digit_in tail)) else None)
    by true e = given (λ op. Shift op (rm_in rex tail) (slice_index tail 1)) (shift_by_digit (digit_in tail)) (λ op. (omega arith, grind (arith, e)))
    by false e = tt

bswap-fits : (rex opcode : ℕ) → Fit (bswap_of rex opcode)
unfolding bswap_of
bswap-fits rex opcode = omega arith

stack-fits : (rex opcode : ℕ) → Fit (stack_of rex opcode)
unfolding stack_of
stack-fits rex opcode = given (λ op. Stack op (opcode_reg rex opcode)) (stack_by_opcode (opcode / 8 * 8)) (λ op. omega arith)

jump-if-short-fits : (opcode : ℕ) (tail : List ℕ) → AreBytes tail → Fit (jump_if_short_of opcode tail)
unfolding jump_if_short_of
jump-if-short-fits opcode tail h = given (λ cond. JumpIfShort cond (short_in tail)) (cond_by_number (opcode % 16)) (λ op. short-fits-in tail h)

jump-if-near-fits : (opcode : ℕ) (tail : List ℕ) → AreBytes tail → Fit (jump_if_near_of opcode tail)
unfolding jump_if_near_of
jump-if-near-fits opcode tail h = given (λ cond. JumpIfNear cond (long_in tail)) (cond_by_number (opcode % 16)) (λ op. long-fits-in tail h)

set-fits : (rex opcode : ℕ) (tail : List ℕ) → Fit (set_of rex opcode tail)
unfolding set_of
set-fits rex opcode tail = given (λ cond. Set cond (rm_in rex tail)) (cond_by_number (opcode % 16)) (λ op. omega arith)

jump-short-fits : (tail : List ℕ) → AreBytes tail → Fit (jump_short_of tail)
unfolding jump_short_of
jump-short-fits tail h = short-fits-in tail h

jump-near-fits : (opcode : ℕ) (tail : List ℕ) → AreBytes tail → Fit (jump_near_of opcode tail)
unfolding jump_near_of
jump-near-fits opcode tail h = given (λ op. JumpNear op (long_in tail)) (jump_near_by_opcode opcode) (λ op. long-fits-in tail h)

jump-reg-fits : (rex : ℕ) (tail : List ℕ) → Fit (jump_reg_of rex tail)
unfolding jump_reg_of
jump-reg-fits rex tail = given (λ op. JumpReg op (rm_in rex tail)) (jump_reg_by_digit (digit_in tail)) (λ op. omega arith)

bare-fits : (mark : Mark) (opcode : ℕ) → Fit (bare_of mark opcode)
unfolding bare_of
bare-fits mark opcode = given (λ op. Bare op) (bare_by_prefixes false mark false opcode) (λ op. tt)

-- ---- by the opcode and the prefixes
short-fits : (word_sized : Bool) (rex : ℕ) (mark : Mark) (registers : Bool) (opcode : ℕ) (tail : List ℕ) → AreBytes tail → Fit (short_at word_sized rex mark registers opcode tail)
unfolding short_at
short-fits word_sized rex mark registers opcode tail h =
    choice (opcode / 16 == 7) _ _ (jump-if-short-fits opcode tail h)
    (choice (opcode / 16 == 5) _ _ (stack-fits rex opcode)
    (choice (opcode / 8 == 23) _ _ (movi-fits mark rex opcode tail h)
    (choice (opcode == 0x81 || opcode == 0x83) _ _ (imm-fits rex opcode tail h)
    (choice (opcode == 0xc1) _ _ (shift-fits rex tail)
    (choice (opcode == 0xc7) _ _ (movs-fits rex tail h)
    (choice (opcode == 0xd3 || opcode == 0xf7) _ _ (unary-fits rex opcode tail)
    (choice (opcode == 0xff) _ _ (jump-reg-fits rex tail)
    (choice (opcode == 0xeb) _ _ (jump-short-fits tail h)
    (choice (opcode == 0xe8 || opcode == 0xe9) _ _ (jump-near-fits opcode tail h)
    (choice (opcode == 0x90 || (opcode == 0x99 || opcode == 0xc3)) _ _ (bare-fits mark opcode)
    (choice (opcode == 0x8d) _ _ (lea-fits rex tail h)
    (choice (opcode == 0x88) _ _ (store-fits word_sized Low rex opcode tail h)
    (choice (opcode == 0x63 || opcode == 0x8b) _ _ (choice registers _ _ (reg-rm-fits mark false rex opcode tail) (load-fits mark false rex opcode tail h))
    (choice (opcode == 0x89) _ _ (choice registers _ _ (rm-reg-fits rex opcode tail) (store-fits word_sized mark rex opcode tail h))
    (rm-reg-fits rex opcode tail)))))))))))))))

escaped-fits : (rex : ℕ) (mark : Mark) (registers : Bool) (opcode : ℕ) (tail : List ℕ) → AreBytes tail → Fit (escaped_at rex mark registers opcode tail)
unfolding escaped_at
escaped-fits rex mark registers opcode tail h =
    choice (opcode / 16 == 8) _ _ (jump-if-near-fits opcode tail h)
    (choice (opcode / 16 == 9) _ _ (set-fits rex opcode tail)
    (choice (opcode / 8 == 25) _ _ (bswap-fits rex opcode)
    (choice registers _ _ (reg-rm-fits mark true rex opcode tail) (load-fits mark true rex opcode tail h))))

code-at-fits : (word_sized : Bool) (rex : ℕ) (mark : Mark) (registers escaped : Bool) (opcode : ℕ) (tail : List ℕ) → AreBytes tail → Fit (code_at word_sized rex mark registers escaped opcode tail)
code-at-fits word_sized rex mark registers true opcode tail h = escaped-fits rex mark registers opcode tail h
code-at-fits word_sized rex mark registers false opcode tail h = short-fits word_sized rex mark registers opcode tail h

code-fits : (word_sized : Bool) (rex : ℕ) (bytes : List ℕ) → AreBytes bytes → Fit (code_of word_sized rex bytes)
unfolding code_of
code-fits word_sized rex bytes h =
    choice (slice_index bytes 0 == 0x0f) _ _
    (code-at-fits word_sized rex (mark_in rex) (has_registers (drop 2 bytes)) true (slice_index bytes 1) (drop 2 bytes) (drop_bytes bytes 2 h))
    (code-at-fits word_sized rex (mark_in rex) (has_registers (drop 1 bytes)) false (slice_index bytes 0) (drop 1 bytes) (drop_bytes bytes 1 h))

sized-fits : (word_sized : Bool) (bytes : List ℕ) → AreBytes bytes → Fit (sized_of word_sized bytes)
unfolding sized_of
sized-fits word_sized bytes h =
    choice (slice_index bytes 0 / 16 == 4) _ _ (code-fits word_sized (slice_index bytes 0) (drop 1 bytes) (drop_bytes bytes 1 h)) (code-fits word_sized 0 bytes h)

guess-fits : (bytes : List ℕ) → AreBytes bytes → Fit (guess_of bytes)
unfolding guess_of
guess-fits bytes h = choice (slice_index bytes 0 == 0x66) _ _ (sized-fits true (drop 1 bytes) (drop_bytes bytes 1 h)) (sized-fits false bytes h)

checked-fits : (bytes : List ℕ) (o : Option Instr) → Fit o → IfSome (checked bytes o) (λ found. IsInstr found.0)
checked-fits bytes None h = tt
checked-fits bytes (Some i) h = by (starts_with nat_eq bytes (spelling i))
  where
    by : (b : Bool) → IfSome {T = Instr × ℕ} (if b then Some (i, length (spelling i)) else None) (λ found. IsInstr found.0)
    by true = h
    by false = tt

pub front-valid : (bytes : List ℕ) → AreBytes bytes → IfSome (front_of bytes) (λ found. IsInstr found.0)
front-valid bytes h = checked-fits bytes (guess_of bytes) (guess-fits bytes h)

number-word : (z : ℤ) → IsNumber32 z → word_of z < 2 ^ 64
number-word (pos n) h = let small = h.1 in omega (arith, ints, small)
number-word (negsuc n) h = omega arith

has-words : (i : Instr) → IsInstr i → HasWords i
has-words (Imm op rm imm) h = number-word imm h.1
has-words (Movi32 reg imm) h = let small = h.1 in omega (arith, small)
has-words (Movs32 rm imm) h = number-word imm h.1
has-words (Movi64 reg imm) h = h.1
has-words _ h = tt

words-of : (o : Option (Instr × ℕ)) → IfSome o (λ found. IsInstr found.0) → IfSome o (λ found. HasWords found.0)
words-of None h = tt
words-of (Some found) h = has-words found.0 h

pub front-fits : (bytes : List ℕ) → AreBytes bytes → IfSome (front_of bytes) (λ found. HasWords found.0)
front-fits bytes h = words-of (front_of bytes) (front-valid bytes h)
