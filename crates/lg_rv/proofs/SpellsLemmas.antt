-- What is read is spelled by the word: the law of each format, and of all.
use Rattle.std.proofs.Common.{◌≡◌, ℕ, ◌+◌, ◌^◌, ◌<◌, ◌≤◌, pos, ◌+ℤ◌, ◌≤ℤ◌, nat_lt, Option, None, Bool, true, false, refl, arith}
use Rattle.std.specs.Prelude.{IfSome, ◌==◌, ◌||◌, if◌then◌else◌}
use Rattle.std.proofs.lemmas.Int.{ints}
use Rattle.std.proofs.lemmas.Bool.Decides.{nat_tests}
use Rattle.lg_base.specs.Fields.{part, signed}
use Rattle.lg_base.specs.Immediates.{store_bits, branch_bits, jump_bits}
use Rattle.lg_base.proofs.NumberLemmas.{bits_of-signed}
use Rattle.lg_rv.specs.declared.instruction.Instr.{Instr}
use Rattle.lg_rv.specs.Rows.{upper_row, upper_ops, branch_row, branch_ops, imm_row, imm_ops, shift_row, shift_ops, store_row, store_ops, reg_row, reg_ops}
use Rattle.lg_rv.specs.Spelling.{word_of, IsInstr}
use Rattle.lg_rv.specs.Reading.{upper_by_row, branch_by_row, imm_by_row, shift_by_row, store_by_row, reg_by_row, upper_of, jal_of, branch_of, imm_of, shift_of, word_shift_of, store_of, reg_of, instr_at, instr_of}
use Rattle.lg_rv.proofs.RowLemmas.{row_is, found}

-- the instruction is one, and is spelled by the word
abbrev Spells : ℕ → Instr → Type 0
Spells w i = (word_of i ≡ w) × IsInstr i

upper_ok : (w : ℕ) → w < 2 ^ 32 → IfSome (upper_of w) (Spells w)
unfolding upper_of upper_by_row
upper_ok w fits = found (Spells w) _ _ upper_ops (λ op e. let r = row_is (part 0 7 w) 0 0 (upper_row op) e in
    (omega arith, (omega arith, omega arith)))

reg_ok : (w : ℕ) → w < 2 ^ 32 → IfSome (reg_of w) (Spells w)
unfolding reg_of reg_by_row
reg_ok w fits = found (Spells w) _ _ reg_ops (λ op e. let r = row_is (part 0 7 w) (part 12 3 w) (part 25 7 w) (reg_row op) e in
    (omega arith, (omega arith, omega arith, omega arith)))

shift_ok : (w : ℕ) → w < 2 ^ 32 → (part 0 7 w ≡ 0x1b → part 25 1 w ≡ 0) → IfSome (shift_of w) (Spells w)
unfolding shift_of shift_by_row
shift_ok w fits short = found (Spells w) _ _ shift_ops (λ op e. let r = row_is (part 0 7 w) (part 12 3 w) (part 26 6 w) (shift_row op) e in
    (omega arith, (omega arith, omega arith, omega arith, λ word. let low = short (omega arith) in omega arith)))

-- the number in a field of half + half values is one of a field of that size
pub field_range : (half bits : ℕ) → bits < half + half → (pos 0 ≤ℤ (signed half bits +ℤ pos half)) × ((signed half bits +ℤ pos 1) ≤ℤ pos half)
field_range half bits h = cases (nat_lt bits half) refl
  where
    cases : (b : Bool) → nat_lt bits half ≡ b → (pos 0 ≤ℤ (signed half bits +ℤ pos half)) × ((signed half bits +ℤ pos 1) ≤ℤ pos half)
    cases true e = rw e (let lt : bits < half = grind (arith, nat_tests) in (omega (arith, ints), omega (arith, ints)))
    cases false e = rw e (let ge : half ≤ bits = grind (arith, nat_tests) in (omega (arith, ints), omega (arith, ints)))

imm_ok : (w : ℕ) → w < 2 ^ 32 → IfSome (imm_of w) (Spells w)
unfolding imm_of imm_by_row
imm_ok w fits = found (Spells w) _ _ imm_ops (λ op e. let r = row_is (part 0 7 w) (part 12 3 w) 0 (imm_row op) e in
    let u = part 20 12 w in
    let b = bits_of-signed 2048 u (omega arith) in
    let n = field_range 2048 u (omega arith) in
    (rw b (omega arith), (omega arith, omega arith, omega (arith, ints, n.0), omega (arith, ints, n.1))))

store_ok : (w : ℕ) → w < 2 ^ 32 → IfSome (store_of w) (Spells w)
unfolding store_of store_by_row
store_ok w fits = found (Spells w) _ _ store_ops (λ op e. let r = row_is (part 0 7 w) (part 12 3 w) 0 (store_row op) e in
    let u = store_bits w in
    let b = bits_of-signed 2048 u (omega arith) in
    let n = field_range 2048 u (omega arith) in
    (rw b (omega arith), (omega arith, omega arith, omega (arith, ints, n.0), omega (arith, ints, n.1))))

branch_ok : (w : ℕ) → w < 2 ^ 32 → IfSome (branch_of w) (Spells w)
unfolding branch_of branch_by_row
branch_ok w fits = found (Spells w) _ _ branch_ops (λ op e. let r = row_is (part 0 7 w) (part 12 3 w) 0 (branch_row op) e in
    let u = branch_bits w in
    let b = bits_of-signed 4096 u (omega arith) in
    let n = field_range 4096 u (omega arith) in
    (rw b (omega arith), (omega arith, omega arith, omega (arith, ints, n.0), omega (arith, ints, n.1), rw b (omega arith))))

jal_ok : (w : ℕ) → w < 2 ^ 32 → part 0 7 w ≡ 0x6f → IfSome (jal_of w) (Spells w)
unfolding jal_of
jal_ok w fits opcode =
    let u = jump_bits w in
    let b = bits_of-signed 1048576 u (omega arith) in
    let n = field_range 1048576 u (omega arith) in
    (rw b (omega arith), (omega arith, omega (arith, ints, n.0), omega (arith, ints, n.1), rw b (omega arith)))

word_shift_ok : (w : ℕ) → w < 2 ^ 32 → IfSome (word_shift_of w) (Spells w)
unfolding word_shift_of
word_shift_ok w fits = cases (part 25 1 w == 0) refl
  where
    cases : (b : Bool) → (part 25 1 w == 0) ≡ b → IfSome (if b then shift_of w else None) (Spells w)
    cases true e = shift_ok w fits (λ _. grind (arith, nat_tests))
    cases false e = tt

-- a record, so that antt finds the answer in its type
record Reads (w : ℕ) (o : Option Instr) : Type 0 where
  reads : IfSome o (Spells w)

either : (w : ℕ) (a b : Option Instr) (test : Bool) → (test ≡ true → Reads w a) → Reads w b → Reads w (if test then a else b)
either w a b true reads_a reads_b = reads_a refl
either w a b false reads_a reads_b = reads_b

reads_at : (w : ℕ) → w < 2 ^ 32 → Reads w (instr_of w)
unfolding instr_at
reads_at w fits = let opcode = part 0 7 w in let funct3 = part 12 3 w in
    let imm : Reads w (imm_of w) = record { reads = imm_ok w fits } in
    let shifts = funct3 == 1 || funct3 == 5 in
    either w _ _ (opcode == 0x33 || opcode == 0x3b) (λ _. record { reads = reg_ok w fits })
    (either w _ _ (opcode == 0x63) (λ _. record { reads = branch_ok w fits })
    (either w _ _ (opcode == 0x23) (λ _. record { reads = store_ok w fits })
    (either w _ _ (opcode == 0x37 || opcode == 0x17) (λ _. record { reads = upper_ok w fits })
    (either w _ _ (opcode == 0x6f) (λ e. record { reads = jal_ok w fits (grind (arith, nat_tests)) })
    (either w _ _ (opcode == 0x13) (λ e. either w _ _ shifts (λ _. record { reads = shift_ok w fits (λ other. absurd (grind (arith, nat_tests))) }) imm)
    (either w _ _ (opcode == 0x1b) (λ _. either w _ _ shifts (λ _. record { reads = word_shift_ok w fits }) imm)
    imm))))))

pub read_spells : (w : ℕ) → w < 2 ^ 32 → IfSome (instr_of w) (λ i. (word_of i ≡ w) × IsInstr i)
read_spells w fits = (reads_at w fits).reads
