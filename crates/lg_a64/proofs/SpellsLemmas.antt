-- What is read is spelled by the word: the law of each format, and of all.
use Rattle.std.proofs.Common.{◌≡◌, ℕ, ◌+◌, ◌/◌, ◌^◌, ◌<◌, ◌≤◌, pos, ◌+ℤ◌, ◌≤ℤ◌, nat_lt, Option, Bool, true, false, refl, arith}
use Rattle.std.specs.Prelude.{IfSome, ◌==◌, ◌||◌, if◌then◌else◌}
use Rattle.std.proofs.lemmas.Int.{ints}
use Rattle.std.proofs.lemmas.Bool.Decides.{nat_tests}
use Rattle.std.proofs.lemmas.Bool.{eqb-true}
use Rattle.lg_base.specs.Fields.{part, signed}
use Rattle.lg_base.proofs.NumberLemmas.{bits_of-signed}
use Rattle.lg_a64.specs.declared.instruction.Instr.{Instr}
use Rattle.lg_a64.specs.Rows.{reg_row, reg_ops, imm_row, imm_ops, wide_row, wide_ops, mul_add_row, mul_add_ops, bitfield_row, bitfield_ops, reverse_row, reverse_ops, scaled_row, scaled_ops, unscaled_row, unscaled_ops, branch_row, branch_ops, branch_reg_row, branch_reg_ops, csinc_row, ldrx_row, branch_if_row, nop_row, cond_row, conds}
use Rattle.lg_a64.specs.Spelling.{word_of, IsInstr}
use Rattle.lg_a64.specs.Reading.{reg_by_word, reg_of, imm_by_word, imm_of, wide_by_word, wide_of, mul_add_by_word, mul_add_of, bitfield_by_word, bitfield_of, reverse_by_word, reverse_of, scaled_by_word, scaled_of, unscaled_by_word, unscaled_of, branch_by_word, branch_of, branch_reg_by_word, branch_reg_of, cond_by_number, csinc_of, ldrx_of, branch_if_of, nop_of, reg_fixed, imm_fixed, mul_add_fixed, bitfield_fixed, select_fixed, reverse_fixed, branch_fixed, branch_if_fixed, branch_reg_fixed, instr_at, instr_of}
use Rattle.lg_a64.proofs.RowLemmas.{bit-is_one, found, where_true}

-- the instruction is one, and is spelled by the word
abbrev Spells : ℕ → Instr → Type 0
Spells w i = (word_of i ≡ w) × IsInstr i

-- the number in a field of half + half values is one of a field of that size
field_range : (half bits : ℕ) → bits < half + half → (pos 0 ≤ℤ (signed half bits +ℤ pos half)) × ((signed half bits +ℤ pos 1) ≤ℤ pos half)
field_range half bits h = cases (nat_lt bits half) refl
  where
    cases : (b : Bool) → nat_lt bits half ≡ b → (pos 0 ≤ℤ (signed half bits +ℤ pos half)) × ((signed half bits +ℤ pos 1) ≤ℤ pos half)
    cases true e = rw e (let lt : bits < half = grind (arith, nat_tests) in (omega (arith, ints), omega (arith, ints)))
    cases false e = rw e (let ge : half ≤ bits = grind (arith, nat_tests) in (omega (arith, ints), omega (arith, ints)))

reg_ok : (w : ℕ) → w < 2 ^ 32 → IfSome (reg_of w) (Spells w)
unfolding reg_of reg_by_word
reg_ok w fits = found (Spells w) _ _ reg_ops (λ op e. let r = eqb-true (reg_fixed w) (reg_row op).word e in
    (omega arith, (omega arith, omega arith, omega arith)))

imm_ok : (w : ℕ) → w < 2 ^ 32 → IfSome (imm_of w) (Spells w)
unfolding imm_of imm_by_word
imm_ok w fits = found (Spells w) _ _ imm_ops (λ op e. let r = eqb-true (imm_fixed w) (imm_row op).word e in
    let b = bit-is_one (part 22 1 w) (omega arith) in
    (rw b (omega arith), (omega arith, omega arith, omega arith)))

wide_ok : (w : ℕ) → w < 2 ^ 32 → IfSome (wide_of w) (Spells w)
unfolding wide_of wide_by_word
wide_ok w fits = found (Spells w) _ _ wide_ops (λ op e. let r = eqb-true (imm_fixed w) (wide_row op).word e in
    (omega arith, (omega arith, omega arith, omega arith)))

mul_add_ok : (w : ℕ) → w < 2 ^ 32 → IfSome (mul_add_of w) (Spells w)
unfolding mul_add_of mul_add_by_word
mul_add_ok w fits = found (Spells w) _ _ mul_add_ops (λ op e. let r = eqb-true (mul_add_fixed w) (mul_add_row op).word e in
    (omega arith, (omega arith, omega arith, omega arith, omega arith)))

bitfield_ok : (w : ℕ) → w < 2 ^ 32 → IfSome (bitfield_of w) (Spells w)
unfolding bitfield_of bitfield_by_word
bitfield_ok w fits = found (Spells w) _ _ bitfield_ops (λ op e. let r = eqb-true (bitfield_fixed w) (bitfield_row op).word e in
    (omega arith, (omega arith, omega arith, omega arith, omega arith)))

reverse_ok : (w : ℕ) → w < 2 ^ 32 → IfSome (reverse_of w) (Spells w)
unfolding reverse_of reverse_by_word
reverse_ok w fits = found (Spells w) _ _ reverse_ops (λ op e. let r = eqb-true (reverse_fixed w) (reverse_row op).word e in
    (omega arith, (omega arith, omega arith)))

scaled_ok : (w : ℕ) → w < 2 ^ 32 → IfSome (scaled_of w) (Spells w)
unfolding scaled_of scaled_by_word
scaled_ok w fits = found (Spells w) _ _ scaled_ops (λ op e. let r = eqb-true (bitfield_fixed w) (scaled_row op).word e in
    (omega arith, (omega arith, omega arith, omega arith)))

unscaled_ok : (w : ℕ) → w < 2 ^ 32 → IfSome (unscaled_of w) (Spells w)
unfolding unscaled_of unscaled_by_word
unscaled_ok w fits = found (Spells w) _ _ unscaled_ops (λ op e. let r = eqb-true (select_fixed w) (unscaled_row op).word e in
    let u = part 12 9 w in
    let b = bits_of-signed 256 u (omega arith) in
    let n = field_range 256 u (omega arith) in
    (rw b (omega arith), (omega arith, omega arith, omega (arith, ints, n.0), omega (arith, ints, n.1))))

branch_ok : (w : ℕ) → w < 2 ^ 32 → IfSome (branch_of w) (Spells w)
unfolding branch_of branch_by_word
branch_ok w fits = found (Spells w) _ _ branch_ops (λ op e. let r = eqb-true (branch_fixed w) (branch_row op).word e in
    let u = part 0 26 w in
    let b = bits_of-signed 33554432 u (omega arith) in
    let n = field_range 33554432 u (omega arith) in
    (rw b (omega arith), (omega (arith, ints, n.0), omega (arith, ints, n.1))))

branch_reg_ok : (w : ℕ) → w < 2 ^ 32 → IfSome (branch_reg_of w) (Spells w)
unfolding branch_reg_of branch_reg_by_word
branch_reg_ok w fits = found (Spells w) _ _ branch_reg_ops (λ op e. let r = eqb-true (branch_reg_fixed w) (branch_reg_row op).word e in
    (omega arith, omega arith))

csinc_ok : (w : ℕ) → w < 2 ^ 32 → IfSome (csinc_of w) (Spells w)
unfolding csinc_of cond_by_number
csinc_ok w fits = where_true (Spells w) _ _ (λ t. let r = eqb-true (select_fixed w) csinc_row.word t in
    found (Spells w) _ _ conds (λ c e. let n = eqb-true (part 12 4 w) (cond_row c).word e in
    (omega arith, (omega arith, omega arith, omega arith))))

ldrx_ok : (w : ℕ) → w < 2 ^ 32 → IfSome (ldrx_of w) (Spells w)
unfolding ldrx_of
ldrx_ok w fits = where_true (Spells w) _ _ (λ t. let r = eqb-true (reg_fixed w) ldrx_row.word t in
    (omega arith, (omega arith, omega arith, omega arith)))

branch_if_ok : (w : ℕ) → w < 2 ^ 32 → IfSome (branch_if_of w) (Spells w)
unfolding branch_if_of cond_by_number
branch_if_ok w fits = where_true (Spells w) _ _ (λ t. let r = eqb-true (branch_if_fixed w) branch_if_row.word t in
    found (Spells w) _ _ conds (λ c e. let m = eqb-true (part 0 4 w) (cond_row c).word e in
    let u = part 5 19 w in
    let b = bits_of-signed 262144 u (omega arith) in
    let n = field_range 262144 u (omega arith) in
    (rw b (omega arith), (omega (arith, ints, n.0), omega (arith, ints, n.1)))))

nop_ok : (w : ℕ) → w < 2 ^ 32 → IfSome (nop_of w) (Spells w)
unfolding nop_of
nop_ok w fits = where_true (Spells w) _ _ (λ t. let r = eqb-true w nop_row.word t in (omega arith, tt))

-- a record, so that antt finds the answer in its type
record Reads (w : ℕ) (o : Option Instr) : Type 0 where
  reads : IfSome o (Spells w)

either : (w : ℕ) (a b : Option Instr) (test : Bool) → Reads w a → Reads w b → Reads w (if test then a else b)
either w a b true reads_a reads_b = reads_a
either w a b false reads_a reads_b = reads_b

reads_at : (w : ℕ) → w < 2 ^ 32 → Reads w (instr_of w)
unfolding instr_at
reads_at w fits = let top = part 24 8 w in let sort = part 21 3 w in
    let reg : Reads w (reg_of w) = record { reads = reg_ok w fits } in
    either w _ _ (top / 4 == 0x05 || top / 4 == 0x25) (record { reads = branch_ok w fits })
    (either w _ _ (top == 0x9a) (either w _ _ (sort == 4) (record { reads = csinc_ok w fits }) reg)
    (either w _ _ (top == 0xda) (either w _ _ (sort == 6) (record { reads = reverse_ok w fits }) reg)
    (either w _ _ (top == 0x9b) (either w _ _ (sort == 0) (record { reads = mul_add_ok w fits }) reg)
    (either w _ _ (top == 0xf8) (either w _ _ (sort == 3) (record { reads = ldrx_ok w fits }) (record { reads = unscaled_ok w fits }))
    (either w _ _ (top == 0x91 || (top == 0xb1 || (top == 0xd1 || top == 0xf1))) (record { reads = imm_ok w fits })
    (either w _ _ (top == 0xd2 || (top == 0x92 || top == 0xf2)) (record { reads = wide_ok w fits })
    (either w _ _ (top == 0x93 || top == 0xd3) (record { reads = bitfield_ok w fits })
    (either w _ _ (top == 0xf9 || (top == 0xb9 || (top == 0x79 || top == 0x39))) (record { reads = scaled_ok w fits })
    (either w _ _ (top == 0x54) (record { reads = branch_if_ok w fits })
    (either w _ _ (top == 0xd6) (record { reads = branch_reg_ok w fits })
    (either w _ _ (top == 0xd5) (record { reads = nop_ok w fits })
    reg)))))))))))

pub read_spells : (w : ℕ) → w < 2 ^ 32 → IfSome (instr_of w) (λ i. (word_of i ≡ w) × IsInstr i)
read_spells w fits = (reads_at w fits).reads
