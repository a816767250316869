-- Words of instructions in lists of bytes, and words whose fields were patched.
use Rattle.std.proofs.Common.{◌≡◌, ℕ, suc, ◌+◌, ◌-◌, ◌*◌, ◌%◌, ◌^◌, ◌<◌, ◌≤◌, Bool, true, false, nat_lt, pos, negsuc, ◌+ℤ◌, ◌*ℤ◌, refl, sym, ap, ◌∙◌, arith}
use Rattle.std.specs.Prelude.{if◌then◌else◌, ℤ, ◌-ℤ◌}
use Rattle.std.proofs.lemmas.Int.{ints}
use Rattle.std.proofs.lemmas.Bool.Decides.{nat_tests}
use Rattle.lg_base.specs.Fields.{part, signed}
use Rattle.lg_base.specs.Fields.{word_of as word_of_number}
use Rattle.lg_base.specs.Immediates.{branch_bits, jump_bits}
use Rattle.lg_base.proofs.NumberLemmas.{bits_of-signed}
use Rattle.lg_sel.proofs.WordLemmas.{field-range}
use Rattle.lg_rv.specs.declared.instruction.Instr.TheVariants.{Upper, Jal, Branch, Imm}
use Rattle.lg_buf.specs.FixFields.{branch_rest}
use Rattle.lg_rv.specs.declared.instruction.BranchOp.{BranchOp}
use Rattle.lg_rv.specs.declared.instruction.BranchOp.TheVariants.{Beq}
use Rattle.lg_rv.specs.declared.instruction.UpperOp.{UpperOp}
use Rattle.lg_rv.specs.declared.instruction.UpperOp.TheVariants.{Lui, Auipc}
use Rattle.lg_rv.specs.declared.instruction.ImmOp.TheVariants.{Addi, Jalr}
use Rattle.lg_rv.specs.Spelling.{word_of, IsInstr}
use Rattle.lg_selr_values.specs.Processor.Numbers.{high_part, low_part}
use Rattle.lg_selr_values.specs.Items.{distance}

-- ---- patched words
-- a word that differs from that of a jump by nothing only in its field is that of the jump by the number in the field
pub jump-is : (w rd : ℕ) → w < 2 ^ 32 → rd < 32 → part 0 12 w ≡ part 0 12 (word_of (Jal rd (pos 0))) → (word_of (Jal rd (signed 1048576 (jump_bits w))) ≡ w) × IsInstr (Jal rd (signed 1048576 (jump_bits w)))
jump-is w rd fits small rest =
    let b = bits_of-signed 1048576 (jump_bits w) (omega arith) in
    let n = field-range 1048576 (jump_bits w) (omega arith) in
    (rw b (omega arith), (small, omega (arith, ints, n.0), omega (arith, ints, n.1), rw b (omega arith)))

branch-word : (o : BranchOp) (w a b : ℕ) → w < 2 ^ 32 → a < 32 → b < 32 → branch_rest w ≡ branch_rest (word_of (Branch o a b (pos 0)))
    → word_of (Branch o a b (signed 4096 (branch_bits w))) ≡ w
branch-word Beq w a b fits ha hb rest = let s = bits_of-signed 4096 (branch_bits w) (omega arith) in rw s (omega arith)
branch-word o w a b fits ha hb rest = let s = bits_of-signed 4096 (branch_bits w) (omega arith) in rw s (omega arith)

pub branch-is : (o : BranchOp) (w a b : ℕ) → w < 2 ^ 32 → a < 32 → b < 32 → branch_rest w ≡ branch_rest (word_of (Branch o a b (pos 0)))
    → (word_of (Branch o a b (signed 4096 (branch_bits w))) ≡ w) × IsInstr (Branch o a b (signed 4096 (branch_bits w)))
branch-is o w a b fits ha hb rest =
    let s = bits_of-signed 4096 (branch_bits w) (omega arith) in
    let n = field-range 4096 (branch_bits w) (omega arith) in
    (branch-word o w a b fits ha hb rest, (ha, hb, omega (arith, ints, n.0), omega (arith, ints, n.1), rw s (omega arith)))

pub upper-is : (o : UpperOp) (w rd : ℕ) → w < 2 ^ 32 → rd < 32 → part 0 12 w ≡ part 0 12 (word_of (Upper o rd 0)) → (word_of (Upper o rd (part 12 20 w)) ≡ w) × IsInstr (Upper o rd (part 12 20 w))
upper-is Lui w rd fits small rest = (omega arith, (small, omega arith))
upper-is Auipc w rd fits small rest = (omega arith, (small, omega arith))

pub addi-is : (w rd rs : ℕ) → w < 2 ^ 32 → rd < 32 → rs < 32 → part 0 20 w ≡ part 0 20 (word_of (Imm Addi rd rs (pos 0)))
    → (word_of (Imm Addi rd rs (signed 2048 (part 20 12 w))) ≡ w) × IsInstr (Imm Addi rd rs (signed 2048 (part 20 12 w)))
addi-is w rd rs fits small smalls rest =
    let b = bits_of-signed 2048 (part 20 12 w) (omega arith) in
    let n = field-range 2048 (part 20 12 w) (omega arith) in
    (rw b (omega arith), (small, smalls, omega (arith, ints, n.0), omega (arith, ints, n.1)))

pub jalr-is : (w rd rs : ℕ) → w < 2 ^ 32 → rd < 32 → rs < 32 → part 0 20 w ≡ part 0 20 (word_of (Imm Jalr rd rs (pos 0)))
    → (word_of (Imm Jalr rd rs (signed 2048 (part 20 12 w))) ≡ w) × IsInstr (Imm Jalr rd rs (signed 2048 (part 20 12 w)))
jalr-is w rd rs fits small smalls rest =
    let b = bits_of-signed 2048 (part 20 12 w) (omega arith) in
    let n = field-range 2048 (part 20 12 w) (omega arith) in
    (rw b (omega arith), (small, smalls, omega (arith, ints, n.0), omega (arith, ints, n.1)))

low-is : (v x : ℕ) → v % 4096 ≡ x → low_part v ≡ (if nat_lt x 2048 then pos x else negsuc (4095 - x))
low-is v x e = ap (λ (y : ℕ). if nat_lt y 2048 then pos y else negsuc (4095 - y)) e

-- the numbers of `lui` and `addi` that make an address are its parts
pub parts-are : (h l v : ℕ) → h < 2 ^ 20 → l < 2 ^ 12 → (signed 524288 h *ℤ pos 4096) +ℤ signed 2048 l ≡ pos v → (h ≡ high_part v) × (signed 2048 l ≡ low_part v)
parts-are h l v hs ls e = by (nat_lt l 2048) (nat_lt h 524288) refl refl
  where
    by : (a b : Bool) → nat_lt l 2048 ≡ a → nat_lt h 524288 ≡ b → (h ≡ high_part v) × (signed 2048 l ≡ low_part v)
    by true true la hb =
        let lt : l < 2048 = grind (arith, nat_tests) in
        let low : signed 2048 l ≡ pos l = rw la refl in
        let high : signed 524288 h ≡ pos h = rw hb refl in
        let sum : h * 4096 + l ≡ v = omega (arith, ints, e, low, high) in
        let m : v % 4096 ≡ l = omega arith in
        (omega arith, low ∙ sym (low-is v l m ∙ rw la refl))
    by false true la hb =
        let ge : 2048 ≤ l = grind (arith, nat_tests) in
        let low : signed 2048 l ≡ negsuc (4096 - suc l) = rw la refl in
        let high : signed 524288 h ≡ pos h = rw hb refl in
        let sum : h * 4096 + l ≡ v + 4096 = omega (arith, ints, e, low, high) in
        let m : v % 4096 ≡ l = omega arith in
        let z : 4096 - suc l ≡ 4095 - l = omega arith in
        (omega arith, low ∙ (ap negsuc z ∙ sym (low-is v l m ∙ rw la refl)))
    by true false la hb =
        let lt : l < 2048 = grind (arith, nat_tests) in
        let low : signed 2048 l ≡ pos l = rw la refl in
        let high : signed 524288 h ≡ negsuc (1048576 - suc h) = rw hb refl in
        absurd (omega (arith, ints, e, low, high))
    by false false la hb =
        let ge : 2048 ≤ l = grind (arith, nat_tests) in
        let low : signed 2048 l ≡ negsuc (4096 - suc l) = rw la refl in
        let high : signed 524288 h ≡ negsuc (1048576 - suc h) = rw hb refl in
        absurd (omega (arith, ints, e, low, high))

-- the numbers of `auipc` and `jalr` that make a distance are its parts
distance-parts : (h l : ℕ) (z : ℤ) → h < 2 ^ 20 → l < 2 ^ 12 → z ≡ (signed 524288 h *ℤ pos 4096) +ℤ signed 2048 l
    → (h ≡ high_part (word_of_number z)) × (signed 2048 l ≡ low_part (word_of_number z))
distance-parts h l z hs ls e = by (nat_lt l 2048) (nat_lt h 524288) z refl refl e
  where
    by : (a b : Bool) (z : ℤ) → nat_lt l 2048 ≡ a → nat_lt h 524288 ≡ b → z ≡ (signed 524288 h *ℤ pos 4096) +ℤ signed 2048 l
        → (h ≡ high_part (word_of_number z)) × (signed 2048 l ≡ low_part (word_of_number z))
    by true true (pos k) la hb e =
        let lt : l < 2048 = grind (arith, nat_tests) in
        let low : signed 2048 l ≡ pos l = rw la refl in
        let high : signed 524288 h ≡ pos h = rw hb refl in
        let sum : h * 4096 + l ≡ k = omega (arith, ints, e, low, high) in
        let m : k % 4096 ≡ l = omega arith in
        (omega arith, low ∙ sym (low-is k l m ∙ rw la refl))
    by true true (negsuc k) la hb e =
        let low : signed 2048 l ≡ pos l = rw la refl in
        let high : signed 524288 h ≡ pos h = rw hb refl in
        absurd (omega (arith, ints, e, low, high))
    by false true (pos k) la hb e =
        let ge : 2048 ≤ l = grind (arith, nat_tests) in
        let low : signed 2048 l ≡ negsuc (4096 - suc l) = rw la refl in
        let high : signed 524288 h ≡ pos h = rw hb refl in
        let sum : h * 4096 + l ≡ k + 4096 = omega (arith, ints, e, low, high) in
        let m : k % 4096 ≡ l = omega arith in
        let z : 4096 - suc l ≡ 4095 - l = omega arith in
        (omega arith, low ∙ (ap negsuc z ∙ sym (low-is k l m ∙ rw la refl)))
    by false true (negsuc k) la hb e =
        let ge : 2048 ≤ l = grind (arith, nat_tests) in
        let low : signed 2048 l ≡ negsuc (4096 - suc l) = rw la refl in
        let high : signed 524288 h ≡ pos h = rw hb refl in
        let sum : h * 4096 + l + suc k ≡ 4096 = omega (arith, ints, e, low, high) in
        let m : (2 ^ 64 - suc k) % 4096 ≡ l = omega arith in
        let z : 4096 - suc l ≡ 4095 - l = omega arith in
        (omega arith, low ∙ (ap negsuc z ∙ sym (low-is (2 ^ 64 - suc k) l m ∙ rw la refl)))
    by true false (pos k) la hb e =
        let lt : l < 2048 = grind (arith, nat_tests) in
        let low : signed 2048 l ≡ pos l = rw la refl in
        let high : signed 524288 h ≡ negsuc (1048576 - suc h) = rw hb refl in
        absurd (omega (arith, ints, e, low, high))
    by true false (negsuc k) la hb e =
        let lt : l < 2048 = grind (arith, nat_tests) in
        let low : signed 2048 l ≡ pos l = rw la refl in
        let high : signed 524288 h ≡ negsuc (1048576 - suc h) = rw hb refl in
        let sum : h * 4096 + l + suc k ≡ 4294967296 = omega (arith, ints, e, low, high) in
        let m : (2 ^ 64 - suc k) % 4096 ≡ l = omega arith in
        (omega arith, low ∙ sym (low-is (2 ^ 64 - suc k) l m ∙ rw la refl))
    by false false (pos k) la hb e =
        let ge : 2048 ≤ l = grind (arith, nat_tests) in
        let low : signed 2048 l ≡ negsuc (4096 - suc l) = rw la refl in
        let high : signed 524288 h ≡ negsuc (1048576 - suc h) = rw hb refl in
        absurd (omega (arith, ints, e, low, high))
    by false false (negsuc k) la hb e =
        let ge : 2048 ≤ l = grind (arith, nat_tests) in
        let low : signed 2048 l ≡ negsuc (4096 - suc l) = rw la refl in
        let high : signed 524288 h ≡ negsuc (1048576 - suc h) = rw hb refl in
        let sum : h * 4096 + l + suc k ≡ 4294971392 = omega (arith, ints, e, low, high) in
        let m : (2 ^ 64 - suc k) % 4096 ≡ l = omega arith in
        let z : 4096 - suc l ≡ 4095 - l = omega arith in
        (omega arith, low ∙ (ap negsuc z ∙ sym (low-is (2 ^ 64 - suc k) l m ∙ rw la refl)))

pub far-parts : (h l from to : ℕ) → h < 2 ^ 20 → l < 2 ^ 12 → pos from +ℤ ((signed 524288 h *ℤ pos 4096) +ℤ signed 2048 l) ≡ pos to
    → (h ≡ high_part (distance from to)) × (signed 2048 l ≡ low_part (distance from to))
far-parts h l from to hs ls e = distance-parts h l (pos to -ℤ pos from) hs ls (omega (arith, ints, e))
