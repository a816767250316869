-- Words of instructions in lists of bytes, and words whose fields were patched.
use Rattle.std.proofs.Common.{◌≡◌, ℕ, ◌+◌, ◌*◌, ◌/◌, ◌%◌, ◌^◌, ◌<◌, pos, ◌*ℤ◌, arith}
use Rattle.std.specs.Prelude.{ℤ, ◌-ℤ◌}
use Rattle.std.proofs.lemmas.Int.{ints}
use Rattle.lg_base.specs.Fields.{part, signed, bits_of}
use Rattle.lg_base.proofs.NumberLemmas.{bits_of-signed}
use Rattle.lg_buf.specs.FixFields.{cond_rest, move_rest}
use Rattle.lg_sel.proofs.WordLemmas.{field-range}
use Rattle.lg_a64.specs.Rows.{cond_row}
use Rattle.lg_a64.specs.Spelling.{word_of, IsInstr}
use Rattle.lg_a64.specs.declared.instruction.BranchOp.{BranchOp}
use Rattle.lg_a64.specs.declared.instruction.BranchOp.TheVariants.{B, Bl}
use Rattle.lg_a64.specs.declared.instruction.Cond.{Cond}
use Rattle.lg_a64.specs.declared.instruction.Cond.TheVariants.{Eq}
use Rattle.lg_a64.specs.declared.instruction.Instr.TheVariants.{Wide, Branch, BranchIf}
use Rattle.lg_a64.specs.declared.instruction.WideOp.TheVariants.{Movz, Movk}
use Rattle.lg_sela_values.specs.Items.{words_between, low_quarter, next_quarter}

-- ---- patched words
small-number : (c : Cond) → (cond_row c).word < 14
small-number Eq = omega arith
small-number o = omega arith

-- a conditional branch
cond-word : (w n f : ℕ) → w < 2 ^ 32 → n < 14 → cond_rest w ≡ cond_rest (0x54000000 + n + 0 * 2 ^ 5) → f ≡ part 5 19 w → 0x54000000 + n + f * 2 ^ 5 ≡ w
cond-word w n f fits small rest e = omega (arith, fits, small, rest, e)

pub cond-is : (w : ℕ) (c : Cond) → w < 2 ^ 32 → cond_rest w ≡ cond_rest (word_of (BranchIf c (pos 0))) → (word_of (BranchIf c (signed 262144 (part 5 19 w))) ≡ w) × IsInstr (BranchIf c (signed 262144 (part 5 19 w)))
cond-is w c fits rest =
    let b = bits_of-signed 262144 (part 5 19 w) (omega arith) in
    let n = field-range 262144 (part 5 19 w) (omega arith) in
    (cond-word w (cond_row c).word (bits_of 262144 (signed 262144 (part 5 19 w))) fits (small-number c) rest b, (omega (arith, ints, n.0), omega (arith, ints, n.1)))

-- a branch
branch-word : (w k f : ℕ) → w < 2 ^ 32 → k < 64 → part 26 6 w ≡ part 26 6 (k * 2 ^ 26 + 0) → f ≡ part 0 26 w → k * 2 ^ 26 + f ≡ w
branch-word w k f fits small rest e = omega (arith, fits, small, rest, e)

pub branch-is : (w : ℕ) (o : BranchOp) → w < 2 ^ 32 → part 26 6 w ≡ part 26 6 (word_of (Branch o (pos 0))) → (word_of (Branch o (signed 33554432 (part 0 26 w))) ≡ w) × IsInstr (Branch o (signed 33554432 (part 0 26 w)))
branch-is w B fits rest =
    let b = bits_of-signed 33554432 (part 0 26 w) (omega arith) in
    let n = field-range 33554432 (part 0 26 w) (omega arith) in
    (branch-word w 5 (bits_of 33554432 (signed 33554432 (part 0 26 w))) fits (omega arith) rest b, (omega (arith, ints, n.0), omega (arith, ints, n.1)))
branch-is w Bl fits rest =
    let b = bits_of-signed 33554432 (part 0 26 w) (omega arith) in
    let n = field-range 33554432 (part 0 26 w) (omega arith) in
    (branch-word w 37 (bits_of 33554432 (signed 33554432 (part 0 26 w))) fits (omega arith) rest b, (omega (arith, ints, n.0), omega (arith, ints, n.1)))

-- the number of words of a distance that the field holds
pub words-are : (z : ℤ) (from to : ℕ) → z *ℤ pos 4 ≡ pos to -ℤ pos from → z ≡ words_between from to
words-are z from to e =
    let ef : from ≡ 4 * (from / 4) + from % 4 = omega arith in
    let et : to ≡ 4 * (to / 4) + to % 4 = omega arith in
    let lf : from % 4 < 4 = omega arith in
    let lt : to % 4 < 4 = omega arith in
    omega (arith, ints, e, ef, et, lf, lt)

-- the two moves of an address
pub move-is : (w rd : ℕ) → w < 2 ^ 32 → rd < 32 → move_rest w ≡ move_rest (word_of (Wide Movz rd 0 0)) → (word_of (Wide Movz rd (part 5 16 w) 0) ≡ w) × IsInstr (Wide Movz rd (part 5 16 w) 0)
move-is w rd fits small rest = (omega (arith, fits, small, rest), (small, omega arith, omega arith))

pub keep-is : (w rd : ℕ) → w < 2 ^ 32 → rd < 32 → move_rest w ≡ move_rest (word_of (Wide Movk rd 0 1)) → (word_of (Wide Movk rd (part 5 16 w) 1) ≡ w) × IsInstr (Wide Movk rd (part 5 16 w) 1)
keep-is w rd fits small rest = (omega (arith, fits, small, rest), (small, omega arith, omega arith))

-- the numbers of the moves that make an address are its quarters
pub moves-are : (l h v : ℕ) → l < 65536 → h < 65536 → pos (l + h * 65536) ≡ pos v → (l ≡ low_quarter v) × (h ≡ next_quarter v)
moves-are l h v ls hs e = let z : l + h * 65536 ≡ v = cc in (omega (arith, ls, hs, z), omega (arith, ls, hs, z))
