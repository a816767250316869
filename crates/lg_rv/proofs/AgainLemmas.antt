-- An instruction's word is read as the instruction: the law of each format, and of all.
use Rattle.std.proofs.Common.{◌≡◌, ℕ, ◌+◌, ◌^◌, ◌<◌, ℤ, pos, negsuc, ◌+ℤ◌, ◌≤ℤ◌, Option, Some, refl, ◌∙◌, arith, lit<}
use Rattle.std.proofs.lemmas.Int.{ints}
use Rattle.lg_base.specs.Fields.{part, signed, bits_of}
use Rattle.lg_base.specs.Immediates.{store_bits, branch_bits, jump_bits}
use Rattle.lg_base.proofs.NumberLemmas.{signed-bits_of}
use Rattle.lg_rv.specs.declared.instruction.Instr.{Instr}
use Rattle.lg_rv.specs.declared.instruction.Instr.TheVariants.{Upper, Jal, Branch, Imm, Shift, Store, Reg}
use Rattle.lg_rv.specs.declared.instruction.UpperOp.{UpperOp}
use Rattle.lg_rv.specs.declared.instruction.UpperOp.TheVariants.{Lui}
use Rattle.lg_rv.specs.declared.instruction.BranchOp.{BranchOp}
use Rattle.lg_rv.specs.declared.instruction.BranchOp.TheVariants.{Beq}
use Rattle.lg_rv.specs.declared.instruction.ImmOp.{ImmOp}
use Rattle.lg_rv.specs.declared.instruction.ImmOp.TheVariants.{Jalr}
use Rattle.lg_rv.specs.declared.instruction.ShiftOp.{ShiftOp}
use Rattle.lg_rv.specs.declared.instruction.ShiftOp.TheVariants.{Slli, Srli, Srai}
use Rattle.lg_rv.specs.declared.instruction.StoreOp.{StoreOp}
use Rattle.lg_rv.specs.declared.instruction.StoreOp.TheVariants.{Sb}
use Rattle.lg_rv.specs.declared.instruction.RegOp.{RegOp}
use Rattle.lg_rv.specs.declared.instruction.RegOp.TheVariants.{Add}
use Rattle.lg_rv.specs.Rows.{Row, upper_row, branch_row, imm_row, shift_row, store_row, reg_row}
use Rattle.lg_rv.specs.Spelling.{word_of, IsInstr}
use Rattle.lg_rv.specs.Reading.{upper_by_row, branch_by_row, imm_by_row, shift_by_row, store_by_row, reg_by_row, upper_of, jal_of, branch_of, imm_of, shift_of, word_shift_of, store_of, reg_of, instr_at, instr_of}
use Rattle.lg_rv.proofs.RowLemmas.{Fits}

-- the opcode and funct3 of a word lead to its format
way : (w o f : ℕ) (r : Option Instr) → part 0 7 w ≡ o → part 12 3 w ≡ f → instr_at w o f ≡ r → instr_of w ≡ r
way w o f r opcode funct3 e = rw (opcode, funct3) e

-- what a row of a format fixes fits its fields, is found again, and leads to the format's reader
record Leads {Op : Type 0} (row_of : Op → Row) (size : ℕ) (by_row : ℕ → ℕ → ℕ → Option Op) (reader : ℕ → Option Instr) (op : Op) : Type 0 where
  fits : Fits (row_of op) size
  known : by_row (row_of op).fixed.opcode (row_of op).fixed.funct3 (row_of op).fixed.high ≡ Some op
  leads : (w : ℕ) → instr_at w (row_of op).fixed.opcode (row_of op).fixed.funct3 ≡ reader w

reg_leads : (op : RegOp) → Leads reg_row 128 reg_by_row reg_of op
unfolding instr_at reg_by_row
reg_leads Add = record { fits = record { opcode = lit< tt; funct3 = lit< tt; high = lit< tt }; known = refl; leads = λ w. refl }
reg_leads _ = record { fits = record { opcode = lit< tt; funct3 = lit< tt; high = lit< tt }; known = refl; leads = λ w. refl }

reg_known : (op : RegOp) (w : ℕ) → part 0 7 w ≡ (reg_row op).fixed.opcode → part 12 3 w ≡ (reg_row op).fixed.funct3 → part 25 7 w ≡ (reg_row op).fixed.high
    → instr_of w ≡ Some (Reg op (part 7 5 w) (part 15 5 w) (part 20 5 w))
unfolding reg_of
reg_known op w o f h = way w _ _ _ o f ((reg_leads op).leads w) ∙ rw (o, f, h, (reg_leads op).known) refl

reg_again : (op : RegOp) (rd rs1 rs2 : ℕ) → IsInstr (Reg op rd rs1 rs2) → instr_of (word_of (Reg op rd rs1 rs2)) ≡ Some (Reg op rd rs1 rs2)
reg_again op rd rs1 rs2 ok =
    let r : Fits (reg_row op) 128 = (reg_leads op).fits in
    let w = word_of (Reg op rd rs1 rs2) in
    let a : part 7 5 w ≡ rd = omega arith in
    let b : part 15 5 w ≡ rs1 = omega arith in
    let c : part 20 5 w ≡ rs2 = omega arith in
    reg_known op w (omega arith) (omega arith) (omega arith) ∙ rw (a, b, c) refl

-- the bits of a number in range fit its field
bits_fit : (half : ℕ) (z : ℤ) → pos 0 ≤ℤ (z +ℤ pos half) → (z +ℤ pos 1) ≤ℤ pos half → bits_of half z < half + half
bits_fit half (pos k) low high = omega (arith, ints)
bits_fit half (negsuc k) low high = omega (arith, ints)

imm_leads : (op : ImmOp) → Leads imm_row 1 imm_by_row imm_of op
unfolding instr_at imm_by_row
imm_leads Jalr = record { fits = record { opcode = lit< tt; funct3 = lit< tt; high = lit< tt }; known = refl; leads = λ w. refl }
imm_leads _ = record { fits = record { opcode = lit< tt; funct3 = lit< tt; high = lit< tt }; known = refl; leads = λ w. refl }

imm_known : (op : ImmOp) (w : ℕ) → part 0 7 w ≡ (imm_row op).fixed.opcode → part 12 3 w ≡ (imm_row op).fixed.funct3
    → instr_of w ≡ Some (Imm op (part 7 5 w) (part 15 5 w) (signed 2048 (part 20 12 w)))
unfolding imm_of
imm_known op w o f = let h : 0 ≡ (imm_row op).fixed.high = let r : Fits (imm_row op) 1 = (imm_leads op).fits in omega arith in
    way w _ _ _ o f ((imm_leads op).leads w) ∙ rw (o, f, h, (imm_leads op).known) refl

imm_again : (op : ImmOp) (rd rs1 : ℕ) (imm : ℤ) → IsInstr (Imm op rd rs1 imm) → instr_of (word_of (Imm op rd rs1 imm)) ≡ Some (Imm op rd rs1 imm)
imm_again op rd rs1 imm ok =
    let r : Fits (imm_row op) 1 = (imm_leads op).fits in
    let low : pos 0 ≤ℤ (imm +ℤ pos 2048) = omega (arith, ints) in
    let high : (imm +ℤ pos 1) ≤ℤ pos 2048 = omega (arith, ints) in
    let fits = bits_fit 2048 imm low high in
    let w = word_of (Imm op rd rs1 imm) in
    let a : part 7 5 w ≡ rd = omega arith in
    let b : part 15 5 w ≡ rs1 = omega arith in
    let c : part 20 12 w ≡ bits_of 2048 imm = omega arith in
    imm_known op w (omega arith) (omega arith) ∙ rw (a, b, c, signed-bits_of 2048 imm low high) refl

store_leads : (op : StoreOp) → Leads store_row 1 store_by_row store_of op
unfolding instr_at store_by_row
store_leads Sb = record { fits = record { opcode = lit< tt; funct3 = lit< tt; high = lit< tt }; known = refl; leads = λ w. refl }
store_leads _ = record { fits = record { opcode = lit< tt; funct3 = lit< tt; high = lit< tt }; known = refl; leads = λ w. refl }

store_known : (op : StoreOp) (w : ℕ) → part 0 7 w ≡ (store_row op).fixed.opcode → part 12 3 w ≡ (store_row op).fixed.funct3
    → instr_of w ≡ Some (Store op (part 15 5 w) (part 20 5 w) (signed 2048 (store_bits w)))
unfolding store_of
store_known op w o f = let h : 0 ≡ (store_row op).fixed.high = let r : Fits (store_row op) 1 = (store_leads op).fits in omega arith in
    way w _ _ _ o f ((store_leads op).leads w) ∙ rw (o, f, h, (store_leads op).known) refl

store_again : (op : StoreOp) (rs1 rs2 : ℕ) (imm : ℤ) → IsInstr (Store op rs1 rs2 imm) → instr_of (word_of (Store op rs1 rs2 imm)) ≡ Some (Store op rs1 rs2 imm)
store_again op rs1 rs2 imm ok =
    let r : Fits (store_row op) 1 = (store_leads op).fits in
    let low : pos 0 ≤ℤ (imm +ℤ pos 2048) = omega (arith, ints) in
    let high : (imm +ℤ pos 1) ≤ℤ pos 2048 = omega (arith, ints) in
    let fits = bits_fit 2048 imm low high in
    let w = word_of (Store op rs1 rs2 imm) in
    let a : part 15 5 w ≡ rs1 = omega arith in
    let b : part 20 5 w ≡ rs2 = omega arith in
    let c : store_bits w ≡ bits_of 2048 imm = omega arith in
    store_known op w (omega arith) (omega arith) ∙ rw (a, b, c, signed-bits_of 2048 imm low high) refl

branch_leads : (op : BranchOp) → Leads branch_row 1 branch_by_row branch_of op
unfolding instr_at branch_by_row
branch_leads Beq = record { fits = record { opcode = lit< tt; funct3 = lit< tt; high = lit< tt }; known = refl; leads = λ w. refl }
branch_leads _ = record { fits = record { opcode = lit< tt; funct3 = lit< tt; high = lit< tt }; known = refl; leads = λ w. refl }

branch_known : (op : BranchOp) (w : ℕ) → part 0 7 w ≡ (branch_row op).fixed.opcode → part 12 3 w ≡ (branch_row op).fixed.funct3
    → instr_of w ≡ Some (Branch op (part 15 5 w) (part 20 5 w) (signed 4096 (branch_bits w)))
unfolding branch_of
branch_known op w o f = let h : 0 ≡ (branch_row op).fixed.high = let r : Fits (branch_row op) 1 = (branch_leads op).fits in omega arith in
    way w _ _ _ o f ((branch_leads op).leads w) ∙ rw (o, f, h, (branch_leads op).known) refl

branch_again : (op : BranchOp) (rs1 rs2 : ℕ) (offset : ℤ) → IsInstr (Branch op rs1 rs2 offset) → instr_of (word_of (Branch op rs1 rs2 offset)) ≡ Some (Branch op rs1 rs2 offset)
branch_again op rs1 rs2 offset ok =
    let r : Fits (branch_row op) 1 = (branch_leads op).fits in
    let low : pos 0 ≤ℤ (offset +ℤ pos 4096) = omega (arith, ints) in
    let high : (offset +ℤ pos 1) ≤ℤ pos 4096 = omega (arith, ints) in
    let fits = bits_fit 4096 offset low high in
    let w = word_of (Branch op rs1 rs2 offset) in
    let a : part 15 5 w ≡ rs1 = omega arith in
    let b : part 20 5 w ≡ rs2 = omega arith in
    let c : branch_bits w ≡ bits_of 4096 offset = omega arith in
    branch_known op w (omega arith) (omega arith) ∙ rw (a, b, c, signed-bits_of 4096 offset low high) refl

jal_known : (w : ℕ) → part 0 7 w ≡ 0x6f → instr_of w ≡ Some (Jal (part 7 5 w) (signed 1048576 (jump_bits w)))
unfolding instr_at jal_of
jal_known w o = rw o refl

jal_again : (rd : ℕ) (offset : ℤ) → IsInstr (Jal rd offset) → instr_of (word_of (Jal rd offset)) ≡ Some (Jal rd offset)
jal_again rd offset ok =
    let low : pos 0 ≤ℤ (offset +ℤ pos 1048576) = omega (arith, ints) in
    let high : (offset +ℤ pos 1) ≤ℤ pos 1048576 = omega (arith, ints) in
    let fits = bits_fit 1048576 offset low high in
    let w = word_of (Jal rd offset) in
    let a : part 7 5 w ≡ rd = omega arith in
    let b : jump_bits w ≡ bits_of 1048576 offset = omega arith in
    jal_known w (omega arith) ∙ rw (a, b, signed-bits_of 1048576 offset low high) refl

record LeadsUpper (op : UpperOp) : Type 0 where
  fits : Fits (upper_row op) 1
  known : upper_by_row (upper_row op).fixed.opcode 0 0 ≡ Some op
  leads : (w funct3 : ℕ) → instr_at w (upper_row op).fixed.opcode funct3 ≡ upper_of w

-- whatever is in the place of funct3
upper_leads : (op : UpperOp) → LeadsUpper op
unfolding instr_at upper_by_row
upper_leads Lui = record { fits = record { opcode = lit< tt; funct3 = lit< tt; high = lit< tt }; known = refl; leads = λ w f. refl }
upper_leads _ = record { fits = record { opcode = lit< tt; funct3 = lit< tt; high = lit< tt }; known = refl; leads = λ w f. refl }

upper_known : (op : UpperOp) (w : ℕ) → part 0 7 w ≡ (upper_row op).fixed.opcode → instr_of w ≡ Some (Upper op (part 7 5 w) (part 12 20 w))
unfolding upper_of
upper_known op w o = way w _ _ _ o refl ((upper_leads op).leads w (part 12 3 w)) ∙ rw (o, (upper_leads op).known) refl

upper_again : (op : UpperOp) (rd imm : ℕ) → IsInstr (Upper op rd imm) → instr_of (word_of (Upper op rd imm)) ≡ Some (Upper op rd imm)
upper_again op rd imm ok =
    let r : Fits (upper_row op) 1 = (upper_leads op).fits in
    let w = word_of (Upper op rd imm) in
    let a : part 7 5 w ≡ rd = omega arith in
    let b : part 12 20 w ≡ imm = omega arith in
    upper_known op w (omega arith) ∙ rw (a, b) refl

record LeadsShift (op : ShiftOp) : Type 0 where
  fits : Fits (shift_row op) 64
  known : shift_by_row (shift_row op).fixed.opcode (shift_row op).fixed.funct3 (shift_row op).fixed.high ≡ Some op
  leads : (w : ℕ) → ((shift_row op).fixed.opcode ≡ 0x1b → part 25 1 w ≡ 0) → instr_at w (shift_row op).fixed.opcode (shift_row op).fixed.funct3 ≡ shift_of w

-- on 32 bits the number of a shift has one bit less
shift_leads : (op : ShiftOp) → LeadsShift op
unfolding instr_at shift_by_row word_shift_of
shift_leads Slli = record { fits = record { opcode = lit< tt; funct3 = lit< tt; high = lit< tt }; known = refl; leads = λ w short. refl }
shift_leads Srli = record { fits = record { opcode = lit< tt; funct3 = lit< tt; high = lit< tt }; known = refl; leads = λ w short. refl }
shift_leads Srai = record { fits = record { opcode = lit< tt; funct3 = lit< tt; high = lit< tt }; known = refl; leads = λ w short. refl }
shift_leads _ = record { fits = record { opcode = lit< tt; funct3 = lit< tt; high = lit< tt }; known = refl; leads = λ w short. rw (short refl) refl }

shift_known : (op : ShiftOp) (w : ℕ) → part 0 7 w ≡ (shift_row op).fixed.opcode → part 12 3 w ≡ (shift_row op).fixed.funct3 → part 26 6 w ≡ (shift_row op).fixed.high
    → ((shift_row op).fixed.opcode ≡ 0x1b → part 25 1 w ≡ 0) → instr_of w ≡ Some (Shift op (part 7 5 w) (part 15 5 w) (part 20 6 w))
unfolding shift_of
shift_known op w o f h short = way w _ _ _ o f ((shift_leads op).leads w short) ∙ rw (o, f, h, (shift_leads op).known) refl

shift_again : (op : ShiftOp) (rd rs1 amount : ℕ) → IsInstr (Shift op rd rs1 amount) → instr_of (word_of (Shift op rd rs1 amount)) ≡ Some (Shift op rd rs1 amount)
shift_again op rd rs1 amount ok =
    let r : Fits (shift_row op) 64 = (shift_leads op).fits in
    let w = word_of (Shift op rd rs1 amount) in
    let a : part 7 5 w ≡ rd = omega arith in
    let b : part 15 5 w ≡ rs1 = omega arith in
    let c : part 20 6 w ≡ amount = omega arith in
    shift_known op w (omega arith) (omega arith) (omega arith) (λ e. let small = ok.3 e in omega arith) ∙ rw (a, b, c) refl

pub read_again : (i : Instr) → IsInstr i → instr_of (word_of i) ≡ Some i
read_again (Upper op rd imm) ok = upper_again op rd imm ok
read_again (Jal rd offset) ok = jal_again rd offset ok
read_again (Branch op rs1 rs2 offset) ok = branch_again op rs1 rs2 offset ok
read_again (Imm op rd rs1 imm) ok = imm_again op rd rs1 imm ok
read_again (Shift op rd rs1 amount) ok = shift_again op rd rs1 amount ok
read_again (Store op rs1 rs2 imm) ok = store_again op rs1 rs2 imm ok
read_again (Reg op rd rs1 rs2) ok = reg_again op rd rs1 rs2 ok

-- a word has 32 bits
pub word_fits : (i : Instr) → IsInstr i → word_of i < 2 ^ 32
word_fits (Upper op rd imm) ok = let r : Fits (upper_row op) 1 = (upper_leads op).fits in omega arith
word_fits (Jal rd offset) ok = omega arith
word_fits (Branch op rs1 rs2 offset) ok = let r : Fits (branch_row op) 1 = (branch_leads op).fits in omega arith
word_fits (Imm op rd rs1 imm) ok =
    let r : Fits (imm_row op) 1 = (imm_leads op).fits in
    let fits = bits_fit 2048 imm (omega (arith, ints)) (omega (arith, ints)) in omega arith
word_fits (Shift op rd rs1 amount) ok = let r : Fits (shift_row op) 64 = (shift_leads op).fits in omega arith
word_fits (Store op rs1 rs2 imm) ok = let r : Fits (store_row op) 1 = (store_leads op).fits in omega arith
word_fits (Reg op rd rs1 rs2) ok = let r : Fits (reg_row op) 128 = (reg_leads op).fits in omega arith
