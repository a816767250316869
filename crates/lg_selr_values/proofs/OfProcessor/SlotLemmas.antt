-- `sd` saves a register in a spill slot, and `ld` restores it.
use Rattle.lg_base.specs.declared.target.Target.TheVariants.{Riscv64}
use Rattle.lg_carry.proofs.BelowLemmas.{not-below}
use Rattle.lg_carry.specs.Processors.{IsOff, is_below}
use Rattle.std.proofs.Common.{◌≡◌, ◌≢◌, ℕ, ◌+◌, ◌%◌, ◌<◌, ◌≤◌, true, false, refl, ap, ◌∙◌, arith, inr}
use Rattle.std.specs.Prelude.{◌==◌, is_some, if◌then◌else◌}
use Rattle.lg_base.specs.Fields.{word_of}
use Rattle.lg_base.specs.Layout.{stop_address, code_base, most_code, spill_word}
use Rattle.lg_base.specs.Runs.{Running}
use Rattle.lg_base.specs.Spaces.{mapped, stored}
use Rattle.lg_base.specs.Words.{add_words}
use Rattle.lg_base.proofs.SpaceLemmas.{mapped-all}
use Rattle.lg_rv.specs.declared.instruction.Instr.TheVariants.{Imm, Store}
use Rattle.lg_rv.specs.declared.instruction.ImmOp.TheVariants.{Ld}
use Rattle.lg_rv.specs.declared.instruction.StoreOp.TheVariants.{Sd}
use Rattle.lg_cpu.specs.Steps.{after, arrived, status_of}
use Rattle.lg_cpu.specs.States.{CpuState}
use Rattle.lg_cpu.specs.RvStep.{read, goes, sets, loads, act}
use Rattle.lg_carry.specs.Registers.{HasWord}
use Rattle.lg_carry.specs.Spills.{IsFramePointer, in_slots}
use Rattle.lg_selr_values.specs.Processor.RvRows.{rv_does, slot_offset, can_save, InstructionsAreSpills}
use Rattle.lg_selr_values.proofs.OfProcessor.RowLemmas.{went}

slot-address : (fp k : ℕ) → k < 5 → 0x3FF00000 + 256 ≤ fp → fp + 16 ≤ 0x40000000 → add_words fp (word_of (slot_offset k)) ≡ spill_word fp k
slot-address fp k few low high = grind (arith, few, low, high)

slot-aligned : (fp k : ℕ) → k < 5 → 0x3FF00000 + 256 ≤ fp → fp % 8 ≡ 0 → (spill_word fp k % 8 == 0) ≡ true
slot-aligned fp k few low at = grind (arith, few, low, at)

slot-byte : (fp k a : ℕ) → k < 5 → 0x3FF00000 + 256 ≤ fp → spill_word fp k ≤ a → a < spill_word fp k + 8 → in_slots fp a ≡ true
slot-byte fp k a few low le lt = grind arith

saved-some : (r : ℕ) → can_save r ≡ true → (r == 0) ≡ false
saved-some r can = grind (arith, can)

saved-apart : (r : ℕ) → can_save r ≡ true → r ≢ 8
saved-apart r can = λ e. absurd (grind (arith, can, e))

pub pc-next : (pc : ℕ) → pc + 4 ≤ code_base + most_code → add_words pc 4 ≡ pc + 4
pc-next pc h = grind (arith, h)

-- the code goes on
no-stop : (pc : ℕ) → code_base ≤ pc → pc + 4 ≤ code_base + most_code → (add_words pc 4 == stop_address) ≡ false
no-stop pc low high = grind (arith, low, high)

pub goes-on : (pc : ℕ) → code_base ≤ pc → pc + 4 ≤ code_base + most_code → status_of (arrived (add_words pc 4)) ≡ Running
goes-on pc low high = let n = no-stop pc low high in rw n refl

-- ---- what the two instructions do
save-act : (q : CpuState) (r k fp : ℕ) → can_save r ≡ true → k < 5 → IsFramePointer fp → q.registers 8 ≡ fp → ((a : ℕ) → in_slots fp a ≡ true → is_some (q.bytes a) ≡ true)
    → act (Store Sd 8 r (slot_offset k)) q ≡ goes (add_words q.pc 4) q.registers (stored q.bytes (spill_word fp k) 8 (q.registers r)) q.mark
save-act q r k fp can few f at slots =
    let address : add_words (q.registers 8) (word_of (slot_offset k)) ≡ spill_word fp k = ap (λ x. add_words x (word_of (slot_offset k))) at ∙ slot-address fp k few f.low f.high in
    let value : read q.registers r ≡ q.registers r = ap (λ b. if b then 0 else q.registers r) (saved-some r can) in
    let there : mapped q.bytes (spill_word fp k) 8 ≡ true = mapped-all q.bytes (spill_word fp k) 8 (λ j le lt. slots j (slot-byte fp k j few f.low le lt)) in
    let even = slot-aligned fp k few f.low f.aligned in
    rw (address, value, even, there) refl

restore-act : (q : CpuState) (r k fp w : ℕ) → k < 5 → IsFramePointer fp → q.registers 8 ≡ fp → HasWord q.bytes (spill_word fp k) w
    → act (Imm Ld r 8 (slot_offset k)) q ≡ sets q r w
restore-act q r k fp w few f at held =
    let address : add_words (q.registers 8) (word_of (slot_offset k)) ≡ spill_word fp k = ap (λ x. add_words x (word_of (slot_offset k))) at ∙ slot-address fp k few f.low f.high in
    let even = slot-aligned fp k few f.low f.aligned in
    rw (address, even) (ap (loads q r 8 false) held)

-- the word of a slot lies above the stack pointer
slot-above : (w : ℕ → ℕ) (k fp : ℕ) → k < 5 → IsFramePointer fp → w 2 + 128 ≤ fp → w 8 ≡ fp
    → IsOff (is_below Riscv64 (w 2)) record { from = add_words (w 8) (word_of (slot_offset k)); width = 8 }
slot-above w k fp few f low at a le lt =
    let address : add_words (w 8) (word_of (slot_offset k)) ≡ spill_word fp k = ap (λ x. add_words x (word_of (slot_offset k))) at ∙ slot-address fp k few f.low f.high in
    let h = f.low in
    not-below Riscv64 (w 2) a (inr (omega (arith, le, address, low, few, h)))

pub are-spills : InstructionsAreSpills
are-spills code trash = record {
  apart = λ r can. saved-apart r can;
  saves = λ q r k fp can few f running room low at slots.
      let e : rv_does (Store Sd 8 r (slot_offset k)) q ≡ after q (goes (add_words q.state.pc 4) q.state.registers (stored q.state.bytes (spill_word fp k) 8 (q.state.registers r)) q.state.mark) = went q _ running ∙ ap (after q) (save-act q.state r k fp can few f at slots) in
      record {
        above = slot-above q.state.registers k fp few f low at;
        runs = ap (λ s. status_of s.progress) e ∙ goes-on q.state.pc room.low (let z = room.high (omega arith) in omega (arith, z));
        behind = ap (λ s. s.state.pc) e ∙ pc-next q.state.pc (let z = room.high (omega arith) in omega (arith, z));
        registers = λ x. ap (λ s. s.state.registers x) e;
        bytes = λ a. ap (λ s. s.state.bytes a) e;
        marks = (ap (λ s. s.state.mark) e, refl);
      };
  restores = λ q r k fp w can few f running room low at held.
      let e : rv_does (Imm Ld r 8 (slot_offset k)) q ≡ after q (sets q.state r w) = went q _ running ∙ ap (after q) (restore-act q.state r k fp w few f at held) in
      record {
        above = slot-above q.state.registers k fp few f low at;
        runs = ap (λ s. status_of s.progress) e ∙ goes-on q.state.pc room.low (let z = room.high (omega arith) in omega (arith, z));
        behind = ap (λ s. s.state.pc) e ∙ pc-next q.state.pc (let z = room.high (omega arith) in omega (arith, z));
        registers = λ x. ap (λ s. s.state.registers x) e;
        bytes = λ a. ap (λ s. s.state.bytes a) e;
        marks = (ap (λ s. s.state.mark) e, refl);
      };
}
