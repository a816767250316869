-- `stur` saves a register in a spill slot, and `ldur` restores it.
use Rattle.lg_base.specs.declared.target.Target.TheVariants.{Aarch64}
use Rattle.lg_carry.proofs.BelowLemmas.{not-below}
use Rattle.lg_carry.specs.Processors.{IsOff, is_below}
use Rattle.std.proofs.Common.{◌≡◌, ◌≢◌, ℕ, ◌+◌, ◌<◌, ◌≤◌, true, false, refl, ap, ◌∙◌, arith, inr}
use Rattle.std.specs.Prelude.{◌==◌, is_some, if◌then◌else◌}
use Rattle.lg_base.specs.Fields.{word_of}
use Rattle.lg_base.specs.Layout.{stop_address, code_base, most_code, spill_word}
use Rattle.lg_base.specs.Runs.{Running}
use Rattle.lg_base.specs.Spaces.{mapped, stored}
use Rattle.lg_base.specs.Words.{add_words}
use Rattle.lg_base.proofs.SpaceLemmas.{mapped-all}
use Rattle.lg_a64.specs.declared.instruction.Instr.TheVariants.{Unscaled}
use Rattle.lg_a64.specs.declared.instruction.UnscaledOp.TheVariants.{Ldur, Stur}
use Rattle.lg_cpu.specs.Steps.{after, arrived, status_of}
use Rattle.lg_cpu.specs.HostSteps.{put}
use Rattle.lg_cpu.specs.States.{CpuState, arrives}
use Rattle.lg_cpu.specs.A64Step.{read, loads, act, computes}
use Rattle.lg_carry.specs.Registers.{HasWord}
use Rattle.lg_carry.specs.Spills.{IsFramePointer, in_slots}
use Rattle.lg_sela_values.specs.Processor.A64Rows.{nzcv, a64_does, slot_offset, can_save, InstructionsAreSpills}
use Rattle.lg_sela_values.proofs.OfProcessor.RowLemmas.{went}

slot-address : (fp k : ℕ) → k < 5 → 0x3FF00000 + 256 ≤ fp → fp + 16 ≤ 0x40000000 → add_words fp (word_of (slot_offset k)) ≡ spill_word fp k
slot-address fp k few low high = grind (arith, few, low, high)

slot-byte : (fp k a : ℕ) → k < 5 → 0x3FF00000 + 256 ≤ fp → spill_word fp k ≤ a → a < spill_word fp k + 8 → in_slots fp a ≡ true
slot-byte fp k a few low le lt = grind arith

saved-some : (r : ℕ) → can_save r ≡ true → (r == 31) ≡ false
saved-some r can = grind (arith, can)

saved-apart : (r : ℕ) → can_save r ≡ true → r ≢ 29
saved-apart r can = λ e. absurd (grind (arith, can, e))

pub pc-next : (pc : ℕ) → pc + 4 ≤ code_base + most_code → add_words pc 4 ≡ pc + 4
pc-next pc h = grind (arith, h)

-- the code goes on
no-stop : (pc : ℕ) → code_base ≤ pc → pc + 4 ≤ code_base + most_code → (add_words pc 4 == stop_address) ≡ false
no-stop pc low high = grind (arith, low, high)

pub goes-on : (pc : ℕ) → code_base ≤ pc → pc + 4 ≤ code_base + most_code → status_of (arrived (add_words pc 4)) ≡ Running
goes-on pc low high = let n = no-stop pc low high in rw n refl

-- ---- what the two instructions do
save-act : (q : CpuState) (r k fp : ℕ) → can_save r ≡ true → k < 5 → IsFramePointer fp → q.registers 29 ≡ fp → ((a : ℕ) → in_slots fp a ≡ true → is_some (q.bytes a) ≡ true)
    → act (Unscaled Stur r 29 (slot_offset k)) q ≡ arrives (add_words q.pc 4) q.registers q.flags (stored q.bytes (spill_word fp k) 8 (q.registers r)) q.mark
save-act q r k fp can few f at slots =
    let address : add_words (q.registers 29) (word_of (slot_offset k)) ≡ spill_word fp k = ap (λ x. add_words x (word_of (slot_offset k))) at ∙ slot-address fp k few f.low f.high in
    let value : read q.registers r ≡ q.registers r = ap (λ b. if b then 0 else q.registers r) (saved-some r can) in
    let there : mapped q.bytes (spill_word fp k) 8 ≡ true = mapped-all q.bytes (spill_word fp k) 8 (λ j le lt. slots j (slot-byte fp k j few f.low le lt)) in
    rw (address, value, there) refl

restore-act : (q : CpuState) (r k fp w : ℕ) → can_save r ≡ true → k < 5 → IsFramePointer fp → q.registers 29 ≡ fp → HasWord q.bytes (spill_word fp k) w
    → act (Unscaled Ldur r 29 (slot_offset k)) q ≡ computes q (put q.registers r w) q.flags
restore-act q r k fp w can few f at held =
    let address : add_words (q.registers 29) (word_of (slot_offset k)) ≡ spill_word fp k = ap (λ x. add_words x (word_of (slot_offset k))) at ∙ slot-address fp k few f.low f.high in
    let some = saved-some r can in
    rw address (ap (loads q r 8 false) held ∙ ap (λ b. computes q (λ x. if b then q.registers x else put q.registers r w x) q.flags) some)

-- the word of a slot lies above the stack pointer
slot-above : (w : ℕ → ℕ) (k fp : ℕ) → k < 5 → IsFramePointer fp → w 31 + 128 ≤ fp → w 29 ≡ fp
    → IsOff (is_below Aarch64 (w 31)) record { from = add_words (w 29) (word_of (slot_offset k)); width = 8 }
slot-above w k fp few f low at a le lt =
    let address : add_words (w 29) (word_of (slot_offset k)) ≡ spill_word fp k = ap (λ x. add_words x (word_of (slot_offset k))) at ∙ slot-address fp k few f.low f.high in
    let h = f.low in
    not-below Aarch64 (w 31) a (inr (omega (arith, le, address, low, few, h)))

pub are-spills : InstructionsAreSpills
are-spills code trash = record {
  apart = λ r can. saved-apart r can;
  saves = λ q r k fp can few f running room low at slots.
      let e : a64_does (Unscaled Stur r 29 (slot_offset k)) q ≡ after q (arrives (add_words q.state.pc 4) q.state.registers q.state.flags (stored q.state.bytes (spill_word fp k) 8 (q.state.registers r)) q.state.mark) = went q _ running ∙ ap (after q) (save-act q.state r k fp can few f at slots) in
      record {
        above = slot-above q.state.registers k fp few f low at;
        runs = ap (λ s. status_of s.progress) e ∙ goes-on q.state.pc room.low (let z = room.high (omega arith) in omega (arith, z));
        behind = ap (λ s. s.state.pc) e ∙ pc-next q.state.pc (let z = room.high (omega arith) in omega (arith, z));
        registers = λ x. ap (λ s. s.state.registers x) e;
        bytes = λ a. ap (λ s. s.state.bytes a) e;
        marks = (ap (λ s. s.state.mark) e, ap (λ s. nzcv s.state.flags) e);
      };
  restores = λ q r k fp w can few f running room low at held.
      let e : a64_does (Unscaled Ldur r 29 (slot_offset k)) q ≡ after q (computes q.state (put q.state.registers r w) q.state.flags) = went q _ running ∙ ap (after q) (restore-act q.state r k fp w can few f at held) in
      record {
        above = slot-above q.state.registers k fp few f low at;
        runs = ap (λ s. status_of s.progress) e ∙ goes-on q.state.pc room.low (let z = room.high (omega arith) in omega (arith, z));
        behind = ap (λ s. s.state.pc) e ∙ pc-next q.state.pc (let z = room.high (omega arith) in omega (arith, z));
        registers = λ x. ap (λ s. s.state.registers x) e;
        bytes = λ a. ap (λ s. s.state.bytes a) e;
        marks = (ap (λ s. s.state.mark) e, ap (λ s. nzcv s.state.flags) e);
      };
}
