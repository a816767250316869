-- A store saves a register in a spill slot, and a load restores it.
use Rattle.lg_base.specs.declared.target.Target.TheVariants.{X86_64}
use Rattle.lg_carry.proofs.BelowLemmas.{not-below}
use Rattle.lg_carry.specs.Processors.{IsOff, is_below}
use Rattle.std.proofs.Common.{◌≡◌, ◌≢◌, ℕ, ◌+◌, ◌<◌, ◌≤◌, true, false, [], ◌++◌, length, Some, refl, ap, ◌∙◌, arith, append-nil, inr}
use Rattle.std.specs.Prelude.{◌==◌, is_some}
use Rattle.lg_base.specs.Fields.{word_of}
use Rattle.lg_base.specs.Layout.{stop_address, code_base, most_code, spill_word}
use Rattle.lg_base.specs.Runs.{Running}
use Rattle.lg_base.specs.Spaces.{mapped, stored, loaded}
use Rattle.lg_base.specs.Words.{add_words}
use Rattle.lg_base.specs.declared.fault.FaultKind.TheVariants.{Memory}
use Rattle.lg_base.proofs.SpaceLemmas.{mapped-all}
use Rattle.lg_x86.specs.Spelling.{spelling}
use Rattle.lg_x86.specs.declared.instruction.Instr.{Instr}
use Rattle.lg_x86.specs.declared.instruction.Instr.TheVariants.{Load, Store}
use Rattle.lg_x86.specs.declared.instruction.LoadOp.TheVariants.{Ld64}
use Rattle.lg_x86.specs.declared.instruction.StoreOp.TheVariants.{St64}
use Rattle.lg_cpu.specs.HostSteps.{put}
use Rattle.lg_cpu.specs.Steps.{after, arrived, status_of}
use Rattle.lg_cpu.specs.X86Step.{Scene, scene_of, goes, goes_with, sets_loaded, made, act}
use Rattle.lg_carry.specs.Registers.{HasWord}
use Rattle.lg_carry.specs.Spills.{IsFramePointer, in_slots}
use Rattle.lg_selx_values.specs.Processor.MakingNodes.{scene}
use Rattle.lg_selx_values.specs.Processor.X86Rows.{x86_does, slot_offset, can_save, InstructionsAreSpills}
use Rattle.lg_selx_values.proofs.OfProcessor.RowLemmas.{went}

-- what lies in the zone counts
pub in-zone : (stack a : ℕ) → stack ≤ a + 128 → is_below X86_64 stack a ≡ false
in-zone stack a h = grind (arith, h)

slot-address : (fp k : ℕ) → k < 5 → 0x3FF00000 + 256 ≤ fp → fp + 16 ≤ 0x40000000 → add_words fp (word_of (slot_offset k)) ≡ spill_word fp k
slot-address fp k few low high = grind (arith, few, low, high)

slot-byte : (fp k a : ℕ) → k < 5 → 0x3FF00000 + 256 ≤ fp → spill_word fp k ≤ a → a < spill_word fp k + 8 → in_slots fp a ≡ true
slot-byte fp k a few low le lt = grind arith

saved-apart : (r : ℕ) → can_save r ≡ true → r ≢ 5
saved-apart r can = λ e. absurd (grind (arith, can, e))

pub pc-next : (pc n : ℕ) → pc + n ≤ code_base + most_code → add_words pc n ≡ pc + n
pc-next pc n h = grind (arith, h)

-- the code goes on
no-stop : (pc n : ℕ) → code_base ≤ pc → pc + n ≤ code_base + most_code → (add_words pc n == stop_address) ≡ false
no-stop pc n low high = grind (arith, low, high)

pub goes-on : (pc n : ℕ) → code_base ≤ pc → pc + n ≤ code_base + most_code → status_of (arrived (add_words pc n)) ≡ Running
goes-on pc n low high = let e = no-stop pc n low high in rw e refl

-- ---- what the two instructions make
save-made : (s : Scene) (r k fp : ℕ) → k < 5 → IsFramePointer fp → s.registers 5 ≡ fp → ((a : ℕ) → in_slots fp a ≡ true → is_some (s.bytes a) ≡ true)
    → made (Store St64 5 (slot_offset k) r) s ≡ Some (scene s.registers s.flags (stored s.bytes (spill_word fp k) 8 (s.registers r)))
save-made s r k fp few f at slots =
    let address : add_words (s.registers 5) (word_of (slot_offset k)) ≡ spill_word fp k = ap (λ x. add_words x (word_of (slot_offset k))) at ∙ slot-address fp k few f.low f.high in
    let there : mapped s.bytes (spill_word fp k) 8 ≡ true = mapped-all s.bytes (spill_word fp k) 8 (λ j le lt. slots j (slot-byte fp k j few f.low le lt)) in
    rw (address, there) refl

restore-made : (s : Scene) (r k fp w : ℕ) → k < 5 → IsFramePointer fp → s.registers 5 ≡ fp → HasWord s.bytes (spill_word fp k) w
    → made (Load Ld64 r 5 (slot_offset k)) s ≡ Some (scene (put s.registers r w) s.flags s.bytes)
restore-made s r k fp w few f at held =
    let address : add_words (s.registers 5) (word_of (slot_offset k)) ≡ spill_word fp k = ap (λ x. add_words x (word_of (slot_offset k))) at ∙ slot-address fp k few f.low f.high in
    ap (λ x. sets_loaded Ld64 r s (loaded s.bytes x 8)) address ∙ ap (sets_loaded Ld64 r s) held

-- the word of a slot lies above the stack pointer
slot-above : (w : ℕ → ℕ) (k fp : ℕ) → k < 5 → IsFramePointer fp → w 4 + 128 ≤ fp → w 5 ≡ fp
    → IsOff (is_below X86_64 (w 4)) record { from = add_words (w 5) (word_of (slot_offset k)); width = 8 }
slot-above w k fp few f low at a le lt =
    let address : add_words (w 5) (word_of (slot_offset k)) ≡ spill_word fp k = ap (λ x. add_words x (word_of (slot_offset k))) at ∙ slot-address fp k few f.low f.high in
    let h = f.low in
    not-below X86_64 (w 4) a (inr (omega (arith, le, address, low, few, h)))

pub are-spills : InstructionsAreSpills
are-spills code trash = record {
  apart = λ r can. saved-apart r can;
  saves = λ q r k fp can few f running room low at slots.
      let i : Instr = Store St64 5 (slot_offset k) r in
      let n : ℕ = length (spelling i) in
      let l : length (spelling i ++ []) ≡ n = ap length (append-nil (spelling i)) in
      let e : x86_does i q ≡ after q (goes (add_words q.state.pc n) (scene q.state.registers q.state.flags (stored q.state.bytes (spill_word fp k) 8 (q.state.registers r))) q.state.mark) =
      went q (act i n q.state) running ∙ ap (λ o. after q (goes_with q.state (add_words q.state.pc n) Memory o)) (save-made (scene_of q.state) r k fp few f at slots) in
      record {
        above = slot-above q.state.registers k fp few f low at;
        runs = ap (λ s. status_of s.progress) e ∙ goes-on q.state.pc n room.low (let z = room.high (omega arith) in omega (arith, z, l));
        behind = ap (λ s. s.state.pc) e ∙ pc-next q.state.pc n (let z = room.high (omega arith) in omega (arith, z, l)) ∙ omega (arith, l);
        registers = λ x. ap (λ s. s.state.registers x) e;
        bytes = λ a. ap (λ s. s.state.bytes a) e;
        marks = (ap (λ s. s.state.mark) e, ap (λ s. s.state.flags) e);
      };
  restores = λ q r k fp w can few f running room low at held.
      let i : Instr = Load Ld64 r 5 (slot_offset k) in
      let n : ℕ = length (spelling i) in
      let l : length (spelling i ++ []) ≡ n = ap length (append-nil (spelling i)) in
      let e : x86_does i q ≡ after q (goes (add_words q.state.pc n) (scene (put q.state.registers r w) q.state.flags q.state.bytes) q.state.mark) =
      went q (act i n q.state) running ∙ ap (λ o. after q (goes_with q.state (add_words q.state.pc n) Memory o)) (restore-made (scene_of q.state) r k fp w few f at held) in
      record {
        above = slot-above q.state.registers k fp few f low at;
        runs = ap (λ s. status_of s.progress) e ∙ goes-on q.state.pc n room.low (let z = room.high (omega arith) in omega (arith, z, l));
        behind = ap (λ s. s.state.pc) e ∙ pc-next q.state.pc n (let z = room.high (omega arith) in omega (arith, z, l)) ∙ omega (arith, l);
        registers = λ x. ap (λ s. s.state.registers x) e;
        bytes = λ a. ap (λ s. s.state.bytes a) e;
        marks = (ap (λ s. s.state.mark) e, ap (λ s. s.state.flags) e);
      };
}
