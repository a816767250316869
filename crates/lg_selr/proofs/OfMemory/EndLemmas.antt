-- An instruction that loads or stores, and code after code that computes.
use Rattle.std.specs.Prelude.{ℤ}
use Rattle.lg_base.specs.Fields.{word_of}
use Rattle.lg_base.specs.declared.target.Target.TheVariants.{Riscv64}
use Rattle.lg_carry.specs.Memory.Accesses.{LiesAbove}
use Rattle.lg_selr_values.specs.Processor.RvTouched.{touched}
use Rattle.std.proofs.Common.{◌≡◌, ℕ, ◌+◌, ◌≤◌, Bool, true, false, List, [], ◌∷◌, ◌++◌, Option, refl, sym, ap, ◌∙◌, arith, subst}
use Rattle.lg_base.specs.Layout.{code_base, most_code}
use Rattle.lg_base.specs.Words.{add_words}
use Rattle.lg_rv.specs.declared.instruction.Instr.{Instr}
use Rattle.lg_cpu.specs.Steps.{after, status_of}
use Rattle.lg_cpu.specs.States.{CpuState}
use Rattle.lg_cpu.specs.RvStep.{goes, act, read}
use Rattle.lg_carry.specs.Processors.{Seen, IsOff, is_below}
use Rattle.lg_carry.specs.Spills.{Does, in_slots, in_first_slots}
use Rattle.lg_selr_values.specs.Processor.Computations.{all_compute, computed}
use Rattle.lg_selr_values.specs.Processor.RvComputers.{held_by, rv_computer}
use Rattle.lg_selr_values.specs.Processor.RvRows.{rv_does, rv_rows}
use Rattle.lg_selr_values.proofs.OfProcessor.ComputationLemmas.{spellings-long}
use Rattle.lg_selr_values.proofs.OfProcessor.ComputerLemmas.{is-computer, registers-computed}
use Rattle.lg_selr_values.proofs.OfProcessor.RowLemmas.{went}
use Rattle.lg_selr_values.proofs.OfProcessor.SlotLemmas.{pc-next, goes-on}
use Rattle.lg_carry.specs.Nodes.Straight.{from_to}
use Rattle.lg_carry.specs.Values.Computers.{Held}
use Rattle.lg_carry.specs.Values.Computers as computer
use Rattle.lg_carry.proofs.OfMemory.AfterLemmas.{no-slots, after-computed}

-- from a state an instruction leaves these registers and these bytes, but for the slots, and the next one follows
pub record Accesses (x : Instr) (q : CpuState) (W : ℕ → ℕ) (M : ℕ → Option ℕ) (fp : ℕ) : Type 0 where
  pub above : IsOff (is_below Riscv64 (q.registers 2)) (touched x q.registers)
  pub registers : ℕ → ℕ
  pub bytes : ℕ → Option ℕ
  pub effect : act x q ≡ goes (add_words q.pc 4) registers bytes q.mark
  pub registers_are : (r : ℕ) → registers r ≡ W r
  pub bytes_are : (a : ℕ) → in_slots fp a ≡ false → bytes a ≡ M a

-- where it does so from each state that looks so, and keeps the first n slots, it is code that does so
pub access-keeps : (code : List ℕ) (trash : ℕ) (x : Instr) (s : Seen) (W : ℕ → ℕ) (M : ℕ → Option ℕ) (fp n : ℕ) (T : ℕ → Bool)
    → (does : (q : CpuState) → ((r : ℕ) → q.registers r ≡ s.registers r) → ((a : ℕ) → in_slots fp a ≡ false → q.bytes a ≡ s.bytes a) → Accesses x q W M fp)
    → ((q : CpuState) (r : (r : ℕ) → q.registers r ≡ s.registers r) (b : (a : ℕ) → in_slots fp a ≡ false → q.bytes a ≡ s.bytes a) (y : ℕ) → in_first_slots fp n y ≡ true → (does q r b).bytes y ≡ q.bytes y)
    → Does (rv_rows code trash) (from_to s W M s.flags) (x ∷ []) fp n T
access-keeps code trash x s W M fp n T does kept q looks room =
    let d = does q.state looks.has_registers looks.has_bytes in
    let e : rv_does x q ≡ after q (goes (add_words q.state.pc 4) d.registers d.bytes q.state.mark) = went q (act x q.state) looks.runs ∙ ap (after q) d.effect in
    let long = spellings-long (x ∷ []) in
    let near : q.state.pc + 4 ≤ code_base + most_code = (let z = room.high (omega arith) in omega (arith, z, long)) in
    record {
      through = (looks.runs, d.above, tt);
      runs = ap (λ r. status_of r.progress) e ∙ goes-on q.state.pc room.low near;
      behind = ap (λ r. r.state.pc) e ∙ pc-next q.state.pc near ∙ omega (arith, long);
      registers = λ y free. ap (λ r. r.state.registers y) e ∙ d.registers_are y;
      bytes = λ y off. ap (λ r. r.state.bytes y) e ∙ d.bytes_are y off;
      slots = λ y on. ap (λ r. r.state.bytes y) e ∙ kept q.state looks.has_registers looks.has_bytes y on;
      has_mark = ap (λ r. r.state.mark) e ∙ looks.has_mark;
      has_flags = looks.has_flags;
    }

-- no slot has to be kept
pub access-does : (code : List ℕ) (trash : ℕ) (x : Instr) (s : Seen) (W : ℕ → ℕ) (M : ℕ → Option ℕ) (fp : ℕ) (T : ℕ → Bool)
    → ((q : CpuState) → ((r : ℕ) → q.registers r ≡ s.registers r) → ((a : ℕ) → in_slots fp a ≡ false → q.bytes a ≡ s.bytes a) → Accesses x q W M fp)
    → Does (rv_rows code trash) (from_to s W M s.flags) (x ∷ []) fp 0 T
access-does code trash x s W M fp T does = access-keeps code trash x s W M fp 0 T does (λ q r b y on. no-slots fp y on)

-- the bytes at an address lie above the stack pointer
pub span-above : (w v : ℕ → ℕ) (base : ℕ) (offset : ℤ) (a n sp : ℕ) → w ≡ v → v 2 ≡ sp → add_words (read v base) (word_of offset) ≡ a → LiesAbove Riscv64 sp a n
    → IsOff (is_below Riscv64 (w 2)) record { from = add_words (read w base) (word_of offset); width = n }
span-above w v base offset a n sp g low at safe =
    subst (λ u. IsOff (is_below Riscv64 (u 2)) record { from = add_words (read u base) (word_of offset); width = n }) (sym g)
    (subst (λ x. IsOff (is_below Riscv64 x) record { from = add_words (read v base) (word_of offset); width = n }) (sym low)
    (subst (λ y. IsOff (is_below Riscv64 sp) record { from = y; width = n }) (sym at) safe))

-- one byte
pub one-above : (sp x : ℕ) → is_below Riscv64 sp x ≡ false → LiesAbove Riscv64 sp x 1
one-above sp x h j le lt = let e : x ≡ j = omega (arith, le, lt) in subst (λ y. is_below Riscv64 sp y ≡ false) e h

-- ---- after instructions that compute
pub flags-kept : (is : List Instr) (w : Held) → (computer.computed held_by is w).flags ≡ w.flags
flags-kept [] w = refl
flags-kept (i ∷ is) w = flags-kept is (held_by i w)

-- they change the registers alone
pub after-registers : (code : List ℕ) (trash : ℕ) (xs ys : List Instr) (s : Seen) (W : ℕ → ℕ) (M : ℕ → Option ℕ) (fp n : ℕ) (T : ℕ → Bool) → n ≤ 5 → all_compute xs ≡ true
    → Does (rv_rows code trash) (from_to (record s { registers = computed xs s.registers }) W M s.flags) ys fp n T → Does (rv_rows code trash) (from_to s W M s.flags) (xs ++ ys) fp n T
after-registers code trash xs ys s W M fp n T most h does =
    let w : Held = record { registers = s.registers; flags = s.flags } in
    let same : computer.computed held_by xs w ≡ record { registers = computed xs s.registers; flags = s.flags } = λ i. record { registers = registers-computed xs w i; flags = flags-kept xs w i } in
    after-computed (rv_computer code trash) (is-computer code trash) xs ys s W M s.flags fp n T most h
    (subst (λ (u : Held). Does (rv_rows code trash) (from_to (record s { registers = u.registers; flags = u.flags }) W M s.flags) ys fp n T) (sym same) does)
