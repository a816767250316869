-- An instruction that loads or stores, after code that computes.
use Rattle.lg_sela_values.specs.Processor.A64Touched.{touched}
use Rattle.lg_base.specs.declared.target.Target.TheVariants.{Aarch64}
use Rattle.lg_carry.specs.Memory.Accesses.{LiesAbove}
use Rattle.std.proofs.Common.{◌≡◌, ◌≢◌, ℕ, ◌+◌, ◌≤◌, Bool, false, List, [], ◌∷◌, Option, ap, ◌∙◌, arith, sym, subst}
use Rattle.lg_base.specs.Layout.{code_base, most_code}
use Rattle.lg_base.specs.Words.{add_words}
use Rattle.lg_a64.specs.declared.instruction.Instr.{Instr}
use Rattle.lg_cpu.specs.States.{CpuState, arrives}
use Rattle.lg_cpu.specs.Steps.{after, status_of}
use Rattle.lg_cpu.specs.A64Step.{act}
use Rattle.lg_carry.specs.Processors.{Seen, IsOff, is_below}
use Rattle.lg_carry.specs.Spills.{Does, in_slots}
use Rattle.lg_sela_values.specs.Processor.A64Computers.{a64_scratch}
use Rattle.lg_sela_values.specs.Processor.A64Rows.{link, nzcv, a64_does, a64_rows}
use Rattle.lg_sela_values.proofs.OfProcessor.ComputerLemmas.{spellings-long}
use Rattle.lg_sela_values.proofs.OfProcessor.RowLemmas.{went}
use Rattle.lg_sela_values.proofs.OfProcessor.SlotLemmas.{pc-next, goes-on}
use Rattle.lg_carry.specs.Nodes.Straight.{from_to}
use Rattle.lg_carry.proofs.OfMemory.AfterLemmas.{no-slots}

-- a register that is no scratch register
pub off-scratch : (x : ℕ) → a64_scratch x ≡ false → x ≢ link
off-scratch x e = λ z. absurd (grind (arith, e, z))

-- from a state an instruction leaves these registers and these bytes, but for the slots, and the next one follows
pub record Accesses (x : Instr) (q : CpuState) (W : ℕ → ℕ) (M : ℕ → Option ℕ) (fp : ℕ) : Type 0 where
  pub above : IsOff (is_below Aarch64 (q.registers 31)) (touched x q.registers)
  pub registers : ℕ → ℕ
  pub bytes : ℕ → Option ℕ
  pub effect : act x q ≡ arrives (add_words q.pc 4) registers q.flags bytes q.mark
  pub registers_are : (r : ℕ) → registers r ≡ W r
  pub bytes_are : (a : ℕ) → in_slots fp a ≡ false → bytes a ≡ M a

-- where it does so from each state that looks so, it is code that does so
pub access-does : (code : List ℕ) (trash : ℕ) (x : Instr) (s : Seen) (W : ℕ → ℕ) (M : ℕ → Option ℕ) (fp : ℕ) (T : ℕ → Bool)
    → ((q : CpuState) → ((r : ℕ) → q.registers r ≡ s.registers r) → ((a : ℕ) → in_slots fp a ≡ false → q.bytes a ≡ s.bytes a) → Accesses x q W M fp)
    → Does (a64_rows code trash) (from_to s W M s.flags) (x ∷ []) fp 0 T
access-does code trash x s W M fp T does q looks room =
    let d = does q.state looks.has_registers looks.has_bytes in
    let e : a64_does x q ≡ after q (arrives (add_words q.state.pc 4) d.registers q.state.flags d.bytes q.state.mark) = went q (act x q.state) looks.runs ∙ ap (after q) d.effect in
    let long = spellings-long (x ∷ []) in
    let near : q.state.pc + 4 ≤ code_base + most_code = (let z = room.high (omega arith) in omega (arith, z, long)) in
    record {
      through = (looks.runs, d.above, tt);
      runs = ap (λ r. status_of r.progress) e ∙ goes-on q.state.pc room.low near;
      behind = ap (λ r. r.state.pc) e ∙ pc-next q.state.pc near ∙ omega (arith, long);
      registers = λ y free. ap (λ r. r.state.registers y) e ∙ d.registers_are y;
      bytes = λ y off. ap (λ r. r.state.bytes y) e ∙ d.bytes_are y off;
      slots = λ y on. no-slots fp y on;
      has_mark = ap (λ r. r.state.mark) e ∙ looks.has_mark;
      has_flags = ap (λ r. nzcv r.state.flags) e ∙ looks.has_flags;
    }

-- the bytes at an address lie above the stack pointer
pub span-above : (w v : ℕ → ℕ) (address : (ℕ → ℕ) → ℕ) (a n sp : ℕ) → w ≡ v → v 31 ≡ sp → address v ≡ a → LiesAbove Aarch64 sp a n
    → IsOff (is_below Aarch64 (w 31)) record { from = address w; width = n }
span-above w v address a n sp g low at safe =
    subst (λ u. IsOff (is_below Aarch64 (u 31)) record { from = address u; width = n }) (sym g)
    (subst (λ x. IsOff (is_below Aarch64 x) record { from = address v; width = n }) (sym low)
    (subst (λ y. IsOff (is_below Aarch64 sp) record { from = y; width = n }) (sym at) safe))
