-- Code that makes a scene, whatever is in the slots.
use Rattle.std.proofs.Common.{◌≡◌, ℕ, ◌<◌, Bool, true, false, List, [], ◌∷◌, ◌++◌, Option, Some, refl, sym, ap, ◌∙◌, subst, arith, length, length-append}
use Rattle.std.specs.Prelude.{ℤ}
use Rattle.lg_base.specs.Fields.{word_of}
use Rattle.lg_base.specs.Words.{add_words}
use Rattle.lg_base.specs.declared.target.Target.TheVariants.{X86_64}
use Rattle.lg_base.specs.declared.flags.Flags.{Flags}
use Rattle.lg_x86.specs.Spelling.{spelling}
use Rattle.lg_x86.specs.declared.instruction.Instr.{Instr}
use Rattle.lg_x86.proofs.SizeLemmas.{sized}
use Rattle.lg_cpu.specs.X86Step.{Scene, scene_of}
use Rattle.lg_carry.specs.Blocks.{spellings}
use Rattle.lg_carry.specs.Processors.{Seen, IsOff, is_below}
use Rattle.lg_carry.specs.Spills.{Does, in_slots, in_first_slots}
use Rattle.lg_selx_values.specs.Processor.MakingNodes.{scene}
use Rattle.lg_selx_values.specs.Processor.Makings.{makes, AreAbove}
use Rattle.lg_selx_values.specs.Processor.X86Rows.{x86_rows}
use Rattle.lg_selx_values.proofs.OfProcessor.MakingLemmas.{makings-run}
use Rattle.lg_carry.specs.Nodes.Straight.{from_to}
use Rattle.lg_carry.specs.Memory.Accesses.{LiesAbove}
use Rattle.lg_carry.proofs.OfMemory.AfterLemmas.{no-slots}

-- over a memory the code makes these registers, but for those of T, these flags, and these bytes but for the slots; it keeps the first n slots
pub record LeadsTo (is : List Instr) (s : Seen) (W : ℕ → ℕ) (M : ℕ → Option ℕ) (F : Flags) (fp n : ℕ) (T : ℕ → Bool) (bytes : ℕ → Option ℕ) : Type 0 where
  pub registers : ℕ → ℕ
  pub end : ℕ → Option ℕ
  pub above : AreAbove is (scene s.registers s.flags bytes)
  pub makes_it : makes is (scene s.registers s.flags bytes) ≡ Some (scene registers F end)
  pub registers_are : (x : ℕ) → T x ≡ false → registers x ≡ W x
  pub bytes_are : (a : ℕ) → in_slots fp a ≡ false → end a ≡ M a
  pub slots_are : (a : ℕ) → in_first_slots fp n a ≡ true → end a ≡ bytes a

-- where it does so over each memory that looks so, it is code that does so
pub makes-leads : (code : List ℕ) (trash : ℕ) (is : List Instr) (s : Seen) (W : ℕ → ℕ) (M : ℕ → Option ℕ) (F : Flags) (fp n : ℕ) (T : ℕ → Bool)
    → ((bytes : ℕ → Option ℕ) → ((a : ℕ) → in_slots fp a ≡ false → bytes a ≡ s.bytes a) → LeadsTo is s W M F fp n T bytes)
    → Does (x86_rows code trash) (from_to s W M F) is fp n T
makes-leads code trash is s W M F fp n T leads q looks room =
    let l = leads q.state.bytes looks.has_bytes in
    let same : scene_of q.state ≡ scene s.registers s.flags q.state.bytes = λ j. scene (λ r. looks.has_registers r j) (looks.has_flags j) q.state.bytes in
    let r = makings-run is q (scene l.registers F l.end) (ap (makes is) same ∙ l.makes_it) (subst (AreAbove is) (sym same) l.above) looks.runs room.low room.high in
    record {
      through = r.through;
      runs = r.runs;
      behind = r.behind;
      registers = λ x free. ap (λ (z : Scene). z.registers x) r.scene ∙ l.registers_are x free;
      bytes = λ a off. ap (λ (z : Scene). z.bytes a) r.scene ∙ l.bytes_are a off;
      slots = λ a on. ap (λ (z : Scene). z.bytes a) r.scene ∙ l.slots_are a on;
      has_mark = r.mark ∙ looks.has_mark;
      has_flags = ap (λ (z : Scene). z.flags) r.scene;
    }

-- these registers, and no slot has to be kept
pub record Leads (is : List Instr) (s : Seen) (W : ℕ → ℕ) (M : ℕ → Option ℕ) (F : Flags) (fp : ℕ) (bytes : ℕ → Option ℕ) : Type 0 where
  pub end : ℕ → Option ℕ
  pub above : AreAbove is (scene s.registers s.flags bytes)
  pub makes_it : makes is (scene s.registers s.flags bytes) ≡ Some (scene W F end)
  pub bytes_are : (a : ℕ) → in_slots fp a ≡ false → end a ≡ M a

pub makes-does : (code : List ℕ) (trash : ℕ) (is : List Instr) (s : Seen) (W : ℕ → ℕ) (M : ℕ → Option ℕ) (F : Flags) (fp : ℕ) (T : ℕ → Bool)
    → ((bytes : ℕ → Option ℕ) → ((a : ℕ) → in_slots fp a ≡ false → bytes a ≡ s.bytes a) → Leads is s W M F fp bytes)
    → Does (x86_rows code trash) (from_to s W M F) is fp 0 T
makes-does code trash is s W M F fp T leads =
    makes-leads code trash is s W M F fp 0 T
    (λ bytes looks. let l = leads bytes looks in
    record { registers = W; end = l.end; above = l.above; makes_it = l.makes_it; registers_are = λ x free. refl; bytes_are = l.bytes_are; slots_are = λ a on. no-slots fp a on })

-- the bytes that a row touches by a register and a number lie above the stack pointer and its zone
pub access-above : (u : ℕ → ℕ) (base : ℕ) (disp : ℤ) (a n sp wide : ℕ) → u 4 ≡ sp → add_words (u base) (word_of disp) ≡ a → wide ≡ n → LiesAbove X86_64 sp a n
    → IsOff (is_below X86_64 (u 4)) record { from = add_words (u base) (word_of disp); width = wide }
access-above u base disp a n sp wide low at width safe =
    subst (λ x. IsOff (is_below X86_64 x) record { from = add_words (u base) (word_of disp); width = wide }) (sym low)
    (subst (λ x. IsOff (is_below X86_64 sp) record { from = x; width = wide }) (sym at)
    (subst (λ x. IsOff (is_below X86_64 sp) record { from = a; width = x }) (sym width) safe))

-- code with an instruction has some bytes
pub some-spelled : (front : List Instr) (x : Instr) (is : List Instr) → 0 < length (spellings spelling (front ++ x ∷ is))
some-spelled [] x is = let s = (sized x).some in let l = length-append (spelling x) (spellings spelling is) in omega (arith, s, l)
some-spelled (y ∷ front) x is =
    let s = (sized y).some in let l = length-append (spelling y) (spellings spelling (front ++ x ∷ is)) in omega (arith, s, l)
