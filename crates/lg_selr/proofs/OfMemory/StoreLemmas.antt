-- Stores.
use Rattle.lg_selr_values.specs.Processor.RvTouched.{touched}
use Rattle.std.proofs.Common.{◌≡◌, ◌≢◌, ℕ, zero, suc, ◌+◌, ◌-◌, ◌*◌, ◌/◌, ◌%◌, ◌^◌, ◌<◌, ◌≤◌, ◌⊎◌, inl, inr, bit_and, Bool, true, false, List, [], ◌∷◌, ◌++◌, Option, refl, sym, ap, ◌∙◌, arith, subst, length}
use Rattle.std.specs.Prelude.{ℤ, pos, ◌==◌, is_some, if◌then◌else◌}
use Rattle.std.specs.List.{list_all}
use Rattle.std.proofs.lemmas.Bool.{cases_lt, or_parts}
use Rattle.lg_base.specs.Fields.{word_of}
use Rattle.lg_base.specs.Spaces.{mapped, stored}
use Rattle.lg_base.specs.Words.{add_words, shifted_left, shifted_right}
use Rattle.lg_base.specs.declared.target.Target.TheVariants.{Riscv64}
use Rattle.lg_base.proofs.SpaceLemmas.{stored-none, stored-step, stored-out, mapped-all}
use Rattle.lg_op.specs.declared.op.StoreType.{StoreType}
use Rattle.lg_op.specs.declared.op.StoreType.TheVariants as store_type
use Rattle.lg_op.specs.declared.operand.Reg.{Reg}
use Rattle.lg_op.specs.Operators.{store_width}
use Rattle.lg_rv.specs.Spelling.{spelling, IsInstr}
use Rattle.lg_rv.specs.declared.instruction.BranchOp.TheVariants.{Beq}
use Rattle.lg_rv.specs.declared.instruction.Instr.{Instr}
use Rattle.lg_rv.specs.declared.instruction.Instr.TheVariants as instr
use Rattle.lg_rv.specs.declared.instruction.ImmOp.TheVariants as imm
use Rattle.lg_rv.specs.declared.instruction.ShiftOp.TheVariants as shift
use Rattle.lg_rv.specs.declared.instruction.StoreOp.TheVariants as row
use Rattle.lg_rv.specs.declared.instruction.RegOp.TheVariants as reg
use Rattle.lg_carry.proofs.SpillChoiceLemmas.{or-true}
use Rattle.lg_cpu.specs.HostSteps.{put}
use Rattle.lg_cpu.specs.States.{CpuState}
use Rattle.lg_cpu.specs.Steps.{Run}
use Rattle.lg_cpu.specs.RvStep.{store_width as rv_width}
use Rattle.lg_cpu.specs.RvStep.{read, goes, act}
use Rattle.lg_temp.specs.Abis.{register_of}
use Rattle.lg_temp.specs.declared.choice.Choice.{Choice}
use Rattle.lg_carry.specs.Blocks.{spellings}
use Rattle.lg_carry.specs.Rows.{AreRows}
use Rattle.lg_carry.specs.Processors.{Seen, IsOff, is_below}
use Rattle.lg_carry.specs.Spills.{Does, in_slots, spilled}
use Rattle.lg_carry.proofs.SpillLemmas.{stored-there}
use Rattle.lg_selr_values.specs.Processor.Computations.{computed}
use Rattle.lg_selr_values.specs.Processor.RvComputers.{rv_scratch, rv_computer}
use Rattle.lg_selr_values.specs.Processor.RvRows.{rv_rows, rv_seen, is_straight}
use Rattle.lg_selr_values.proofs.OfProcessor.ComputationLemmas.{pointwise, read-put, read-other, put-same, put-other}
use Rattle.lg_selr_values.proofs.OfProcessor.ComputerLemmas.{is-computer}
use Rattle.lg_selr_values.proofs.OfProcessor.RegisterLemmas.{register-apart, read-of}
use Rattle.lg_carry.specs.Nodes.Straight.{is_taken, spoils, from_to}
use Rattle.lg_carry.specs.Nodes.Stretches.{HasFrame}
use Rattle.lg_carry.proofs.OfNodes.ByteLemmas.{stored-same}
use Rattle.lg_carry.proofs.OfValues.ComputationLemmas.{computations-do}
use Rattle.lg_carry.specs.Memory.Accesses.{Address, address_word, IsAddress, LiesAbove}
use Rattle.lg_carry.specs.Memory.Stores.{IsWritable, IsOffSlots, StoreCrosses}
use Rattle.lg_carry.specs.Memory.Crossings.{CrossesCode}
use Rattle.lg_carry.proofs.OfMemory.CrossingLemmas.{straight-crosses}
use Rattle.lg_carry.proofs.OfMemory.AfterLemmas.{told, in-a-row, more-slots}
use Rattle.lg_carry.proofs.OfMemory.StoreLemmas.{some-stored}
use Rattle.lg_selr.specs.Memory.Accesses.{Place, store_row, is_whole, place_of, higher_bytes, tester, fork, halves, store_bytes, store_skip, slow_store, storing}
use Rattle.lg_selr.proofs.OfMemory.HalfLemmas.{m1, m2, m3, m4, m5, m6, halves-store}
use Rattle.lg_selr.proofs.OfMemory.ForkLemmas.{tested, base-kept, forks}
use Rattle.lg_selr.proofs.OfMemory.ByteLemmas.{IsThere, writable-byte, mapped-one, apart-stored}
use Rattle.lg_selr.proofs.OfMemory.EndLemmas.{access-keeps, access-does, after-registers, span-above, one-above}
use Rattle.lg_selr.proofs.OfMemory.LoadLemmas.{IsFor, some-after, no-temporary, row-block}
use Rattle.lg_selr.proofs.OfMemory.PlaceLemmas.{IsPlaced, off-scratch, masked, store-width, placed, whole-even, frame-whole, read-some}

-- a byte, and those after it
joined-stores : (m : ℕ → Option ℕ) (a k v b : ℕ) → b ≡ a + 1 → stored (stored m a 1 v) b k (v / 256) ≡ stored m a (suc k) v
joined-stores m a k v b e = ap (λ f. stored f b k (v / 256)) (stored-step m a 1 (a + 1) 0 v refl refl ∙ stored-none _ (a + 1) 0 (v / 256) refl) ∙ sym (stored-step m a (suc k) b k v e refl)

-- a row stores a word, and a byte
word-act : (q : CpuState) (base from : ℕ) (offset : ℤ) (a : ℕ) → add_words (read q.registers base) (word_of offset) ≡ a → (a % 8 == 0) ≡ true → mapped q.bytes a 8 ≡ true
    → act (instr.Store row.Sd base from offset) q ≡ goes (add_words q.pc 4) q.registers (stored q.bytes a 8 (read q.registers from)) q.mark
word-act q base from offset a at even there = rw (at, even, there) refl

byte-act : (q : CpuState) (base from : ℕ) (offset : ℤ) (a : ℕ) → add_words (read q.registers base) (word_of offset) ≡ a → (a % 1 == 0) ≡ true → mapped q.bytes a 1 ≡ true
    → act (instr.Store row.Sb base from offset) q ≡ goes (add_words q.pc 4) q.registers (stored q.bytes a 1 (read q.registers from)) q.mark
byte-act q base from offset a at even there = rw (at, even, there) refl

-- a word in code, at a multiple of 8
pub word-does : (code : List ℕ) (trash : ℕ) (s : Seen) (base from : ℕ) (offset : ℤ) (a v fp : ℕ) (T : ℕ → Bool) → add_words (read s.registers base) (word_of offset) ≡ a → (a % 8 == 0) ≡ true → read s.registers from ≡ v
    → IsWritable s fp a 8 → (sp : ℕ) → s.registers 2 ≡ sp → LiesAbove Riscv64 sp a 8 → Does (rv_rows code trash) (from_to s s.registers (stored s.bytes a 8 v) s.flags) (instr.Store row.Sd base from offset ∷ []) fp 0 T
word-does code trash s base from offset a v fp T at even holds writable sp low safe = access-does code trash (instr.Store row.Sd base from offset) s s.registers (stored s.bytes a 8 v) fp T
    (λ q registers bytes.
    let g : q.registers ≡ s.registers = pointwise q.registers s.registers registers in
    record {
      above = span-above q.registers s.registers base offset a 8 sp g low at safe;
      registers = q.registers;
      bytes = stored q.bytes a 8 v;
      effect = word-act q base from offset a (ap (λ h. add_words (read h base) (word_of offset)) g ∙ at) even (writable q.bytes bytes)
          ∙ ap (λ z. goes (add_words q.pc 4) q.registers (stored q.bytes a 8 z) q.mark) (ap (λ h. read h from) g ∙ holds);
      registers_are = registers;
      bytes_are = λ y off. stored-same s.bytes q.bytes a 8 v y (bytes y off);
    })

-- a row stores by its type
row-act : (t : StoreType) (q : CpuState) (base from : ℕ) (offset : ℤ) (a : ℕ) → add_words (read q.registers base) (word_of offset) ≡ a → (a % store_width t == 0) ≡ true → mapped q.bytes a (store_width t) ≡ true
    → act (instr.Store (store_row t) base from offset) q ≡ goes (add_words q.pc 4) q.registers (stored q.bytes a (store_width t) (read q.registers from)) q.mark
row-act store_type.Char q base from offset a at even there = rw (at, even, there) refl
row-act t q base from offset a at even there = rw (at, even, there) refl

-- how many bytes it stores
row-width : (t : StoreType) → rv_width (store_row t) ≡ store_width t
row-width store_type.Char = refl
row-width t = refl

row-above : (t : StoreType) (w v : ℕ → ℕ) (base from : ℕ) (offset : ℤ) (a sp : ℕ) → w ≡ v → v 2 ≡ sp → add_words (read v base) (word_of offset) ≡ a
    → LiesAbove Riscv64 sp a (store_width t) → IsOff (is_below Riscv64 (w 2)) (touched (instr.Store (store_row t) base from offset) w)
row-above t w v base from offset a sp g low at safe =
    subst (λ n. IsOff (is_below Riscv64 (w 2)) record { from = add_words (read w base) (word_of offset); width = n }) (sym (row-width t))
    (span-above w v base offset a (store_width t) sp g low at safe)

-- off the slots, which it keeps
row-keeps : (code : List ℕ) (trash : ℕ) (t : StoreType) (s : Seen) (base from : ℕ) (offset : ℤ) (a v fp n : ℕ) (T : ℕ → Bool) → n ≤ 5 → add_words (read s.registers base) (word_of offset) ≡ a → (a % store_width t == 0) ≡ true → read s.registers from ≡ v
    → IsWritable s fp a (store_width t) → (sp : ℕ) → s.registers 2 ≡ sp → LiesAbove Riscv64 sp a (store_width t) → IsOffSlots fp a (store_width t) → Does (rv_rows code trash) (from_to s s.registers (stored s.bytes a (store_width t) v) s.flags) (instr.Store (store_row t) base from offset ∷ []) fp n T
row-keeps code trash t s base from offset a v fp n T most at even holds writable sp low safe off-slots = access-keeps code trash (instr.Store (store_row t) base from offset) s s.registers (stored s.bytes a (store_width t) v) fp n T
    (λ q registers bytes.
    let g : q.registers ≡ s.registers = pointwise q.registers s.registers registers in
    record {
      above = row-above t q.registers s.registers base from offset a sp g low at safe;
      registers = q.registers;
      bytes = stored q.bytes a (store_width t) v;
      effect = row-act t q base from offset a (ap (λ h. add_words (read h base) (word_of offset)) g ∙ at) even (writable q.bytes bytes)
          ∙ ap (λ z. goes (add_words q.pc 4) q.registers (stored q.bytes a (store_width t) z) q.mark) (ap (λ h. read h from) g ∙ holds);
      registers_are = registers;
      bytes_are = λ y off. stored-same s.bytes q.bytes a (store_width t) v y (bytes y off);
    })
    (λ q r b y on. stored-out q.bytes a (store_width t) v y (outside y (more-slots fp n y most on) (cases_lt y a) (cases_lt y (a + store_width t))))
  where
    outside : (y : ℕ) → in_slots fp y ≡ true → (y < a) ⊎ (a ≤ y) → (y < a + store_width t) ⊎ (a + store_width t ≤ y) → (y < a) ⊎ (a + store_width t ≤ y)
    outside y on (inl lt) z = inl lt
    outside y on (inr le) (inr ge) = inr ge
    outside y on (inr le) (inl lt) = absurd (clash on (let z : a + (y - a) ≡ y = omega (arith, le) in ap (in_slots fp) (sym z) ∙ off-slots (y - a) (omega (arith, le, lt))))
      where
        clash : {b : Bool} → b ≡ true → b ≡ false → ⊥
        clash e h = cc

by-one : (x : ℕ) → (x % 1 == 0) ≡ true
by-one x = grind arith

-- a byte off the slots, which keeps them
pub byte-keeps : (code : List ℕ) (trash : ℕ) (s : Seen) (base from : ℕ) (offset : ℤ) (x v fp n : ℕ) (T : ℕ → Bool) → n ≤ 5 → add_words (read s.registers base) (word_of offset) ≡ x → read s.registers from ≡ v
    → (sp : ℕ) → s.registers 2 ≡ sp → IsThere s sp fp x → Does (rv_rows code trash) (from_to s s.registers (stored s.bytes x 1 v) s.flags) (instr.Store row.Sb base from offset ∷ []) fp n T
byte-keeps code trash s base from offset x v fp n T most at holds sp low there = access-keeps code trash (instr.Store row.Sb base from offset) s s.registers (stored s.bytes x 1 v) fp n T
    (λ q registers bytes.
    let g : q.registers ≡ s.registers = pointwise q.registers s.registers registers in
    record {
      above = span-above q.registers s.registers base offset x 1 sp g low at (one-above sp x there.high);
      registers = q.registers;
      bytes = stored q.bytes x 1 v;
      effect = byte-act q base from offset x (ap (λ h. add_words (read h base) (word_of offset)) g ∙ at) (by-one x) (mapped-one q.bytes x (ap is_some (bytes x there.off) ∙ there.there))
          ∙ ap (λ z. goes (add_words q.pc 4) q.registers (stored q.bytes x 1 z) q.mark) (ap (λ h. read h from) g ∙ holds);
      registers_are = registers;
      bytes_are = λ y off. stored-same s.bytes q.bytes x 1 v y (bytes y off);
    })
    (λ q r b y on. apart-stored q.bytes x v y (λ e. clash (more-slots fp n y most on) (ap (in_slots fp) e ∙ there.off)))
  where
    clash : {b : Bool} → b ≡ true → b ≡ false → ⊥
    clash e h = cc

-- ---- byte by byte
module _ (code : List ℕ) (trash : ℕ) (fp n : ℕ) (most : n ≤ 5) where
  abbrev Goes : Seen → (ℕ → ℕ) → (ℕ → Option ℕ) → List Instr → (ℕ → Bool) → Type 0
  Goes s W M is T = Does (rv_rows code trash) (from_to s W M s.flags) is fp n T

  nothing-left : (s : Seen) (M : ℕ → Option ℕ) (T : ℕ → Bool) → ((y : ℕ) → s.bytes y ≡ M y) → Goes s s.registers M [] T
  nothing-left s M T same = told (rv_rows code trash) s s.registers s.registers s.bytes M s.flags s.flags [] fp n T (λ y free. refl) (λ y off. same y) refl (computations-do (rv_computer code trash) (is-computer code trash) [] s fp n T refl)

  -- a byte is stored, and then the rest
  after-store : (x : Instr) (s : Seen) (B : ℕ → Option ℕ) (W : ℕ → ℕ) (M : ℕ → Option ℕ) (ys : List Instr) (T : ℕ → Bool) → Does (rv_rows code trash) (from_to s s.registers B s.flags) (x ∷ []) fp 5 (λ r. false)
      → Goes (record s { bytes = B }) W M ys T → Goes s W M (x ∷ ys) T
  after-store x s B W M ys T first second = in-a-row (rv_rows code trash) s s.registers W B M s.flags s.flags (x ∷ []) ys fp n T most first second

  still-there : (s : Seen) (sp y v x : ℕ) → IsThere s sp fp x → IsThere (record s { bytes = stored s.bytes y 1 v }) sp fp x
  still-there s sp y v x h = record { high = h.high; off = h.off; there = stored-there s.bytes y 1 v x h.there }

  -- the k bytes of a register's word after its lowest one, from byte m on
  higher-do : (k : ℕ) (s : Seen) (sp from u a m x : ℕ) (T : ℕ → Bool) → s.registers 2 ≡ sp → u ≢ 2 → u ≢ 0 → u ≢ 1 → T u ≡ true → s.registers 1 ≡ a → read s.registers from ≡ x → a + m + k ≤ 2 ^ 64
      → ((j : ℕ) → j < k → IsThere s sp fp (a + (m + j))) → Goes s s.registers (stored s.bytes (a + m) k (x / 256)) (higher_bytes from u m k) T
  higher-do zero s sp from u a m x T low u2 u0 u1 free at is end there = nothing-left s (stored s.bytes (a + m) zero (x / 256)) T (λ y. ap (λ f. f y) (sym (stored-none s.bytes (a + m) zero (x / 256) refl)))
  higher-do (suc k) s sp from u a m x T low u2 u0 u1 free at is end there =
      let w = s.registers in
      let v = x / 256 in
      let w1 : ℕ → ℕ = put w u (shifted_right (read w from) 8) in
      let s1 : Seen = record s { registers = w1 } in
      let B : ℕ → Option ℕ = stored s.bytes (a + m) 1 v in
      let s2 : Seen = record s { registers = w1; bytes = B } in
      let M : ℕ → Option ℕ = stored s.bytes (a + m) (suc k) v in
      let base : w1 1 ≡ a = put-other w u (shifted_right (read w from) 8) 1 (λ e. u1 (sym e)) ∙ at in
      let holds : read w1 u ≡ v = read-put w u (shifted_right (read w from) 8) u0 ∙ ap (λ z. z / 256) is in
      let place : add_words (read w1 1) m ≡ a + m = ap (λ z. add_words z m) (read-some w1 1 (λ e. cc) ∙ base) ∙ omega (arith, end) in
      let here : IsThere s sp fp (a + m) = let z : a + (m + 0) ≡ a + m = omega arith in subst (λ y. IsThere s sp fp y) z (there 0 (omega arith)) in
      let low1 : w1 2 ≡ sp = put-other w u (shifted_right (read w from) 8) 2 (λ e. u2 (sym e)) ∙ low in
      let rest = higher-do k s2 sp u u a (m + 1) v T low1 u2 u0 u1 free base holds (omega (arith, end))
      (λ j lt. let z : a + (m + suc j) ≡ a + (m + 1 + j) = omega arith in subst (λ y. IsThere s2 sp fp y) z (let h = still-there s sp (a + m) v (a + (m + suc j)) (there (suc j) (omega (arith, lt))) in record { high = h.high; off = h.off; there = h.there })) in
      after-registers code trash (instr.Shift shift.Srli u from 8 ∷ []) (instr.Store row.Sb 1 u (pos m) ∷ higher_bytes u u (m + 1) k) s w M fp n T most refl
      (after-store (instr.Store row.Sb 1 u (pos m)) s1 B w M (higher_bytes u u (m + 1) k) T
      (byte-keeps code trash s1 1 u (pos m) (a + m) v fp 5 (λ r. false) (omega arith) place holds sp low1 record { high = here.high; off = here.off; there = here.there })
      (told (rv_rows code trash) s2 w1 w (stored B (a + (m + 1)) k (v / 256)) M s.flags s.flags (higher_bytes u u (m + 1) k) fp n T
      (λ y off. put-other w u (shifted_right (read w from) 8) y (unlike y off)) (λ y off. ap (λ f. f y) (joined-stores s.bytes (a + m) k v (a + (m + 1)) (omega arith))) refl rest))
    where
      unlike : (y : ℕ) → T y ≡ false → y ≢ u
      unlike y off e = let z : true ≡ false = sym free ∙ ap T (sym e) ∙ off in cc

  -- all bytes of a type, from the address in the link
  bytes-do : (t : StoreType) (s : Seen) (sp b u a x : ℕ) (T : ℕ → Bool) → s.registers 2 ≡ sp → u ≢ 2 → u ≢ 0 → u ≢ 1 → T u ≡ true → s.registers 1 ≡ a → read s.registers b ≡ x → a + store_width t ≤ 2 ^ 64
      → ((j : ℕ) → j < store_width t → IsThere s sp fp (a + j))
      → Goes s s.registers (stored s.bytes a (store_width t) x) (instr.Store row.Sb 1 b (pos 0) ∷ higher_bytes b u 1 (store_width t - 1)) T
  bytes-do t s sp b u a x T low u2 u0 u1 free at is end there =
      let w = s.registers in
      let k = store_width t - 1 in
      let wide = some-stored t in
      let B : ℕ → Option ℕ = stored s.bytes a 1 x in
      let s1 : Seen = record s { bytes = B } in
      let here : IsThere s sp fp a = let z : a + 0 ≡ a = omega arith in subst (λ y. IsThere s sp fp y) z (there 0 (omega (arith, wide))) in
      let place : add_words (read w 1) 0 ≡ a = ap (λ z. add_words z 0) (read-some w 1 (λ e. cc) ∙ at) ∙ omega (arith, end, wide) in
      let rest = higher-do k s1 sp b u a 1 x T low u2 u0 u1 free at is (omega (arith, end, wide)) (λ j lt. let h = still-there s sp a x (a + (1 + j)) (there (1 + j) (omega (arith, lt))) in record { high = h.high; off = h.off; there = h.there }) in
      after-store (instr.Store row.Sb 1 b (pos 0)) s B w (stored s.bytes a (store_width t) x) (higher_bytes b u 1 k) T
      (byte-keeps code trash s 1 b (pos 0) a x fp 5 (λ r. false) (omega arith) place is sp low here)
      (told (rv_rows code trash) s1 w w (stored B (a + 1) k (x / 256)) (stored s.bytes a (store_width t) x) s.flags s.flags (higher_bytes b u 1 k) fp n T
      (λ y off. refl) (λ y off. ap (λ f. f y) (joined-stores s.bytes a k x (a + 1) refl ∙ ap (λ z. stored s.bytes a z x) (omega (arith, wide)))) refl rest)

  -- ---- eight bytes by six stores
  half-keeps : (s : Seen) (from : ℕ) (offset : ℤ) (x v sp : ℕ) → s.registers 2 ≡ sp → add_words (read s.registers 1) (word_of offset) ≡ x → (x % 2 == 0) ≡ true → read s.registers from ≡ v → ((j : ℕ) → j < 2 → IsThere s sp fp (x + j))
      → Does (rv_rows code trash) (from_to s s.registers (stored s.bytes x 2 v) s.flags) (instr.Store row.Sh 1 from offset ∷ []) fp 5 (λ r. false)
  half-keeps s from offset x v sp low at even holds there =
      row-keeps code trash store_type.Short s 1 from offset x v fp 5 (λ r. false) (omega arith) at even holds
      (λ bytes same. mapped-all bytes x 2 (λ y le lt. let z : x + (y - x) ≡ y = omega (arith, le) in let h = subst (IsThere s sp fp) z (there (y - x) (omega (arith, le, lt))) in ap is_some (same y h.off) ∙ h.there))
      sp low (λ y le lt. let z : x + (y - x) ≡ y = omega (arith, le) in (subst (IsThere s sp fp) z (there (y - x) (omega (arith, le, lt)))).high)
      (λ j lt. (there j lt).off)

  by-shift : (x e : ℕ) → e ≤ 1 → x / 2 ^ (e * 8 % 2 ^ 64 % 64) ≡ x / 256 ^ e
  by-shift x zero few = refl
  by-shift x (suc zero) few = refl
  by-shift x (suc (suc e)) few = absurd (omega (arith, few))

  next-half : (x e : ℕ) → e ≤ 1 → x / 256 ^ e / 2 ^ 16 ≡ x / 256 ^ (e + 2)
  next-half x zero few = (let z : x / 1 / 65536 ≡ x / 65536 = omega arith in z)
  next-half x (suc zero) few = (let z : x / 256 / 65536 ≡ x / 16777216 = omega arith in z)
  next-half x (suc (suc e)) few = absurd (omega (arith, few))

  last-half : (x e : ℕ) → e ≤ 1 → x / 256 ^ (e + 2) / 2 ^ 16 ≡ x / 256 ^ (e + 4)
  last-half x zero few = (let z : x / 65536 / 65536 ≡ x / 4294967296 = omega arith in z)
  last-half x (suc zero) few = (let z : x / 16777216 / 65536 ≡ x / 1099511627776 = omega arith in z)
  last-half x (suc (suc e)) few = absurd (omega (arith, few))

  abbrev tail-5 : ℕ → List Instr
  tail-5 u = instr.Shift shift.Srli u u 16 ∷ instr.Store row.Sh 1 u (pos 4) ∷ []

  abbrev tail-4 : ℕ → List Instr
  tail-4 u = instr.Shift shift.Srli u u 16 ∷ instr.Store row.Sh 1 u (pos 2) ∷ tail-5 u

  abbrev tail-3 : ℕ → ℕ → List Instr
  tail-3 b u = instr.Imm imm.Andi u 1 (pos 1) ∷ instr.Reg reg.Add 1 1 u ∷ instr.Shift shift.Slli u u 3 ∷ instr.Reg reg.Srl u b u ∷ instr.Store row.Sh 1 u (pos 0) ∷ tail-4 u

  abbrev tail-2 : ℕ → ℕ → List Instr
  tail-2 b u = instr.Shift shift.Srli u u 8 ∷ instr.Store row.Sb 1 u (pos 7) ∷ tail-3 b u

  abbrev tail-1 : ℕ → ℕ → List Instr
  tail-1 b u = instr.Shift shift.Srli u b 48 ∷ instr.Store row.Sb 1 u (pos 6) ∷ tail-2 b u

  halves-do : (s : Seen) (sp b u a x : ℕ) (T : ℕ → Bool) → s.registers 2 ≡ sp → u ≢ 2 → u ≢ 0 → u ≢ 1 → b ≢ u → b ≢ 1 → T u ≡ true → T 1 ≡ true → s.registers 1 ≡ a → read s.registers b ≡ x → a + 8 ≤ 2 ^ 64 → ((j : ℕ) → j < 8 → IsThere s sp fp (a + j))
      → Goes s s.registers (stored s.bytes a 8 x) (halves b u) T
  halves-do s sp b u a x T low u2 u0 u1 bu b1 free link at is end there =
      let r = s.registers in
      let e = a % 2 in
      let few : e ≤ 1 = omega arith in
      let c1 = m1 s.bytes a x e few in
      let c2 = m2 s.bytes a x e few in
      let c3 = m3 s.bytes a x e few in
      let c4 = m4 s.bytes a x e few in
      let c5 = m5 s.bytes a x e few in
      let c6 = m6 s.bytes a x e few in
      let M : ℕ → Option ℕ = stored s.bytes a 8 x in
      let v1 = shifted_right (read r b) 48 in
      let r1 : ℕ → ℕ = put r u v1 in
      let v2 = shifted_right (read r1 u) 8 in
      let r2 : ℕ → ℕ = put r1 u v2 in
      let v3 = bit_and (read r2 1) 1 in
      let r3 : ℕ → ℕ = put r2 u v3 in
      let v4 = add_words (read r3 1) (read r3 u) in
      let r4 : ℕ → ℕ = put r3 1 v4 in
      let v5 = shifted_left (read r4 u) 3 in
      let r5 : ℕ → ℕ = put r4 u v5 in
      let v6 = shifted_right (read r5 b) (read r5 u % 64) in
      let r6 : ℕ → ℕ = put r5 u v6 in
      let v7 = shifted_right (read r6 u) 16 in
      let r7 : ℕ → ℕ = put r6 u v7 in
      let v8 = shifted_right (read r7 u) 16 in
      let r8 : ℕ → ℕ = put r7 u v8 in
      let l1 : read r 1 ≡ a = read-some r 1 (λ z. cc) ∙ at in
      let link-of : (w : ℕ → ℕ) (v : ℕ) → read (put w u v) 1 ≡ read w 1 = λ w v. read-other w u v 1 (λ z. u1 (sym z)) in
      let base-of : (w : ℕ → ℕ) (v : ℕ) → read (put w u v) b ≡ read w b = λ w v. read-other w u v b bu in
      let h1 : read r1 u ≡ x / 256 ^ 6 = read-put r u v1 u0 ∙ ap (λ z. z / 2 ^ 48) is in
      let h2 : read r2 u ≡ x / 256 ^ 7 = read-put r1 u v2 u0 ∙ ap (λ z. z / 2 ^ 8) h1 ∙ (let z : x / 281474976710656 / 256 ≡ x / 72057594037927936 = omega arith in z) in
      let k2 : read r2 1 ≡ a = link-of r1 v2 ∙ link-of r v1 ∙ l1 in
      let g3 : read r3 u ≡ e = read-put r2 u v3 u0 ∙ masked 2 (read r2 1) (inr (inl refl)) ∙ ap (λ z. z % 2) k2 in
      let k3 : read r3 1 ≡ a = link-of r2 v3 ∙ k2 in
      let k4 : read r4 1 ≡ a + e = read-put r3 1 v4 (λ z. cc) ∙ (λ i. add_words (k3 i) (g3 i)) ∙ (let z : add_words a e ≡ a + e = omega (arith, end, few) in z) in
      let g4 : read r4 u ≡ e = read-other r3 1 v4 u u1 ∙ g3 in
      let g5 : read r5 u ≡ e * 8 % 2 ^ 64 = read-put r4 u v5 u0 ∙ ap (λ z. shifted_left z 3) g4 in
      let k5 : read r5 1 ≡ a + e = link-of r4 v5 ∙ k4 in
      let b5 : read r5 b ≡ x = base-of r4 v5 ∙ read-other r3 1 v4 b b1 ∙ base-of r2 v3 ∙ base-of r1 v2 ∙ base-of r v1 ∙ is in
      let h6 : read r6 u ≡ x / 256 ^ e = read-put r5 u v6 u0 ∙ (λ i. b5 i / 2 ^ (g5 i % 64)) ∙ by-shift x e few in
      let k6 : read r6 1 ≡ a + e = link-of r5 v6 ∙ k5 in
      let h7 : read r7 u ≡ x / 256 ^ (e + 2) = read-put r6 u v7 u0 ∙ ap (λ z. z / 2 ^ 16) h6 ∙ next-half x e few in
      let k7 : read r7 1 ≡ a + e = link-of r6 v7 ∙ k6 in
      let h8 : read r8 u ≡ x / 256 ^ (e + 4) = read-put r7 u v8 u0 ∙ ap (λ z. z / 2 ^ 16) h7 ∙ last-half x e few in
      let k8 : read r8 1 ≡ a + e = link-of r7 v8 ∙ k7 in
      let stack-of : (w : ℕ → ℕ) (v : ℕ) → put w u v 2 ≡ w 2 = λ w v. put-other w u v 2 (λ z. u2 (sym z)) in
      let p1 : r1 2 ≡ sp = stack-of r v1 ∙ low in
      let p2 : r2 2 ≡ sp = stack-of r1 v2 ∙ p1 in
      let p6 : r6 2 ≡ sp = stack-of r5 v6 ∙ stack-of r4 v5 ∙ put-other r3 1 v4 2 (λ z. absurd (omega (arith, z))) ∙ stack-of r2 v3 ∙ p2 in
      let p7 : r7 2 ≡ sp = stack-of r6 v7 ∙ p6 in
      let p8 : r8 2 ≡ sp = stack-of r7 v8 ∙ p7 in
      let on1 : (y : ℕ) → IsThere s sp fp y → IsThere (record s { bytes = c1 }) sp fp y = λ y h. still-there s sp (a + 0) (x / 256 ^ 0) y h in
      let t2 : (y : ℕ) → IsThere s sp fp y → is_some (c2 y) ≡ true = λ y h. stored-there c1 (a + 6) 1 (x / 256 ^ 6) y (stored-there s.bytes (a + 0) 1 (x / 256 ^ 0) y h.there) in
      let t3 : (y : ℕ) → IsThere s sp fp y → is_some (c3 y) ≡ true = λ y h. stored-there c2 (a + 7) 1 (x / 256 ^ 7) y (t2 y h) in
      let t4 : (y : ℕ) → IsThere s sp fp y → is_some (c4 y) ≡ true = λ y h. stored-there c3 (a + e) 2 (x / 256 ^ e) y (t3 y h) in
      let t5 : (y : ℕ) → IsThere s sp fp y → is_some (c5 y) ≡ true = λ y h. stored-there c4 (a + (e + 2)) 2 (x / 256 ^ (e + 2)) y (t4 y h) in
      let byte : (j : ℕ) → j < 8 → IsThere s sp fp (a + j) = there in
      let at-e : (d j : ℕ) → d + j < 7 → IsThere s sp fp (a + (e + d) + j) = λ d j lt. subst (IsThere s sp fp) (let z : a + (e + d + j) ≡ a + (e + d) + j = omega arith in z) (there (e + d + j) (omega (arith, few, lt))) in
      let at-e0 : (j : ℕ) → j < 2 → IsThere s sp fp (a + e + j) = λ j lt. subst (IsThere s sp fp) (let z : a + (e + j) ≡ a + e + j = omega arith in z) (there (e + j) (omega (arith, few, lt))) in
      let kept : (y : ℕ) → T y ≡ false → r8 y ≡ r y = λ y off.
      let nu : y ≢ u = λ z. absurd (no (sym free ∙ ap T (sym z) ∙ off)) in
      let n1 : y ≢ 1 = λ z. absurd (no (sym link ∙ ap T (sym z) ∙ off)) in
      put-other r7 u v8 y nu ∙ put-other r6 u v7 y nu ∙ put-other r5 u v6 y nu ∙ put-other r4 u v5 y nu ∙ put-other r3 1 v4 y n1 ∙ put-other r2 u v3 y nu ∙ put-other r1 u v2 y nu ∙ put-other r u v1 y nu in
      after-store (instr.Store row.Sb 1 b (pos 0)) s c1 r M (tail-1 b u) T
      (byte-keeps code trash s 1 b (pos 0) (a + 0) (x / 256 ^ 0) fp 5 (λ r. false) (omega arith) (ap (λ z. add_words z 0) l1 ∙ (let z : add_words a 0 ≡ a + 0 = omega (arith, end) in z)) (is ∙ (let z : x ≡ x / 1 = omega arith in z)) sp low (there 0 (omega arith)))
      (after-registers code trash (instr.Shift shift.Srli u b 48 ∷ []) (instr.Store row.Sb 1 u (pos 6) ∷ tail-2 b u) (record s { bytes = c1 }) r M fp n T most refl
      (after-store (instr.Store row.Sb 1 u (pos 6)) (record s { registers = r1; bytes = c1 }) c2 r M (tail-2 b u) T
      (byte-keeps code trash (record s { registers = r1; bytes = c1 }) 1 u (pos 6) (a + 6) (x / 256 ^ 6) fp 5 (λ r. false) (omega arith) (ap (λ z. add_words z 6) (link-of r v1 ∙ l1) ∙ (let z : add_words a 6 ≡ a + 6 = omega (arith, end) in z)) h1
      sp p1 record { high = (there 6 (omega arith)).high; off = (there 6 (omega arith)).off; there = (on1 (a + 6) (there 6 (omega arith))).there })
      (after-registers code trash (instr.Shift shift.Srli u u 8 ∷ []) (instr.Store row.Sb 1 u (pos 7) ∷ tail-3 b u) (record s { registers = r1; bytes = c2 }) r M fp n T most refl
      (after-store (instr.Store row.Sb 1 u (pos 7)) (record s { registers = r2; bytes = c2 }) c3 r M (tail-3 b u) T
      (byte-keeps code trash (record s { registers = r2; bytes = c2 }) 1 u (pos 7) (a + 7) (x / 256 ^ 7) fp 5 (λ r. false) (omega arith) (ap (λ z. add_words z 7) k2 ∙ (let z : add_words a 7 ≡ a + 7 = omega (arith, end) in z)) h2
      sp p2 record { high = (there 7 (omega arith)).high; off = (there 7 (omega arith)).off; there = t2 (a + 7) (there 7 (omega arith)) })
      (after-registers code trash (instr.Imm imm.Andi u 1 (pos 1) ∷ instr.Reg reg.Add 1 1 u ∷ instr.Shift shift.Slli u u 3 ∷ instr.Reg reg.Srl u b u ∷ []) (instr.Store row.Sh 1 u (pos 0) ∷ tail-4 u) (record s { registers = r2; bytes = c3 }) r M fp n T most refl
      (after-store (instr.Store row.Sh 1 u (pos 0)) (record s { registers = r6; bytes = c3 }) c4 r M (tail-4 u) T
      (half-keeps (record s { registers = r6; bytes = c3 }) u (pos 0) (a + e) (x / 256 ^ e) sp p6 (ap (λ z. add_words z 0) k6 ∙ (let z : add_words (a + e) 0 ≡ a + e = omega (arith, end, few) in z)) (grind arith) h6
      (λ j lt. record { high = (at-e0 j lt).high; off = (at-e0 j lt).off; there = t3 (a + e + j) (at-e0 j lt) }))
      (after-registers code trash (instr.Shift shift.Srli u u 16 ∷ []) (instr.Store row.Sh 1 u (pos 2) ∷ tail-5 u) (record s { registers = r6; bytes = c4 }) r M fp n T most refl
      (after-store (instr.Store row.Sh 1 u (pos 2)) (record s { registers = r7; bytes = c4 }) c5 r M (tail-5 u) T
      (half-keeps (record s { registers = r7; bytes = c4 }) u (pos 2) (a + (e + 2)) (x / 256 ^ (e + 2)) sp p7 (ap (λ z. add_words z 2) k7 ∙ (let z : add_words (a + e) 2 ≡ a + (e + 2) = omega (arith, end, few) in z)) (grind arith) h7
      (λ j lt. record { high = (at-e 2 j (omega (arith, lt))).high; off = (at-e 2 j (omega (arith, lt))).off; there = t4 (a + (e + 2) + j) (at-e 2 j (omega (arith, lt))) }))
      (after-registers code trash (instr.Shift shift.Srli u u 16 ∷ []) (instr.Store row.Sh 1 u (pos 4) ∷ []) (record s { registers = r7; bytes = c5 }) r M fp n T most refl
      (after-store (instr.Store row.Sh 1 u (pos 4)) (record s { registers = r8; bytes = c5 }) c6 r M [] T
      (half-keeps (record s { registers = r8; bytes = c5 }) u (pos 4) (a + (e + 4)) (x / 256 ^ (e + 4)) sp p8 (ap (λ z. add_words z 4) k8 ∙ (let z : add_words (a + e) 4 ≡ a + (e + 4) = omega (arith, end, few) in z)) (grind arith) h8
      (λ j lt. record { high = (at-e 4 j (omega (arith, lt))).high; off = (at-e 4 j (omega (arith, lt))).off; there = t5 (a + (e + 4) + j) (at-e 4 j (omega (arith, lt))) }))
      (told (rv_rows code trash) (record s { registers = r8; bytes = c6 }) r8 r c6 M s.flags s.flags [] fp n T kept (λ y off. halves-store s.bytes a x e few y) refl
      (nothing-left (record s { registers = r8; bytes = c6 }) c6 T (λ y. refl)))))))))))))
    where
      no : true ≡ false → ⊥
      no z = cc

-- ---- code that goes straight on
higher-straight : (v u m k : ℕ) → list_all is_straight (higher_bytes v u m k) ≡ true
higher-straight v u m zero = refl
higher-straight v u m (suc k) = higher-straight u u (m + 1) k

higher-long : (v u m k : ℕ) → length (higher_bytes v u m k) ≡ 2 * k
higher-long v u m zero = omega arith
higher-long v u m (suc k) = let h = higher-long u u (m + 1) k in omega (arith, h)

slow-straight : (t : StoreType) (v u base : ℕ) (offset : ℤ) → list_all is_straight (slow_store t v u base offset) ≡ true
slow-straight store_type.Char v u base offset = higher-straight v u 1 0
slow-straight store_type.Short v u base offset = higher-straight v u 1 1
slow-straight store_type.Int v u base offset = higher-straight v u 1 3
slow-straight store_type.Long v u base offset = refl

slow-long : (t : StoreType) (v u base : ℕ) (offset : ℤ) → store_skip t ≡ 4 * length (slow_store t v u base offset) + 8
slow-long store_type.Char v u base offset = let l = higher-long v u 1 0 in omega (arith, l)
slow-long store_type.Short v u base offset = let l = higher-long v u 1 1 in omega (arith, l)
slow-long store_type.Int v u base offset = let l = higher-long v u 1 3 in omega (arith, l)
slow-long store_type.Long v u base offset = omega arith

-- ---- of a node
module _ (code : List ℕ) (trash : ℕ) (rows : AreRows (rv_rows code trash) IsInstr) (choices : List Choice) (u frame : ℕ) (t : StoreType) (at : Address) (b : Reg) (most : spilled choices ≤ 5)
    (temporary : (store_width t == 1) ≡ false → IsFor u (register_of Riscv64 b) (spoils rv_scratch choices))
    (q : Run CpuState) (a : ℕ) (ok : IsAddress at) (f : HasFrame Riscv64 frame (rv_seen q)) (address : address_word Riscv64 q.state.registers at ≡ a) (end : a + store_width t ≤ 2 ^ 64)
    (writable : IsWritable (rv_seen q) (q.state.registers 8) a (store_width t)) (safe : LiesAbove Riscv64 (q.state.registers 2) a (store_width t)) (off-slots : IsOffSlots (q.state.registers 8) a (store_width t)) where
  abbrev p : Place
  p = place_of (store_width t) at

  abbrev s : Seen
  s = rv_seen q

  abbrev fp : ℕ
  fp = s.registers 8

  abbrev rb : ℕ
  rb = register_of Riscv64 b

  abbrev T : ℕ → Bool
  T = spoils rv_scratch choices

  abbrev M : ℕ → Option ℕ
  M = stored s.bytes a (store_width t) (s.registers rb)

  abbrev last : Instr
  last = instr.Store (store_row t) p.base rb p.offset

  m : IsPlaced (store_width t) p s.registers a
  m = subst (IsPlaced (store_width t) p s.registers) address (placed (store_width t) at s.registers (store-width t) ok f.seen.words)

  abbrev sp : ℕ
  sp = s.registers 2

  there : (j : ℕ) → j < store_width t → IsThere s sp fp (a + j)
  there j lt = writable-byte s sp fp a (store_width t) j writable safe off-slots lt

  code-keeps-stack : computed p.code s.registers 2 ≡ sp
  code-keeps-stack = m.keeps 2 (λ e. absurd (omega (arith, e)))

  spared : (y : ℕ) → T y ≡ false → rv_scratch y ≡ false
  spared y free = (or_parts (is_taken choices y) (rv_scratch y) free).1

  alone : (a % store_width t == 0) ≡ true → CrossesCode (rv_rows code trash) IsInstr (from_to s s.registers M s.flags) (p.code ++ last ∷ []) fp (spilled choices) T
  alone even =
      let here : Seen = record s { registers = computed p.code s.registers } in
      straight-crosses (rv_rows code trash) IsInstr rows (from_to s s.registers M s.flags) (p.code ++ last ∷ []) fp (spilled choices) T (row-block p.code last m.computes refl)
      (after-registers code trash p.code (last ∷ []) s s.registers M fp (spilled choices) T most m.computes
      (told (rv_rows code trash) here here.registers s.registers M M s.flags s.flags (last ∷ []) fp (spilled choices) T
      (λ y free. m.keeps y (off-scratch y (spared y free)).1) (λ y off. refl) refl
      (row-keeps code trash t here p.base rb p.offset a (s.registers rb) fp (spilled choices) T most m.makes even (read-of here.registers b ∙ m.keeps rb (register-apart b).0) writable sp code-keeps-stack safe off-slots)))

  module _ (temp : IsFor u rb T) where
    abbrev w : ℕ → ℕ
    w = tested code trash rows s s.registers M fp (spilled choices) T most (store_width t) u a (store_skip t) p (store-width t) temp.nonzero temp.link m (slow_store t rb u p.base p.offset) last (slow-long t rb u p.base p.offset) (slow-straight t rb u p.base p.offset)

    abbrev after-test : Seen
    after-test = record s { registers = w }

    at-base : add_words (read w p.base) (word_of p.offset) ≡ a
    at-base = base-kept code trash rows s s.registers M fp (spilled choices) T most (store_width t) u a (store_skip t) p (store-width t) temp.nonzero temp.link m (slow_store t rb u p.base p.offset) last (slow-long t rb u p.base p.offset) (slow-straight t rb u p.base p.offset)

    kept-at : (y : ℕ) → y ≢ u → y ≢ 1 → w y ≡ s.registers y
    kept-at y ne link = put-other (computed p.code s.registers) (tester u p.base) (bit_and (read (computed p.code s.registers) p.base) (store_width t - 1)) y (neither (p.base == 1)) ∙ m.keeps y link
      where
        neither : (c : Bool) → y ≢ (if c then u else 1)
        neither true = ne
        neither false = link

    test-keeps-stack : w 2 ≡ sp
    test-keeps-stack = kept-at 2 (λ e. temp.stack (sym e)) (λ e. absurd (omega (arith, e)))

    unlike : (y : ℕ) → T y ≡ false → y ≢ u
    unlike y free e = let z : true ≡ false = sym temp.free ∙ ap T (sym e) ∙ free in cc

    kept : (y : ℕ) → T y ≡ false → w y ≡ s.registers y
    kept y free = kept-at y (unlike y free) (off-scratch y (spared y free)).1

    -- the register that is stored
    from-kept : w rb ≡ s.registers rb
    from-kept = kept-at rb temp.apart (register-apart b).0

    fastly : (a % store_width t == 0) ≡ true → Does (rv_rows code trash) (from_to after-test s.registers M s.flags) (last ∷ []) fp (spilled choices) T
    fastly even =
        told (rv_rows code trash) after-test w s.registers M M s.flags s.flags (last ∷ []) fp (spilled choices) T kept (λ y off. refl) refl
        (row-keeps code trash t after-test p.base rb p.offset a (s.registers rb) fp (spilled choices) T most at-base even (read-of w b ∙ from-kept) writable sp test-keeps-stack safe off-slots)

    -- all bytes, from the link, by type
    all-bytes : (k : StoreType) (l : Seen) → store_width k ≡ store_width t → l.bytes ≡ s.bytes → l.flags ≡ s.flags → l.registers 2 ≡ sp → l.registers 1 ≡ a → read l.registers rb ≡ s.registers rb → ((j : ℕ) → j < store_width k → IsThere l sp fp (a + j))
        → Does (rv_rows code trash) (from_to l l.registers (stored l.bytes a (store_width k) (s.registers rb)) l.flags) (store_bytes k rb u) fp (spilled choices) T
    all-bytes store_type.Char l same bs fs low at is here = bytes-do code trash fp (spilled choices) most store_type.Char l sp rb u a (s.registers rb) T low temp.stack temp.nonzero temp.link temp.free at is (omega (arith, end, same)) here
    all-bytes store_type.Short l same bs fs low at is here = bytes-do code trash fp (spilled choices) most store_type.Short l sp rb u a (s.registers rb) T low temp.stack temp.nonzero temp.link temp.free at is (omega (arith, end, same)) here
    all-bytes store_type.Int l same bs fs low at is here = bytes-do code trash fp (spilled choices) most store_type.Int l sp rb u a (s.registers rb) T low temp.stack temp.nonzero temp.link temp.free at is (omega (arith, end, same)) here
    all-bytes store_type.Long l same bs fs low at is here = halves-do code trash fp (spilled choices) most l sp rb u a (s.registers rb) T low temp.stack temp.nonzero temp.link temp.apart (register-apart b).0 temp.free (or-true (is_taken choices 1)) at is (omega (arith, end, same)) here

    slowly : Does (rv_rows code trash) (from_to after-test s.registers M s.flags) (slow_store t rb u p.base p.offset) fp (spilled choices) T
    slowly =
        let w1 : ℕ → ℕ = put w 1 (add_words (read w p.base) (word_of p.offset)) in
        let linked-seen : Seen = record s { registers = w1 } in
        let rest = store_bytes t rb u in
        after-registers code trash (instr.Imm imm.Addi 1 p.base p.offset ∷ []) rest after-test s.registers M fp (spilled choices) T most refl
        (told (rv_rows code trash) linked-seen w1 s.registers M M s.flags s.flags rest fp (spilled choices) T
        (λ y free. put-other w 1 (add_words (read w p.base) (word_of p.offset)) y (off-scratch y (spared y free)).1 ∙ kept y free) (λ y off. refl) refl
        (all-bytes t linked-seen refl refl refl (put-other w 1 (add_words (read w p.base) (word_of p.offset)) 2 (λ e. absurd (omega (arith, e))) ∙ test-keeps-stack) (put-same w 1 (add_words (read w p.base) (word_of p.offset)) ∙ at-base)
        (read-of w1 b ∙ put-other w 1 (add_words (read w p.base) (word_of p.offset)) rb (register-apart b).0 ∙ from-kept)
        (λ j lt. let h = there j lt in record { high = h.high; off = h.off; there = h.there })))

    forked : CrossesCode (rv_rows code trash) IsInstr (from_to s s.registers M s.flags) (p.code ++ fork u p.base (store_width t) (store_skip t) (slow_store t rb u p.base p.offset) last) fp (spilled choices) T
    forked = forks code trash rows s s.registers M fp (spilled choices) T most (store_width t) u a (store_skip t) p (store-width t) temp.nonzero temp.link m (slow_store t rb u p.base p.offset) last (slow-long t rb u p.base p.offset) (slow-straight t rb u p.base p.offset)
        (λ odd. slowly) fastly

  by : (c : Bool) → is_whole (store_width t) at ≡ c
      → CrossesCode (rv_rows code trash) IsInstr (from_to s s.registers M s.flags) (p.code ++ (if c then last ∷ [] else fork u p.base (store_width t) (store_skip t) (slow_store t rb u p.base p.offset) last)) fp (spilled choices) T
  by true e = alone (ap (λ z. z % store_width t == 0) (sym address) ∙ whole-even (store_width t) at s.registers (store-width t) (frame-whole frame s f) e)
  by false e = forked (temporary (no-temporary (store_width t) at e))

  pub store-goes : CrossesCode (rv_rows code trash) IsInstr (from_to s s.registers M s.flags) (storing t rb u at) fp (spilled choices) T
  store-goes = by (is_whole (store_width t) at) refl

pub store-does-so : (code : List ℕ) (trash : ℕ) → AreRows (rv_rows code trash) IsInstr → (choices : List Choice) (u frame : ℕ) (t : StoreType) (at : Address) (b : Reg) → spilled choices ≤ 5
    → ((store_width t == 1) ≡ false → IsFor u (register_of Riscv64 b) (spoils rv_scratch choices)) → StoreCrosses (rv_rows code trash) IsInstr rv_scratch choices frame t at b (storing t (register_of Riscv64 b) u at)
store-does-so code trash rows choices u frame t at b most temporary q a ok f address end writable safe off-slots = store-goes code trash rows choices u frame t at b most temporary q a ok f address end writable safe off-slots

pub store-has-code : (t : StoreType) (b u : ℕ) (at : Address) → 0 < length (spellings spelling (storing t b u at))
store-has-code t b u at = by (is_whole (store_width t) at)
  where
    by : (c : Bool) → 0 < length (spellings spelling ((place_of (store_width t) at).code ++ (if c then instr.Store (store_row t) (place_of (store_width t) at).base b (place_of (store_width t) at).offset ∷ [] else fork u (place_of (store_width t) at).base (store_width t) (store_skip t) (slow_store t b u (place_of (store_width t) at).base (place_of (store_width t) at).offset) (instr.Store (store_row t) (place_of (store_width t) at).base b (place_of (store_width t) at).offset))))
    by true = some-after (place_of (store_width t) at).code (instr.Store (store_row t) (place_of (store_width t) at).base b (place_of (store_width t) at).offset) []
    by false = some-after (place_of (store_width t) at).code (instr.Imm imm.Andi (tester u (place_of (store_width t) at).base) (place_of (store_width t) at).base (pos (store_width t - 1))) (instr.Branch Beq (tester u (place_of (store_width t) at).base) 0 (pos (store_skip t)) ∷ (slow_store t b u (place_of (store_width t) at).base (place_of (store_width t) at).offset ++ (instr.Branch Beq 0 0 (pos 8) ∷ instr.Store (store_row t) (place_of (store_width t) at).base b (place_of (store_width t) at).offset ∷ [])))
