-- Loads.
use Rattle.lg_selr_values.specs.Processor.RvTouched.{touched, load_width}
use Rattle.std.proofs.Common.{◌≡◌, ◌≢◌, ℕ, zero, suc, ◌+◌, ◌-◌, ◌*◌, ◌%◌, ◌^◌, ◌<◌, ◌≤◌, Bool, true, false, List, [], ◌∷◌, ◌++◌, Option, Some, refl, sym, ap, ◌∙◌, arith, subst, length, length-append, bit_and}
use Rattle.std.specs.Prelude.{ℤ, pos, ◌==◌, ◌||◌, ◌&&◌, if◌then◌else◌}
use Rattle.std.specs.List.{list_all}
use Rattle.std.proofs.lemmas.Bool.{and_parts, or_parts}
use Rattle.lg_base.specs.Fields.{word_of}
use Rattle.lg_base.specs.Spaces.{loaded}
use Rattle.lg_base.specs.Wide.{byte_of}
use Rattle.lg_base.specs.Words.{add_words, shifted_left}
use Rattle.lg_base.specs.declared.target.Target.TheVariants.{Riscv64}
use Rattle.lg_op.specs.declared.op.ValueType.{ValueType}
use Rattle.lg_op.specs.declared.op.ValueType.TheVariants as value_type
use Rattle.lg_op.specs.declared.operand.Reg.{Reg}
use Rattle.lg_op.specs.Operators.{width, extended_by_type}
use Rattle.lg_rv.specs.Spelling.{spelling, IsInstr}
use Rattle.lg_rv.specs.declared.instruction.BranchOp.TheVariants.{Beq}
use Rattle.lg_rv.specs.declared.instruction.Instr.{Instr}
use Rattle.lg_rv.specs.declared.instruction.Instr.TheVariants as instr
use Rattle.lg_rv.specs.declared.instruction.ImmOp.TheVariants as imm
use Rattle.lg_rv.specs.declared.instruction.RegOp.TheVariants as reg
use Rattle.lg_rv.specs.declared.instruction.ShiftOp.TheVariants as shift
use Rattle.lg_cpu.specs.HostSteps.{put}
use Rattle.lg_cpu.specs.States.{CpuState}
use Rattle.lg_cpu.specs.Steps.{Run}
use Rattle.lg_cpu.specs.RvStep.{read, sets, loads, act}
use Rattle.lg_temp.specs.Abis.{register_of}
use Rattle.lg_temp.specs.declared.choice.Choice.{Choice}
use Rattle.lg_carry.specs.Blocks.{spellings, IsBlock}
use Rattle.lg_carry.specs.Rows.{AreRows}
use Rattle.lg_carry.specs.Processors.{Seen, IsOff, is_below}
use Rattle.lg_carry.specs.Spills.{Does, with_register, spilled}
use Rattle.lg_selr_values.specs.Processor.Computations.{all_compute, computed_by, computed}
use Rattle.lg_selr_values.specs.Processor.RvComputers.{rv_scratch, rv_computer}
use Rattle.lg_selr_values.specs.Processor.RvRows.{rv_rows, rv_seen, is_straight}
use Rattle.lg_selr_values.proofs.OfProcessor.ComputationLemmas.{pointwise, read-put, read-other, put-same, put-other, spellings-long}
use Rattle.lg_selr_values.proofs.OfProcessor.ComputerLemmas.{is-computer}
use Rattle.lg_selr_values.proofs.OfProcessor.RegisterLemmas.{register-apart, register-nonzero, register-no-stack}
use Rattle.lg_carry.specs.Nodes.Straight.{is_taken, spoils, from_to}
use Rattle.lg_carry.specs.Nodes.Stretches.{HasFrame}
use Rattle.lg_carry.proofs.OfValues.ComputationLemmas.{computations-do}
use Rattle.lg_carry.specs.Memory.Accesses.{Address, Base, At, Sum, Index, address_word, IsAddress, LiesAbove}
use Rattle.lg_carry.specs.Memory.Loads.{IsReadable, LoadCrosses}
use Rattle.lg_carry.specs.Memory.Crossings.{CrossesCode}
use Rattle.lg_carry.proofs.OfMemory.CrossingLemmas.{straight-crosses}
use Rattle.lg_carry.proofs.SpillChoiceLemmas.{or-true}
use Rattle.lg_carry.proofs.OfMemory.AfterLemmas.{told, in-a-row}
use Rattle.lg_carry.proofs.OfMemory.LoadLemmas.{some-wide}
use Rattle.lg_selr.specs.Memory.Accesses.{Place, load_row, high_row, is_frame, is_whole, place_of, lower_bytes, tester, fork, slow_load, loading}
use Rattle.lg_selr.proofs.OfMemory.ForkLemmas.{straight-block, computing-straight, tester-free, tested, base-kept, forks, tester-no-stack}
use Rattle.lg_selr.proofs.OfMemory.ByteLemmas.{IsByte, readable-byte, loaded-one}
use Rattle.lg_selr.proofs.OfMemory.EndLemmas.{access-keeps, after-registers, span-above, one-above}
use Rattle.lg_selr.proofs.OfMemory.JoinLemmas.{joined, high_type, joined-typed}
use Rattle.lg_selr.proofs.OfMemory.PlaceLemmas.{IsPlaced, off-scratch, load-width, placed, whole-even, frame-whole, read-some}

-- a row loads by its type
load-act : (t : ValueType) (q : CpuState) (rd base : ℕ) (offset : ℤ) (a v : ℕ) → add_words (read q.registers base) (word_of offset) ≡ a → (a % width t == 0) ≡ true
    → loaded q.bytes a (width t) ≡ Some v → v < 256 ^ width t → act (instr.Imm (load_row t) rd base offset) q ≡ sets q rd (extended_by_type t v)
load-act value_type.Char q rd base offset a v at even e lt = rw (at, even) (ap (loads q rd 1 true) e)
load-act value_type.UnsignedChar q rd base offset a v at even e lt = rw (at, even) (ap (loads q rd 1 false) e ∙ ap (sets q rd) (let z : v ≡ v % 2 ^ 8 = omega (arith, lt) in z))
load-act value_type.Short q rd base offset a v at even e lt = rw (at, even) (ap (loads q rd 2 true) e)
load-act value_type.UnsignedShort q rd base offset a v at even e lt = rw (at, even) (ap (loads q rd 2 false) e ∙ ap (sets q rd) (let z : v ≡ v % 2 ^ 16 = omega (arith, lt) in z))
load-act value_type.Int q rd base offset a v at even e lt = rw (at, even) (ap (loads q rd 4 true) e)
load-act value_type.UnsignedInt q rd base offset a v at even e lt = rw (at, even) (ap (loads q rd 4 false) e ∙ ap (sets q rd) (let z : v ≡ v % 2 ^ 32 = omega (arith, lt) in z))
load-act value_type.Long q rd base offset a v at even e lt = rw (at, even) (ap (loads q rd 8 false) e)

-- how many bytes the row of a type loads
row-width : (t : ValueType) → load_width (load_row t) ≡ width t
row-width value_type.Char = refl
row-width t = refl

load-above : (t : ValueType) (w v : ℕ → ℕ) (rd base : ℕ) (offset : ℤ) (a sp : ℕ) → w ≡ v → v 2 ≡ sp → add_words (read v base) (word_of offset) ≡ a
    → LiesAbove Riscv64 sp a (width t) → IsOff (is_below Riscv64 (w 2)) (touched (instr.Imm (load_row t) rd base offset) w)
load-above t w v rd base offset a sp g low at safe =
    subst (λ n. IsOff (is_below Riscv64 (w 2)) record { from = add_words (read w base) (word_of offset); width = n }) (sym (row-width t))
    (span-above w v base offset a (width t) sp g low at safe)

-- and does so in code, which keeps each slot
pub load-keeps : (code : List ℕ) (trash : ℕ) (t : ValueType) (s : Seen) (rd base : ℕ) (offset : ℤ) (a v fp n : ℕ) (T : ℕ → Bool) → add_words (read s.registers base) (word_of offset) ≡ a → (a % width t == 0) ≡ true → IsReadable s fp a (width t) v
    → (sp : ℕ) → s.registers 2 ≡ sp → LiesAbove Riscv64 sp a (width t)
    → v < 256 ^ width t → Does (rv_rows code trash) (from_to s (with_register s.registers rd (extended_by_type t v)) s.bytes s.flags) (instr.Imm (load_row t) rd base offset ∷ []) fp n T
load-keeps code trash t s rd base offset a v fp n T at even readable sp low safe lt = access-keeps code trash (instr.Imm (load_row t) rd base offset) s (with_register s.registers rd (extended_by_type t v)) s.bytes fp n T
    (λ q registers bytes.
    let g : q.registers ≡ s.registers = pointwise q.registers s.registers registers in
    record {
      above = load-above t q.registers s.registers rd base offset a sp g low at safe;
      registers = put q.registers rd (extended_by_type t v);
      bytes = q.bytes;
      effect = load-act t q rd base offset a v (ap (λ h. add_words (read h base) (word_of offset)) g ∙ at) even (readable q.bytes bytes) lt;
      registers_are = λ r. ap (λ h. put h rd (extended_by_type t v) r) g;
      bytes_are = bytes;
    })
    (λ q r bs y on. refl)

-- ---- byte by byte
-- the row that loads the highest byte does so by its type
high-rows : (t : ValueType) → high_row t ≡ load_row (high_type t)
high-rows value_type.Char = refl
high-rows t = refl

high-width : (t : ValueType) → width (high_type t) ≡ 1
high-width value_type.Char = refl
high-width t = refl

by-one : (x : ℕ) → (x % 1 == 0) ≡ true
by-one x = grind arith

module _ (code : List ℕ) (trash : ℕ) (fp n : ℕ) (most : n ≤ 5) where
  abbrev Goes : Seen → (ℕ → ℕ) → (ℕ → Option ℕ) → List Instr → (ℕ → Bool) → Type 0
  Goes s W M is T = Does (rv_rows code trash) (from_to s W M s.flags) is fp n T

  -- a byte into a register, by a type of one byte
  byte-keeps : (t : ValueType) (s : Seen) (rd base : ℕ) (offset : ℤ) (x b m : ℕ) (T : ℕ → Bool) → width t ≡ 1 → add_words (read s.registers base) (word_of offset) ≡ x → (sp : ℕ) → s.registers 2 ≡ sp → IsByte s sp fp x b
      → Does (rv_rows code trash) (from_to s (with_register s.registers rd (extended_by_type t b)) s.bytes s.flags) (instr.Imm (load_row t) rd base offset ∷ []) fp m T
  byte-keeps t s rd base offset x b m T one at sp low is = access-keeps code trash (instr.Imm (load_row t) rd base offset) s (with_register s.registers rd (extended_by_type t b)) s.bytes fp m T
      (λ q registers bytes.
      let g : q.registers ≡ s.registers = pointwise q.registers s.registers registers in
      record {
        above = load-above t q.registers s.registers rd base offset x sp g low at (subst (LiesAbove Riscv64 sp x) (sym one) (one-above sp x is.high));
        registers = put q.registers rd (extended_by_type t b);
        bytes = q.bytes;
        effect = load-act t q rd base offset x b (ap (λ h. add_words (read h base) (word_of offset)) g ∙ at) (ap (λ k. x % k == 0) one ∙ by-one x)
            (ap (loaded q.bytes x) one ∙ loaded-one q.bytes x b (bytes x is.off ∙ is.is)) (subst (λ k. b < 256 ^ k) (sym one) is.small);
        registers_are = λ r. ap (λ h. put h rd (extended_by_type t b) r) g;
        bytes_are = bytes;
      })
      (λ q r bs y on. refl)

  -- after an instruction that does just so
  after-load : (x : Instr) (s : Seen) (V W : ℕ → ℕ) (ys : List Instr) (T : ℕ → Bool) → Does (rv_rows code trash) (from_to s V s.bytes s.flags) (x ∷ []) fp 5 (λ r. false)
      → Goes (record s { registers = V }) W s.bytes ys T → Goes s W s.bytes (x ∷ ys) T
  after-load x s V W ys T first second = in-a-row (rv_rows code trash) s V W s.bytes s.bytes s.flags s.flags (x ∷ []) ys fp n T most first second

  after-computing : (x : Instr) (s : Seen) (W : ℕ → ℕ) (ys : List Instr) (T : ℕ → Bool) → all_compute (x ∷ []) ≡ true → Goes (record s { registers = computed_by x s.registers }) W s.bytes ys T → Goes s W s.bytes (x ∷ ys) T
  after-computing x s W ys T h second = after-registers code trash (x ∷ []) ys s W s.bytes fp n T most h second

  nothing-left : (s : Seen) (W : ℕ → ℕ) (T : ℕ → Bool) → ((y : ℕ) → s.registers y ≡ W y) → Goes s W s.bytes [] T
  nothing-left s W T same = told (rv_rows code trash) s s.registers W s.bytes s.bytes s.flags s.flags [] fp n T (λ y free. same y) (λ y off. refl) refl (computations-do (rv_computer code trash) (is-computer code trash) [] s fp n T refl)

  with-self : (w : ℕ → ℕ) (d x y : ℕ) → w d ≡ x → w y ≡ with_register w d x y
  with-self w d x y e = by (y == d) refl
    where
      by : (b : Bool) → (y == d) ≡ b → w y ≡ (if b then x else w y)
      by true h = let z : y ≡ d = grind (arith, h) in ap w z ∙ e
      by false h = refl

  -- the k lowest bytes, after x in register d
  lower-do : (k : ℕ) (s : Seen) (sp d u a x v : ℕ) (T : ℕ → Bool) → s.registers 2 ≡ sp → d ≢ 2 → u ≢ 2 → d ≢ 0 → d ≢ 1 → u ≢ 0 → u ≢ 1 → d ≢ u → T u ≡ true → s.registers 1 ≡ a → s.registers d ≡ x → a + k ≤ 2 ^ 64
      → ((j : ℕ) → j < k → IsByte s sp fp (a + j) (byte_of v j)) → Goes s (with_register s.registers d (joined x v k)) s.bytes (lower_bytes d u k) T
  lower-do zero s sp d u a x v T low d2 u2 d0 d1 u0 u1 du free at is end bytes = nothing-left s (with_register s.registers d x) T (λ y. with-self s.registers d x y is)
  lower-do (suc k) s sp d u a x v T low d2 u2 d0 d1 u0 u1 du free at is end bytes =
      let w = s.registers in
      let b = byte_of v k in
      let here = bytes k (omega arith) in
      let w1 : ℕ → ℕ = put w d (shifted_left (read w d) 8) in
      let w2 : ℕ → ℕ = put w1 u (extended_by_type value_type.UnsignedChar b) in
      let w3 : ℕ → ℕ = put w2 d (add_words (read w2 d) (read w2 u)) in
      let s1 : Seen = record s { registers = w1 } in
      let s2 : Seen = record s { registers = w2 } in
      let s3 : Seen = record s { registers = w3 } in
      let x' = add_words (shifted_left x 8) b in
      let value : extended_by_type value_type.UnsignedChar b ≡ b = (let lt = here.small in let z : b % 2 ^ 8 ≡ b = omega (arith, lt) in z) in
      let own : read w d ≡ x = read-some w d d0 ∙ is in
      let first : read w2 d ≡ shifted_left x 8 = read-other w1 u (extended_by_type value_type.UnsignedChar b) d du ∙ read-put w d (shifted_left (read w d) 8) d0 ∙ ap (λ z. shifted_left z 8) own in
      let second : read w2 u ≡ b = read-put w1 u (extended_by_type value_type.UnsignedChar b) u0 ∙ value in
      let sum : w3 d ≡ x' = put-same w2 d (add_words (read w2 d) (read w2 u)) ∙ (λ i. add_words (first i) (second i)) in
      let base1 : w1 1 ≡ a = put-other w d (shifted_left (read w d) 8) 1 (λ e. d1 (sym e)) ∙ at in
      let base3 : w3 1 ≡ a = put-other w2 d (add_words (read w2 d) (read w2 u)) 1 (λ e. d1 (sym e)) ∙ put-other w1 u (extended_by_type value_type.UnsignedChar b) 1 (λ e. u1 (sym e)) ∙ base1 in
      let place : add_words (read w1 1) k ≡ a + k = ap (λ z. add_words z k) (read-some w1 1 (λ e. cc) ∙ base1) ∙ omega (arith, end) in
      let low1 : w1 2 ≡ sp = put-other w d (shifted_left (read w d) 8) 2 (λ e. d2 (sym e)) ∙ low in
      let low3 : w3 2 ≡ sp = put-other w2 d (add_words (read w2 d) (read w2 u)) 2 (λ e. d2 (sym e)) ∙ put-other w1 u (extended_by_type value_type.UnsignedChar b) 2 (λ e. u2 (sym e)) ∙ low1 in
      let rest = lower-do k s3 sp d u a x' v T low3 d2 u2 d0 d1 u0 u1 du free base3 sum (omega (arith, end)) (λ j lt. let m = bytes j (omega (arith, lt)) in record { high = m.high; off = m.off; is = m.is; small = m.small }) in
      let others : (y : ℕ) → T y ≡ false → with_register w3 d (joined x' v k) y ≡ with_register w d (joined x' v k) y =
      λ y off. by y (y == d) refl off (joined x' v k) (λ e. put-other w2 d (add_words (read w2 d) (read w2 u)) y e ∙ put-other w1 u (extended_by_type value_type.UnsignedChar b) y (unlike y off) ∙ put-other w d (shifted_left (read w d) 8) y e) in
      after-computing (instr.Shift shift.Slli d d 8) s (with_register w d (joined x' v k)) (instr.Imm imm.Lbu u 1 (pos k) ∷ instr.Reg reg.Add d d u ∷ lower_bytes d u k) T refl
      (after-load (instr.Imm imm.Lbu u 1 (pos k)) s1 w2 (with_register w d (joined x' v k)) (instr.Reg reg.Add d d u ∷ lower_bytes d u k) T
      (byte-keeps value_type.UnsignedChar s1 u 1 (pos k) (a + k) b 5 (λ r. false) refl place sp low1 record { high = here.high; off = here.off; is = here.is; small = here.small })
      (after-computing (instr.Reg reg.Add d d u) s2 (with_register w d (joined x' v k)) (lower_bytes d u k) T refl
      (told (rv_rows code trash) s3 (with_register w3 d (joined x' v k)) (with_register w d (joined x' v k)) s.bytes s.bytes s.flags s.flags (lower_bytes d u k) fp n T others (λ y off. refl) refl rest)))
    where
      unlike : (y : ℕ) → T y ≡ false → y ≢ u
      unlike y off e = let z : true ≡ false = sym free ∙ ap T (sym e) ∙ off in cc

      by : {p q : ℕ} (y : ℕ) (c : Bool) → (y == d) ≡ c → T y ≡ false → (z : ℕ) → (y ≢ d → p ≡ q) → (if c then z else p) ≡ (if c then z else q)
      by y true h off z same = refl
      by y false h off z same = same (λ e. absurd (grind (arith, h, e)))

  -- all bytes of a type, from the address in the link
  bytes-do : (t : ValueType) (s : Seen) (sp d u a v : ℕ) (T : ℕ → Bool) → s.registers 2 ≡ sp → d ≢ 2 → u ≢ 2 → d ≢ 0 → d ≢ 1 → u ≢ 0 → u ≢ 1 → d ≢ u → T u ≡ true → s.registers 1 ≡ a → a + width t ≤ 2 ^ 64 → v < 256 ^ width t
      → ((j : ℕ) → j < width t → IsByte s sp fp (a + j) (byte_of v j))
      → Goes s (with_register s.registers d (extended_by_type t v)) s.bytes (instr.Imm (high_row t) d 1 (pos (width t - 1)) ∷ lower_bytes d u (width t - 1)) T
  bytes-do t s sp d u a v T low d2 u2 d0 d1 u0 u1 du free at end lt bytes =
      let w = s.registers in
      let k = width t - 1 in
      let wide = some-wide t in
      let here = bytes k (omega (arith, wide)) in
      let x = extended_by_type (high_type t) (byte_of v k) in
      let w1 : ℕ → ℕ = with_register w d x in
      let s1 : Seen = record s { registers = w1 } in
      let place : add_words (read w 1) k ≡ a + k = ap (λ z. add_words z k) (read-some w 1 (λ e. cc) ∙ at) ∙ omega (arith, end, wide) in
      let rest = lower-do k s1 sp d u a x v T (put-other w d x 2 (λ e. d2 (sym e)) ∙ low) d2 u2 d0 d1 u0 u1 du free (put-other w d x 1 (λ e. d1 (sym e)) ∙ at) (put-same w d x) (omega (arith, end, wide)) (λ j few. let m = bytes j (omega (arith, few)) in record { high = m.high; off = m.off; is = m.is; small = m.small }) in
      subst (λ row. Goes s (with_register w d (extended_by_type t v)) s.bytes (instr.Imm row d 1 (pos k) ∷ lower_bytes d u k) T) (sym (high-rows t))
      (after-load (instr.Imm (load_row (high_type t)) d 1 (pos k)) s w1 (with_register w d (extended_by_type t v)) (lower_bytes d u k) T
      (byte-keeps (high_type t) s d 1 (pos k) (a + k) (byte_of v k) 5 (λ r. false) (high-width t) place sp low here)
      (told (rv_rows code trash) s1 (with_register w1 d (joined x v k)) (with_register w d (extended_by_type t v)) s.bytes s.bytes s.flags s.flags (lower_bytes d u k) fp n T
      (λ y off. again w d x (joined x v k) y ∙ ap (λ z. with_register w d z y) (joined-typed t v lt)) (λ y off. refl) refl rest))
    where
      again : (w : ℕ → ℕ) (d x z y : ℕ) → with_register (with_register w d x) d z y ≡ with_register w d z y
      again w d x z y = by (y == d)
        where
          by : (c : Bool) → (if c then z else (if c then x else w y)) ≡ (if c then z else w y)
          by true = refl
          by false = refl

-- ---- code that goes straight on
pub high-straight : (t : ValueType) (rd base : ℕ) (offset : ℤ) → is_straight (instr.Imm (high_row t) rd base offset) ≡ true
high-straight value_type.Char rd base offset = refl
high-straight t rd base offset = refl

lower-straight : (d u k : ℕ) → list_all is_straight (lower_bytes d u k) ≡ true
lower-straight d u zero = refl
lower-straight d u (suc k) = lower-straight d u k

slow-straight : (t : ValueType) (d u base : ℕ) (offset : ℤ) → list_all is_straight (slow_load t d u base offset) ≡ true
slow-straight t d u base offset = ap (λ b. b && list_all is_straight (lower_bytes d u (width t - 1))) (high-straight t d 1 (pos (width t - 1))) ∙ lower-straight d u (width t - 1)

lower-long : (d u k : ℕ) → length (lower_bytes d u k) ≡ 3 * k
lower-long d u zero = omega arith
lower-long d u (suc k) = let h = lower-long d u k in omega (arith, h)

slow-long : (t : ValueType) (d u base : ℕ) (offset : ℤ) → 12 * width t + 4 ≡ 4 * length (slow_load t d u base offset) + 8
slow-long t d u base offset = let l = lower-long d u (width t - 1) in let w = some-wide t in omega (arith, l, w)

row-straight : (t : ValueType) (rd base : ℕ) (offset : ℤ) → is_straight (instr.Imm (load_row t) rd base offset) ≡ true
row-straight value_type.Char rd base offset = refl
row-straight t rd base offset = refl

straight-append : (xs ys : List Instr) → list_all is_straight xs ≡ true → list_all is_straight ys ≡ true → list_all is_straight (xs ++ ys) ≡ true
straight-append [] ys h k = k
straight-append (x ∷ xs) ys h k = let p = and_parts (is_straight x) (list_all is_straight xs) h in ap (λ b. b && list_all is_straight (xs ++ ys)) p.0 ∙ straight-append xs ys p.1 k

-- code that computes, and an instruction, are a block
pub row-block : (xs : List Instr) (y : Instr) → all_compute xs ≡ true → is_straight y ≡ true → IsBlock is_straight (xs ++ y ∷ [])
row-block xs y h k = straight-block (xs ++ y ∷ []) (straight-append xs (y ∷ []) (computing-straight xs h) (ap (λ b. b && true) k))

-- ---- of a node
-- the temporary of an access that is no single row: the node's register is another one
pub record IsFor (u d : ℕ) (T : ℕ → Bool) : Type 0 where
  pub stack : u ≢ 2
  pub nonzero : u ≢ 0
  pub link : u ≢ 1
  pub apart : d ≢ u
  pub free : T u ≡ true

wide-enough : (w : ℕ) (at : Address) → is_whole w at ≡ false → (w == 1) ≡ false
wide-enough w at h = by (w == 1) refl
  where
    one-whole : (at : Address) → (w == 1) ≡ true → is_whole w at ≡ true
    one-whole (Base a) e = ap (λ b. b || is_frame a) e
    one-whole (At v) e = let z : w ≡ 1 = grind (arith, e) in ap (λ n. v % n == 0) z ∙ (let y : (v % 1 == 0) ≡ true = grind arith in y)
    one-whole (Sum a b) e = e
    one-whole (Index a v) e = ap (λ b. b || (is_frame a && (v % w == 0))) e

    by : (b : Bool) → (w == 1) ≡ b → (w == 1) ≡ false
    by false e = e
    by true e = let z : true ≡ false = sym (one-whole at e) ∙ h in cc

pub no-temporary : (w : ℕ) (at : Address) → is_whole w at ≡ false → (w == 1) ≡ false
no-temporary = wide-enough

module _ (code : List ℕ) (trash : ℕ) (rows : AreRows (rv_rows code trash) IsInstr) (choices : List Choice) (u frame : ℕ) (t : ValueType) (d : Reg) (at : Address) (most : spilled choices ≤ 5)
    (temporary : (width t == 1) ≡ false → IsFor u (register_of Riscv64 d) (spoils rv_scratch choices))
    (q : Run CpuState) (a v : ℕ) (ok : IsAddress at) (f : HasFrame Riscv64 frame (rv_seen q)) (address : address_word Riscv64 q.state.registers at ≡ a) (end : a + width t ≤ 2 ^ 64)
    (readable : IsReadable (rv_seen q) (q.state.registers 8) a (width t) v) (safe : LiesAbove Riscv64 (q.state.registers 2) a (width t)) (lt : v < 256 ^ width t) where
  abbrev p : Place
  p = place_of (width t) at

  abbrev s : Seen
  s = rv_seen q

  abbrev sp : ℕ
  sp = s.registers 2

  abbrev fp : ℕ
  fp = s.registers 8

  abbrev rd : ℕ
  rd = register_of Riscv64 d

  abbrev T : ℕ → Bool
  T = spoils rv_scratch choices

  abbrev W : ℕ → ℕ
  W = with_register s.registers rd (extended_by_type t v)

  abbrev row : Instr
  row = instr.Imm (load_row t) rd p.base p.offset

  m : IsPlaced (width t) p s.registers a
  m = subst (IsPlaced (width t) p s.registers) address (placed (width t) at s.registers (load-width t) ok f.seen.words)

  bytes : (j : ℕ) → j < width t → IsByte s sp fp (a + j) (byte_of v j)
  bytes j few = readable-byte s sp fp a (width t) v j f.seen.bytes readable safe few

  spared : (y : ℕ) → T y ≡ false → rv_scratch y ≡ false
  spared y free = (or_parts (is_taken choices y) (rv_scratch y) free).1

  code-keeps-stack : computed p.code s.registers 2 ≡ sp
  code-keeps-stack = m.keeps 2 (λ e. absurd (omega (arith, e)))

  -- the row, where the address is known to be a multiple
  alone : (a % width t == 0) ≡ true → CrossesCode (rv_rows code trash) IsInstr (from_to s W s.bytes s.flags) (p.code ++ row ∷ []) fp (spilled choices) T
  alone even =
      let here : Seen = record s { registers = computed p.code s.registers } in
      straight-crosses (rv_rows code trash) IsInstr rows (from_to s W s.bytes s.flags) (p.code ++ row ∷ []) fp (spilled choices) T (row-block p.code row m.computes (row-straight t rd p.base p.offset))
      (after-registers code trash p.code (row ∷ []) s W s.bytes fp (spilled choices) T most m.computes
      (told (rv_rows code trash) here (with_register here.registers rd (extended_by_type t v)) W s.bytes s.bytes s.flags s.flags (row ∷ []) fp (spilled choices) T
      (λ y free. ap (λ r. if y == rd then extended_by_type t v else r) (m.keeps y (off-scratch y (spared y free)).1)) (λ y off. refl) refl
      (load-keeps code trash t here rd p.base p.offset a v fp (spilled choices) T m.makes even readable sp code-keeps-stack safe lt)))

  module _ (temp : IsFor u rd T) where
    abbrev w : ℕ → ℕ
    w = tested code trash rows s W s.bytes fp (spilled choices) T most (width t) u a (12 * width t + 4) p (load-width t) temp.nonzero temp.link m (slow_load t rd u p.base p.offset) row (slow-long t rd u p.base p.offset) (slow-straight t rd u p.base p.offset)

    abbrev after-test : Seen
    after-test = record s { registers = w }

    at-base : add_words (read w p.base) (word_of p.offset) ≡ a
    at-base = base-kept code trash rows s W s.bytes fp (spilled choices) T most (width t) u a (12 * width t + 4) p (load-width t) temp.nonzero temp.link m (slow_load t rd u p.base p.offset) row (slow-long t rd u p.base p.offset) (slow-straight t rd u p.base p.offset)

    test-keeps-stack : w 2 ≡ sp
    test-keeps-stack = put-other (computed p.code s.registers) (tester u p.base) (bit_and (read (computed p.code s.registers) p.base) (width t - 1)) 2 (tester-no-stack u p.base temp.stack) ∙ code-keeps-stack

    unlike : (y : ℕ) → T y ≡ false → y ≢ tester u p.base
    unlike y free e = let z : true ≡ false = sym (tester-free u p.base T temp.free (free-link choices)) ∙ ap T (sym e) ∙ free in cc
      where
        free-link : (choices : List Choice) → spoils rv_scratch choices 1 ≡ true
        free-link choices = or-true (is_taken choices 1)

    kept : (y : ℕ) → T y ≡ false → w y ≡ s.registers y
    kept y free = put-other (computed p.code s.registers) (tester u p.base) (bit_and (read (computed p.code s.registers) p.base) (width t - 1)) y (unlike y free) ∙ m.keeps y (off-scratch y (spared y free)).1

    -- the row, where it is found to be one
    fastly : (a % width t == 0) ≡ true → Does (rv_rows code trash) (from_to after-test W s.bytes s.flags) (row ∷ []) fp (spilled choices) T
    fastly even =
        told (rv_rows code trash) after-test (with_register w rd (extended_by_type t v)) W s.bytes s.bytes s.flags s.flags (row ∷ []) fp (spilled choices) T
        (λ y free. ap (λ r. if y == rd then extended_by_type t v else r) (kept y free)) (λ y off. refl) refl
        (load-keeps code trash t after-test rd p.base p.offset a v fp (spilled choices) T at-base even readable sp test-keeps-stack safe lt)

    -- the bytes, from the link
    slowly : Does (rv_rows code trash) (from_to after-test W s.bytes s.flags) (slow_load t rd u p.base p.offset) fp (spilled choices) T
    slowly =
        let w1 : ℕ → ℕ = put w 1 (add_words (read w p.base) (word_of p.offset)) in
        let linked-seen : Seen = record s { registers = w1 } in
        let rest = instr.Imm (high_row t) rd 1 (pos (width t - 1)) ∷ lower_bytes rd u (width t - 1) in
        after-registers code trash (instr.Imm imm.Addi 1 p.base p.offset ∷ []) rest after-test W s.bytes fp (spilled choices) T most refl
        (told (rv_rows code trash) linked-seen (with_register w1 rd (extended_by_type t v)) W s.bytes s.bytes s.flags s.flags rest fp (spilled choices) T
        (λ y free. ap (λ r. if y == rd then extended_by_type t v else r) (put-other w 1 (add_words (read w p.base) (word_of p.offset)) y (off-scratch y (spared y free)).1 ∙ kept y free)) (λ y off. refl) refl
        (bytes-do code trash fp (spilled choices) most t linked-seen sp rd u a v T (put-other w 1 (add_words (read w p.base) (word_of p.offset)) 2 (λ e. absurd (omega (arith, e))) ∙ test-keeps-stack) (register-no-stack d) temp.stack (register-nonzero d) (register-apart d).0 temp.nonzero temp.link temp.apart temp.free
        (put-same w 1 (add_words (read w p.base) (word_of p.offset)) ∙ at-base) end lt
        (λ j few. let b = bytes j few in record { high = b.high; off = b.off; is = b.is; small = b.small })))

    forked : CrossesCode (rv_rows code trash) IsInstr (from_to s W s.bytes s.flags) (p.code ++ fork u p.base (width t) (12 * width t + 4) (slow_load t rd u p.base p.offset) row) fp (spilled choices) T
    forked = forks code trash rows s W s.bytes fp (spilled choices) T most (width t) u a (12 * width t + 4) p (load-width t) temp.nonzero temp.link m (slow_load t rd u p.base p.offset) row (slow-long t rd u p.base p.offset) (slow-straight t rd u p.base p.offset)
        (λ odd. slowly) fastly

  by : (c : Bool) → is_whole (width t) at ≡ c
      → CrossesCode (rv_rows code trash) IsInstr (from_to s W s.bytes s.flags) (p.code ++ (if c then row ∷ [] else fork u p.base (width t) (12 * width t + 4) (slow_load t rd u p.base p.offset) row)) fp (spilled choices) T
  by true e = alone (ap (λ z. z % width t == 0) (sym address) ∙ whole-even (width t) at s.registers (load-width t) (frame-whole frame s f) e)
  by false e = forked (temporary (no-temporary (width t) at e))

  pub load-goes : CrossesCode (rv_rows code trash) IsInstr (from_to s W s.bytes s.flags) (loading t rd u at) fp (spilled choices) T
  load-goes = by (is_whole (width t) at) refl

pub load-does-so : (code : List ℕ) (trash : ℕ) → AreRows (rv_rows code trash) IsInstr → (choices : List Choice) (u frame : ℕ) (t : ValueType) (d : Reg) (at : Address) → spilled choices ≤ 5
    → ((width t == 1) ≡ false → IsFor u (register_of Riscv64 d) (spoils rv_scratch choices)) → LoadCrosses (rv_rows code trash) IsInstr rv_scratch choices frame t d at (loading t (register_of Riscv64 d) u at)
load-does-so code trash rows choices u frame t d at most temporary q a v named ok f address end readable safe lt = load-goes code trash rows choices u frame t d at most temporary q a v ok f address end readable safe lt

pub some-after : (xs : List Instr) (y : Instr) (ys : List Instr) → 0 < length (spellings spelling (xs ++ (y ∷ ys)))
some-after xs y ys = let long = spellings-long (xs ++ (y ∷ ys)) in let l = length-append xs (y ∷ ys) in omega (arith, l, long)

pub load-has-code : (t : ValueType) (d u : ℕ) (at : Address) → 0 < length (spellings spelling (loading t d u at))
load-has-code t d u at = by (is_whole (width t) at)
  where
    by : (c : Bool) → 0 < length (spellings spelling ((place_of (width t) at).code ++ (if c then instr.Imm (load_row t) d (place_of (width t) at).base (place_of (width t) at).offset ∷ [] else fork u (place_of (width t) at).base (width t) (12 * width t + 4) (slow_load t d u (place_of (width t) at).base (place_of (width t) at).offset) (instr.Imm (load_row t) d (place_of (width t) at).base (place_of (width t) at).offset))))
    by true = some-after (place_of (width t) at).code (instr.Imm (load_row t) d (place_of (width t) at).base (place_of (width t) at).offset) []
    by false = some-after (place_of (width t) at).code (instr.Imm imm.Andi (tester u (place_of (width t) at).base) (place_of (width t) at).base (pos (width t - 1))) (instr.Branch Beq (tester u (place_of (width t) at).base) 0 (pos (12 * width t + 4)) ∷ (slow_load t d u (place_of (width t) at).base (place_of (width t) at).offset ++ (instr.Branch Beq 0 0 (pos 8) ∷ instr.Imm (load_row t) d (place_of (width t) at).base (place_of (width t) at).offset ∷ [])))
