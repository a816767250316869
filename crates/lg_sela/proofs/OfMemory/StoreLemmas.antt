-- Stores.
use Rattle.lg_base.specs.Fields.{word_of}
use Rattle.lg_sela_values.specs.Processor.A64Touched.{touched}
use Rattle.std.proofs.Common.{◌≡◌, ℕ, ◌*◌, ◌^◌, ◌<◌, Bool, true, false, List, [], ◌∷◌, refl, sym, ap, ◌∙◌, arith, length, length-append, subst}
use Rattle.std.specs.Prelude.{if◌then◌else◌}
use Rattle.lg_base.specs.Spaces.{mapped, stored}
use Rattle.lg_base.specs.Words.{add_words, signed_view}
use Rattle.lg_base.specs.declared.target.Target.TheVariants.{Aarch64}
use Rattle.lg_op.specs.declared.operand.Reg.{Reg}
use Rattle.lg_op.specs.declared.op.StoreType.{StoreType}
use Rattle.lg_op.specs.declared.op.StoreType.TheVariants as store_type
use Rattle.lg_op.specs.Operators.{store_width}
use Rattle.lg_a64.specs.declared.instruction.Instr.TheVariants as instr
use Rattle.lg_a64.specs.declared.instruction.UnscaledOp.TheVariants.{Stur}
use Rattle.lg_cpu.specs.States.{CpuState, arrives}
use Rattle.lg_cpu.specs.A64Step as step
use Rattle.lg_cpu.specs.A64Step.{read, act, scaled_width}
use Rattle.lg_temp.specs.Abis.{register_of}
use Rattle.lg_carry.specs.Processors.{Seen, IsOff, is_below}
use Rattle.lg_carry.specs.Spills.{Does}
use Rattle.lg_sela_values.specs.Processor.A64Computers.{a64_scratch, a64_computer}
use Rattle.lg_sela_values.specs.Processor.A64Rows.{a64_rows, a64_seen}
use Rattle.lg_sela_values.proofs.OfProcessor.ComputerLemmas.{is-computer, spellings-long}
use Rattle.lg_sela_values.proofs.OfProcessor.HeldLemmas.{read-is}
use Rattle.lg_sela_values.proofs.OfProcessor.RegisterLemmas.{register-small, register-off-link}
use Rattle.lg_carry.specs.Nodes.Straight.{spoils, from_to}
use Rattle.lg_carry.proofs.OfNodes.ByteLemmas.{stored-same}
use Rattle.lg_carry.proofs.OfValues.ComputationLemmas.{pointwise}
use Rattle.lg_carry.specs.Memory.Accesses.{Address, Base, At, Sum, Index, LiesAbove}
use Rattle.lg_carry.specs.Memory.Stores.{IsWritable, StoreDoes, StoresDo, HasStoreCode}
use Rattle.lg_carry.proofs.OfMemory.AfterLemmas.{told, seen_after, after-computed}
use Rattle.lg_sela.specs.Memory.Accesses.{store_row, place_of, storing, is_unscaled, unscaled, a64_store}
use Rattle.lg_sela.proofs.OfMemory.EndLemmas.{off-scratch, access-does, span-above}
use Rattle.lg_sela.proofs.OfMemory.LoadLemmas.{never, no-unscaled, unscaled-some}
use Rattle.lg_sela.proofs.OfMemory.PlaceLemmas.{placed, view-word}

-- a row stores by its type, wherever the address lies
store-act : (t : StoreType) (q : CpuState) (base from count a : ℕ) → add_words (q.registers base) (count * store_width t) ≡ a → mapped q.bytes a (store_width t) ≡ true
    → act (instr.Scaled (store_row t) from base count) q ≡ arrives (add_words q.pc 4) q.registers q.flags (stored q.bytes a (store_width t) (read q.registers from)) q.mark
store-act store_type.Char q base from count a at there = rw (at, there) refl
store-act t q base from count a at there = rw (at, there) refl

-- how many bytes it stores
row-width : (t : StoreType) → scaled_width (store_row t) ≡ store_width t
row-width store_type.Char = refl
row-width t = refl

store-above : (t : StoreType) (w v : ℕ → ℕ) (from base count a sp : ℕ) → w ≡ v → v 31 ≡ sp → add_words (v base) (count * store_width t) ≡ a → LiesAbove Aarch64 sp a (store_width t)
    → IsOff (is_below Aarch64 (w 31)) (touched (instr.Scaled (store_row t) from base count) w)
store-above t w v from base count a sp g low at safe =
    subst (λ n. IsOff (is_below Aarch64 (w 31)) record { from = add_words (w base) (count * n); width = n }) (sym (row-width t))
    (span-above w v (λ u. add_words (u base) (count * store_width t)) a (store_width t) sp g low at safe)

-- and does so in code
pub store-does : (code : List ℕ) (trash : ℕ) (t : StoreType) (s : Seen) (base from count a v fp : ℕ) (T : ℕ → Bool) → from < 31 → add_words (s.registers base) (count * store_width t) ≡ a → s.registers from ≡ v → IsWritable s fp a (store_width t)
    → (sp : ℕ) → s.registers 31 ≡ sp → LiesAbove Aarch64 sp a (store_width t)
    → Does (a64_rows code trash) (from_to s s.registers (stored s.bytes a (store_width t) v) s.flags) (instr.Scaled (store_row t) from base count ∷ []) fp 0 T
store-does code trash t s base from count a v fp T small at holds writable sp low safe = access-does code trash (instr.Scaled (store_row t) from base count) s s.registers (stored s.bytes a (store_width t) v) fp T
    (λ q registers bytes.
    let g : q.registers ≡ s.registers = pointwise q.registers s.registers registers in
    let value : read q.registers from ≡ v = read-is q.registers from small ∙ registers from ∙ holds in
    record {
      above = store-above t q.registers s.registers from base count a sp g low at safe;
      registers = q.registers;
      bytes = stored q.bytes a (store_width t) v;
      effect = store-act t q base from count a (ap (λ h. add_words (h base) (count * store_width t)) g ∙ at) (writable q.bytes bytes)
          ∙ ap (λ z. arrives (add_words q.pc 4) q.registers q.flags (stored q.bytes a (store_width t) z) q.mark) value;
      registers_are = registers;
      bytes_are = λ y off. stored-same s.bytes q.bytes a (store_width t) v y (bytes y off);
    })

-- the row of a word does so at an offset in bytes from a register
word-act : (q : CpuState) (base from n a : ℕ) → n < 2 ^ 64 → add_words (q.registers base) n ≡ a → mapped q.bytes a 8 ≡ true
    → act (instr.Unscaled Stur from base (signed_view n)) q ≡ arrives (add_words q.pc 4) q.registers q.flags (stored q.bytes a 8 (read q.registers from)) q.mark
word-act q base from n a small at there =
    ap (λ m. step.store_at q (add_words (q.registers base) m) 8 (read q.registers from)) (view-word n small) ∙ rw (at, there) refl

word-does : (code : List ℕ) (trash : ℕ) (s : Seen) (base from n a v fp : ℕ) (T : ℕ → Bool) → from < 31 → n < 2 ^ 64 → add_words (s.registers base) n ≡ a → s.registers from ≡ v → IsWritable s fp a 8 → LiesAbove Aarch64 (s.registers 31) a 8
    → Does (a64_rows code trash) (from_to s s.registers (stored s.bytes a 8 v) s.flags) (instr.Unscaled Stur from base (signed_view n) ∷ []) fp 0 T
word-does code trash s base from n a v fp T small word at holds writable safe = access-does code trash (instr.Unscaled Stur from base (signed_view n)) s s.registers (stored s.bytes a 8 v) fp T
    (λ q registers bytes.
    let g : q.registers ≡ s.registers = pointwise q.registers s.registers registers in
    let value : read q.registers from ≡ v = read-is q.registers from small ∙ registers from ∙ holds in
    record {
      above = span-above q.registers s.registers (λ u. add_words (u base) (word_of (signed_view n))) a 8 (s.registers 31) g refl (ap (add_words (s.registers base)) (view-word n word) ∙ at) safe;
      registers = q.registers;
      bytes = stored q.bytes a 8 v;
      effect = word-act q base from n a word (ap (λ h. add_words (h base) n) g ∙ at) (writable q.bytes bytes)
          ∙ ap (λ z. arrives (add_words q.pc 4) q.registers q.flags (stored q.bytes a 8 z) q.mark) value;
      registers_are = registers;
      bytes_are = λ y off. stored-same s.bytes q.bytes a 8 v y (bytes y off);
    })

unscaled-do : (code : List ℕ) (trash frame : ℕ) (t : StoreType) (at : Address) (b : Reg) → is_unscaled (store_width t) at ≡ true
    → StoreDoes (a64_rows code trash) a64_scratch [] frame t at b (unscaled Stur (register_of Aarch64 b) at)
unscaled-do code trash frame store_type.Long (Index r n) b e q a ok f address end writable safe off =
    let s = a64_seen q in
    let rb = register_of Aarch64 b in
    word-does code trash s (register_of Aarch64 r) rb n a (s.registers rb) (s.registers 29) (spoils a64_scratch []) (let h = register-small b in omega (arith, h)) ok address refl writable safe
unscaled-do code trash frame store_type.Long (Base r) b e q a ok f address end writable safe off = absurd (never e)
unscaled-do code trash frame store_type.Long (At n) b e q a ok f address end writable safe off = absurd (never e)
unscaled-do code trash frame store_type.Long (Sum r x) b e q a ok f address end writable safe off = absurd (never e)
unscaled-do code trash frame t at b e q a ok f address end writable safe off = absurd (never (sym (no-unscaled (store_width t) at refl) ∙ e))

scaled-do : (code : List ℕ) (trash frame : ℕ) (t : StoreType) (at : Address) (b : Reg)
    → StoreDoes (a64_rows code trash) a64_scratch [] frame t at b (storing t (register_of Aarch64 b) (place_of (store_width t) at))
scaled-do code trash frame t at b q a ok f address end writable safe off =
    let p = place_of (store_width t) at in
    let s = a64_seen q in
    let fp = s.registers 29 in
    let rb = register_of Aarch64 b in
    let M = a64_computer code trash in
    let x = instr.Scaled (store_row t) rb p.base p.count in
    let m = placed (store_width t) s.registers q.state.flags at ok f.seen.words in
    let mid = seen_after M p.code s in
    let B = stored s.bytes a (store_width t) (s.registers rb) in
    after-computed M (is-computer code trash) p.code (x ∷ []) s s.registers B s.flags fp 0 (spoils a64_scratch []) (omega arith) m.computes
    (told (a64_rows code trash) mid mid.registers s.registers B B mid.flags s.flags (x ∷ []) fp 0 (spoils a64_scratch [])
    (λ y free. m.keeps y (off-scratch y free)) (λ y off. refl) m.flags
    (store-does code trash t mid p.base rb p.count a (s.registers rb) fp (spoils a64_scratch []) (let h = register-small b in omega (arith, h)) (m.makes ∙ address) (m.keeps rb (register-off-link b)) writable (s.registers 31) (m.keeps 31 (λ e. absurd (omega (arith, e)))) safe))

pub stores-do : (code : List ℕ) (trash : ℕ) → StoresDo (a64_rows code trash) a64_scratch a64_store
stores-do code trash frame t at b = by (is_unscaled (store_width t) at) refl
  where
    by : (c : Bool) → is_unscaled (store_width t) at ≡ c
        → StoreDoes (a64_rows code trash) a64_scratch [] frame t at b (if c then unscaled Stur (register_of Aarch64 b) at else storing t (register_of Aarch64 b) (place_of (store_width t) at))
    by true e = unscaled-do code trash frame t at b e
    by false e = scaled-do code trash frame t at b

pub has-store-code : (code : List ℕ) (trash : ℕ) → HasStoreCode (a64_rows code trash) a64_store
has-store-code code trash frame t at b = let n = some (is_unscaled (store_width t) at) refl in let long = spellings-long (a64_store frame t at b) in omega (arith, n, long)
  where
    some : (c : Bool) → is_unscaled (store_width t) at ≡ c → 0 < length (if c then unscaled Stur (register_of Aarch64 b) at else storing t (register_of Aarch64 b) (place_of (store_width t) at))
    some true e = let n = unscaled-some Stur (register_of Aarch64 b) (store_width t) at e in omega (arith, n)
    some false e = let p = place_of (store_width t) at in let l = length-append p.code (instr.Scaled (store_row t) (register_of Aarch64 b) p.base p.count ∷ []) in omega (arith, l)
