-- Loads.
use Rattle.lg_sela_values.specs.Processor.A64Touched.{touched}
use Rattle.std.proofs.Common.{◌≡◌, ℕ, ◌*◌, ◌%◌, ◌^◌, ◌<◌, Bool, true, false, List, [], ◌∷◌, Some, refl, sym, ap, ◌∙◌, arith, length, length-append, subst}
use Rattle.std.specs.Prelude.{◌==◌, ◌&&◌, not, if◌then◌else◌}
use Rattle.lg_base.specs.Spaces.{loaded}
use Rattle.lg_base.specs.Fields.{word_of}
use Rattle.lg_base.specs.Words.{add_words, signed_view}
use Rattle.lg_base.specs.declared.target.Target.TheVariants.{Aarch64}
use Rattle.lg_op.specs.declared.operand.Reg.{Reg}
use Rattle.lg_op.specs.declared.op.ValueType.{ValueType}
use Rattle.lg_op.specs.declared.op.ValueType.TheVariants as value_type
use Rattle.lg_op.specs.Operators.{width, extended_by_type}
use Rattle.lg_a64.specs.declared.instruction.Instr.TheVariants as instr
use Rattle.lg_a64.specs.declared.instruction.UnscaledOp.{UnscaledOp}
use Rattle.lg_a64.specs.declared.instruction.UnscaledOp.TheVariants.{Ldur}
use Rattle.lg_cpu.specs.HostSteps.{put}
use Rattle.lg_cpu.specs.States.{CpuState}
use Rattle.lg_cpu.specs.A64Step.{read, write, sets, loads, load_at, act, scaled_width}
use Rattle.lg_temp.specs.Abis.{register_of}
use Rattle.lg_carry.specs.Processors.{Seen, IsOff, is_below}
use Rattle.lg_carry.specs.Spills.{Does, with_register}
use Rattle.lg_sela_values.specs.Processor.A64Computers.{a64_scratch, a64_computer}
use Rattle.lg_sela_values.specs.Processor.A64Rows.{a64_rows, a64_seen}
use Rattle.lg_sela_values.proofs.OfProcessor.ComputerLemmas.{is-computer, spellings-long}
use Rattle.lg_sela_values.proofs.OfProcessor.HeldLemmas.{read-is, write-is}
use Rattle.lg_sela_values.proofs.OfProcessor.RegisterLemmas.{register-small}
use Rattle.lg_carry.specs.Nodes.Straight.{spoils, from_to}
use Rattle.lg_carry.proofs.OfValues.ComputationLemmas.{pointwise}
use Rattle.lg_carry.specs.Memory.Accesses.{Address, Base, At, Sum, Index, LiesAbove}
use Rattle.lg_carry.specs.Memory.Loads.{IsReadable, LoadDoes, LoadsDo, HasCode}
use Rattle.lg_carry.proofs.OfMemory.AfterLemmas.{told, seen_after, after-computed}
use Rattle.lg_sela.specs.Memory.Accesses.{load_row, place_of, loading, is_scaled, is_close, is_unscaled, unscaled, is_word, word_load, a64_load}
use Rattle.lg_sela.proofs.OfMemory.EndLemmas.{off-scratch, access-does, span-above}
use Rattle.lg_sela.proofs.OfMemory.PlaceLemmas.{placed, view-word}

-- a row loads by its type, wherever the address lies
load-act : (t : ValueType) (q : CpuState) (rd base count a v : ℕ) → add_words (q.registers base) (count * width t) ≡ a → loaded q.bytes a (width t) ≡ Some v → v < 256 ^ width t
    → act (instr.Scaled (load_row t) rd base count) q ≡ sets q rd (extended_by_type t v)
load-act value_type.Char q rd base count a v at e lt = rw at (ap (loads q rd 1 true) e)
load-act value_type.UnsignedChar q rd base count a v at e lt = rw at (ap (loads q rd 1 false) e ∙ ap (sets q rd) (let z : v ≡ v % 2 ^ 8 = omega (arith, lt) in z))
load-act value_type.Short q rd base count a v at e lt = rw at (ap (loads q rd 2 true) e)
load-act value_type.UnsignedShort q rd base count a v at e lt = rw at (ap (loads q rd 2 false) e ∙ ap (sets q rd) (let z : v ≡ v % 2 ^ 16 = omega (arith, lt) in z))
load-act value_type.Int q rd base count a v at e lt = rw at (ap (loads q rd 4 true) e)
load-act value_type.UnsignedInt q rd base count a v at e lt = rw at (ap (loads q rd 4 false) e ∙ ap (sets q rd) (let z : v ≡ v % 2 ^ 32 = omega (arith, lt) in z))
load-act value_type.Long q rd base count a v at e lt = rw at (ap (loads q rd 8 false) e)

-- how many bytes the row of a type loads
row-width : (t : ValueType) → scaled_width (load_row t) ≡ width t
row-width value_type.Char = refl
row-width t = refl

load-above : (t : ValueType) (w v : ℕ → ℕ) (rd base count a sp : ℕ) → w ≡ v → v 31 ≡ sp → add_words (v base) (count * width t) ≡ a → LiesAbove Aarch64 sp a (width t)
    → IsOff (is_below Aarch64 (w 31)) (touched (instr.Scaled (load_row t) rd base count) w)
load-above t w v rd base count a sp g low at safe =
    subst (λ n. IsOff (is_below Aarch64 (w 31)) record { from = add_words (w base) (count * n); width = n }) (sym (row-width t))
    (span-above w v (λ u. add_words (u base) (count * width t)) a (width t) sp g low at safe)

-- and does so in code
pub load-does : (code : List ℕ) (trash : ℕ) (t : ValueType) (s : Seen) (rd base count a v fp : ℕ) (T : ℕ → Bool) → rd < 31 → add_words (s.registers base) (count * width t) ≡ a → IsReadable s fp a (width t) v → (sp : ℕ) → s.registers 31 ≡ sp → LiesAbove Aarch64 sp a (width t) → v < 256 ^ width t
    → Does (a64_rows code trash) (from_to s (with_register s.registers rd (extended_by_type t v)) s.bytes s.flags) (instr.Scaled (load_row t) rd base count ∷ []) fp 0 T
load-does code trash t s rd base count a v fp T small at readable sp low safe lt = access-does code trash (instr.Scaled (load_row t) rd base count) s (with_register s.registers rd (extended_by_type t v)) s.bytes fp T
    (λ q registers bytes.
    let g : q.registers ≡ s.registers = pointwise q.registers s.registers registers in
    record {
      above = load-above t q.registers s.registers rd base count a sp g low at safe;
      registers = write q.registers rd (extended_by_type t v);
      bytes = q.bytes;
      effect = load-act t q rd base count a v (ap (λ h. add_words (h base) (count * width t)) g ∙ at) (readable q.bytes bytes) lt;
      registers_are = λ r. ap (λ h. h r) (write-is q.registers rd (extended_by_type t v) small) ∙ ap (λ h. put h rd (extended_by_type t v) r) g;
      bytes_are = bytes;
    })

-- the row of a word does so at an offset in bytes from a register
word-act : (q : CpuState) (rd base n a v : ℕ) → n < 2 ^ 64 → add_words (q.registers base) n ≡ a → loaded q.bytes a 8 ≡ Some v → act (instr.Unscaled Ldur rd base (signed_view n)) q ≡ sets q rd v
word-act q rd base n a v small at e = ap (λ m. load_at q rd (add_words (q.registers base) m) 8 false) (view-word n small) ∙ ap (λ b. load_at q rd b 8 false) at ∙ ap (loads q rd 8 false) e

pub word-does : (code : List ℕ) (trash : ℕ) (s : Seen) (rd base n a v fp : ℕ) (T : ℕ → Bool) → rd < 31 → n < 2 ^ 64 → add_words (s.registers base) n ≡ a → IsReadable s fp a 8 v → LiesAbove Aarch64 (s.registers 31) a 8
    → Does (a64_rows code trash) (from_to s (with_register s.registers rd v) s.bytes s.flags) (instr.Unscaled Ldur rd base (signed_view n) ∷ []) fp 0 T
word-does code trash s rd base n a v fp T small word at readable safe = access-does code trash (instr.Unscaled Ldur rd base (signed_view n)) s (with_register s.registers rd v) s.bytes fp T
    (λ q registers bytes.
    let g : q.registers ≡ s.registers = pointwise q.registers s.registers registers in
    record {
      above = span-above q.registers s.registers (λ u. add_words (u base) (word_of (signed_view n))) a 8 (s.registers 31) g refl (ap (add_words (s.registers base)) (view-word n word) ∙ at) safe;
      registers = write q.registers rd v;
      bytes = q.bytes;
      effect = word-act q rd base n a v word (ap (λ h. add_words (h base) n) g ∙ at) (readable q.bytes bytes);
      registers_are = λ r. ap (λ h. h r) (write-is q.registers rd v small) ∙ ap (λ h. put h rd v r) g;
      bytes_are = bytes;
    })

-- and from the sum of two registers
sum-act : (q : CpuState) (rd base index a v : ℕ) → index < 31 → add_words (q.registers base) (q.registers index) ≡ a → loaded q.bytes a 8 ≡ Some v → act (instr.Ldrx rd base index) q ≡ sets q rd v
sum-act q rd base index a v small at e = ap (λ m. load_at q rd (add_words (q.registers base) m) 8 false) (read-is q.registers index small) ∙ ap (λ b. load_at q rd b 8 false) at ∙ ap (loads q rd 8 false) e

sum-does : (code : List ℕ) (trash : ℕ) (s : Seen) (rd base index a v fp : ℕ) (T : ℕ → Bool) → rd < 31 → index < 31 → add_words (s.registers base) (s.registers index) ≡ a → IsReadable s fp a 8 v → LiesAbove Aarch64 (s.registers 31) a 8
    → Does (a64_rows code trash) (from_to s (with_register s.registers rd v) s.bytes s.flags) (instr.Ldrx rd base index ∷ []) fp 0 T
sum-does code trash s rd base index a v fp T small near at readable safe = access-does code trash (instr.Ldrx rd base index) s (with_register s.registers rd v) s.bytes fp T
    (λ q registers bytes.
    let g : q.registers ≡ s.registers = pointwise q.registers s.registers registers in
    record {
      above = span-above q.registers s.registers (λ u. add_words (u base) (read u index)) a 8 (s.registers 31) g refl (ap (add_words (s.registers base)) (read-is s.registers index near) ∙ at) safe;
      registers = write q.registers rd v;
      bytes = q.bytes;
      effect = sum-act q rd base index a v near (ap (λ h. add_words (h base) (h index)) g ∙ at) (readable q.bytes bytes);
      registers_are = λ r. ap (λ h. h r) (write-is q.registers rd v small) ∙ ap (λ h. put h rd v r) g;
      bytes_are = bytes;
    })

-- it is taken for words alone
pub never : false ≡ true → ⊥
never e = cc

pub no-unscaled : (bytes : ℕ) (at : Address) → (bytes == 8) ≡ false → is_unscaled bytes at ≡ false
no-unscaled bytes (Index a v) n = ap (λ c. c && (not (is_scaled bytes v) && is_close v)) n
no-unscaled bytes at n = refl

no-word : (bytes : ℕ) (at : Address) → (bytes == 8) ≡ false → is_word bytes at ≡ false
no-word bytes (Sum a b) n = n
no-word bytes (Base a) n = refl
no-word bytes (At v) n = refl
no-word bytes (Index a v) n = no-unscaled bytes (Index a v) n

word-do : (code : List ℕ) (trash frame : ℕ) (t : ValueType) (d : Reg) (at : Address) → is_word (width t) at ≡ true → LoadDoes (a64_rows code trash) a64_scratch [] frame t d at (word_load (register_of Aarch64 d) at)
word-do code trash frame value_type.Long d (Sum r x) e q a v named ok f address end readable safe lt =
    let s = a64_seen q in
    sum-does code trash s (register_of Aarch64 d) (register_of Aarch64 r) (register_of Aarch64 x) a v (s.registers 29) (spoils a64_scratch []) (let h = register-small d in omega (arith, h)) (let h = register-small x in omega (arith, h)) address readable safe
word-do code trash frame value_type.Long d (Index r n) e q a v named ok f address end readable safe lt =
    let s = a64_seen q in
    word-does code trash s (register_of Aarch64 d) (register_of Aarch64 r) n a v (s.registers 29) (spoils a64_scratch []) (let h = register-small d in omega (arith, h)) ok address readable safe
word-do code trash frame value_type.Long d (Base r) e q a v named ok f address end readable safe lt = absurd (never e)
word-do code trash frame value_type.Long d (At n) e q a v named ok f address end readable safe lt = absurd (never e)
word-do code trash frame t d at e q a v named ok f address end readable safe lt = absurd (never (sym (no-word (width t) at refl) ∙ e))

pub unscaled-some : (op : UnscaledOp) (r bytes : ℕ) (at : Address) → is_unscaled bytes at ≡ true → length (unscaled op r at) ≡ 1
unscaled-some op r bytes (Index a v) e = refl
unscaled-some op r bytes at e = absurd (never e)

word-some : (r bytes : ℕ) (at : Address) → is_word bytes at ≡ true → length (word_load r at) ≡ 1
word-some r bytes (Sum a b) e = refl
word-some r bytes (Base a) e = absurd (never e)
word-some r bytes (At v) e = absurd (never e)
word-some r bytes (Index a v) e = refl

scaled-do : (code : List ℕ) (trash frame : ℕ) (t : ValueType) (d : Reg) (at : Address) → LoadDoes (a64_rows code trash) a64_scratch [] frame t d at (loading t (register_of Aarch64 d) (place_of (width t) at))
scaled-do code trash frame t d at q a v named ok f address end readable safe lt =
    let p = place_of (width t) at in
    let s = a64_seen q in
    let fp = s.registers 29 in
    let rd = register_of Aarch64 d in
    let M = a64_computer code trash in
    let x = instr.Scaled (load_row t) rd p.base p.count in
    let m = placed (width t) s.registers q.state.flags at ok f.seen.words in
    let mid = seen_after M p.code s in
    after-computed M (is-computer code trash) p.code (x ∷ []) s (with_register s.registers rd (extended_by_type t v)) s.bytes s.flags fp 0 (spoils a64_scratch []) (omega arith) m.computes
    (told (a64_rows code trash) mid (with_register mid.registers rd (extended_by_type t v)) (with_register s.registers rd (extended_by_type t v)) s.bytes s.bytes mid.flags s.flags (x ∷ []) fp 0 (spoils a64_scratch [])
    (λ y free. ap (λ z. if y == rd then extended_by_type t v else z) (m.keeps y (off-scratch y free))) (λ y off. refl) m.flags
    (load-does code trash t mid rd p.base p.count a v fp (spoils a64_scratch []) (let h = register-small d in omega (arith, h)) (m.makes ∙ address) readable (s.registers 31) (m.keeps 31 (λ e. absurd (omega (arith, e)))) safe lt))

pub loads-do : (code : List ℕ) (trash : ℕ) → LoadsDo (a64_rows code trash) a64_scratch a64_load
loads-do code trash frame t d at = by (is_word (width t) at) refl
  where
    by : (b : Bool) → is_word (width t) at ≡ b
        → LoadDoes (a64_rows code trash) a64_scratch [] frame t d at (if b then word_load (register_of Aarch64 d) at else loading t (register_of Aarch64 d) (place_of (width t) at))
    by true e = word-do code trash frame t d at e
    by false e = scaled-do code trash frame t d at

pub has-code : (code : List ℕ) (trash : ℕ) → HasCode (a64_rows code trash) a64_load
has-code code trash frame t d at = let n = some (is_word (width t) at) refl in let long = spellings-long (a64_load frame t d at) in omega (arith, n, long)
  where
    some : (b : Bool) → is_word (width t) at ≡ b → 0 < length (if b then word_load (register_of Aarch64 d) at else loading t (register_of Aarch64 d) (place_of (width t) at))
    some true e = let n = word-some (register_of Aarch64 d) (width t) at e in omega (arith, n)
    some false e = let p = place_of (width t) at in let l = length-append p.code (instr.Scaled (load_row t) (register_of Aarch64 d) p.base p.count ∷ []) in omega (arith, l)
