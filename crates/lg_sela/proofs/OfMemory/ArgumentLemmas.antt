-- Reading an argument of the function.
use Rattle.lg_carry.specs.Memory.Accesses.{LiesAbove}
use Rattle.std.proofs.Common.{◌≡◌, ℕ, ◌+◌, ◌-◌, ◌*◌, ◌<◌, ◌≤◌, ◌^◌, Bool, true, false, List, [], ◌∷◌, refl, ap, ◌∙◌, subst, arith, length}
use Rattle.std.specs.Prelude.{◌==◌, nat_lt, pos, negsuc, if◌then◌else◌}
use Rattle.lg_base.specs.Layout.{frame_pointer, home_word, stack_argument}
use Rattle.lg_base.specs.Words.{add_words, sub_words, signed_view}
use Rattle.lg_base.specs.declared.target.Target.TheVariants.{Aarch64}
use Rattle.lg_op.specs.declared.op.ValueType.{ValueType}
use Rattle.lg_op.specs.declared.op.ValueType.TheVariants as value_type
use Rattle.lg_op.specs.Operators.{width, extended_by_type}
use Rattle.lg_a64.specs.declared.instruction.Instr.{Instr}
use Rattle.lg_a64.specs.declared.instruction.Instr.TheVariants as instr
use Rattle.lg_a64.specs.declared.instruction.ImmOp.TheVariants.{Subi}
use Rattle.lg_a64.specs.declared.instruction.UnscaledOp.TheVariants.{Ldur}
use Rattle.lg_temp.specs.Abis.{register_of}
use Rattle.lg_carry.specs.Processors.{Seen}
use Rattle.lg_carry.specs.Spills.{Does, with_register}
use Rattle.lg_sela_values.specs.Processor.A64Computers.{a64_scratch, a64_computer}
use Rattle.lg_sela_values.specs.Processor.A64Rows.{link, nzcv, a64_rows, a64_seen}
use Rattle.lg_sela_values.specs.Processor.Computations.{known}
use Rattle.lg_sela_values.proofs.OfProcessor.ComputerLemmas.{is-computer, spellings-long}
use Rattle.lg_sela_values.proofs.OfProcessor.HeldLemmas.{put-same, put-other}
use Rattle.lg_sela_values.proofs.OfProcessor.RegisterLemmas.{register-small}
use Rattle.lg_carry.specs.Nodes.Straight.{spoils, from_to}
use Rattle.lg_carry.specs.Memory.Arguments.{ArgumentsDo, HasArgumentCode}
use Rattle.lg_carry.specs.Memory.Loads.{IsReadable}
use Rattle.lg_carry.proofs.OfMemory.AfterLemmas.{told, seen_after, after-computed}
use Rattle.lg_sela.specs.Memory.Accesses.{load_row}
use Rattle.lg_sela.specs.Memory.ArgumentCode.{home_distance, stack_count, home_load, a64_argument}
use Rattle.lg_sela.proofs.OfMemory.EndLemmas.{off-scratch}
use Rattle.lg_sela.proofs.OfMemory.LoadLemmas.{load-does, word-does}
use Rattle.lg_sela.proofs.OfMemory.PlaceLemmas.{none-after}

-- ---- the argument's place, from FP
home-leads : (sp k : ℕ) → k < 8 → 272 ≤ sp → sp ≤ 0x40000000 → sub_words (frame_pointer sp) (home_distance k) ≡ home_word (frame_pointer sp) k
home-leads sp k few low high = omega (arith, few, low, high)

home-small : (sp k : ℕ) → sp ≤ 0x40000000 → home_word (frame_pointer sp) k < 2 ^ 64
home-small sp k high = omega (arith, high)

home-added : (x k : ℕ) → x < 2 ^ 64 → k < 8 → add_words x (2 ^ 64 - home_distance k) ≡ sub_words x (home_distance k)
home-added x k h few = omega (arith, h, few)

home-view : (k : ℕ) → k < 8 → signed_view (2 ^ 64 - home_distance k) ≡ negsuc (home_distance k - 1)
home-view k few = by (nat_lt (2 ^ 64 - home_distance k) (2 ^ 63)) refl
  where
    by : (b : Bool) → nat_lt (2 ^ 64 - home_distance k) (2 ^ 63) ≡ b → (if b then pos (2 ^ 64 - home_distance k) else negsuc (2 ^ 64 - 1 - (2 ^ 64 - home_distance k))) ≡ negsuc (home_distance k - 1)
    by true e = absurd (grind (arith, e, few))
    by false e = ap negsuc (let z : 2 ^ 64 - 1 - (2 ^ 64 - home_distance k) ≡ home_distance k - 1 = omega (arith, few) in z)

stack-whole : (t : ValueType) (k : ℕ) → stack_count t k * width t ≡ 16 + 8 * (k - 8)
stack-whole value_type.Char k = omega arith
stack-whole t k = omega arith

stack-leads : (sp k : ℕ) → k < 16 → 272 ≤ sp → sp ≤ 0x40000000 → add_words (frame_pointer sp) (16 + 8 * (k - 8)) ≡ stack_argument sp (k - 8)
stack-leads sp k few low high = omega (arith, few, low, high)

-- ---- the two codes
module _ (code : List ℕ) (trash : ℕ) (t : ValueType) (s : Seen) (rd a v fp : ℕ) (small : rd < 31) (readable : IsReadable s fp a (width t) v) (safe : LiesAbove Aarch64 (s.registers 31) a (width t)) (lt : v < 256 ^ width t) where
  abbrev Loads : List Instr → Type 0
  Loads is = Does (a64_rows code trash) (from_to s (with_register s.registers rd (extended_by_type t v)) s.bytes s.flags) is fp 0 (spoils a64_scratch [])

  from-home : (k : ℕ) → known s.flags ≡ s.flags → sub_words (s.registers 29) (home_distance k) ≡ a → a < 2 ^ 64 → Loads (instr.Imm Subi link 29 (home_distance k) false ∷ instr.Scaled (load_row t) rd link 0 ∷ [])
  from-home k same at low =
      let M = a64_computer code trash in
      let y = instr.Imm Subi link 29 (home_distance k) false in
      let x = instr.Scaled (load_row t) rd link 0 in
      let h = sub_words (s.registers 29) (home_distance k) in
      let mid = seen_after M (y ∷ []) s in
      after-computed M (is-computer code trash) (y ∷ []) (x ∷ []) s (with_register s.registers rd (extended_by_type t v)) s.bytes s.flags fp 0 (spoils a64_scratch []) (omega arith) refl
      (told (a64_rows code trash) mid (with_register mid.registers rd (extended_by_type t v)) (with_register s.registers rd (extended_by_type t v)) s.bytes s.bytes mid.flags s.flags (x ∷ []) fp 0 (spoils a64_scratch [])
      (λ r free. ap (λ z. if r == rd then extended_by_type t v else z) (put-other s.registers link h r (off-scratch r free))) (λ r off. refl) same
      (load-does code trash t mid rd link 0 a v fp (spoils a64_scratch []) small (ap (λ z. add_words z (0 * width t)) (put-same s.registers link h ∙ at) ∙ none-after (width t) a low) readable (s.registers 31) (put-other s.registers link h 31 (λ e. absurd (omega (arith, e)))) safe lt))

  from-stack : (k : ℕ) → add_words (s.registers 29) (16 + 8 * (k - 8)) ≡ a → Loads (instr.Scaled (load_row t) rd 29 (stack_count t k) ∷ [])
  from-stack k at = load-does code trash t s rd 29 (stack_count t k) a v fp (spoils a64_scratch []) small (ap (add_words (s.registers 29)) (stack-whole t k) ∙ at) readable (s.registers 31) refl safe lt

-- from its home: a word by its row, others by way of the link
home-does : (code : List ℕ) (trash : ℕ) (t : ValueType) (s : Seen) (rd a v fp : ℕ) → rd < 31 → IsReadable s fp a (width t) v → LiesAbove Aarch64 (s.registers 31) a (width t) → v < 256 ^ width t → (k : ℕ) → k < 8 → known s.flags ≡ s.flags → s.registers 29 < 2 ^ 64
    → sub_words (s.registers 29) (home_distance k) ≡ a → a < 2 ^ 64
    → Does (a64_rows code trash) (from_to s (with_register s.registers rd (extended_by_type t v)) s.bytes s.flags) (home_load t rd k) fp 0 (spoils a64_scratch [])
home-does code trash value_type.Long s rd a v fp small readable safe lt k few same word at low =
    subst (λ x. Does (a64_rows code trash) (from_to s (with_register s.registers rd v) s.bytes s.flags) (instr.Unscaled Ldur rd 29 x ∷ []) fp 0 (spoils a64_scratch [])) (home-view k few)
    (word-does code trash s rd 29 (2 ^ 64 - home_distance k) a v fp (spoils a64_scratch []) small (omega arith) (home-added (s.registers 29) k word few ∙ at) readable safe)
home-does code trash t s rd a v fp small readable safe lt k few same word at low = from-home code trash t s rd a v fp small readable safe lt k same at low

pub arguments-do : (code : List ℕ) (trash : ℕ) → ArgumentsDo (a64_rows code trash) a64_scratch a64_argument
arguments-do code trash frame t d k q a v named few f place even readable safe lt = by (nat_lt k 8) refl place
  where
    by : (b : Bool) → nat_lt k 8 ≡ b → (if b then home_word (frame_pointer (q.state.registers 31 + frame)) k else stack_argument (q.state.registers 31 + frame) (k - 8)) ≡ a
        → Does (a64_rows code trash) (from_to (a64_seen q) (with_register q.state.registers (register_of Aarch64 d) (extended_by_type t v)) q.state.bytes (nzcv q.state.flags))
        (if b then home_load t (register_of Aarch64 d) k else instr.Scaled (load_row t) (register_of Aarch64 d) 29 (stack_count t k) ∷ [])
        (q.state.registers 29) 0 (spoils a64_scratch [])
    by true e at =
        let sp = q.state.registers 31 + frame in
        let near : k < 8 = grind (arith, e) in
        let low : 272 ≤ sp = (let l = f.large in omega (arith, l)) in
        let high : sp ≤ 0x40000000 = (let h = f.high in omega (arith, h)) in
        let small : register_of Aarch64 d < 31 = (let h = register-small d in omega (arith, h)) in
        home-does code trash t (a64_seen q) (register_of Aarch64 d) a v (q.state.registers 29) small readable safe lt k near refl (f.seen.words 29) (ap (λ p. sub_words p (home_distance k)) f.pointer ∙ home-leads sp k near low high ∙ at)
        (let h = home-small sp k high in subst (λ z. z < 2 ^ 64) at h)
    by false e at =
        let sp = q.state.registers 31 + frame in
        let low : 272 ≤ sp = (let l = f.large in omega (arith, l)) in
        let high : sp ≤ 0x40000000 = (let h = f.high in omega (arith, h)) in
        let small : register_of Aarch64 d < 31 = (let h = register-small d in omega (arith, h)) in
        from-stack code trash t (a64_seen q) (register_of Aarch64 d) a v (q.state.registers 29) small readable safe lt k (ap (λ p. add_words p (16 + 8 * (k - 8))) f.pointer ∙ stack-leads sp k few low high ∙ at)

home-some : (t : ValueType) (rd k : ℕ) → 0 < length (home_load t rd k)
home-some value_type.Long rd k = omega arith
home-some t rd k = omega arith

pub has-argument-code : (code : List ℕ) (trash : ℕ) → HasArgumentCode (a64_rows code trash) a64_argument
has-argument-code code trash frame t d k few = let long = spellings-long (a64_argument frame t d k) in let n = some (nat_lt k 8) in omega (arith, long, n)
  where
    some : (b : Bool) → 0 < length (if b then home_load t (register_of Aarch64 d) k else instr.Scaled (load_row t) (register_of Aarch64 d) 29 (stack_count t k) ∷ [])
    some true = home-some t (register_of Aarch64 d) k
    some false = omega arith
