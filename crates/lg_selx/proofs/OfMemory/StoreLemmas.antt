-- Stores.
use Rattle.std.proofs.Common.{◌≡◌, ◌≢◌, ℕ, ◌+◌, ◌-◌, ◌<◌, ◌≤◌, ⊎_elim, inl, inr, Bool, true, false, Option, Some, None, refl, sym, ap, ◌∙◌, arith, subst, List, [], ◌∷◌, length}
use Rattle.std.specs.Prelude.{ℤ, pos, ◌||◌}
use Rattle.std.specs.Option.{option_and_then}
use Rattle.std.proofs.lemmas.Bool.{cases_lt}
use Rattle.lg_base.specs.Fields.{word_of}
use Rattle.lg_base.specs.Spaces.{mapped, stored}
use Rattle.lg_base.specs.Words.{add_words}
use Rattle.lg_base.specs.declared.target.Target.TheVariants.{X86_64}
use Rattle.lg_base.proofs.SpaceLemmas.{stored-out}
use Rattle.lg_op.specs.declared.op.Addressing.{Addressing}
use Rattle.lg_op.specs.declared.op.Addressing.TheVariants as addressing
use Rattle.lg_op.specs.declared.op.StoreType.{StoreType}
use Rattle.lg_op.specs.declared.op.StoreType.TheVariants as store_type
use Rattle.lg_op.specs.declared.operand.Operand.{Operand}
use Rattle.lg_op.specs.declared.operand.Reg.{Reg}
use Rattle.lg_op.specs.Operators.{store_width}
use Rattle.lg_x86.specs.Spelling.{spelling}
use Rattle.lg_x86.specs.declared.instruction.Instr.TheVariants as instr
use Rattle.lg_cpu.specs.HostSteps.{put}
use Rattle.lg_cpu.specs.X86Step as x86
use Rattle.lg_cpu.specs.X86Step.{Scene, made}
use Rattle.lg_temp.specs.Abis.{register_of}
use Rattle.lg_temp.specs.declared.choice.Choice.{Choice}
use Rattle.lg_carry.specs.Blocks.{spellings}
use Rattle.lg_carry.specs.Spills.{in_slots, in_first_slots, spilled}
use Rattle.lg_selx_values.specs.Processor.MakingNodes.{scene}
use Rattle.lg_selx_values.specs.Processor.Makings.{makes}
use Rattle.lg_selx_values.specs.Processor.X86Computers.{x86_scratch}
use Rattle.lg_selx_values.specs.Processor.X86Rows.{x86_rows, x86_seen}
use Rattle.lg_selx_values.proofs.OfProcessor.MakingLemmas.{makes-append, makings-still, still-above, above-append}
use Rattle.lg_carry.specs.Nodes.Straight.{spoils}
use Rattle.lg_carry.proofs.OfNodes.ByteLemmas.{stored-same}
use Rattle.lg_carry.specs.Memory.Accesses.{Address, Base, address_of}
use Rattle.lg_carry.specs.Memory.Operands.{named}
use Rattle.lg_carry.specs.Memory.Stores.{IsOffSlots, StoreDoes}
use Rattle.lg_carry.proofs.OfMemory.AfterLemmas.{more-slots}
use Rattle.lg_selx_values.proofs.RegisterLemmas.{put-other}
use Rattle.lg_selx.specs.Memory.Accesses.{store_row, place_of, store_from}
use Rattle.lg_selx.proofs.OfMemory.EndLemmas.{makes-leads, access-above, some-spelled}
use Rattle.lg_selx.proofs.OfMemory.PlaceLemmas.{none-after, placed}
use Rattle.lg_selx.proofs.OfMemory.TemporaryLemmas.{IsSpare, is_computed}

-- a row stores by its type, wherever the address lies
pub store-made : (t : StoreType) (s : Scene) (base : ℕ) (disp : ℤ) (from a v : ℕ) → add_words (s.registers base) (word_of disp) ≡ a
    → mapped s.bytes a (store_width t) ≡ true → s.registers from ≡ v
    → made (instr.Store (store_row t) base disp from) s ≡ Some (scene s.registers s.flags (stored s.bytes a (store_width t) v))
store-made store_type.Char s base disp from a v at there holds = rw (at, there, holds) refl
store-made t s base disp from a v at there holds = rw (at, there, holds) refl

pub store-wide : (t : StoreType) → x86.store_width (store_row t) ≡ store_width t
store-wide store_type.Char = refl
store-wide t = refl

-- ---- the slots
-- a store off the slots keeps them
slots-kept : (m : ℕ → Option ℕ) (fp n a w v y : ℕ) → n ≤ 5 → IsOffSlots fp a w → in_first_slots fp n y ≡ true → stored m a w v y ≡ m y
slots-kept m fp n a w v y most off on = ⊎_elim
    (λ lt. stored-out m a w v y (inl lt))
    (λ le. ⊎_elim
    (λ lt. let z : a + (y - a) ≡ y = omega (arith, le) in
    let out : in_slots fp y ≡ false = subst (λ x. in_slots fp x ≡ false) z (off (y - a) (omega (arith, le, lt))) in
    absurd (clash (more-slots fp n y most on) out))
    (λ ge. stored-out m a w v y (inr ge)) (cases_lt y (a + w)))
    (cases_lt y a)
  where
    clash : {b : Bool} → b ≡ true → b ≡ false → ⊥
    clash e h = cc

-- ---- the code
module _ (code : List ℕ) (trash : ℕ) (choices : List Choice) (u frame : ℕ) (t : StoreType) (b : Reg) (most : spilled choices ≤ 5) where
  abbrev rb : ℕ
  rb = register_of X86_64 b

  abbrev StoresAt : Address → Type 0
  StoresAt at = StoreDoes (x86_rows code trash) x86_scratch choices frame t at b (store_from t rb u at)

  -- at a register
  at-register : (r : Reg) → StoresAt (Base r)
  at-register r q a ok f address end writable safe off =
      let s = x86_seen q in
      let w = q.state.registers in
      let wide : ℕ = store_width t in
      let rr : ℕ = register_of X86_64 r in
      makes-leads code trash (store_from t rb u (Base r)) s w (stored s.bytes a wide (w rb)) s.flags (w 5) (spilled choices) (spoils x86_scratch choices)
      (λ bytes same. record {
        registers = w;
        end = stored bytes a wide (w rb);
        above =
            (access-above w rr (pos 0) a wide (w 4) (x86.store_width (store_row t)) refl (none-after (w rr) (f.seen.words rr) ∙ address) (store-wide t) safe, λ z e. tt);
        makes_it = ap (option_and_then (makes []))
            (store-made t (scene w s.flags bytes) rr (pos 0) rb a (w rb) (none-after (w rr) (f.seen.words rr) ∙ address) (writable bytes same) refl);
        registers_are = λ x free. refl;
        bytes_are = λ y out. stored-same s.bytes bytes a wide (w rb) y (same y out);
        slots_are = λ y on. slots-kept bytes (w 5) (spilled choices) a wide (w rb) y most off on;
      })

  -- where the address is computed
  by-temporary : (at : Address) → IsSpare u at rb choices → StoresAt at
  by-temporary at k q a ok f address end writable safe off =
      let s = x86_seen q in
      let w = q.state.registers in
      let wide : ℕ = store_width t in
      let p = place_of u at in
      let h = placed u w at k.few ok f.seen.words k.free in
      let x = instr.Store (store_row t) p.base p.disp rb in
      let W : ℕ → ℕ = put w u h.word in
      makes-leads code trash (store_from t rb u at) s w (stored s.bytes a wide (w rb)) s.flags (w 5) (spilled choices) (spoils x86_scratch choices)
      (λ bytes same. record {
        registers = W;
        end = stored bytes a wide (w rb);
        above = above-append p.code (x ∷ []) (scene w s.flags bytes) (scene W s.flags bytes) (h.makes_it s.flags bytes)
            (still-above p.code (scene w s.flags bytes) (makings-still p.code w s.flags (scene W s.flags (λ y. None)) (h.makes_it s.flags (λ y. None))))
            (access-above W p.base p.disp a wide (w 4) (x86.store_width (store_row t)) (put-other w u h.word 4 k.stack) (h.address ∙ address) (store-wide t) safe, λ z e. tt);
        makes_it = makes-append p.code (x ∷ []) (scene w s.flags bytes) (scene W s.flags bytes)
            (scene W s.flags (stored bytes a wide (w rb))) (h.makes_it s.flags bytes)
            (ap (option_and_then (makes []))
            (store-made t (scene W s.flags bytes) p.base p.disp rb a (w rb) (h.address ∙ address) (writable bytes same) (put-other w u h.word rb k.apart_from)));
        registers_are = λ y free. put-other w u h.word y (unlike y free);
        bytes_are = λ y out. stored-same s.bytes bytes a wide (w rb) y (same y out);
        slots_are = λ y on. slots-kept bytes (w 5) (spilled choices) a wide (w rb) y most off on;
      })
    where
      unlike : (y : ℕ) → spoils x86_scratch choices y ≡ false → y ≢ u
      unlike y free e =
          let z : spoils x86_scratch choices y ≡ true = ap (spoils x86_scratch choices) e ∙ ap (λ c. c || false) k.taken in
          let g : true ≡ false = sym z ∙ free in cc

  pub store-does-so : (m : Addressing) (x y : Operand) → (is_computed m ≡ true → IsSpare u (address_of m x y) rb choices) → StoresAt (address_of m x y)
  store-does-so addressing.Register x y k = at-register (named x)
  store-does-so addressing.Immediate x y k = by-temporary (address_of addressing.Immediate x y) (k refl)
  store-does-so addressing.RegisterRegister x y k = by-temporary (address_of addressing.RegisterRegister x y) (k refl)
  store-does-so addressing.RegisterImmediate x y k = by-temporary (address_of addressing.RegisterImmediate x y) (k refl)

pub store-has-code : (t : StoreType) (from u : ℕ) (at : Address) → 0 < length (spellings spelling (store_from t from u at))
store-has-code t from u at = let p = place_of u at in some-spelled p.code (instr.Store (store_row t) p.base p.disp from) []
