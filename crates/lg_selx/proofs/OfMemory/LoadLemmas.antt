-- Loads.
use Rattle.std.proofs.Common.{◌≡◌, ◌≢◌, ℕ, ◌%◌, ◌^◌, ◌<◌, ◌⊎◌, inl, inr, Some, None, refl, sym, ap, ◌∙◌, arith, List, [], ◌∷◌}
use Rattle.std.specs.Prelude.{ℤ}
use Rattle.std.specs.Option.{option_and_then}
use Rattle.lg_base.specs.Fields.{word_of}
use Rattle.lg_base.specs.Spaces.{loaded}
use Rattle.lg_base.specs.Words.{add_words}
use Rattle.lg_base.specs.declared.target.Target.TheVariants.{X86_64}
use Rattle.lg_op.specs.declared.op.ValueType.{ValueType}
use Rattle.lg_op.specs.declared.op.ValueType.TheVariants as value_type
use Rattle.lg_op.specs.Operators.{width, extended_by_type}
use Rattle.lg_x86.specs.declared.instruction.Instr.TheVariants as instr
use Rattle.lg_x86.specs.declared.instruction.LoadOp.TheVariants.{Ld64, Ld32u, Ld32s, Ld8u, Ld16u, Ld8s, Ld16s}
use Rattle.lg_cpu.specs.HostSteps.{put}
use Rattle.lg_cpu.specs.X86Step.{Scene, sets_loaded, made, load_width}
use Rattle.lg_temp.specs.Abis.{register_of}
use Rattle.lg_selx_values.specs.Processor.MakingNodes.{scene}
use Rattle.lg_selx_values.specs.Processor.Makings.{makes}
use Rattle.lg_selx_values.specs.Processor.X86Computers.{x86_scratch}
use Rattle.lg_selx_values.specs.Processor.X86Rows.{x86_rows, x86_seen}
use Rattle.lg_selx_values.proofs.OfProcessor.MakingLemmas.{makes-append, makings-still, still-above, above-append, above-first}
use Rattle.lg_carry.specs.Spills.{with_register}
use Rattle.lg_carry.specs.Nodes.Straight.{spoils}
use Rattle.lg_carry.specs.Memory.Accesses.{address_word}
use Rattle.lg_carry.specs.Memory.Loads.{LoadsDo, HasCode}
use Rattle.lg_selx_values.proofs.RegisterLemmas.{put-other, register-portable, register-not-frame}
use Rattle.lg_selx.proofs.OfControl.SpareLemmas.{framed}
use Rattle.lg_selx.specs.Memory.Accesses.{load_row, load_spare, place_of, behind, x86_load}
use Rattle.lg_selx.proofs.OfMemory.EndLemmas.{makes-does, access-above, some-spelled}
use Rattle.lg_selx.proofs.OfMemory.PlaceLemmas.{placed, load-spare, loaded-after}

-- a row loads by its type, wherever the address lies
pub load-made : (t : ValueType) (s : Scene) (d base : ℕ) (disp : ℤ) (a v : ℕ) → add_words (s.registers base) (word_of disp) ≡ a
    → loaded s.bytes a (width t) ≡ Some v → v < 256 ^ width t
    → made (instr.Load (load_row t) d base disp) s ≡ Some (scene (put s.registers d (extended_by_type t v)) s.flags s.bytes)
load-made value_type.Char s d base disp a v at e lt = rw at (ap (sets_loaded Ld8s d s) e)
load-made value_type.UnsignedChar s d base disp a v at e lt =
    rw at (ap (sets_loaded Ld8u d s) e ∙ ap (λ x. Some (scene (put s.registers d x) s.flags s.bytes)) (let z : v ≡ v % 2 ^ 8 = omega (arith, lt) in z))
load-made value_type.Short s d base disp a v at e lt = rw at (ap (sets_loaded Ld16s d s) e)
load-made value_type.UnsignedShort s d base disp a v at e lt =
    rw at (ap (sets_loaded Ld16u d s) e ∙ ap (λ x. Some (scene (put s.registers d x) s.flags s.bytes)) (let z : v ≡ v % 2 ^ 16 = omega (arith, lt) in z))
load-made value_type.Int s d base disp a v at e lt = rw at (ap (sets_loaded Ld32s d s) e)
load-made value_type.UnsignedInt s d base disp a v at e lt =
    rw at (ap (sets_loaded Ld32u d s) e ∙ ap (λ x. Some (scene (put s.registers d x) s.flags s.bytes)) (let z : v ≡ v % 2 ^ 32 = omega (arith, lt) in z))
load-made value_type.Long s d base disp a v at e lt = rw at (ap (sets_loaded Ld64 d s) e)

pub load-wide : (t : ValueType) → load_width (load_row t) ≡ width t
load-wide value_type.Char = refl
load-wide t = refl

-- a spare register is not the stack pointer
spare-apart : (u d : ℕ) → d ≢ 4 → (u ≡ 5) ⊎ (u ≡ d) → 4 ≢ u
spare-apart u d off (inl e) = λ z. let y : 4 ≡ 5 = z ∙ e in cc
spare-apart u d off (inr e) = λ z. off (sym (z ∙ e))

pub loads-do : (code : List ℕ) (trash : ℕ) → LoadsDo (x86_rows code trash) x86_scratch x86_load
loads-do code trash frame t d at q a v named ok f address end readable safe lt =
    let s = x86_seen q in
    let w = q.state.registers in
    let rd = register_of X86_64 d in
    let portable = register-portable d in
    let off = register-not-frame d named in
    let k = load-spare rd at portable.small off in
    let ts = load_spare rd at in
    let p = place_of ts at in
    let h = placed ts w at k.few ok f.seen.words k.free in
    let x = instr.Load (load_row t) rd p.base p.disp in
    let v1 : ℕ → ℕ = put w ts h.word in
    let W : ℕ → ℕ = put w rd (extended_by_type t v) in
    makes-does code trash (x86_load frame t d at) s (with_register w rd (extended_by_type t v)) s.bytes s.flags (w 5) (spoils x86_scratch [])
    (λ bytes same. record {
      end = bytes;
      above = above-append p.code (x ∷ behind frame p) (scene w s.flags bytes) (scene v1 s.flags bytes) (h.makes_it s.flags bytes)
          (still-above p.code (scene w s.flags bytes) (makings-still p.code w s.flags (scene v1 s.flags (λ y. None)) (h.makes_it s.flags (λ y. None))))
          (above-first x (behind frame p) (scene v1 s.flags bytes) (scene (put v1 rd (extended_by_type t v)) s.flags bytes)
          (load-made t (scene v1 s.flags bytes) rd p.base p.disp a v (h.address ∙ address) (readable bytes same) lt)
          (access-above v1 p.base p.disp a (width t) (w 4) (load_width (load_row t)) (put-other w ts h.word 4 (spare-apart ts rd portable.no_stack k.which)) (h.address ∙ address) (load-wide t) safe)
          (still-above (behind frame p) (scene (put v1 rd (extended_by_type t v)) s.flags bytes)
          (makings-still (behind frame p) (put v1 rd (extended_by_type t v)) s.flags (scene W s.flags (λ y. None))
          (loaded-after frame w s.flags (λ y. None) (framed frame s f) rd (extended_by_type t v) off portable.no_stack ts (address_word X86_64 w at) p h k.which))));
      makes_it = makes-append p.code (x ∷ behind frame p) (scene w s.flags bytes) (scene (put w ts h.word) s.flags bytes)
          (scene (put w rd (extended_by_type t v)) s.flags bytes) (h.makes_it s.flags bytes)
          (ap (option_and_then (makes (behind frame p)))
          (load-made t (scene (put w ts h.word) s.flags bytes) rd p.base p.disp a v (h.address ∙ address) (readable bytes same) lt)
          ∙ loaded-after frame w s.flags bytes (framed frame s f) rd (extended_by_type t v) off portable.no_stack ts (address_word X86_64 w at) p h k.which);
      bytes_are = same;
    })

pub has-code : (code : List ℕ) (trash : ℕ) → HasCode (x86_rows code trash) x86_load
has-code code trash frame t d at =
    let rd = register_of X86_64 d in
    let p = place_of (load_spare rd at) at in some-spelled p.code (instr.Load (load_row t) rd p.base p.disp) (behind frame p)
