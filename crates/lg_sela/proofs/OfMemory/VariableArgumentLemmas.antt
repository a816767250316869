-- Reading the next variable argument of the function.
use Rattle.lg_carry.specs.Memory.Accesses.{LiesAbove}
use Rattle.std.proofs.Common.{◌≡◌, ◌≢◌, ℕ, suc, ◌+◌, ◌-◌, ◌<◌, ◌≤◌, Bool, true, false, List, [], ◌∷◌, ◌++◌, Some, refl, sym, ap, ◌∙◌, arith}
use Rattle.std.specs.Prelude.{◌==◌, nat_lt, if◌then◌else◌}
use Rattle.lg_base.specs.Fields.{word_of}
use Rattle.lg_base.specs.Layout.{frame_pointer, home_word, stack_argument}
use Rattle.lg_base.specs.Spaces.{loaded}
use Rattle.lg_base.specs.Words.{add_words, sub_words, mul_words}
use Rattle.lg_base.specs.declared.flags.Flags.{Flags}
use Rattle.lg_base.specs.declared.target.Target.TheVariants.{Aarch64}
use Rattle.lg_op.specs.declared.operand.Reg.{Reg}
use Rattle.lg_op.specs.declared.operand.Reg.TheVariants.{Fp}
use Rattle.lg_a64.specs.declared.instruction.BitfieldOp.{BitfieldOp}
use Rattle.lg_a64.specs.declared.instruction.BitfieldOp.TheVariants.{Sbfm, Ubfm}
use Rattle.lg_a64.specs.declared.instruction.ImmOp.TheVariants.{Addi, Subi}
use Rattle.lg_a64.specs.declared.instruction.Instr.{Instr}
use Rattle.lg_a64.specs.declared.instruction.Instr.TheVariants.{Imm, MulAdd, Bitfield, Unscaled}
use Rattle.lg_a64.specs.declared.instruction.MulAddOp.TheVariants.{Msub}
use Rattle.lg_a64.specs.declared.instruction.UnscaledOp.TheVariants.{Ldur}
use Rattle.lg_cpu.specs.A64Operators.{bitfield_value}
use Rattle.lg_cpu.specs.A64Step.{read, write, sets, loads, act}
use Rattle.lg_cpu.specs.HostSteps.{put}
use Rattle.lg_cpu.specs.States.{CpuState}
use Rattle.lg_temp.specs.Abis.{register_of}
use Rattle.lg_carry.specs.Processors.{Seen}
use Rattle.lg_carry.specs.Spills.{Does, with_register}
use Rattle.lg_sela_values.specs.Processor.A64Computers.{a64_scratch, a64_computer}
use Rattle.lg_sela_values.specs.Processor.A64Rows.{link, a64_rows, a64_seen}
use Rattle.lg_sela_values.specs.Processor.Computations.{holding, known, computed_by, computed}
use Rattle.lg_sela_values.proofs.OfProcessor.ComputerLemmas.{is-computer, spellings-long}
use Rattle.lg_sela_values.proofs.OfProcessor.HeldLemmas.{read-is, write-is, put-same, put-other}
use Rattle.lg_sela_values.proofs.OfProcessor.RegisterLemmas.{register-small}
use Rattle.lg_carry.specs.Nodes.Straight.{spoils, from_to}
use Rattle.lg_carry.proofs.OfValues.ComputationLemmas.{pointwise}
use Rattle.lg_carry.proofs.OfValues.TwoResultLemmas.{registers-apart}
use Rattle.lg_carry.specs.Memory.Loads.{IsReadable}
use Rattle.lg_carry.specs.Memory.VariableArguments.{NextArgumentsDo, HasNextArgumentCode}
use Rattle.lg_carry.proofs.OfMemory.AfterLemmas.{told, seen_after, after-computed}
use Rattle.lg_sela.specs.Memory.VariableArgumentCode.{direction_code, address_code, argument_offset, next_argument_load, a64_next_argument}
use Rattle.lg_sela.proofs.OfMemory.EndLemmas.{off-scratch, access-does, span-above}

-- ---- words
-- what the link gets of a number
abbrev sign : ℕ → ℕ
sign k = bitfield_value Sbfm k 3 3

abbrev high_sign : ℕ → ℕ
high_sign k = bitfield_value Ubfm (sign k) 60 59

abbrev direction : ℕ → ℕ
direction k = add_words (high_sign k) 8

-- the address by argument k
abbrev above : ℕ → ℕ → ℕ
above fp k = sub_words fp (mul_words (sub_words k 1) (direction k))

-- FP is below the caller's stack words, and above the homes
abbrev place : ℕ → ℕ → ℕ
place sp k = if nat_lt k 8 then home_word (frame_pointer sp) k else stack_argument sp (k - 8)

leads : (sp k : ℕ) → k < 16 → 272 ≤ sp → sp ≤ 0x40000000 → add_words (above (frame_pointer sp) k) (word_of argument_offset) ≡ place sp k
leads sp (suc (suc (suc (suc (suc (suc (suc (suc (suc (suc (suc (suc (suc (suc (suc (suc k)))))))))))))))) few low high = absurd (omega (arith, few))
leads sp k few low high = omega (arith, low, high)

-- ---- one instruction, of registers that are no 31
module _ (u : ℕ → ℕ) (f : Flags) where
  bits : (o : BitfieldOp) (rd rn immr imms x : ℕ) → rd < 31 → rn < 31 → u rn ≡ x → computed_by (Bitfield o rd rn immr imms) (holding u f) ≡ holding (put u rd (bitfield_value o x immr imms)) f
  bits o rd rn immr imms x ld ln e =
      ap (λ r. holding r f) (write-is u rd (bitfield_value o (read u rn) immr imms) ld ∙ ap (λ z. put u rd (bitfield_value o z immr imms)) (read-is u rn ln ∙ e))

  adds : (rd rn n x : ℕ) → u rn ≡ x → computed_by (Imm Addi rd rn n false) (holding u f) ≡ holding (put u rd (add_words x n)) (known f)
  adds rd rn n x e = ap (λ z. holding (put u rd (add_words z n)) (known f)) e

  subtracts : (rd rn n x : ℕ) → u rn ≡ x → computed_by (Imm Subi rd rn n false) (holding u f) ≡ holding (put u rd (sub_words x n)) (known f)
  subtracts rd rn n x e = ap (λ z. holding (put u rd (sub_words z n)) (known f)) e

  multiplies : (rd rn rm ra x y z : ℕ) → rd < 31 → rn < 31 → rm < 31 → ra < 31 → u rn ≡ x → u rm ≡ y → u ra ≡ z
      → computed_by (MulAdd Msub rd rn rm ra) (holding u f) ≡ holding (put u rd (sub_words z (mul_words x y))) f
  multiplies rd rn rm ra x y z ld ln lm la ex ey ez =
      ap (λ r. holding r f) (write-is u rd (sub_words (read u ra) (mul_words (read u rn) (read u rm))) ld
      ∙ (λ j. put u rd (sub_words ((read-is u ra la ∙ ez) j) (mul_words ((read-is u rn ln ∙ ex) j) ((read-is u rm lm ∙ ey) j)))))

-- ---- all but the last one
-- it is read before it is written
record Apart (d s : ℕ) : Type 0 where
  d_small : d < 30
  s_small : s < 30
  apart : d ≢ s
  d_off_frame : d ≢ 29
  s_off_frame : s ≢ 29

abbrev computing : ℕ → ℕ → List Instr
computing d s = direction_code s ++ (address_code d s ++ Imm Addi s s 1 false ∷ [])

module _ (w : ℕ → ℕ) (f : Flags) (d s k : ℕ) (a : Apart d s) (holds : w s ≡ k) where
  abbrev u1 : ℕ → ℕ
  u1 = put w link (sign k)

  abbrev u2 : ℕ → ℕ
  u2 = put u1 link (high_sign k)

  abbrev u3 : ℕ → ℕ
  u3 = put u2 link (direction k)

  abbrev u4 : ℕ → ℕ
  u4 = put u3 d (sub_words k 1)

  abbrev u5 : ℕ → ℕ
  u5 = put u4 d (above (w 29) k)

  abbrev u6 : ℕ → ℕ
  u6 = put u5 s (add_words k 1)

  -- the link changes no other
  off : (r : ℕ) → r ≢ link → u3 r ≡ w r
  off r ne = put-other u2 link (direction k) r ne ∙ put-other u1 link (high_sign k) r ne ∙ put-other w link (sign k) r ne

  s-off : s ≢ link
  s-off e = let l = a.s_small in absurd (omega (arith, l, e))

  d-off : d ≢ link
  d-off e = let l = a.d_small in absurd (omega (arith, l, e))

  computes-so : computed (computing d s) (holding w f) ≡ holding u6 (known (known (known f)))
  computes-so =
      let ls : s < 31 = (let l = a.s_small in omega (arith, l)) in
      let ld : d < 31 = (let l = a.d_small in omega (arith, l)) in
      let ll : 30 < 31 = omega arith in
      let lf : 29 < 31 = omega arith in
      let next = Imm Addi s s 1 false in
      ap (computed (Bitfield Ubfm link link 60 59 ∷ Imm Addi link link 8 false ∷ (address_code d s ++ next ∷ []))) (bits w f Sbfm link s 3 3 k ll ls holds)
      ∙ ap (computed (Imm Addi link link 8 false ∷ (address_code d s ++ next ∷ []))) (bits u1 f Ubfm link link 60 59 (sign k) ll ll (put-same w link (sign k)))
      ∙ ap (computed (address_code d s ++ next ∷ [])) (adds u2 f link link 8 (high_sign k) (put-same u1 link (high_sign k)))
      ∙ ap (computed (MulAdd Msub d d link 29 ∷ next ∷ [])) (subtracts u3 (known f) d s 1 k (off s s-off ∙ holds))
      ∙ ap (computed (next ∷ [])) (multiplies u4 (known (known f)) d d link 29 (sub_words k 1) (direction k) (w 29) ld ld ll lf (put-same u3 d (sub_words k 1))
      (put-other u3 d (sub_words k 1) link (λ e. d-off (sym e)) ∙ put-same u2 link (direction k))
      (put-other u3 d (sub_words k 1) 29 (λ e. a.d_off_frame (sym e)) ∙ off 29 (λ e. absurd (omega (arith, e)))))
      ∙ adds u5 (known (known f)) s s 1 k (put-other u4 d (above (w 29) k) s (λ e. a.apart (sym e)) ∙ put-other u3 d (sub_words k 1) s (λ e. a.apart (sym e)) ∙ off s s-off ∙ holds)

  -- the address, before the argument is read there
  address-is : (computed (computing d s) (holding w f)).registers d ≡ above (w 29) k
  address-is = ap (λ h. h.registers d) computes-so ∙ put-other u5 s (add_words k 1) d a.apart ∙ put-same u4 d (above (w 29) k)

  -- any other register stays
  off-both : (r : ℕ) → r ≢ d → r ≢ s → r ≢ link → (computed (computing d s) (holding w f)).registers r ≡ w r
  off-both r nd ns nl =
      ap (λ h. h.registers r) computes-so ∙ put-other u5 s (add_words k 1) r ns ∙ put-other u4 d (above (w 29) k) r nd ∙ put-other u3 d (sub_words k 1) r nd ∙ off r nl

  -- and what is left after that
  left : (v n r : ℕ) → add_words k 1 ≡ n → r ≢ link → with_register (computed (computing d s) (holding w f)).registers d v r ≡ with_register (with_register w d v) s n r
  left v n r e ne = ap (λ h. with_register h.registers d v r) computes-so ∙ by (r == d) refl (r == s) refl
    where
      by : (b : Bool) → (r == d) ≡ b → (c : Bool) → (r == s) ≡ c
          → (if b then v else (if c then add_words k 1 else (if b then above (w 29) k else (if b then sub_words k 1 else u3 r)))) ≡ (if c then n else (if b then v else w r))
      by true is true is' = absurd (let h = a.apart in let x : d ≡ s = grind (arith, is, is') in h x)
      by true is false is' = refl
      by false is true is' = e
      by false is false is' = off r ne

-- ---- the last one
-- `ldur` of the register's own address
load-act : (q : CpuState) (d a v : ℕ) → add_words (q.registers d) (word_of argument_offset) ≡ a → loaded q.bytes a 8 ≡ Some v → act (Unscaled Ldur d d argument_offset) q ≡ sets q d v
load-act q d a v at e = rw at (ap (loads q d 8 false) e)

load-does : (code : List ℕ) (trash : ℕ) (s : Seen) (d a v fp : ℕ) (T : ℕ → Bool) → d < 31 → add_words (s.registers d) (word_of argument_offset) ≡ a → IsReadable s fp a 8 v
    → (sp : ℕ) → s.registers 31 ≡ sp → LiesAbove Aarch64 sp a 8
    → Does (a64_rows code trash) (from_to s (with_register s.registers d v) s.bytes s.flags) (Unscaled Ldur d d argument_offset ∷ []) fp 0 T
load-does code trash s d a v fp T small at readable sp low safe = access-does code trash (Unscaled Ldur d d argument_offset) s (with_register s.registers d v) s.bytes fp T
    (λ q registers bytes.
    let g : q.registers ≡ s.registers = pointwise q.registers s.registers registers in
    record {
      above = span-above q.registers s.registers (λ u. add_words (u d) (word_of argument_offset)) a 8 sp g low at safe;
      registers = write q.registers d v;
      bytes = q.bytes;
      effect = load-act q d a v (ap (λ h. add_words (h d) (word_of argument_offset)) g ∙ at) (readable q.bytes bytes);
      registers_are = λ r. ap (λ h. h r) (write-is q.registers d v small) ∙ ap (λ h. put h d v r) g;
      bytes_are = bytes;
    })

-- ---- the code
next-small : (k : ℕ) → k < 16 → add_words k 1 ≡ k + 1
next-small k few = omega (arith, few)

-- none but FP is in the register of FP
off-frame : (r : Reg) → r ≢ Fp → register_of Aarch64 r ≢ 29
off-frame Fp named e = absurd (named refl)
off-frame r named e = absurd (omega (arith, e))

apart-registers : (d s : Reg) → d ≢ Fp → s ≢ Fp → d ≢ s → Apart (register_of Aarch64 d) (register_of Aarch64 s)
apart-registers d s nd ns ne = record {
  d_small = register-small d;
  s_small = register-small s;
  apart = registers-apart Aarch64 d s nd ns ne;
  d_off_frame = off-frame d nd;
  s_off_frame = off-frame s ns;
}

module _ (code : List ℕ) (trash : ℕ) (s : Seen) (rd rs k a v fp : ℕ) (x : Apart rd rs) (few : k < 16) (holds : s.registers rs ≡ k) (at : add_words (above (s.registers 29) k) (word_of argument_offset) ≡ a)
    (readable : IsReadable s fp a 8 v) (safe : LiesAbove Aarch64 (s.registers 31) a 8) where
  abbrev mid : Seen
  mid = seen_after (a64_computer code trash) (computing rd rs) s

  stack-kept : mid.registers 31 ≡ s.registers 31
  stack-kept = off-both s.registers s.flags rd rs k x holds 31 (λ e. let h = x.d_small in absurd (omega (arith, e, h))) (λ e. let h = x.s_small in absurd (omega (arith, e, h))) (λ e. absurd (omega (arith, e)))

  load-after : Does (a64_rows code trash) (from_to s (with_register (with_register s.registers rd v) rs (k + 1)) s.bytes mid.flags) (next_argument_load rd rs) fp 0 (spoils a64_scratch [])
  load-after =
      let l = Unscaled Ldur rd rd argument_offset in
      let to = with_register (with_register s.registers rd v) rs (k + 1) in
      let small : rd < 31 = (let h = x.d_small in omega (arith, h)) in
      after-computed (a64_computer code trash) (is-computer code trash) (computing rd rs) (l ∷ []) s to s.bytes mid.flags fp 0 (spoils a64_scratch []) (omega arith) refl
      (told (a64_rows code trash) mid (with_register mid.registers rd v) to s.bytes s.bytes mid.flags mid.flags (l ∷ []) fp 0 (spoils a64_scratch [])
      (λ r free. left s.registers s.flags rd rs k x holds v (k + 1) r (next-small k few) (off-scratch r free)) (λ r off. refl) refl
      (load-does code trash mid rd a v fp (spoils a64_scratch []) small
      (ap (λ z. add_words z (word_of argument_offset)) (address-is s.registers s.flags rd rs k x holds) ∙ at) readable (s.registers 31) stack-kept safe))

pub next-arguments-do : (code : List ℕ) (trash : ℕ) → NextArgumentsDo (a64_rows code trash) a64_scratch a64_next_argument
next-arguments-do code trash frame d s q k a v nd ns ne few f holds at even readable safe lt =
    let rd = register_of Aarch64 d in
    let rs = register_of Aarch64 s in
    let sp = q.state.registers 31 + frame in
    let low : 272 ≤ sp = (let l = f.large in omega (arith, l)) in
    let high : sp ≤ 0x40000000 = (let h = f.high in omega (arith, h)) in
    record {
      flags = (seen_after (a64_computer code trash) (computing rd rs) (a64_seen q)).flags;
      does = load-after code trash (a64_seen q) rd rs k a v (q.state.registers 29) (apart-registers d s nd ns ne) few holds
          (ap (λ p. add_words (above p k) (word_of argument_offset)) f.pointer ∙ leads sp k few low high ∙ at) readable safe;
    }

pub has-next-argument-code : (code : List ℕ) (trash : ℕ) → HasNextArgumentCode (a64_rows code trash) a64_next_argument
has-next-argument-code code trash d s = let long = spellings-long (a64_next_argument d s) in omega (arith, long)
