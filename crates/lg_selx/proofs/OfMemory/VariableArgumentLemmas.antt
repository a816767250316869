-- Reading the next variable argument of the function.
use Rattle.std.proofs.Common.{◌≡◌, ◌≢◌, ℕ, ◌+◌, ◌-◌, ◌^◌, ◌<◌, ◌≤◌, Bool, true, false, List, [], ◌∷◌, Option, Some, refl, sym, ap, ◌∙◌, arith}
use Rattle.std.specs.Prelude.{nat_lt, bit_or, if◌then◌else◌, pos, negsuc}
use Rattle.std.specs.Option.{option_and_then}
use Rattle.lg_base.specs.Fields.{word_of}
use Rattle.lg_base.specs.Layout.{frame_pointer, home_word, stack_argument}
use Rattle.lg_base.specs.Spaces.{loaded}
use Rattle.lg_base.specs.Words.{add_words, mul_words, shifted_left, shifted_right_signed}
use Rattle.lg_base.specs.declared.flags.Flags.{Flags}
use Rattle.lg_base.specs.declared.target.Target.TheVariants.{X86_64}
use Rattle.lg_op.specs.declared.op.ValueType.TheVariants as value_type
use Rattle.lg_x86.specs.declared.instruction.Instr.{Instr}
use Rattle.lg_x86.specs.declared.instruction.Instr.TheVariants as instr
use Rattle.lg_x86.specs.declared.instruction.ImmOp.TheVariants.{Addi, Ori}
use Rattle.lg_x86.specs.declared.instruction.LoadOp.TheVariants.{Lea, Ld64}
use Rattle.lg_x86.specs.declared.instruction.RegRmOp.TheVariants.{Imul}
use Rattle.lg_x86.specs.declared.instruction.RmRegOp.TheVariants.{Add, Or}
use Rattle.lg_x86.specs.declared.instruction.ShiftOp.TheVariants.{Shli, Sari}
use Rattle.lg_cpu.specs.HostSteps.{put}
use Rattle.lg_cpu.specs.X86Operators.{alu_flags, needs_high_signed, product_flags, shift_flags, sum_flags}
use Rattle.lg_cpu.specs.X86Step.{made}
use Rattle.lg_temp.specs.Abis.{register_of}
use Rattle.lg_carry.specs.Spills.{with_register}
use Rattle.lg_selx_values.specs.Processor.MakingNodes.{scene}
use Rattle.lg_selx_values.specs.Processor.Makings.{makes, AreAbove}
use Rattle.lg_selx_values.specs.Processor.X86Computers.{x86_scratch}
use Rattle.lg_selx_values.specs.Processor.X86Rows.{x86_rows, x86_seen}
use Rattle.lg_selx_values.proofs.OfProcessor.MakingLemmas.{makes-append, still-above, above-append, above-first}
use Rattle.lg_carry.specs.Memory.Accesses.{LiesAbove}
use Rattle.lg_carry.specs.Nodes.Straight.{spoils}
use Rattle.lg_carry.specs.Memory.VariableArguments.{NextArgumentsDo, HasNextArgumentCode}
use Rattle.lg_carry.proofs.OfValues.TwoResultLemmas.{registers-apart}
use Rattle.lg_selx_values.proofs.RegisterLemmas.{put-same, put-other, put-twice, register-portable, register-not-frame}
use Rattle.lg_selx.specs.Memory.VariableArgumentCode.{next_code, x86_next_argument}
use Rattle.lg_selx.proofs.OfMemory.EndLemmas.{makes-does, access-above, some-spelled}
use Rattle.lg_selx.proofs.OfMemory.LoadLemmas.{load-made}

-- ---- the argument's place
-- the word of -1 or 1 that is made of the argument's number
abbrev side : ℕ → ℕ
side k = bit_or (shifted_right_signed (add_words k (word_of (negsuc 5))) 63) 1

side-home : (k : ℕ) → k < 6 → side k ≡ 2 ^ 64 - 1
side-home k few = let e : shifted_right_signed (add_words k (word_of (negsuc 5))) 63 ≡ 2 ^ 64 - 1 = grind (arith, few) in ap (λ x. bit_or x 1) e

side-stack : (k : ℕ) → k < 16 → 6 ≤ k → side k ≡ 1
side-stack k few more = let e : shifted_right_signed (add_words k (word_of (negsuc 5))) 63 ≡ 0 = grind (arith, few, more) in ap (λ x. bit_or x 1) e

-- this many words from 32 bytes below FP, on this side of there
abbrev reached : ℕ → ℕ → ℕ → ℕ
reached x k fp = add_words (add_words (shifted_left (mul_words x k) 3) fp) (word_of (negsuc 31))

home-reached : (sp k : ℕ) → k < 6 → 272 ≤ sp → sp ≤ 0x40000000 → reached (2 ^ 64 - 1) k (frame_pointer sp) ≡ home_word (frame_pointer sp) k
home-reached sp k few low high = omega (arith, few, low, high)

stack-reached : (sp k : ℕ) → k < 16 → 6 ≤ k → 272 ≤ sp → sp ≤ 0x40000000 → reached 1 k (frame_pointer sp) ≡ stack_argument sp (k - 6)
stack-reached sp k few more low high = omega (arith, few, more, low, high)

next-leads : (sp k : ℕ) → k < 16 → 272 ≤ sp → sp ≤ 0x40000000
    → reached (side k) k (frame_pointer sp) ≡ (if nat_lt k 6 then home_word (frame_pointer sp) k else stack_argument sp (k - 6))
next-leads sp k few low high = by (nat_lt k 6) refl
  where
    by : (b : Bool) → nat_lt k 6 ≡ b → reached (side k) k (frame_pointer sp) ≡ (if b then home_word (frame_pointer sp) k else stack_argument sp (k - 6))
    by true e =
        let h : k < 6 = grind (arith, e) in ap (λ x. reached x k (frame_pointer sp)) (side-home k h) ∙ home-reached sp k h low high
    by false e =
        let h : 6 ≤ k = grind (arith, e) in ap (λ x. reached x k (frame_pointer sp)) (side-stack k few h) ∙ stack-reached sp k few h low high

next-number : (k : ℕ) → k < 16 → add_words k 1 ≡ k + 1
next-number k few = omega (arith, few)

-- ---- the code
module _ (w : ℕ → ℕ) (f : Flags) (m : ℕ → Option ℕ) (rd rs k : ℕ) (named : rd ≢ 5) (apart : rs ≢ rd) (is : w rs ≡ k) where
  -- an instruction that makes a word and flags of that of the register
  step : (value : ℕ → ℕ) (flags : ℕ → Flags) (x : ℕ)
      → Some (scene (put (put w rd x) rd (value (put w rd x rd))) (flags (put w rd x rd)) m) ≡ Some (scene (put w rd (value x)) (flags x) m)
  step value flags x =
      ap (λ z. Some (scene (put (put w rd x) rd (value z)) (flags z) m)) (put-same w rd x)
      ∙ ap (λ g. Some (scene g (flags x) m)) (put-twice w rd x (value x))

  -- the other registers stay meanwhile
  number : (x : ℕ) → put w rd x rs ≡ k
  number x = put-other w rd x rs apart ∙ is

  pointer : (x : ℕ) → put w rd x 5 ≡ w 5
  pointer x = put-other w rd x 5 (λ e. named (sym e))

  lowered : made (instr.Load Lea rd rs (negsuc 5)) (scene w f m) ≡ Some (scene (put w rd (add_words k (word_of (negsuc 5)))) f m)
  lowered = ap (λ z. Some (scene (put w rd (add_words z (word_of (negsuc 5)))) f m)) is

  times : (x : ℕ) (F : Flags)
      → made (instr.RegRm Imul rd rs) (scene (put w rd x) F m) ≡ Some (scene (put w rd (mul_words x k)) (product_flags (needs_high_signed x k)) m)
  times x F =
      let u : ℕ → ℕ = put w rd x in
      ap (λ z. Some (scene (put u rd (mul_words (u rd) z)) (product_flags (needs_high_signed (u rd) z)) m)) (number x)
      ∙ step (λ z. mul_words z k) (λ z. product_flags (needs_high_signed z k)) x

  from-pointer : (x : ℕ) (F : Flags)
      → made (instr.RmReg Add rd 5) (scene (put w rd x) F m) ≡ Some (scene (put w rd (add_words x (w 5))) (alu_flags Add F x (w 5) 0) m)
  from-pointer x F =
      let u : ℕ → ℕ = put w rd x in
      ap (λ z. Some (scene (put u rd (add_words (u rd) z)) (alu_flags Add F (u rd) z 0) m)) (pointer x)
      ∙ step (λ z. add_words z (w 5)) (λ z. alu_flags Add F z (w 5) 0) x

  read : (x v : ℕ) (F : Flags) → loaded m (add_words x (word_of (negsuc 31))) 8 ≡ Some v → v < 2 ^ 64
      → made (instr.Load Ld64 rd rd (negsuc 31)) (scene (put w rd x) F m) ≡ Some (scene (put w rd v) F m)
  read x v F holds small =
      load-made value_type.Long (scene (put w rd x) F m) rd rd (negsuc 31) (add_words x (word_of (negsuc 31))) v
      (ap (λ z. add_words z (word_of (negsuc 31))) (put-same w rd x)) holds small
      ∙ ap (λ g. Some (scene g F m)) (put-twice w rd x v)

  raised : (v : ℕ) (F : Flags) → k < 16
      → made (instr.Imm Addi rs (pos 1)) (scene (put w rd v) F m) ≡ Some (scene (put (put w rd v) rs (k + 1)) (sum_flags k 1 0 (k + 1)) m)
  raised v F few =
      let u : ℕ → ℕ = put w rd v in
      ap (λ z. Some (scene (put u rs (add_words z 1)) (sum_flags z 1 0 (add_words z 1)) m)) (number v)
      ∙ ap (λ z. Some (scene (put u rs z) (sum_flags k 1 0 z) m)) (next-number k few)

  -- ---- up to the load, nothing is touched
  abbrev low_word : ℕ
  low_word = add_words k (word_of (negsuc 5))

  abbrev sign : ℕ
  sign = shifted_right_signed low_word 63

  abbrev words : ℕ
  words = mul_words (side k) k

  abbrev away : ℕ
  away = shifted_left words 3

  abbrev place : ℕ
  place = add_words away (w 5)

  abbrev f2 : Flags
  f2 = shift_flags Sari f low_word 63

  abbrev f3 : Flags
  f3 = alu_flags Or f2 sign 1 0

  abbrev f4 : Flags
  f4 = product_flags (needs_high_signed (side k) k)

  abbrev f5 : Flags
  f5 = shift_flags Shli f4 words 3

  abbrev f6 : Flags
  f6 = alu_flags Add f5 away (w 5) 0

  abbrev front : List Instr
  front =
      instr.Load Lea rd rs (negsuc 5) ∷ (instr.Shift Sari rd 63 ∷ (instr.Imm Ori rd (pos 1) ∷ (instr.RegRm Imul rd rs ∷ (instr.Shift Shli rd 3 ∷ (instr.RmReg Add rd 5 ∷ [])))))

  front-made : makes front (scene w f m) ≡ Some (scene (put w rd place) f6 m)
  front-made =
      let c5 : List Instr = instr.RmReg Add rd 5 ∷ [] in
      let c4 : List Instr = instr.Shift Shli rd 3 ∷ c5 in
      let c3 : List Instr = instr.RegRm Imul rd rs ∷ c4 in
      let c2 : List Instr = instr.Imm Ori rd (pos 1) ∷ c3 in
      let c1 : List Instr = instr.Shift Sari rd 63 ∷ c2 in
      ap (option_and_then (makes c1)) lowered
      ∙ ap (option_and_then (makes c2)) (step (λ z. shifted_right_signed z 63) (λ z. shift_flags Sari f z 63) low_word)
      ∙ ap (option_and_then (makes c3)) (step (λ z. bit_or z 1) (λ z. alu_flags Or f2 z 1 0) sign)
      ∙ ap (option_and_then (makes c4)) (times (side k) f3)
      ∙ ap (option_and_then (makes c5)) (step (λ z. shifted_left z 3) (λ z. shift_flags Shli f4 z 3) words)
      ∙ ap (option_and_then (makes [])) (from-pointer away f5)

  abbrev back : List Instr
  back = instr.Load Ld64 rd rd (negsuc 31) ∷ (instr.Imm Addi rs (pos 1) ∷ [])

  -- ---- and then the word
  module _ (v : ℕ) (few : k < 16) (holds : loaded m (reached (side k) k (w 5)) 8 ≡ Some v) (small : v < 2 ^ 64) where
    pub next-made : makes (next_code rd rs) (scene w f m) ≡ Some (scene (put (put w rd v) rs (k + 1)) (sum_flags k 1 0 (k + 1)) m)
    next-made =
        makes-append front back (scene w f m) (scene (put w rd place) f6 m) (scene (put (put w rd v) rs (k + 1)) (sum_flags k 1 0 (k + 1)) m) front-made
        (ap (option_and_then (makes (instr.Imm Addi rs (pos 1) ∷ []))) (read place v f6 holds small)
        ∙ ap (option_and_then (makes [])) (raised v f6 few))

    pub next-above : (a : ℕ) → reached (side k) k (w 5) ≡ a → 4 ≢ rd → LiesAbove X86_64 (w 4) a 8 → AreAbove (next_code rd rs) (scene w f m)
    next-above a at stack safe =
        above-append front back (scene w f m) (scene (put w rd place) f6 m) front-made (still-above front (scene w f m) refl)
        (above-first (instr.Load Ld64 rd rd (negsuc 31)) (instr.Imm Addi rs (pos 1) ∷ []) (scene (put w rd place) f6 m) (scene (put w rd v) f6 m)
        (read place v f6 holds small)
        (access-above (put w rd place) rd (negsuc 31) a 8 (w 4) 8 (put-other w rd place 4 stack)
        (ap (λ z. add_words z (word_of (negsuc 31))) (put-same w rd place) ∙ at) refl safe)
        (still-above (instr.Imm Addi rs (pos 1) ∷ []) (scene (put w rd v) f6 m) refl))

pub next-arguments-do : (code : List ℕ) (trash : ℕ) → NextArgumentsDo (x86_rows code trash) x86_scratch x86_next_argument
next-arguments-do code trash frame d s q k a v named kept apart few f number place even readable safe lt =
    let t = x86_seen q in
    let w = q.state.registers in
    let sp = w 4 + frame in
    let rd = register_of X86_64 d in
    let rs = register_of X86_64 s in
    let low : 272 ≤ sp = (let l = f.large in omega (arith, l)) in
    let high : sp ≤ 0x40000000 = (let h = f.high in omega (arith, h)) in
    let leads : reached (side k) k (w 5) ≡ a = ap (reached (side k) k) f.pointer ∙ next-leads sp k few low high ∙ place in
    record {
      flags = sum_flags k 1 0 (k + 1);
      does = makes-does code trash (x86_next_argument d s) t (with_register (with_register w rd v) rs (k + 1)) t.bytes (sum_flags k 1 0 (k + 1)) (w 5) (spoils x86_scratch [])
          (λ bytes same. record {
            end = bytes;
            above = next-above w t.flags bytes rd rs k (register-not-frame d named) (λ e. registers-apart X86_64 d s named kept apart (sym e)) number v few
                (ap (λ x. loaded bytes x 8) leads ∙ readable bytes same) lt a leads (λ e. (register-portable d).no_stack (sym e)) safe;
            makes_it = next-made w t.flags bytes rd rs k (register-not-frame d named) (λ e. registers-apart X86_64 d s named kept apart (sym e)) number v few
                (ap (λ x. loaded bytes x 8) leads ∙ readable bytes same) lt;
            bytes_are = same;
          });
    }

pub has-next-argument-code : (code : List ℕ) (trash : ℕ) → HasNextArgumentCode (x86_rows code trash) x86_next_argument
has-next-argument-code code trash d s =
    let rd = register_of X86_64 d in
    let rs = register_of X86_64 s in
    some-spelled [] (instr.Load Lea rd rs (negsuc 5))
    (instr.Shift Sari rd 63 ∷ instr.Imm Ori rd (pos 1) ∷ instr.RegRm Imul rd rs ∷ instr.Shift Shli rd 3 ∷ instr.RmReg Add rd 5 ∷ instr.Load Ld64 rd rd (negsuc 31)
    ∷ instr.Imm Addi rs (pos 1) ∷ [])
