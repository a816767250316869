-- Returns leave their frame.
use Rattle.std.specs.List.{All}
use Rattle.std.proofs.lemmas.List.Elements.{All-nil, All-cons}
use Rattle.lg_selr_values.proofs.OfProcessor.OutsideLemmas.{instructions-stay}
use Rattle.lg_selr_values.proofs.WithinLemmas.{Within, number}
use Rattle.lg_carry.proofs.TurnLemmas.{rises-join, still-raises}
use Rattle.lg_carry.specs.Carries.{Rises}
use Rattle.lg_selr_values.specs.Processor.RvTouched.{touched}
use Rattle.lg_carry.specs.Processors.{IsOff, is_below}
use Rattle.lg_carry.proofs.BelowLemmas.{not-below}
use Rattle.lg_carry.proofs.BlockLemmas.{no-width}
use Rattle.std.proofs.Common.{◌≡◌, ℕ, zero, suc, ◌+◌, ◌-◌, ◌*◌, ◌%◌, ◌^◌, ◌<◌, ◌≤◌, ⊎_elim, Bool, true, false, List, [], ◌∷◌, ◌++◌, Option, Some, refl, sym, ap, inr, subst}
use Rattle.std.proofs.Common.{◌∙◌, subst, arith, length, length-append, append-nil}
use Rattle.std.specs.Prelude.{◌==◌, ℤ, pos, negsuc, if◌then◌else◌, is_some}
use Rattle.lg_base.specs.Conventions.{portable_register}
use Rattle.lg_base.specs.Fields.{word_of}
use Rattle.lg_base.specs.Layout.{frame_pointer, return_word, saved_word}
use Rattle.lg_base.specs.Spaces.{loaded}
use Rattle.lg_base.specs.Words.{add_words}
use Rattle.lg_base.specs.declared.target.Target.TheVariants.{Riscv64}
use Rattle.lg_rv.specs.declared.instruction.Instr.{Instr}
use Rattle.lg_rv.specs.declared.instruction.Instr.TheVariants as instr
use Rattle.lg_rv.specs.declared.instruction.ImmOp.TheVariants.{Ld, Addi, Jalr}
use Rattle.lg_base.specs.declared.fault.FaultKind.TheVariants.{Align}
use Rattle.lg_cpu.specs.Steps.{Run, after, arrived, faults, status_of}
use Rattle.lg_cpu.specs.HostSteps.{put}
use Rattle.lg_cpu.specs.States.{CpuState}
use Rattle.lg_cpu.specs.RvStep.{read, goes, sets, loads, load_at, act}
use Rattle.lg_selr_values.specs.Processor.RvRows.{rv_processor, rv_seen, acts_above}
use Rattle.lg_selr.proofs.OfControl.WalkLemmas.{lands-there}
use Rattle.std.specs.Prelude.{nat_lt}
use Rattle.lg_base.specs.Layout.{code_base, most_code}
use Rattle.lg_base.specs.Runs.{Running}
use Rattle.lg_base.specs.Words.{sign_32}
use Rattle.lg_rv.specs.Spelling.{spelling, IsInstr}
use Rattle.lg_cpu.specs.Laws.{AreBytes}
use Rattle.lg_temp.specs.Abis.{register_of}
use Rattle.lg_carry.specs.Blocks.{spellings, done, IsBlock, Along, StaysOutside}
use Rattle.lg_carry.specs.Registers.{HasWord}
use Rattle.lg_selr_values.specs.Processor.Computations.{all_compute, computed, RunsComputations}
use Rattle.lg_selr_values.specs.Processor.Numbers.{high_part, low_part}
use Rattle.lg_selr_values.specs.Processor.RvRows.{rv_rows, rv_does, is_straight}
use Rattle.lg_selr_values.proofs.OfProcessor.ComputationLemmas.{computations-run}
use Rattle.lg_selr_values.proofs.OfProcessor.NumberCodeLemmas.{numbers-are-loaded}
use Rattle.lg_selr_values.proofs.OfProcessor.RowLemmas.{are-rows}
use Rattle.lg_carry.specs.Nodes.Stretches.{HasFrame, StandsAt, behind, PassesIn}
use Rattle.lg_carry.proofs.OfNodes.StraightLemmas.{in-room}
use Rattle.lg_carry.proofs.OfNodes.StretchLemmas.{part-passes, passages-join}
use Rattle.lg_sel.specs.Control.Returns.{Returned, NoWord, OfRegister, OfNumber, OfLabel, returned_word, IsReturned, Departure, IsBack, ReturnsLead}
use Rattle.lg_selr.specs.Control.Returns.{restores, near_return, far_return, leaving_code, return_code, result_code, returned_code}
use Rattle.lg_sel.proofs.OfControl.ChainLemmas.{RunsAt, next-at, Chain, chain-end, straight-block, does, Raising, RaisedBy, raising-more, raising-chain}
use Rattle.lg_sel.proofs.OfControl.DepartureLemmas.{IsLeft, departure}
use Rattle.lg_sel.proofs.OfControl.StoreLemmas.{HasStack}
use Rattle.lg_selr.proofs.OfControl.RestoreLemmas.{of-saved}
use Rattle.lg_sel.proofs.OfControl.FrameWordLemmas.{word_at, stack-word, saved-address, link-address, stack-address, pointer-address}
use Rattle.lg_selr.proofs.OfControl.ComputedLemmas.{all-straight, same-words}
use Rattle.lg_selr.proofs.OfControl.StretchLemmas.{spelled-size}
use Rattle.lg_selr_values.proofs.OfProcessor.RegisterLemmas.{read-of}
use Rattle.lg_sel.proofs.OfControl.StretchLemmas.{aligned, part-risen}
use Rattle.lg_selr.proofs.OfControl.WordLemmas.{put-same}

pub aligned-load : (a : ℕ) → a % 8 ≡ 0 → (a % 8 == 0) ≡ true
aligned-load a h = rw h refl

-- a load by a register
pub load-act : (q : CpuState) (rd by base address w : ℕ) (offset : ℤ) → read q.registers by ≡ base → add_words base (word_of offset) ≡ address → address % 8 ≡ 0
    → HasWord q.bytes address w → act (instr.Imm Ld rd by offset) q ≡ sets q rd w
load-act q rd by base address w offset at e even held =
    ap (λ x. load_at q rd (add_words x (word_of offset)) 8 false) at ∙ ap (λ x. load_at q rd x 8 false) e
    ∙ ap (λ b. if b then loads q rd 8 false (loaded q.bytes address 8) else faults q Align) (aligned-load address even) ∙ ap (loads q rd 8 false) held

-- the run after instructions that return from a frame, which saves this many of V0 to V2: all but the last are straight, and none lets the stack pointer fall
pub record Returns (code : List Instr) (q : Run CpuState) (sp kept back : ℕ) : Type 0 where
  pub end : Run CpuState
  pub chain : Chain act acts_above code q end
  pub block : IsBlock is_straight code
  pub rises : Along (does act) (RaisedBy act acts_above 2) code q
  pub saved : (j : ℕ) → j < kept → j < 3 → end.state.registers (portable_register Riscv64 (j + 3)) ≡ word_at q.state.bytes (saved_word (sp - 16) j)
  pub pointer : end.state.registers 8 ≡ word_at q.state.bytes (sp - 16)
  pub stack : end.state.registers 2 ≡ sp
  pub result : end.state.registers 10 ≡ q.state.registers 10
  pub bytes : end.state.bytes ≡ q.state.bytes
  pub mark : end.state.mark ≡ q.state.mark
  pub here : end.state.pc ≡ back
  pub progress : status_of end.progress ≡ status_of (arrived back)

-- a word of the frame lies at or above the stack pointer
frame-above : (w : ℕ → ℕ) (rd base : ℕ) (offset : ℤ) (x y : ℕ) → read w base ≡ x → add_words x (word_of offset) ≡ y → w 2 ≤ y → IsOff (is_below Riscv64 (w 2)) (touched (instr.Imm Ld rd base offset) w)
frame-above w rd base offset x y held leads over a le lt =
    let e : add_words (read w base) (word_of offset) ≡ y = ap (λ z. add_words z (word_of offset)) held ∙ leads in
    not-below Riscv64 (w 2) a (inr (omega (arith, le, e, over)))

-- ---- the words of V0 to V2, from a run in a frame
-- the run after those that come back
record Restored (base n k fp count : ℕ) (q : Run CpuState) (is : List Instr) : Type 0 where
  end : Run CpuState
  front : (rest : List Instr) (u : Run CpuState) → Chain act (Raising act acts_above 2) rest end u → Chain act (Raising act acts_above 2) (is ++ rest) q u
  at : RunsAt base n (k + length is) end
  words : (j : ℕ) → j < count → j < 3 → end.state.registers (portable_register Riscv64 (j + 3)) ≡ word_at q.state.bytes (saved_word fp j)
  pointer : end.state.registers 8 ≡ q.state.registers 8
  stack : end.state.registers 2 ≡ q.state.registers 2
  result : end.state.registers 10 ≡ q.state.registers 10
  bytes : end.state.bytes ≡ q.state.bytes
  mark : end.state.mark ≡ q.state.mark

module _ (base n k : ℕ) (q : Run CpuState) (frame sp : ℕ) (low : 0x3FF00010 + 272 ≤ sp) (high : sp ≤ 0x40000000) (even : sp % 16 ≡ 0) (at : RunsAt base n k q)
    (pointer : q.state.registers 8 ≡ sp - 16) (stack : q.state.registers 2 + frame ≡ sp) (large : 272 ≤ frame) (seen : HasStack q.state.bytes) where
  abbrev words-of : ℕ → ℕ
  words-of v = word_at q.state.bytes (saved_word (sp - 16) v)

  abbrev s1 : Run CpuState
  s1 = after q (sets q.state 9 (words-of 0))

  abbrev s2 : Run CpuState
  s2 = after s1 (sets s1.state 18 (words-of 1))

  abbrev s3 : Run CpuState
  s3 = after s2 (sets s2.state 19 (words-of 2))

  kept : (v : ℕ) → v < 3 → (saved_word (sp - 16) v % 8 ≡ 0) × HasWord q.state.bytes (saved_word (sp - 16) v) (words-of v)
  kept v lt = (grind (arith, even, low, lt), stack-word q.state.bytes (saved_word (sp - 16) v) seen (omega (arith, low, lt)) (omega (arith, high)))

  -- one of them is loaded by FP
  comes : (v rd : ℕ) (offset : ℤ) (s u : Run CpuState) (rest : List Instr) → v < 3 → word_of (negsuc (7 + 8 * v)) ≡ word_of offset → s.state.registers 8 ≡ sp - 16
      → s.state.registers 2 ≡ q.state.registers 2 → s.state.registers 2 ≤ (sets s.state rd (words-of v)).to.registers 2 → HasWord s.state.bytes (saved_word (sp - 16) v) (words-of v)
      → status_of s.progress ≡ Running → Chain act (Raising act acts_above 2) rest (after s (sets s.state rd (words-of v))) u
      → Chain act (Raising act acts_above 2) (instr.Imm Ld rd 8 offset ∷ rest) s u
  comes v rd offset s u rest lt same by two rises held runs h =
      let leads : add_words (sp - 16) (word_of offset) ≡ saved_word (sp - 16) v = ap (add_words (sp - 16)) (sym same) ∙ saved-address sp v lt low high in
      raising-more act acts_above 2 (instr.Imm Ld rd 8 offset) rest s u (sets s.state rd (words-of v)) rises runs
      (frame-above s.state.registers rd 8 offset (sp - 16) (saved_word (sp - 16) v) by leads (omega (arith, two, stack, large, lt)))
      (load-act s.state rd 8 (sp - 16) (saved_word (sp - 16) v) (words-of v) offset by leads (kept v lt).0 held) h

  first : (rest : List Instr) (u : Run CpuState) → Chain act (Raising act acts_above 2) rest s1 u → Chain act (Raising act acts_above 2) (instr.Imm Ld 9 8 (negsuc 7) ∷ rest) q u
  first rest u h = comes 0 9 (negsuc 7) q u rest (omega arith) refl pointer refl (omega arith) (kept 0 (omega arith)).1 at.runs h

  module _ (one : k < n) where
    a1 : RunsAt base n (suc k) s1
    a1 = next-at base n k q _ _ _ _ one at

    second : (rest : List Instr) (u : Run CpuState) → Chain act (Raising act acts_above 2) rest s2 u → Chain act (Raising act acts_above 2) (instr.Imm Ld 18 8 (negsuc 15) ∷ rest) s1 u
    second rest u h = comes 1 18 (negsuc 15) s1 u rest (omega arith) refl pointer refl (omega arith) (kept 1 (omega arith)).1 a1.runs h

    module _ (two : suc k < n) where
      a2 : RunsAt base n (suc (suc k)) s2
      a2 = next-at base n (suc k) s1 _ _ _ _ two a1

      third : (rest : List Instr) (u : Run CpuState) → Chain act (Raising act acts_above 2) rest s3 u → Chain act (Raising act acts_above 2) (instr.Imm Ld 19 8 (negsuc 23) ∷ rest) s2 u
      third rest u h = comes 2 19 (negsuc 23) s2 u rest (omega arith) refl pointer refl (omega arith) (kept 2 (omega arith)).1 a2.runs h

      a3 : suc (suc k) < n → RunsAt base n (suc (suc (suc k))) s3
      a3 three = next-at base n (suc (suc k)) s2 _ _ _ _ three a2

  -- this many
  restored : (saved : ℕ) → k + length (restores saved) ≤ n → Restored base n k (sp - 16) saved q (restores saved)
  restored =
      of-saved (λ count is. k + length is ≤ n → Restored base n k (sp - 16) count q is)
      (λ room. record {
        end = q;
        front = λ rest u h. h;
        at = subst (λ x. RunsAt base n x q) (omega arith) at;
        words = λ j lt few. absurd (omega (arith, lt));
        pointer = refl;
        stack = refl;
        result = refl;
        bytes = refl;
        mark = refl;
      })
      (λ room. record {
        end = s1;
        front = first;
        at = subst (λ x. RunsAt base n x s1) (omega arith) (a1 (omega (arith, room)));
        words = words-1;
        pointer = refl;
        stack = refl;
        result = refl;
        bytes = refl;
        mark = refl;
      })
      (λ room. record {
        end = s2;
        front = λ rest u h. first (instr.Imm Ld 18 8 (negsuc 15) ∷ rest) u (second (omega (arith, room)) rest u h);
        at = subst (λ x. RunsAt base n x s2) (omega arith) (a2 (omega (arith, room)) (omega (arith, room)));
        words = words-2;
        pointer = refl;
        stack = refl;
        result = refl;
        bytes = refl;
        mark = refl;
      })
      (λ s room. record {
        end = s3;
        front = λ rest u h.
            first (instr.Imm Ld 18 8 (negsuc 15) ∷ instr.Imm Ld 19 8 (negsuc 23) ∷ rest) u
            (second (omega (arith, room)) (instr.Imm Ld 19 8 (negsuc 23) ∷ rest) u (third (omega (arith, room)) (omega (arith, room)) rest u h));
        at = subst (λ x. RunsAt base n x s3) (omega arith) (a3 (omega (arith, room)) (omega (arith, room)) (omega (arith, room)));
        words = λ j lt few. words-3 j few;
        pointer = refl;
        stack = refl;
        result = refl;
        bytes = refl;
        mark = refl;
      })
    where
      words-1 : (j : ℕ) → j < 1 → j < 3 → s1.state.registers (portable_register Riscv64 (j + 3)) ≡ words-of j
      words-1 zero lt few = refl
      words-1 (suc j) lt few = absurd (omega (arith, lt))

      words-2 : (j : ℕ) → j < 2 → j < 3 → s2.state.registers (portable_register Riscv64 (j + 3)) ≡ words-of j
      words-2 zero lt few = refl
      words-2 (suc zero) lt few = refl
      words-2 (suc (suc j)) lt few = absurd (omega (arith, lt))

      words-3 : (j : ℕ) → j < 3 → s3.state.registers (portable_register Riscv64 (j + 3)) ≡ words-of j
      words-3 (suc (suc (suc j))) few = absurd (omega (arith, few))
      words-3 j few = refl

-- ---- what leaves the frame after them
record Leaves (code : List Instr) (q : Run CpuState) (sp back : ℕ) : Type 0 where
  end : Run CpuState
  chain : Chain act (Raising act acts_above 2) code q end
  words : (j : ℕ) → j < 3 → end.state.registers (portable_register Riscv64 (j + 3)) ≡ q.state.registers (portable_register Riscv64 (j + 3))
  pointer : end.state.registers 8 ≡ word_at q.state.bytes (sp - 16)
  stack : end.state.registers 2 ≡ sp
  result : end.state.registers 10 ≡ q.state.registers 10
  bytes : end.state.bytes ≡ q.state.bytes
  mark : end.state.mark ≡ q.state.mark
  here : end.state.pc ≡ back
  progress : status_of end.progress ≡ status_of (arrived back)

module _ (base n k : ℕ) (q : Run CpuState) (frame sp back : ℕ) (low : 0x3FF00010 + 272 ≤ sp) (high : sp ≤ 0x40000000) (even : sp % 16 ≡ 0) (at : RunsAt base n k q)
    (pointer : q.state.registers 8 ≡ sp - 16) (stack : q.state.registers 2 + frame ≡ sp) (large : 272 ≤ frame) (seen : HasStack q.state.bytes)
    (held : HasWord q.state.bytes (return_word sp) back) (near : back < 2 ^ 62) (aligned : back % 4 ≡ 0) where
  abbrev m : ℕ → Option ℕ
  m = q.state.bytes

  abbrev fp : ℕ
  fp = sp - 16

  abbrev t1 : Run CpuState
  t1 = after q (sets q.state 1 back)

  caller : HasWord m fp (word_at m fp)
  caller = stack-word m fp seen (omega (arith, low)) (omega (arith, high))

  fp-even : fp % 8 ≡ 0
  fp-even = grind (arith, even, low)

  -- the jump after them
  abbrev left : Run CpuState → Run CpuState
  left s = after s (goes back (put s.state.registers 0 (add_words s.state.pc 4)) m q.state.mark)

  module _ (room : k + 4 ≤ n) where
    d1 : RunsAt base n (suc k) t1
    d1 = next-at base n k q _ _ _ _ (omega (arith, room)) at

    -- the return address comes first
    link-back : (is : List Instr) (end : Run CpuState) → Chain act (Raising act acts_above 2) is t1 end → Chain act (Raising act acts_above 2) (instr.Imm Ld 1 8 (pos 8) ∷ is) q end
    link-back is end rest =
        raising-more act acts_above 2 _ _ q end (sets q.state 1 back) (omega arith) at.runs (frame-above q.state.registers 1 8 (pos 8) fp (return_word sp) pointer (link-address sp low high) (omega (arith, stack, large)))
        (load-act q.state 1 8 fp (return_word sp) back (pos 8) pointer (link-address sp low high) (grind (arith, even, low)) held) rest

    -- ---- FP from its own word, and then the stack pointer
    abbrev n2 : Run CpuState
    n2 = after t1 (sets t1.state 8 (word_at m fp))

    abbrev n3 : Run CpuState
    n3 = after n2 (sets n2.state 2 sp)

    b2 : RunsAt base n (suc (suc k)) n2
    b2 = next-at base n (suc k) t1 _ _ _ _ (omega (arith, room)) d1

    b3 : RunsAt base n (suc (suc (suc k))) n3
    b3 = next-at base n (suc (suc k)) n2 _ _ _ _ (omega (arith, room)) b2

    rises : add_words (q.state.registers 2) (word_of (pos frame)) ≡ sp
    rises = grind (arith, stack, high)

    near-leaves : Leaves (near_return frame) q sp back
    near-leaves = record {
      end = left n3;
      chain = link-back (instr.Imm Ld 8 8 (pos 0) ∷ instr.Imm Addi 2 2 (pos frame) ∷ instr.Imm Jalr 0 1 (pos 0) ∷ []) (left n3)
          (raising-more act acts_above 2 _ _ t1 (left n3) (sets t1.state 8 (word_at m fp)) (omega arith) d1.runs (frame-above t1.state.registers 8 8 (pos 0) fp fp pointer (pointer-address sp low high) (omega (arith, stack, large)))
          (load-act t1.state 8 8 fp fp _ (pos 0) pointer (pointer-address sp low high) fp-even caller)
          (raising-more act acts_above 2 _ _ n2 (left n3) (sets n2.state 2 sp) (omega (arith, stack)) b2.runs (no-width _ _) (ap (sets n2.state 2) rises)
          (raising-more act acts_above 2 _ _ n3 (left n3) (goes back (put n3.state.registers 0 (add_words n3.state.pc 4)) m q.state.mark) (omega arith) b3.runs (no-width _ _)
          (lands-there n3.state 0 1 back refl near aligned)
          (chain-end act (Raising act acts_above 2) (left n3)))));
      words = words;
      pointer = refl;
      stack = refl;
      result = refl;
      bytes = refl;
      mark = refl;
      here = refl;
      progress = refl;
    }
      where
        words : (j : ℕ) → j < 3 → (left n3).state.registers (portable_register Riscv64 (j + 3)) ≡ q.state.registers (portable_register Riscv64 (j + 3))
        words (suc (suc (suc j))) lt = absurd (omega (arith, lt))
        words j lt = refl

  -- ---- the stack pointer to that word, FP from there, and then the stack pointer again
  module _ (room : k + 5 ≤ n) where
    less : k + 4 ≤ n
    less = omega (arith, room)

    abbrev f2 : Run CpuState
    f2 = after t1 (sets t1.state 2 fp)

    abbrev f3 : Run CpuState
    f3 = after f2 (sets f2.state 8 (word_at m fp))

    abbrev f4 : Run CpuState
    f4 = after f3 (sets f3.state 2 sp)

    c2 : RunsAt base n (suc (suc k)) f2
    c2 = next-at base n (suc k) t1 _ _ _ _ (omega (arith, room)) (d1 less)

    c3 : RunsAt base n (suc (suc (suc k))) f3
    c3 = next-at base n (suc (suc k)) f2 _ _ _ _ (omega (arith, room)) c2

    c4 : RunsAt base n (suc (suc (suc (suc k)))) f4
    c4 = next-at base n (suc (suc (suc k))) f3 _ _ _ _ (omega (arith, room)) c3

    far-leaves : Leaves far_return q sp back
    far-leaves = record {
      end = left f4;
      chain = link-back less (instr.Imm Addi 2 8 (pos 0) ∷ instr.Imm Ld 8 2 (pos 0) ∷ instr.Imm Addi 2 2 (pos 16) ∷ instr.Imm Jalr 0 1 (pos 0) ∷ []) (left f4)
          (raising-more act acts_above 2 _ _ t1 (left f4) (sets t1.state 2 fp) (omega (arith, stack, large)) (d1 less).runs (no-width _ _)
          (ap (λ x. sets t1.state 2 (add_words x 0)) pointer ∙ ap (sets t1.state 2) (pointer-address sp low high))
          (raising-more act acts_above 2 _ _ f2 (left f4) (sets f2.state 8 (word_at m fp)) (omega arith) c2.runs (frame-above f2.state.registers 8 2 (pos 0) fp fp refl (pointer-address sp low high) (omega arith))
          (load-act f2.state 8 2 fp fp _ (pos 0) refl (pointer-address sp low high) fp-even caller)
          (raising-more act acts_above 2 _ _ f3 (left f4) (sets f3.state 2 sp) (omega arith) c3.runs (no-width _ _)
          (ap (sets f3.state 2) (stack-address sp low high))
          (raising-more act acts_above 2 _ _ f4 (left f4) (goes back (put f4.state.registers 0 (add_words f4.state.pc 4)) m q.state.mark) (omega arith) c4.runs (no-width _ _)
          (lands-there f4.state 0 1 back refl near aligned)
          (chain-end act (Raising act acts_above 2) (left f4))))));
      words = words;
      pointer = refl;
      stack = refl;
      result = refl;
      bytes = refl;
      mark = refl;
      here = refl;
      progress = refl;
    }
      where
        words : (j : ℕ) → j < 3 → (left f4).state.registers (portable_register Riscv64 (j + 3)) ≡ q.state.registers (portable_register Riscv64 (j + 3))
        words (suc (suc (suc j))) lt = absurd (omega (arith, lt))
        words j lt = refl

  leaves : k + length (leaving_code frame) ≤ n → Leaves (leaving_code frame) q sp back
  leaves room = by (nat_lt frame 2048) room
    where
      by : (b : Bool) → k + length (if b then near_return frame else far_return) ≤ n → Leaves (if b then near_return frame else far_return) q sp back
      by true room = near-leaves room
      by false room = far-leaves room

-- ---- both
return-block : (saved frame : ℕ) → IsBlock is_straight (return_code saved frame)
return-block saved frame = by (nat_lt frame 2048)
  where
    by : (b : Bool) → IsBlock is_straight (restores saved ++ (if b then near_return frame else far_return))
    by true = of-saved (λ n is. IsBlock is_straight (is ++ near_return frame))
        (refl, (refl, (refl, tt))) (refl, (refl, (refl, (refl, tt)))) (refl, (refl, (refl, (refl, (refl, tt)))))
        (λ s. (refl, (refl, (refl, (refl, (refl, (refl, tt))))))) saved
    by false = of-saved (λ n is. IsBlock is_straight (is ++ far_return))
        (refl, (refl, (refl, (refl, tt)))) (refl, (refl, (refl, (refl, (refl, tt))))) (refl, (refl, (refl, (refl, (refl, (refl, tt))))))
        (λ s. (refl, (refl, (refl, (refl, (refl, (refl, (refl, tt)))))))) saved

module _ (base n k : ℕ) (q : Run CpuState) (frame sp back : ℕ) (low : 0x3FF00010 + 272 ≤ sp) (high : sp ≤ 0x40000000) (even : sp % 16 ≡ 0) (at : RunsAt base n k q)
    (pointer : q.state.registers 8 ≡ sp - 16) (stack : q.state.registers 2 + frame ≡ sp) (large : 272 ≤ frame) (seen : HasStack q.state.bytes)
    (held : HasWord q.state.bytes (return_word sp) back) (near : back < 2 ^ 62) (aligned : back % 4 ≡ 0) where
  pub returns : (saved : ℕ) → k + length (return_code saved frame) ≤ n → Returns (return_code saved frame) q sp saved back
  returns saved room =
      let size = length-append (restores saved) (leaving_code frame) in
      let b = restored base n k q frame sp low high even at pointer stack large seen saved (omega (arith, room, size)) in
      let e = leaves base n (k + length (restores saved)) b.end frame sp back low high even b.at (b.pointer ∙ pointer) (ap (λ x. x + frame) b.stack ∙ stack) large
      (subst HasStack (sym b.bytes) seen) (subst (λ z. HasWord z (return_word sp) back) (sym b.bytes) held) near aligned (omega (arith, room, size)) in
      let both = raising-chain act acts_above 2 (return_code saved frame) q e.end (b.front (leaving_code frame) e.end e.chain) in record {
        end = e.end;
        chain = both.0;
        rises = both.1;
        block = return-block saved frame;
        saved = λ j lt few. e.words j few ∙ b.words j lt few;
        pointer = e.pointer ∙ ap (λ z. word_at z (sp - 16)) b.bytes;
        stack = e.stack;
        result = e.result ∙ b.result;
        bytes = e.bytes ∙ b.bytes;
        mark = e.mark ∙ b.mark;
        here = e.here;
        progress = e.progress;
      }

-- it has 4 to 8
record IsShort (n : ℕ) : Type 0 where
  some : 0 < n
  few : n ≤ 8

return-short : (saved frame : ℕ) → IsShort (length (return_code saved frame))
return-short saved frame = by (nat_lt frame 2048)
  where
    by : (b : Bool) → IsShort (length (restores saved ++ (if b then near_return frame else far_return)))
    by true = of-saved (λ n is. IsShort (length (is ++ near_return frame))) (record { some = omega arith; few = omega arith })
        (record { some = omega arith; few = omega arith }) (record { some = omega arith; few = omega arith })
        (λ s. record { some = omega arith; few = omega arith }) saved
    by false = of-saved (λ n is. IsShort (length (is ++ far_return))) (record { some = omega arith; few = omega arith })
        (record { some = omega arith; few = omega arith }) (record { some = omega arith; few = omega arith })
        (λ s. record { some = omega arith; few = omega arith }) saved

-- ---- what is in front of it
no-change : (x : ℕ) → x < 2 ^ 64 → add_words x 0 ≡ x
no-change x h = grind (arith, h)

read-small : (w : ℕ → ℕ) (r : ℕ) → w r < 2 ^ 64 → read w r < 2 ^ 64
read-small w r h = grind (arith, h)

address-made : (v : ℕ) → v < 2 ^ 30 → add_words (sign_32 (high_part v * 4096)) (word_of (low_part v)) ≡ v
address-made v small = by (nat_lt (v % 4096) 2048) refl
  where
    by : (b : Bool) → nat_lt (v % 4096) 2048 ≡ b → add_words (sign_32 (high_part v * 4096))
        (word_of (if b then pos (v % 4096) else negsuc (4095 - v % 4096))) ≡ v
    by true h = grind (arith, small, h)
    by false h = grind (arith, small, h)

-- what is there writes no stack pointer
result-within : (r : Returned) → Within (result_code r)
result-within NoWord = tt
result-within (OfRegister a) = (refl, tt)
result-within (OfNumber v) = number 10 v refl
result-within (OfLabel address) = (refl, (refl, tt))

some-is : (v x : ℕ) → Some v ≡ Some x → v ≡ x
some-is v x e = cc

-- the word is in x10, and FP and the stack pointer stay
record Makes (r : Returned) (w : ℕ → ℕ) : Type 0 where
  computes : all_compute (result_code r) ≡ true
  few : length (result_code r) ≤ 8
  value : (x : ℕ) → returned_word Riscv64 w r ≡ Some x → computed (result_code r) w 10 ≡ x
  frame : computed (result_code r) w 8 ≡ w 8
  stack : computed (result_code r) w 2 ≡ w 2

makes : (r : Returned) (w : ℕ → ℕ) → IsReturned r → ((x : ℕ) → w x < 2 ^ 64) → Makes r w
makes NoWord w ok words = record { computes = refl; few = omega arith; value = λ x e. cc; frame = refl; stack = refl }
makes (OfRegister a) w ok words =
    let ra : ℕ = register_of Riscv64 a in record {
      computes = refl;
      few = omega arith;
      value = λ x e. put-same w 10 (add_words (read w ra) 0) ∙ no-change (read w ra) (read-small w ra (words ra)) ∙ read-of w a ∙ some-is (w ra) x e;
      frame = refl;
      stack = refl;
    }
makes (OfNumber v) w ok words =
    let loads = numbers-are-loaded 10 v (λ z. cc) (omega arith) ok in
    record { computes = loads.computes; few = loads.few; value = λ x e. loads.value w 10 ∙ put-same w 10 v ∙ some-is v x e; frame = loads.value w 8; stack = loads.value w 2 }
makes (OfLabel address) w ok words = record { computes = refl; few = omega arith; value = λ x e. address-made address ok ∙ some-is address x e; frame = refl; stack = refl }

-- ---- the return
module _ (code : List ℕ) (trash : ℕ) (small : length code ≤ most_code) (bytes : AreBytes code) (word : trash < 2 ^ 64)
    (saved frame from back : ℕ) (r : Returned) (q : Run CpuState) (ok : IsReturned r) (f : HasFrame Riscv64 frame (rv_seen q))
    (k : StandsAt (rv_rows code trash) true IsInstr from (returned_code saved frame r))
    (there : IsBack (rv_rows code trash) back) (held : HasWord q.state.bytes (return_word (q.state.registers 2 + frame)) back)
    (runs : status_of q.progress ≡ Running) (at : q.state.pc ≡ from) where
  abbrev sp : ℕ
  sp = q.state.registers 2 + frame

  abbrev front : List Instr
  front = result_code r

  abbrev high : ℕ
  high = behind (rv_rows code trash) from (returned_code saved frame r)

  low-frame : 0x3FF00010 + 272 ≤ sp
  low-frame = let l = f.low in let z = f.large in omega (arith, l, z)

  even : sp % 16 ≡ 0
  even = let a = f.whole in let b = f.whole_frame in omega (arith, a, b)

  near : back < 2 ^ 62
  near = ⊎_elim (λ t. let h = t.high in omega (arith, h)) (λ e. omega (arith, e)) there

  back-aligned : back % 4 ≡ 0
  back-aligned = ⊎_elim (λ t. aligned back t.place) (λ e. omega (arith, e)) there

  made : Makes r q.state.registers
  made = makes r q.state.registers ok (λ x. f.seen.words x)

  abbrev long : ℕ
  long = length (return_code saved frame)

  size : length (spellings spelling (returned_code saved frame r)) ≡ 4 * (length front + long)
  size = let a = spelled-size (returned_code saved frame r) in let b = length-append front (return_code saved frame) in omega (arith, a, b)

  short : IsShort long
  short = return-short saved frame

  top : from + 4 * (length front + long) ≤ code_base + most_code
  top =
      let some = short.some in
      let z = in-room code (spellings spelling (returned_code saved frame r)) k.more from k.low (omega (arith, size, some)) k.stands small in omega (arith, z, size)

  ran : RunsComputations front q
  ran = computations-run front q made.computes runs (let l = k.low in omega (arith, l, at)) (omega (arith, top, at))

  abbrev q1 : Run CpuState
  q1 = done rv_does front q

  registers-are : q1.state.registers ≡ computed front q.state.registers
  registers-are = same-words q1.state.registers (computed front q.state.registers) ran.registers

  bytes-are : q1.state.bytes ≡ q.state.bytes
  bytes-are = λ j z. ran.bytes z j

  at1 : RunsAt from (length front + long) (length front) q1
  at1 = record { runs = ran.runs; here = ran.behind ∙ omega (arith, at); low = k.low; high = top }

  pointer1 : q1.state.registers 8 ≡ sp - 16
  pointer1 = ap (λ g. g 8) registers-are ∙ made.frame ∙ f.pointer

  there1 : HasStack q1.state.bytes
  there1 j e = ap (λ b. is_some (b j)) bytes-are ∙ f.seen.stack j e

  held1 : HasWord q1.state.bytes (return_word sp) back
  held1 = subst (λ b. HasWord b (return_word sp) back) (sym bytes-are) held

  stack1 : q1.state.registers 2 + frame ≡ sp
  stack1 = ap (λ g. g 2 + frame) registers-are ∙ ap (λ x. x + frame) made.stack

  goes-back : Returns (return_code saved frame) q1 sp saved back
  goes-back = returns from (length front + long) (length front) q1 frame sp back low-frame f.high even at1 pointer1 stack1 f.large there1 held1 near back-aligned saved (omega arith)

  abbrev u : Run CpuState
  u = goes-back.end

  pass : PassesIn (rv_processor code trash) true from high (length front + long) q u
  pass =
      let R = rv_rows code trash in
      let rows = are-rows code trash small bytes word in
      let here = at1.here in let size = spelled-size front in
      passages-join (rv_processor code trash) true from high (length front) long q q1 u
      (part-passes R IsInstr rows true from [] front (return_code saved frame) q k (at ∙ omega arith) (straight-block is_straight front (all-straight front made.computes)) ran.through)
      (subst (λ z. PassesIn (rv_processor code trash) true from high long q1 z) goes-back.chain.leads
      (subst (λ z. StandsAt R true IsInstr from (front ++ z) → PassesIn (rv_processor code trash) true from (behind R from (front ++ z)) long q1 (done rv_does (return_code saved frame) q1))
      (append-nil (return_code saved frame))
      (λ whole. part-passes R IsInstr rows true from front (return_code saved frame) [] q1 whole (omega (arith, here, size)) goes-back.block goes-back.chain.through) k))

  -- the stack pointer does not fall: the result is put into another register, and the return lets it rise
  front-rises : Rises (rv_processor code trash) (length front) q
  front-rises =
      let R = rv_rows code trash in
      part-risen R IsInstr (are-rows code trash small bytes word) true from [] front (return_code saved frame) q k (at ∙ omega arith)
      (straight-block is_straight front (all-straight front made.computes)) ran.through (still-raises R front q (all-still front (result-within r)))
    where
      all-still : (is : List Instr) → Within is → All (StaysOutside (rv_rows code trash) false) is
      all-still [] h = All-nil (StaysOutside (rv_rows code trash) false)
      all-still (i ∷ is) h = All-cons (StaysOutside (rv_rows code trash) false) i is (instructions-stay code trash false i h.0) (all-still is h.1)

  back-rises : Rises (rv_processor code trash) long q1
  back-rises =
      let R = rv_rows code trash in
      let here = at1.here in let size = spelled-size front in
      part-risen R IsInstr (are-rows code trash small bytes word) true from front (return_code saved frame) [] q1
      (subst (λ z. StandsAt R true IsInstr from (front ++ z)) (sym (append-nil (return_code saved frame))) k) (omega (arith, here, size))
      goes-back.block goes-back.chain.through goes-back.rises

  all-rise : Rises (rv_processor code trash) (length front + long) q
  all-rise =
      let R = rv_rows code trash in
      let first = part-passes R IsInstr (are-rows code trash small bytes word) true from [] front (return_code saved frame) q k (at ∙ omega arith) (straight-block is_straight front (all-straight front made.computes)) ran.through in
      rises-join (rv_processor code trash) (length front) long q q1 first.leads front-rises back-rises

  -- the words of the frame come back
  is-left : IsLeft (rv_processor code trash) sp saved back (returned_word Riscv64 q.state.registers r) q u
  is-left = record {
    saved = λ j lt few. goes-back.saved j lt few ∙ ap (λ b. word_at b (saved_word (frame_pointer sp) j)) bytes-are;
    pointer = goes-back.pointer ∙ ap (λ b. word_at b (frame_pointer sp)) bytes-are;
    stack = goes-back.stack;
    result = λ x e. goes-back.result ∙ ap (λ g. g 10) registers-are ∙ made.value x e;
    bytes = goes-back.bytes ∙ bytes-are;
    mark = goes-back.mark ∙ ran.mark;
    here = goes-back.here;
    progress = goes-back.progress;
  }

  pub departs : Departure (rv_processor code trash) from high sp saved back (returned_word Riscv64 q.state.registers r) q
  departs =
      let z = made.few in let few = short.few in let some = short.some in
      departure (rv_processor code trash) sp saved back (returned_word Riscv64 q.state.registers r) q u low-frame f.high f.seen.stack is-left from high (length front + long) pass all-rise
      (omega (arith, z, few)) (omega (arith, some))

pub returns-lead : (saved : ℕ) (code : List ℕ) (trash : ℕ) → length code ≤ most_code → AreBytes code → trash < 2 ^ 64
    → ReturnsLead (rv_rows code trash) IsInstr saved (returned_code saved)
returns-lead saved code trash small bytes word frame from back r q ok f k there held runs at =
    departs code trash small bytes word saved frame from back r q ok f k there held runs at
