-- Returns leave their frame.
use Rattle.std.specs.List.{All, list_all}
use Rattle.std.proofs.lemmas.List.Elements.{All-nil, All-cons}
use Rattle.lg_sela_values.proofs.OfProcessor.OutsideLemmas.{instructions-stay}
use Rattle.lg_sela_values.proofs.WithinLemmas.{Within, number}
use Rattle.lg_sel.proofs.OfControl.StretchLemmas.{part-risen}
use Rattle.lg_carry.proofs.TurnLemmas.{rises-join, still-raises, block-rises}
use Rattle.lg_carry.specs.Carries.{Rises}
use Rattle.lg_sela_values.specs.Processor.A64Touched.{touched}
use Rattle.lg_carry.specs.Processors.{IsOff, is_below}
use Rattle.lg_carry.proofs.BelowLemmas.{not-below}
use Rattle.lg_carry.proofs.BlockLemmas.{no-width}
use Rattle.std.proofs.Common.{◌≡◌, ◌≢◌, ℕ, zero, suc, ◌+◌, ◌-◌, ◌*◌, ◌^◌, ◌<◌, ◌≤◌, true, false, List, [], ◌∷◌, Option, Some, refl, sym, ap, inr, subst}
use Rattle.std.proofs.Common.{◌∙◌, subst, arith, length, ◌++◌, append-nil, append_assoc, length-append}
use Rattle.std.proofs.lemmas.List.{length-take}
use Rattle.std.specs.Prelude.{ℤ, pos, negsuc, is_some, nat_lt, Bool, if◌then◌else◌}
use Rattle.lg_base.specs.Conventions.{portable_register}
use Rattle.lg_base.specs.Fields.{word_of}
use Rattle.lg_base.specs.Layout.{code_base, most_code, frame_pointer, return_word, saved_word}
use Rattle.lg_base.specs.Runs.{Running}
use Rattle.lg_base.specs.Words.{add_words}
use Rattle.lg_base.specs.declared.target.Target.TheVariants.{Aarch64}
use Rattle.lg_op.specs.declared.op.UnaryOp.TheVariants as unary
use Rattle.lg_a64.specs.Spelling.{IsInstr}
use Rattle.lg_a64.specs.declared.instruction.BranchRegOp.TheVariants.{Ret}
use Rattle.lg_a64.specs.declared.instruction.ImmOp.TheVariants.{Addi}
use Rattle.lg_a64.specs.declared.instruction.Instr.{Instr}
use Rattle.lg_a64.specs.declared.instruction.Instr.TheVariants as instr
use Rattle.lg_a64.specs.declared.instruction.UnscaledOp.TheVariants.{Ldur}
use Rattle.lg_a64.specs.declared.instruction.WideOp.TheVariants.{Movk}
use Rattle.lg_cpu.specs.A64Operators.{replaced}
use Rattle.lg_cpu.specs.A64Step.{loads, load_at, sets, computes, act}
use Rattle.lg_cpu.specs.HostSteps.{put}
use Rattle.lg_cpu.specs.Laws.{AreBytes}
use Rattle.lg_cpu.specs.States.{CpuState, goes_on}
use Rattle.lg_cpu.specs.Steps.{Run, after, arrived, status_of}
use Rattle.lg_temp.specs.Abis.{register_of}
use Rattle.lg_carry.specs.Blocks.{done, IsBlock, Along, StaysOutside, RunsBlock}
use Rattle.lg_carry.specs.Registers.{HasWord}
use Rattle.lg_carry.proofs.RegistersApartLemmas.{conventions-apart}
use Rattle.lg_sela_values.specs.Processor.A64Computers.{a64_computer}
use Rattle.lg_sela_values.specs.Processor.A64Rows.{a64_processor, a64_rows, a64_does, a64_seen, nzcv, is_straight, stack_pointer, link, acts_above}
use Rattle.lg_sela_values.specs.Processor.A64Rows as rows
use Rattle.lg_sela_values.specs.Processor.Computations.{all_compute, holding, computed}
use Rattle.lg_sela_values.proofs.OfProcessor.ComputerLemmas.{spellings-long}
use Rattle.lg_sela_values.proofs.OfProcessor.HeldLemmas.{put-same, put-other}
use Rattle.lg_sela_values.proofs.OfProcessor.NumberCodeLemmas.{first, more, numbers-are-loaded}
use Rattle.lg_sela_values.proofs.OfProcessor.RegisterLemmas.{register-small}
use Rattle.lg_sela_values.proofs.OfProcessor.RowLemmas.{are-rows}
use Rattle.lg_carry.specs.Nodes.Stretches.{HasFrame, StandsAt, behind, PassesIn}
use Rattle.lg_carry.proofs.OfNodes.StretchLemmas.{part-passes, passages-join}
use Rattle.lg_carry.specs.Values.Computers.{Held}
use Rattle.lg_carry.proofs.OfValues.ComputationLemmas.{RunsThrough}
use Rattle.lg_sel.specs.Control.Returns.{Returned, NoWord, OfRegister, OfNumber, OfLabel, returned_word, IsReturned, Departure, ReturnsLead}
use Rattle.lg_sel.proofs.OfControl.ChainLemmas.{RunsAt, next-at, Chain, chain-end, block-of, does, Raising, RaisedBy, raising-more, raising-chain}
use Rattle.lg_sel.proofs.OfControl.DepartureLemmas.{IsLeft, departure}
use Rattle.lg_sel.proofs.OfControl.FrameWordLemmas.{word_at, stack-word, saved-address, link-address, stack-address, pointer-address}
use Rattle.lg_sel.proofs.OfControl.StoreLemmas.{HasStack}
use Rattle.lg_sela_values.specs.Items.{low_quarter, next_quarter}
use Rattle.lg_sela_values.proofs.UnaryCodeLemmas.{unary-computed, unary-keeps}
use Rattle.lg_sela.specs.Control.Returns.{result, kept_loads, restores, link_load, near_return, far_return, leaving_code, return_code, result_code, returned_code}
use Rattle.lg_sela.proofs.OfControl.ComputedLemmas.{same-bytes}
use Rattle.lg_sela.proofs.OfControl.StretchLemmas.{front-high, front-runs, front-passed, front-after, front-run}

-- a load by FP
load-act : (q : CpuState) (rd by base address w : ℕ) (offset : ℤ) → q.registers by ≡ base → add_words base (word_of offset) ≡ address
    → HasWord q.bytes address w → act (instr.Unscaled Ldur rd by offset) q ≡ sets q rd w
load-act q rd by base address w offset at e held =
    ap (λ x. load_at q rd (add_words x (word_of offset)) 8 false) at ∙ ap (λ x. load_at q rd x 8 false) e ∙ ap (loads q rd 8 false) held

abbrev Raised : List Instr → Run CpuState → Run CpuState → Type 0
Raised is q u = Chain act (Raising act acts_above stack_pointer) is q u

-- a run in a frame of this many bytes, whose caller's stack pointer is this, at instruction k of n
pub record InFrame (base n k frame sp : ℕ) (q : Run CpuState) : Type 0 where
  pub at : RunsAt base n k q
  pub pointer : q.state.registers rows.frame_pointer ≡ sp - 16
  pub stack : q.state.registers stack_pointer + frame ≡ sp
  pub seen : HasStack q.state.bytes

-- the run after loads of this many of V0, V1 and V2, none of which lets the stack pointer fall
record Restored (is : List Instr) (base n k frame sp kept : ℕ) (q : Run CpuState) : Type 0 where
  end : Run CpuState
  chain : (rest : List Instr) (u : Run CpuState) → Raised rest end u → Raised (is ++ rest) q u
  inside : InFrame base n (k + length is) frame sp end
  saved : (j : ℕ) → j < kept → j < 3 → end.state.registers (portable_register Aarch64 (j + 3)) ≡ word_at q.state.bytes (saved_word (sp - 16) j)
  result_is : end.state.registers result ≡ q.state.registers result
  bytes : end.state.bytes ≡ q.state.bytes
  mark : end.state.mark ≡ q.state.mark

-- the run after the others: V0, V1 and V2 stay
record Leaves (is : List Instr) (q : Run CpuState) (sp back : ℕ) : Type 0 where
  end : Run CpuState
  chain : Raised is q end
  kept : (j : ℕ) → j < 3 → end.state.registers (portable_register Aarch64 (j + 3)) ≡ q.state.registers (portable_register Aarch64 (j + 3))
  pointer : end.state.registers rows.frame_pointer ≡ word_at q.state.bytes (sp - 16)
  stack : end.state.registers stack_pointer ≡ sp
  result_is : end.state.registers result ≡ q.state.registers result
  bytes : end.state.bytes ≡ q.state.bytes
  mark : end.state.mark ≡ q.state.mark
  here : end.state.pc ≡ back
  progress : status_of end.progress ≡ status_of (arrived back)

-- the run after instructions that return from a frame: all but the last are straight, and none lets the stack pointer fall
pub record Returns (code : List Instr) (q : Run CpuState) (sp kept back : ℕ) : Type 0 where
  pub end : Run CpuState
  pub chain : Chain act acts_above code q end
  pub block : IsBlock is_straight code
  pub rises : Along (does act) (RaisedBy act acts_above stack_pointer) code q
  pub saved : (j : ℕ) → j < kept → j < 3 → end.state.registers (portable_register Aarch64 (j + 3)) ≡ word_at q.state.bytes (saved_word (sp - 16) j)
  pub pointer : end.state.registers rows.frame_pointer ≡ word_at q.state.bytes (sp - 16)
  pub stack : end.state.registers stack_pointer ≡ sp
  pub result_is : end.state.registers result ≡ q.state.registers result
  pub bytes : end.state.bytes ≡ q.state.bytes
  pub mark : end.state.mark ≡ q.state.mark
  pub here : end.state.pc ≡ back
  pub progress : status_of end.progress ≡ status_of (arrived back)

-- ---- the instructions of a return, from a run in a frame
-- three loads are all
restores-all : (n : ℕ) → restores (suc (suc (suc n))) ≡ kept_loads
restores-all zero = refl
restores-all (suc n) = refl

module _ (base n k frame sp : ℕ) (low : 0x3FF00010 + 272 ≤ sp) (high : sp ≤ 0x40000000) (large : 272 ≤ frame) where
  abbrev fp : ℕ
  fp = sp - 16

  -- a word of the frame lies at or above the stack pointer
  frame-above : (w : ℕ → ℕ) (rd base : ℕ) (offset : ℤ) (x y : ℕ) → w base ≡ x → add_words x (word_of offset) ≡ y → w stack_pointer ≤ y
      → IsOff (is_below Aarch64 (w stack_pointer)) (touched (instr.Unscaled Ldur rd base offset) w)
  frame-above w rd base offset x y held leads over a le lt =
      let e : add_words (w base) (word_of offset) ≡ y = ap (λ z. add_words z (word_of offset)) held ∙ leads in
      not-below Aarch64 (w stack_pointer) a (inr (omega (arith, le, e, over)))

  -- it comes first
  loaded : (s u : Run CpuState) (rd address w : ℕ) (offset : ℤ) (rest : List Instr) → status_of s.progress ≡ Running → s.state.registers rows.frame_pointer ≡ fp
      → s.state.registers stack_pointer ≤ address → add_words fp (word_of offset) ≡ address → HasWord s.state.bytes address w
      → s.state.registers stack_pointer ≤ (sets s.state rd w).to.registers stack_pointer → Raised rest (after s (sets s.state rd w)) u
      → Raised (instr.Unscaled Ldur rd rows.frame_pointer offset ∷ rest) s u
  loaded s u rd address w offset rest runs pointer over leads held rises h =
      raising-more act acts_above stack_pointer (instr.Unscaled Ldur rd rows.frame_pointer offset) rest s u (sets s.state rd w) rises runs
      (frame-above s.state.registers rd rows.frame_pointer offset fp address pointer leads over)
      (load-act s.state rd rows.frame_pointer fp address w offset pointer leads held) h

  -- ---- V0, V1 and V2
  module _ (q : Run CpuState) (f : InFrame base n k frame sp q) where
    abbrev m : ℕ → Option ℕ
    m = q.state.bytes

    abbrev s1 : Run CpuState
    s1 = after q (sets q.state 19 (word_at m (saved_word fp 0)))

    abbrev s2 : Run CpuState
    s2 = after s1 (sets s1.state 20 (word_at m (saved_word fp 1)))

    abbrev s3 : Run CpuState
    s3 = after s2 (sets s2.state 21 (word_at m (saved_word fp 2)))

    there : (v : ℕ) → v < 3 → HasWord m (saved_word fp v) (word_at m (saved_word fp v))
    there v lt = stack-word m (saved_word fp v) f.seen (omega (arith, low, lt)) (omega (arith, high))

    over : (v : ℕ) → v < 3 → q.state.registers stack_pointer ≤ saved_word fp v
    over v lt = let z = f.stack in omega (arith, z, large, lt)

    first-load : (rest : List Instr) (u : Run CpuState) → Raised rest s1 u → Raised (instr.Unscaled Ldur 19 rows.frame_pointer (negsuc 7) ∷ rest) q u
    first-load rest u h =
        loaded q u 19 (saved_word fp 0) _ (negsuc 7) rest f.at.runs f.pointer (over 0 (omega arith)) (saved-address sp 0 (omega arith) low high) (there 0 (omega arith))
        (omega arith) h

    second-load : RunsAt base n (suc k) s1 → (rest : List Instr) (u : Run CpuState) → Raised rest s2 u
        → Raised (instr.Unscaled Ldur 20 rows.frame_pointer (negsuc 15) ∷ rest) s1 u
    second-load a rest u h =
        loaded s1 u 20 (saved_word fp 1) _ (negsuc 15) rest a.runs f.pointer (over 1 (omega arith)) (saved-address sp 1 (omega arith) low high) (there 1 (omega arith))
        (omega arith) h

    third-load : RunsAt base n (suc (suc k)) s2 → (rest : List Instr) (u : Run CpuState) → Raised rest s3 u
        → Raised (instr.Unscaled Ldur 21 rows.frame_pointer (negsuc 23) ∷ rest) s2 u
    third-load a rest u h =
        loaded s2 u 21 (saved_word fp 2) _ (negsuc 23) rest a.runs f.pointer (over 2 (omega arith)) (saved-address sp 2 (omega arith) low high) (there 2 (omega arith))
        (omega arith) h

    a1 : k + 1 ≤ n → RunsAt base n (suc k) s1
    a1 room = next-at base n k q _ _ _ _ (omega (arith, room)) f.at

    a2 : k + 2 ≤ n → RunsAt base n (suc (suc k)) s2
    a2 room = next-at base n (suc k) s1 _ _ _ _ (omega (arith, room)) (a1 (omega (arith, room)))

    a3 : k + 3 ≤ n → RunsAt base n (suc (suc (suc k))) s3
    a3 room = next-at base n (suc (suc k)) s2 _ _ _ _ (omega (arith, room)) (a2 (omega (arith, room)))

    three : (kept : ℕ) → k + 3 ≤ n → Restored kept_loads base n k frame sp kept q
    three kept room = record {
      end = s3;
      chain = λ rest u h. first-load _ u (second-load (a1 (omega (arith, room))) _ u (third-load (a2 (omega (arith, room))) rest u h));
      inside = record { at = subst (λ x. RunsAt base n x s3) (omega arith) (a3 room); pointer = f.pointer; stack = f.stack; seen = f.seen };
      saved = λ j few lt. words j lt;
      result_is = refl;
      bytes = refl;
      mark = refl;
    }
      where
        words : (j : ℕ) → j < 3 → s3.state.registers (portable_register Aarch64 (j + 3)) ≡ word_at m (saved_word fp j)
        words (suc (suc (suc j))) lt = absurd (omega (arith, lt))
        words j lt = refl

    two : k + 2 ≤ n → Restored (restores 2) base n k frame sp 2 q
    two room = record {
      end = s2;
      chain = λ rest u h. first-load _ u (second-load (a1 (omega (arith, room))) rest u h);
      inside = record { at = subst (λ x. RunsAt base n x s2) (omega arith) (a2 room); pointer = f.pointer; stack = f.stack; seen = f.seen };
      saved = λ j few lt. words j few;
      result_is = refl;
      bytes = refl;
      mark = refl;
    }
      where
        words : (j : ℕ) → j < 2 → s2.state.registers (portable_register Aarch64 (j + 3)) ≡ word_at m (saved_word fp j)
        words zero lt = refl
        words (suc zero) lt = refl
        words (suc (suc j)) lt = absurd (omega (arith, lt))

    one : k + 1 ≤ n → Restored (restores 1) base n k frame sp 1 q
    one room = record {
      end = s1;
      chain = first-load;
      inside = record { at = subst (λ x. RunsAt base n x s1) (omega arith) (a1 room); pointer = f.pointer; stack = f.stack; seen = f.seen };
      saved = λ j few lt. words j few;
      result_is = refl;
      bytes = refl;
      mark = refl;
    }
      where
        words : (j : ℕ) → j < 1 → s1.state.registers (portable_register Aarch64 (j + 3)) ≡ word_at m (saved_word fp j)
        words zero lt = refl
        words (suc j) lt = absurd (omega (arith, lt))

    none : Restored [] base n k frame sp 0 q
    none = record {
      end = q;
      chain = λ rest u h. h;
      inside = record { at = subst (λ x. RunsAt base n x q) (omega arith) f.at; pointer = f.pointer; stack = f.stack; seen = f.seen };
      saved = λ j few lt. absurd (omega (arith, few));
      result_is = refl;
      bytes = refl;
      mark = refl;
    }

    restored : (kept : ℕ) → k + length (restores kept) ≤ n → Restored (restores kept) base n k frame sp kept q
    restored zero room = none
    restored (suc zero) room = one (omega (arith, room))
    restored (suc (suc zero)) room = two (omega (arith, room))
    restored (suc (suc (suc j))) room =
        let all = restores-all j in let size = ap length all in
        subst (λ is. Restored is base n k frame sp (suc (suc (suc j))) q) (sym all) (three (suc (suc (suc j))) (omega (arith, room, size)))

  -- ---- the return address, the caller's FP and the stack pointer
  module _ (q : Run CpuState) (f : InFrame base n k frame sp q) (back : ℕ) (held : HasWord q.state.bytes (return_word sp) back) where
    abbrev word : ℕ
    word = word_at q.state.bytes fp

    caller : HasWord q.state.bytes fp word
    caller = stack-word q.state.bytes fp f.seen (omega (arith, low)) (omega (arith, high))

    -- the jump after them
    abbrev left : Run CpuState → Run CpuState
    left s = after s (goes_on s.state back)

    abbrev l1 : Run CpuState
    l1 = after q (sets q.state link back)

    b1 : k + 1 ≤ n → RunsAt base n (suc k) l1
    b1 room = next-at base n k q _ _ _ _ (omega (arith, room)) f.at

    link-back : (rest : List Instr) (u : Run CpuState) → Raised rest l1 u → Raised (link_load ∷ rest) q u
    link-back rest u h =
        loaded q u link (return_word sp) back (pos 8) rest f.at.runs f.pointer (let z = f.stack in omega (arith, z, large)) (link-address sp low high) held (omega arith) h

    -- ---- FP from its own word, and then the stack pointer
    module _ (room : k + 4 ≤ n) where
      abbrev n2 : Run CpuState
      n2 = after l1 (sets l1.state rows.frame_pointer word)

      abbrev n3 : Run CpuState
      n3 = after n2 (computes n2.state (put n2.state.registers stack_pointer sp) n2.state.flags)

      c1 : RunsAt base n (suc k) l1
      c1 = b1 (omega (arith, room))

      c2 : RunsAt base n (suc (suc k)) n2
      c2 = next-at base n (suc k) l1 _ _ _ _ (omega (arith, room)) c1

      c3 : RunsAt base n (suc (suc (suc k))) n3
      c3 = next-at base n (suc (suc k)) n2 _ _ _ _ (omega (arith, room)) c2

      rises : add_words (q.state.registers stack_pointer) frame ≡ sp
      rises = let z = f.stack in grind (arith, z, high)

      near-leaves : Leaves (link_load ∷ near_return frame) q sp back
      near-leaves = record {
        end = left n3;
        chain = link-back (near_return frame) (left n3)
            (loaded l1 (left n3) rows.frame_pointer fp word (pos 0) (instr.Imm Addi stack_pointer stack_pointer frame false ∷ instr.BranchReg Ret link ∷ []) c1.runs f.pointer
            (let z = f.stack in omega (arith, z, large)) (pointer-address sp low high) caller (omega arith)
            (raising-more act acts_above stack_pointer _ _ n2 (left n3) (computes n2.state (put n2.state.registers stack_pointer sp) n2.state.flags)
            (let z = f.stack in omega (arith, z)) c2.runs (no-width _ _)
            (ap (λ x. computes n2.state (put n2.state.registers stack_pointer x) n2.state.flags) rises)
            (raising-more act acts_above stack_pointer _ _ n3 (left n3) (goes_on n3.state back) (omega arith) c3.runs (no-width _ _) refl
            (chain-end act (Raising act acts_above stack_pointer) (left n3)))));
        kept = kept;
        pointer = refl;
        stack = refl;
        result_is = refl;
        bytes = refl;
        mark = refl;
        here = refl;
        progress = refl;
      }
        where
          kept : (j : ℕ) → j < 3 → (left n3).state.registers (portable_register Aarch64 (j + 3)) ≡ q.state.registers (portable_register Aarch64 (j + 3))
          kept (suc (suc (suc j))) lt = absurd (omega (arith, lt))
          kept j lt = refl

    -- ---- the stack pointer to that word, FP from there, and then the stack pointer again
    module _ (room : k + 5 ≤ n) where
      abbrev f2 : Run CpuState
      f2 = after l1 (computes l1.state (put l1.state.registers stack_pointer fp) l1.state.flags)

      abbrev f3 : Run CpuState
      f3 = after f2 (sets f2.state rows.frame_pointer word)

      abbrev f4 : Run CpuState
      f4 = after f3 (computes f3.state (put f3.state.registers stack_pointer sp) f3.state.flags)

      d1 : RunsAt base n (suc k) l1
      d1 = b1 (omega (arith, room))

      d2 : RunsAt base n (suc (suc k)) f2
      d2 = next-at base n (suc k) l1 _ _ _ _ (omega (arith, room)) d1

      d3 : RunsAt base n (suc (suc (suc k))) f3
      d3 = next-at base n (suc (suc k)) f2 _ _ _ _ (omega (arith, room)) d2

      d4 : RunsAt base n (suc (suc (suc (suc k)))) f4
      d4 = next-at base n (suc (suc (suc k))) f3 _ _ _ _ (omega (arith, room)) d3

      far-leaves : Leaves (link_load ∷ far_return) q sp back
      far-leaves = record {
        end = left f4;
        chain = link-back far_return (left f4)
            (raising-more act acts_above stack_pointer _ _ l1 (left f4) (computes l1.state (put l1.state.registers stack_pointer fp) l1.state.flags)
            (let z = f.stack in omega (arith, z, large)) d1.runs (no-width _ _)
            (ap (λ x. computes l1.state (put l1.state.registers stack_pointer (add_words x 0)) l1.state.flags) f.pointer
            ∙ ap (λ x. computes l1.state (put l1.state.registers stack_pointer x) l1.state.flags) (pointer-address sp low high))
            (raising-more act acts_above stack_pointer _ _ f2 (left f4) (sets f2.state rows.frame_pointer word) (omega arith) d2.runs
            (frame-above f2.state.registers rows.frame_pointer stack_pointer (pos 0) fp fp refl (pointer-address sp low high) (omega arith))
            (load-act f2.state rows.frame_pointer stack_pointer fp fp _ (pos 0) refl (pointer-address sp low high) caller)
            (raising-more act acts_above stack_pointer _ _ f3 (left f4) (computes f3.state (put f3.state.registers stack_pointer sp) f3.state.flags) (omega arith) d3.runs
            (no-width _ _) (ap (λ x. computes f3.state (put f3.state.registers stack_pointer x) f3.state.flags) (stack-address sp low high))
            (raising-more act acts_above stack_pointer _ _ f4 (left f4) (goes_on f4.state back) (omega arith) d4.runs (no-width _ _) refl
            (chain-end act (Raising act acts_above stack_pointer) (left f4))))));
        kept = kept;
        pointer = refl;
        stack = refl;
        result_is = refl;
        bytes = refl;
        mark = refl;
        here = refl;
        progress = refl;
      }
        where
          kept : (j : ℕ) → j < 3 → (left f4).state.registers (portable_register Aarch64 (j + 3)) ≡ q.state.registers (portable_register Aarch64 (j + 3))
          kept (suc (suc (suc j))) lt = absurd (omega (arith, lt))
          kept j lt = refl

    leaves : k + length (leaving_code frame) ≤ n → Leaves (leaving_code frame) q sp back
    leaves room = by (nat_lt frame 4096) room
      where
        by : (b : Bool) → k + length (link_load ∷ (if b then near_return frame else far_return)) ≤ n
            → Leaves (link_load ∷ (if b then near_return frame else far_return)) q sp back
        by true room = near-leaves (omega (arith, room))
        by false room = far-leaves (omega (arith, room))

-- all but the last are straight
straight-restores : (kept : ℕ) (is : List Instr) → list_all is_straight is ≡ true → list_all is_straight (restores kept ++ is) ≡ true
straight-restores (suc (suc (suc (suc n)))) is h = h
straight-restores kept is h = h

return-block : (kept frame : ℕ) → IsBlock is_straight (return_code kept frame)
return-block kept frame = by (nat_lt frame 4096)
  where
    after-loads : (is : List Instr) → list_all is_straight is ≡ true → IsBlock is_straight (restores kept ++ (is ++ (instr.BranchReg Ret link ∷ [])))
    after-loads is h =
        subst (IsBlock is_straight) (append_assoc (restores kept) is (instr.BranchReg Ret link ∷ []))
        (block-of is_straight (restores kept ++ is) (instr.BranchReg Ret link) (straight-restores kept is h))

    by : (b : Bool) → IsBlock is_straight (restores kept ++ (link_load ∷ (if b then near_return frame else far_return)))
    by true =
        after-loads (link_load ∷ instr.Unscaled Ldur rows.frame_pointer rows.frame_pointer (pos 0) ∷ instr.Imm Addi stack_pointer stack_pointer frame false ∷ []) refl
    by false =
        after-loads (link_load ∷ instr.Imm Addi stack_pointer rows.frame_pointer 0 false ∷ instr.Unscaled Ldur rows.frame_pointer stack_pointer (pos 0)
        ∷ instr.Imm Addi stack_pointer stack_pointer 16 false ∷ []) refl

pub returns : (base n k : ℕ) (q : Run CpuState) (kept frame sp back : ℕ) → 0x3FF00010 + 272 ≤ sp → sp ≤ 0x40000000 → 272 ≤ frame → InFrame base n k frame sp q
    → HasWord q.state.bytes (return_word sp) back → k + length (return_code kept frame) ≤ n → Returns (return_code kept frame) q sp kept back
returns base n k q kept frame sp back low high large f held room =
    let size = length-append (restores kept) (leaving_code frame) in
    let r = restored base n k frame sp low high large q f kept (omega (arith, room, size)) in
    let held-there = subst (λ b. HasWord b (return_word sp) back) (sym r.bytes) held in
    let l = leaves base n (k + length (restores kept)) frame sp low high large r.end r.inside back held-there (omega (arith, room, size)) in
    let both = raising-chain act acts_above stack_pointer (return_code kept frame) q l.end (r.chain (leaving_code frame) l.end l.chain) in
    record {
      end = l.end;
      chain = both.0;
      rises = both.1;
      block = return-block kept frame;
      saved = λ j few lt. l.kept j lt ∙ r.saved j few lt;
      pointer = l.pointer ∙ ap (λ b. word_at b (sp - 16)) r.bytes;
      stack = l.stack;
      result_is = l.result_is ∙ r.result_is;
      bytes = l.bytes ∙ r.bytes;
      mark = l.mark ∙ r.mark;
      here = l.here;
      progress = l.progress;
    }

-- it has at most 8
record IsShort (n : ℕ) : Type 0 where
  some : 0 < n
  few : n ≤ 8

return-short : (kept frame : ℕ) → IsShort (length (return_code kept frame))
return-short kept frame = by (nat_lt frame 4096)
  where
    by : (b : Bool) → IsShort (length (restores kept ++ (link_load ∷ (if b then near_return frame else far_return))))
    by true =
        let loads = length-take kept kept_loads in
        let size = length-append (restores kept) (link_load ∷ near_return frame) in
        record { some = omega (arith, size); few = omega (arith, loads, size) }
    by false =
        let loads = length-take kept kept_loads in
        let size = length-append (restores kept) (link_load ∷ far_return) in
        record { some = omega (arith, size); few = omega (arith, loads, size) }

-- ---- what is in front of it
-- it writes no stack pointer
result-within : (r : Returned) → Within (result_code r)
result-within NoWord = tt
result-within (OfRegister a) = (refl, tt)
result-within (OfNumber v) = number result v refl
result-within (OfLabel address) = (refl, (refl, tt))

some-is : (v x : ℕ) → Some v ≡ Some x → v ≡ x
some-is v x e = cc

off-result : rows.frame_pointer ≢ result
off-result z = (conventions-apart Aarch64).result_pointer (sym z)

stack-off-result : stack_pointer ≢ result
stack-off-result z = cc

-- the address of a label
label-made : (v : ℕ) → v < 2 ^ 30 → replaced (low_quarter v * 1) (2 ^ 16) (next_quarter v) ≡ v
label-made v small = omega (arith, small)

label-loaded : (v : ℕ) → v < 2 ^ 30 → (w : Held) → computed (result_code (OfLabel v)) w ≡ holding (put w.registers result v) w.flags
label-loaded v small w =
    let within : result < 31 = omega arith in
    ap (computed (instr.Wide Movk result (next_quarter v) 1 ∷ [])) (first result within w (low_quarter v * 1))
    ∙ more result within w (low_quarter v * 1) (next_quarter v) 1
    ∙ ap (λ z. holding (put w.registers result z) w.flags) (label-made v small)

-- the word is in the register of the result, and FP and the stack pointer stay
record Makes (r : Returned) (w : Held) : Type 0 where
  computes : all_compute (result_code r) ≡ true
  few : length (result_code r) ≤ 4
  value : (x : ℕ) → returned_word Aarch64 w.registers r ≡ Some x → (computed (result_code r) w).registers result ≡ x
  frame : (computed (result_code r) w).registers rows.frame_pointer ≡ w.registers rows.frame_pointer
  stack : (computed (result_code r) w).registers stack_pointer ≡ w.registers stack_pointer

-- where code loads a word
makes-loaded : (r : Returned) (w : Held) (v : ℕ) → returned_word Aarch64 w.registers r ≡ Some v → all_compute (result_code r) ≡ true
    → length (result_code r) ≤ 4 → computed (result_code r) w ≡ holding (put w.registers result v) w.flags → Makes r w
makes-loaded r w v given all few value = record {
  computes = all;
  few = few;
  value = λ x e. ap (λ u. u.registers result) value ∙ put-same w.registers result v ∙ some-is v x (sym given ∙ e);
  frame = ap (λ u. u.registers rows.frame_pointer) value ∙ put-other w.registers result v rows.frame_pointer off-result;
  stack = ap (λ u. u.registers stack_pointer) value ∙ put-other w.registers result v stack_pointer stack-off-result;
}

makes : (r : Returned) (w : Held) → IsReturned r → Makes r w
makes NoWord w ok = record { computes = refl; few = omega arith; value = λ x e. cc; frame = refl; stack = refl }
makes (OfRegister a) w ok =
    let ra : ℕ = register_of Aarch64 a in let l = register-small a in record {
      computes = refl;
      few = omega arith;
      value = λ x e. unary-computed result ra (omega arith) (omega (arith, l)) w unary.Mov ∙ some-is (w.registers ra) x e;
      frame = unary-keeps unary.Mov result ra w rows.frame_pointer off-result;
      stack = unary-keeps unary.Mov result ra w stack_pointer stack-off-result;
    }
makes (OfNumber v) w ok = let l = numbers-are-loaded result v (omega arith) ok in makes-loaded (OfNumber v) w v refl l.computes l.few (l.value w)
makes (OfLabel address) w ok = makes-loaded (OfLabel address) w address refl refl (omega arith) (label-loaded address ok w)

-- ---- the return
module _ (code : List ℕ) (trash : ℕ) (small : length code ≤ most_code) (bytes : AreBytes code) (word : trash < 2 ^ 64)
    (saved frame from back : ℕ) (r : Returned) (q : Run CpuState) (ok : IsReturned r) (f : HasFrame Aarch64 frame (a64_seen q))
    (k : StandsAt (a64_rows code trash) true IsInstr from (returned_code saved frame r))
    (held : HasWord q.state.bytes (return_word (q.state.registers stack_pointer + frame)) back)
    (runs : status_of q.progress ≡ Running) (at : q.state.pc ≡ from) where
  abbrev sp : ℕ
  sp = q.state.registers stack_pointer + frame

  abbrev front : List Instr
  front = result_code r

  abbrev high : ℕ
  high = behind (a64_rows code trash) from (returned_code saved frame r)

  low-frame : 0x3FF00010 + 272 ≤ sp
  low-frame = let l = f.low in let z = f.large in omega (arith, l, z)

  abbrev w : Held
  w = holding q.state.registers (nzcv q.state.flags)

  made : Makes r w
  made = makes r w ok

  abbrev long : ℕ
  long = length (return_code saved frame)

  short : IsShort long
  short = return-short saved frame

  top : from + 4 * length front + 4 * long ≤ code_base + most_code
  top = front-high true code trash small bytes word from front (return_code saved frame) q k short.some made.computes runs at

  ran : RunsThrough (a64_computer code trash) front q
  ran = front-runs true code trash small bytes word from front (return_code saved frame) q k short.some made.computes runs at

  abbrev q1 : Run CpuState
  q1 = done a64_does front q

  here1 : q1.state.pc ≡ from + 4 * length front
  here1 = front-after true code trash small bytes word from front (return_code saved frame) q k short.some made.computes runs at

  registers-are : q1.state.registers ≡ (computed front w).registers
  registers-are = ap (λ h. h.registers) ran.holds

  bytes-are : q1.state.bytes ≡ q.state.bytes
  bytes-are = same-bytes q1.state.bytes q.state.bytes ran.bytes

  at1 : RunsAt from (length front + long) (length front) q1
  at1 = record { runs = ran.runs; here = here1; low = k.low; high = omega (arith, top) }

  pointer1 : q1.state.registers rows.frame_pointer ≡ sp - 16
  pointer1 = ap (λ g. g rows.frame_pointer) registers-are ∙ made.frame ∙ f.pointer

  there1 : HasStack q1.state.bytes
  there1 j e = ap (λ b. is_some (b j)) bytes-are ∙ f.seen.stack j e

  held1 : HasWord q1.state.bytes (return_word sp) back
  held1 = subst (λ b. HasWord b (return_word sp) back) (sym bytes-are) held

  stack1 : q1.state.registers stack_pointer + frame ≡ sp
  stack1 = ap (λ g. g stack_pointer + frame) registers-are ∙ ap (λ x. x + frame) made.stack

  goes-back : Returns (return_code saved frame) q1 sp saved back
  goes-back =
      returns from (length front + long) (length front) q1 saved frame sp back low-frame f.high f.large
      record { at = at1; pointer = pointer1; stack = stack1; seen = there1 } held1 (omega arith)

  abbrev u : Run CpuState
  u = goes-back.end

  pass : PassesIn (a64_processor code trash) true from high (length front + long) q u
  pass =
      let size = spellings-long front in
      passages-join (a64_processor code trash) true from high (length front) long q q1 u
      (front-passed true code trash small bytes word from front (return_code saved frame) q k short.some made.computes runs at)
      (subst (λ z. PassesIn (a64_processor code trash) true from high long q1 z) goes-back.chain.leads
      (subst (λ z. StandsAt (a64_rows code trash) true IsInstr from (front ++ z)
      → PassesIn (a64_processor code trash) true from (behind (a64_rows code trash) from (front ++ z)) long q1 (done a64_does (return_code saved frame) q1))
      (append-nil (return_code saved frame))
      (λ whole. part-passes (a64_rows code trash) IsInstr (are-rows code trash small bytes word) true from front (return_code saved frame) [] q1 whole
      (omega (arith, here1, size)) goes-back.block goes-back.chain.through) k))

  -- the stack pointer does not fall: the result is put into another register, and the return lets it rise
  front-block : RunsBlock (a64_rows code trash) front q
  front-block = front-run true code trash small bytes word from front (return_code saved frame) q k short.some made.computes runs at

  front-rises : Rises (a64_processor code trash) (length front) q
  front-rises = block-rises (a64_rows code trash) front q front-block (still-raises (a64_rows code trash) front q (all-still front (result-within r)))
    where
      all-still : (is : List Instr) → Within is → All (StaysOutside (a64_rows code trash) false) is
      all-still [] h = All-nil (StaysOutside (a64_rows code trash) false)
      all-still (i ∷ is) h = All-cons (StaysOutside (a64_rows code trash) false) i is (instructions-stay code trash false i h.0) (all-still is h.1)

  back-rises : Rises (a64_processor code trash) long q1
  back-rises =
      let size = spellings-long front in
      part-risen (a64_rows code trash) IsInstr (are-rows code trash small bytes word) true from front (return_code saved frame) [] q1
      (subst (λ z. StandsAt (a64_rows code trash) true IsInstr from (front ++ z)) (sym (append-nil (return_code saved frame))) k) (omega (arith, here1, size))
      goes-back.block goes-back.chain.through goes-back.rises

  all-rise : Rises (a64_processor code trash) (length front + long) q
  all-rise = rises-join (a64_processor code trash) (length front) long q q1 front-block.leads front-rises back-rises

  -- the words of the frame come back
  is-left : IsLeft (a64_processor code trash) sp saved back (returned_word Aarch64 q.state.registers r) q u
  is-left = record {
    saved = λ j kept lt. goes-back.saved j kept lt ∙ ap (λ b. word_at b (saved_word (frame_pointer sp) j)) bytes-are;
    pointer = goes-back.pointer ∙ ap (λ b. word_at b (frame_pointer sp)) bytes-are;
    stack = goes-back.stack;
    result = λ x e. goes-back.result_is ∙ ap (λ g. g result) registers-are ∙ made.value x e;
    bytes = goes-back.bytes ∙ bytes-are;
    mark = goes-back.mark ∙ ran.mark;
    here = goes-back.here;
    progress = goes-back.progress;
  }

  pub departs : Departure (a64_processor code trash) from high sp saved back (returned_word Aarch64 q.state.registers r) q
  departs =
      let z = made.few in let few = short.few in let some = short.some in
      departure (a64_processor code trash) sp saved back (returned_word Aarch64 q.state.registers r) q u low-frame f.high f.seen.stack is-left from high (length front + long) pass all-rise
      (omega (arith, z, few)) (omega (arith, some))

pub returns-lead : (saved : ℕ) (code : List ℕ) (trash : ℕ) → length code ≤ most_code → AreBytes code → trash < 2 ^ 64
    → ReturnsLead (a64_rows code trash) IsInstr saved (returned_code saved)
returns-lead saved code trash small bytes word frame from back r q ok f k there held runs at =
    departs code trash small bytes word saved frame from back r q ok f k held runs at
