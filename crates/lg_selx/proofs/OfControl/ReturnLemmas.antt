-- Returns leave their frame.
use Rattle.std.proofs.Common.{◌≡◌, ℕ, zero, suc, ◌+◌, ◌-◌, ◌*◌, ◌^◌, ◌<◌, ◌≤◌, List, [], ◌∷◌, ◌++◌, Option, Some, None, refl, ap, ◌∙◌, subst, arith, length, true, false, sym}
use Rattle.std.proofs.Common.{append_assoc, length-append}
use Rattle.std.specs.Prelude.{ℤ, pos, negsuc}
use Rattle.std.specs.Option.{option_and_then}
use Rattle.std.specs.List.{All}
use Rattle.lg_sel.proofs.ListLemmas.{each-append}
use Rattle.lg_sel.specs.Holes.{Each}
use Rattle.lg_selx_values.proofs.GoodLemmas.{number-within}
use Rattle.lg_selx_values.specs.Processor.Destinations.{WritesWithin}
use Rattle.lg_carry.proofs.TurnLemmas.{still-done, done-append, along-append, last-raises, still-raises, block-rises, rises-last}
use Rattle.lg_carry.specs.Rows.{Rows}
use Rattle.lg_carry.specs.Blocks.{done, Along, Raises, RunsBlock, StaysOutside}
use Rattle.lg_carry.specs.Carries.{Rises}
use Rattle.lg_base.specs.Conventions.{portable_register}
use Rattle.lg_base.specs.Fields.{word_of}
use Rattle.lg_base.specs.Layout.{most_code, frame_pointer, return_word, saved_word}
use Rattle.lg_base.specs.Runs.{Running}
use Rattle.lg_base.specs.Spaces.{loaded}
use Rattle.lg_base.specs.Words.{add_words}
use Rattle.lg_base.specs.declared.flags.Flags.{Flags}
use Rattle.lg_base.specs.declared.target.Target.TheVariants.{X86_64}
use Rattle.lg_op.specs.declared.operand.Reg.TheVariants.{R0}
use Rattle.lg_temp.specs.Abis.{register_of}
use Rattle.lg_x86.specs.Spelling.{IsInstr}
use Rattle.lg_x86.specs.declared.instruction.BareOp.TheVariants.{Ret}
use Rattle.lg_x86.specs.declared.instruction.Instr.{Instr}
use Rattle.lg_x86.specs.declared.instruction.Instr.TheVariants as instr
use Rattle.lg_x86.specs.declared.instruction.LoadOp.TheVariants.{Ld64, Lea}
use Rattle.lg_cpu.specs.HostSteps.{put}
use Rattle.lg_cpu.specs.Laws.{AreBytes}
use Rattle.lg_cpu.specs.States.{CpuState, arrives}
use Rattle.lg_cpu.specs.Steps.{Run, Effect, after, status_of}
use Rattle.lg_cpu.specs.X86Step.{Scene, scene_of, made, sets_loaded, returns}
use Rattle.lg_carry.specs.Registers.{HasWord}
use Rattle.lg_selx_values.specs.Processor.MakingNodes.{scene}
use Rattle.lg_carry.specs.Processors.{IsOff, is_below}
use Rattle.lg_selx_values.proofs.OfProcessor.SlotLemmas.{in-zone}
use Rattle.lg_carry.proofs.BlockLemmas.{no-width}
use Rattle.lg_selx_values.specs.Processor.Makings.{makes, AreAbove}
use Rattle.lg_selx_values.specs.Processor.X86Rows.{x86_processor, x86_rows, x86_seen, x86_does}
use Rattle.lg_selx_values.proofs.OfProcessor.MakingLemmas.{makes-append, makings-still, still-above, above-append, above-first}
use Rattle.lg_selx_values.proofs.OfProcessor.NumberCodeLemmas.{row-loads}
use Rattle.lg_carry.specs.Nodes.Stretches.{HasFrame, StandsAt, behind, PassesIn}
use Rattle.lg_sel.specs.Control.Returns.{Returned, NoWord, OfRegister, OfNumber, OfLabel, returned_word, IsReturned, Departure, ReturnsLead}
use Rattle.lg_sel.proofs.OfControl.DepartureLemmas.{IsLeft, departure}
use Rattle.lg_sel.proofs.OfControl.FrameWordLemmas.{word_at, stack-word, saved-address, pointer-address}
use Rattle.lg_sel.proofs.OfControl.StoreLemmas.{HasStack}
use Rattle.lg_selx_values.proofs.BinaryCodeLemmas.{some-same}
use Rattle.lg_selx.specs.Control.Returns.{restores, leave_code, restore_code, result_code, returned_code}
use Rattle.lg_selx.proofs.OfControl.TakenLemmas.{each-taken}
use Rattle.std.proofs.lemmas.List.{length-take, take_all}
use Rattle.lg_selx.proofs.OfControl.StretchLemmas.{front_run, front_state, front-passed, front-block, front-left, all-still}

-- ---- the word that is returned
-- it is in rax, and FP stays
record Results (r : Returned) (s : Scene) : Type 0 where
  registers : ℕ → ℕ
  makes_it : makes (result_code r) s ≡ Some (scene registers s.flags s.bytes)
  value : (x : ℕ) → returned_word X86_64 s.registers r ≡ Some x → registers 0 ≡ x
  frame : registers 5 ≡ s.registers 5
  stack : registers 4 ≡ s.registers 4
  few : length (result_code r) ≤ 1

results : (r : Returned) (s : Scene) → IsReturned r → Results r s
results NoWord s ok = record { registers = s.registers; makes_it = refl; value = λ x e. cc; frame = refl; stack = refl; few = omega arith }
results (OfRegister R0) s ok = record { registers = s.registers; makes_it = refl; value = λ x e. some-same (s.registers 0) x e; frame = refl; stack = refl; few = omega arith }
results (OfRegister a) s ok = record {
  registers = put s.registers 0 (s.registers (register_of X86_64 a));
  makes_it = refl;
  value = λ x e. some-same (s.registers (register_of X86_64 a)) x e;
  frame = refl;
  stack = refl;
  few = omega arith;
}
results (OfNumber v) s ok = record {
  registers = put s.registers 0 v;
  makes_it = ap (option_and_then (makes [])) ((row-loads 0 v (omega arith) ok).value s);
  value = λ x e. some-same v x e;
  frame = refl;
  stack = refl;
  few = omega arith;
}
results (OfLabel address) s ok = record {
  registers = put s.registers 0 address;
  makes_it = refl;
  value = λ x e. some-same address x e;
  frame = refl;
  stack = refl;
  few = omega arith;
}

-- what makes it writes no stack pointer
result-within : (r : Returned) → Each (WritesWithin false) (result_code r)
result-within NoWord = tt
result-within (OfRegister R0) = tt
result-within (OfRegister a) = ((refl, tt), tt)
result-within (OfNumber v) = (number-within 0 v refl, tt)
result-within (OfLabel address) = ((refl, tt), tt)

-- ---- the words of the frame
-- a load by FP
load-made : (s : Scene) (d fp address x : ℕ) (offset : ℤ) → s.registers 5 ≡ fp → add_words fp (word_of offset) ≡ address → HasWord s.bytes address x
    → made (instr.Load Ld64 d 5 offset) s ≡ Some (scene (put s.registers d x) s.flags s.bytes)
load-made s d fp address x offset at e held =
    ap (λ z. sets_loaded Ld64 d s (loaded s.bytes z 8)) (ap (λ y. add_words y (word_of offset)) at ∙ e) ∙ ap (sets_loaded Ld64 d s) held

-- of a word that lies no further below the stack pointer than the zone
load-above : (w : ℕ → ℕ) (address : ℕ) (offset : ℤ) → add_words (w 5) (word_of offset) ≡ address → w 4 ≤ address + 128
    → IsOff (is_below X86_64 (w 4)) record { from = add_words (w 5) (word_of offset); width = 8 }
load-above w address offset at low a le lt = in-zone (w 4) a (omega (arith, le, at, low))

below-return : (sp : ℕ) → 0x3FF00010 + 272 ≤ sp → sp ≤ 0x40000000 → add_words (sp - 16) 8 ≡ sp - 8
below-return sp low high = grind (arith, low, high)

pops : (sp : ℕ) → 0x3FF00010 + 272 ≤ sp → sp ≤ 0x40000000 → add_words (sp - 8) 8 ≡ sp
pops sp low high = grind (arith, low, high)

module _ (w : ℕ → ℕ) (f : Flags) (m : ℕ → Option ℕ) (sp : ℕ) (low : 0x3FF00010 + 272 ≤ sp) (high : sp ≤ 0x40000000) (pointer : w 5 ≡ sp - 16)
    (there : HasStack m) where
  abbrev fp : ℕ
  fp = sp - 16

  abbrev w1 : ℕ → ℕ
  w1 = put w 3 (word_at m (saved_word fp 0))

  abbrev w2 : ℕ → ℕ
  w2 = put w1 13 (word_at m (saved_word fp 1))

  abbrev w3 : ℕ → ℕ
  w3 = put w2 14 (word_at m (saved_word fp 2))

  -- one of V0, V1 and V2 is loaded
  abbrev load : ℕ → ℕ → Instr
  load d v = instr.Load Ld64 d 5 (negsuc (7 + 8 * v))

  held-there : (v : ℕ) → v < 3 → HasWord m (saved_word fp v) (word_at m (saved_word fp v))
  held-there v lt = stack-word m (saved_word fp v) there (omega (arith, low, lt)) (omega (arith, high))

  one-made : (u : ℕ → ℕ) (d v : ℕ) → v < 3 → u 5 ≡ fp → made (load d v) (scene u f m) ≡ Some (scene (put u d (word_at m (saved_word fp v))) f m)
  one-made u d v lt at = load-made (scene u f m) d fp (saved_word fp v) _ (negsuc (7 + 8 * v)) at (saved-address sp v lt low high) (held-there v lt)

  one-above : (u : ℕ → ℕ) (d v : ℕ) (rest : List Instr) → v < 3 → u 5 ≡ fp → u 4 + 272 ≤ sp
      → AreAbove rest (scene (put u d (word_at m (saved_word fp v))) f m) → AreAbove (load d v ∷ rest) (scene u f m)
  one-above u d v rest lt at size h =
      let address = ap (λ y. add_words y (word_of (negsuc (7 + 8 * v)))) at ∙ saved-address sp v lt low high in
      above-first (load d v) rest (scene u f m) (scene (put u d (word_at m (saved_word fp v))) f m) (one-made u d v lt at)
      (load-above u (saved_word fp v) (negsuc (7 + 8 * v)) address (omega (arith, size, lt))) h

  -- what loads of this many make, in front of others: the registers of the result and the frame stay, and none lies further below the stack pointer than the
  -- zone
  record Loads (is : List Instr) (count : ℕ) : Type 0 where
    registers : ℕ → ℕ
    makes_them : (rest : List Instr) → makes (is ++ rest) (scene w f m) ≡ makes rest (scene registers f m)
    above : (rest : List Instr) → w 4 + 272 ≤ sp → AreAbove rest (scene registers f m) → AreAbove (is ++ rest) (scene w f m)
    words : (j : ℕ) → j < count → j < 3 → registers (portable_register X86_64 (j + 3)) ≡ word_at m (saved_word fp j)
    result : registers 0 ≡ w 0
    frame : registers 5 ≡ w 5

  first-made : (rest : List Instr) → makes (load 3 0 ∷ rest) (scene w f m) ≡ makes rest (scene w1 f m)
  first-made rest = ap (option_and_then (makes rest)) (one-made w 3 0 (omega arith) pointer)

  second-made : (rest : List Instr) → makes (load 13 1 ∷ rest) (scene w1 f m) ≡ makes rest (scene w2 f m)
  second-made rest = ap (option_and_then (makes rest)) (one-made w1 13 1 (omega arith) pointer)

  third-made : (rest : List Instr) → makes (load 14 2 ∷ rest) (scene w2 f m) ≡ makes rest (scene w3 f m)
  third-made rest = ap (option_and_then (makes rest)) (one-made w2 14 2 (omega arith) pointer)

  all-loaded : (count : ℕ) → Loads (restores 3) count
  all-loaded count = record {
    registers = w3;
    makes_them = λ rest. first-made (load 13 1 ∷ load 14 2 ∷ rest) ∙ second-made (load 14 2 ∷ rest) ∙ third-made rest;
    above = λ rest size h. one-above w 3 0 (load 13 1 ∷ load 14 2 ∷ rest) (omega arith) pointer size
        (one-above w1 13 1 (load 14 2 ∷ rest) (omega arith) pointer size (one-above w2 14 2 rest (omega arith) pointer size h));
    words = words;
    result = refl;
    frame = refl;
  }
    where
      words : (j : ℕ) → j < count → j < 3 → w3 (portable_register X86_64 (j + 3)) ≡ word_at m (saved_word fp j)
      words zero few lt = refl
      words (suc zero) few lt = refl
      words (suc (suc zero)) few lt = refl
      words (suc (suc (suc j))) few lt = absurd (omega (arith, lt))

  loads : (saved : ℕ) → Loads (restores saved) saved
  loads zero = record {
    registers = w;
    makes_them = λ rest. refl;
    above = λ rest size h. h;
    words = λ j few lt. absurd (omega (arith, few));
    result = refl;
    frame = refl;
  }
  loads (suc zero) = record {
    registers = w1;
    makes_them = first-made;
    above = λ rest size h. one-above w 3 0 rest (omega arith) pointer size h;
    words = words;
    result = refl;
    frame = refl;
  }
    where
      words : (j : ℕ) → j < 1 → j < 3 → w1 (portable_register X86_64 (j + 3)) ≡ word_at m (saved_word fp j)
      words zero few lt = refl
      words (suc j) few lt = absurd (omega (arith, few))
  loads (suc (suc zero)) = record {
    registers = w2;
    makes_them = λ rest. first-made (load 13 1 ∷ rest) ∙ second-made rest;
    above = λ rest size h. one-above w 3 0 (load 13 1 ∷ rest) (omega arith) pointer size (one-above w1 13 1 rest (omega arith) pointer size h);
    words = words;
    result = refl;
    frame = refl;
  }
    where
      words : (j : ℕ) → j < 2 → j < 3 → w2 (portable_register X86_64 (j + 3)) ≡ word_at m (saved_word fp j)
      words zero few lt = refl
      words (suc zero) few lt = refl
      words (suc (suc j)) few lt = absurd (omega (arith, few))
  loads (suc (suc (suc k))) =
      let none : List Instr = [] in
      subst (λ is. Loads (load 3 0 ∷ load 13 1 ∷ load 14 2 ∷ is) (suc (suc (suc k)))) (sym (take_all k none (omega arith))) (all-loaded (suc (suc (suc k))))

  -- ---- then the stack pointer and FP
  abbrev left : (ℕ → ℕ) → ℕ → ℕ
  left e = put (put e 4 (sp - 8)) 5 (word_at m fp)

  risen : (e : ℕ → ℕ) → e 5 ≡ fp → add_words (e 5) 8 ≡ sp - 8
  risen e at = ap (λ y. add_words y 8) at ∙ below-return sp low high

  leaves : (e : ℕ → ℕ) → e 5 ≡ fp → makes leave_code (scene e f m) ≡ Some (scene (left e) f m)
  leaves e at =
      ap (λ x. makes (instr.Load Ld64 5 5 (pos 0) ∷ []) (scene (put e 4 x) f m)) (risen e at)
      ∙ ap (option_and_then (makes [])) (load-made (scene (put e 4 (sp - 8)) f m) 5 fp fp _ (pos 0) at (pointer-address sp low high)
      (stack-word m fp there (omega (arith, low)) (omega (arith, high))))

  leaves-above : (e : ℕ → ℕ) → e 5 ≡ fp → AreAbove leave_code (scene e f m)
  leaves-above e at =
      let last = ap (λ y. add_words y (word_of (pos 0))) at ∙ pointer-address sp low high in
      above-first (instr.Load Lea 4 5 (pos 8)) (instr.Load Ld64 5 5 (pos 0) ∷ []) (scene e f m) (scene (put e 4 (sp - 8)) f m)
      (ap (λ x. Some (scene (put e 4 x) f m)) (risen e at))
      (no-width _ _) (load-above (put e 4 (sp - 8)) fp (pos 0) last (omega (arith, low)), λ t z. tt)

  module _ (saved : ℕ) where
    abbrev loaded-words : Loads (restores saved) saved
    loaded-words = loads saved

    pointed : loaded-words.registers 5 ≡ fp
    pointed = loaded-words.frame ∙ pointer

    abbrev restored : ℕ → ℕ
    restored = left loaded-words.registers

    restore-makes : makes (restore_code saved) (scene w f m) ≡ Some (scene restored f m)
    restore-makes = loaded-words.makes_them leave_code ∙ leaves loaded-words.registers pointed

    -- none of them lies further below the stack pointer than the zone
    restore-above : w 4 + 272 ≤ sp → AreAbove (restore_code saved) (scene w f m)
    restore-above size = loaded-words.above leave_code size (leaves-above loaded-words.registers pointed)

-- ---- the return
module _ (code : List ℕ) (trash : ℕ) (small : length code ≤ most_code) (bytes : AreBytes code) (word : trash < 2 ^ 64)
    (saved frame from back : ℕ) (r : Returned) (q : Run CpuState) (ok : IsReturned r) (f : HasFrame X86_64 frame (x86_seen q))
    (held : HasWord q.state.bytes (return_word (q.state.registers 4 + frame)) back)
    (runs : status_of q.progress ≡ Running) (at : q.state.pc ≡ from)
    (k : StandsAt (x86_rows code trash) true IsInstr from ((result_code r ++ restore_code saved) ++ (instr.Bare Ret ∷ []))) where
  abbrev sp : ℕ
  sp = q.state.registers 4 + frame

  abbrev m : ℕ → Option ℕ
  m = q.state.bytes

  low-frame : 0x3FF00010 + 272 ≤ sp
  low-frame = let l = f.low in let z = f.large in omega (arith, l, z)

  made-result : Results r (scene_of q.state)
  made-result = results r (scene_of q.state) ok

  pointer-is : made-result.registers 5 ≡ sp - 16
  pointer-is = made-result.frame ∙ f.pointer

  abbrev w : ℕ → ℕ
  w = restored made-result.registers q.state.flags m sp low-frame f.high pointer-is f.seen.stack saved

  abbrev back-words : Loads made-result.registers q.state.flags m sp low-frame f.high pointer-is f.seen.stack (restores saved) saved
  back-words = loads made-result.registers q.state.flags m sp low-frame f.high pointer-is f.seen.stack saved

  abbrev front : List Instr
  front = result_code r ++ restore_code saved

  made-all : makes front (scene_of q.state) ≡ Some (scene w q.state.flags m)
  made-all = makes-append (result_code r) (restore_code saved) (scene_of q.state) (scene made-result.registers q.state.flags m) (scene w q.state.flags m)
      made-result.makes_it (restore-makes made-result.registers q.state.flags m sp low-frame f.high pointer-is f.seen.stack saved)

  above-all : AreAbove front (scene_of q.state)
  above-all =
      let bare = results r (scene q.state.registers q.state.flags (λ a. None)) ok in
      above-append (result_code r) (restore_code saved) (scene_of q.state) (scene made-result.registers q.state.flags m) made-result.makes_it
      (still-above (result_code r) (scene_of q.state)
      (makings-still (result_code r) q.state.registers q.state.flags (scene bare.registers q.state.flags (λ a. None)) bare.makes_it))
      (restore-above made-result.registers q.state.flags m sp low-frame f.high pointer-is f.seen.stack saved
      (let s = made-result.stack in let l = f.large in omega (arith, s, l)))

  abbrev high : ℕ
  high = behind (x86_rows code trash) from (front ++ (instr.Bare Ret ∷ []))

  abbrev last : CpuState
  last = front_state true code trash small bytes word from front (instr.Bare Ret) q (scene w q.state.flags m) k made-all runs at

  abbrev e : Effect CpuState
  e = arrives back (put w 4 (add_words (w 4) 8)) q.state.flags m q.state.mark

  abbrev u : Run CpuState
  u = after (front_run true code trash small bytes word from front (instr.Bare Ret) q (scene w q.state.flags m) k made-all runs at) e

  pass : PassesIn (x86_processor code trash) true from high (length front + 1) q u
  pass = front-passed true code trash small bytes word from front (instr.Bare Ret) q (scene w q.state.flags m) k made-all runs at above-all
      (λ a le lt. in-zone (sp - 8) a (omega (arith, le))) e (ap (returns last) held)

  -- the stack pointer rises where FP is its word's address, and at the return
  abbrev first : List Instr
  first = result_code r ++ restores saved

  abbrev middle : List Instr
  middle = first ++ (instr.Load Lea 4 5 (pos 8) ∷ [])

  split : front ≡ middle ++ (instr.Load Ld64 5 5 (pos 0) ∷ [])
  split = sym (append_assoc first (instr.Load Lea 4 5 (pos 8) ∷ []) (instr.Load Ld64 5 5 (pos 0) ∷ []) ∙ append_assoc (result_code r) (restores saved) leave_code)

  first-within : Each (WritesWithin false) first
  first-within =
      each-append (WritesWithin false) (result_code r) (restores saved) (result-within r)
      (each-taken (WritesWithin false) saved (restores 3) ((refl, tt), ((refl, tt), ((refl, tt), tt))))

  abbrev R : Rows (Run CpuState) Instr
  R = x86_rows code trash

  last-still : All (StaysOutside R false) (instr.Load Ld64 5 5 (pos 0) ∷ [])
  last-still = all-still code trash (instr.Load Ld64 5 5 (pos 0) ∷ []) ((refl, tt), tt)

  ran-run : RunsBlock R front q
  ran-run = front-block true code trash small bytes word from front (instr.Bare Ret) q (scene w q.state.flags m) k made-all runs at above-all

  front-stack : (done x86_does front q).state.registers 4 ≡ sp - 8
  front-stack = ap (λ (s : CpuState). s.registers 4) (front-left true code trash small bytes word from front (instr.Bare Ret) q (scene w q.state.flags m) k made-all runs at above-all)

  middle-stack : (done x86_does middle q).state.registers 4 ≡ sp - 8
  middle-stack = sym (still-done R (instr.Load Ld64 5 5 (pos 0) ∷ []) (done x86_does middle q) last-still)
      ∙ ap (λ (z : Run CpuState). z.state.registers 4) (sym (done-append R middle (instr.Load Ld64 5 5 (pos 0) ∷ []) q)) ∙ ap (λ is. (done x86_does is q).state.registers 4) (sym split) ∙ front-stack

  front-along : Along x86_does (Raises R) front q
  front-along =
      let l = f.large in
      subst (λ is. Along x86_does (Raises R) is q) (sym split)
      (along-append R (Raises R) middle (instr.Load Ld64 5 5 (pos 0) ∷ []) q
      (last-raises R first (instr.Load Lea 4 5 (pos 8)) q (done x86_does middle q)
      (all-still code trash first first-within) refl (omega (arith, middle-stack, l)))
      (still-raises R (instr.Load Ld64 5 5 (pos 0) ∷ []) (done x86_does middle q) last-still))

  all-rise : Rises (x86_processor code trash) (length front + 1) q
  all-rise =
      let back-at = pops sp low-frame f.high in
      rises-last (x86_processor code trash) (length front) q (done x86_does front q) u (block-rises R front q ran-run front-along) ran-run.leads pass.leads
      (omega (arith, front-stack, back-at))

  -- the words of the frame come back
  is-left : IsLeft (x86_processor code trash) sp saved back (returned_word X86_64 q.state.registers r) q u
  is-left = record {
    saved = saved-words;
    pointer = refl;
    stack = pops sp low-frame f.high;
    result = λ x e. back-words.result ∙ made-result.value x e;
    bytes = refl;
    mark = refl;
    here = refl;
    progress = refl;
  }
    where
      saved-words : (j : ℕ) → j < saved → j < 3 → u.state.registers (portable_register X86_64 (j + 3)) ≡ word_at m (saved_word (frame_pointer sp) j)
      saved-words zero few lt = back-words.words 0 few lt
      saved-words (suc zero) few lt = back-words.words 1 few lt
      saved-words (suc (suc zero)) few lt = back-words.words 2 few lt
      saved-words (suc (suc (suc j))) few lt = absurd (omega (arith, lt))

  few : length front ≤ 6
  few =
      let both = length-append (result_code r) (restore_code saved) in
      let last = length-append (restores saved) leave_code in
      let most = length-take saved (restores 3) in
      let z = made-result.few in omega (arith, both, last, most, z)

  pub departs : Departure (x86_processor code trash) from high sp saved back (returned_word X86_64 q.state.registers r) q
  departs =
      departure (x86_processor code trash) sp saved back (returned_word X86_64 q.state.registers r) q u low-frame f.high f.seen.stack is-left from high (length front + 1)
      pass all-rise (let z = few in omega (arith, z)) (omega arith)

pub returns-lead : (saved : ℕ) (code : List ℕ) (trash : ℕ) → length code ≤ most_code → AreBytes code → trash < 2 ^ 64
    → ReturnsLead (x86_rows code trash) IsInstr saved (returned_code saved)
returns-lead saved code trash small bytes word frame from back r q ok f k there held runs at =
    subst (λ is. StandsAt (x86_rows code trash) true IsInstr from is
    → Departure (x86_processor code trash) from (behind (x86_rows code trash) from is) (q.state.registers 4 + frame) saved back
    (returned_word X86_64 q.state.registers r) q)
    (append_assoc (result_code r) (restore_code saved) (instr.Bare Ret ∷ [])) (departs code trash small bytes word saved frame from back r q ok f held runs at) k
