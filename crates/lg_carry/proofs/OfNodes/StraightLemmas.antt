-- Nodes whose code continues at the next node: how it leads there, and that it is carried where it goes straight on.
use Rattle.lg_carry.proofs.TurnLemmas.{still-inside, still-turns, still-moves}
use Rattle.lg_carry.proofs.BelowLemmas.{not-below}
use Rattle.std.proofs.Common.{◌≡◌, ◌≢◌, ℕ, ◌+◌, ◌-◌, ◌%◌, ◌<◌, ◌≤◌, ◌⊎◌, ⊎_elim, inl, inr, Bool, true, false, List, [], ◌∷◌, ◌++◌, Option, Some, None, refl, sym, ap, ◌∙◌, subst, arith, length, drop, length-append, append-nil, zero-add}
use Rattle.std.specs.Prelude.{◌||◌, ◌&&◌, not, slice_get, slice_index, slice_index_or, if◌then◌else◌}
use Rattle.std.specs.List.{All}
use Rattle.std.proofs.lemmas.List.{length-drop}
use Rattle.std.proofs.lemmas.Option.{slice_get_within}
use Rattle.std.proofs.lemmas.Bool.{false_from_ne_true, cases_Bool, or_parts, or_cases}
use Rattle.lg_base.specs.Conventions.{argument_registers, portable_register, frame_register, stack_register, carry_register}
use Rattle.lg_base.specs.Layout.{code_base, most_code, frame_pointer, stack_end}
use Rattle.lg_base.specs.Parts.{stack_base, heap_base}
use Rattle.lg_base.specs.Runs.{Running, iter}
use Rattle.lg_base.specs.declared.target.Target.{Target}
use Rattle.lg_cells.specs.Cells.{within}
use Rattle.lg_op.specs.declared.carry.Carry.{Carry}
use Rattle.lg_op.specs.declared.carry.Carry.TheVariants as carry
use Rattle.lg_op.specs.declared.op.Op.{Op}
use Rattle.lg_op.specs.declared.op.Op.TheVariants as op
use Rattle.lg_op.specs.declared.op.ControlOp.TheVariants as control
use Rattle.lg_op.specs.declared.op.PlainOp.TheVariants as plain
use Rattle.lg_op.specs.declared.operand.Reg.{Reg}
use Rattle.lg_op.specs.declared.operand.Reg.TheVariants.{Fp}
use Rattle.lg_op.specs.declared.node.Node.{Node}
use Rattle.lg_node.specs.Functions.{home, is_epilog, is_epilog_at, frame_of}
use Rattle.lg_node.specs.declared.function.Function.{Function}
use Rattle.lg_node.specs.Preparations.{pushed}
use Rattle.lg_live.specs.Uses.{is_read, is_written}
use Rattle.lg_op.specs.Operands.{number_of}
use Rattle.lg_meaning.specs.States.{Frame, State, in_locals, in_any_locals, is_open}
use Rattle.lg_meaning.specs.Steps.{Goes, Undefined, function_here}
use Rattle.lg_meaning.specs.Texts.{step}
use Rattle.lg_meaning.specs.Laws.{IsFormedAt}
use Rattle.lg_meaning.specs.Fits.{Fits, IsTopOf}
use Rattle.lg_meaning.proofs.KeepLemmas.{steps_fit}
use Rattle.lg_temp.specs.declared.choice.Need.{Need}
use Rattle.lg_temp.specs.declared.choice.Choice.{Choice}
use Rattle.lg_temp.specs.Abis.{register_of}
use Rattle.lg_temp.specs.Choices.{AreFor}
use Rattle.lg_temp.specs.Chosen.{Around, around, stands_in, staged_in, is_busy}
use Rattle.lg_base.specs.declared.flags.Flags.{Flags}
use Rattle.lg_base.specs.Flags.{carry_of}
use Rattle.lg_carry.specs.AgreeInFrame.{StaysInFrame}
use Rattle.lg_carry.specs.FinalNodes.{Code, is_inside, function_at}
use Rattle.lg_carry.proofs.OfNodes.HomesLemmas.{function-same}
use Rattle.lg_carry.specs.Places.{AreStacked}
use Rattle.lg_carry.specs.Processors.{Seen, is_below, stack_of}
use Rattle.lg_carry.specs.Registers.{HoldsCarry, CarryIs}
use Rattle.lg_carry.specs.Rows.{Rows, AreRows}
use Rattle.lg_carry.specs.Stands.{lowest, StatesAgree, Stands}
use Rattle.lg_carry.specs.Carries.{leaps, Leads, leaps_at, KeepsOutside}
use Rattle.lg_carry.specs.NodeBlocks.{IsNodeBlock}
use Rattle.lg_carry.specs.NodeCode.{numbered, live_before, live_behind, is_return, CarriesNode}
use Rattle.lg_carry.specs.Blocks.{spellings, StaysOutside}
use Rattle.lg_carry.specs.Spills.{IsFramePointer, in_slots, in_first_slots, HasRoom, Does, wrapped, spilled, AreInOrder, lost, Looks, KeepsFrame, KeepSpilled, Work}
use Rattle.lg_carry.specs.TemporariesApart.{IsSpare}
use Rattle.lg_carry.specs.Frames.{at_call}
use Rattle.lg_carry.proofs.AgreeInFrameLemmas.{settled, quiet-agrees}
use Rattle.lg_carry.proofs.RegistersApartLemmas.{conventions-apart}
use Rattle.lg_carry.proofs.TextShapeLemmas.{inner, shaped}
use Rattle.lg_carry.proofs.SpillLemmas.{saves-restore}
use Rattle.lg_carry.proofs.SpillChoiceLemmas.{choices-in-order}
use Rattle.lg_carry.proofs.StackLemmas.{stacked-running, stacked-high, slot-where, open-where, locals-off, within-where, locals-above}
use Rattle.lg_carry.proofs.TemporariesApartLemmas.{none-stood-for, none-staged, tried-spare}
use Rattle.lg_carry.specs.Nodes.Isas.{IsIsa}
use Rattle.lg_carry.specs.TextNodes.{IsInText, IsFrameOf, IsAfterProlog, stands_inside}
use Rattle.lg_carry.specs.Nodes.Stretches.{HasFrame, behind, StandsAt}
use Rattle.lg_node.specs.Labels.{is_inner}
use Rattle.lg_carry.specs.Nodes.Straight.{is_taken, spoils, HoldsRead, IsKept, from_to, StepsTo, ComputesNode, NeedWell, ComputingNodesCarry, PlainNodesCarry, GoesOn, HoldsWritten}
use Rattle.lg_carry.proofs.PlaceLemmas.{nodes-stand-inside}
use Rattle.lg_carry.proofs.OfNodes.RegisterLemmas.{stands-for, number-few, numbered-at, given}
use Rattle.lg_carry.proofs.OfNodes.TemporaryLemmas.{IsTemporary, IsOffered, temporary, keep-taken, unspoilt, lost-taken}
use Rattle.lg_carry.specs.Passages.{IsNodeCode, Passes}
use Rattle.lg_carry.proofs.PassageLemmas.{passages-lead}
use Rattle.lg_temp.proofs.Steps.{iter-zero}
use Rattle.lg_carry.specs.Memory.Crossings.{Crosses}
use Rattle.lg_carry.proofs.OfMemory.CrossingLemmas.{leaves-cross}

clash : {b : Bool} → b ≡ true → b ≡ false → ⊥
clash e h = cc

-- ---- the text
-- steps keep the fit
pub text-keeps : (c : Code) (i : ℕ) (n : Node) → IsInText c i n → (s t : State) (bytes : List ℕ) → s.at ≡ i → heap_base ≤ s.mark → s.mark ≤ 0x30400000 → Fits c.nodes c.shape s → step c.nodes c.shape c.addresses s ≡ Goes t bytes → Fits c.nodes c.shape t
text-keeps c i n t s u bytes at low high fits goes = (steps_fit c.nodes c.shape c.addresses s u bytes t.shape t.well t.functions (subst (IsFormedAt c.nodes) (sym at) t.formed) record { fits = fits; heap = record { low = low; high = high } } goes).fits

pub no-return : (o : Op) → leaps o ≡ false → is_return o ≡ false
no-return (op.Control control.Jmp last) h = refl
no-return (op.Control control.Call last) h = refl
no-return (op.Control control.Finish last) h = refl
no-return (op.Control control.Pusharg last) h = refl
no-return (op.Control control.Ret last) h = cc
no-return (op.Plain plain.Ret) h = cc
no-return (op.Plain plain.Epilog) h = cc
no-return (op.Plain o) h = refl
no-return o h = refl

pub no-epilog : (o : Op) → leaps o ≡ false → is_epilog o ≡ false
no-epilog (op.Plain plain.Epilog) h = cc
no-epilog (op.Plain o) h = refl
no-epilog o h = refl

-- ---- the code
-- code that is there begins below its end
pub in-room : (code xs more : List ℕ) (pc : ℕ) → code_base ≤ pc → 0 < length xs → drop (pc - code_base) code ≡ xs ++ more → length code ≤ most_code → pc + length xs ≤ code_base + most_code
in-room code xs more pc low long e small =
    let l : length (drop (pc - code_base) code) ≡ length xs + length more = ap length e ∙ length-append xs more in
    let d = length-drop (pc - code_base) code in
    omega (arith, l, d, small, low, long)

-- instructions have bytes
some-spelled : {Q I : Type 0} (R : Rows Q I) (fits : I → Type 0) → AreRows R fits → (is : List I) → All fits is → 0 < length is → 0 < length (spellings R.spelling is)
some-spelled R fits rows [] h e = absurd (omega (arith, e))
some-spelled R fits rows (x ∷ is) h e =
    let a = length-append (R.spelling x) (spellings R.spelling is) in
    let b = rows.long x (h 0 x (omega arith)) in
    omega (arith, a, b)

-- ---- the frame
frame-pointer : (low size sp : ℕ) → low + size ≡ sp → 0x3FF00010 ≤ low → 272 ≤ size → sp % 16 ≡ 0 → sp ≤ 0x40000000 → IsFramePointer (frame_pointer sp)
frame-pointer low size sp a b c d e = record { aligned = omega (arith, d, a, b, c); low = omega (arith, a, b, c); high = omega (arith, a, b, c, e) }

in-stack : (fp x : ℕ) → stack_base + 256 ≤ fp → fp + 16 ≤ 0x40000000 → in_slots fp x ≡ true → within stack_base 0x100000 x ≡ true
in-stack fp x low high h = grind (arith, low, high, h)

-- the size of the running frame is that of the function
pub size-is : (c : Code) (i frame : ℕ) (s : State) (o : Option ℕ) → s.at ≡ i → is_inner o s.at ≡ true → IsTopOf c.nodes c.shape s o → IsFrameOf c i frame → frame ≡ s.frame.size
size-is c i frame s None at inside top is = cc
size-is c i frame s (Some p) at inside top is =
    let apart : s.at ≢ top.function.entry = λ e. absurd (let z : p ≡ s.at = sym top.entry ∙ sym e in let k : p < s.at = grind (arith, inside) in omega (arith, z, k)) in
    is top.function (ap (function_here c.shape.functions) (sym at) ∙ top.here) ∙ sym ((top.top.behind apart).0)

pub frame-held : (target : Target) (c : Code) (i : ℕ) (frames : Frame → ℕ → Bool) (s : State) (q : Seen) (S : ℕ → Bool) → s.at ≡ i → is_inside c s.at ≡ true → StatesAgree target c frames s q S → (frame : ℕ) → IsFrameOf c i frame → HasFrame target frame q
frame-held target c i frames s q S at inside st frame is =
    let f = settled target (is_inside c s.at) c.place q.bytes q.registers s.frame s.callers _ _ inside st.frame in
    let tower = stacked-running c.nodes c.shape s st.fits inside st.low in
    let high = stacked-high s.frame.sp s.callers tower.3 in
    let all = stacked-high (lowest s.frame) (s.frame ∷ s.callers) tower in
    let size = size-is c i frame s (home c.nodes.nodes s.at) at inside st.fits.top is in
    let sum : q.registers (stack_register target) + frame ≡ s.frame.sp = let p = f.stack in omega (arith, p, size, tower.0) in
    record {
      seen = st.seen;
      pointer = f.pointer ∙ ap frame_pointer (sym sum);
      large = omega (arith, size, tower.1);
      low = let p = f.stack in let l = st.low in omega (arith, p, l);
      high = omega (arith, sum, high.1);
      whole = let p = f.stack in ap (λ x. x % 16) p ∙ all.0;
      whole_frame = ap (λ x. x % 16) size ∙ tower.2;
    }

-- the locals of all frames lie below the end of the stack
locals-below-end : (low : ℕ) (fs : List Frame) (a : ℕ) → AreStacked low fs → in_any_locals fs a ≡ true → a < stack_end
locals-below-end low [] a t e = cc
locals-below-end low (f ∷ fs) a t e = ⊎_elim
    (λ here. let z = within-where (f.sp - 144 - f.locals) f.locals a here in let h = stacked-high f.sp fs t.3 in omega (arith, z.0, z.1, t.0, t.1, h.1))
    (λ there. locals-below-end f.sp fs a t.3 there)
    (or_cases (in_locals f a) (in_any_locals fs a) e)

-- a carry stays held while its register and the flag stay
is-moved : (o : Option ℕ) (w u : ℕ → ℕ) (f : Option Bool) (b : Bool) → ((x : ℕ) → o ≡ Some x → u x ≡ w x) → CarryIs o w f b → CarryIs o u f b
is-moved (Some x) w u f b e h = e x refl ∙ h
is-moved None w u f b e h = h

pub carry-moved : (target : Target) (k : Carry) (w u : ℕ → ℕ) (f : Option Bool) → ((x : ℕ) → carry_register target ≡ Some x → u x ≡ w x) → HoldsCarry target w f k → HoldsCarry target u f k
carry-moved target carry.Undefined w u f e h = tt
carry-moved target (carry.Sum b) w u f e h = is-moved (carry_register target) w u f b e h
carry-moved target (carry.Difference b) w u f e h = is-moved (carry_register target) w u f _ e h

-- the registers that are taken hold none that is needed, or are restored
pub record AreHarmless {Q I : Type 0} (R : Rows Q I) (c : Code) (i : ℕ) (n : Node) (S : ℕ → Bool) (choices : List Choice) : Type 0 where
  pub spare : (x : ℕ) → is_taken choices x ≡ true → IsSpare R.processor.target x
  pub unwritten : (r : ℕ) → r < 6 → numbered (is_written n) r ≡ true → is_taken choices (portable_register R.processor.target r) ≡ false
  pub live : (r : ℕ) → r < 6 → S r ≡ true → lost choices (is_taken choices) (portable_register R.processor.target r) ≡ false
  pub argument : (j : ℕ) → j < length (argument_registers R.processor.target) → j < pushed c.nodes.nodes i → lost choices (is_taken choices) (slice_index (argument_registers R.processor.target) j) ≡ false
  pub in_order : AreInOrder R 0 choices

module _ {Q I : Type 0} (R : Rows Q I) (scratch : ℕ → Bool) (fits : I → Type 0) (isa : IsIsa R scratch fits) (c : Code) (i : ℕ) (n : Node) (S : ℕ → Bool) (choices : List Choice) (body : List I) (inside_op : stands_inside n.op ≡ true) (falls : leaps n.op ≡ false)
    (t : IsInText c i n) (k : IsNodeCode R fits c i (wrapped R choices body)) (h : AreHarmless R c i n S choices) where
  abbrev target : Target
  target = R.processor.target

  abbrev is : List I
  is = wrapped R choices body

  abbrev T : ℕ → Bool
  T = spoils scratch choices

  place : IsAfterProlog c i
  place = nodes-stand-inside c i n t inside_op

  -- FP, the stack pointer and the carry are not taken
  frame-untaken : is_taken choices (frame_register target) ≡ false
  frame-untaken = false_from_ne_true (is_taken choices (frame_register target)) (λ e. (h.spare (frame_register target) e).pointer refl)

  stack-untaken : is_taken choices (stack_register target) ≡ false
  stack-untaken = false_from_ne_true (is_taken choices (stack_register target)) (λ e. (h.spare (stack_register target) e).stack refl)

  carry-untaken : (x : ℕ) → carry_register target ≡ Some x → is_taken choices x ≡ false
  carry-untaken x e = false_from_ne_true (is_taken choices x) (λ z. (h.spare x z).carry x e refl)

  -- a register that the node does not write, and neither a scratch register nor that of the carry
  record IsOther (x : ℕ) : Type 0 where
    written : (d : Reg) → d ≢ Fp → is_written n d ≡ true → x ≢ register_of target d
    kept : scratch x ≡ false
    carry : carry_register target ≢ Some x

  other-portable : (r : ℕ) → r < 6 → numbered (is_written n) r ≡ false → IsOther (portable_register target r)
  other-portable r lt off =
      let apart = conventions-apart target in
      record {
        written = λ d named w e. clash (let z = apart.portable r (number_of d) lt (number-few d named) (e ∙ stands-for target d named) in ap (numbered (is_written n)) z ∙ numbered-at (is_written n) d named ∙ w) off;
        kept = false_from_ne_true (scratch (portable_register target r)) (λ e. (isa.apart (portable_register target r) e).portable r lt refl);
        carry = λ e. (apart.carry (portable_register target r) e).portable r lt refl;
      }

  other-argument : (j : ℕ) → j < length (argument_registers target) → IsOther (slice_index (argument_registers target) j)
  other-argument j lt =
      let apart = conventions-apart target in
      record {
        written = λ d named w e. apart.both (number_of d) j (number-few d named) lt (sym (stands-for target d named) ∙ sym e);
        kept = false_from_ne_true (scratch (slice_index (argument_registers target) j)) (λ e. (isa.apart (slice_index (argument_registers target) j) e).argument j lt refl);
        carry = λ e. (apart.carry (slice_index (argument_registers target) j) e).argument j lt refl;
      }

  other-frame : IsOther (frame_register target)
  other-frame =
      let apart = conventions-apart target in
      record {
        written = λ d named w e. apart.portable_pointer (number_of d) (number-few d named) (sym (stands-for target d named) ∙ sym e);
        kept = false_from_ne_true (scratch (frame_register target)) (λ e. (isa.apart (frame_register target) e).pointer refl);
        carry = λ e. (apart.carry (frame_register target) e).pointer refl;
      }

  other-stack : IsOther (stack_register target)
  other-stack =
      let apart = conventions-apart target in
      record {
        written = λ d named w e. apart.portable_stack (number_of d) (number-few d named) (sym (stands-for target d named) ∙ sym e);
        kept = false_from_ne_true (scratch (stack_register target)) (λ e. (isa.apart (stack_register target) e).stack refl);
        carry = λ e. (apart.carry (stack_register target) e).stack refl;
      }

  or-last : (y z b : Bool) → z ≡ true → b ≡ false → (y || (z && not b)) ≡ true
  or-last true z b g e = refl
  or-last false z b g e = rw (g, e) refl

  -- what is live after the node and is not written was live before it
  pub still : (r : ℕ) → S r ≡ true → numbered (is_written n) r ≡ false → live_before n S r ≡ true
  still r m off = or-last (numbered (is_read n) r) (S r) (numbered (is_written n) r) m off

  module _ (frames : Frame → ℕ → Bool) (s : State) (q : Q) (at : s.at ≡ i) (runs : R.processor.machine.status q ≡ Running) (st : StatesAgree target c frames s (R.processor.seen q) (live_before n S)) where
    abbrev w : ℕ → ℕ
    w = (R.processor.seen q).registers

    pub inside : is_inside c s.at ≡ true
    inside = ap (is_inside c) at ∙ inner (home c.nodes.nodes i) place.entry i place.home place.behind

    pub tower : AreStacked (lowest s.frame) (s.frame ∷ s.callers)
    tower = stacked-running c.nodes c.shape s st.fits inside st.low

    abbrev fp : ℕ
    fp = frame_pointer s.frame.sp

    pub is-fp : IsFramePointer fp
    is-fp = let high = stacked-high s.frame.sp s.callers tower.3 in frame-pointer (lowest s.frame) s.frame.size s.frame.sp tower.0 st.low (omega (arith, tower.1)) high.0 high.1

    fp-held : w (frame_register target) ≡ fp
    fp-held = (settled target (is_inside c s.at) c.place (R.processor.seen q).bytes w s.frame s.callers _ _ inside st.frame).pointer

    -- the slots lie above the stack pointer
    slots-room : w (stack_register target) + 128 ≤ fp
    slots-room =
        let at = (settled target (is_inside c s.at) c.place (R.processor.seen q).bytes w s.frame s.callers _ _ inside st.frame).stack in
        omega (arith, at, tower.0, tower.1)

    pub here : (R.processor.seen q).pc ≡ c.place i
    here = st.here ∙ ap c.place at

    pub stands : drop ((R.processor.seen q).pc - code_base) R.code ≡ spellings R.spelling is ++ k.more
    stands = ap (λ p. drop (p - code_base) R.code) here ∙ k.stands

    pub stands-at : StandsAt R false fits (c.place i) is
    stands-at = record { low = k.low; place = k.place; more = k.more; stands = k.stands; fit = k.fit; outside = subst (λ b. All (StaysOutside R b) is) (still-moves R.processor c i n t.here (still-inside target n.op inside_op falls)) k.outside }

    -- where the portable machine may write there is no spill slot
    pub open-off : (a : ℕ) → is_open s a ≡ true → in_slots fp a ≡ false
    open-off a may = false_from_ne_true (in_slots fp a) (λ on. let z = slot-where s.frame.sp a (omega (arith, tower.0, tower.1)) on in by on z (open-where s (R.processor.seen q).bytes a st.parts (omega (arith, st.mark, st.seen.high)) may))
      where
        by : {a : ℕ} → in_slots fp a ≡ true → (s.frame.sp ≤ a + 144) × (a + 104 < s.frame.sp) → (a < 0x30400000) ⊎ (in_any_locals (s.frame ∷ s.callers) a ≡ true) → ⊥
        by on z (inl l) = let low = st.low in omega (arith, z.0, l, tower.0, tower.1, low)
        by on z (inr l) = locals-off (lowest s.frame) s.frame s.callers _ tower l z.0 (omega (arith, z.1))

    -- and it lies below the end of the stack
    pub open-below : (a : ℕ) → is_open s a ≡ true → a < stack_end
    open-below a may = by (open-where s (R.processor.seen q).bytes a st.parts (omega (arith, st.mark, st.seen.high)) may)
      where
        by : (a < 0x30400000) ⊎ (in_any_locals (s.frame ∷ s.callers) a ≡ true) → a < stack_end
        by (inl l) = omega (arith, l)
        by (inr l) = locals-below-end (lowest s.frame) (s.frame ∷ s.callers) a tower l

    -- and at or above the stack pointer, where it lies in the stack part
    pub open-above : (a : ℕ) → is_open s a ≡ true → is_below target (stack_of target (R.processor.seen q)) a ≡ false
    open-above a may = not-below target (w (stack_register target)) a (by (open-where s (R.processor.seen q).bytes a st.parts (omega (arith, st.mark, st.seen.high)) may))
      where
        at-end : w (stack_register target) ≡ lowest s.frame
        at-end = (settled target (is_inside c s.at) c.place (R.processor.seen q).bytes w s.frame s.callers _ _ inside st.frame).stack

        by : (a < 0x30400000) ⊎ (in_any_locals (s.frame ∷ s.callers) a ≡ true) → (a < 0x3FF00000) ⊎ (w (stack_register target) ≤ a)
        by (inl l) = inl (omega (arith, l))
        by (inr l) = let z = locals-above (lowest s.frame) (s.frame ∷ s.callers) a tower l in let e = at-end in inr (omega (arith, z, e))

    -- the words that the node reads
    pub read-before : (frame : ℕ) → IsFrameOf c i frame → HoldsRead target n frame s (R.processor.seen q)
    read-before frame is-frame = record {
      in_frame = frame-held target c i frames s (R.processor.seen q) (live_before n S) at inside st frame is-frame;
      registers = λ a x reads e. given target c frames s (R.processor.seen q) (live_before n S) a x st inside (λ ne. ap (λ z. z || (S (number_of a) && not (numbered (is_written n) (number_of a)))) (numbered-at (is_read n) a ne ∙ reads ne)) e;
      carry = st.carry;
      result = st.result;
      memory = st.memory;
      pointer = fp-held;
      off_slots = λ a b e. open-off a (st.fits.memory a b e);
      below = λ a b e. open-below a (st.fits.memory a b e);
      above = λ a b e. open-above a (st.fits.memory a b e);
    }

    -- ---- the body leaves these registers and bytes and this flag
    module _ (end : ℕ → ℕ) (M : ℕ → Option ℕ) (flag : Flags) (keeps : (x : ℕ) → IsKept target scratch n choices x → end x ≡ w x) where
      -- but for the registers that are taken
      abbrev pub left : ℕ → ℕ
      left x = if is_taken choices x then w x else end x

      pub left-taken : (x : ℕ) → is_taken choices x ≡ true → left x ≡ w x
      left-taken x e = ap (λ b. if b then w x else end x) e

      pub left-end : (x : ℕ) → is_taken choices x ≡ false → left x ≡ end x
      left-end x e = ap (λ b. if b then w x else end x) e

      left-other : (x : ℕ) → IsOther x → left x ≡ w x
      left-other x o = by (cases_Bool (is_taken choices x))
        where
          by : (is_taken choices x ≡ true) ⊎ (is_taken choices x ≡ false) → left x ≡ w x
          by (inl e) = left-taken x e
          by (inr e) = left-end x e ∙ keeps x record { written = o.written; taken = e; spoilt = o.kept; carry = o.carry }

      abbrev pub work : Work
      work = from_to (R.processor.seen q) left M flag

      pub looks : Looks R fp w (R.processor.seen q).bytes (R.processor.seen q).mark (R.processor.seen q).flags q
      looks = record { runs = runs; has_registers = λ r. refl; has_bytes = λ p off. refl; has_slots = λ p on. st.seen.stack p (in-stack fp p is-fp.low is-fp.high on); has_mark = refl; has_flags = refl }

      pub keeps-frame : KeepsFrame work T (frame_register target) (stack_register target) fp
      keeps-frame = record { before = fp-held; behind = left-other (frame_register target) other-frame ∙ fp-held; unspoiled = ap (λ b. b || scratch (frame_register target)) frame-untaken ∙ other-frame.kept; room_before = slots-room; room_after = (let z = left-other (stack_register target) other-stack in let y = slots-room in omega (arith, z, y)); stack_unspoiled = ap (λ b. b || scratch (stack_register target)) stack-untaken ∙ other-stack.kept }

      pub keeps-spilled : KeepSpilled choices left w
      keeps-spilled = keep-taken choices left w left-taken

      -- the code with its saves and restores is passed so
      abbrev pub Crossed : Type 0
      Crossed = Crosses R (c.place i) (behind R (c.place i) is) (length is) fp 0 left M (R.processor.seen q).mark flag (lost choices T) q

      module _ (leaves : Crossed) where
        abbrev pub u : Q
        u = leaves.end

        passed : Passes R.processor c i leaves.steps q u
        passed = record {
          leads = leaves.passes.leads;
          inside = λ j lt. let z = leaves.passes.inside j lt in (z.0, omega (arith, z.1, k.next));
          outside = λ j lt. subst (λ b. KeepsOutside R.processor b (iter R.processor.machine.step j q)) (sym (still-moves R.processor c i n t.here (still-inside R.processor.target n.op inside_op falls))) (leaves.passes.outside j lt);
          above = leaves.passes.above;
          silent = leaves.passes.silent;
          keeps = leaves.passes.keeps;
        }

        kept-other : (x : ℕ) → IsOther x → lost choices (is_taken choices) x ≡ false → (R.processor.seen u).registers x ≡ w x
        kept-other x o safe = leaves.registers x (lost-taken choices scratch x o.kept safe) ∙ left-other x o

        -- a register that is neither taken nor a scratch register is as the body leaves it
        pub end-at : (x : ℕ) → is_taken choices x ≡ false → scratch x ≡ false → (R.processor.seen u).registers x ≡ end x
        end-at x free off = leaves.registers x (lost-taken choices scratch x off (unspoilt choices (is_taken choices) x free)) ∙ left-end x free

        -- the registers of the conventions
        pub kept-portable : (r : ℕ) → r < 6 → S r ≡ true → numbered (is_written n) r ≡ false → (R.processor.seen u).registers (portable_register target r) ≡ w (portable_register target r)
        kept-portable r lt alive off = kept-other (portable_register target r) (other-portable r lt off) (h.live r lt alive)

        pub written-portable : (r : ℕ) → r < 6 → numbered (is_written n) r ≡ true → (R.processor.seen u).registers (portable_register target r) ≡ end (portable_register target r)
        written-portable r lt on = end-at (portable_register target r) (h.unwritten r lt on) (false_from_ne_true (scratch (portable_register target r)) (λ e. (isa.apart (portable_register target r) e).portable r lt refl))

        pub kept-argument : (j : ℕ) → j < length (argument_registers target) → j < length s.pushed → (R.processor.seen u).registers (slice_index (argument_registers target) j) ≡ w (slice_index (argument_registers target) j)
        kept-argument j lt there = kept-other (slice_index (argument_registers target) j) (other-argument j lt) (h.argument j lt (omega (arith, there, st.fits.pushed, ap (pushed c.nodes.nodes) at)))

        pub carry-end : (x : ℕ) → carry_register target ≡ Some x → (R.processor.seen u).registers x ≡ end x
        carry-end x e = end-at x (carry-untaken x e) (false_from_ne_true (scratch x) (λ z. isa.carry x z e))

        module _ (to : State) (goes : step c.nodes c.shape c.addresses s ≡ Goes to []) (next : to.at ≡ s.at + 1) where
          -- the state stays in its frame
          pub stays : to.frame ≡ s.frame → to.callers ≡ s.callers → to.mark ≡ s.mark → StaysInFrame target c s to (R.processor.seen q) (R.processor.seen u)
          stays frame callers mark = record {
            few = (shaped c.nodes t.well).few;
            fits = text-keeps c i n t s to [] at (omega (arith, st.seen.low, st.mark)) (omega (arith, st.seen.high, st.mark)) st.fits goes;
            seen = leaves.passes.keeps st.seen;
            here = leaves.here ∙ sym k.next ∙ ap (λ j. c.place (j + 1)) (sym at) ∙ ap c.place (sym next);
            before = inside;
            behind = ap (is_inside c) next ∙ ap (λ j. is_inside c (j + 1)) at ∙ (shaped c.nodes t.well).next i place.entry place.home (ap is_epilog_at t.here ∙ no-epilog n.op falls);
            function = ap (function_at c) next ∙ ap (λ j. function_at c (j + 1)) at
                ∙ function-same c i n t i (i + 1) place.entry place.home (t.well.falls i place.entry place.home (ap is_epilog_at t.here ∙ no-epilog n.op falls)).0
                ∙ sym (ap (function_at c) at);
            frame = frame;
            callers = callers;
            pointer = kept-other (frame_register target) other-frame (unspoilt choices (is_taken choices) (frame_register target) frame-untaken);
            stack = kept-other (stack_register target) other-stack (unspoilt choices (is_taken choices) (stack_register target) stack-untaken);
            mark = leaves.has_mark ∙ st.mark ∙ sym mark;
          }

          -- where states agree after the code, it leads there
          pub leads : (out : List ℕ) → R.processor.machine.out q ≡ out → StatesAgree target c frames to (R.processor.seen u) S
              → (step c.nodes c.shape c.addresses s ≡ Undefined) ⊎ Leads R.processor c frames (live_behind frames n S s) i (step c.nodes c.shape c.addresses s) out q
          leads out wrote agree =
              let silent = ap R.processor.machine.out (sym leaves.passes.leads) ∙ leaves.passes.silent leaves.steps (omega arith) in
              let last : Stands R.processor c frames to (out ++ []) u S = record { runs = leaves.runs; wrote = silent ∙ wrote ∙ sym (append-nil out); state = agree } in
              inr (subst (λ z. Leads R.processor c frames (live_behind frames n S s) i z out q) (sym goes)
              (passages-lead R.processor c frames (live_behind frames n S s) i leaves.steps (Goes to []) out q u passed (still-turns R.processor c i n t.here (still-inside R.processor.target n.op inside_op falls) leaves.steps q) (omega (arith, leaves.few, k.few))
              (λ e. let z : q ≡ u = sym (iter-zero R.processor.machine.step q) ∙ ap (λ m. iter R.processor.machine.step m q) (sym e) ∙ leaves.passes.leads in k.next ∙ sym leaves.here ∙ ap (λ m. (R.processor.seen m).pc) (sym z) ∙ here)
              (λ e. absurd (clash (sym (ap leaps_at t.here) ∙ e) falls)) wrote
              (subst (λ b. Stands R.processor c frames to (out ++ []) u (if b then frames (at_call s.frame) else S)) (sym (no-return n.op falls)) last)))

        -- the bytes off the slots are those that the body leaves
        pub bytes-off : (a : ℕ) → in_slots fp a ≡ false → (R.processor.seen u).bytes a ≡ M a
        bytes-off a off = leaves.bytes a off

        pub flag-is : (R.processor.seen u).flags ≡ flag
        flag-is = leaves.has_flags

    -- ---- code that computes
    module _ (end : ℕ → ℕ) (flag : Flags) (keeps : (x : ℕ) → IsKept target scratch n choices x → end x ≡ w x) (leaves : Crossed end (R.processor.seen q).bytes flag keeps)
        (to : State) (goes : step c.nodes c.shape c.addresses s ≡ Goes to []) (on : GoesOn s to) (holds : HoldsWritten target n s to end flag) where
      abbrev v : Q
      v = leaves.end

      registers : (r x : ℕ) → r < 6 → S r ≡ true → to.regs r ≡ Some x → (R.processor.seen v).registers (portable_register target r) ≡ x
      registers r x lt alive e = by (cases_Bool (numbered (is_written n) r))
        where
          by : (numbered (is_written n) r ≡ true) ⊎ (numbered (is_written n) r ≡ false) → (R.processor.seen v).registers (portable_register target r) ≡ x
          by (inl on) = written-portable end (R.processor.seen q).bytes flag keeps leaves r lt on ∙ holds.written r x lt on e
          by (inr off) = kept-portable end (R.processor.seen q).bytes flag keeps leaves r lt alive off ∙ st.registers.is r x lt (still r alive off) (sym (holds.others r lt off) ∙ e)

      argument : (j x : ℕ) → j < length (argument_registers target) → slice_get to.pushed j ≡ Some x → (R.processor.seen v).registers (slice_index (argument_registers target) j) ≡ x
      argument j x lt e =
          let there : slice_get s.pushed j ≡ Some x = ap (λ z. slice_get z j) (sym on.pushed) ∙ e in
          kept-argument end (R.processor.seen q).bytes flag keeps leaves j lt (slice_get_within s.pushed j x there) ∙ st.pushed.is j x lt there

      agree : StatesAgree target c frames to (R.processor.seen v) S
      agree = quiet-agrees target c frames s to (R.processor.seen q) (R.processor.seen v) (live_before n S) S st
          (stays end (R.processor.seen q).bytes flag keeps leaves to goes on.at on.frame on.callers on.mark)
          record { mem = on.mem; data_size = on.data_size; args_size = on.args_size; pushed = on.pushed; bytes = λ a off. bytes-off end (R.processor.seen q).bytes flag keeps leaves a (or_parts (in_slots fp a) (within (lowest s.frame - 8) 8 a) off).0 }
          record {
            registers = record { is = registers };
            carry = subst (λ f. HoldsCarry target (R.processor.seen v).registers (carry_of f) to.carry) (sym (flag-is end (R.processor.seen q).bytes flag keeps leaves))
                (carry-moved target to.carry end (R.processor.seen v).registers (carry_of flag) (carry-end end (R.processor.seen q).bytes flag keeps leaves) holds.carry);
            result = record { is = λ x e. absurd (none-some (sym on.answer ∙ e)) };
            pushed = record { is = argument };
          }
        where
          none-some : {x : ℕ} → None ≡ Some x → ⊥
          none-some e = cc

      pub goes-there : (out : List ℕ) → R.processor.machine.out q ≡ out → (step c.nodes c.shape c.addresses s ≡ Undefined) ⊎ Leads R.processor c frames (live_behind frames n S s) i (step c.nodes c.shape c.addresses s) out q
      goes-there out wrote = leads end (R.processor.seen q).bytes flag keeps leaves to goes on.at out wrote agree

-- ---- code that goes straight on
module _ {Q I : Type 0} (R : Rows Q I) (scratch : ℕ → Bool) (fits : I → Type 0) (isa : IsIsa R scratch fits) (c : Code) (i : ℕ) (n : Node) (S : ℕ → Bool) (choices : List Choice) (body : List I) (inside_op : stands_inside n.op ≡ true) (falls : leaps n.op ≡ false)
    (t : IsInText c i n) (k : IsNodeBlock R fits c i (wrapped R choices body)) (h : AreHarmless R c i n S choices) where
  abbrev block : List I
  block = wrapped R choices body

  module _ (frames : Frame → ℕ → Bool) (s : State) (q : Q) (at : s.at ≡ i) (runs : R.processor.machine.status q ≡ Running) (st : StatesAgree R.processor.target c frames s (R.processor.seen q) (live_before n S)) where
    pub room : HasRoom R block q
    room =
        let here-is = here R scratch fits isa c i n S choices body inside_op falls t k.code h frames s q at runs st in
        record {
          low = omega (arith, here-is, k.code.low);
          high = λ z. in-room R.code (spellings R.spelling block) k.code.more (R.processor.seen q).pc (omega (arith, here-is, k.code.low)) (some-spelled R fits isa.rows block k.code.fit z) (stands R scratch fits isa c i n S choices body inside_op falls t k.code h frames s q at runs st) isa.rows.small;
        }

    -- it is crossed
    module _ (end : ℕ → ℕ) (M : ℕ → Option ℕ) (flag : Flags) (does : Does R (from_to (R.processor.seen q) end M flag) body (frame_pointer s.frame.sp) (spilled choices) (spoils scratch choices))
        (keeps : (x : ℕ) → IsKept R.processor.target scratch n choices x → end x ≡ (R.processor.seen q).registers x) where
      pub does-left : Does R (work R scratch fits isa c i n S choices body inside_op falls t k.code h frames s q at runs st end M flag keeps) body (frame_pointer s.frame.sp) (0 + spilled choices) (spoils scratch choices)
      does-left q' looks-so room' =
          let l = does q' looks-so room' in
          record {
            through = l.through;
            runs = l.runs;
            behind = l.behind;
            registers = λ r free. l.registers r free ∙ sym (left-end R scratch fits isa c i n S choices body inside_op falls t k.code h frames s q at runs st end M flag keeps r (or_parts (is_taken choices r) (scratch r) free).0);
            bytes = l.bytes;
            slots = λ a on. l.slots a (subst (λ m. in_first_slots (frame_pointer s.frame.sp) m a ≡ true) (zero-add (spilled choices)) on);
            has_mark = l.has_mark;
            has_flags = l.has_flags;
          }

      abbrev pub crosses : Crossed R scratch fits isa c i n S choices body inside_op falls t k.code h frames s q at runs st end M flag keeps
      crosses = leaves-cross R fits isa.rows block _ _ _ _ _ _ _ k.block q (c.place i) (stands-at R scratch fits isa c i n S choices body inside_op falls t k.code h frames s q at runs st) (here R scratch fits isa c i n S choices body inside_op falls t k.code h frames s q at runs st)
          (saves-restore R isa.spills choices (work R scratch fits isa c i n S choices body inside_op falls t k.code h frames s q at runs st end M flag keeps) body (frame_pointer s.frame.sp) 0 (spoils scratch choices) (is-fp R scratch fits isa c i n S choices body inside_op falls t k.code h frames s q at runs st) st.seen.words h.in_order
          (keeps-spilled R scratch fits isa c i n S choices body inside_op falls t k.code h frames s q at runs st end M flag keeps) (keeps-frame R scratch fits isa c i n S choices body inside_op falls t k.code h frames s q at runs st end M flag keeps) does-left q (looks R scratch fits isa c i n S choices body inside_op falls t k.code h frames s q at runs st end M flag keeps) room)

    pub computes : StepsTo R scratch c n choices body s (R.processor.seen q) → (out : List ℕ) → R.processor.machine.out q ≡ out
        → (step c.nodes c.shape c.addresses s ≡ Undefined) ⊎ Leads R.processor c frames (live_behind frames n S s) i (step c.nodes c.shape c.addresses s) out q
    computes p = goes-there R scratch fits isa c i n S choices body inside_op falls t k.code h frames s q at runs st p.end p.flags p.keeps (crosses p.end (R.processor.seen q).bytes p.flags p.does p.keeps) p.to p.goes p.on p.holds

-- the size of the frame of a node
pub frame-here : (c : Code) (i : ℕ) → (frame : ℕ) × IsFrameOf c i frame
frame-here c i = by (function_here c.shape.functions i) refl
  where
    by : (o : Option Function) → function_here c.shape.functions i ≡ o → (frame : ℕ) × IsFrameOf c i frame
    by None e = (0, λ f g. let z : None ≡ Some f = sym e ∙ g in cc)
    by (Some f) e = (frame_of f, λ g h. let z : Some f ≡ Some g = sym e ∙ h in let y : f ≡ g = cc in ap frame_of y)

-- ---- nodes
module _ {Q I : Type 0} (R : Rows Q I) (scratch : ℕ → Bool) (fits : I → Type 0) (isa : IsIsa R scratch fits) where
  carried : (c : Code) (i : ℕ) (n : Node) (frame : ℕ) (S : ℕ → Bool) (choices : List Choice) (body : List I) → stands_inside n.op ≡ true → leaps n.op ≡ false → IsInText c i n → IsFrameOf c i frame → IsNodeBlock R fits c i (wrapped R choices body)
      → ComputesNode R scratch c i n frame choices body → AreHarmless R c i n S choices → CarriesNode R.processor c i n S
  carried c i n frame S choices body inside falls t is-frame k m h frames s returns out q at st =
      by (m.steps s q at (read-before R scratch fits isa c i n S choices body inside falls t k.code h frames s q at st.runs st.state frame is-frame))
    where
      by : (step c.nodes c.shape c.addresses s ≡ Undefined) ⊎ StepsTo R scratch c n choices body s (R.processor.seen q)
          → (step c.nodes c.shape c.addresses s ≡ Undefined) ⊎ Leads R.processor c frames (live_behind frames n S s) i (step c.nodes c.shape c.addresses s) out q
      by (inl e) = inl e
      by (inr p) = computes R scratch fits isa c i n S choices body inside falls t k h frames s q at st.runs st.state p out st.wrote

  -- the choices for the needs of a node are harmless
  pub harmless : (c : Code) (i : ℕ) (n : Node) (live : Reg → Bool) (staged : List Bool) (needs : List Need) (choices : List Choice) → NeedWell R needs → length needs ≤ 3
      → AreFor (around R.processor.target n live staged) needs [] needs choices → ((j : ℕ) → j < pushed c.nodes.nodes i → slice_index_or staged j false ≡ true) → AreHarmless R c i n (numbered live) choices
  harmless c i n live staged needs choices well few chosen pushes = record {
    spare = λ x e. spare-of x (temp x e).offered;
    unwritten = λ r lt on. false_from_ne_true (is_taken choices (portable_register R.processor.target r)) (λ e. none-stood-for R.processor.target (is_written n) (portable_register R.processor.target r) (temp (portable_register R.processor.target r) e).unwritten r lt on refl);
    live = λ r lt alive. safe (portable_register R.processor.target r) (λ busy. none-stood-for R.processor.target live (portable_register R.processor.target r) (or_parts (stands_in R.processor.target live (portable_register R.processor.target r)) (staged_in (argument_registers R.processor.target) staged (portable_register R.processor.target r)) busy).0 r lt alive refl);
    argument = λ j lt there. safe (slice_index (argument_registers R.processor.target) j) (λ busy. none-staged R.processor.target staged (slice_index (argument_registers R.processor.target) j) (or_parts (stands_in R.processor.target live (slice_index (argument_registers R.processor.target) j)) (staged_in (argument_registers R.processor.target) staged (slice_index (argument_registers R.processor.target) j)) busy).1 j lt (pushes j there) refl);
    in_order = choices-in-order R place needs needs [] choices record { tried = isa.tried; named = λ r e. (well r e).1 } (omega (arith, few)) chosen;
  }
    where
      place : Around
      place = around R.processor.target n live staged

      temp : (x : ℕ) → is_taken choices x ≡ true → IsTemporary place needs choices (is_taken choices) x
      temp x e = temporary place needs needs [] choices (is_taken choices) x (λ y g. g) chosen e

      spare-of : (x : ℕ) → IsOffered place needs x → IsSpare R.processor.target x
      spare-of x (inl e) = tried-spare R.processor.target x e
      spare-of x (inr e) = (well x e).0

      -- a register that would be busy is not lost
      safe : (x : ℕ) → (is_busy place x ≡ false → ⊥) → lost choices (is_taken choices) x ≡ false
      safe x unfree = by (cases_Bool (is_taken choices x))
        where
          of : (is_busy place x ≡ false) ⊎ (lost choices (is_taken choices) x ≡ false) → lost choices (is_taken choices) x ≡ false
          of (inl e) = absurd (unfree e)
          of (inr e) = e

          by : (is_taken choices x ≡ true) ⊎ (is_taken choices x ≡ false) → lost choices (is_taken choices) x ≡ false
          by (inl e) = of (temp x e).same
          by (inr e) = unspoilt choices (is_taken choices) x e

  pub none-harmless : (c : Code) (i : ℕ) (n : Node) (S : ℕ → Bool) → AreHarmless R c i n S []
  none-harmless c i n S = record { spare = λ x e. absurd (clash e refl); unwritten = λ r lt on. refl; live = λ r lt alive. refl; argument = λ j lt there. refl; in_order = omega arith }

  pub computing-nodes-carry : ComputingNodesCarry R scratch fits
  computing-nodes-carry c i n frame live staged needs choices body inside falls well few chosen pushes t is-frame k m = carried c i n frame (numbered live) choices body inside falls t is-frame k m (harmless c i n live staged needs choices well few chosen pushes)

  pub plain-nodes-carry : PlainNodesCarry R scratch fits
  plain-nodes-carry c i n frame S body inside falls t is-frame k m = carried c i n frame S [] body inside falls t is-frame k m (none-harmless c i n S)
