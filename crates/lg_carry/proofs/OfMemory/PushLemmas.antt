-- A node that passes an argument of a call is carried.
use Rattle.std.proofs.Common.{◌≡◌, ◌≢◌, ℕ, zero, suc, ◌+◌, ◌-◌, ◌*◌, ◌^◌, ◌<◌, ◌≤◌, ◌⊎◌, inl, inr, Bool, true, false, List, [], ◌∷◌, ◌++◌, Option, Some, None, refl, sym, ap, ◌∙◌, subst, arith, length, ⊎_elim}
use Rattle.std.specs.Prelude.{◌==◌, ◌||◌, if◌then◌else◌, is_some, slice_get, slice_index}
use Rattle.std.proofs.lemmas.Bool.{cases_lt, false_from_ne_true, or_parts}
use Rattle.lg_base.specs.Conventions.{argument_registers, argument_word, frame_register, stack_register, portable_register}
use Rattle.lg_base.specs.HostNames.{host_address}
use Rattle.lg_base.specs.Layout.{code_base, most_code, frame_pointer, stack_argument}
use Rattle.lg_base.specs.Parts.{stack_base}
use Rattle.lg_base.specs.Spaces.{stored}
use Rattle.lg_base.specs.declared.target.Target.{Target}
use Rattle.lg_base.proofs.SpaceLemmas.{stored-out, loaded-stored, mapped-all}
use Rattle.lg_cells.specs.Cells.{within}
use Rattle.lg_node.specs.Checks.{needs_preparation, is_pusharg}
use Rattle.lg_node.specs.Preparations.{pushed_of, pushed}
use Rattle.lg_op.specs.Forms.{admit, forms_of}
use Rattle.lg_op.specs.declared.node.Node.{Node}
use Rattle.lg_op.specs.declared.op.ControlOp.TheVariants as control
use Rattle.lg_op.specs.declared.op.LastOperand.{LastOperand}
use Rattle.lg_op.specs.declared.op.LastOperand.TheVariants as last_operand
use Rattle.lg_op.specs.declared.op.Op.{Op}
use Rattle.lg_op.specs.declared.op.Op.TheVariants as op
use Rattle.lg_op.specs.declared.operand.Label.{Label}
use Rattle.lg_op.specs.declared.operand.Operand.{Operand}
use Rattle.lg_op.specs.declared.operand.Operand.TheVariants as operand
use Rattle.lg_op.specs.declared.operand.Reg.{Reg}
use Rattle.lg_op.specs.declared.operand.Reg.TheVariants.{Fp}
use Rattle.lg_live.specs.Uses.{is_read, is_written}
use Rattle.lg_meaning.specs.States.{Frame, State, value}
use Rattle.lg_meaning.specs.Steps.{Goes, Undefined, need, on, quiet, operand_at}
use Rattle.lg_meaning.specs.Texts.{step}
use Rattle.lg_temp.specs.Abis.{register_of}
use Rattle.lg_temp.specs.declared.choice.Choice.{Choice}
use Rattle.lg_temp.specs.declared.choice.Choice.TheVariants.{Free}
use Rattle.lg_carry.specs.Blocks.{done}
use Rattle.lg_carry.specs.Carries.{Leads}
use Rattle.lg_carry.specs.FinalNodes.{Code, is_inside}
use Rattle.lg_carry.specs.Homes.{homes_at}
use Rattle.lg_carry.specs.Frames.{at_call, IsSettled}
use Rattle.lg_carry.specs.NodeBlocks.{IsNodeBlock}
use Rattle.lg_carry.specs.NodeCode.{numbered, live_before, live_behind, CarriesNode}
use Rattle.lg_carry.specs.Places.{AreStacked}
use Rattle.lg_carry.specs.Processors.{Seen}
use Rattle.lg_carry.specs.Registers.{HasWord, HoldsArguments, HasArguments}
use Rattle.lg_carry.specs.Rows.{Rows}
use Rattle.lg_carry.specs.Spills.{Does, in_slots, spilled, with_register}
use Rattle.lg_carry.specs.Stands.{StatesAgree, Stands, lowest}
use Rattle.lg_carry.specs.TemporariesApart.{IsSpare}
use Rattle.lg_carry.specs.TextNodes.{IsInText, IsFrameOf, NamesCode}
use Rattle.lg_carry.proofs.AgreeInFrameLemmas.{settled, push-agrees}
use Rattle.lg_carry.proofs.KeptLemmas.{registers-some}
use Rattle.lg_carry.proofs.RegistersApartLemmas.{conventions-apart}
use Rattle.lg_carry.proofs.StackLemmas.{stacked-high, within-where}
use Rattle.lg_carry.proofs.WordLemmas.{word-kept}
use Rattle.lg_carry.specs.Nodes.Isas.{IsIsa}
use Rattle.lg_carry.specs.Nodes.Straight.{is_taken, spoils, from_to, HoldsRead}
use Rattle.lg_carry.proofs.OfNodes.RegisterLemmas.{same-self}
use Rattle.lg_carry.proofs.OfNodes.StraightLemmas.{AreHarmless, none-harmless, Crossed, crosses, inside, tower, is-fp, room, read-before, still, stays, leads, kept-portable, kept-argument, bytes-off}
use Rattle.lg_carry.specs.Memory.Operands.{HasWords, operand_word}
use Rattle.lg_carry.specs.Memory.Pushes.{PushCode, is_in_register, outgoing_word, IsPassed, PushesDo, HasPushCode, PushesCarry}
use Rattle.lg_carry.specs.Memory.Stores.{IsWritable}
use Rattle.lg_carry.proofs.OfMemory.FormLemmas.{nothing-left, starts-read}
use Rattle.lg_carry.proofs.OfMemory.ReadLemmas.{same-some, numbered-same, numbered-none, number-small, with_op, stepped}
use Rattle.lg_carry.proofs.OfMemory.WriteLemmas.{with-same, with-other}

clash : {b : Bool} → b ≡ false → b ≡ true → ⊥
clash e f = cc

or-false : (b : Bool) → (b || false) ≡ true → b ≡ true
or-false true e = refl
or-false false e = e

-- ---- an argument more
-- the members of a list with one more
more : {A : Type 0} (xs : List A) (v : A) (i : ℕ) (w : A) → slice_get (xs ++ v ∷ []) i ≡ Some w → ((i < length xs) × (slice_get xs i ≡ Some w)) ⊎ ((i ≡ length xs) × (v ≡ w))
more [] v zero w e = inr (refl, cc)
more [] v (suc i) w e = cc
more (x ∷ xs) v zero w e = inl (omega arith, e)
more (x ∷ xs) v (suc i) w e = ⊎_elim
    (λ h. inl (omega (arith, h.0), h.1))
    (λ h. inr (omega (arith, h.0), h.1))
    (more xs v i w e)

-- fewer than 16 arguments are passed where one more is
fewer : (c : Code) (i : ℕ) (n : Node) (last : LastOperand) → IsInText c i n → n.op ≡ op.Control control.Pusharg last → pushed c.nodes.nodes i < 16
fewer c i n last x e =
    let p = x.well.pushes i n x.here (ap needs_preparation e) in
    let count : pushed c.nodes.nodes i ≡ (p.0).pushed = ap pushed_of p.1 in
    let lt = p.2 (is-pusharg n.op e) in omega (arith, count, lt)
  where
    is-pusharg : (o : Op) → o ≡ op.Control control.Pusharg last → is_pusharg o ≡ true
    is-pusharg o e = ap is_pusharg e

-- a stack word of the call lies in the outgoing words, and in no spill slot
record IsOutgoing (low sp a : ℕ) : Type 0 where
  inside_words : (y : ℕ) → within low 80 y ≡ false → (y < a) ⊎ (a + 8 ≤ y)
  in_stack : (y : ℕ) → a ≤ y → y < a + 8 → within stack_base 0x100000 y ≡ true
  off : (y : ℕ) → a ≤ y → y < a + 8 → in_slots (frame_pointer sp) y ≡ false

outgoing-is : (low size sp j : ℕ) → low + size ≡ sp → 272 ≤ size → 0x3FF00010 ≤ low → sp ≤ 0x40000000 → j < 10 → IsOutgoing low sp (stack_argument low j)
outgoing-is low size sp j sum large deep high few = record {
  inside_words = λ y away. words y away (cases_lt y (low + 8 * j)) (cases_lt y (low + 8 * j + 8));
  in_stack = λ y le lt. grind (arith, sum, large, deep, high, few, le, lt);
  off = λ y le lt. false_from_ne_true (in_slots (frame_pointer sp) y) (λ on. let z = within-where (frame_pointer sp - 128) 40 y on in omega (arith, z.0, z.1, sum, large, few, le, lt));
}
  where
    words : (y : ℕ) → within low 80 y ≡ false → (y < low + 8 * j) ⊎ (low + 8 * j ≤ y) → (y < low + 8 * j + 8) ⊎ (low + 8 * j + 8 ≤ y) → (y < low + 8 * j) ⊎ (low + 8 * j + 8 ≤ y)
    words y away (inl lt) z = inl lt
    words y away (inr ge) (inr le) = inr le
    words y away (inr ge) (inl lt) = absurd (grind (arith, few, away, ge, lt))

module _ {Q I : Type 0} (R : Rows Q I) (scratch : ℕ → Bool) (fits : I → Type 0) (isa : IsIsa R scratch fits) (code : PushCode I) (lead : PushesDo R scratch code) (some : HasPushCode R code)
    (c : Code) (i : ℕ) (frame : ℕ) (is-frame : IsFrameOf c i frame) (S : ℕ → Bool) (line : ℕ) (last : LastOperand) (x : Operand) where
  abbrev n : Node
  n = record { op = op.Control control.Pusharg last; operands = x ∷ []; line = line }

  abbrev target : Target
  target = R.processor.target

  abbrev j : ℕ
  j = pushed c.nodes.nodes i

  abbrev is : List I
  is = code frame (slice_index c.addresses) (c.place i) j x

  -- what is known of the operand
  record IsGiven : Type 0 where
    reads : (a : Reg) → x ≡ operand.Reg a → a ≢ Fp → is_read n a ≡ true
    words : (v : ℕ) → x ≡ operand.Number v → v < 2 ^ 64
    labels : (l : Label) → x ≡ operand.Label l → (code_base ≤ slice_index c.addresses l.0) × (slice_index c.addresses l.0 ≤ code_base + most_code)
    slots : (k : ℕ) → x ≢ operand.Slot k
    writes : (r : ℕ) → numbered (is_written n) r ≡ false

  module _ (g : IsGiven) (t : IsInText c i n) (k : IsNodeBlock R fits c i is) where
    few : j < 16
    few = fewer c i n last t refl

    stepped-so : (s : State) → s.at ≡ i → step c.nodes c.shape c.addresses s ≡ need (value c.addresses s x) (λ v. quiet (on (record s { pushed = s.pushed ++ v ∷ [] })))
    stepped-so s at = stepped c i n s t at

    abbrev to : State → ℕ → State
    to s v = on (record s { pushed = s.pushed ++ v ∷ [] })

    goes-so : (s : State) (v : ℕ) → s.at ≡ i → value c.addresses s x ≡ Some v → step c.nodes c.shape c.addresses s ≡ Goes (to s v) []
    goes-so s v at e = stepped-so s at ∙ ap (λ z. need z (λ v. quiet (on (record s { pushed = s.pushed ++ v ∷ [] })))) e

    undefined : (s : State) → s.at ≡ i → value c.addresses s x ≡ None → step c.nodes c.shape c.addresses s ≡ Undefined
    undefined s at e = stepped-so s at ∙ ap (λ z. need z (λ v. quiet (on (record s { pushed = s.pushed ++ v ∷ [] })))) e

    -- the word of the operand
    passed : (s : State) (q : Seen) (v : ℕ) → HoldsRead target n frame s q → value c.addresses s x ≡ Some v → IsPassed target q.registers (slice_index c.addresses) x v
    passed s q v h e = by x refl
      where
        is-passed : operand_word target q.registers (slice_index c.addresses) x ≡ Some v → v < 2 ^ 64 → IsPassed target q.registers (slice_index c.addresses) x v
        is-passed word small = record {
          word = word;
          small = small;
          label = λ l is. let z = same-some (slice_index c.addresses l.0) v (ap (value c.addresses s) (sym is) ∙ e) in let w = g.labels l is in (omega (arith, z, w.0), omega (arith, z, w.1));
        }

        by : (y : Operand) → x ≡ y → IsPassed target q.registers (slice_index c.addresses) x v
        by (operand.Reg a) is =
            let held = h.registers a v (g.reads a is) (ap (value c.addresses s) (sym is) ∙ e) in
            is-passed (ap (operand_word target q.registers (slice_index c.addresses)) is ∙ ap (λ z. Some z) held) (subst (λ z. z < 2 ^ 64) held (h.in_frame.seen.words (register_of target a)))
        by (operand.Number m) is =
            let z = same-some m v (ap (value c.addresses s) (sym is) ∙ e) in
            is-passed (ap (operand_word target q.registers (slice_index c.addresses)) is ∙ ap (λ z. Some z) z) (subst (λ z. z < 2 ^ 64) z (g.words m is))
        by (operand.Host name) is =
            let z = same-some (host_address name) v (ap (value c.addresses s) (sym is) ∙ e) in
            is-passed (ap (operand_word target q.registers (slice_index c.addresses)) is ∙ ap (λ z. Some z) z) (subst (λ z. z < 2 ^ 64) z (number-small (operand.Host name) (λ m f. cc)))
        by (operand.Label l) is =
            let z = same-some (slice_index c.addresses l.0) v (ap (value c.addresses s) (sym is) ∙ e) in
            let w = g.labels l is in
            is-passed (ap (operand_word target q.registers (slice_index c.addresses)) is ∙ ap (λ z. Some z) z) (omega (arith, z, w.1))
        by (operand.Slot m) is = absurd (none-some (ap (value c.addresses s) (sym is) ∙ e))
          where
            none-some : None ≡ Some v → ⊥
            none-some f = cc

    abbrev Result : (Frame → ℕ → Bool) → State → List ℕ → Q → Type 0
    Result frames s out q = (step c.nodes c.shape c.addresses s ≡ Undefined) ⊎ Leads R.processor c frames (live_behind frames n S s) i (step c.nodes c.shape c.addresses s) out q

    count : (frames : Frame → ℕ → Bool) (s : State) (q : Seen) → s.at ≡ i → StatesAgree target c frames s q (live_before n S) → length s.pushed ≡ j
    count frames s q at st = st.fits.pushed ∙ ap (pushed c.nodes.nodes) at

    -- the outgoing words
    word-is : (s : State) (a : ℕ) → AreStacked (lowest s.frame) (s.frame ∷ s.callers) → 0x3FF00010 ≤ lowest s.frame → a < 16 → IsOutgoing (lowest s.frame) s.frame.sp (outgoing_word target (lowest s.frame) a)
    word-is s a tower deep lt =
        let high = (stacked-high s.frame.sp s.callers tower.3).1 in let most = registers-some target in
        outgoing-is (lowest s.frame) s.frame.size s.frame.sp (argument_word target a) tower.0 (let z = tower.1 in omega (arith, z)) deep high (omega (arith, lt, most))

    -- ---- into a register: it is as a temporary that is free
    module _ (low : j < length (argument_registers target)) where
      abbrev rd : ℕ
      rd = slice_index (argument_registers target) j

      abbrev taken : List Choice
      taken = Free rd ∷ []

      in-register : is_in_register target j ≡ true
      in-register = grind (arith, low)

      is-rd : (y : ℕ) → is_taken taken y ≡ true → rd ≡ y
      is-rd y e = let z = or-false (rd == y) e in grind (arith, z)

      not-rd : (y : ℕ) → rd ≢ y → is_taken taken y ≡ false
      not-rd y ne = false_from_ne_true (is_taken taken y) (λ e. ne (is-rd y e))

      h : AreHarmless R c i n S taken
      h =
          let apart = conventions-apart target in record {
            spare = λ y e. subst (IsSpare target) (is-rd y e) record {
              pointer = λ z. apart.argument_pointer j low (sym z);
              stack = λ z. apart.argument_stack j low (sym z);
              link = λ z is w. (apart.link z is).argument j low (sym w);
              carry = λ z is w. (apart.carry z is).argument j low (sym w);
            };
            unwritten = λ r lt on. absurd (clash (g.writes r) on);
            live = λ r lt alive. not-rd (portable_register target r) (λ z. apart.both r j lt low (sym z));
            argument = λ m lt there. not-rd (slice_index (argument_registers target) m) (λ z. let e = apart.argument j m low lt z in absurd (omega (arith, e, there)));
            in_order = omega arith;
          }

      module _ (frames : Frame → ℕ → Bool) (s : State) (out : List ℕ) (q : Q) (at : s.at ≡ i) (st : Stands R.processor c frames s out q (live_before n S)) (v : ℕ) (given : value c.addresses s x ≡ Some v) where
        abbrev w : ℕ → ℕ
        w = (R.processor.seen q).registers

        abbrev bytes : ℕ → Option ℕ
        bytes = (R.processor.seen q).bytes

        abbrev fp : ℕ
        fp = frame_pointer s.frame.sp

        reads : HoldsRead target n frame s (R.processor.seen q)
        reads = read-before R scratch fits isa c i n S taken is refl refl t k.code h frames s q at st.runs st.state frame is-frame

        stack : AreStacked (lowest s.frame) (s.frame ∷ s.callers)
        stack = tower R scratch fits isa c i n S taken is refl refl t k.code h frames s q at st.runs st.state

        -- what the code leaves
        does-so : Does R (from_to (R.processor.seen q) (with_register w rd v) bytes (R.processor.seen q).flags) is fp 0 (spoils scratch [])
        does-so =
            subst (λ p. Does R (from_to (R.processor.seen q) (with_register w rd v) bytes (R.processor.seen q).flags) is p 0 (spoils scratch [])) reads.pointer
            (subst (λ b. Does R
            (from_to (R.processor.seen q) (if b then with_register w rd v else w) (if b then bytes else stored bytes (outgoing_word target (w (stack_register target)) j) 8 v) (R.processor.seen q).flags)
            is (w (frame_register target)) 0 (spoils scratch [])) in-register
            (lead frame (slice_index c.addresses) (c.place i) j x q v few reads.in_frame (passed s (R.processor.seen q) v reads given) (λ e. absurd (clash e in-register))))

        does : Does R (from_to (R.processor.seen q) w bytes (R.processor.seen q).flags) is fp (spilled taken) (spoils scratch taken)
        does q' looks room' =
            let l = does-so q' looks room' in record {
              through = l.through;
              runs = l.runs;
              behind = l.behind;
              registers = λ r free. let z = or_parts (is_taken taken r) (scratch r) free in l.registers r (ap (λ b. false || b) z.1) ∙ with-other w rd v r (λ e. clash z.0 (taken-self r e));
              bytes = l.bytes;
              slots = l.slots;
              has_mark = l.has_mark;
              has_flags = l.has_flags;
            }
          where
            taken-self : (r : ℕ) → r ≡ rd → is_taken taken r ≡ true
            taken-self r e = grind (arith, e)

        abbrev u : Q
        u = done R.does is q

        abbrev passing : Crossed R scratch fits isa c i n S taken is refl refl t k.code h frames s q at st.runs st.state w bytes (R.processor.seen q).flags (λ y z. refl)
        passing = crosses R scratch fits isa c i n S taken is refl refl t k h frames s q at st.runs st.state w bytes (R.processor.seen q).flags does (λ y z. refl)

        value-is : (R.processor.seen u).registers rd ≡ v
        value-is =
            let z = is-fp R scratch fits isa c i n S taken is refl refl t k.code h frames s q at st.runs st.state in
            let l = does-so q
            record { runs = st.runs; has_registers = λ r. refl; has_bytes = λ p off. refl; has_slots = λ p on. st.state.seen.stack p (in-stack fp p z.low z.high on); has_mark = refl; has_flags = refl }
            (room R scratch fits isa c i n S taken is refl refl t k h frames s q at st.runs st.state) in
            l.registers rd (ap (λ b. false || b) (false_from_ne_true (scratch rd) (λ e. (isa.apart rd e).argument j low refl))) ∙ with-same w rd v
          where
            in-stack : (f y : ℕ) → stack_base + 256 ≤ f → f + 16 ≤ 0x40000000 → in_slots f y ≡ true → within stack_base 0x100000 y ≡ true
            in-stack f y low high on = grind (arith, low, high, on)

        left : (y : ℕ) → in_slots fp y ≡ false → (R.processor.seen u).bytes y ≡ bytes y
        left = bytes-off R scratch fits isa c i n S taken is refl refl t k.code h frames s q at st.runs st.state w bytes (R.processor.seen q).flags (λ y z. refl) passing

        long-pushed : length s.pushed ≡ j
        long-pushed = count frames s (R.processor.seen q) at st.state

        outgoing : HasArguments target (R.processor.seen u).bytes (lowest s.frame) (s.pushed ++ v ∷ [])
        outgoing = record {
          is = λ m z ge e. ⊎_elim
              (λ f.
              let o = word-is s m stack (let z = st.state.low in omega (arith, z)) (omega (arith, f.0, long-pushed, few)) in
              word-kept bytes (R.processor.seen u).bytes (outgoing_word target (lowest s.frame) m) z (λ y le lt. left y (o.off y le lt)) (st.state.outgoing.is m z ge f.1))
              (λ f. absurd (omega (arith, f.0, long-pushed, low, ge)))
              (more s.pushed v m z e);
        }

        held : HoldsArguments target (R.processor.seen u).registers (s.pushed ++ v ∷ [])
        held = record {
          is = λ m z lt e. ⊎_elim
              (λ f. kept-argument R scratch fits isa c i n S taken is refl refl t k.code h frames s q at st.runs st.state w bytes (R.processor.seen q).flags (λ y z. refl) passing m lt f.0 ∙ st.state.pushed.is m z lt f.1)
              (λ f. ap (λ y. (R.processor.seen u).registers (slice_index (argument_registers target) y)) (f.0 ∙ long-pushed) ∙ value-is ∙ f.1)
              (more s.pushed v m z e);
        }

        agree : StatesAgree target c frames (to s v) (R.processor.seen u) S
        agree = push-agrees target c frames s (to s v) (R.processor.seen q) (R.processor.seen u) (live_before n S) S st.state
            (stays R scratch fits isa c i n S taken is refl refl t k.code h frames s q at st.runs st.state w bytes (R.processor.seen q).flags (λ y z. refl) passing (to s v) (goes-so s v at given) refl refl refl refl)
            record { mem = refl; data_size = refl; args_size = refl; bytes = λ y off away. left y (or_parts (in_slots fp y) (within (lowest s.frame - 8) 8 y) off).0; outgoing = outgoing }
            record {
              registers = record {
                is = λ r y lt alive e. kept-portable R scratch fits isa c i n S taken is refl refl t k.code h frames s q at st.runs st.state w bytes (R.processor.seen q).flags (λ y z. refl) passing r lt alive (g.writes r)
                    ∙ st.state.registers.is r y lt (still R scratch fits isa c i n S taken is refl refl t k.code h r alive (g.writes r)) e;
              };
              carry = tt;
              result = record { is = λ w e. cc };
              pushed = held;
            }

        in-register-leads : Result frames s out q
        in-register-leads = leads R scratch fits isa c i n S taken is refl refl t k.code h frames s q at st.runs st.state w bytes (R.processor.seen q).flags (λ y z. refl) passing (to s v) (goes-so s v at given) refl out st.wrote agree

    -- ---- into a stack word
    module _ (many : length (argument_registers target) ≤ j) where
      on-stack : is_in_register target j ≡ false
      on-stack = grind (arith, many)

      plain : AreHarmless R c i n S []
      plain = none-harmless R scratch fits isa c i n S

      module _ (frames : Frame → ℕ → Bool) (s : State) (out : List ℕ) (q : Q) (at : s.at ≡ i) (st : Stands R.processor c frames s out q (live_before n S)) (v : ℕ) (given : value c.addresses s x ≡ Some v) where
        abbrev ws : ℕ → ℕ
        ws = (R.processor.seen q).registers

        abbrev m : ℕ → Option ℕ
        m = (R.processor.seen q).bytes

        abbrev end_fp : ℕ
        end_fp = frame_pointer s.frame.sp

        abbrev a : ℕ
        a = outgoing_word target (lowest s.frame) j

        holds : HoldsRead target n frame s (R.processor.seen q)
        holds = read-before R scratch fits isa c i n S [] is refl refl t k.code plain frames s q at st.runs st.state frame is-frame

        frames-stacked : AreStacked (lowest s.frame) (s.frame ∷ s.callers)
        frames-stacked = tower R scratch fits isa c i n S [] is refl refl t k.code plain frames s q at st.runs st.state

        behind : is_inside c s.at ≡ true
        behind = inside R scratch fits isa c i n S [] is refl refl t k.code plain frames s q at st.runs st.state

        rests : IsSettled target c.place m ws s.frame s.callers (frames (at_call s.frame)) (homes_at c s.at)
        rests = settled target (is_inside c s.at) c.place m ws s.frame s.callers (frames (at_call s.frame)) (homes_at c s.at) behind st.state.frame

        deep : 0x3FF00010 ≤ lowest s.frame
        deep = let z = st.state.low in omega (arith, z)

        word-at : IsOutgoing (lowest s.frame) s.frame.sp a
        word-at = word-is s j frames-stacked deep few

        given-word : IsPassed target ws (slice_index c.addresses) x v
        given-word = passed s (R.processor.seen q) v holds given

        writable : IsWritable (R.processor.seen q) end_fp a 8
        writable b same = mapped-all b a 8 (λ y le lt. ap is_some (same y (word-at.off y le lt)) ∙ st.state.seen.stack y (word-at.in_stack y le lt))

        stores : Does R (from_to (R.processor.seen q) ws (stored m a 8 v) (R.processor.seen q).flags) is end_fp (spilled []) (spoils scratch [])
        stores =
            subst (λ p. Does R (from_to (R.processor.seen q) ws (stored m a 8 v) (R.processor.seen q).flags) is p 0 (spoils scratch [])) holds.pointer
            (subst (λ p. Does R (from_to (R.processor.seen q) ws (stored m (outgoing_word target p j) 8 v) (R.processor.seen q).flags) is (ws (frame_register target)) 0 (spoils scratch [])) rests.stack
            (subst (λ b. Does R
            (from_to (R.processor.seen q) (if b then with_register ws (slice_index (argument_registers target) j) v else ws) (if b then m else stored m (outgoing_word target (ws (stack_register target)) j) 8 v) (R.processor.seen q).flags)
            is (ws (frame_register target)) 0 (spoils scratch [])) on-stack
            (lead frame (slice_index c.addresses) (c.place i) j x q v few holds.in_frame given-word
            (λ e. subst (λ p. IsWritable (R.processor.seen q) p (outgoing_word target (ws (stack_register target)) j) 8) (sym holds.pointer)
            (subst (λ p. IsWritable (R.processor.seen q) end_fp (outgoing_word target p j) 8) (sym rests.stack) writable)))))

        abbrev end : Q
        end = done R.does is q

        abbrev storing : Crossed R scratch fits isa c i n S [] is refl refl t k.code plain frames s q at st.runs st.state ws (stored m a 8 v) (R.processor.seen q).flags (λ y z. refl)
        storing = crosses R scratch fits isa c i n S [] is refl refl t k plain frames s q at st.runs st.state ws (stored m a 8 v) (R.processor.seen q).flags stores (λ y z. refl)

        leaves-bytes : (y : ℕ) → in_slots end_fp y ≡ false → (R.processor.seen end).bytes y ≡ stored m a 8 v y
        leaves-bytes = bytes-off R scratch fits isa c i n S [] is refl refl t k.code plain frames s q at st.runs st.state ws (stored m a 8 v) (R.processor.seen q).flags (λ y z. refl) storing

        so-many : length s.pushed ≡ j
        so-many = count frames s (R.processor.seen q) at st.state

        goes-out : HasArguments target (R.processor.seen end).bytes (lowest s.frame) (s.pushed ++ v ∷ [])
        goes-out = record {
          is = λ b z ge e. ⊎_elim
              (λ f.
              let o = word-is s b frames-stacked deep (omega (arith, f.0, so-many, few)) in
              word-kept m (R.processor.seen end).bytes (outgoing_word target (lowest s.frame) b) z
              (λ y le lt. leaves-bytes y (o.off y le lt) ∙ stored-out m a 8 v y (inl (omega (arith, lt, ge, f.0, so-many, many)))) (st.state.outgoing.is b z ge f.1))
              (λ f. subst (λ y. HasWord (R.processor.seen end).bytes (outgoing_word target (lowest s.frame) y) z) (sym (f.0 ∙ so-many))
              (subst (λ y. HasWord (R.processor.seen end).bytes a y) f.1
              (word-kept (stored m a 8 v) (R.processor.seen end).bytes a v (λ y le lt. leaves-bytes y (word-at.off y le lt)) (loaded-stored m a 8 v given-word.small))))
              (more s.pushed v b z e);
        }

        registers-hold : HoldsArguments target (R.processor.seen end).registers (s.pushed ++ v ∷ [])
        registers-hold = record {
          is = λ b z lt e. ⊎_elim
              (λ f. kept-argument R scratch fits isa c i n S [] is refl refl t k.code plain frames s q at st.runs st.state ws (stored m a 8 v) (R.processor.seen q).flags (λ y z. refl) storing b lt f.0 ∙ st.state.pushed.is b z lt f.1)
              (λ f. absurd (omega (arith, f.0, so-many, many, lt)))
              (more s.pushed v b z e);
        }

        agrees : StatesAgree target c frames (to s v) (R.processor.seen end) S
        agrees = push-agrees target c frames s (to s v) (R.processor.seen q) (R.processor.seen end) (live_before n S) S st.state
            (stays R scratch fits isa c i n S [] is refl refl t k.code plain frames s q at st.runs st.state ws (stored m a 8 v) (R.processor.seen q).flags (λ y z. refl) storing (to s v) (goes-so s v at given) refl refl refl refl)
            record {
              mem = refl;
              data_size = refl;
              args_size = refl;
              bytes = λ y off away. leaves-bytes y (or_parts (in_slots end_fp y) (within (lowest s.frame - 8) 8 y) off).0 ∙ stored-out m a 8 v y (word-at.inside_words y away);
              outgoing = goes-out;
            }
            record {
              registers = record {
                is = λ r y lt alive e. kept-portable R scratch fits isa c i n S [] is refl refl t k.code plain frames s q at st.runs st.state ws (stored m a 8 v) (R.processor.seen q).flags (λ y z. refl) storing r lt alive (g.writes r)
                    ∙ st.state.registers.is r y lt (still R scratch fits isa c i n S [] is refl refl t k.code plain r alive (g.writes r)) e;
              };
              carry = tt;
              result = record { is = λ w e. cc };
              pushed = registers-hold;
            }

        on-stack-leads : Result frames s out q
        on-stack-leads = leads R scratch fits isa c i n S [] is refl refl t k.code plain frames s q at st.runs st.state ws (stored m a 8 v) (R.processor.seen q).flags (λ y z. refl) storing (to s v) (goes-so s v at given) refl out st.wrote agrees

    push-law : CarriesNode R.processor c i n S
    push-law frames s returns out q at st = by (value c.addresses s x) refl (cases_lt j (length (argument_registers target)))
      where
        by : (o : Option ℕ) → value c.addresses s x ≡ o → (j < length (argument_registers target)) ⊎ (length (argument_registers target) ≤ j) → Result frames s out q
        by None e z = inl (undefined s at e)
        by (Some v) e (inl lt) = in-register-leads lt frames s out q at st v e
        by (Some v) e (inr ge) = on-stack-leads ge frames s out q at st v e

-- ---- nodes
-- the operand that is passed: a register, a number, a host function's address or a label's
record StartsGiven (xs : List Operand) (last : LastOperand) : Type 0 where
  operand-is : Operand
  is : xs ≡ operand-is ∷ []
  slots : (k : ℕ) → operand-is ≢ operand.Slot k
  reads : (a : Reg) → operand-is ≡ operand.Reg a → last ≡ last_operand.Register

starts-given : (xs : List Operand) (last : LastOperand) → admit (forms_of (op.Control control.Pusharg last)) xs ≡ true → StartsGiven xs last
starts-given xs last_operand.Register e =
    let a = starts-read [] xs e in record { operand-is = operand.Reg a.register; is = a.is ∙ ap (λ ys. operand.Reg a.register ∷ ys) (nothing-left a.rest a.admitted); slots = λ k z. cc; reads = λ b z. refl }
starts-given (operand.Number v ∷ xs) last_operand.Immediate e = record { operand-is = operand.Number v; is = ap (λ ys. operand.Number v ∷ ys) (nothing-left xs e); slots = λ k z. cc; reads = λ b z. cc }
starts-given (operand.Host name ∷ xs) last_operand.Immediate e = record { operand-is = operand.Host name; is = ap (λ ys. operand.Host name ∷ ys) (nothing-left xs e); slots = λ k z. cc; reads = λ b z. cc }
starts-given (operand.Label l ∷ xs) last_operand.Immediate e = record { operand-is = operand.Label l; is = ap (λ ys. operand.Label l ∷ ys) (nothing-left xs e); slots = λ k z. cc; reads = λ b z. cc }
starts-given other last_operand.Immediate e = cc

abbrev IsCarried : {Q I : Type 0} → Rows Q I → (I → Type 0) → PushCode I → Code → ℕ → ℕ → (ℕ → Bool) → Node → Type 0
IsCarried R fits code c i frame S m =
    HasWords m → NamesCode c m → IsInText c i m → IsNodeBlock R fits c i (code frame (slice_index c.addresses) (c.place i) (pushed c.nodes.nodes i) (operand_at m 0)) → CarriesNode R.processor c i m S

given-operand : {Q I : Type 0} (R : Rows Q I) (scratch : ℕ → Bool) (fits : I → Type 0) (isa : IsIsa R scratch fits) (code : PushCode I) (lead : PushesDo R scratch code) (some : HasPushCode R code) (c : Code) (i frame : ℕ)
    (is-frame : IsFrameOf c i frame) (S : ℕ → Bool) (line : ℕ) (last : LastOperand) (x : Operand) → ((k : ℕ) → x ≢ operand.Slot k) → ((a : Reg) → x ≡ operand.Reg a → last ≡ last_operand.Register)
    → HasWords record { op = op.Control control.Pusharg last; operands = x ∷ []; line = line } → NamesCode c record { op = op.Control control.Pusharg last; operands = x ∷ []; line = line }
    → IsGiven R scratch fits isa code lead some c i frame is-frame S line last x
given-operand R scratch fits isa code lead some c i frame is-frame S line last x slots reads words labels = record {
  reads = λ a e ne. subst (λ y. is_read (node y last) a ≡ true) (sym e) (subst (λ l. is_read (node (operand.Reg a) l) a ≡ true) (sym (reads a e)) (same-self a ne));
  words = λ v e. words 0 v e;
  labels = λ l e. labels 0 l e;
  slots = slots;
  writes = λ r. nothing-written last r;
}
  where
    node : Operand → LastOperand → Node
    node y l = record { op = op.Control control.Pusharg l; operands = y ∷ []; line = line }

    nothing-written : (l : LastOperand) (r : ℕ) → numbered (is_written (node x l)) r ≡ false
    nothing-written last_operand.Register r = numbered-same (is_written (node x last_operand.Register)) (λ m. false) (λ m. refl) r ∙ numbered-none r
    nothing-written last_operand.Immediate r = numbered-same (is_written (node x last_operand.Immediate)) (λ m. false) (λ m. refl) r ∙ numbered-none r

pub pushes-carry : {Q I : Type 0} (R : Rows Q I) (scratch : ℕ → Bool) (fits : I → Type 0) → IsIsa R scratch fits → (code : PushCode I) → PushesDo R scratch code → HasPushCode R code → PushesCarry R fits code
pushes-carry R scratch fits isa code lead some c i n last frame S e words labels t is-frame k = subst (IsCarried R fits code c i frame S) (ap (with_op n) (sym e)) with-op words labels t k
  where
    formed : admit (forms_of (op.Control control.Pusharg last)) n.operands ≡ true
    formed = ap (λ o. admit (forms_of o) n.operands) (sym e) ∙ (t.formed n t.here).forms

    with-op : IsCarried R fits code c i frame S (with_op n (op.Control control.Pusharg last))
    with-op =
        let a = starts-given n.operands last formed in
        subst (λ xs. IsCarried R fits code c i frame S record { op = op.Control control.Pusharg last; operands = xs; line = n.line }) (sym a.is)
        (λ words' labels' t' k'. push-law R scratch fits isa code lead some c i frame is-frame S n.line last a.operand-is
        (given-operand R scratch fits isa code lead some c i frame is-frame S n.line last a.operand-is a.slots a.reads words' labels') t' k')
