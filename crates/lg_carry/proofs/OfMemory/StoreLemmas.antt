-- Stores are carried by code that stores the register.
use Rattle.std.proofs.Common.{◌≡◌, ℕ, ◌+◌, ◌-◌, ◌^◌, ◌<◌, ◌≤◌, ◌⊎◌, inl, inr, Bool, true, false, List, [], Option, Some, None, refl, sym, ap, ◌∙◌, subst, arith, length}
use Rattle.std.specs.Prelude.{is_some, if◌then◌else◌}
use Rattle.std.proofs.lemmas.Bool.{cases_lt, false_from_ne_true, or_parts}
use Rattle.std.proofs.lemmas.Option.{slice_get_within}
use Rattle.lg_base.specs.Conventions.{frame_register, stack_register}
use Rattle.lg_base.specs.Layout.{frame_pointer}
use Rattle.lg_base.specs.Spaces.{stored}
use Rattle.lg_base.specs.declared.target.Target.{Target}
use Rattle.lg_base.proofs.SpaceLemmas.{stored-out, mapped-all}
use Rattle.lg_cells.specs.Cells.{within}
use Rattle.lg_cells.specs.Memories.{writable}
use Rattle.lg_cells.proofs.LoadLemmas.{writable_at}
use Rattle.lg_op.specs.declared.op.StoreType.{StoreType}
use Rattle.lg_op.specs.declared.op.StoreType.TheVariants as store_type
use Rattle.lg_op.specs.declared.operand.Reg.{Reg}
use Rattle.lg_op.specs.declared.node.Node.{Node}
use Rattle.lg_live.specs.Uses.{is_written}
use Rattle.lg_op.specs.Operators.{store_width}
use Rattle.lg_meaning.specs.States.{Frame, State, is_open}
use Rattle.lg_meaning.specs.Steps.{Goes, Undefined, need, on_with_carry, store_to}
use Rattle.lg_meaning.specs.Texts.{step}
use Rattle.lg_temp.specs.Abis.{register_of}
use Rattle.lg_temp.specs.declared.choice.Choice.{Choice}
use Rattle.lg_base.specs.Flags.{carry_of}
use Rattle.lg_carry.specs.AgreeInFrame.{Writes}
use Rattle.lg_carry.specs.Blocks.{spellings}
use Rattle.lg_carry.specs.FinalNodes.{Code}
use Rattle.lg_carry.specs.Carries.{leaps, Leads}
use Rattle.lg_carry.specs.Passages.{IsNodeCode}
use Rattle.lg_carry.specs.NodeCode.{numbered, live_before, live_behind, CarriesNode}
use Rattle.lg_carry.specs.Registers.{HoldsCarry}
use Rattle.lg_carry.specs.Rows.{Rows}
use Rattle.lg_carry.specs.Spills.{in_slots, wrapped, spilled}
use Rattle.lg_carry.specs.Stands.{StatesAgree, Stands, lowest}
use Rattle.lg_carry.proofs.AgreeInFrameLemmas.{store-agrees}
use Rattle.lg_carry.proofs.SpillLemmas.{stored-there}
use Rattle.lg_carry.proofs.StackLemmas.{within-where}
use Rattle.lg_carry.specs.Memory.Accesses.{Address, address_word, IsAddress, LiesAbove}
use Rattle.lg_carry.specs.Nodes.Isas.{IsIsa}
use Rattle.lg_carry.specs.TextNodes.{IsInText, IsFrameOf, stands_inside}
use Rattle.lg_carry.specs.Memory.Crossings.{CrossesCode}
use Rattle.lg_carry.specs.Memory.Stores.{IsWritable, IsOffSlots, StoreCrosses}
use Rattle.lg_carry.specs.Nodes.Straight.{IsKept, spoils, from_to, HoldsRead}
use Rattle.lg_carry.proofs.OfNodes.ByteLemmas.{stored-holds, stored-same}
use Rattle.lg_carry.proofs.OfNodes.OpenLemmas.{open-there}
use Rattle.lg_carry.proofs.OfNodes.StraightLemmas.{AreHarmless, carry-moved, u, still, tower, is-fp, open-off, open-below, open-above, read-before, stays, leads, kept-portable, kept-argument, carry-end, bytes-off, flag-is, Crossed}
use Rattle.lg_carry.proofs.OfMemory.PassedNodeLemmas.{crosses}

pub some-stored : (t : StoreType) → 0 < store_width t
some-stored store_type.Char = omega arith
some-stored _ = omega arith

module _ {Q I : Type 0} (R : Rows Q I) (scratch : ℕ → Bool) (fits : I → Type 0) (isa : IsIsa R scratch fits)
    (c : Code) (i : ℕ) (n : Node) (t : StoreType) (S : ℕ → Bool) (b : Reg) (at : Address) (is-address : IsAddress at) (frame : ℕ)
    (choices : List Choice) (body : List I) (lead : StoreCrosses R fits scratch choices frame t at b body) (some : 0 < length (spellings R.spelling body)) (h : AreHarmless R c i n S choices)
    (o f : State → Option ℕ) (inside_op : stands_inside n.op ≡ true) (falls : leaps n.op ≡ false)
    (gives : (s : State) (q : Q) (a : ℕ) → HoldsRead R.processor.target n frame s (R.processor.seen q) → o s ≡ Some a → address_word R.processor.target (R.processor.seen q).registers at ≡ a)
    (holds : (s : State) (q : Q) (v : ℕ) → HoldsRead R.processor.target n frame s (R.processor.seen q) → f s ≡ Some v → (R.processor.seen q).registers (register_of R.processor.target b) ≡ v)
    (writes : (r : ℕ) → numbered (is_written n) r ≡ false)
    (steps_so : (s : State) → s.at ≡ i → step c.nodes c.shape c.addresses s ≡ need (o s) (λ a. need (f s) (λ v. store_to s t a v)))
    (x : IsInText c i n) (is-frame : IsFrameOf c i frame) (k : IsNodeCode R fits c i (wrapped R choices body)) where
  abbrev target : Target
  target = R.processor.target

  module _ (frames : Frame → ℕ → Bool) (s : State) (out : List ℕ) (q : Q) (here : s.at ≡ i) (st : Stands R.processor c frames s out q (live_before n S)) (a v : ℕ) (address : o s ≡ Some a) (given : f s ≡ Some v)
      (room : writable (is_open s) a (store_width t) ≡ true) where
    abbrev w : ℕ → ℕ
    w = (R.processor.seen q).registers

    abbrev to : State
    to = on_with_carry (record s { mem = stored s.mem a (store_width t) v })

    abbrev bytes : ℕ → Option ℕ
    bytes = stored (R.processor.seen q).bytes a (store_width t) v

    abbrev fp : ℕ
    fp = frame_pointer s.frame.sp

    stepped : step c.nodes c.shape c.addresses s ≡ Goes to []
    stepped = steps_so s here ∙ ap (λ z. need z (λ b'. need (f s) (λ y. store_to s t b' y))) address ∙ ap (λ z. need z (λ y. store_to s t a y)) given ∙ ap (λ b'. if b' then Goes to [] else Undefined) room

    off : (y : ℕ) → is_open s y ≡ true → in_slots fp y ≡ false
    off = open-off R scratch fits isa c i n S choices body inside_op falls x k h frames s q here st.runs st.state

    open-at : (y : ℕ) → a ≤ y → y < a + store_width t → is_open s y ≡ true
    open-at y le lt = let z : a + (y - a) ≡ y = omega (arith, le) in ap (is_open s) (sym z) ∙ writable_at (is_open s) a (store_width t) (y - a) room (omega (arith, le, lt))

    reads : HoldsRead target n frame s (R.processor.seen q)
    reads = read-before R scratch fits isa c i n S choices body inside_op falls x k h frames s q here st.runs st.state frame is-frame

    there : IsWritable (R.processor.seen q) fp a (store_width t)
    there m same = mapped-all m a (store_width t) (λ y le lt.
        let may = open-at y le lt in
        ap is_some (same y (off y may)) ∙ open-there s (R.processor.seen q) y st.state.parts st.state.seen (omega (arith, st.state.mark, st.state.seen.high)) (tower R scratch fits isa c i n S choices body inside_op falls x k h frames s q here st.runs st.state) st.state.low may)

    ends : a + store_width t ≤ 2 ^ 64
    ends =
        let wide = some-stored t in
        let last = open-below R scratch fits isa c i n S choices body inside_op falls x k h frames s q here st.runs st.state (a + (store_width t - 1)) (writable_at (is_open s) a (store_width t) (store_width t - 1) room (omega (arith, wide))) in
        omega (arith, last, wide)

    does : CrossesCode R fits (from_to (R.processor.seen q) w bytes (R.processor.seen q).flags) body fp (spilled choices) (spoils scratch choices)
    does =
        let p = reads.pointer in
        let there' : IsWritable (R.processor.seen q) (w (frame_register target)) a (store_width t) = subst (λ p'. IsWritable (R.processor.seen q) p' a (store_width t)) (sym p) there in
        let off' : IsOffSlots (w (frame_register target)) a (store_width t) = λ j lt. ap (λ p'. in_slots p' (a + j)) p ∙ off (a + j) (writable_at (is_open s) a (store_width t) j room lt) in
        let safe : LiesAbove target (w (stack_register target)) a (store_width t) = λ y le lt. open-above R scratch fits isa c i n S choices body inside_op falls x k h frames s q here st.runs st.state y (open-at y le lt) in
        let d = lead q a is-address reads.in_frame (gives s q a reads address) ends there' safe off' in
        subst (λ p'. CrossesCode R fits (from_to (R.processor.seen q) w bytes (R.processor.seen q).flags) body p' (spilled choices) (spoils scratch choices)) p
        (subst (λ y. CrossesCode R fits (from_to (R.processor.seen q) w (stored (R.processor.seen q).bytes a (store_width t) y) (R.processor.seen q).flags) body (w (frame_register target)) (spilled choices) (spoils scratch choices)) (holds s q v reads given) d)

    keeps : (y : ℕ) → IsKept target scratch n choices y → w y ≡ w y
    keeps y z = refl

    passing : Crossed R scratch fits isa c i n S choices body inside_op falls x k h frames s q here st.runs st.state w bytes (R.processor.seen q).flags keeps
    passing = crosses R scratch fits isa c i n S choices body inside_op falls x k some h frames s q here st.runs st.state w bytes (R.processor.seen q).flags does keeps

    abbrev here-u : Q
    here-u = u R scratch fits isa c i n S choices body inside_op falls x k h frames s q here st.runs st.state w bytes (R.processor.seen q).flags keeps passing

    left : (y : ℕ) → in_slots fp y ≡ false → (R.processor.seen here-u).bytes y ≡ bytes y
    left = bytes-off R scratch fits isa c i n S choices body inside_op falls x k h frames s q here st.runs st.state w bytes (R.processor.seen q).flags keeps passing

    low-off : (y : ℕ) → y < 0x30000000 → in_slots fp y ≡ false
    low-off y lt = false_from_ne_true (in_slots fp y) (λ on. let z = within-where (fp - 128) 40 y on in let p = (is-fp R scratch fits isa c i n S choices body inside_op falls x k h frames s q here st.runs st.state).low in omega (arith, z.0, z.1, p, lt))

    written : Writes s to (R.processor.seen q) (R.processor.seen here-u)
    written = record {
      bytes = λ y spoilt. by y (or_parts (in_slots fp y) (within (lowest s.frame - 8) 8 y) spoilt).0 (cases_lt y a) (cases_lt y (a + store_width t));
      parts = record {
        data_small = st.state.parts.data_small;
        args_small = st.state.parts.args_small;
        data_whole = λ y e. stored-there s.mem a (store_width t) v y (st.state.parts.data_whole y e);
        args_whole = λ y e. stored-there s.mem a (store_width t) v y (st.state.parts.args_whole y e);
        same = λ y le lt. left y (low-off y lt) ∙ stored-same s.mem (R.processor.seen q).bytes a (store_width t) v y (st.state.parts.same y le lt);
      };
      memory = record { is = λ y m e. left y (mine y m e (cases_lt y a) (cases_lt y (a + store_width t))) ∙ stored-holds s.mem (R.processor.seen q).bytes a (store_width t) v st.state.memory.is y m e };
    }
      where
        by : (y : ℕ) → in_slots fp y ≡ false → (y < a) ⊎ (a ≤ y) → (y < a + store_width t) ⊎ (a + store_width t ≤ y) → ((R.processor.seen here-u).bytes y ≡ (R.processor.seen q).bytes y) ⊎ (is_open to y ≡ true)
        by y free (inl lt) z = inl (left y free ∙ stored-out (R.processor.seen q).bytes a (store_width t) v y (inl lt))
        by y free (inr le) (inr out') = inl (left y free ∙ stored-out (R.processor.seen q).bytes a (store_width t) v y (inr out'))
        by y free (inr le) (inl lt) = inr (open-at y le lt)

        mine : (y m : ℕ) → stored s.mem a (store_width t) v y ≡ Some m → (y < a) ⊎ (a ≤ y) → (y < a + store_width t) ⊎ (a + store_width t ≤ y) → in_slots fp y ≡ false
        mine y m e (inl lt) z = reads.off_slots y m (sym (stored-out s.mem a (store_width t) v y (inl lt)) ∙ e)
        mine y m e (inr le) (inr out') = reads.off_slots y m (sym (stored-out s.mem a (store_width t) v y (inr out')) ∙ e)
        mine y m e (inr le) (inl lt) = off y (open-at y le lt)

    agree : StatesAgree target c frames to (R.processor.seen here-u) S
    agree = store-agrees target c frames s to (R.processor.seen q) (R.processor.seen here-u) (live_before n S) S st.state
        (stays R scratch fits isa c i n S choices body inside_op falls x k h frames s q here st.runs st.state w bytes (R.processor.seen q).flags keeps passing to stepped refl refl refl refl)
        written refl
        record {
          registers = record {
            is = λ r y lt alive e. kept-portable R scratch fits isa c i n S choices body inside_op falls x k h frames s q here st.runs st.state w bytes (R.processor.seen q).flags keeps passing r lt alive (writes r)
                ∙ st.state.registers.is r y lt (still R scratch fits isa c i n S choices body inside_op falls x k h r alive (writes r)) e;
          };
          carry = subst (λ z. HoldsCarry target (R.processor.seen here-u).registers (carry_of z) s.carry) (sym (flag-is R scratch fits isa c i n S choices body inside_op falls x k h frames s q here st.runs st.state w bytes (R.processor.seen q).flags keeps passing))
              (carry-moved target s.carry w (R.processor.seen here-u).registers (carry_of (R.processor.seen q).flags) (carry-end R scratch fits isa c i n S choices body inside_op falls x k h frames s q here st.runs st.state w bytes (R.processor.seen q).flags keeps passing) st.state.carry);
          result = record { is = λ y e. cc };
          pushed = record { is = λ j y lt e. kept-argument R scratch fits isa c i n S choices body inside_op falls x k h frames s q here st.runs st.state w bytes (R.processor.seen q).flags keeps passing j lt (slice_get_within s.pushed j y e) ∙ st.state.pushed.is j y lt e };
        }

    pub goes-there : (step c.nodes c.shape c.addresses s ≡ Undefined) ⊎ Leads R.processor c frames (live_behind frames n S s) i (step c.nodes c.shape c.addresses s) out q
    goes-there = leads R scratch fits isa c i n S choices body inside_op falls x k h frames s q here st.runs st.state w bytes (R.processor.seen q).flags keeps passing to stepped refl out st.wrote agree

  abbrev Result : (Frame → ℕ → Bool) → State → List ℕ → Q → Type 0
  Result frames s out q = (step c.nodes c.shape c.addresses s ≡ Undefined) ⊎ Leads R.processor c frames (live_behind frames n S s) i (step c.nodes c.shape c.addresses s) out q

  pub store-carried : CarriesNode R.processor c i n S
  store-carried frames s returns out q here st = by (o s) (f s) refl refl
    where
      on : (a v : ℕ) → o s ≡ Some a → f s ≡ Some v → step c.nodes c.shape c.addresses s ≡ store_to s t a v
      on a v e g = steps_so s here ∙ ap (λ z. need z (λ b'. need (f s) (λ y. store_to s t b' y))) e ∙ ap (λ z. need z (λ y. store_to s t a y)) g

      at-word : (a v : ℕ) → o s ≡ Some a → f s ≡ Some v → (d : Bool) → writable (is_open s) a (store_width t) ≡ d → Result frames s out q
      at-word a v e g true m = goes-there frames s out q here st a v e g m
      at-word a v e g false m = inl (on a v e g ∙ ap (λ z. if z then Goes (on_with_carry (record s { mem = stored s.mem a (store_width t) v })) [] else Undefined) m)

      by : (a v : Option ℕ) → o s ≡ a → f s ≡ v → Result frames s out q
      by None v e g = inl (steps_so s here ∙ ap (λ z. need z (λ b'. need (f s) (λ y. store_to s t b' y))) e)
      by (Some a) None e g = inl (steps_so s here ∙ ap (λ z. need z (λ b'. need (f s) (λ y. store_to s t b' y))) e ∙ ap (λ z. need z (λ y. store_to s t a y)) g)
      by (Some a) (Some v) e g = at-word a v e g (writable (is_open s) a (store_width t)) refl
