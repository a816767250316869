-- Jumps and calls of the word of a register are carried.
use Rattle.std.proofs.Common.{◌≡◌, ◌≢◌, ℕ, suc, ◌+◌, ◌<◌, ◌≤◌, ◌⊎◌, inl, inr, Bool, true, false, List, [], Option, Some, None, refl, sym, ap, ◌∙◌, subst}
use Rattle.std.proofs.Common.{arith, length}
use Rattle.std.specs.Prelude.{slice_get}
use Rattle.lg_carry.proofs.TurnLemmas.{call-moves}
use Rattle.lg_carry.specs.Outside.{calls_move}
use Rattle.lg_base.specs.Conventions.{stack_register}
use Rattle.lg_base.specs.HostNames.{host_by_address}
use Rattle.lg_base.specs.declared.host_name.HostName.{HostName}
use Rattle.lg_op.specs.declared.form.Form.TheVariants as form
use Rattle.lg_op.specs.declared.operand.Reg.{Reg}
use Rattle.lg_op.specs.declared.operand.Reg.TheVariants.{Fp}
use Rattle.lg_op.specs.declared.node.Node.{Node}
use Rattle.lg_node.proofs.FunctionLaws.{home_within}
use Rattle.lg_live.specs.Uses.{is_written}
use Rattle.lg_live.specs.declared.uses.Access.TheVariants.{Read}
use Rattle.lg_op.specs.Operands.{number_of}
use Rattle.lg_meaning.specs.States.{Frame, State, reg}
use Rattle.lg_meaning.specs.Steps.{Goes, Undefined, need, to, quiet, is_target, jump_target, is_entry_label, entry_target, call_named, call_word}
use Rattle.lg_meaning.specs.Steps.{call_node as call_node_step, call_host}
use Rattle.lg_meaning.specs.Texts.{text, step_at, step}
use Rattle.lg_meaning.specs.Fits.{is_call}
use Rattle.lg_temp.specs.Abis.{register_of}
use Rattle.lg_carry.specs.FinalNodes.{Code, is_inside}
use Rattle.lg_carry.specs.Registers.{HoldsArguments, HasArguments}
use Rattle.lg_carry.specs.Stands.{lowest, Stands}
use Rattle.lg_carry.specs.Carries.{Leads, moves_at}
use Rattle.lg_carry.specs.NodeCode.{numbered, live_before, live_behind, ReturnsTo}
use Rattle.lg_carry.specs.Passages.{IsNodeCode}
use Rattle.lg_carry.specs.Rows.{Rows, AreRows}
use Rattle.lg_carry.specs.TextNodes.{IsInText, IsFrameOf}
use Rattle.lg_carry.proofs.TextShapeLemmas.{shaped}
use Rattle.lg_carry.specs.Nodes.Leaps.{HasPlaces, IsThere, HostArrival, EntersHosts}
use Rattle.lg_carry.specs.Nodes.Stretches.{behind, Arrival}
use Rattle.lg_carry.proofs.OfNodes.CallLemmas.{frame, held-frame, enters}
use Rattle.lg_carry.proofs.OfNodes.HostLemmas.{host-called}
use Rattle.lg_carry.proofs.OfNodes.LeapLemmas.{in-some, after-prolog, next-inside, node-stands, there}
use Rattle.lg_carry.proofs.OfNodes.OperandLemmas.{named-here, read-is-live}
use Rattle.lg_carry.proofs.OfNodes.RegisterLemmas.{given}
use Rattle.lg_carry.proofs.OfNodes.StraightLemmas.{text-keeps}
use Rattle.lg_sel.specs.Control.RegisterLeaps.{RegisterJumpsWalk, RegisterCallsLead, RegisterHostCallsLead, RegisterLeapsCarry, jmpr_node, callr_node}
use Rattle.lg_sel.specs.Control.RegisterLeaps.{finishr_node}
use Rattle.lg_sel.specs.Control.Walks.{Walk}
use Rattle.lg_sel.proofs.OfControl.LandingLemmas.{LandsAt, last-landed, host-found, entry-home, target-inside, target-function}
use Rattle.lg_sel.proofs.OfControl.WalkLemmas.{walk-leads}

-- a word that is the address of a label leads to the label's node
word-there : {Q I : Type 0} (R : Rows Q I) (c : Code) (w : HasPlaces R c) (test : ℕ → ℕ → Bool) (x j : ℕ) → (k : LandsAt test c.nodes.places c.addresses x j)
    → j ≤ length c.nodes.nodes → (x ≡ c.place j) × IsThere R.is_place x
word-there R c w test x j l le =
    let place : x ≡ c.place j = sym l.address ∙ w.nodes.bound l.label j l.bound in
    (place, subst (IsThere R.is_place) (sym place) (there R c w j le (inl (l.label, l.bound))))

-- ---- `jmpr`
module _ {Q I : Type 0} (R : Rows Q I) (fits : I → Type 0) (rows : AreRows R fits) (code : ℕ → Reg → List I) (lead : RegisterJumpsWalk R fits code) where
  pub register-jumps-carry : RegisterLeapsCarry R fits code jmpr_node
  register-jumps-carry c i a line size S w t is-frame k live s returns out q at st = by (reg s a) refl
    where
      n : Node
      n = jmpr_node a line

      inside : is_inside c i ≡ true
      inside = let p = in-some c i (jmpr_node a line) t refl in after-prolog c i (jmpr_node a line) t p.0 p.1 refl

      reads : a ≢ Fp → live_before (jmpr_node a line) S (number_of a) ≡ true
      reads ne = read-is-live (jmpr_node a line) S a (λ z. named-here Read form.Read [] a [] refl z) ne

      stepped : step c.nodes c.shape c.addresses s ≡ need (reg s a) (λ x. need (jump_target (text c.nodes c.shape c.addresses) s.at x) (λ j. quiet (to s j)))
      stepped = ap (λ m. step_at (text c.nodes c.shape c.addresses) m s) (ap (slice_get c.nodes.nodes) at ∙ t.here)

      lands : (x j : ℕ) → reg s a ≡ Some x → jump_target (text c.nodes c.shape c.addresses) s.at x ≡ Some j
          → step c.nodes c.shape c.addresses s ≡ Goes (to s j) []
          → Leads R.processor c live (live_behind live (jmpr_node a line) S s) i (step c.nodes c.shape c.addresses s) out q
      lands x j ex ej goes =
          let m : Node = jmpr_node a line in
          let l = last-landed (is_target (text c.nodes c.shape c.addresses) s.at) c.nodes.places c.addresses x (length c.nodes.places) j ej in
          let kept = text-keeps c i m t s (to s j) [] at (omega (arith, st.state.seen.low, st.state.mark))
          (omega (arith, st.state.seen.high, st.state.mark)) st.state.fits goes in
          let to-word = word-there R c w (is_target (text c.nodes c.shape c.addresses) s.at) x j l (let z = kept.inside in omega (arith, z)) in
          let before : is_inside c s.at ≡ true = ap (is_inside c) at ∙ inside in
          let held = given R.processor.target c live s (R.processor.seen q) (live_before m S) a x st.state before reads ex in
          let walk = lead size (c.place i) x a q (held-frame R c i m S inside live s out q at st size is-frame)
          (node-stands R false fits c i (code size a) (ap (moves_at R.processor.target) t.here) k) to-word.1 st.runs (st.state.here ∙ ap c.place at) held in
          walk-leads R fits rows c i m (code size a) t k record { moves = refl; sinks = refl; rises = refl } refl S live s out q st (to s j)
          record {
            fits = kept;
            side = target-inside c i m t s.at x j ej ∙ sym before;
            function = λ z. target-function c i m t s.at x j ej z;
            enters = λ z none. let y : false ≡ true = sym z ∙ before in cc;
            regs = refl;
            carry = refl;
            answer = refl;
            pushed = refl;
            frame = refl;
            callers = refl;
            mem = refl;
            data_size = refl;
            args_size = refl;
            mark = refl;
          }
          goes (subst (λ z. Walk R.processor (c.place i) (behind R (c.place i) (code size a)) z q) to-word.0 walk)

      by : (o : Option ℕ) → reg s a ≡ o → (step c.nodes c.shape c.addresses s ≡ Undefined)
          ⊎ Leads R.processor c live (live_behind live (jmpr_node a line) S s) i (step c.nodes c.shape c.addresses s) out q
      by None ex = inl (stepped ∙ ap (λ z. need z (λ x. need (jump_target (text c.nodes c.shape c.addresses) s.at x) (λ j. quiet (to s j)))) ex)
      by (Some x) ex = next (jump_target (text c.nodes c.shape c.addresses) s.at x) refl
        where
          found : step c.nodes c.shape c.addresses s ≡ need (jump_target (text c.nodes c.shape c.addresses) s.at x) (λ j. quiet (to s j))
          found = stepped ∙ ap (λ z. need z (λ x. need (jump_target (text c.nodes c.shape c.addresses) s.at x) (λ j. quiet (to s j)))) ex

          next : (o : Option ℕ) → jump_target (text c.nodes c.shape c.addresses) s.at x ≡ o
              → (step c.nodes c.shape c.addresses s ≡ Undefined)
              ⊎ Leads R.processor c live (live_behind live (jmpr_node a line) S s) i (step c.nodes c.shape c.addresses s) out q
          next None ej = inl (found ∙ ap (λ z. need z (λ j. quiet (to s j))) ej)
          next (Some j) ej = inr (lands x j ex ej (found ∙ ap (λ z. need z (λ j. quiet (to s j))) ej))

-- ---- calls
module _ {Q I : Type 0} (R : Rows Q I) (ready : HostName → (ℕ → ℕ) → Bool) (fits : I → Type 0) (hosts : EntersHosts R.processor ready) (code : ℕ → Reg → List I)
    (lead : RegisterCallsLead R fits code) (host-lead : RegisterHostCallsLead R ready fits code) where
  module _ (c : Code) (i : ℕ) (n : Node) (a : Reg) (size : ℕ) (S : ℕ → Bool) (w : HasPlaces R c) (t : IsInText c i n) (is-frame : IsFrameOf c i size)
      (k : IsNodeCode R fits c i (code size a))
      (inside : is_inside c i ≡ true) (next : is_inside c (i + 1) ≡ true) (calls : is_call n.op ≡ true)
      (saved : (v : ℕ) → v < 3 → numbered (is_written n) (v + 3) ≡ false)
      (reads : a ≢ Fp → live_before n S (number_of a) ≡ true) (live : Frame → ℕ → Bool) (s : State) (returns : ReturnsTo c live n S s) (out : List ℕ) (q : Q)
      (at : s.at ≡ i)
      (st : Stands R.processor c live s out q (live_before n S)) (args : List ℕ) (few-args : length args ≤ 16)
      (held : HoldsArguments R.processor.target (R.processor.seen q).registers args)
      (stacked : HasArguments R.processor.target (R.processor.seen q).bytes (lowest s.frame) args) where
    abbrev Carried : Type 0
    Carried = (step c.nodes c.shape c.addresses s ≡ Undefined) ⊎ Leads R.processor c live (live_behind live n S s) i (step c.nodes c.shape c.addresses s) out q

    abbrev stack : ℕ
    stack = (R.processor.seen q).registers (stack_register R.processor.target)

    abbrev high : ℕ
    high = behind R (c.place i) (code size a)

    stack-is : stack ≡ lowest s.frame
    stack-is = (frame R c i n S inside live s out q at st).stack

    word-is : (x : ℕ) → reg s a ≡ Some x → (R.processor.seen q).registers (register_of R.processor.target a) ≡ x
    word-is x ex = given R.processor.target c live s (R.processor.seen q) (live_before n S) a x st.state (ap (is_inside c) at ∙ inside) reads ex

    here : (R.processor.seen q).pc ≡ c.place i
    here = st.state.here ∙ ap c.place at

    to-host : (x : ℕ) (name : HostName) → reg s a ≡ Some x → host_by_address x ≡ Some name → step c.nodes c.shape c.addresses s ≡ call_host s args name
        → Carried
    to-host x name ex found steps =
        let arr = host-lead size (c.place i) name a q (held-frame R c i n S inside live s out q at st size is-frame)
        (node-stands R (calls_move R.processor.target) fits c i (code size a) (ap (moves_at R.processor.target) t.here ∙ call-moves R.processor.target n.op calls) k) st.runs here (word-is x ex ∙ host-found x name found) in
        host-called R ready hosts c i n S w t inside next calls saved live s out q at st args few-args held stacked name
        (subst (λ z. HostArrival R.processor ready (c.place i) z (lowest s.frame) z name q) (sym k.next)
        (subst (λ z. HostArrival R.processor ready (c.place i) high z high name q) stack-is arr)) steps

    to-label : (x j : ℕ) → reg s a ≡ Some x → entry_target (text c.nodes c.shape c.addresses) x ≡ Some j
        → step c.nodes c.shape c.addresses s ≡ call_node_step (text c.nodes c.shape c.addresses) s args j → Carried
    to-label x j ex found steps =
        let l = last-landed (is_entry_label (text c.nodes c.shape c.addresses)) c.nodes.places c.addresses x (length c.nodes.places) j found in
        let entry = entry-home c i n t x j found in
        let within = home_within c.nodes.nodes j j entry in
        let to-word = word-there R c w (is_entry_label (text c.nodes c.shape c.addresses)) x j l (omega (arith, within)) in
        let arr = lead size (c.place i) x a q (held-frame R c i n S inside live s out q at st size is-frame)
        (node-stands R (calls_move R.processor.target) fits c i (code size a) (ap (moves_at R.processor.target) t.here ∙ call-moves R.processor.target n.op calls) k) to-word.1 st.runs here (word-is x ex) in
        enters R c i n S t inside calls saved live s returns out q at st args few-args held stacked j entry
        (subst (λ z. Arrival R.processor (c.place i) z (lowest s.frame) z (c.place j) q) (sym k.next)
        (subst (λ z. Arrival R.processor (c.place i) high z high (c.place j) q) stack-is
        (subst (λ z. Arrival R.processor (c.place i) high stack high z q) to-word.0 arr))) steps

    pub word-called : step c.nodes c.shape c.addresses s ≡ need (reg s a) (λ x. call_word (text c.nodes c.shape c.addresses) s args x) → Carried
    word-called stepped = by (reg s a) refl
      where
        named : (x : ℕ) (o : Option HostName) → reg s a ≡ Some x → host_by_address x ≡ o
            → step c.nodes c.shape c.addresses s ≡ call_named (text c.nodes c.shape c.addresses) s args x o → Carried
        named x (Some name) ex found steps = to-host x name ex found steps
        named x None ex found steps = entered-at (entry_target (text c.nodes c.shape c.addresses) x) refl
          where
            entered-at : (o : Option ℕ) → entry_target (text c.nodes c.shape c.addresses) x ≡ o → Carried
            entered-at None e = inl (steps ∙ ap (λ z. need z (call_node_step (text c.nodes c.shape c.addresses) s args)) e)
            entered-at (Some j) e = to-label x j ex e (steps ∙ ap (λ z. need z (call_node_step (text c.nodes c.shape c.addresses) s args)) e)

        by : (o : Option ℕ) → reg s a ≡ o → Carried
        by None ex = inl (stepped ∙ ap (λ z. need z (λ x. call_word (text c.nodes c.shape c.addresses) s args x)) ex)
        by (Some x) ex = named x (host_by_address x) ex refl (stepped ∙ ap (λ z. need z (λ x. call_word (text c.nodes c.shape c.addresses) s args x)) ex)

  pub register-calls-carry : RegisterLeapsCarry R fits code callr_node
  register-calls-carry c i a line size S w t is-frame k live s returns out q at st =
      let n = callr_node a line in
      let p = in-some c i n t refl in
      word-called c i n a size S w t is-frame k (after-prolog c i n t p.0 p.1 refl) (next-inside c i n t p.0 p.1 refl) refl saved
      (λ ne. read-is-live n S a (λ z. named-here Read form.Read [] a [] refl z) ne)
      live s returns out q at st [] (omega arith) record { is = λ j x lt z. cc } record { is = λ j x lt z. cc }
      (ap (λ m. step_at (text c.nodes c.shape c.addresses) m s) (ap (slice_get c.nodes.nodes) at ∙ t.here))
    where
      saved : (v : ℕ) → v < 3 → numbered (is_written (callr_node a line)) (v + 3) ≡ false
      saved (suc (suc (suc v))) lt = absurd (omega (arith, lt))
      saved v lt = refl

  pub register-finishes-carry : RegisterLeapsCarry R fits code finishr_node
  register-finishes-carry c i a line size S w t is-frame k live s returns out q at st =
      let n = finishr_node a line in
      let p = in-some c i n t refl in
      word-called c i n a size S w t is-frame k (after-prolog c i n t p.0 p.1 refl) (next-inside c i n t p.0 p.1 refl) refl saved
      (λ ne. read-is-live n S a (λ z. named-here Read form.Read [] a [] refl z) ne)
      live s returns out q at st s.pushed (let f = (shaped c.nodes t.well).few s.at (omega (arith, st.state.fits.inside)) in
      omega (arith, f, st.state.fits.pushed)) st.state.pushed st.state.outgoing
      (ap (λ m. step_at (text c.nodes c.shape c.addresses) m s) (ap (slice_get c.nodes.nodes) at ∙ t.here))
    where
      saved : (v : ℕ) → v < 3 → numbered (is_written (finishr_node a line)) (v + 3) ≡ false
      saved (suc (suc (suc v))) lt = absurd (omega (arith, lt))
      saved v lt = refl
