-- Calls of labels are carried by code that arrives at the place of the function.
use Rattle.std.proofs.Common.{◌≡◌, ℕ, zero, suc, ◌+◌, ◌-◌, ◌<◌, ◌≤◌, ◌⊎◌, inl, inr, Bool, true, false, List, [], ◌∷◌, ◌++◌, Some, refl, sym, ap, ◌∙◌, subst, arith, length, append-nil}
use Rattle.std.specs.Prelude.{nat_le, slice_get, slice_index, if◌then◌else◌}
use Rattle.std.proofs.lemmas.Bool.{false_from_ne_true}
use Rattle.lg_base.specs.Conventions.{link_register}
use Rattle.lg_base.specs.declared.target.Target.{Target}
use Rattle.lg_op.specs.declared.op.Op.{Op}
use Rattle.lg_op.specs.declared.op.Op.TheVariants as op
use Rattle.lg_op.specs.declared.op.ControlOp.TheVariants as control
use Rattle.lg_op.specs.declared.operand.Label.{Label}
use Rattle.lg_op.specs.declared.node.Node.{Node}
use Rattle.lg_node.specs.declared.function.Function.{Function}
use Rattle.lg_node.specs.declared.place.Place.TheVariants as place
use Rattle.lg_node.specs.Functions.{home, frame_of}
use Rattle.lg_node.specs.Labels.{place_of}
use Rattle.lg_node.specs.ShapeLaws.{IsEntry}
use Rattle.lg_node.proofs.FunctionLaws.{home_within}
use Rattle.lg_meaning.specs.States.{Frame, State}
use Rattle.lg_meaning.specs.Steps.{Goes, Undefined, need, when, quiet, called, started, enter, call_node as call_node_step, node_in}
use Rattle.lg_meaning.specs.Texts.{text, step_at, step}
use Rattle.lg_meaning.specs.Fits.{is_call}
use Rattle.lg_meaning.proofs.FunctionFacts.{IsAt, function_at_home}
use Rattle.lg_live.specs.Uses.{is_written}
use Rattle.lg_carry.specs.AgreeAcrossFrames.{entered}
use Rattle.lg_carry.specs.Homes.{homes_at}
use Rattle.lg_carry.proofs.OfNodes.HomesLemmas.{next-function, call-no-epilog}
use Rattle.lg_carry.specs.FinalNodes.{Code, is_inside, function_at}
use Rattle.lg_carry.specs.Frames.{at_call, IsSettled, IsLinked}
use Rattle.lg_carry.specs.Places.{AreStacked}
use Rattle.lg_carry.specs.Registers.{HoldsArguments, HasArguments}
use Rattle.lg_carry.specs.Stands.{lowest, StatesAgree, Stands}
use Rattle.lg_carry.specs.Carries.{moves_at, Leads}
use Rattle.lg_carry.specs.Outside.{calls_move}
use Rattle.lg_carry.specs.NodeCode.{numbered, live_before, live_behind, is_return, ReturnsTo}
use Rattle.lg_carry.specs.Passages.{IsNodeCode}
use Rattle.lg_carry.specs.Rows.{Rows}
use Rattle.lg_carry.proofs.AgreeAcrossFramesLemmas.{call-agrees}
use Rattle.lg_carry.proofs.AgreeInFrameLemmas.{settled}
use Rattle.lg_carry.proofs.KeptLemmas.{stack_arguments-kept}
use Rattle.lg_carry.proofs.PassageLemmas.{passages-lead}
use Rattle.lg_carry.proofs.TurnLemmas.{call-moves, sinking-turns}
use Rattle.lg_carry.proofs.TextShapeLemmas.{shaped}
use Rattle.lg_carry.proofs.StackLemmas.{stacked-running, within-where}
use Rattle.lg_cells.specs.Cells.{within}
use Rattle.lg_carry.specs.Nodes.Leaps.{HasPlaces, IsThere, CallsLead, call_node, finish_node, CallsCarry, FinishesCarry}
use Rattle.lg_carry.specs.TextNodes.{IsInText, IsFrameOf}
use Rattle.lg_carry.specs.Nodes.Stretches.{HasFrame, behind, Arrival}
use Rattle.lg_carry.proofs.OfNodes.LeapLemmas.{bound-at, outer-is, stands-inside, node-stands, node-passes, to-label}
use Rattle.lg_carry.proofs.OfNodes.LiveLemmas.{still-live}
use Rattle.lg_carry.proofs.OfNodes.StraightLemmas.{text-keeps, frame-held}

-- a call is no return
pub stays-frame : (o : Op) → is_call o ≡ true → is_return o ≡ false
stays-frame (op.Control control.Call last) e = refl
stays-frame (op.Control control.Finish last) e = refl
stays-frame o e = cc

-- an address at or above the stack pointer is none of the word below it
pub above-off : (low a : ℕ) → 8 ≤ low → low ≤ a → within (low - 8) 8 a ≡ false
above-off low a eight le = false_from_ne_true (within (low - 8) 8 a) (λ e. let w = within-where (low - 8) 8 a e in omega (arith, w.1, le, eight))

-- ---- where a call stands
module _ {Q I : Type 0} (R : Rows Q I) (c : Code) (i : ℕ) (n : Node) (S : ℕ → Bool) (inside : is_inside c i ≡ true) (live : Frame → ℕ → Bool) (s : State) (out : List ℕ) (q : Q) (at : s.at ≡ i) (st : Stands R.processor c live s out q (live_before n S)) where
  pub before : is_inside c s.at ≡ true
  before = ap (is_inside c) at ∙ inside

  pub tower : AreStacked (lowest s.frame) (s.frame ∷ s.callers)
  tower = stacked-running c.nodes c.shape s st.state.fits before st.state.low

  pub frame : IsSettled R.processor.target c.place (R.processor.seen q).bytes (R.processor.seen q).registers s.frame s.callers (live (at_call s.frame)) (homes_at c s.at)
  frame = settled R.processor.target (is_inside c s.at) c.place (R.processor.seen q).bytes (R.processor.seen q).registers s.frame s.callers (live (at_call s.frame)) (homes_at c s.at) before st.state.frame

  pub held-frame : (size : ℕ) → IsFrameOf c i size → HasFrame R.processor.target size (R.processor.seen q)
  held-frame size is-frame = frame-held R.processor.target c i live s (R.processor.seen q) (live_before n S) at before st.state size is-frame

-- ---- into a function
module _ {Q I : Type 0} (R : Rows Q I) (c : Code) (i : ℕ) (n : Node) (S : ℕ → Bool) (t : IsInText c i n) (inside : is_inside c i ≡ true) (calls : is_call n.op ≡ true)
    (unwritten : (v : ℕ) → v < 3 → numbered (is_written n) (v + 3) ≡ false)
    (live : Frame → ℕ → Bool) (s : State) (returns : ReturnsTo c live n S s) (out : List ℕ) (q : Q) (at : s.at ≡ i) (st : Stands R.processor c live s out q (live_before n S))
    (args : List ℕ) (few-args : length args ≤ 16) (held : HoldsArguments R.processor.target (R.processor.seen q).registers args) (stacked : HasArguments R.processor.target (R.processor.seen q).bytes (lowest s.frame) args) where
  abbrev target : Target
  target = R.processor.target

  -- at the place of a function that begins
  pub enters : (k : ℕ) → home c.nodes.nodes k ≡ Some k → Arrival R.processor (c.place i) (c.place (i + 1)) (lowest s.frame) (c.place (i + 1)) (c.place k) q → step c.nodes c.shape c.addresses s ≡ call_node_step (text c.nodes c.shape c.addresses) s args k
      → (step c.nodes c.shape c.addresses s ≡ Undefined) ⊎ Leads R.processor c live (live_behind live n S s) i (step c.nodes c.shape c.addresses s) out q
  enters k entry arr steps = by (nat_le (0x3FF00010 + frame_of at-home.0) (s.frame.sp - s.frame.size)) refl
    where
      at-home : (f : Function) × IsAt c.nodes c.shape k k f
      at-home = function_at_home c.nodes c.shape t.functions t.shape.functions k k entry

      found : step c.nodes c.shape c.addresses s ≡ enter s args at-home.0
      found = steps ∙ ap (λ o. need o (enter s args)) at-home.1.here

      by : (b : Bool) → nat_le (0x3FF00010 + frame_of at-home.0) (s.frame.sp - s.frame.size) ≡ b → (step c.nodes c.shape c.addresses s ≡ Undefined) ⊎ Leads R.processor c live (live_behind live n S s) i (step c.nodes c.shape c.addresses s) out q
      by false e = inl (found ∙ ap (λ b. when b (quiet (started (record s { frame = called s args; callers = s.frame ∷ s.callers }) at-home.0.entry))) e)
      by true e =
          let to = at-home.0.entry in
          let s' = entered s args to in
          let goes' : step c.nodes c.shape c.addresses s ≡ Goes s' [] = found ∙ ap (λ b. when b (quiet (started (record s { frame = called s args; callers = s.frame ∷ s.callers }) at-home.0.entry))) e in
          let u = arr.end in
          let low = st.state.low in
          let agree : StatesAgree target c live s' (R.processor.seen u) S = call-agrees target c live s args to (R.processor.seen q) (R.processor.seen u) (live_before n S) S st.state
          record {
            before = before R c i n S inside live s out q at st;
            function = ap (λ j. function_at c (j + 1)) at ∙ next-function c i n t inside (call-no-epilog n.op calls) ∙ sym (ap (function_at c) at);
            needed = λ v lt l. still-live n S (v + 3) (unwritten v lt) (sym (returns.new args calls (v + 3)) ∙ l);
            kept = arr.kept;
            pointer = arr.frame;
            stack = arr.pointer;
            link = subst (λ z. IsLinked (link_register target) (R.processor.seen u).bytes (R.processor.seen u).registers (lowest s.frame) z) (ap (λ j. c.place (j + 1)) (sym at)) arr.link;
            arguments = record { is = λ j x lt z. arr.arguments j lt ∙ held.is j x lt z };
            outgoing = stack_arguments-kept target (R.processor.seen q).bytes (R.processor.seen u).bytes (lowest s.frame) args few-args (λ a le lt. arr.bytes a (above-off (lowest s.frame) a (omega (arith, low)) le)) stacked;
            bytes = arr.bytes;
          }
          (ap (is_inside c) at-home.1.entry ∙ outer-is (home c.nodes.nodes k) k entry)
          record {
            few = (shaped c.nodes t.well).few;
            fits = text-keeps c i n t s s' [] at (omega (arith, st.state.seen.low, st.state.mark)) (omega (arith, st.state.seen.high, st.state.mark)) st.state.fits goes';
            seen = arr.passes.keeps st.state.seen;
            here = arr.here ∙ ap c.place (sym at-home.1.entry);
            mark = arr.mark ∙ st.state.mark;
          } in
          inr (subst (λ o. Leads R.processor c live (live_behind live n S s) i o out q) (sym goes')
          (passages-lead R.processor c live (live_behind live n S s) i arr.steps (Goes s' []) out q u (node-passes R.processor (calls_move target) c i arr.steps (c.place (i + 1)) q u (ap (moves_at target) t.here ∙ call-moves target n.op calls) refl arr.passes)
          (sinking-turns R.processor c i n t.here (stays-frame n.op calls) arr.steps q arr.sinks) (omega (arith, arr.few)) (λ z. absurd (omega (arith, z, arr.some))) (λ z. arr.some) st.wrote
          (subst (λ b. Stands R.processor c live s' (out ++ []) u (if b then live (at_call s.frame) else S)) (sym (stays-frame n.op calls)) record { runs = arr.runs; wrote = ap R.processor.machine.out (sym arr.passes.leads) ∙ arr.passes.silent arr.steps (omega arith) ∙ st.wrote ∙ sym (append-nil out); state = agree })))

-- ---- by its label
module _ {Q I : Type 0} (R : Rows Q I) (fits : I → Type 0) (code : ℕ → ℕ → List I) (lead : CallsLead R fits code) (c : Code) (i : ℕ) (n : Node) (l : Label) (S : ℕ → Bool) (w : HasPlaces R c) (t : IsInText c i n) (size : ℕ) (is-frame : IsFrameOf c i size)
    (k : IsNodeCode R fits c i (code (c.place i) (slice_index c.addresses l.0))) (inside : is_inside c i ≡ true) (calls : is_call n.op ≡ true) (unwritten : (v : ℕ) → v < 3 → numbered (is_written n) (v + 3) ≡ false) (target-is : IsEntry c.nodes (place_of c.nodes.places l))
    (live : Frame → ℕ → Bool) (s : State) (returns : ReturnsTo c live n S s) (out : List ℕ) (q : Q) (at : s.at ≡ i) (st : Stands R.processor c live s out q (live_before n S))
    (args : List ℕ) (few-args : length args ≤ 16) (held : HoldsArguments R.processor.target (R.processor.seen q).registers args) (stacked : HasArguments R.processor.target (R.processor.seen q).bytes (lowest s.frame) args) where
  bound : slice_index c.addresses l.0 ≡ c.place target-is.node
  bound = w.nodes.bound l.0 target-is.node (bound-at c.nodes.places l (place.Node target-is.node) target-is.place)

  pub label-called : step c.nodes c.shape c.addresses s ≡ call_node_step (text c.nodes c.shape c.addresses) s args target-is.node
      → (step c.nodes c.shape c.addresses s ≡ Undefined) ⊎ Leads R.processor c live (live_behind live n S s) i (step c.nodes c.shape c.addresses s) out q
  label-called steps =
      let within = home_within c.nodes.nodes target-is.node target-is.node target-is.entry in
      let at-label : IsThere R.is_place (slice_index c.addresses l.0) = to-label R c w l target-is.node target-is.place (omega (arith, within)) in
      let pointer = (frame R c i n S inside live s out q at st).stack in
      let code-here = behind R (c.place i) (code (c.place i) (slice_index c.addresses l.0)) in
      let arr = subst (λ z. Arrival R.processor (c.place i) code-here z code-here (slice_index c.addresses l.0) q) pointer (lead size (c.place i) (slice_index c.addresses l.0) q (held-frame R c i n S inside live s out q at st size is-frame) (node-stands R (calls_move R.processor.target) fits c i (code (c.place i) (slice_index c.addresses l.0)) (ap (moves_at R.processor.target) t.here ∙ call-moves R.processor.target n.op calls) k) at-label st.runs (st.state.here ∙ ap c.place at)) in
      let back = k.next in
      enters R c i n S t inside calls unwritten live s returns out q at st args few-args held stacked target-is.node target-is.entry
      (subst (λ z. Arrival R.processor (c.place i) z (lowest s.frame) z (c.place target-is.node) q) (sym back) (subst (λ z. Arrival R.processor (c.place i) (behind R (c.place i) (code (c.place i) (slice_index c.addresses l.0))) (lowest s.frame) (behind R (c.place i) (code (c.place i) (slice_index c.addresses l.0))) z q) bound arr)) steps

module _ {Q I : Type 0} (R : Rows Q I) (fits : I → Type 0) (code : ℕ → ℕ → List I) (lead : CallsLead R fits code) where
  pub calls-carry : CallsCarry R fits code
  calls-carry c i l line S w t size is-frame k live s returns out q at st =
      let target-is = t.well.calls i (call_node l line) l [] t.here refl refl in
      label-called R fits code lead c i (call_node l line) l S w t size is-frame k (stands-inside c i (call_node l line) t refl refl) refl saved target-is live s returns out q at st [] (omega arith) record { is = λ j x lt z. cc } record { is = λ j x lt z. cc }
      (ap (λ x. step_at (text c.nodes c.shape c.addresses) x s) (ap (slice_get c.nodes.nodes) at ∙ t.here) ∙ ap (λ o. call_node_step (text c.nodes c.shape c.addresses) s [] (node_in o)) target-is.place)
    where
      saved : (v : ℕ) → v < 3 → numbered (is_written (call_node l line)) (v + 3) ≡ false
      saved (suc (suc (suc v))) lt = absurd (omega (arith, lt))
      saved other lt = refl

  pub finishes-carry : FinishesCarry R fits code
  finishes-carry c i l line S w t size is-frame k live s returns out q at st =
      let target-is = t.well.calls i (finish_node l line) l [] t.here refl refl in
      label-called R fits code lead c i (finish_node l line) l S w t size is-frame k (stands-inside c i (finish_node l line) t refl refl) refl saved target-is live s returns out q at st
      s.pushed (let f = (shaped c.nodes t.well).few s.at (omega (arith, st.state.fits.inside)) in omega (arith, f, st.state.fits.pushed)) st.state.pushed st.state.outgoing
      (ap (λ x. step_at (text c.nodes c.shape c.addresses) x s) (ap (slice_get c.nodes.nodes) at ∙ t.here) ∙ ap (λ o. call_node_step (text c.nodes c.shape c.addresses) s s.pushed (node_in o)) target-is.place)
    where
      saved : (v : ℕ) → v < 3 → numbered (is_written (finish_node l line)) (v + 3) ≡ false
      saved (suc (suc (suc v))) lt = absurd (omega (arith, lt))
      saved other lt = refl
