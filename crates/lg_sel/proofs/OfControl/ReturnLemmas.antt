-- Returns are carried by code that leaves the frame.
use Rattle.std.proofs.Common.{◌≡◌, ◌≢◌, ℕ, ◌+◌, ◌<◌, ◌⊎◌, inl, inr, Bool, true, List, [], ◌∷◌, Option, Some, None, refl, sym, ap, ◌∙◌, subst, arith, append-nil}
use Rattle.std.specs.Prelude.{slice_get, slice_index, if◌then◌else◌}
use Rattle.lg_carry.proofs.TurnLemmas.{rising-turns, return-moves, return-no-sink}
use Rattle.lg_base.specs.Conventions.{portable_register, frame_register, stack_register}
use Rattle.lg_base.specs.Layout.{return_word, frame_pointer, saved_word}
use Rattle.lg_base.specs.declared.target.Target.{Target}
use Rattle.lg_op.specs.declared.form.Form.TheVariants as form
use Rattle.lg_op.specs.declared.operand.Operand.TheVariants as operand
use Rattle.lg_op.specs.declared.operand.Reg.{Reg}
use Rattle.lg_op.specs.declared.operand.Reg.TheVariants.{Fp}
use Rattle.lg_op.specs.declared.node.Node.{Node}
use Rattle.lg_node.specs.Functions.{home}
use Rattle.lg_node.proofs.FunctionLaws.{home_within}
use Rattle.lg_live.specs.declared.uses.Access.TheVariants.{Read}
use Rattle.lg_meaning.specs.Fits.{AreLinked, entry_stack}
use Rattle.lg_meaning.specs.States.{Frame, State, reg}
use Rattle.lg_meaning.specs.Steps.{Goes, Undefined, need, leave, back_to, node_step}
use Rattle.lg_meaning.specs.Texts.{text, step_at, step}
use Rattle.lg_carry.specs.AgreeAcrossFrames.{returned}
use Rattle.lg_carry.specs.Carries.{Meets, Leads, calls_at, moves_at}
use Rattle.lg_carry.specs.FinalNodes.{Code, is_inside, saved_at, function_at, is_entry}
use Rattle.lg_carry.specs.Frames.{at_call, IsSettled, return_address}
use Rattle.lg_carry.specs.Homes.{homes_at}
use Rattle.lg_carry.specs.NodeCode.{live_before, live_behind, is_return, ReturnsTo}
use Rattle.lg_carry.specs.Outer.{IsAfterEntry, HasLeft, outer_stack}
use Rattle.lg_carry.specs.Passages.{IsNodeCode, Passes}
use Rattle.lg_carry.specs.Registers.{HasWord}
use Rattle.lg_carry.specs.Rows.{Rows}
use Rattle.lg_carry.specs.Stands.{StatesAgree, Stands}
use Rattle.lg_carry.specs.TextNodes.{IsInText, IsFrameOf}
use Rattle.lg_carry.proofs.AgreeAcrossFramesLemmas.{return-agrees}
use Rattle.lg_carry.proofs.OuterLemmas.{after-entry}
use Rattle.lg_carry.proofs.PassageLemmas.{passages-lead}
use Rattle.lg_carry.proofs.TextShapeLemmas.{shaped}
use Rattle.lg_carry.specs.Nodes.Leaps.{HasPlaces}
use Rattle.lg_carry.specs.Nodes.Stretches.{HasFrame, behind}
use Rattle.lg_carry.proofs.OfNodes.CallLemmas.{frame, tower, held-frame}
use Rattle.lg_carry.proofs.OfNodes.HomesLemmas.{inside-home}
use Rattle.lg_carry.proofs.OfNodes.LeapLemmas.{stands-inside, node-stands, node-passes, there}
use Rattle.lg_carry.proofs.OfNodes.LiveLemmas.{live-saved}
use Rattle.lg_carry.proofs.OfNodes.OperandLemmas.{named-here, read-is-live, immediate-value}
use Rattle.lg_carry.proofs.OfNodes.RegisterLemmas.{given}
use Rattle.lg_carry.proofs.OfNodes.StraightLemmas.{text-keeps}
use Rattle.lg_sel.specs.Control.Returns.{Returned, NoWord, OfRegister, OfNumber, OfLabel, returned_word, IsReturned, Departure, IsBack, ReturnsLead, ret_node}
use Rattle.lg_sel.specs.Control.Returns.{epilog_node, retr_node, reti_node, ReturnsCarry}

-- ---- a node that returns
module _ {Q I : Type 0} (R : Rows Q I) (fits : I → Type 0) (saved : ℕ) (code : ℕ → Returned → List I) (lead : ReturnsLead R fits saved code) where
  module _ (c : Code) (i : ℕ) (n : Node) (r : Returned) (size : ℕ) (S : ℕ → Bool) (w : HasPlaces R c) (t : IsInText c i n) (is-frame : IsFrameOf c i size)
      (is-saved : saved_at c i ≡ saved) (k : IsNodeCode R fits c i (code size r))
      (is : is_return n.op ≡ true) (inside : is_inside c i ≡ true) (ok : IsReturned r) (live : Frame → ℕ → Bool) (s : State) (returns : ReturnsTo c live n S s)
      (out : List ℕ) (q : Q) (at : s.at ≡ i)
      (st : Stands R.processor c live s out q (live_before n S))
      (steps : step c.nodes c.shape c.addresses s ≡ leave s (returned_word R.processor.target (R.processor.seen q).registers r)) where
    abbrev target : Target
    target = R.processor.target

    abbrev v : Option ℕ
    v = returned_word target (R.processor.seen q).registers r

    abbrev back : ℕ
    back = return_address c.place s.frame s.callers

    abbrev stack : ℕ
    stack = (R.processor.seen q).registers (stack_register target) + size

    abbrev high : ℕ
    high = behind R (c.place i) (code size r)

    moves : moves_at target (slice_get c.nodes.nodes i) ≡ true
    moves = ap (moves_at target) t.here ∙ return-moves target n.op is

    here-inside : is_inside c s.at ≡ true
    here-inside = ap (is_inside c) at ∙ inside

    settled-frame : IsSettled target c.place (R.processor.seen q).bytes (R.processor.seen q).registers s.frame s.callers (live (at_call s.frame))
        (homes_at c s.at)
    settled-frame = frame R c i n S inside live s out q at st

    has-frame : HasFrame target size (R.processor.seen q)
    has-frame = held-frame R c i n S inside live s out q at st size is-frame

    -- the stack pointer of the caller
    stack-is : stack ≡ s.frame.sp
    stack-is =
        let p = settled-frame.pointer in let f = has-frame.pointer in let l = has-frame.large in
        let low = st.state.low in let z = tower R c i n S inside live s out q at st in omega (arith, p, f, l, low, z.0, z.1)

    -- where the run goes on
    back-inside : (g : Frame) (gs : List Frame) → s.callers ≡ g ∷ gs → is_inside c s.frame.back ≡ true
    back-inside g gs e = (shaped c.nodes t.well).back c.shape s.frame g gs (subst (λ l. AreLinked c.nodes c.shape s.frame l) e st.state.fits.linked)

    -- what is live there is saved
    saved-live : (g : Frame) (gs : List Frame) → s.callers ≡ g ∷ gs → (j : ℕ) → j < 3 → live (at_call s.frame) (j + 3) ≡ true → j < saved
    saved-live g gs e j lt l =
        let less = live-saved c live s.frame g gs returns.saves (subst (λ l. AreLinked c.nodes c.shape s.frame l) e st.state.fits.linked) j lt l i in
        omega (arith, less, is-saved)

    back-there : (gs : List Frame) → s.callers ≡ gs → IsBack R (return_address c.place s.frame gs)
    back-there [] e = inr refl
    back-there (g ∷ gs) e =
        let p = inside-home (home c.nodes.nodes s.frame.back) s.frame.back (back-inside g gs e) in
        let lt = home_within c.nodes.nodes s.frame.back p.0 p.1 in
        let from = (subst (λ l. AreLinked c.nodes c.shape s.frame l) e st.state.fits.linked).0 in
        inl (there R c w s.frame.back (omega (arith, lt)) (inr (from.at, from.back, ap calls_at from.here ∙ from.calls)))

    departs : Departure R.processor (c.place i) high s.frame.sp saved back v q
    departs =
        let word = subst (λ z. HasWord (R.processor.seen q).bytes (return_word z) back) (sym stack-is) settled-frame.words.back in
        subst (λ z. Departure R.processor (c.place i) high z saved back v q) stack-is
        (lead size (c.place i) back r q ok has-frame (node-stands R true fits c i (code size r) moves k) (back-there s.callers refl) word st.runs
        (st.state.here ∙ ap c.place at))

    abbrev u : Q
    u = departs.end

    pass : Passes R.processor c i departs.steps q u
    pass = node-passes R.processor true c i departs.steps high q u moves k.next departs.passes

    wrote : R.processor.machine.out u ≡ out
    wrote = ap R.processor.machine.out (sym pass.leads) ∙ pass.silent departs.steps (omega arith) ∙ st.wrote

    -- from the entry's frame: what is kept for who called it comes back
    leaves : s.callers ≡ [] → HasLeft target c v (R.processor.seen u)
    leaves e =
        let o : IsAfterEntry target c s.at s.frame [] (R.processor.seen q).bytes =
        subst (λ gs. IsAfterEntry target c s.at s.frame gs (R.processor.seen q).bytes) e
        (after-entry (is_inside c s.at) target c s.at s.frame s.callers (R.processor.seen q) here-inside st.state.outer) in
        let is-entry : is_entry c (function_at c i) ≡ true = ap (λ j. is_entry c (function_at c j)) (sym at) ∙ o.entry in
        let all : c.first ≡ saved = sym (ap (λ x. if x then c.first else c.saved) is-entry) ∙ is-saved in
        let high : s.frame.sp ≡ outer_stack target c = ap (entry_stack s.frame) (sym e) ∙ st.state.entry in
        record {
          here = departs.here ∙ ap (return_address c.place s.frame) e;
          stack = departs.stack_is ∙ high;
          outer = record {
            pointer = departs.pointer _ (subst (λ z. HasWord (R.processor.seen q).bytes (frame_pointer z) (c.outer (frame_register target))) (sym high) o.keeps.pointer);
            saved = λ x lt few. departs.saved x _ (omega (arith, few, all)) lt
                (subst (λ z. HasWord (R.processor.seen q).bytes (saved_word (frame_pointer z) x) (c.outer (portable_register target (x + 3)))) (sym high) (o.keeps.saved x lt few));
          };
          result = record { is = departs.result };
        }

    meets : (gs : List Frame) → s.callers ≡ gs → Meets R.processor c live (live_behind live n S s) q (back_to s v gs) out u
    meets [] e =
        (departs.ends (ap (return_address c.place s.frame) e), wrote, record { bytes = λ a lt. ap (λ m. m a) departs.bytes; mark = departs.mark }, leaves e)
    meets (g ∷ gs) e =
        let t' = returned s g gs v in
        let goes : step c.nodes c.shape c.addresses s ≡ Goes t' [] = steps ∙ ap (back_to s v) e in
        let place : back ≡ c.place s.frame.back = ap (return_address c.place s.frame) e in
        let agree : StatesAgree target c live t' (R.processor.seen u) (live (at_call s.frame)) =
        return-agrees target c live s g gs v (R.processor.seen q) (R.processor.seen u) (live_before n S) st.state e
        record {
          before = here-inside;
          behind = back-inside g gs e;
          stack = departs.stack_is;
          pointer = departs.pointer;
          loads = λ j x lt l. departs.saved j x (saved-live g gs e j lt l) lt;
          result = record { is = departs.result };
          bytes = λ a. ap (λ m. m a) departs.bytes;
        }
        record {
          few = (shaped c.nodes t.well).few;
          fits = text-keeps c i n t s t' [] at (omega (arith, st.state.seen.low, st.state.mark))
              (omega (arith, st.state.seen.high, st.state.mark)) st.state.fits goes;
          seen = departs.passes.keeps st.state.seen;
          here = departs.here ∙ place;
          mark = departs.mark ∙ st.state.mark;
        } in
        let p = inside-home (home c.nodes.nodes s.frame.back) s.frame.back (back-inside g gs e) in
        let lt = home_within c.nodes.nodes s.frame.back p.0 p.1 in
        let low = w.nodes.low s.frame.back (omega (arith, lt)) in
        record {
          runs = departs.runs (omega (arith, low, place));
          wrote = wrote ∙ sym (append-nil out);
          state = subst (λ b. StatesAgree target c live t' (R.processor.seen u) (if b then live (at_call s.frame) else S)) (sym is) agree;
        }

    pub returns-lead : Leads R.processor c live (live_behind live n S s) i (step c.nodes c.shape c.addresses s) out q
    returns-lead = subst (λ o. Leads R.processor c live (live_behind live n S s) i o out q) (sym steps)
        (passages-lead R.processor c live (live_behind live n S s) i departs.steps (leave s v) out q u pass (rising-turns R.processor c i n t.here (return-no-sink n.op is) departs.steps q departs.rises) departs.few
        (λ e. absurd (let z = departs.some in omega (arith, e, z))) (λ e. departs.some) st.wrote (meets s.callers refl))

  pub returns-carry : ReturnsCarry R fits saved code
  returns-carry = record {
    rets = λ c i line size S w t is-frame is-saved k live s returns out q at st. inr
        (returns-lead c i (ret_node line) NoWord size S w t is-frame is-saved k refl (stands-inside c i (ret_node line) t refl refl) tt live s returns out q at st
        (stepped c i (ret_node line) t s at));
    epilogs = λ c i line size S w t is-frame is-saved k live s returns out q at st. inr
        (returns-lead c i (epilog_node line) NoWord size S w t is-frame is-saved k refl (stands-inside c i (epilog_node line) t refl refl) tt live s returns out q at st
        (stepped c i (epilog_node line) t s at));
    retrs = λ c i line a size S w t is-frame is-saved k live s returns out q at st. register c i line a size S w t is-frame is-saved k live s returns out q at st (reg s a) refl;
    retis = λ c i line x v word small size S w t is-frame is-saved k live s returns out q at st. inr
        (returns-lead c i (reti_node x line) (OfNumber v) size S w t is-frame is-saved k refl (stands-inside c i (reti_node x line) t refl refl) small live s returns out q at st
        (stepped c i (reti_node x line) t s at ∙ ap (λ z. need z (λ y. leave s (Some y))) (immediate-value c.addresses s x v word)));
    labels = λ c i line l small size S w t is-frame is-saved k live s returns out q at st. inr
        (returns-lead c i (reti_node (operand.Label l) line) (OfLabel (slice_index c.addresses l.0)) size S w t is-frame is-saved k refl
        (stands-inside c i (reti_node (operand.Label l) line) t refl refl) small live s returns out q at st (stepped c i (reti_node (operand.Label l) line) t s at));
  }
    where
      stepped : (c : Code) (i : ℕ) (n : Node) → IsInText c i n → (s : State) → s.at ≡ i
          → step c.nodes c.shape c.addresses s ≡ node_step (text c.nodes c.shape c.addresses) n n.op s
      stepped c i n t s at = ap (λ x. step_at (text c.nodes c.shape c.addresses) x s) (ap (slice_get c.nodes.nodes) at ∙ t.here)

      register : (c : Code) (i line : ℕ) (a : Reg) (size : ℕ) (S : ℕ → Bool) → HasPlaces R c → (t : IsInText c i (retr_node a line)) → IsFrameOf c i size
          → saved_at c i ≡ saved → IsNodeCode R fits c i (code size (OfRegister a))
          → (live : Frame → ℕ → Bool) (s : State) → ReturnsTo c live (retr_node a line) S s → (out : List ℕ) (q : Q) → s.at ≡ i → Stands R.processor c live s out q (live_before (retr_node a line) S)
          → (o : Option ℕ) → reg s a ≡ o
          → (step c.nodes c.shape c.addresses s ≡ Undefined)
          ⊎ Leads R.processor c live (live_behind live (retr_node a line) S s) i (step c.nodes c.shape c.addresses s) out q
      register c i line a size S w t is-frame is-saved k live s returns out q at st None e =
          inl (stepped c i (retr_node a line) t s at ∙ ap (λ z. need z (λ x. leave s (Some x))) e)
      register c i line a size S w t is-frame is-saved k live s returns out q at st (Some x) e =
          let n = retr_node a line in
          let inside = stands-inside c i n t refl refl in
          let live-a = λ (ne : a ≢ Fp). read-is-live n S a (λ z. named-here Read form.Read [] a [] refl z) ne in
          let held = given R.processor.target c live s (R.processor.seen q) (live_before n S) a x st.state (ap (is_inside c) at ∙ inside) live-a e in
          inr (returns-lead c i n (OfRegister a) size S w t is-frame is-saved k refl inside tt live s returns out q at st
          (stepped c i n t s at ∙ ap (λ z. need z (λ x. leave s (Some x))) e ∙ ap (λ z. leave s (Some z)) (sym held)))
