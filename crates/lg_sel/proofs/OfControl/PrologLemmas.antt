-- A `prolog` is carried by code that makes the frame.
use Rattle.std.proofs.Common.{◌≡◌, ℕ, ◌+◌, ◌%◌, ◌<◌, ◌≤◌, inr, Bool, false, List, [], ◌∷◌, Option, Some, None, refl, sym, ap, ◌∙◌, subst, arith, append-nil, true}
use Rattle.std.specs.Prelude.{slice_get, if◌then◌else◌}
use Rattle.lg_carry.proofs.TurnLemmas.{sinking-turns}
use Rattle.lg_base.specs.Conventions.{portable_register, frame_register}
use Rattle.lg_base.specs.Layout.{frame_pointer, saved_word, least_frame, stack_end}
use Rattle.lg_base.specs.declared.target.Target.{Target}
use Rattle.lg_op.specs.declared.node.Node.{Node}
use Rattle.lg_node.specs.declared.function.Function.{Function}
use Rattle.lg_node.specs.Functions.{home, is_prolog_at, is_epilog_at, frame_of}
use Rattle.lg_node.specs.Preparations.{prepared_before}
use Rattle.lg_meaning.specs.Fits.{AreLinked, entry_stack}
use Rattle.lg_meaning.specs.States.{Frame, State}
use Rattle.lg_meaning.specs.Steps.{Goes, on, begun, need, quiet, function_here}
use Rattle.lg_meaning.specs.Texts.{text, step_at, step}
use Rattle.lg_carry.specs.Carries.{Leads, moves_at}
use Rattle.lg_carry.specs.FinalNodes.{Code, is_inside, saved_at, function_at, is_entry}
use Rattle.lg_carry.specs.Frames.{at_call, return_address, MayKeepCaller, MayHoldCaller, HasFrameWords, IsArriving, IsRunning}
use Rattle.lg_carry.specs.Homes.{homes_in, homes_at}
use Rattle.lg_carry.specs.NodeCode.{live_before, live_behind, ReturnsTo}
use Rattle.lg_carry.specs.Passages.{IsNodeCode, Passes}
use Rattle.lg_carry.specs.Registers.{HasWord}
use Rattle.lg_carry.specs.Rows.{Rows}
use Rattle.lg_carry.specs.Stands.{StatesAgree, Stands}
use Rattle.lg_carry.specs.TextNodes.{IsInText}
use Rattle.lg_carry.proofs.AgreeAcrossFramesLemmas.{prolog-agrees, frame-room}
use Rattle.lg_carry.proofs.PassageLemmas.{passages-lead}
use Rattle.lg_carry.proofs.StackLemmas.{stacked, stacked-high}
use Rattle.lg_carry.proofs.TextShapeLemmas.{shaped}
use Rattle.lg_carry.specs.Nodes.Stretches.{behind}
use Rattle.lg_meaning.proofs.FunctionFacts.{function_at_home}
use Rattle.lg_carry.specs.Entries.{entry_at}
use Rattle.lg_carry.specs.Outer.{IsBeforeEntry, IsAfterEntry, outer_stack}
use Rattle.lg_carry.proofs.EntryLemmas.{entry-here}
use Rattle.lg_carry.proofs.OfNodes.HomesLemmas.{function-same}
use Rattle.lg_carry.proofs.OfNodes.LeapLemmas.{outer-is, next-inside, node-stands, node-passes}
use Rattle.lg_carry.proofs.OfNodes.LiveLemmas.{unwritten, still-live, live-saved}
use Rattle.lg_carry.proofs.OfNodes.StraightLemmas.{text-keeps}
use Rattle.lg_sel.specs.Control.Prologs.{Entrance, PrologsLead, prolog_node, PrologsCarry}

-- ---- the words of the frame
arriving : (target : Target) (c : Code) (live : Frame → ℕ → Bool) (s : State) (b : Bool) (m : ℕ → Option ℕ) (w : ℕ → ℕ) → b ≡ false
    → IsRunning b target c.place m w s.frame s.callers (live (at_call s.frame)) (homes_at c s.at)
    → IsArriving target c.place m w s.frame s.callers (live (at_call s.frame))
arriving target c live s b m w e h = subst (λ x. IsRunning x target c.place m w s.frame s.callers (live (at_call s.frame)) (homes_at c s.at)) e h

keeps-caller : (target : Target) (m : ℕ → Option ℕ) (w : ℕ → ℕ) (f : Frame) (size locals : ℕ) (gs : List Frame) (live : ℕ → Bool)
    → HasWord m (frame_pointer f.sp) (w (frame_register target))
    → ((g : Frame) (hs : List Frame) → gs ≡ g ∷ hs → (v : ℕ) → v < 3 → live (v + 3) ≡ true
    → HasWord m (saved_word (frame_pointer f.sp) v) (w (portable_register target (v + 3))))
    → MayHoldCaller target w f gs live
    → MayKeepCaller m (record f { size = size; locals = locals }) gs live
keeps-caller target m w f size locals [] live pointer saved h = tt
keeps-caller target m w f size locals (g ∷ gs) live pointer saved h = record {
  pointer = subst (HasWord m (frame_pointer f.sp)) h.pointer pointer;
  saved = λ v x lt l e. subst (HasWord m (saved_word (frame_pointer f.sp) v)) (h.saved v x lt l e) (saved g gs refl v lt l);
}

-- ---- the node
module _ {Q I : Type 0} (R : Rows Q I) (fits : I → Type 0) (saved : ℕ) (code : ℕ → ℕ → List I) (lead : PrologsLead R fits saved code) (c : Code) (i line homes : ℕ) (f : Function)
    (S : ℕ → Bool) (t : IsInText c i (prolog_node line))
    (function : function_here c.shape.functions i ≡ Some f) (is-saved : saved_at c i ≡ saved) (reads : homes_at c i ≤ homes) (k : IsNodeCode R fits c i (code (frame_of f) homes))
    (live : Frame → ℕ → Bool) (s : State) (returns : ReturnsTo c live (prolog_node line) S s) (out : List ℕ) (q : Q) (at : s.at ≡ i)
    (st : Stands R.processor c live s out q (live_before (prolog_node line) S)) where
  abbrev n : Node
  n = prolog_node line

  abbrev target : Target
  target = R.processor.target

  abbrev sp : ℕ
  sp = s.frame.sp

  abbrev high : ℕ
  high = behind R (c.place i) (code (frame_of f) homes)

  entry : home c.nodes.nodes i ≡ Some i
  entry = (t.well.entries i (ap is_prolog_at t.here)).0

  unprepared : prepared_before c.nodes.nodes i ≡ None
  unprepared = (t.well.entries i (ap is_prolog_at t.here)).1

  room : least_frame + frame_of f ≤ sp
  room = frame-room c.nodes c.shape s f (home c.nodes.nodes s.at) (ap (home c.nodes.nodes) at ∙ entry ∙ ap Some (sym at))
      (ap (function_here c.shape.functions) at ∙ function) st.state.fits.top

  top : (sp % 16 ≡ 0) × (sp ≤ stack_end)
  top = let e = stacked-high sp s.callers (stacked c.nodes c.shape s.frame s.callers st.state.fits.linked) in (e.0, e.1)

  large : 272 ≤ frame_of f
  large = omega arith

  arrives : IsArriving target c.place (R.processor.seen q).bytes (R.processor.seen q).registers s.frame s.callers (live (at_call s.frame))
  arrives = arriving target c live s (is_inside c s.at) (R.processor.seen q).bytes (R.processor.seen q).registers
      (ap (is_inside c) at ∙ outer-is (home c.nodes.nodes i) i entry) st.state.frame

  enters : Entrance R.processor (c.place i) high sp (frame_of f) homes saved q
  enters = lead (frame_of f) homes (c.place i) sp q st.state.seen large room top.1 top.0 arrives.stack (node-stands R true fits c i (code (frame_of f) homes) (ap (moves_at target) t.here) k) st.runs
      (st.state.here ∙ ap c.place at)

  abbrev u : Q
  u = enters.end

  pass : Passes R.processor c i enters.steps q u
  pass = node-passes R.processor true c i enters.steps high q u (ap (moves_at target) t.here) k.next enters.passes

  abbrev s' : State
  s' = on (begun s f)

  goes : step c.nodes c.shape c.addresses s ≡ Goes s' []
  goes = ap (λ x. step_at (text c.nodes c.shape c.addresses) x s) (ap (slice_get c.nodes.nodes) at ∙ t.here)
      ∙ ap (λ o. need o (λ g. quiet (on (begun s g)))) (ap (function_here c.shape.functions) at ∙ function)

  -- what is live at the return is saved
  live-stored : (g : Frame) (gs : List Frame) → s.callers ≡ g ∷ gs → (v : ℕ) → v < 3 → live (at_call s.frame) (v + 3) ≡ true
      → HasWord (R.processor.seen u).bytes (saved_word (frame_pointer sp) v) ((R.processor.seen q).registers (portable_register target (v + 3)))
  live-stored g gs e v lt l =
      let less = live-saved c live s.frame g gs returns.saves (subst (λ l. AreLinked c.nodes c.shape s.frame l) e st.state.fits.linked) v lt l i in
      enters.saved v (omega (arith, less, is-saved)) lt

  words : HasFrameWords target c.place (R.processor.seen u).bytes s'.frame s.callers (live (at_call s.frame)) (homes_at c i)
  words = record {
    back = enters.back (return_address c.place s.frame s.callers) arrives.link;
    caller = keeps-caller target (R.processor.seen u).bytes (R.processor.seen q).registers s.frame (frame_of f) f.locals s.callers
        (live (at_call s.frame)) enters.caller live-stored arrives.caller;
    homes = λ j x read lt e. subst (HasWord (R.processor.seen u).bytes _) (arrives.arguments.is j x lt e) (enters.homes j (omega (arith, read, reads)) lt);
  }

  -- the next node is in the same function
  next-function : function_at c (s.at + 1) ≡ function_at c i
  next-function =
      let more = (t.well.falls i i entry (ap is_epilog_at t.here)).0 in
      ap (λ j. function_at c (j + 1)) at ∙ function-same c i n t i (i + 1) i entry more

  next-home : homes_at c i ≡ homes_at c (s.at + 1)
  next-home = sym (ap (homes_in c.nodes.nodes) next-function)

  -- the function begins at the node
  begins-here : f.entry ≡ i
  begins-here =
      let x = function_at_home c.nodes c.shape t.functions t.shape.functions i i entry in
      ap (λ (g : Function). g.entry) (same-some f x.0 (sym function ∙ x.1.here)) ∙ x.1.entry
    where
      same-some : (x y : Function) → Some x ≡ Some y → x ≡ y
      same-some x y e = cc

  -- what is kept for who called the entry is in the words of its frame
  keeps-outer : s.callers ≡ [] → IsBeforeEntry target c s.at (R.processor.seen q).registers
      → IsAfterEntry target c (s.at + 1) s.frame [] (R.processor.seen u).bytes
  keeps-outer none b =
      let begun : f.entry ≡ entry_at c.nodes s.at = begins-here ∙ sym (entry-here c.nodes i n t.here refl) ∙ ap (entry_at c.nodes) (sym at) in
      let is-entry : is_entry c (function_at c i) ≡ true = ap (is_entry c) function ∙ ap c.outward begun ∙ b.enters in
      let all : c.first ≡ saved = sym (ap (λ x. if x then c.first else c.saved) is-entry) ∙ is-saved in
      let high : sp ≡ outer_stack target c = ap (entry_stack s.frame) (sym none) ∙ st.state.entry in
      record {
        entry = ap (is_entry c) next-function ∙ is-entry;
        keeps = record {
          pointer = subst (HasWord (R.processor.seen u).bytes (frame_pointer (outer_stack target c))) b.holds.pointer
              (subst (λ z. HasWord (R.processor.seen u).bytes (frame_pointer z) ((R.processor.seen q).registers (frame_register target))) high enters.caller);
          saved = λ v lt few. subst (HasWord (R.processor.seen u).bytes (saved_word (frame_pointer (outer_stack target c)) v)) (b.holds.saved v lt few)
              (subst (λ z. HasWord (R.processor.seen u).bytes (saved_word (frame_pointer z) v) ((R.processor.seen q).registers (portable_register target (v + 3)))) high
              (enters.saved v (omega (arith, few, all)) lt));
        };
      }

  agree : StatesAgree target c live s' (R.processor.seen u) S
  agree = prolog-agrees target c live s f (R.processor.seen q) (R.processor.seen u) (live_before n S) S st.state
      record {
        prolog = ap (home c.nodes.nodes) at ∙ entry ∙ ap Some (sym at);
        function = ap (function_here c.shape.functions) at ∙ function;
        unprepared = ap (prepared_before c.nodes.nodes) at ∙ unprepared;
        behind = ap (λ j. is_inside c (j + 1)) at ∙ next-inside c i n t i entry refl;
        settled = record {
          words = subst (HasFrameWords target c.place (R.processor.seen u).bytes s'.frame s.callers (live (at_call s.frame))) next-home words;
          pointer = enters.pointer;
          stack = enters.stack_is;
        };
        bytes = enters.bytes;
        outer = keeps-outer;
      }
      record {
        few = (shaped c.nodes t.well).few;
        fits = text-keeps c i n t s s' [] at (omega (arith, st.state.seen.low, st.state.mark))
            (omega (arith, st.state.seen.high, st.state.mark)) st.state.fits goes;
        seen = enters.passes.keeps st.state.seen;
        here = enters.here ∙ sym k.next ∙ ap (λ j. c.place (j + 1)) (sym at);
        mark = enters.mark ∙ st.state.mark;
      }
      record {
        registers = record { is = λ r x lt l e. enters.portable r lt ∙ st.state.registers.is r x lt (still-live n S r (unwritten n refl r) l) e };
        carry = tt;
        result = record { is = λ x e. cc };
        pushed = record { is = λ j x lt e. enters.arguments j lt ∙ st.state.pushed.is j x lt e };
      }

  pub prolog-leads : Leads R.processor c live (live_behind live n S s) i (step c.nodes c.shape c.addresses s) out q
  prolog-leads = subst (λ o. Leads R.processor c live (live_behind live n S s) i o out q) (sym goes)
      (passages-lead R.processor c live (live_behind live n S s) i enters.steps (Goes s' []) out q u pass (sinking-turns R.processor c i n t.here refl enters.steps q enters.sinks) enters.few
      (λ e. absurd (let z = enters.some in omega (arith, e, z))) (λ e. enters.some) st.wrote
      record {
        runs = enters.runs;
        wrote = ap R.processor.machine.out (sym pass.leads) ∙ pass.silent enters.steps (omega arith) ∙ st.wrote ∙ sym (append-nil out);
        state = agree;
      })

pub prologs-carry : {Q I : Type 0} (R : Rows Q I) (fits : I → Type 0) (saved : ℕ) (code : ℕ → ℕ → List I) → PrologsLead R fits saved code
    → PrologsCarry R fits saved code
prologs-carry R fits saved code lead c i line homes f S t function is-saved reads k live s returns out q at st =
    inr (prolog-leads R fits saved code lead c i line homes f S t function is-saved reads k live s returns out q at st)
