-- Nodes whose code only moves on are carried: jumps to labels, and `.align`.
use Rattle.std.proofs.Common.{◌≡◌, ℕ, zero, suc, ◌+◌, ◌<◌, ◌⊎◌, inl, inr, Bool, true, false, List, [], ◌∷◌, ◌++◌, Option, Some, None, refl, sym, ap, ◌∙◌, subst}
use Rattle.std.proofs.Common.{arith, length, length-append, append-nil}
use Rattle.std.specs.Prelude.{◌&&◌, slice_get, slice_index, if◌then◌else◌}
use Rattle.std.specs.List.{All}
use Rattle.std.proofs.lemmas.List.Elements.{All-head}
use Rattle.lg_carry.proofs.TurnLemmas.{IsStill, still-moves, still-turns}
use Rattle.lg_op.specs.Forms.{is_alignment}
use Rattle.lg_op.specs.declared.node.Node.{Node}
use Rattle.lg_node.specs.declared.place.Place.TheVariants as place
use Rattle.lg_node.specs.Functions.{home, is_prolog_at}
use Rattle.lg_node.specs.Labels.{is_inner}
use Rattle.lg_node.specs.Shapes.{IsSuccessor}
use Rattle.lg_node.proofs.SuccessorLaws.{successors_enter}
use Rattle.lg_meaning.proofs.FunctionFacts.{function_at_home}
use Rattle.lg_meaning.specs.States.{Frame, State}
use Rattle.lg_meaning.specs.Steps.{Goes, to, on, node_in}
use Rattle.lg_meaning.specs.Texts.{text, step_at, step}
use Rattle.lg_carry.specs.Blocks.{spellings}
use Rattle.lg_carry.specs.Carries.{Leads, moves_at}
use Rattle.lg_carry.specs.Entries.{entry_at}
use Rattle.lg_carry.specs.FinalNodes.{Code, is_inside, function_at}
use Rattle.lg_carry.specs.Frames.{at_call}
use Rattle.lg_carry.specs.Moves.{Moves}
use Rattle.lg_carry.specs.NodeCode.{live_before, live_behind}
use Rattle.lg_carry.specs.Passages.{IsNodeCode, Passes}
use Rattle.lg_carry.specs.Rows.{Rows, AreRows}
use Rattle.lg_carry.specs.Stands.{StatesAgree, Stands}
use Rattle.lg_carry.specs.TextNodes.{IsInText}
use Rattle.lg_carry.proofs.EntryLemmas.{entry-aligned, entry-jumped, entry-prolog}
use Rattle.lg_carry.proofs.MoveLemmas.{move-agrees}
use Rattle.lg_carry.proofs.PassageLemmas.{passages-lead}
use Rattle.lg_carry.specs.Nodes.Stretches.{behind}
use Rattle.lg_carry.proofs.OfNodes.HomesLemmas.{next-function}
use Rattle.lg_carry.proofs.OfNodes.LeapLemmas.{bound-at, Lands, jump-lands, outer-is, after-prolog, next-inside, in-nodes, node-stands, node-passes, to-label}
use Rattle.lg_carry.proofs.OfNodes.LeapLemmas.{there-after}
use Rattle.lg_carry.proofs.OfNodes.LiveLemmas.{writes_none, unwritten, still-live}
use Rattle.lg_carry.proofs.OfNodes.StraightLemmas.{text-keeps}
use Rattle.lg_sel.specs.Control.Walks.{Walk, JumpsWalk, jump_node, JumpsCarry, AlignmentsWalk, align_node, AlignmentsCarry}

-- ---- how many steps there are
-- instructions have bytes
spelled-some : {Q I : Type 0} (R : Rows Q I) (fits : I → Type 0) → AreRows R fits → (is : List I) → All fits is → 0 < length is
    → 0 < length (spellings R.spelling is)
spelled-some R fits rows [] fit lt = absurd (omega (arith, lt))
spelled-some R fits rows (x ∷ is) fit lt =
    let size = length-append (R.spelling x) (spellings R.spelling is) in
    let long = rows.long x (All-head fits x is fit) in omega (arith, size, long)

-- no steps need no bytes
no-room : (from m steps : ℕ) → (from < from + m → 0 < steps) → steps ≡ 0 → from + m ≡ from
no-room from zero steps some none = omega arith
no-room from (suc m) steps some none = let s = some (omega arith) in absurd (omega (arith, s, none))

-- ---- a node
module _ {Q I : Type 0} (R : Rows Q I) (fits : I → Type 0) (rows : AreRows R fits) (c : Code) (i : ℕ) (n : Node) (is : List I) (t : IsInText c i n)
    (k : IsNodeCode R fits c i is)
    (plain : IsStill R.processor.target n.op) (writes : writes_none n ≡ true) where
  -- the code of a node that goes to another one, and changes nothing else, walks there
  pub walk-leads : (S : ℕ → Bool) (live : Frame → ℕ → Bool) (s : State) (out : List ℕ) (q : Q) → Stands R.processor c live s out q (live_before n S)
      → (u : State) → Moves c s u → step c.nodes c.shape c.addresses s ≡ Goes u [] → Walk R.processor (c.place i) (behind R (c.place i) is) (c.place u.at) q
      → Leads R.processor c live (live_behind live n S s) i (step c.nodes c.shape c.addresses s) out q
  walk-leads S live s out q st u moves goes walk =
      let agree : StatesAgree R.processor.target c live u (R.processor.seen walk.end) S =
      move-agrees R.processor.target c live s u (R.processor.seen q) (R.processor.seen walk.end) (live_before n S) S st.state moves
      record {
        seen = walk.passes.keeps st.state.seen;
        here = walk.here;
        portable = walk.portable;
        arguments = walk.arguments;
        pointer = walk.pointer;
        stack = walk.stack;
        link = walk.link;
        bytes = walk.bytes;
        mark = walk.mark;
      }
      (λ r lt l. still-live n S r (unwritten n writes r) l) in
      let pass : Passes R.processor c i walk.steps q walk.end =
      node-passes R.processor false c i walk.steps (behind R (c.place i) is) q walk.end (still-moves R.processor c i n t.here plain) k.next walk.passes in
      let size : ℕ = length (spellings R.spelling is) in
      subst (λ o. Leads R.processor c live (live_behind live n S s) i o out q) (sym goes)
      (passages-lead R.processor c live (live_behind live n S s) i walk.steps (Goes u []) out q walk.end pass (still-turns R.processor c i n t.here plain walk.steps q) walk.few
      (λ none. k.next ∙ no-room (c.place i) size walk.steps walk.some none)
      (λ leaps. walk.some (let z = spelled-some R fits rows is k.fit (k.some leaps) in omega (arith, z))) st.wrote
      (subst (λ b. Stands R.processor c live u (out ++ []) walk.end (if b then live (at_call s.frame) else S)) (sym plain.rises) record {
        runs = walk.runs;
        wrote = ap R.processor.machine.out (sym pass.leads) ∙ pass.silent walk.steps (omega arith) ∙ st.wrote ∙ sym (append-nil out);
        state = agree;
      }))

-- ---- `jmpi`
module _ {Q I : Type 0} (R : Rows Q I) (fits : I → Type 0) (rows : AreRows R fits) (code : ℕ → ℕ → List I) (lead : JumpsWalk R fits code) where
  pub jumps-carry : JumpsCarry R fits code
  jumps-carry c i l line S w t k live s returns out q at st =
      let n : Node = jump_node l line in
      let is : List I = code (c.place i) (slice_index c.addresses l.0) in
      let lands : Lands c i l = jump-lands c i n t l (λ p e. after-prolog c i n t p e refl) (t.well.jumps i n l [] t.here refl refl) in
      let u : State = to s lands.node in
      let goes : step c.nodes c.shape c.addresses s ≡ Goes u [] =
      ap (λ x. step_at (text c.nodes c.shape c.addresses) x s) (ap (slice_get c.nodes.nodes) at ∙ t.here) ∙ ap (λ o. Goes (to s (node_in o)) []) lands.place in
      let kept = text-keeps c i n t s u [] at (omega (arith, st.state.seen.low, st.state.mark))
      (omega (arith, st.state.seen.high, st.state.mark)) st.state.fits goes in
      let there = to-label R c w l lands.node lands.place (let z = kept.inside in omega (arith, z)) in
      let bound = w.nodes.bound l.0 lands.node (bound-at c.nodes.places l (place.Node lands.node) lands.place) in
      let walk = lead (c.place i) (slice_index c.addresses l.0) q (node-stands R false fits c i is (ap (moves_at R.processor.target) t.here) k) there st.runs (st.state.here ∙ ap c.place at) in
      inr (walk-leads R fits rows c i n is t k record { moves = refl; sinks = refl; rises = refl } refl S live s out q st u
      record {
        fits = kept;
        side = lands.side ∙ ap (is_inside c) (sym at);
        function = λ z. lands.level (ap (is_inside c) (sym at) ∙ z) ∙ ap (function_at c) (sym at);
        enters = λ z none.
            let x = function_at_home c.nodes c.shape t.functions t.shape.functions lands.node lands.node (lands.entry (ap (is_inside c) (sym at) ∙ z)) in
            entry-prolog c.nodes lands.node (ap (λ j. is_prolog_at (slice_get c.nodes.nodes j)) (sym x.1.entry) ∙ x.1.is.begins)
            ∙ sym (ap (entry_at c.nodes) at ∙ entry-jumped c.nodes i n t.here refl refl ∙ ap node_in lands.place);
        regs = refl;
        carry = refl;
        answer = refl;
        pushed = refl;
        frame = refl;
        callers = refl;
        mem = refl;
        data_size = refl;
        args_size = refl;
        mark = refl;
      }
      goes (subst (λ z. Walk R.processor (c.place i) (behind R (c.place i) is) z q) bound walk))

-- ---- `.align`
first-true : (b : Bool) → (b && true) ≡ true → b ≡ true
first-true true e = refl
first-true false e = e

-- the next node is on the same side
align-side : (c : Code) (i m line j : ℕ) → IsInText c i (align_node m line) → j ≡ i + 1 → j < length c.nodes.nodes → is_inside c j ≡ is_inside c i
align-side c i m line j t e lt = by (home c.nodes.nodes i) refl
  where
    outer : (o : Option ℕ) → (o ≡ None) ⊎ (o ≡ Some j) → is_inner o j ≡ false
    outer o (inl none) = ap (λ x. is_inner x j) none
    outer o (inr some) = outer-is o j some

    by : (o : Option ℕ) → home c.nodes.nodes i ≡ o → is_inside c j ≡ is_inside c i
    by (Some p) h = ap (is_inside c) e ∙ next-inside c i (align_node m line) t p h refl ∙ sym (after-prolog c i (align_node m line) t p h refl)
    by None h =
        let s : IsSuccessor c.nodes c.shape i j = record { node = align_node m line; here = t.here; goes = (e, lt) } in
        outer (home c.nodes.nodes j) (successors_enter c.nodes c.shape t.shape i j h s) ∙ sym (ap (λ x. is_inner x i) h)

module _ {Q I : Type 0} (R : Rows Q I) (fits : I → Type 0) (rows : AreRows R fits) (code : ℕ → ℕ → List I) (lead : AlignmentsWalk R fits code) where
  pub alignments-carry : AlignmentsCarry R fits code
  alignments-carry c i m line S w t k live s returns out q at st =
      let n : Node = align_node m line in
      let is : List I = code (c.place i) m in
      let u : State = on s in
      let goes : step c.nodes c.shape c.addresses s ≡ Goes u [] =
      ap (λ x. step_at (text c.nodes c.shape c.addresses) x s) (ap (slice_get c.nodes.nodes) at ∙ t.here) in
      let kept = text-keeps c i n t s u [] at (omega (arith, st.state.seen.low, st.state.mark))
      (omega (arith, st.state.seen.high, st.state.mark)) st.state.fits goes in
      let next : u.at ≡ i + 1 = ap (λ j. j + 1) at in
      let high : ℕ = behind R (c.place i) is in
      let walk = lead (c.place i) m q (first-true (is_alignment m) (t.formed n t.here).forms) (node-stands R false fits c i is (ap (moves_at R.processor.target) t.here) k)
      (there-after R fits rows c w i is (in-nodes c i n t) k)
      st.runs (st.state.here ∙ ap c.place at) in
      let end : high ≡ c.place u.at = sym k.next ∙ ap c.place (sym next) in
      inr (walk-leads R fits rows c i n is t k record { moves = refl; sinks = refl; rises = refl } refl S live s out q st u
      record {
        fits = kept;
        side = align-side c i m line u.at t next kept.inside ∙ ap (is_inside c) (sym at);
        function = λ z. ap (function_at c) next ∙ next-function c i n t (ap (is_inside c) (sym at) ∙ z) refl ∙ ap (function_at c) (sym at);
        enters = λ z none. ap (entry_at c.nodes) next ∙ entry-aligned c.nodes i n t.here refl ∙ ap (entry_at c.nodes) (sym at);
        regs = refl;
        carry = refl;
        answer = refl;
        pushed = refl;
        frame = refl;
        callers = refl;
        mem = refl;
        data_size = refl;
        args_size = refl;
        mark = refl;
      }
      goes (subst (λ z. Walk R.processor (c.place i) high z q) end walk))
