-- Where labels lead, and how a run that reaches the place of a node leads there.
use Rattle.std.proofs.Common.{◌≡◌, ◌≢◌, ℕ, ◌+◌, ◌<◌, ◌≤◌, inl, Bool, true, false, List, [], ◌∷◌, ◌++◌, Option, Some, None, refl, sym, ap, ◌∙◌, subst, arith, length, append-nil, length-append}
use Rattle.std.specs.Prelude.{slice_get, slice_index, if◌then◌else◌}
use Rattle.std.specs.Option.{option_flatten}
use Rattle.std.specs.List.{All}
use Rattle.std.proofs.lemmas.List.Elements.{All-head, All-tail}
use Rattle.std.proofs.lemmas.Option.{slice_get_within}
use Rattle.std.proofs.lemmas.Bool.{false_from_ne_true}
use Rattle.lg_base.specs.Conventions.{argument_registers, portable_register, frame_register, stack_register}
use Rattle.lg_base.specs.declared.target.Target.{Target}
use Rattle.lg_op.specs.declared.operand.Label.{Label}
use Rattle.lg_op.specs.declared.node.Node.{Node}
use Rattle.lg_node.specs.declared.place.Place.{Place}
use Rattle.lg_node.specs.declared.place.Place.TheVariants as place
use Rattle.lg_node.specs.Functions.{home, is_prolog, is_prolog_at, is_epilog, is_epilog_at}
use Rattle.lg_node.specs.Labels.{place_of, is_inner}
use Rattle.lg_node.specs.Checks.{is_begun, may_stand_outside}
use Rattle.lg_node.specs.ShapeLaws.{JumpsTo}
use Rattle.lg_meaning.specs.States.{Frame, State}
use Rattle.lg_meaning.specs.Steps.{Goes, to}
use Rattle.lg_meaning.specs.Texts.{step}
use Rattle.lg_meaning.proofs.NodeFacts.{inside_one}
use Rattle.lg_carry.proofs.OfNodes.HomesLemmas.{function-same}
use Rattle.lg_carry.specs.FinalNodes.{Code, is_inside, function_at}
use Rattle.lg_carry.specs.Frames.{at_call}
use Rattle.lg_carry.specs.Stands.{StatesAgree, Stands}
use Rattle.lg_carry.specs.Carries.{moves_at, KeepsOutside, Leads}
use Rattle.lg_carry.specs.NodeCode.{live_behind}
use Rattle.lg_carry.specs.Passages.{IsNodeCode, Passes}
use Rattle.lg_carry.specs.Processors.{Processor}
use Rattle.lg_carry.specs.Registers.{HoldsRegisters, HoldsArguments}
use Rattle.lg_carry.specs.Rows.{Rows, AreRows}
use Rattle.lg_carry.specs.Blocks.{spellings, StaysOutside}
use Rattle.lg_base.specs.Runs.{iter}
use Rattle.lg_carry.proofs.AgreeInFrameLemmas.{quiet-agrees}
use Rattle.lg_carry.proofs.RegistersApartLemmas.{conventions-apart}
use Rattle.lg_carry.proofs.PassageLemmas.{passages-lead}
use Rattle.lg_carry.proofs.TextShapeLemmas.{shaped}
use Rattle.lg_carry.proofs.TurnLemmas.{IsStill, still-moves, still-turns}
use Rattle.lg_carry.specs.Nodes.Isas.{IsIsa}
use Rattle.lg_carry.specs.Nodes.Leaps.{HasPlaces, IsThere}
use Rattle.lg_carry.specs.TextNodes.{IsInText, IsTarget}
use Rattle.lg_carry.specs.Nodes.Stretches.{StandsAt, behind, PassesIn, Way}
use Rattle.lg_carry.proofs.OfNodes.StraightLemmas.{text-keeps}

-- ---- where a label is bound
pub bound-at : (places : List (Option Place)) (l : Label) (p : Place) → place_of places l ≡ Some p → slice_get places l.0 ≡ Some (Some p)
bound-at places l p e = by (slice_get places l.0) refl e
  where
    by : (o : Option (Option Place)) → slice_get places l.0 ≡ o → option_flatten o ≡ Some p → slice_get places l.0 ≡ Some (Some p)
    by None h e = cc
    by (Some None) h e = cc
    by (Some (Some x)) h e = h ∙ ap Some e

-- a jump goes within its function, or from outside of every function to the first instruction of one
pub record Lands (c : Code) (i : ℕ) (l : Label) : Type 0 where
  pub node : ℕ
  pub place : place_of c.nodes.places l ≡ Some (place.Node node)
  pub side : is_inside c node ≡ is_inside c i
  pub level : is_inside c i ≡ true → function_at c node ≡ function_at c i
  pub entry : is_inside c i ≡ false → home c.nodes.nodes node ≡ Some node

pub inner-is : (o : Option ℕ) (k p : ℕ) → o ≡ Some p → p ≢ k → is_inner o k ≡ true
inner-is o k p e ne = subst (λ x. is_inner x k ≡ true) (sym e) (grind (arith, ne))

pub outer-is : (o : Option ℕ) (k : ℕ) → o ≡ Some k → is_inner o k ≡ false
outer-is o k e = subst (λ x. is_inner x k ≡ false) (sym e) (grind arith)

pub jump-lands : (c : Code) (i : ℕ) (n : Node) → IsInText c i n → (l : Label) → ((p : ℕ) → home c.nodes.nodes i ≡ Some p → is_inside c i ≡ true) → JumpsTo c.nodes (home c.nodes.nodes i) (place_of c.nodes.places l) → Lands c i l
jump-lands c i n t l inside h = by (home c.nodes.nodes i) refl h
  where
    by : (o : Option ℕ) → home c.nodes.nodes i ≡ o → JumpsTo c.nodes o (place_of c.nodes.places l) → Lands c i l
    by (Some p) e h = record { node = h.node; place = h.place; side = inner-is (home c.nodes.nodes h.node) h.node p h.inside (λ z. absurd (omega (arith, z, h.behind))) ∙ sym (inside p e); level = λ z. function-same c i n t i h.node p e h.inside; entry = λ z. let y : true ≡ false = sym (inside p e) ∙ z in cc }
    by None e h = record { node = h.node; place = h.place; side = outer-is (home c.nodes.nodes h.node) h.node h.entry ∙ sym (ap (λ o. is_inner o i) e); level = λ z. let y : false ≡ true = sym (ap (λ o. is_inner o i) e) ∙ z in cc; entry = λ z. h.entry }

-- ---- in the text
module _ (c : Code) (i : ℕ) (n : Node) (t : IsInText c i n) where
  -- a node that may not be outside of every function is in one
  pub in-some : may_stand_outside n.op (is_begun c.nodes.nodes i) ≡ false → (p : ℕ) × (home c.nodes.nodes i ≡ Some p)
  in-some out = inside_one (home c.nodes.nodes i) (may_stand_outside n.op (is_begun c.nodes.nodes i)) out (t.well.passes i n t.here).1.0

  pub no-entry : is_prolog n.op ≡ false → home c.nodes.nodes i ≢ Some i
  no-entry other e = differ (sym (ap is_prolog_at t.here ∙ other) ∙ t.well.prologs i e)
    where
      differ : false ≡ true → ⊥
      differ e = cc

  -- and after its `prolog`
  pub after-prolog : (p : ℕ) → home c.nodes.nodes i ≡ Some p → is_prolog n.op ≡ false → is_inside c i ≡ true
  after-prolog p h other = inner-is (home c.nodes.nodes i) i p h (λ e. no-entry other (h ∙ ap Some e))

  pub stands-inside : may_stand_outside n.op (is_begun c.nodes.nodes i) ≡ false → is_prolog n.op ≡ false → is_inside c i ≡ true
  stands-inside out other = let p = in-some out in after-prolog p.0 p.1 other

  -- the next node is after the same `prolog`
  pub next-inside : (p : ℕ) → home c.nodes.nodes i ≡ Some p → is_epilog n.op ≡ false → is_inside c (i + 1) ≡ true
  next-inside p h other = (shaped c.nodes t.well).next i p h (ap is_epilog_at t.here ∙ other)

  pub in-nodes : i < length c.nodes.nodes
  in-nodes = slice_get_within c.nodes.nodes i n t.here

-- ---- in the code
-- the code of a node is there
pub node-stands : {Q I : Type 0} (R : Rows Q I) (moves : Bool) (fits : I → Type 0) (c : Code) (i : ℕ) (is : List I) → moves_at R.processor.target (slice_get c.nodes.nodes i) ≡ moves → IsNodeCode R fits c i is
    → StandsAt R moves fits (c.place i) is
node-stands R moves fits c i is same k = record { low = k.low; place = k.place; more = k.more; stands = k.stands; fit = k.fit; outside = subst (λ b. All (StaysOutside R b) is) same k.outside }

-- steps in the bytes of a node
pub node-passes : {Q : Type 0} (P : Processor Q) (moves : Bool) (c : Code) (i m high : ℕ) (q u : Q) → moves_at P.target (slice_get c.nodes.nodes i) ≡ moves → c.place (i + 1) ≡ high
    → PassesIn P moves (c.place i) high m q u → Passes P c i m q u
node-passes P moves c i m high q u same e h = record { leads = h.leads; inside = λ j lt. let z = h.inside j lt in (z.0, omega (arith, z.1, e)); outside = λ j lt. subst (λ b. KeepsOutside P b (iter P.machine.step j q)) (sym same) (h.outside j lt); above = h.above; silent = h.silent; keeps = h.keeps }

-- the place of a node to which the code may jump
pub there : {Q I : Type 0} (R : Rows Q I) (c : Code) → HasPlaces R c → (k : ℕ) → k ≤ length c.nodes.nodes → IsTarget c k → IsThere R.is_place (c.place k)
there R c w k le t = record { low = w.nodes.low k le; high = w.nodes.high k le; place = w.units (c.place k) (w.nodes.aligned k le t) }

-- a label that is bound at a node leads there
pub to-label : {Q I : Type 0} (R : Rows Q I) (c : Code) → HasPlaces R c → (l : Label) (k : ℕ) → place_of c.nodes.places l ≡ Some (place.Node k) → k ≤ length c.nodes.nodes → IsThere R.is_place (slice_index c.addresses l.0)
to-label R c w l k e le =
    let bound = bound-at c.nodes.places l (place.Node k) e in
    subst (IsThere R.is_place) (sym (w.nodes.bound l.0 k bound)) (there R c w k le (inl (l.0, bound)))

-- an instruction may be after others
place-after : {Q I : Type 0} (R : Rows Q I) (fits : I → Type 0) → AreRows R fits → (is : List I) (pc : ℕ) → All fits is → R.is_place pc ≡ true → R.is_place (pc + length (spellings R.spelling is)) ≡ true
place-after R fits rows [] pc fit e = let z : pc ≡ pc + 0 = omega arith in subst (λ x. R.is_place x ≡ true) z e
place-after R fits rows (x ∷ is) pc fit e =
    let size = length-append (R.spelling x) (spellings R.spelling is) in
    let z : pc + length (R.spelling x) + length (spellings R.spelling is) ≡ pc + length (spellings R.spelling (x ∷ is)) = omega (arith, size) in
    subst (λ p. R.is_place p ≡ true) z (place-after R fits rows is (pc + length (R.spelling x)) (All-tail fits x is fit) (rows.places pc x (All-head fits x is fit) e))

-- so it may after the code of a node
pub there-after : {Q I : Type 0} (R : Rows Q I) (fits : I → Type 0) → AreRows R fits → (c : Code) → HasPlaces R c → (i : ℕ) (is : List I) → i < length c.nodes.nodes → IsNodeCode R fits c i is → IsThere R.is_place (behind R (c.place i) is)
there-after R fits rows c w i is lt k =
    let low = w.nodes.low (i + 1) (omega (arith, lt)) in let high = w.nodes.high (i + 1) (omega (arith, lt)) in let next = k.next in
    record { low = omega (arith, low, next); high = omega (arith, high, next); place = place-after R fits rows is (c.place i) k.fit k.place }

-- ---- a run that reaches the place of a node
module _ {Q I : Type 0} (R : Rows Q I) (scratch : ℕ → Bool) (fits : I → Type 0) (isa : IsIsa R scratch fits) (c : Code) (i : ℕ) (n : Node) (t : IsInText c i n)
    (high : ℕ) (next : c.place (i + 1) ≡ high) where
  abbrev target : Target
  target = R.processor.target

  scratch-off : (x : ℕ) → (scratch x ≡ true → ⊥) → scratch x ≡ false
  scratch-off x h = false_from_ne_true (scratch x) h

  -- the node goes to another one, where the registers are these
  pub way-leads : (S S' : ℕ → Bool) → IsStill target n.op → is_inside c i ≡ true → (live : Frame → ℕ → Bool) (s : State) (out : List ℕ) (q : Q) → s.at ≡ i → Stands R.processor c live s out q S
      → (regs : ℕ → Option ℕ) (w : ℕ → ℕ) → HoldsRegisters target w regs S' → HoldsArguments target w s.pushed → w (frame_register target) ≡ (R.processor.seen q).registers (frame_register target) → w (stack_register target) ≡ (R.processor.seen q).registers (stack_register target)
      → (k : ℕ) → is_inside c k ≡ true → function_at c k ≡ function_at c i → step c.nodes c.shape c.addresses s ≡ Goes (to (record s { regs = regs }) k) [] → Way R.processor scratch (c.place i) high w (c.place k) q
      → Leads R.processor c live (live_behind live n S' s) i (step c.nodes c.shape c.addresses s) out q
  way-leads S S' plain inside live s out q here st regs w held passed pointer stack k side level goes' way =
      let apart = conventions-apart target in
      let u = way.end in
      let s' : State = to (record s { regs = regs }) k in
      let pass : Passes R.processor c i way.steps q u = node-passes R.processor false c i way.steps high q u (still-moves R.processor c i n t.here plain) next way.passes in
      let agree : StatesAgree target c live s' (R.processor.seen u) S' = quiet-agrees target c live s s' (R.processor.seen q) (R.processor.seen u) S S' st.state
      record {
        few = (shaped c.nodes t.well).few;
        fits = text-keeps c i n t s s' [] here (omega (arith, st.state.seen.low, st.state.mark)) (omega (arith, st.state.seen.high, st.state.mark)) st.state.fits goes';
        seen = way.passes.keeps st.state.seen;
        here = way.here;
        before = ap (is_inside c) here ∙ inside;
        behind = side;
        function = level ∙ sym (ap (function_at c) here);
        frame = refl;
        callers = refl;
        pointer = way.registers (frame_register target) (scratch-off _ (λ e. (isa.apart (frame_register target) e).pointer refl)) (λ e. (apart.carry (frame_register target) e).pointer refl) ∙ pointer;
        stack = way.registers (stack_register target) (scratch-off _ (λ e. (isa.apart (stack_register target) e).stack refl)) (λ e. (apart.carry (stack_register target) e).stack refl) ∙ stack;
        mark = way.mark ∙ st.state.mark;
      }
      record { mem = refl; data_size = refl; args_size = refl; pushed = refl; bytes = λ x e. ap (λ m. m x) way.bytes }
      record {
        registers = record { is = λ x v lt m e. way.registers (portable_register target x) (scratch-off _ (λ z. (isa.apart (portable_register target x) z).portable x lt refl)) (λ z. (apart.carry (portable_register target x) z).portable x lt refl) ∙ held.is x v lt m e };
        carry = tt;
        result = record { is = λ v e. cc };
        pushed = record { is = λ j v lt e. way.registers (slice_index (argument_registers target) j) (scratch-off _ (λ z. (isa.apart (slice_index (argument_registers target) j) z).argument j lt refl)) (λ z. (apart.carry (slice_index (argument_registers target) j) z).argument j lt refl) ∙ passed.is j v lt e };
      } in
      subst (λ x. Leads R.processor c live (live_behind live n S' s) i x out q) (sym goes')
      (passages-lead R.processor c live (live_behind live n S' s) i way.steps (Goes s' []) out q u pass (still-turns R.processor c i n t.here plain way.steps q) way.few (λ z. absurd (omega (arith, z, way.some))) (λ z. way.some) st.wrote
      (subst (λ x. Stands R.processor c live s' (out ++ []) u (if x then live (at_call s.frame) else S')) (sym plain.rises)
      record { runs = way.runs; wrote = ap R.processor.machine.out (sym way.passes.leads) ∙ way.passes.silent way.steps (omega arith) ∙ st.wrote ∙ sym (append-nil out); state = agree }))
