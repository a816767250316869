-- Branches are carried by code that leads where the condition asks.
use Rattle.std.proofs.Common.{◌≡◌, ◌≢◌, ℕ, ◌+◌, ◌^◌, ◌<◌, ◌⊎◌, inl, inr, Bool, true, false, List, [], ◌∷◌, Option, Some, None, refl, sym, ap, ◌∙◌, subst, arith}
use Rattle.std.specs.Prelude.{slice_get, slice_index, if◌then◌else◌}
use Rattle.lg_base.specs.declared.target.Target.{Target}
use Rattle.lg_op.specs.declared.form.Form.TheVariants as form
use Rattle.lg_op.specs.Forms.{last_form}
use Rattle.lg_op.specs.declared.op.Condition.{Condition}
use Rattle.lg_op.specs.declared.op.LastOperand.{LastOperand}
use Rattle.lg_op.specs.declared.op.LastOperand.TheVariants as last_operand
use Rattle.lg_op.specs.declared.operand.Label.{Label}
use Rattle.lg_op.specs.declared.operand.Operand.{Operand}
use Rattle.lg_op.specs.declared.operand.Operand.TheVariants as operand
use Rattle.lg_op.specs.declared.operand.Reg.{Reg}
use Rattle.lg_op.specs.declared.operand.Reg.TheVariants.{Fp}
use Rattle.lg_op.specs.declared.node.Node.{Node}
use Rattle.lg_node.specs.declared.place.Place.TheVariants as place
use Rattle.lg_op.specs.Operators.{holds}
use Rattle.lg_live.specs.Uses.{is_written}
use Rattle.lg_live.specs.declared.uses.Access.TheVariants.{Read}
use Rattle.lg_op.specs.Operands.{number_of}
use Rattle.lg_meaning.specs.States.{Frame, State, reg, value}
use Rattle.lg_meaning.specs.Steps.{Goes, Undefined, need, branch, to, node_in, node_of_label}
use Rattle.lg_meaning.specs.Texts.{text, step_at, step}
use Rattle.lg_temp.specs.Abis.{register_of}
use Rattle.lg_carry.proofs.OfNodes.HomesLemmas.{next-function}
use Rattle.lg_carry.specs.FinalNodes.{Code, is_inside, function_at}
use Rattle.lg_carry.specs.Carries.{moves_at, Leads}
use Rattle.lg_carry.specs.NodeCode.{numbered, live_before, live_behind}
use Rattle.lg_carry.specs.Passages.{IsNodeCode}
use Rattle.lg_carry.specs.Rows.{Rows}
use Rattle.lg_carry.specs.Stands.{Stands}
use Rattle.lg_carry.specs.Nodes.Isas.{IsIsa}
use Rattle.lg_carry.specs.Nodes.Leaps.{HasPlaces, IsThere, second_word, BranchesLead, last_of, branch_node, IsSecond, BranchesCarry}
use Rattle.lg_carry.specs.TextNodes.{IsInText, IsFrameOf}
use Rattle.lg_carry.specs.Nodes.Stretches.{behind, Way}
use Rattle.lg_carry.proofs.OfNodes.LeapLemmas.{bound-at, Lands, jump-lands, in-some, after-prolog, next-inside, in-nodes, node-stands, to-label, there-after, way-leads}
use Rattle.lg_carry.proofs.OfNodes.LiveLemmas.{unwritten, still-live}
use Rattle.lg_carry.proofs.OfNodes.OperandLemmas.{named-here, named-later, read-is-live}
use Rattle.lg_carry.proofs.OfNodes.RegisterLemmas.{given}
use Rattle.lg_carry.proofs.OfNodes.StraightLemmas.{text-keeps, frame-held}

module _ {Q I : Type 0} (R : Rows Q I) (scratch : ℕ → Bool) (fits : I → Type 0) (isa : IsIsa R scratch fits) (code : ℕ → Condition → Reg → Operand → ℕ → ℕ → List I) (lead : BranchesLead R scratch fits code)
    (c : Code) (i : ℕ) (o : Condition) (l : Label) (a : Reg) (third : Operand) (line frame : ℕ) (S : ℕ → Bool) (second : IsSecond third) (w : HasPlaces R c) (t : IsInText c i (branch_node o l a third line)) (is-frame : IsFrameOf c i frame)
    (k : IsNodeCode R fits c i (code frame o a third (c.place i) (slice_index c.addresses l.0))) where
  abbrev n : Node
  n = branch_node o l a third line

  abbrev is : List I
  is = code frame o a third (c.place i) (slice_index c.addresses l.0)

  abbrev high : ℕ
  high = behind R (c.place i) is

  abbrev target : Target
  target = R.processor.target

  live-a : a ≢ Fp → live_before n S (number_of a) ≡ true
  live-a ne = read-is-live n S a (λ z. named-later Read form.Target (form.Read ∷ last_form (last_of third) ∷ []) a (operand.Label l) (operand.Reg a ∷ third ∷ []) (named-here Read form.Read (last_form (last_of third) ∷ []) a (third ∷ []) refl z)) ne

  live-b : (b : Reg) → third ≡ operand.Reg b → b ≢ Fp → live_before n S (number_of b) ≡ true
  live-b b e ne = subst (λ x. live_before (branch_node o l a x line) S (number_of b) ≡ true) (sym e)
      (read-is-live (branch_node o l a (operand.Reg b) line) S b (λ z. named-later Read form.Target (form.Read ∷ form.Read ∷ []) b (operand.Label l) (operand.Reg a ∷ operand.Reg b ∷ []) (named-later Read form.Read (form.Read ∷ []) b (operand.Reg a) (operand.Reg b ∷ []) (named-here Read form.Read [] b [] refl z))) ne)

  unwritten-here : (r : ℕ) → numbered (is_written n) r ≡ false
  unwritten-here r = by (last_of third) refl
    where
      by : (z : LastOperand) → last_of third ≡ z → numbered (is_written n) r ≡ false
      by last_operand.Register e = unwritten n (rw e refl) r
      by last_operand.Immediate e = unwritten n (rw e refl) r

  inside : is_inside c i ≡ true
  inside = let p = in-some c i n t refl in after-prolog c i n t p.0 p.1 refl

  lands : Lands c i l
  lands = jump-lands c i n t l (λ p e. after-prolog c i n t p e refl) (t.well.jumps i n l (operand.Reg a ∷ third ∷ []) t.here refl refl)

  module _ (live : Frame → ℕ → Bool) (s : State) (out : List ℕ) (q : Q) (at : s.at ≡ i) (st : Stands R.processor c live s out q (live_before n S)) where
    abbrev W : ℕ → ℕ
    W = (R.processor.seen q).registers

    before : is_inside c s.at ≡ true
    before = ap (is_inside c) at ∙ inside

    here : (R.processor.seen q).pc ≡ c.place i
    here = st.state.here ∙ ap c.place at

    held : (x : ℕ) → reg s a ≡ Some x → W (register_of target a) ≡ x
    held x e = given target c live s (R.processor.seen q) (live_before n S) a x st.state before live-a e

    place-next : c.place (i + 1) ≡ high
    place-next = k.next

    goes-to : (j : ℕ) → is_inside c j ≡ true → function_at c j ≡ function_at c i → step c.nodes c.shape c.addresses s ≡ Goes (to s j) [] → Way R.processor scratch (c.place i) high W (c.place j) q → Leads R.processor c live (live_behind live n S s) i (step c.nodes c.shape c.addresses s) out q
    goes-to j side level goes' way = way-leads R scratch fits isa c i n t high place-next (live_before n S) S record { moves = refl; sinks = refl; rises = refl } inside live s out q at st s.regs W
        record { is = λ z v lt e g. st.state.registers.is z v lt (still-live n S z (unwritten-here z) e) g } st.state.pushed refl refl j side level goes' way

    taken : (x y : ℕ) → W (register_of target a) ≡ x → second_word target W third ≡ Some y → y < 2 ^ 64 → step c.nodes c.shape c.addresses s ≡ Goes (to s (if holds o x y then node_of_label c.nodes.places (operand.Label l) else s.at + 1)) []
        → Leads R.processor c live (live_behind live n S s) i (step c.nodes c.shape c.addresses s) out q
    taken x y ea eb small goes' = by (holds o x y) refl
      where
        next : IsThere R.is_place high
        next = there-after R fits isa.rows c w i is (in-nodes c i n t) k

        way : (holds o x y ≡ true → IsThere R.is_place (slice_index c.addresses l.0)) → Way R.processor scratch (c.place i) high W (if holds o x y then slice_index c.addresses l.0 else high) q
        way at-label = lead frame o a third x y (c.place i) (slice_index c.addresses l.0) q (frame-held target c i live s (R.processor.seen q) (live_before n S) at before st.state frame is-frame) (node-stands R false fits c i is (ap (moves_at target) t.here) k) at-label next st.runs here ea eb small

        bound : slice_index c.addresses l.0 ≡ c.place lands.node
        bound = w.nodes.bound l.0 lands.node (bound-at c.nodes.places l (place.Node lands.node) lands.place)

        jumps : holds o x y ≡ true → step c.nodes c.shape c.addresses s ≡ Goes (to s lands.node) [] → Leads R.processor c live (live_behind live n S s) i (step c.nodes c.shape c.addresses s) out q
        jumps e goes'' =
            let within = (text-keeps c i n t s (to s lands.node) [] at (omega (arith, st.state.seen.low, st.state.mark)) (omega (arith, st.state.seen.high, st.state.mark)) st.state.fits goes'').inside in
            let at-label : IsThere R.is_place (slice_index c.addresses l.0) = to-label R c w l lands.node lands.place (omega (arith, within)) in
            goes-to lands.node (lands.side ∙ inside) (lands.level inside) goes'' (subst (λ z. Way R.processor scratch (c.place i) high W z q) (ap (λ b. if b then slice_index c.addresses l.0 else high) e ∙ bound) (way (λ z. at-label)))

        by : (b : Bool) → holds o x y ≡ b → Leads R.processor c live (live_behind live n S s) i (step c.nodes c.shape c.addresses s) out q
        by true e = jumps e (goes' ∙ ap (λ b. Goes (to s (if b then node_of_label c.nodes.places (operand.Label l) else s.at + 1)) []) e ∙ ap (λ z. Goes (to s z) []) (ap node_in lands.place))
        by false e =
            let z : s.at + 1 ≡ i + 1 = ap (λ j. j + 1) at in
            goes-to (s.at + 1) (ap (is_inside c) z ∙ (let p = in-some c i n t refl in next-inside c i n t p.0 p.1 refl)) (ap (function_at c) z ∙ next-function c i n t inside refl) (goes' ∙ ap (λ b. Goes (to s (if b then node_of_label c.nodes.places (operand.Label l) else s.at + 1)) []) e)
            (subst (λ y'. Way R.processor scratch (c.place i) high W y' q) (ap (λ b. if b then slice_index c.addresses l.0 else high) e ∙ sym place-next ∙ ap c.place (sym z)) (way (λ f. absurd (differ e f))))
          where
            differ : {b : Bool} → b ≡ false → b ≡ true → ⊥
            differ e f = cc

    -- the word of the second operand
    second-is : (x : Operand) → third ≡ x → IsSecond x → (y : ℕ) → value c.addresses s x ≡ Some y → (second_word target W x ≡ Some y) × (y < 2 ^ 64)
    second-is (operand.Reg b) e h y ey = let g = given target c live s (R.processor.seen q) (live_before n S) b y st.state before (live-b b e) ey in (ap Some g, subst (λ z. z < 2 ^ 64) g (st.state.seen.words (register_of target b)))
    second-is (operand.Number v) e h y ey = let z : h.0 ≡ y = cc in (ey, subst (λ u. u < 2 ^ 64) z h.2)
    second-is (operand.Host name) e h y ey = let f = h.1 in let z : h.0 ≡ y = cc in (ey, subst (λ u. u < 2 ^ 64) z h.2)
    second-is (operand.Label m) e h y ey = let f = h.1 in cc
    second-is (operand.Slot m) e h y ey = let f = h.1 in cc

    pub branch-leads : (step c.nodes c.shape c.addresses s ≡ Undefined) ⊎ Leads R.processor c live (live_behind live n S s) i (step c.nodes c.shape c.addresses s) out q
    branch-leads = by (reg s a) (value c.addresses s third) refl refl
      where
        stepped : step c.nodes c.shape c.addresses s ≡ need (reg s a) (λ x. need (value c.addresses s third) (λ y. branch (holds o x y) c.nodes.places s (operand.Label l)))
        stepped = ap (λ m. step_at (text c.nodes c.shape c.addresses) m s) (ap (slice_get c.nodes.nodes) at ∙ t.here)

        by : (oa ob : Option ℕ) → reg s a ≡ oa → value c.addresses s third ≡ ob → (step c.nodes c.shape c.addresses s ≡ Undefined) ⊎ Leads R.processor c live (live_behind live n S s) i (step c.nodes c.shape c.addresses s) out q
        by None ob ea eb = inl (stepped ∙ ap (λ z. need z (λ x. need (value c.addresses s third) (λ y. branch (holds o x y) c.nodes.places s (operand.Label l)))) ea)
        by (Some x) None ea eb = inl (stepped ∙ ap (λ z. need z (λ x. need (value c.addresses s third) (λ y. branch (holds o x y) c.nodes.places s (operand.Label l)))) ea ∙ ap (λ z. need z (λ y. branch (holds o x y) c.nodes.places s (operand.Label l))) eb)
        by (Some x) (Some y) ea eb =
            let g = second-is third refl second y eb in
            inr (taken x y (held x ea) g.0 g.1 (stepped ∙ ap (λ z. need z (λ x. need (value c.addresses s third) (λ y. branch (holds o x y) c.nodes.places s (operand.Label l)))) ea ∙ ap (λ z. need z (λ y. branch (holds o x y) c.nodes.places s (operand.Label l))) eb))

pub branches-carry : {Q I : Type 0} (R : Rows Q I) (scratch : ℕ → Bool) (fits : I → Type 0) → IsIsa R scratch fits → (code : ℕ → Condition → Reg → Operand → ℕ → ℕ → List I) → BranchesLead R scratch fits code → BranchesCarry R scratch fits code
branches-carry R scratch fits isa code lead c i o l a x line frame S second w t is-frame k live s returns out q at st = branch-leads R scratch fits isa code lead c i o l a x line frame S second w t is-frame k live s out q at st
