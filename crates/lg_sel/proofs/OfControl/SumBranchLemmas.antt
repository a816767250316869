-- Branches that add or subtract are carried by code that leads where the sum asks, with the sum in the register.
use Rattle.std.proofs.Common.{◌≡◌, ◌≢◌, ℕ, zero, suc, ⊎_elim, ◌+◌, ◌^◌, ◌<◌, ◌⊎◌, inl, inr, Bool, true, false, List, [], ◌∷◌, Option, Some, None, refl, sym, ap}
use Rattle.std.proofs.Common.{◌∙◌, subst, arith}
use Rattle.std.specs.Prelude.{◌&&◌, ◌||◌, slice_get, slice_index, if◌then◌else◌}
use Rattle.lg_base.specs.Conventions.{argument_registers, portable_register, frame_register, stack_register}
use Rattle.lg_base.specs.declared.target.Target.{Target}
use Rattle.lg_op.specs.declared.form.Form.TheVariants as form
use Rattle.lg_op.specs.Forms.{last_form, admits, admit}
use Rattle.lg_op.specs.declared.op.BranchSumOp.{BranchSumOp}
use Rattle.lg_op.specs.declared.op.LastOperand.{LastOperand}
use Rattle.lg_op.specs.declared.op.LastOperand.TheVariants as last_operand
use Rattle.lg_op.specs.declared.op.Op.TheVariants as op
use Rattle.lg_op.specs.declared.operand.Label.{Label}
use Rattle.lg_op.specs.declared.operand.Operand.{Operand}
use Rattle.lg_op.specs.declared.operand.Operand.TheVariants as operand
use Rattle.lg_op.specs.declared.operand.Reg.{Reg}
use Rattle.lg_op.specs.declared.operand.Reg.TheVariants.{R0, R1, R2, V0, V1, V2, Fp}
use Rattle.lg_op.specs.declared.node.Node.{Node}
use Rattle.lg_node.specs.declared.place.Place.TheVariants as place
use Rattle.lg_op.specs.Operators.{branch_sum_value, branch_sum_goes}
use Rattle.lg_live.specs.Uses.{is_written}
use Rattle.lg_live.specs.Registers.{is_same}
use Rattle.lg_live.specs.declared.uses.Access.TheVariants.{Read}
use Rattle.lg_op.specs.Operands.{number_of}
use Rattle.lg_meaning.specs.States.{Frame, State, reg, value}
use Rattle.lg_meaning.specs.Steps.{Goes, Undefined, need, branch, with_word, with_reg, to, node_in, node_of_label}
use Rattle.lg_meaning.specs.Texts.{text, step_at, step}
use Rattle.lg_temp.specs.Abis.{register_of}
use Rattle.lg_carry.specs.FinalNodes.{Code, is_inside, function_at}
use Rattle.lg_carry.specs.Carries.{Leads, moves_at}
use Rattle.lg_carry.specs.NodeCode.{numbered, live_before, live_behind}
use Rattle.lg_carry.specs.Passages.{IsNodeCode}
use Rattle.lg_carry.specs.Rows.{Rows}
use Rattle.lg_carry.specs.Stands.{Stands}
use Rattle.lg_carry.specs.Spills.{with_register}
use Rattle.lg_carry.proofs.RegistersApartLemmas.{conventions-apart}
use Rattle.lg_carry.specs.Nodes.Isas.{IsIsa}
use Rattle.lg_carry.specs.Nodes.Leaps.{HasPlaces, IsThere, second_word, last_of, IsSecond}
use Rattle.lg_sel.specs.Control.SumBranches.{SumBranchesLead, sum_branch_node, SumBranchesCarry}
use Rattle.lg_carry.specs.TextNodes.{IsInText, IsFrameOf}
use Rattle.lg_carry.specs.Nodes.Stretches.{behind, Way}
use Rattle.lg_carry.proofs.OfNodes.HomesLemmas.{next-function}
use Rattle.lg_carry.proofs.OfNodes.LeapLemmas.{bound-at, Lands, jump-lands, in-some, after-prolog, next-inside, in-nodes, node-stands, to-label, there-after}
use Rattle.lg_carry.proofs.OfNodes.LeapLemmas.{way-leads}
use Rattle.lg_carry.proofs.OfNodes.LiveLemmas.{still-live}
use Rattle.lg_carry.proofs.OfNodes.OperandLemmas.{named-here, named-later, read-is-live}
use Rattle.lg_carry.proofs.OfNodes.RegisterLemmas.{given, stands-for, number-few, only-number}
use Rattle.lg_carry.proofs.OfNodes.StraightLemmas.{text-keeps, frame-held}

-- ---- the operand that is changed
-- it is a register, and not FP
updated : (a : Reg) (b : Bool) → (admits form.Update (operand.Reg a) && b) ≡ true → a ≢ Fp
updated Fp b h = cc
updated a b h = λ z. cc

or-false : (x : Bool) → ((x || false) || false) ≡ x
or-false true = refl
or-false false = refl

written-register : (l : Label) (a : Reg) (third : Operand) (line : ℕ) (o : BranchSumOp) (last : LastOperand) (r : Reg)
    → is_written record { op = op.BranchSum o last; operands = operand.Label l ∷ operand.Reg a ∷ third ∷ []; line = line } r ≡ is_same a r
written-register l a third line o last_operand.Register r = or-false (is_same a r)
written-register l a third line o last_operand.Immediate r = or-false (is_same a r)

-- and no other register is written
only-written : (l : Label) (a : Reg) (third : Operand) (line : ℕ) (o : BranchSumOp) (last : LastOperand) (r : ℕ)
    → numbered (is_written record { op = op.BranchSum o last; operands = operand.Label l ∷ operand.Reg a ∷ third ∷ []; line = line }) r ≡ numbered (is_same a) r
only-written l a third line o last zero = written-register l a third line o last R0
only-written l a third line o last (suc zero) = written-register l a third line o last R1
only-written l a third line o last (suc (suc zero)) = written-register l a third line o last R2
only-written l a third line o last (suc (suc (suc zero))) = written-register l a third line o last V0
only-written l a third line o last (suc (suc (suc (suc zero)))) = written-register l a third line o last V1
only-written l a third line o last (suc (suc (suc (suc (suc zero))))) = written-register l a third line o last V2
only-written l a third line o last (suc (suc (suc (suc (suc (suc r)))))) = refl

word-written : (f : ℕ → Option ℕ) (d v r w : ℕ) → with_word f d v r ≡ Some w → ((r ≡ d) × (v ≡ w)) ⊎ ((r ≢ d) × (f r ≡ Some w))
word-written f d v r w e = grind arith

register-same : (w : ℕ → ℕ) (r v : ℕ) → with_register w r v r ≡ v
register-same w r v = grind arith

register-other : (w : ℕ → ℕ) (r v x : ℕ) → x ≢ r → with_register w r v x ≡ w x
register-other w r v x ne = grind (arith, ne)

module _ {Q I : Type 0} (R : Rows Q I) (scratch : ℕ → Bool) (fits : I → Type 0) (isa : IsIsa R scratch fits)
    (code : ℕ → BranchSumOp → Reg → Operand → ℕ → ℕ → List I) (lead : SumBranchesLead R scratch fits code)
    (c : Code) (i : ℕ) (o : BranchSumOp) (l : Label) (a : Reg) (third : Operand) (line frame : ℕ) (S : ℕ → Bool) (second : IsSecond third) (w : HasPlaces R c)
    (t : IsInText c i (sum_branch_node o l a third line)) (is-frame : IsFrameOf c i frame)
    (k : IsNodeCode R fits c i (code frame o a third (c.place i) (slice_index c.addresses l.0))) where
  abbrev n : Node
  n = sum_branch_node o l a third line

  abbrev is : List I
  is = code frame o a third (c.place i) (slice_index c.addresses l.0)

  abbrev high : ℕ
  high = behind R (c.place i) is

  abbrev target : Target
  target = R.processor.target

  live-a : a ≢ Fp → live_before n S (number_of a) ≡ true
  live-a ne = read-is-live n S a (λ z. named-later Read form.Target (form.Update ∷ last_form (last_of third) ∷ []) a (operand.Label l)
      (operand.Reg a ∷ third ∷ []) (named-here Read form.Update (last_form (last_of third) ∷ []) a (third ∷ []) refl z)) ne

  live-b : (b : Reg) → third ≡ operand.Reg b → b ≢ Fp → live_before n S (number_of b) ≡ true
  live-b b e ne = subst (λ x. live_before (sum_branch_node o l a x line) S (number_of b) ≡ true) (sym e)
      (read-is-live (sum_branch_node o l a (operand.Reg b) line) S b
      (λ z. named-later Read form.Target (form.Update ∷ form.Read ∷ []) b (operand.Label l) (operand.Reg a ∷ operand.Reg b ∷ [])
      (named-later Read form.Update (form.Read ∷ []) b (operand.Reg a) (operand.Reg b ∷ []) (named-here Read form.Read [] b [] refl z))) ne)

  named : a ≢ Fp
  named = updated a (admit (last_form (last_of third) ∷ []) (third ∷ [])) (t.formed n t.here).forms

  number-small : number_of a < 6
  number-small = number-few a named

  unwritten-other : (r : ℕ) → r ≢ number_of a → numbered (is_written n) r ≡ false
  unwritten-other r ne = by (numbered (is_same a) r) refl
    where
      by : (x : Bool) → numbered (is_same a) r ≡ x → numbered (is_written n) r ≡ false
      by true e = absurd (ne (only-number a r e))
      by false e = only-written l a third line o (last_of third) r ∙ e

  inside : is_inside c i ≡ true
  inside = let p = in-some c i n t refl in after-prolog c i n t p.0 p.1 refl

  lands : Lands c i l
  lands = jump-lands c i n t l (λ p e. after-prolog c i n t p e refl) (t.well.jumps i n l (operand.Reg a ∷ third ∷ []) t.here refl refl)

  module _ (live : Frame → ℕ → Bool) (s : State) (out : List ℕ) (q : Q) (at : s.at ≡ i) (st : Stands R.processor c live s out q (live_before n S)) where
    abbrev W : ℕ → ℕ
    W = (R.processor.seen q).registers

    abbrev ra : ℕ
    ra = register_of target a

    stands : ra ≡ portable_register target (number_of a)
    stands = stands-for target a named

    before : is_inside c s.at ≡ true
    before = ap (is_inside c) at ∙ inside

    here : (R.processor.seen q).pc ≡ c.place i
    here = st.state.here ∙ ap c.place at

    held : (x : ℕ) → reg s a ≡ Some x → W (register_of target a) ≡ x
    held x e = given target c live s (R.processor.seen q) (live_before n S) a x st.state before live-a e

    place-next : c.place (i + 1) ≡ high
    place-next = k.next

    -- after the node the register holds the sum, and the others what they held
    goes-to : (v j : ℕ) → is_inside c j ≡ true → function_at c j ≡ function_at c i → step c.nodes c.shape c.addresses s ≡ Goes (to (with_reg s (operand.Reg a) v) j) []
        → Way R.processor scratch (c.place i) high (with_register W ra v) (c.place j) q
        → Leads R.processor c live (live_behind live n S s) i (step c.nodes c.shape c.addresses s) out q
    goes-to v j side level goes' way =
        let conv = conventions-apart target in
        way-leads R scratch fits isa c i n t high place-next (live_before n S) S record { moves = refl; sinks = refl; rises = refl } inside live s out q at st (with_word s.regs (number_of a) v)
        (with_register W ra v)
        record {
          is = λ z u lt e g. ⊎_elim
              (λ same. ap (λ m. with_register W ra v (portable_register target m)) same.0 ∙ ap (with_register W ra v) (sym stands) ∙ register-same W ra v
              ∙ same.1)
              (λ other. register-other W ra v (portable_register target z) (λ y. other.0 (conv.portable z (number_of a) lt number-small (y ∙ stands)))
              ∙ st.state.registers.is z u lt (still-live n S z (unwritten-other z other.0) e) other.1)
              (word-written s.regs (number_of a) v z u g);
        }
        record {
          is = λ m u lt e. register-other W ra v (slice_index (argument_registers target) m) (λ y. conv.both (number_of a) m number-small lt (sym (y ∙ stands)))
              ∙ st.state.pushed.is m u lt e;
        }
        (register-other W ra v (frame_register target) (λ y. conv.portable_pointer (number_of a) number-small (sym (y ∙ stands))))
        (register-other W ra v (stack_register target) (λ y. conv.portable_stack (number_of a) number-small (sym (y ∙ stands)))) j side level goes' way

    taken : (x y : ℕ) → W ra ≡ x → x < 2 ^ 64 → second_word target W third ≡ Some y → y < 2 ^ 64
        → step c.nodes c.shape c.addresses s ≡ Goes (to (with_reg s (operand.Reg a) (branch_sum_value o x y))
        (if branch_sum_goes o x y then node_of_label c.nodes.places (operand.Label l) else s.at + 1)) []
        → Leads R.processor c live (live_behind live n S s) i (step c.nodes c.shape c.addresses s) out q
    taken x y ea near eb small goes' = by (branch_sum_goes o x y) refl
      where
        next : IsThere R.is_place high
        next = there-after R fits isa.rows c w i is (in-nodes c i n t) k

        way : (branch_sum_goes o x y ≡ true → IsThere R.is_place (slice_index c.addresses l.0))
            → Way R.processor scratch (c.place i) high (with_register W ra (branch_sum_value o x y))
            (if branch_sum_goes o x y then slice_index c.addresses l.0 else high) q
        way at-label = lead frame o a third x y (c.place i) (slice_index c.addresses l.0) q
            (frame-held target c i live s (R.processor.seen q) (live_before n S) at before st.state frame is-frame)
            (node-stands R false fits c i is (ap (moves_at target) t.here) k) at-label next st.runs here named ea near eb small

        bound : slice_index c.addresses l.0 ≡ c.place lands.node
        bound = w.nodes.bound l.0 lands.node (bound-at c.nodes.places l (place.Node lands.node) lands.place)

        jumps : branch_sum_goes o x y ≡ true → step c.nodes c.shape c.addresses s ≡ Goes
            (to (with_reg s (operand.Reg a) (branch_sum_value o x y)) lands.node) []
            → Leads R.processor c live (live_behind live n S s) i (step c.nodes c.shape c.addresses s) out q
        jumps e goes'' =
            let within = (text-keeps c i n t s (to (with_reg s (operand.Reg a) (branch_sum_value o x y)) lands.node) [] at
            (omega (arith, st.state.seen.low, st.state.mark)) (omega (arith, st.state.seen.high, st.state.mark)) st.state.fits goes'').inside in
            let at-label : IsThere R.is_place (slice_index c.addresses l.0) = to-label R c w l lands.node lands.place (omega (arith, within)) in
            goes-to (branch_sum_value o x y) lands.node (lands.side ∙ inside) (lands.level inside) goes''
            (subst (λ z. Way R.processor scratch (c.place i) high (with_register W ra (branch_sum_value o x y)) z q)
            (ap (λ b. if b then slice_index c.addresses l.0 else high) e ∙ bound) (way (λ z. at-label)))

        by : (b : Bool) → branch_sum_goes o x y ≡ b → Leads R.processor c live (live_behind live n S s) i (step c.nodes c.shape c.addresses s) out q
        by true e = jumps e (goes' ∙ ap (λ b. Goes (to (with_reg s (operand.Reg a) (branch_sum_value o x y))
            (if b then node_of_label c.nodes.places (operand.Label l) else s.at + 1)) []) e
            ∙ ap (λ z. Goes (to (with_reg s (operand.Reg a) (branch_sum_value o x y)) z) []) (ap node_in lands.place))
        by false e =
            let z : s.at + 1 ≡ i + 1 = ap (λ j. j + 1) at in
            goes-to (branch_sum_value o x y) (s.at + 1) (ap (is_inside c) z ∙ (let p = in-some c i n t refl in next-inside c i n t p.0 p.1 refl))
            (ap (function_at c) z ∙ next-function c i n t inside refl)
            (goes' ∙ ap (λ b. Goes (to (with_reg s (operand.Reg a) (branch_sum_value o x y))
            (if b then node_of_label c.nodes.places (operand.Label l) else s.at + 1)) []) e)
            (subst (λ u. Way R.processor scratch (c.place i) high (with_register W ra (branch_sum_value o x y)) u q)
            (ap (λ b. if b then slice_index c.addresses l.0 else high) e ∙ sym place-next ∙ ap c.place (sym z)) (way (λ f. absurd (differ e f))))
          where
            differ : {b : Bool} → b ≡ false → b ≡ true → ⊥
            differ e f = cc

    -- the word of the second operand
    second-is : (x : Operand) → third ≡ x → IsSecond x → (y : ℕ) → value c.addresses s x ≡ Some y → (second_word target W x ≡ Some y) × (y < 2 ^ 64)
    second-is (operand.Reg b) e h y ey = let g = given target c live s (R.processor.seen q) (live_before n S) b y st.state before (live-b b e) ey in
        (ap Some g, subst (λ z. z < 2 ^ 64) g (st.state.seen.words (register_of target b)))
    second-is (operand.Number v) e h y ey = let z : h.0 ≡ y = cc in (ey, subst (λ u. u < 2 ^ 64) z h.2)
    second-is (operand.Host name) e h y ey = let f = h.1 in let z : h.0 ≡ y = cc in (ey, subst (λ u. u < 2 ^ 64) z h.2)
    second-is (operand.Label m) e h y ey = let f = h.1 in cc
    second-is (operand.Slot m) e h y ey = let f = h.1 in cc

    pub sum-branch-leads : (step c.nodes c.shape c.addresses s ≡ Undefined)
        ⊎ Leads R.processor c live (live_behind live n S s) i (step c.nodes c.shape c.addresses s) out q
    sum-branch-leads = by (reg s a) (value c.addresses s third) refl refl
      where
        stepped : step c.nodes c.shape c.addresses s ≡ need (reg s a)
            (λ x. need (value c.addresses s third) (λ y. branch (branch_sum_goes o x y) c.nodes.places (with_reg s (operand.Reg a) (branch_sum_value o x y))
            (operand.Label l)))
        stepped = ap (λ m. step_at (text c.nodes c.shape c.addresses) m s) (ap (slice_get c.nodes.nodes) at ∙ t.here)

        by : (oa ob : Option ℕ) → reg s a ≡ oa → value c.addresses s third ≡ ob → (step c.nodes c.shape c.addresses s ≡ Undefined)
            ⊎ Leads R.processor c live (live_behind live n S s) i (step c.nodes c.shape c.addresses s) out q
        by None ob ea eb = inl (stepped ∙ ap (λ z. need z
            (λ x. need (value c.addresses s third) (λ y. branch (branch_sum_goes o x y) c.nodes.places (with_reg s (operand.Reg a) (branch_sum_value o x y))
            (operand.Label l)))) ea)
        by (Some x) None ea eb = inl (stepped ∙ ap (λ z. need z
            (λ x. need (value c.addresses s third) (λ y. branch (branch_sum_goes o x y) c.nodes.places (with_reg s (operand.Reg a) (branch_sum_value o x y))
            (operand.Label l)))) ea ∙ ap (λ z. need z (λ y. branch (branch_sum_goes o x y) c.nodes.places (with_reg s (operand.Reg a) (branch_sum_value o x y))
            (operand.Label l))) eb)
        by (Some x) (Some y) ea eb =
            let g = second-is third refl second y eb in
            inr (taken x y (held x ea) (subst (λ z. z < 2 ^ 64) (held x ea) (st.state.seen.words ra)) g.0 g.1
            (stepped ∙ ap (λ z. need z (λ x. need (value c.addresses s third)
            (λ y. branch (branch_sum_goes o x y) c.nodes.places (with_reg s (operand.Reg a) (branch_sum_value o x y)) (operand.Label l)))) ea
            ∙ ap (λ z. need z (λ y. branch (branch_sum_goes o x y) c.nodes.places (with_reg s (operand.Reg a) (branch_sum_value o x y)) (operand.Label l)))
            eb))

pub sum-branches-carry : {Q I : Type 0} (R : Rows Q I) (scratch : ℕ → Bool) (fits : I → Type 0) → IsIsa R scratch fits
    → (code : ℕ → BranchSumOp → Reg → Operand → ℕ → ℕ → List I) → SumBranchesLead R scratch fits code → SumBranchesCarry R scratch fits code
sum-branches-carry R scratch fits isa code lead c i o l a x line frame S second w t is-frame k live s returns out q at st =
    sum-branch-leads R scratch fits isa code lead c i o l a x line frame S second w t is-frame k live s out q at st
