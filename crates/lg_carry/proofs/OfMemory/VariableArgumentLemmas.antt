-- A node that reads the next variable argument of its function is carried.
use Rattle.std.proofs.Common.{◌≡◌, ◌≢◌, ℕ, ◌+◌, ◌%◌, ◌<◌, ◌⊎◌, inl, Bool, true, false, List, [], ◌∷◌, Option, Some, None, refl, sym, ap, ◌∙◌, arith, subst}
use Rattle.std.specs.Prelude.{◌==◌, ◌||◌, slice_get}
use Rattle.std.proofs.lemmas.Option.{slice_get_within}
use Rattle.std.proofs.lemmas.Bool.{or_left}
use Rattle.lg_base.specs.Layout.{frame_pointer}
use Rattle.lg_base.specs.declared.target.Target.{Target}
use Rattle.lg_op.specs.Forms.{admit, forms_of}
use Rattle.lg_op.specs.Nodes.{IsApart}
use Rattle.lg_op.specs.declared.form.Form.TheVariants as form
use Rattle.lg_op.specs.declared.node.Node.{Node}
use Rattle.lg_op.specs.declared.op.Op.TheVariants as op
use Rattle.lg_op.specs.declared.op.PlainOp.TheVariants as plain
use Rattle.lg_op.specs.declared.operand.Operand.TheVariants as operand
use Rattle.lg_op.specs.declared.operand.Reg.{Reg}
use Rattle.lg_op.specs.declared.operand.Reg.TheVariants.{Fp}
use Rattle.lg_live.specs.Registers.{is_same}
use Rattle.lg_live.specs.Uses.{is_written}
use Rattle.lg_meaning.specs.States.{Frame, State, reg}
use Rattle.lg_meaning.specs.Steps.{Outcome, Undefined, need, quiet, on, with_reg}
use Rattle.lg_meaning.specs.Texts.{step}
use Rattle.lg_temp.specs.Abis.{register_of}
use Rattle.lg_carry.specs.Carries.{Leads}
use Rattle.lg_carry.specs.FinalNodes.{Code}
use Rattle.lg_carry.specs.NodeBlocks.{IsNodeBlock}
use Rattle.lg_carry.specs.NodeCode.{live_before, live_behind, CarriesNode}
use Rattle.lg_carry.specs.Registers.{HasWord}
use Rattle.lg_carry.specs.Rows.{Rows}
use Rattle.lg_carry.specs.Spills.{Does, with_register}
use Rattle.lg_carry.specs.Stands.{Stands}
use Rattle.lg_carry.specs.TextNodes.{IsInText, IsFrameOf}
use Rattle.lg_carry.proofs.WordLemmas.{loaded-same}
use Rattle.lg_carry.specs.Nodes.Isas.{IsIsa}
use Rattle.lg_carry.specs.Nodes.Straight.{spoils, from_to, HoldsRead, StepsTo}
use Rattle.lg_carry.proofs.OfNodes.RegisterLemmas.{same-self}
use Rattle.lg_carry.proofs.OfNodes.StraightLemmas.{none-harmless, computes}
use Rattle.lg_carry.specs.Values.Values.{HoldsPair}
use Rattle.lg_carry.proofs.OfValues.TwoResultLemmas.{registers-apart, writes-first, writes-second, holds-two}
use Rattle.lg_carry.specs.Memory.Arguments.{argument_place}
use Rattle.lg_carry.specs.Memory.Loads.{IsReadable}
use Rattle.lg_carry.specs.Memory.VariableArguments.{NextArgumentCode, LeavesBoth, NextArgumentsDo, HasNextArgumentCode, next_argument_of, NextArgumentsCarry}
use Rattle.lg_carry.proofs.OfMemory.ArgumentPlaceLemmas as place
use Rattle.lg_carry.proofs.OfMemory.ArgumentPlaceLemmas.{reads-held, same-end, stands-there, argument-small, args-few, place-above}
use Rattle.lg_carry.proofs.OfMemory.FormLemmas.{nothing-left, starts-written, starts-updated}
use Rattle.lg_carry.proofs.OfMemory.ReadLemmas.{or-false, with_op, stepped}
use Rattle.lg_carry.proofs.OfMemory.WriteLemmas.{with-same, with-other}

whole : (a : ℕ) → a % 8 ≡ 0 → (a % 8 == 0) ≡ true
whole a e = grind (arith, e)

module _ {Q I : Type 0} (R : Rows Q I) (scratch : ℕ → Bool) (fits : I → Type 0) (isa : IsIsa R scratch fits) (code : NextArgumentCode I) (lead : NextArgumentsDo R scratch code)
    (some : HasNextArgumentCode R code) (c : Code) (i : ℕ) (frame : ℕ) (is-frame : IsFrameOf c i frame) (S : ℕ → Bool) (line : ℕ) (d e : Reg) (nd : d ≢ Fp) (ne : e ≢ Fp) (apart : d ≢ e) where
  abbrev n : Node
  n = record { op = op.Plain plain.VaArg; operands = operand.Reg d ∷ operand.Reg e ∷ []; line = line }

  abbrev target : Target
  target = R.processor.target

  -- the argument, and the number of the next one
  abbrev to : State → ℕ → ℕ → State
  to s k v = on (with_reg (with_reg s (operand.Reg d) v) (operand.Reg e) (k + 1))

  abbrev with-number : State → Option ℕ → Outcome
  with-number s o = need o (λ k. need (slice_get s.frame.args k) (λ v. quiet (to s k v)))

  abbrev with-word : State → ℕ → Option ℕ → Outcome
  with-word s k o = need o (λ v. quiet (to s k v))

  step-so : IsInText c i n → (s : State) → s.at ≡ i → step c.nodes c.shape c.addresses s ≡ with-number s (reg s e)
  step-so x s at = stepped c i n s x at

  writes : (q : Reg) → is_written n q ≡ (is_same e q || is_same d q)
  writes q = or-false (is_same e q || is_same d q)

  module _ (x : IsInText c i n) (y : IsNodeBlock R fits c i (code d e)) where
    module _ (frames : Frame → ℕ → Bool) (s : State) (out : List ℕ) (q : Q) (at : s.at ≡ i) (st : Stands R.processor c frames s out q (live_before n S)) where
      abbrev w : ℕ → ℕ
      w = (R.processor.seen q).registers

      reads : HoldsRead target n frame s (R.processor.seen q)
      reads = reads-held R scratch fits isa c i n refl refl frame is-frame S (code d e) (some d e) x y frames s out q at st

      number-there : (k : ℕ) → reg s e ≡ Some k → w (register_of target e) ≡ k
      number-there k held = reads.registers e k (λ z. or_left (is_same e e) false (same-self e z)) held

      module _ (k v : ℕ) (held : reg s e ≡ Some k) (given : slice_get s.frame.args k ≡ Some v) where
        abbrev a : ℕ
        a = argument_place target s.frame.sp k

        few : k < 16
        few =
            let lt = slice_get_within s.frame.args k v given in
            let most = args-few R scratch fits isa c i n refl refl frame is-frame S (code d e) (some d e) x y frames s out q at st in
            omega (arith, lt, most)

        there : HasWord (R.processor.seen q).bytes a v × place.IsApart s.frame.sp a
        there = stands-there R scratch fits isa c i n refl refl frame is-frame S (code d e) (some d e) x y frames s out q at st k v few given

        readable : IsReadable (R.processor.seen q) (frame_pointer s.frame.sp) a 8 v
        readable m same = loaded-same (R.processor.seen q).bytes m a 8 (λ j le lt. same j (there.1.off j le lt)) ∙ there.0

        both : LeavesBoth R scratch d e v (k + 1) q (code d e)
        both = lead frame d e q k a v nd ne apart few reads.in_frame (number-there k held)
            (ap (λ z. argument_place target z k) (same-end R scratch fits isa c i n refl refl frame is-frame S (code d e) (some d e) x y frames s out q at st)) (whole a there.1.whole)
            (subst (λ p. IsReadable (R.processor.seen q) p a 8 v) (sym reads.pointer) readable)
            (place-above R scratch fits isa c i n refl refl frame is-frame S (code d e) (some d e) x y frames s out q at st k)
            (argument-small R scratch fits isa c i n refl refl frame is-frame S (code d e) (some d e) x y frames s out q at st k v few given)

        abbrev end : ℕ → ℕ
        end = with_register (with_register w (register_of target d) v) (register_of target e) (k + 1)

        pair : HoldsPair (register_of target d) (register_of target e) (v, k + 1) end
        pair = record {
          first = with-other (with_register w (register_of target d) v) (register_of target e) (k + 1) (register_of target d) (registers-apart target d e nd ne apart)
              ∙ with-same w (register_of target d) v;
          second = with-same (with_register w (register_of target d) v) (register_of target e) (k + 1);
        }

        steps-to : StepsTo R scratch c n [] (code d e) s (R.processor.seen q)
        steps-to =
            let two = holds-two target n d e nd ne apart writes s (to s k v) (v, k + 1) end refl pair in
            record {
              to = to s k v;
              goes = step-so x s at ∙ ap (with-number s) held ∙ ap (with-word s k) given;
              on = record { at = refl; frame = refl; callers = refl; pushed = refl; mem = refl; mark = refl; data_size = refl; args_size = refl; answer = refl };
              end = end;
              flags = both.flags;
              does = subst (λ p. Does R (from_to (R.processor.seen q) end (R.processor.seen q).bytes both.flags) (code d e) p 0 (spoils scratch [])) reads.pointer both.does;
              keeps = λ z kept.
                  with-other (with_register w (register_of target d) v) (register_of target e) (k + 1) z (kept.written e ne (writes-second target n d e nd ne apart writes))
                  ∙ with-other w (register_of target d) v z (kept.written d nd (writes-first target n d e nd ne apart writes));
              holds = record { written = two.0; others = two.1; carry = tt };
            }

        goes-there : (step c.nodes c.shape c.addresses s ≡ Undefined) ⊎ Leads R.processor c frames (live_behind frames n S s) i (step c.nodes c.shape c.addresses s) out q
        goes-there = computes R scratch fits isa c i n S [] (code d e) refl refl x y (none-harmless R scratch fits isa c i n S) frames s q at st.runs st.state steps-to out st.wrote

    pub next-argument-carried : CarriesNode R.processor c i n S
    next-argument-carried frames s returns out q at st = by (reg s e) refl
      where
        given : (k : ℕ) → reg s e ≡ Some k → (o : Option ℕ) → slice_get s.frame.args k ≡ o
            → (step c.nodes c.shape c.addresses s ≡ Undefined) ⊎ Leads R.processor c frames (live_behind frames n S s) i (step c.nodes c.shape c.addresses s) out q
        given k held None z = inl (step-so x s at ∙ ap (with-number s) held ∙ ap (with-word s k) z)
        given k held (Some v) z = goes-there frames s out q at st k v held z

        by : (o : Option ℕ) → reg s e ≡ o → (step c.nodes c.shape c.addresses s ≡ Undefined) ⊎ Leads R.processor c frames (live_behind frames n S s) i (step c.nodes c.shape c.addresses s) out q
        by None z = inl (step-so x s at ∙ ap (with-number s) z)
        by (Some k) z = given k z (slice_get s.frame.args k) refl

abbrev IsCarried : {Q I : Type 0} → Rows Q I → (I → Type 0) → Code → ℕ → (ℕ → Bool) → (Node → List I) → Node → Type 0
IsCarried R fits c i S code m = IsInText c i m → IsNodeBlock R fits c i (code m) → CarriesNode R.processor c i m S

differ : (d e : Reg) → operand.Reg d ≢ operand.Reg e → d ≢ e
differ d e ne = λ z. ne (ap operand.Reg z)

pub next-arguments-carry : {Q I : Type 0} (R : Rows Q I) (scratch : ℕ → Bool) (fits : I → Type 0) → IsIsa R scratch fits → (code : NextArgumentCode I) → NextArgumentsDo R scratch code
    → HasNextArgumentCode R code → NextArgumentsCarry R fits code
next-arguments-carry R scratch fits isa code lead some c i n frame S is-op x is-frame y = subst (IsCarried R fits c i S (next_argument_of code)) (ap (with_op n) (sym is-op)) with-op x y
  where
    formed : admit (forms_of (op.Plain plain.VaArg)) n.operands ≡ true
    formed = ap (λ o. admit (forms_of o) n.operands) (sym is-op) ∙ (x.formed n x.here).forms

    kept : IsApart (op.Plain plain.VaArg) n.operands
    kept = subst (λ o. IsApart o n.operands) is-op (x.formed n x.here).apart

    with-op : IsCarried R fits c i S (next_argument_of code) (with_op n (op.Plain plain.VaArg))
    with-op =
        let d = starts-written (form.Update ∷ []) n.operands formed in
        let e = starts-updated [] d.rest d.admitted in
        let xs-are : n.operands ≡ operand.Reg d.register ∷ operand.Reg e.register ∷ [] =
        d.is ∙ ap (λ ys. operand.Reg d.register ∷ ys) (e.is ∙ ap (λ ys. operand.Reg e.register ∷ ys) (nothing-left e.rest e.admitted)) in
        let apart : d.register ≢ e.register = differ d.register e.register (subst (λ ys. IsApart (op.Plain plain.VaArg) ys) xs-are kept) in
        subst (λ xs. IsCarried R fits c i S (next_argument_of code) record { op = op.Plain plain.VaArg; operands = xs; line = n.line }) (sym xs-are)
        (next-argument-carried R scratch fits isa code lead some c i frame is-frame S n.line d.register e.register d.named e.named apart)
