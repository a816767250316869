-- A node that reads an argument of its function is carried.
use Rattle.std.proofs.Common.{◌≡◌, ◌≢◌, ℕ, suc, ◌%◌, ◌^◌, ◌<◌, ◌≤◌, ◌⊎◌, inl, Bool, true, false, List, [], ◌∷◌, Option, Some, None, refl, sym, ap, ◌∙◌, arith, subst, length}
use Rattle.std.specs.Prelude.{◌==◌, nat_lt, if◌then◌else◌, slice_get}
use Rattle.std.proofs.lemmas.Option.{slice_get_within}
use Rattle.lg_base.specs.Layout.{frame_pointer}
use Rattle.lg_base.specs.declared.target.Target.{Target}
use Rattle.lg_op.specs.Forms.{admit, forms_of}
use Rattle.lg_op.specs.declared.form.Form.TheVariants as form
use Rattle.lg_op.specs.declared.node.Node.{Node}
use Rattle.lg_op.specs.declared.op.Op.TheVariants as op
use Rattle.lg_op.specs.declared.op.ValueType.{ValueType}
use Rattle.lg_op.specs.declared.op.ValueType.TheVariants as value_type
use Rattle.lg_op.specs.declared.operand.Operand.TheVariants as operand
use Rattle.lg_op.specs.declared.operand.Reg.{Reg}
use Rattle.lg_op.specs.declared.operand.Reg.TheVariants.{Fp}
use Rattle.lg_live.specs.Registers.{is_same}
use Rattle.lg_live.specs.Uses.{is_written}
use Rattle.lg_op.specs.Operators.{width, extended_by_type}
use Rattle.lg_meaning.specs.States.{Frame, State}
use Rattle.lg_meaning.specs.Steps.{Undefined, need, on, with_reg, operate}
use Rattle.lg_meaning.specs.Texts.{step}
use Rattle.lg_temp.specs.Abis.{register_of}
use Rattle.lg_carry.specs.Carries.{Leads}
use Rattle.lg_carry.specs.FinalNodes.{Code}
use Rattle.lg_carry.specs.Homes.{homes_to}
use Rattle.lg_carry.specs.NodeBlocks.{IsNodeBlock}
use Rattle.lg_carry.specs.NodeCode.{live_before, live_behind, CarriesNode}
use Rattle.lg_carry.specs.Registers.{HasWord}
use Rattle.lg_carry.specs.Rows.{Rows}
use Rattle.lg_carry.specs.Spills.{Does, with_register}
use Rattle.lg_carry.specs.Stands.{Stands}
use Rattle.lg_carry.specs.TextNodes.{IsInText, IsFrameOf}
use Rattle.lg_carry.proofs.StackLemmas.{few-arguments}
use Rattle.lg_carry.proofs.TextShapeLemmas.{shaped}
use Rattle.lg_carry.proofs.WordLemmas.{loaded-same}
use Rattle.lg_carry.specs.Nodes.Isas.{IsIsa}
use Rattle.lg_carry.specs.Nodes.Straight.{spoils, from_to, HoldsRead, StepsTo}
use Rattle.lg_carry.proofs.OfNodes.StraightLemmas.{AreHarmless, none-harmless, computes}
use Rattle.lg_carry.specs.Memory.Arguments.{ArgumentCode, argument_place, ArgumentsDo, HasArgumentCode, argument_of, ArgumentsCarry}
use Rattle.lg_carry.specs.Memory.Loads.{IsReadable}
use Rattle.lg_carry.proofs.OfMemory.ArgumentPlaceLemmas.{IsApart, reads-held, same-end, stands-there, argument-small, place-above}
use Rattle.lg_carry.proofs.OfMemory.FormLemmas.{nothing-left, starts-written, starts-argument}
use Rattle.lg_carry.proofs.OfMemory.PartLemmas.{width-few, part-loaded, part-less, typed-part}
use Rattle.lg_carry.proofs.OfMemory.ReadLemmas.{numbered-same, or-false, with_op, stepped}
use Rattle.lg_carry.proofs.OfMemory.WriteLemmas.{writes-word}

width-whole : (a : ℕ) (t : ValueType) → a % 8 ≡ 0 → (a % width t == 0) ≡ true
width-whole a value_type.Char e = grind (arith, e)
width-whole a _ e = grind (arith, e)

-- the home of an argument that is named is read
named-read : (k : ℕ) → k < 16 → k < homes_to k
named-read k few = by (nat_lt k 16) refl
  where
    by : (b : Bool) → nat_lt k 16 ≡ b → k < (if b then suc k else 0)
    by true e = omega arith
    by false e = let ge : 16 ≤ k = grind (arith, e) in absurd (omega (arith, few, ge))

-- ---- the node
module _ {Q I : Type 0} (R : Rows Q I) (scratch : ℕ → Bool) (fits : I → Type 0) (isa : IsIsa R scratch fits) (code : ArgumentCode I) (lead : ArgumentsDo R scratch code) (some : HasArgumentCode R code)
    (c : Code) (i : ℕ) (t : ValueType) (frame : ℕ) (is-frame : IsFrameOf c i frame) (S : ℕ → Bool) (line : ℕ) (d : Reg) (named : d ≢ Fp) (k : ℕ) where
  abbrev n : Node
  n = record { op = op.Getarg t; operands = operand.Reg d ∷ operand.Slot k ∷ []; line = line }

  abbrev target : Target
  target = R.processor.target

  steps-so : IsInText c i n → (s : State) → s.at ≡ i → step c.nodes c.shape c.addresses s ≡ need (slice_get s.frame.args k) (λ v. operate s (operand.Reg d) (Some (extended_by_type t v)))
  steps-so x s at = stepped c i n s x at

  module _ (few : k < 16) (x : IsInText c i n) (y : IsNodeBlock R fits c i (code frame t d k)) where
    abbrev is : List I
    is = code frame t d k

    h : AreHarmless R c i n S []
    h = none-harmless R scratch fits isa c i n S

    module _ (frames : Frame → ℕ → Bool) (s : State) (out : List ℕ) (q : Q) (at : s.at ≡ i) (st : Stands R.processor c frames s out q (live_before n S)) (v : ℕ) (given : slice_get s.frame.args k ≡ Some v) where
      abbrev w : ℕ → ℕ
      w = (R.processor.seen q).registers

      reads : HoldsRead target n frame s (R.processor.seen q)
      reads = reads-held R scratch fits isa c i n refl refl frame is-frame S is (some frame t d k few) x y frames s out q at st

      abbrev a : ℕ
      a = argument_place target s.frame.sp k

      there : HasWord (R.processor.seen q).bytes a v × IsApart s.frame.sp a
      there = stands-there R scratch fits isa c i n refl refl frame is-frame S is (some frame t d k few) x y frames s out q at st k v (named-read k few) given

      abbrev part : ℕ
      part = v % 256 ^ width t

      readable : IsReadable (R.processor.seen q) (frame_pointer s.frame.sp) a (width t) part
      readable m same =
          let wide = width-few t in
          loaded-same (R.processor.seen q).bytes m a (width t) (λ j le lt. same j (there.1.off j le (omega (arith, lt, wide))))
          ∙ part-loaded (R.processor.seen q).bytes a v t st.state.seen.bytes there.0

      small : v < 2 ^ 64
      small = argument-small R scratch fits isa c i n refl refl frame is-frame S is (some frame t d k few) x y frames s out q at st k v (named-read k few) given

      does : Does R (from_to (R.processor.seen q) (with_register w (register_of target d) (extended_by_type t v)) (R.processor.seen q).bytes (R.processor.seen q).flags) is (frame_pointer s.frame.sp) 0 (spoils scratch [])
      does =
          let p = reads.pointer in
          subst (λ z. Does R (from_to (R.processor.seen q) (with_register w (register_of target d) z) (R.processor.seen q).bytes (R.processor.seen q).flags) is (frame_pointer s.frame.sp) 0 (spoils scratch [])) (typed-part t v small)
          (subst (λ p'. Does R (from_to (R.processor.seen q) (with_register w (register_of target d) (extended_by_type t part)) (R.processor.seen q).bytes (R.processor.seen q).flags) is p' 0 (spoils scratch [])) p
          (lead frame t d k q a part named few reads.in_frame (ap (λ z. argument_place target z k) (same-end R scratch fits isa c i n refl refl frame is-frame S is (some frame t d k few) x y frames s out q at st)) (width-whole a t there.1.whole)
          (subst (λ p'. IsReadable (R.processor.seen q) p' a (width t) part) (sym p) readable) (λ j le lt. let wide = width-few t in place-above R scratch fits isa c i n refl refl frame is-frame S is (some frame t d k few) x y frames s out q at st k j le (omega (arith, lt, wide))) (part-less v t)))

      steps-to : StepsTo R scratch c n [] is s (R.processor.seen q)
      steps-to = writes-word R scratch c n [] is s (R.processor.seen q) d named (on (with_reg s (operand.Reg d) (extended_by_type t v))) (extended_by_type t v)
          (λ r. numbered-same (is_written n) (is_same d) (λ m. or-false (is_same d m)) r)
          (steps-so x s at ∙ ap (λ z. need z (λ y. operate s (operand.Reg d) (Some (extended_by_type t y)))) given)
          record { at = refl; frame = refl; callers = refl; pushed = refl; mem = refl; mark = refl; data_size = refl; args_size = refl; answer = refl }
          refl (λ u e. tt) does

      pub goes-there : (step c.nodes c.shape c.addresses s ≡ Undefined) ⊎ Leads R.processor c frames (live_behind frames n S s) i (step c.nodes c.shape c.addresses s) out q
      goes-there = computes R scratch fits isa c i n S [] is refl refl x y h frames s q at st.runs st.state steps-to out st.wrote

    pub getarg-carried : CarriesNode R.processor c i n S
    getarg-carried frames s returns out q at st = by (slice_get s.frame.args k) refl
      where
        by : (o : Option ℕ) → slice_get s.frame.args k ≡ o → (step c.nodes c.shape c.addresses s ≡ Undefined) ⊎ Leads R.processor c frames (live_behind frames n S s) i (step c.nodes c.shape c.addresses s) out q
        by None e = inl (steps-so x s at ∙ ap (λ z. need z (λ y. operate s (operand.Reg d) (Some (extended_by_type t y)))) e)
        by (Some v) e = goes-there frames s out q at st v e

  -- no function has an argument beyond the sixteenth
  getarg-undefined : 16 ≤ k → IsInText c i n → CarriesNode R.processor c i n S
  getarg-undefined many x frames s returns out q at st = inl (by (slice_get s.frame.args k) refl)
    where
      args-few : length s.frame.args ≤ 16
      args-few = (few-arguments c.nodes c.shape s.frame s.callers (shaped c.nodes x.well).few st.state.fits.linked).0

      by : (o : Option ℕ) → slice_get s.frame.args k ≡ o → step c.nodes c.shape c.addresses s ≡ Undefined
      by None e = steps-so x s at ∙ ap (λ z. need z (λ y. operate s (operand.Reg d) (Some (extended_by_type t y)))) e
      by (Some v) e = let lt = slice_get_within s.frame.args k v e in absurd (omega (arith, lt, args-few, many))

  pub getarg-law : IsInText c i n → IsNodeBlock R fits c i (argument_of code frame t n) → CarriesNode R.processor c i n S
  getarg-law x y = by (nat_lt k 16) refl y
    where
      few : nat_lt k 16 ≡ true → k < 16
      few e = grind (arith, e)

      many : nat_lt k 16 ≡ false → 16 ≤ k
      many e = grind (arith, e)

      by : (b : Bool) → nat_lt k 16 ≡ b → IsNodeBlock R fits c i (if b then code frame t d k else []) → CarriesNode R.processor c i n S
      by true e y = getarg-carried (few e) x y
      by false e y = getarg-undefined (many e) x

abbrev IsCarried : {Q I : Type 0} → Rows Q I → (I → Type 0) → Code → ℕ → (ℕ → Bool) → (Node → List I) → Node → Type 0
IsCarried R fits c i S code m = IsInText c i m → IsNodeBlock R fits c i (code m) → CarriesNode R.processor c i m S

pub arguments-carry : {Q I : Type 0} (R : Rows Q I) (scratch : ℕ → Bool) (fits : I → Type 0) → IsIsa R scratch fits → (code : ArgumentCode I) → ArgumentsDo R scratch code → HasArgumentCode R code → ArgumentsCarry R fits code
arguments-carry R scratch fits isa code lead some c i n t frame S e x is-frame y = subst (IsCarried R fits c i S (argument_of code frame t)) (ap (with_op n) (sym e)) with-op x y
  where
    formed : admit (forms_of (op.Getarg t)) n.operands ≡ true
    formed = ap (λ o. admit (forms_of o) n.operands) (sym e) ∙ (x.formed n x.here).forms

    with-op : IsCarried R fits c i S (argument_of code frame t) (with_op n (op.Getarg t))
    with-op =
        let d = starts-written (form.Argument ∷ []) n.operands formed in
        let k = starts-argument [] d.rest d.admitted in
        let xs-are : n.operands ≡ operand.Reg d.register ∷ operand.Slot k.number ∷ [] =
        d.is ∙ ap (λ ys. operand.Reg d.register ∷ ys) (k.is ∙ ap (λ ys. operand.Slot k.number ∷ ys) (nothing-left k.rest k.admitted)) in
        subst (λ xs. IsCarried R fits c i S (argument_of code frame t) record { op = op.Getarg t; operands = xs; line = n.line }) (sym xs-are)
        (getarg-law R scratch fits isa code lead some c i t frame is-frame S n.line d.register d.named k.number)
