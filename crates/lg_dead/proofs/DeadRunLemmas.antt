-- The run of the nodes that stay where definitions that are not needed are dropped.
use Rattle.std.proofs.Common.{◌≡◌, ◌⊎◌, inl, inr, ⊎_elim, ℕ, ◌+◌, Bool, true, false, List, [], ◌∷◌, Option, Some, None, length, not, refl, sym, ap, ◌∙◌, subst, add-one}
use Rattle.std.specs.Prelude.{if◌then◌else◌, slice_get}
use Rattle.std.specs.List.{All}
use Rattle.lg_op.specs.Nodes.{InForm}
use Rattle.lg_op.specs.declared.node.Node.{Node}
use Rattle.lg_op.specs.declared.op.Op.{Op}
use Rattle.lg_op.specs.declared.op.Op.TheVariants as op
use Rattle.lg_op.specs.declared.op.PlainOp.TheVariants as plain
use Rattle.lg_op.specs.declared.operand.Operand.{Operand}
use Rattle.lg_op.specs.declared.operand.Reg.{Reg}
use Rattle.lg_op.specs.declared.operand.Reg.TheVariants.{Fp}
use Rattle.lg_live.specs.Uses.{is_written}
use Rattle.lg_op.specs.declared.carry.Carry.{Carry}
use Rattle.lg_op.specs.declared.carry.Carry.TheVariants as carry
use Rattle.lg_op.specs.Operators.{sets_carry, binary_value, wide_value, unary_value, keeps_carry, width, extended_by_type}
use Rattle.lg_node.specs.Functions.{functions}
use Rattle.lg_node.specs.Nodes.{LabelledNodes}
use Rattle.lg_node.specs.Shapes.{TextShape, IsShapeOf, IsSuccessor, GoesBy, Way, Next, way_of}
use Rattle.lg_node.proofs.FunctionLaws.{node_within}
use Rattle.lg_node.proofs.SuccessorLaws.{has_functions}
use Rattle.lg_node.proofs.WellShaped.{well_shaped}
use Rattle.lg_meaning.specs.Addresses.{AreAddresses}
use Rattle.lg_meaning.specs.Fits.{FitsWell}
use Rattle.lg_meaning.specs.Starts.{begins_at, entered_state}
use Rattle.lg_meaning.specs.States.{State, reg, value}
use Rattle.lg_meaning.specs.Steps.{Outcome, Goes, Ends, Undefined, Text, need, quiet, operand_at, on, on_with_carry, with_reg, operate, binary_step, carry_step, read, address, slot, node_step}
use Rattle.lg_meaning.specs.Texts.{text, step_at, step}
use Rattle.lg_meaning.proofs.MeanLemmas.{formed_at, mean_fits}
use Rattle.lg_carry.specs.Carries.{leaps, leaps_at}
use Rattle.lg_dead.specs.Near.{Holds, word_of, SavesAlike, FramesAlike, Near}
use Rattle.lg_dead.specs.Near as near
use Rattle.lg_live.specs.Definitions.{defines}
use Rattle.lg_dead.specs.Needs.{AreNeeds, AreNear}
use Rattle.lg_dead.proofs.NeedLemmas.{near-steps}
use Rattle.lg_opt.specs.Rewritten.{memory_in}
use Rattle.lg_opt.specs.Paired.{Pair, Dropped, RestsAt, AreStepped}
use Rattle.lg_opt.specs.Remaining.{new_number, rewritten, no_targets, origins, may_go, IsRewriting}
use Rattle.lg_opt.specs.Renumbered.{over, Meets, IsRewritten}
use Rattle.lg_opt.specs.Rewritings.{FromEachStart, RunIsDropped}
use Rattle.lg_opt.proofs.AcceptLemmas.{begins-moved}
use Rattle.lg_opt.proofs.DropLemmas.{start-over}
use Rattle.lg_opt.proofs.DropRunLemmas.{drops, drops-look}
use Rattle.lg_opt.proofs.KeepLemmas.{keeps}
use Rattle.lg_opt.proofs.MovedLemmas.{stands, label-moved, beginning-moved}
use Rattle.lg_opt.proofs.RemainingLemmas.{number-zero, number-goes}
use Rattle.lg_opt.proofs.RenumberLemmas.{renumbers}
use Rattle.lg_opt.proofs.OriginLemmas.{numbered}
use Rattle.lg_opt.proofs.StepLemmas.{steps-meet}
use Rattle.lg_dead.proofs.Follows.{Follows}

-- ---- definitions
goes-by-defining : (o : Op) → defines o ≡ true → may_go o ≡ true
goes-by-defining (op.Binary b last) e = refl
goes-by-defining (op.Wide b last) e = refl
goes-by-defining (op.Unary b) e = refl
goes-by-defining (op.Plain plain.Movi) e = refl
goes-by-defining (op.Load v at) e = refl
goes-by-defining (op.Retval v) e = refl
goes-by-defining (op.Getarg v) e = refl
goes-by-defining o e = cc

pub falls-by-defining : (o : Op) → defines o ≡ true → leaps o ≡ false
falls-by-defining (op.Binary b last) e = refl
falls-by-defining (op.Wide b last) e = refl
falls-by-defining (op.Unary b) e = refl
falls-by-defining (op.Plain plain.Movi) e = refl
falls-by-defining (op.Load v at) e = refl
falls-by-defining (op.Retval v) e = refl
falls-by-defining (op.Getarg v) e = refl
falls-by-defining o e = cc

pub next-by-defining : (o : Op) → defines o ≡ true → way_of o ≡ Next
next-by-defining (op.Binary b last) e = refl
next-by-defining (op.Wide b last) e = refl
next-by-defining (op.Unary b) e = refl
next-by-defining (op.Plain plain.Movi) e = refl
next-by-defining (op.Load v at) e = refl
next-by-defining (op.Retval v) e = refl
next-by-defining (op.Getarg v) e = refl
next-by-defining o e = cc

-- what a definition makes of a state
record Defined (s u : State) : Type 0 where
  regs : ℕ → Option ℕ
  bit : Carry
  is : u ≡ record s { at = s.at + 1; regs = regs; carry = bit; answer = None }
  carries : (bit ≡ carry.Undefined) ⊎ (bit ≡ s.carry)

abbrev IsDefined : State → Outcome → Type 0
IsDefined s (Goes u bytes) = Defined s u × (bytes ≡ [])
IsDefined s (Ends c) = ⊥
IsDefined s Undefined = Unit {0}

module _ (t : Text) (n : Node) (s : State) where
  defined : {A : Type 0} (o : Option A) (f : A → Outcome) → ((v : A) → IsDefined s (f v)) → IsDefined s (need o f)
  defined None f h = tt
  defined (Some v) f h = h v

  with-none : (d : Operand) (v : ℕ) → IsDefined s (quiet (on (with_reg s d v)))
  with-none d v = (record { regs = _; bit = carry.Undefined; is = refl; carries = inl refl }, refl)

  with-carry : (d : Operand) (v : ℕ) → IsDefined s (quiet (on_with_carry (with_reg s d v)))
  with-carry d v = (record { regs = _; bit = s.carry; is = refl; carries = inr refl }, refl)

  operated : (d : Operand) (o : Option ℕ) → IsDefined s (operate s d o)
  operated d o = defined o (λ v. quiet (on (with_reg s d v))) (λ v. with-none d v)

  moved : (b : Bool) (d : Operand) (v : ℕ) → IsDefined s (quiet (if b then on_with_carry (with_reg s d v) else on (with_reg s d v)))
  moved true d v = with-carry d v
  moved false d v = with-none d v

  by-defining : (o : Op) → defines o ≡ true → IsDefined s (node_step t n o s)
  by-defining (op.Binary b last) e = by (sets_carry b) e
    where
      by : (c : Bool) → not c ≡ true → IsDefined s (if c then carry_step t.addresses n b s else binary_step t.addresses n (binary_value b) s)
      by true e = cc
      by false e = defined (value t.addresses s (operand_at n 1)) _ (λ x. defined (value t.addresses s (operand_at n 2)) _ (λ y. operated (operand_at n 0) (binary_value b x y)))
  by-defining (op.Wide b last) e =
      defined (value t.addresses s (operand_at n 2)) _ (λ x. defined (value t.addresses s (operand_at n 3)) _ (λ y. defined (wide_value b x y) _ (λ p. (record { regs = _; bit = carry.Undefined; is = refl; carries = inl refl }, refl))))
  by-defining (op.Unary u) e = defined (value t.addresses s (operand_at n 1)) _ (λ a. moved (keeps_carry u) (operand_at n 0) (unary_value u a))
  by-defining (op.Plain plain.Movi) e = defined (value t.addresses s (operand_at n 1)) _ (λ a. with-carry (operand_at n 0) a)
  by-defining (op.Load v at) e = defined (address t.addresses s at n 1) _ (λ a. defined (read s a (width v)) _ (λ x. with-carry (operand_at n 0) (extended_by_type v x)))
  by-defining (op.Retval v) e = defined s.answer _ (λ x. operated (operand_at n 0) (Some (extended_by_type v x)))
  by-defining (op.Getarg v) e = defined (slice_get s.frame.args (slot (operand_at n 1))) _ (λ x. operated (operand_at n 0) (Some (extended_by_type v x)))
  by-defining o e = cc

word-of-reg : (s u : State) (r : Reg) → reg u r ≡ reg s r → word_of u.regs r ≡ word_of s.regs r
word-of-reg s u Fp e = refl
word-of-reg s u _ e = e

-- ---- states by way of one between
joined : (R S : State → State → Type 0) (x y z : Outcome) → near.Meets R x y → Meets S y z → Meets (λ s m. (u : State) × R s u × S u m) x z
joined R S (Goes s a) (Goes u b) (Goes m c) h k = ((u, h.0, k.0), k.1 ∙ h.1)
joined R S (Goes s a) (Goes u b) _ h k = absurd k
joined R S (Ends c) (Ends d) (Goes m b) h k = absurd k
joined R S (Ends c) (Ends d) (Ends e) h k = k ∙ h
joined R S (Ends c) (Ends d) Undefined h k = absurd k
joined R S Undefined y z h k = tt
joined R S _ _ z h k = absurd h

module _ (l : LabelledNodes) (shape new_shape : TextShape) (stays : ℕ → Bool) (needs : ℕ → Reg → Bool) (A : List ℕ) (is : IsShapeOf l shape) (formed : All InForm l.nodes) (are : AreNeeds l shape stays needs) where
  pub gone-rewrite : IsRewriting l stays no_targets
  gone-rewrite = record { goes = λ i n e s. goes-by-defining n.op (are.gone i n e s).0; leads = λ i n y e t. cc }

  gone-calm : (i : ℕ) → stays i ≡ false → leaps_at (slice_get l.nodes i) ≡ false
  gone-calm i s = by (slice_get l.nodes i) refl
    where
      by : (o : Option Node) → slice_get l.nodes i ≡ o → leaps_at o ≡ false
      by None e = refl
      by (Some n) e = falls-by-defining n.op (are.gone i n e s).0

  module _ (en : new_shape.functions ≡ functions (rewritten l stays no_targets).nodes) (et : new_shape.taken ≡ shape.taken) (size : ℕ) (at : AreAddresses (rewritten l stays no_targets) size A) where
    abbrev m : LabelledNodes
    m = rewritten l stays no_targets

    abbrev nu : ℕ → ℕ
    nu = new_number stays

    abbrev p : Pair
    p = record { old = l; old_shape = shape; new = rewritten l stays no_targets; new_shape = new_shape; addresses = A }

    abbrev t : Text
    t = text l shape A

    abbrev u : Text
    u = text (rewritten l stays no_targets) new_shape A

    abbrev Lands : ℕ → ℕ → Type 0
    Lands k j = j ≡ new_number stays k

    abbrev R : State → State → Type 0
    R = Follows needs nu

    same : (n : Node) → IsRewritten t u nu Lands n n
    same n = (
      refl,
      λ e. record { second = refl; third = refl; leads = label-moved l stays no_targets _ },
      λ e. (refl, λ c. label-moved l stays no_targets _),
    )

    at-form : (i : ℕ) (n : Node) → slice_get l.nodes i ≡ Some n → InForm n
    at-form = formed_at l shape A is (well_shaped l is.accepted) (has_functions l is.accepted) formed

    abbrev Good : State → Type 0
    Good s = FitsWell l shape s

    node-at : (s : State) → Good s → (n : Node) × (slice_get l.nodes s.at ≡ Some n)
    node-at s good = node_within l.nodes s.at good.fits.inside

    same-at : (s b : State) → AreNear needs s b → b.at ≡ s.at
    same-at s b x = ap (λ (y : State). y.at) x.is

    -- the old step, from the state between
    over-numbers : (b k : State) (n : Node) → slice_get l.nodes b.at ≡ Some n → stays b.at ≡ true → Dropped nu b k → Meets (Dropped nu) (step l shape A b) (step m new_shape A k)
    over-numbers b k n here keep a =
        let closed : k ≡ over nu b (nu b.at) a.bit a.result = a.is ∙ ap (λ i. over nu b i a.bit a.result) a.lands in
        subst (λ o. Meets (Dropped nu) (step_at t o b) (step m new_shape A k)) (sym here)
        (subst (λ x. Meets (Dropped nu) (node_step t n n.op b) (step m new_shape A x)) (sym closed)
        (subst (λ o. Meets (Dropped nu) (node_step t n n.op b) (step_at u o (over nu b (nu b.at) a.bit a.result))) (sym (stands l stays no_targets b.at n here keep))
        (steps-meet t u nu Lands b (renumbers l stays no_targets gone-rewrite is.accepted shape new_shape is.functions en et A size at Lands (λ i. refl) b.at keep) a.bit a.result a.carries a.answers n n (same n))))

    meets : (s k : State) → Good s → R s k → stays s.at ≡ true → Meets R (step l shape A s) (step m new_shape A k)
    meets s k good r keep =
        let n = node-at s good in
        let b = r.0 in
        let e = same-at s b r.1 in
        joined (AreNear needs) (Dropped nu) (step l shape A s) (step l shape A b) (step m new_shape A k)
        (near-steps l shape stays needs A s b n.0 is are n.1 (at-form s.at n.0 n.1) keep r.1)
        (over-numbers b k n.0 (ap (slice_get l.nodes) e ∙ n.1) (ap stays e ∙ keep) r.2)

    -- a definition that is not needed
    module _ (s b k : State) (n : Node) (here : slice_get l.nodes s.at ≡ Some n) (drop : stays s.at ≡ false) (x : AreNear needs s b) (a : Dropped nu b k) where
      gone : (defines n.op ≡ true) × ((r : Reg) → is_written n r ≡ true → needs (s.at + 1) r ≡ false)
      gone = are.gone s.at n here drop

      next : IsSuccessor l shape s.at (s.at + 1) → (r : Reg) → needs (s.at + 1) r ≡ true → (needs s.at r ≡ true) × (is_written n r ≡ false)
      next succ r e = by (is_written n r) refl
        where
          by : (w : Bool) → is_written n r ≡ w → (needs s.at r ≡ true) × (is_written n r ≡ false)
          by true w = let no : false ≡ true = sym (gone.1 r w) ∙ e in cc
          by false w = (are.passes s.at (s.at + 1) n r here succ e w, w)

      succ : (r : Reg) → needs (s.at + 1) r ≡ true → IsSuccessor l shape s.at (s.at + 1)
      succ r e = record { node = n; here = here; goes = subst (λ (w : Way). GoesBy l shape s.at n w (s.at + 1)) (sym (next-by-defining n.op gone.0)) (refl, are.inside (s.at + 1) r e) }

      between : (g : ℕ → Option ℕ) (c : Carry) → (c ≡ carry.Undefined) ⊎ (c ≡ s.carry) → ((r : Reg) → needs (s.at + 1) r ≡ true → word_of g r ≡ word_of s.regs r) → R (record s { at = s.at + 1; regs = g; carry = c; answer = None }) k
      between g c cs h = (
        record b { at = s.at + 1; carry = c; answer = None },
        record {
          regs = x.regs;
          frame = x.frame;
          callers = x.callers;
          is = ap (λ (y : State). record y { at = s.at + 1; carry = c; answer = None }) x.is;
          holds = λ r e. subst (λ w. Holds w (word_of x.regs r)) (sym (h r e)) (x.holds r (next (succ r e) r e).0);
          top = x.top;
          below = x.below;
        },
        record {
          at = a.at;
          bit = a.bit;
          result = a.result;
          is = a.is;
          lands = a.lands ∙ ap nu (same-at s b x) ∙ sym (ap nu (add-one s.at) ∙ number-goes stays s.at drop);
          carries = ⊎_elim (λ z. inl z) (λ z. ⊎_elim (λ y. inl (z ∙ sym (ap (λ (w : State). w.carry) x.is) ∙ y)) (λ y. inr (y ∙ ap (λ (w : State). w.carry) x.is ∙ sym z)) a.carries) cs;
          answers = inl refl;
        },
      )

      rests-by : (o : Outcome) → node_step t n n.op s ≡ o → IsDefined s o → RestsAt R o k
      rests-by (Goes v []) e h =
          let d = h.0 in
          subst (λ y. R y k) (sym d.is) (between d.regs d.bit d.carries
          (λ r z. word-of-reg s (record s { at = s.at + 1; regs = d.regs; carry = d.bit; answer = None }) r
          (keeps t n s (record s { at = s.at + 1; regs = d.regs; carry = d.bit; answer = None }) [] r (falls-by-defining n.op gone.0) (next (succ r z) r z).1 (e ∙ ap (λ y. Goes y []) d.is))))
      rests-by (Goes v (c ∷ cs)) e h = let no = h.1 in cc
      rests-by (Ends c) e h = h
      rests-by Undefined e h = tt

      pub rests-at : RestsAt R (node_step t n n.op s) k
      rests-at = rests-by (node_step t n n.op s) refl (by-defining t n s n.op gone.0)

    rests : (s k : State) → Good s → R s k → stays s.at ≡ false → RestsAt R (step l shape A s) k
    rests s k good r drop =
        let n = node-at s good in
        subst (λ o. RestsAt R (step_at t o s) k) (sym n.1) (rests-at s r.0 k n.0 n.1 drop r.1 r.2)

    stepped : AreStepped p Good R (λ s k. stays s.at)
    stepped = record { meets = meets; rests = rests }

    leaps-stay : (i : ℕ) → leaps_at (slice_get l.nodes i) ≡ true → (stays i ≡ true) × (leaps_at (slice_get m.nodes (nu i)) ≡ true)
    leaps-stay i e = by (slice_get l.nodes i) (stays i) refl refl e
      where
        by : (o : Option Node) (b : Bool) → slice_get l.nodes i ≡ o → stays i ≡ b → leaps_at o ≡ true → (stays i ≡ true) × (leaps_at (slice_get m.nodes (nu i)) ≡ true)
        by None b f s h = cc
        by (Some n) true f s h = (s, ap leaps_at (stands l stays no_targets i n f s) ∙ h)
        by (Some n) false f s h = let no : false ≡ true = sym (gone-calm i s) ∙ ap leaps_at f ∙ h in cc

    pub dead-dropped : FromEachStart l (rewritten l stays no_targets) (RunIsDropped l shape (rewritten l stays no_targets) new_shape (origins stays (length l.nodes)) A)
    dead-dropped e b may begins =
        let first : State = entered_state e (begins_at l b) in
        let second : State = entered_state e (begins_at m b) in
        let fit = mean_fits l shape A is (well_shaped l is.accepted) (has_functions l is.accepted) formed e b may begins in
        let start : R first second = (
          first,
          record {
            regs = λ r. None;
            frame = first.frame;
            callers = [];
            is = refl;
            holds = λ r e. inr refl;
            top = record { saved = λ r. None; is = refl; holds = λ r e f. inr refl };
            below = tt;
          },
          record {
            at = begins_at m b;
            bit = carry.Undefined;
            result = None;
            is = start-over nu (number-zero stays) e (begins_at l b) (begins_at m b);
            lands = beginning-moved l stays no_targets b;
            carries = inl refl;
            answers = inl refl;
          },
        ) in (
          begins-moved l stays no_targets gone-rewrite is.accepted b begins,
          (
            record {
              j = _;
              stays = stays;
              to = nu;
              drops = drops p stays nu Good R (λ s k r. ap (λ (y : State). y.at) r.2.is ∙ r.2.lands ∙ ap nu (same-at s r.0 r.1)) stepped gone-calm first second fit start;
              memory = drops-look p stays nu Good R (λ s k r. ap (λ (y : State). y.at) r.2.is ∙ r.2.lands ∙ ap nu (same-at s r.0 r.1)) stepped gone-calm first second fit start
                  (λ s k r. ap memory_in r.2.is ∙ ap memory_in r.1.is);
              leaps = leaps-stay;
            },
            numbered l stays no_targets,
          ),
        )
