-- The table of undefined steps, row by row.
use Rattle.std.proofs.Common.{◌≡◌, ◌⊎◌, inl, inr, ℕ, Bool, true, false, List, [], ◌∷◌, Option, Some, None, refl, subst}
use Rattle.std.specs.Prelude.{not, ◌&&◌, is_none, map, nat_le, ◌+◌, ◌-◌, slice_get}
use Rattle.std.proofs.lemmas.Option.{same_Some}
use Rattle.lg_base.specs.Spaces.{loaded}
use Rattle.lg_cells.specs.Memories.{writable}
use Rattle.lg_host.specs.Host.{Host, Gives, Exits, host_of, memory}
use Rattle.lg_host.specs.Host as host
use Rattle.lg_meaning.specs.Reasons.{call_of, called_from, called_here, cannot_divide, cannot_divide_widely, finds_no_room, first, given, is_not_allowed, is_undefined, operands_read, outside, passed_by, register, row_1, row_2, row_4, row_6, row_7, row_8, row_9, row_10, row_11, row_12, row_13, unset_among, where_none, where_so, why_of}
use Rattle.lg_meaning.specs.States.{State, is_open, value}
use Rattle.lg_meaning.specs.Steps.{Text, address, is_marked, jump_target, operand_at, slot}
use Rattle.lg_meaning.specs.Texts.{text}
use Rattle.lg_meaning.specs.declared.reason.Called.{Called}
use Rattle.lg_meaning.specs.declared.reason.Called.TheVariants.{OfHost, OfText}
use Rattle.lg_meaning.specs.declared.reason.Reason.{Reason}
use Rattle.lg_meaning.specs.declared.reason.Reason.TheVariants.{Unset, NoCarry, NoQuotient, Outside, Unwritten, NoLabel, NoFunction, NoRoom, NoResult, NoArgument, NotAllowed, NoVariable}
use Rattle.lg_node.specs.Functions.{frame_of}
use Rattle.lg_op.specs.Operators.{carry_in, sets_carry, store_width, width}
use Rattle.lg_op.specs.declared.node.Node.{Node}
use Rattle.lg_op.specs.declared.op.Op.{Op}
use Rattle.lg_op.specs.declared.op.Op.TheVariants as op
use Rattle.lg_op.specs.declared.op.ControlOp.TheVariants as control
use Rattle.lg_op.specs.declared.op.LastOperand.TheVariants as last_operand
use Rattle.lg_op.specs.declared.op.PlainOp.TheVariants as plain
use Rattle.lg_explain.specs.ReasonsHold.{HasNoQuotient, Holds, IsAccessAt, ReasonsHold}

-- ---- a reason that is given
so : (b : Bool) (r q : Reason) → where_so b r ≡ Some q → (b ≡ true) × (r ≡ q)
so true r q e = (refl, same_Some r q e)
so false r q e = cc

none : {A : Type 0} (o : Option A) (r q : Reason) → where_none o r ≡ Some q → (o ≡ None) × (r ≡ q)
none None r q e = (refl, same_Some r q e)
none (Some v) r q e = cc

there : {A : Type 0} (o : Option A) (f : A → Option Reason) (q : Reason) → given o f ≡ Some q → (v : A) × (o ≡ Some v) × (f v ≡ Some q)
there None f q e = cc
there (Some v) f q e = (v, refl, e)

first_or : (r : Option Reason) (rs : List (Option Reason)) (q : Reason) → first (r ∷ rs) ≡ Some q → (r ≡ Some q) ⊎ (first rs ≡ Some q)
first_or None rs q e = inr e
first_or (Some r) rs q e = inl e

or_rest : (r : Option Reason) (rs : List (Option Reason)) (q : Reason) (P : Type 0) → (r ≡ Some q → P) → (first rs ≡ Some q → P) → first (r ∷ rs) ≡ Some q → P
or_rest r rs q P f g e = by (first_or r rs q e)
  where
    by : (r ≡ Some q) ⊎ (first rs ≡ Some q) → P
    by (inl h) = f h
    by (inr h) = g h

no_row : (q : Reason) (P : Type 0) → ◌≡◌ {A = Option Reason} None (Some q) → P
no_row q P e = cc

module _ (t : Text) (n : Node) (s : State) where
  abbrev H : Op → Reason → Type 0
  H o q = Holds t n o s q

  among : (o : Op) (places : List ℕ) (q : Reason) → unset_among t.addresses n s places ≡ Some q → H o q
  among o [] q e = cc
  among o (i ∷ places) q e =
      or_rest (where_none (value t.addresses s (operand_at n i)) (Unset (register (operand_at n i))))
      (map (λ j. where_none (value t.addresses s (operand_at n j)) (Unset (register (operand_at n j)))) places) q (H o q) here (λ f. among o places q f) e
    where
      here : where_none (value t.addresses s (operand_at n i)) (Unset (register (operand_at n i))) ≡ Some q → H o q
      here f =
          let h = none (value t.addresses s (operand_at n i)) (Unset (register (operand_at n i))) q f in
          subst (H o) h.1 (record { index = i; names = refl; none = h.0 })

  first_row : (o : Op) (q : Reason) → row_1 t n o s ≡ Some q → H o q
  first_row o q e = among o (operands_read o) q e

  both : (a b : Bool) → (a && b) ≡ true → b ≡ true
  both true b e = e
  both false b e = cc

  nothing : {A : Type 0} (o : Option A) → is_none o ≡ true → o ≡ None
  nothing None e = refl
  nothing (Some v) e = cc

  second_row : (o : Op) (q : Reason) → row_2 o s ≡ Some q → H o q
  second_row (op.Binary o last) q e =
      let h = so (sets_carry o && is_none (carry_in o s.carry)) NoCarry q e in
      subst (H (op.Binary o last)) h.1 (record { binary = o; last = last; is = refl; none = nothing (carry_in o s.carry) (both (sets_carry o) (is_none (carry_in o s.carry)) h.0) })
  second_row _ q e = cc

  fourth_row : (o : Op) (q : Reason) → row_4 t n o s ≡ Some q → H o q
  fourth_row (op.Binary o last) q e =
      let a = there (value t.addresses s (operand_at n 1)) (λ a. given (value t.addresses s (operand_at n 2)) (λ b. where_so (cannot_divide o a b) (NoQuotient a b))) q e in
      let b = there (value t.addresses s (operand_at n 2)) (λ b. where_so (cannot_divide o a.0 b) (NoQuotient a.0 b)) q a.2 in
      let h = so (cannot_divide o a.0 b.0) (NoQuotient a.0 b.0) q b.2 in
      subst (H (op.Binary o last)) h.1 (HasNoQuotient.of_words o last a.1 b.1 h.0)
  fourth_row (op.Wide o last) q e =
      let a = there (value t.addresses s (operand_at n 2)) (λ a. given (value t.addresses s (operand_at n 3)) (λ b. where_so (cannot_divide_widely o a b) (NoQuotient a b))) q e in
      let b = there (value t.addresses s (operand_at n 3)) (λ b. where_so (cannot_divide_widely o a.0 b) (NoQuotient a.0 b)) q a.2 in
      let h = so (cannot_divide_widely o a.0 b.0) (NoQuotient a.0 b.0) q b.2 in
      subst (H (op.Wide o last)) h.1 (HasNoQuotient.of_two_words o last a.1 b.1 h.0)
  fourth_row _ q e = cc

  turned : (b : Bool) → not b ≡ true → b ≡ false
  turned false e = refl
  turned true e = cc

  outside_row : (o : Op) (q : Reason) (a w : ℕ) → IsAccessAt t n s a → outside s a w ≡ Some q → H o q
  outside_row o q a w at e =
      let h = so (not (writable (is_open s) a w)) (Outside w a) q e in
      subst (H o) h.1 (at, turned (writable (is_open s) a w) h.0)

  sixth_row : (o : Op) (q : Reason) → row_6 t n o s ≡ Some q → H o q
  sixth_row (op.Load v at) q e =
      let a = there (address t.addresses s at n 1) (λ a. first (outside s a (width v) ∷ where_none (loaded s.mem a (width v)) (Unwritten (width v) a) ∷ [])) q e in
      let is : IsAccessAt t n s a.0 = record { addressing = at; index = 1; is = a.1 } in
      or_rest (outside s a.0 (width v)) (where_none (loaded s.mem a.0 (width v)) (Unwritten (width v) a.0) ∷ []) q (H (op.Load v at) q)
      (λ f. outside_row (op.Load v at) q a.0 (width v) is f) (λ f. unwritten a.0 is f) a.2
    where
      unwritten : (a : ℕ) → IsAccessAt t n s a → first (where_none (loaded s.mem a (width v)) (Unwritten (width v) a) ∷ []) ≡ Some q → H (op.Load v at) q
      unwritten a is f = or_rest (where_none (loaded s.mem a (width v)) (Unwritten (width v) a)) [] q (H (op.Load v at) q) here (λ g. no_row q (H (op.Load v at) q) g) f
        where
          here : where_none (loaded s.mem a (width v)) (Unwritten (width v) a) ≡ Some q → H (op.Load v at) q
          here g = let h = none (loaded s.mem a (width v)) (Unwritten (width v) a) q g in subst (H (op.Load v at)) h.1 (is, h.0)
  sixth_row (op.Store v at) q e =
      let a = there (address t.addresses s at n 0) (λ a. outside s a (store_width v)) q e in
      outside_row (op.Store v at) q a.0 (store_width v) (record { addressing = at; index = 0; is = a.1 }) a.2
  sixth_row _ q e = cc

  seventh_row : (o : Op) (q : Reason) → row_7 t n o s ≡ Some q → H o q
  seventh_row (op.Control control.Jmp last_operand.Register) q e =
      let w = there (value t.addresses s (operand_at n 0)) (λ w. where_none (jump_target t s.at w) (NoLabel w)) q e in
      let h = none (jump_target t s.at w.0) (NoLabel w.0) q w.2 in
      subst (H (op.Control control.Jmp last_operand.Register)) h.1 (w.1, h.0)
  seventh_row _ q e = cc

  eighth_row : (o : Op) (q : Reason) → row_8 t n o s ≡ Some q → H o q
  eighth_row o q e =
      let l = there (call_of o) (λ last. given (value t.addresses s (operand_at n 0)) (λ w. where_none (called_here t n last s) (NoFunction w))) q e in
      let w = there (value t.addresses s (operand_at n 0)) (λ w. where_none (called_here t n l.0 s) (NoFunction w)) q l.2 in
      let h = none (called_here t n l.0 s) (NoFunction w.0) q w.2 in
      subst (H o) h.1 (record { last = l.0; calls = l.1; word = w.1; none = h.0 })

  ninth_row : (o : Op) (q : Reason) → row_9 t n o s ≡ Some q → H o q
  ninth_row o q e = let c = there (called_from t n o s) (finds_no_room s) q e in by c.0 c.1 c.2
    where
      by : (called : Called) → called_from t n o s ≡ Some called → finds_no_room s called ≡ Some q → H o q
      by (OfHost name) is f = cc
      by (OfText function) is f =
          let size : ℕ = frame_of function in
          let h = so (not (nat_le (0x3FF00010 + size) (s.frame.sp - s.frame.size))) (NoRoom size) q f in
          subst (H o) h.1 (record { function = function; called = is; frame = refl; more = turned (nat_le (0x3FF00010 + size) (s.frame.sp - s.frame.size)) h.0 })

  tenth_row : (o : Op) (q : Reason) → row_10 o s ≡ Some q → H o q
  tenth_row (op.Retval v) q e = let h = none s.answer NoResult q e in subst (H (op.Retval v)) h.1 h.0
  tenth_row _ q e = cc

  eleventh_row : (o : Op) (q : Reason) → row_11 n o s ≡ Some q → H o q
  eleventh_row (op.Getarg v) q e =
      let h = none (slice_get s.frame.args (slot (operand_at n 1))) (NoArgument (slot (operand_at n 1))) q e in subst (H (op.Getarg v)) h.1 (refl, h.0)
  eleventh_row _ q e = cc

  undefined : (h : Host) → is_undefined h ≡ true → h ≡ host.Undefined
  undefined host.Undefined e = refl
  undefined _ e = cc

  twelfth_row : (o : Op) (q : Reason) → row_12 t n o s ≡ Some q → H o q
  twelfth_row o q e = let c = there (called_from t n o s) (is_not_allowed s (passed_by o s)) q e in by c.0 c.1 c.2
    where
      by : (called : Called) → called_from t n o s ≡ Some called → is_not_allowed s (passed_by o s) called ≡ Some q → H o q
      by (OfText function) is f = cc
      by (OfHost name) is f =
          let answer : Host = host_of name (passed_by o s) (is_marked s.variadic) (memory s.mem (is_open s) s.mark) in
          let h = so (is_undefined answer) (NotAllowed name) q f in
          subst (H o) h.1 (is, undefined answer h.0)

  thirteenth_row : (o : Op) (q : Reason) → row_13 t n o s ≡ Some q → H o q
  thirteenth_row (op.Plain plain.VaArg) q e =
      let i = there (value t.addresses s (operand_at n 1)) (λ i. where_none (slice_get s.frame.args i) (NoVariable i)) q e in
      let h = none (slice_get s.frame.args i.0) (NoVariable i.0) q i.2 in
      subst (H (op.Plain plain.VaArg)) h.1 (i.1, h.0)
  thirteenth_row _ q e = cc

  -- one of the rows holds
  pub by_rows : (o : Op) (q : Reason) → why_of t n o s ≡ Some q → H o q
  by_rows o q e =
      let after_13 : List (Option Reason) = [] in
      let from_13 : first (row_13 t n o s ∷ after_13) ≡ Some q → H o q = or_rest (row_13 t n o s) after_13 q (H o q) (λ f. thirteenth_row o q f) (λ f. no_row q (H o q) f) in
      let after_12 : List (Option Reason) = row_13 t n o s ∷ after_13 in
      let from_12 : first (row_12 t n o s ∷ after_12) ≡ Some q → H o q = or_rest (row_12 t n o s) after_12 q (H o q) (λ f. twelfth_row o q f) from_13 in
      let after_11 : List (Option Reason) = row_12 t n o s ∷ after_12 in
      let from_11 : first (row_11 n o s ∷ after_11) ≡ Some q → H o q = or_rest (row_11 n o s) after_11 q (H o q) (λ f. eleventh_row o q f) from_12 in
      let after_10 : List (Option Reason) = row_11 n o s ∷ after_11 in
      let from_10 : first (row_10 o s ∷ after_10) ≡ Some q → H o q = or_rest (row_10 o s) after_10 q (H o q) (λ f. tenth_row o q f) from_11 in
      let after_9 : List (Option Reason) = row_10 o s ∷ after_10 in
      let from_9 : first (row_9 t n o s ∷ after_9) ≡ Some q → H o q = or_rest (row_9 t n o s) after_9 q (H o q) (λ f. ninth_row o q f) from_10 in
      let after_8 : List (Option Reason) = row_9 t n o s ∷ after_9 in
      let from_8 : first (row_8 t n o s ∷ after_8) ≡ Some q → H o q = or_rest (row_8 t n o s) after_8 q (H o q) (λ f. eighth_row o q f) from_9 in
      let after_7 : List (Option Reason) = row_8 t n o s ∷ after_8 in
      let from_7 : first (row_7 t n o s ∷ after_7) ≡ Some q → H o q = or_rest (row_7 t n o s) after_7 q (H o q) (λ f. seventh_row o q f) from_8 in
      let after_6 : List (Option Reason) = row_7 t n o s ∷ after_7 in
      let from_6 : first (row_6 t n o s ∷ after_6) ≡ Some q → H o q = or_rest (row_6 t n o s) after_6 q (H o q) (λ f. sixth_row o q f) from_7 in
      let after_4 : List (Option Reason) = row_6 t n o s ∷ after_6 in
      let from_4 : first (row_4 t n o s ∷ after_4) ≡ Some q → H o q = or_rest (row_4 t n o s) after_4 q (H o q) (λ f. fourth_row o q f) from_6 in
      let after_2 : List (Option Reason) = row_4 t n o s ∷ after_4 in
      let from_2 : first (row_2 o s ∷ after_2) ≡ Some q → H o q = or_rest (row_2 o s) after_2 q (H o q) (λ f. second_row o q f) from_4 in
      let after_1 : List (Option Reason) = row_2 o s ∷ after_2 in
      let from_1 : first (row_1 t n o s ∷ after_1) ≡ Some q → H o q = or_rest (row_1 t n o s) after_1 q (H o q) (λ f. first_row o q f) from_2 in
      from_1 e

pub hold : ReasonsHold
hold l shape addresses s reason e =
    let n = there (slice_get l.nodes s.at) (λ n. why_of (text l shape addresses) n n.op s) reason e in
    record { node = n.0; here = n.1; holds = by_rows (text l shape addresses) n.0 s n.0.op reason n.2 }
