-- A step is undefined exactly where the table has a reason.
use Rattle.std.proofs.Common.{◌≡◌, ℕ, ◌+◌, ◌-◌, Bool, true, false, not, List, [], ◌∷◌, Option, Some, None, refl, ap, subst}
use Rattle.std.specs.Prelude.{◌==◌, ◌||◌, nat_le, if◌then◌else◌, is_none, slice_get, slice_index, slice_index_or}
use Rattle.std.specs.Option.{option_and_then, option_map}
use Rattle.lg_base.specs.HostNames.{host_address, host_by_address}
use Rattle.lg_base.specs.Spaces.{loaded}
use Rattle.lg_base.specs.Words.{add_words}
use Rattle.lg_base.specs.declared.host_name.HostName.{HostName}
use Rattle.lg_host.specs.Host.{Host, Gives, Exits, memory, host_of}
use Rattle.lg_host.specs.Host as host
use Rattle.lg_op.specs.Forms.{admit}
use Rattle.lg_op.specs.Nodes.{InForm}
use Rattle.lg_op.specs.declared.form.Form.TheVariants as form
use Rattle.lg_op.specs.declared.node.Node.{Node}
use Rattle.lg_op.specs.declared.operand.Operand.{Operand}
use Rattle.lg_op.specs.declared.operand.Operand.TheVariants as operand
use Rattle.lg_op.specs.declared.op.Op.{Op}
use Rattle.lg_op.specs.declared.op.Op.TheVariants as op
use Rattle.lg_op.specs.declared.op.BinaryOp.{BinaryOp}
use Rattle.lg_op.specs.declared.op.BinaryOp.TheVariants as binary
use Rattle.lg_op.specs.declared.op.WideOp.{WideOp}
use Rattle.lg_op.specs.declared.op.WideOp.TheVariants as wide
use Rattle.lg_op.specs.declared.op.Addressing.{Addressing}
use Rattle.lg_op.specs.declared.op.Addressing.TheVariants as addressing
use Rattle.lg_op.specs.declared.op.ControlOp.{ControlOp}
use Rattle.lg_op.specs.declared.op.ControlOp.TheVariants as control
use Rattle.lg_op.specs.declared.op.PlainOp.{PlainOp}
use Rattle.lg_op.specs.declared.op.PlainOp.TheVariants as plain
use Rattle.lg_op.specs.declared.op.LastOperand.{LastOperand}
use Rattle.lg_op.specs.declared.op.LastOperand.TheVariants as last_operand
use Rattle.lg_op.specs.declared.op.StoreType.{StoreType}
use Rattle.lg_op.specs.declared.op.ValueType.{ValueType}
use Rattle.lg_node.specs.declared.function.Function.{Function}
use Rattle.lg_node.specs.Nodes.{LabelledNodes}
use Rattle.lg_node.specs.Functions.{frame_of}
use Rattle.lg_node.specs.Shapes.{TextShape, IsShapeOf}
use Rattle.lg_node.proofs.FunctionLaws.{node_within}
use Rattle.lg_node.proofs.WellShaped.{well_shaped}
use Rattle.lg_cells.specs.Memories.{writable}
use Rattle.lg_op.specs.Operators.{binary_value, sets_carry, carry_in, is_least_by_minus_one, wide_value, word_where, pair_where, width, store_width}
use Rattle.lg_meaning.specs.States.{Frame, State, value, is_open}
use Rattle.lg_meaning.specs.Steps.{Outcome, Undefined, Text, need, when, is_indexed, quiet, operand_at, operate, node_step, jump_target, load_to, store_to, back_to, host_end, call_host, is_marked, call_node, call_operand, call_named, call_word, enter, entry_target, node_of_label, function_here, slot}
use Rattle.lg_meaning.specs.Texts.{text, step}
use Rattle.lg_meaning.specs.Fits.{Fits, RunsIn, IsTopOf}
use Rattle.lg_meaning.specs.Laws.{IsFormedAt, IsWhy}
use Rattle.lg_meaning.specs.Reasons.{where_so, where_none, given, first, register, cannot_divide, cannot_divide_widely, outside, called_by_name, called_at, finds_no_room, is_undefined, is_not_allowed, why_of, why}
use Rattle.lg_meaning.specs.declared.reason.Called.{Called}
use Rattle.lg_meaning.specs.declared.reason.Called.TheVariants.{OfHost, OfText}
use Rattle.lg_meaning.specs.declared.reason.Reason.{Reason}
use Rattle.lg_meaning.specs.declared.reason.Reason.TheVariants.{Unset, NoCarry, NoQuotient, Outside, Unwritten, NoLabel, NoFunction, NoRoom, NoResult, NoArgument, NotAllowed, NoVariable}

-- rows that do not hold
abbrev none_5 : List (Option Reason)
none_5 = None ∷ None ∷ None ∷ None ∷ None ∷ []

abbrev none_8 : List (Option Reason)
none_8 = None ∷ None ∷ None ∷ none_5

-- ---- rows in front of others
missing : {A : Type 0} (v : Option A) (r : Reason) (rs : List (Option Reason)) (f : A → Outcome) → ((a : A) → v ≡ Some a → IsWhy (f a) (first rs)) → IsWhy (need v f) (first (where_none v r ∷ rs))
missing None r rs f h = refl
missing (Some a) r rs f h = h a refl

reads_one : (v : Option ℕ) (r : Reason) (rs : List (Option Reason)) (f : ℕ → Outcome) → ((a : ℕ) → v ≡ Some a → IsWhy (f a) (first rs)) → IsWhy (need v f) (first (first (where_none v r ∷ []) ∷ rs))
reads_one None r rs f h = refl
reads_one (Some a) r rs f h = h a refl

reads_two : (v w : Option ℕ) (r q : Reason) (rs : List (Option Reason)) (f : ℕ → ℕ → Outcome) → ((a b : ℕ) → v ≡ Some a → w ≡ Some b → IsWhy (f a b) (first rs))
    → IsWhy (need v (λ a. need w (f a))) (first (first (where_none v r ∷ where_none w q ∷ []) ∷ rs))
reads_two None w r q rs f h = refl
reads_two (Some a) None r q rs f h = refl
reads_two (Some a) (Some b) r q rs f h = h a b refl refl

allows : (c : Bool) (r : Reason) (rs : List (Option Reason)) (t : State) → first rs ≡ None → IsWhy (when c (quiet t)) (first (where_so (not c) r ∷ rs))
allows true r rs t h = h
allows false r rs t h = refl

-- ---- quotients
module _ (s : State) (d : Operand) where
  divided : (c : Bool) (q : ℕ) (r : Reason) → IsWhy (operate s d (word_where (not c) q)) (first (where_so c r ∷ none_8))
  divided true q r = refl
  divided false q r = refl

  quotient_why : (o : BinaryOp) (a b : ℕ) → sets_carry o ≡ false → IsWhy (operate s d (binary_value o a b)) (first (where_so (cannot_divide o a b) (NoQuotient a b) ∷ none_8))
  quotient_why binary.Div a b e = divided ((b == 0) || is_least_by_minus_one a b) _ (NoQuotient a b)
  quotient_why binary.Rem a b e = divided ((b == 0) || is_least_by_minus_one a b) _ (NoQuotient a b)
  quotient_why binary.DivU a b e = divided (b == 0) _ (NoQuotient a b)
  quotient_why binary.RemU a b e = divided (b == 0) _ (NoQuotient a b)
  quotient_why binary.Addc a b e = cc
  quotient_why binary.Subc a b e = cc
  quotient_why binary.Addx a b e = cc
  quotient_why binary.Subx a b e = cc
  quotient_why o a b e = refl

carried_divides : (o : BinaryOp) (a b : ℕ) → sets_carry o ≡ true → cannot_divide o a b ≡ false
carried_divides binary.Div a b e = cc
carried_divides binary.Rem a b e = cc
carried_divides binary.DivU a b e = cc
carried_divides binary.RemU a b e = cc
carried_divides o a b e = refl

carry_why : (k : Option Bool) (f : Bool → State) → IsWhy (need k (λ bit. quiet (f bit))) (first (where_so (is_none k) NoCarry ∷ None ∷ none_8))
carry_why None f = refl
carry_why (Some bit) f = refl

paired : (c : Bool) (p q : ℕ) (r : Reason) (f : ℕ × ℕ → State) → IsWhy (need (pair_where (not c) p q) (λ x. quiet (f x))) (first (where_so c r ∷ none_8))
paired true p q r f = refl
paired false p q r f = refl

wide_why : (o : WideOp) (a b : ℕ) (f : ℕ × ℕ → State) → IsWhy (need (wide_value o a b) (λ x. quiet (f x))) (first (where_so (cannot_divide_widely o a b) (NoQuotient a b) ∷ none_8))
wide_why wide.Div a b f = paired ((b == 0) || is_least_by_minus_one a b) _ _ (NoQuotient a b) f
wide_why wide.DivU a b f = paired (b == 0) _ _ (NoQuotient a b) f
wide_why o a b f = refl

-- ---- accesses
abbrev none_7 : List (Option Reason)
none_7 = None ∷ None ∷ none_5

read_why : (c : Bool) (m : Option ℕ) (r q : Reason) (f : ℕ → State) → IsWhy (need (if c then m else None) (λ v. quiet (f v))) (first (first (where_so (not c) r ∷ where_none m q ∷ []) ∷ none_7))
read_why false m r q f = refl
read_why true None r q f = refl
read_why true (Some v) r q f = refl

-- ---- calls
module _ (t : Text) (s : State) (args : List ℕ) where
  -- what comes of a call
  abbrev call_of : Option Called → Outcome
  call_of None = Undefined
  call_of (Some (OfHost name)) = call_host s args name
  call_of (Some (OfText f)) = enter s args f

  entered : (f : Option Function) → need f (enter s args) ≡ call_of (option_map OfText f)
  entered None = refl
  entered (Some f) = refl

  named : (w : ℕ) (name : Option HostName) → call_named t s args w name ≡ call_of (called_at t w name)
  named w (Some name) = refl
  named w None = by (entry_target t w)
    where
      by : (k : Option ℕ) → need k (call_node t s args) ≡ call_of (option_map OfText (option_and_then (function_here t.functions) k))
      by None = refl
      by (Some k) = entered (function_here t.functions k)

  operand_called : (x : Operand) → call_operand t s args x ≡ call_of (called_by_name t x)
  operand_called (operand.Host name) = refl
  operand_called x = entered (function_here t.functions (node_of_label t.places x))

  host_why : (h : Host) (r : Reason) → IsWhy (host_end s h) (first (where_so (is_undefined h) r ∷ None ∷ []))
  host_why (Gives v changes mark bytes) r = refl
  host_why other r = refl

  call_why : (c : Option Called) (w : ℕ) → IsWhy (call_of c) (first (where_none c (NoFunction w) ∷ given c (finds_no_room s) ∷ None ∷ None ∷ given c (is_not_allowed s args) ∷ None ∷ []))
  call_why None w = refl
  call_why (Some (OfHost name)) w = host_why (host_of name args (is_marked s.variadic) (memory s.mem (is_open s) s.mark)) (NotAllowed name)
  call_why (Some (OfText f)) w = allows (nat_le (0x3FF00010 + frame_of f) (s.frame.sp - s.frame.size)) (NoRoom (frame_of f)) (None ∷ None ∷ None ∷ None ∷ []) _ refl

leave_why : (s : State) (v : Option ℕ) (fs : List Frame) → IsWhy (back_to s v fs) None
leave_why s v [] = refl
leave_why s v (g ∷ gs) = refl

-- ---- the step of a node
module _ (t : Text) (n : Node) (s : State) where
  callee_first : (xs : List Operand) → admit (form.Callee ∷ []) xs ≡ true → (w : ℕ) × (value t.addresses s (slice_index_or xs 0 (operand.Number 0)) ≡ Some w)
  callee_first (operand.Label x ∷ xs) e = (slice_index t.addresses x.0, refl)
  callee_first (operand.Host name ∷ xs) e = (host_address name, refl)
  callee_first other e = cc

  abbrev value_of : ℕ → Option ℕ
  value_of i = value t.addresses s (operand_at n i)

  abbrev unset : ℕ → Reason
  unset i = Unset (register (operand_at n i))

  -- arithmetic and branches
  carried_by : (o : BinaryOp) (last : LastOperand) (c : Bool) → sets_carry o ≡ c → IsWhy (node_step t n (op.Binary o last) s) (why_of t n (op.Binary o last) s)
  carried_by o last true e = rw e
      (reads_two (value_of 1) (value_of 2) (unset 1) (unset 2) _ _ (λ a b f g. rw (f, g, carried_divides o a b e) (carry_why (carry_in o s.carry) _)))
  carried_by o last false e = rw e
      (reads_two (value_of 1) (value_of 2) (unset 1) (unset 2) _ _ (λ a b f g. rw (f, g) (quotient_why s (operand_at n 0) o a b e)))

  wide_by : (o : WideOp) (last : LastOperand) → IsWhy (node_step t n (op.Wide o last) s) (why_of t n (op.Wide o last) s)
  wide_by o last = reads_two (value_of 2) (value_of 3) (unset 2) (unset 3) _ _ (λ a b f g. rw (f, g) (wide_why o a b _))

  -- jumps and calls
  jump_by : IsWhy (node_step t n (op.Control control.Jmp last_operand.Register) s) (why_of t n (op.Control control.Jmp last_operand.Register) s)
  jump_by = reads_one (value_of 0) (unset 0) _ _ (λ w e. rw e (missing (jump_target t s.at w) (NoLabel w) _ _ (λ k f. refl)))

  called_by_word : (args : List ℕ) (w : ℕ) → IsWhy (call_word t s args w) (first (where_none (called_at t w (host_by_address w)) (NoFunction w)
      ∷ given (called_at t w (host_by_address w)) (finds_no_room s) ∷ None ∷ None ∷ given (called_at t w (host_by_address w)) (is_not_allowed s args) ∷ None ∷ []))
  called_by_word args w = rw (named t s args w (host_by_address w)) (call_why t s args (called_at t w (host_by_address w)) w)

  called_by_operand : (args : List ℕ) (w : ℕ) → IsWhy (call_operand t s args (operand_at n 0)) (first (where_none (called_by_name t (operand_at n 0)) (NoFunction w)
      ∷ given (called_by_name t (operand_at n 0)) (finds_no_room s) ∷ None ∷ None ∷ given (called_by_name t (operand_at n 0)) (is_not_allowed s args) ∷ None ∷ []))
  called_by_operand args w = rw (operand_called t s args (operand_at n 0)) (call_why t s args (called_by_name t (operand_at n 0)) w)

  call_by : (last : LastOperand) → InForm n → n.op ≡ op.Control control.Call last → IsWhy (node_step t n (op.Control control.Call last) s) (why_of t n (op.Control control.Call last) s)
  call_by last_operand.Register formed e = reads_one (value_of 0) (unset 0) _ _ (λ w f. rw f (called_by_word [] w))
  call_by last_operand.Immediate formed e = let x = callee_first n.operands (rw e at formed.forms) in rw x.1 (called_by_operand [] x.0)

  finish_by : (last : LastOperand) → InForm n → n.op ≡ op.Control control.Finish last → IsWhy (node_step t n (op.Control control.Finish last) s) (why_of t n (op.Control control.Finish last) s)
  finish_by last_operand.Register formed e = reads_one (value_of 0) (unset 0) _ _ (λ w f. rw f (called_by_word s.pushed w))
  finish_by last_operand.Immediate formed e = let x = callee_first n.operands (rw e at formed.forms) in rw x.1 (called_by_operand s.pushed x.0)

  control_by : (o : ControlOp) (last : LastOperand) → InForm n → n.op ≡ op.Control o last → IsWhy (node_step t n (op.Control o last) s) (why_of t n (op.Control o last) s)
  control_by control.Jmp last_operand.Register formed e = jump_by
  control_by control.Jmp last_operand.Immediate formed e = refl
  control_by control.Call last formed e = call_by last formed e
  control_by control.Finish last formed e = finish_by last formed e
  control_by control.Pusharg last formed e = reads_one (value_of 0) (unset 0) _ _ (λ w f. refl)
  control_by control.Ret last formed e = reads_one (value_of 0) (unset 0) _ _ (λ w f. leave_why s (Some w) s.callers)

  -- nodes that come in one form; a `prolog` is one of a function
  plain_by : (o : PlainOp) → (o ≡ plain.Prolog → (f : Function) × (function_here t.functions s.at ≡ Some f)) → IsWhy (node_step t n (op.Plain o) s) (why_of t n (op.Plain o) s)
  plain_by plain.Movi h = reads_one (value_of 1) (unset 1) _ _ (λ w f. refl)
  plain_by plain.Prolog h = let x = h refl in rw x.1 refl
  plain_by plain.Epilog h = leave_why s None s.callers
  plain_by plain.Ret h = leave_why s None s.callers
  plain_by plain.VaStart h = reads_one (value_of 1) (unset 1) _ _ (λ w f. refl)
  plain_by plain.VaArg h = reads_one (value_of 1) (unset 1) _ _ (λ i e. rw e (missing (slice_get s.frame.args i) (NoVariable i) _ _ (λ v f. refl)))
  plain_by plain.VaEnd h = reads_one (value_of 0) (unset 0) _ _ (λ w f. refl)
  plain_by other h = refl

  -- loads and stores
  loads : (v : ValueType) (a : ℕ) → IsWhy (load_to s v a (operand_at n 0)) (first (first (outside s a (width v) ∷ where_none (loaded s.mem a (width v)) (Unwritten (width v) a) ∷ []) ∷ none_7))
  loads v a = read_why (writable (is_open s) a (width v)) (loaded s.mem a (width v)) (Outside (width v) a) (Unwritten (width v) a) _

  stores : (v : StoreType) (a w : ℕ) → IsWhy (store_to s v a w) (first (outside s a (store_width v) ∷ none_7))
  stores v a w = allows (writable (is_open s) a (store_width v)) (Outside (store_width v) a) none_7 _ refl

  sum_load : (v : ValueType) (at : Addressing) (x : Option ℕ) → value_of 1 ≡ x → (y : Option ℕ) → value_of 2 ≡ y → is_indexed at ≡ true → IsWhy (node_step t n (op.Load v at) s) (why_of t n (op.Load v at) s)
  sum_load v at None e y f is = rw (is, e) refl
  sum_load v at (Some a) e None f is = rw (is, e, f) refl
  sum_load v at (Some a) e (Some b) f is = rw (is, e, f) (loads v (add_words a b))

  sum_store : (v : StoreType) (at : Addressing) (x : Option ℕ) → value_of 0 ≡ x → (y : Option ℕ) → value_of 1 ≡ y → (z : Option ℕ) → value_of 2 ≡ z → is_indexed at ≡ true → IsWhy (node_step t n (op.Store v at) s) (why_of t n (op.Store v at) s)
  sum_store v at None e y f z g is = rw (is, e) refl
  sum_store v at (Some a) e None f z g is = rw (is, e, f) refl
  sum_store v at (Some a) e (Some b) f None g is = rw (is, e, f, g) refl
  sum_store v at (Some a) e (Some b) f (Some w) g is = rw (is, e, f, g) (stores v (add_words a b) w)

  load_by : (v : ValueType) (at : Addressing) → IsWhy (node_step t n (op.Load v at) s) (why_of t n (op.Load v at) s)
  load_by v addressing.RegisterRegister = sum_load v addressing.RegisterRegister (value_of 1) refl (value_of 2) refl refl
  load_by v addressing.RegisterImmediate = sum_load v addressing.RegisterImmediate (value_of 1) refl (value_of 2) refl refl
  load_by v _ = reads_one (value_of 1) (unset 1) _ _ (λ a e. rw e (loads v a))

  store_by : (v : StoreType) (at : Addressing) → IsWhy (node_step t n (op.Store v at) s) (why_of t n (op.Store v at) s)
  store_by v addressing.RegisterRegister = sum_store v addressing.RegisterRegister (value_of 0) refl (value_of 1) refl (value_of 2) refl refl
  store_by v addressing.RegisterImmediate = sum_store v addressing.RegisterImmediate (value_of 0) refl (value_of 1) refl (value_of 2) refl refl
  store_by v _ = reads_two (value_of 0) (value_of 1) (unset 0) (unset 1) _ _ (λ a w e f. rw e (stores v a w))

  -- the step of a node is undefined exactly where the table has a reason
  pub node_why : (o : Op) → n.op ≡ o → InForm n → (o ≡ op.Plain plain.Prolog → (f : Function) × (function_here t.functions s.at ≡ Some f)) → IsWhy (node_step t n o s) (why_of t n o s)
  node_why (op.Binary o last) e formed h = carried_by o last (sets_carry o) refl
  node_why (op.Wide o last) e formed h = wide_by o last
  node_why (op.Branch c last) e formed h = reads_two (value_of 1) (value_of 2) (unset 1) (unset 2) _ _ (λ a b f g. refl)
  node_why (op.BranchSum o last) e formed h = reads_two (value_of 1) (value_of 2) (unset 1) (unset 2) _ _ (λ a b f g. refl)
  node_why (op.Control o last) e formed h = control_by o last formed e
  node_why (op.Unary o) e formed h = reads_one (value_of 1) (unset 1) _ _ (λ a f. refl)
  node_why (op.Plain o) e formed h = plain_by o (λ p. h (ap op.Plain p))
  node_why (op.Load v at) e formed h = load_by v at
  node_why (op.Store v at) e formed h = store_by v at
  node_why (op.Retval v) e formed h = missing s.answer NoResult _ _ (λ w f. refl)
  node_why (op.Getarg v) e formed h = missing (slice_get s.frame.args (slot (operand_at n 1))) (NoArgument (slot (operand_at n 1))) _ _ (λ w f. refl)

-- ---- the law
module _ (l : LabelledNodes) (shape : TextShape) (addresses : List ℕ) (s : State) (is : IsShapeOf l shape) (formed : IsFormedAt l s.at) (fits : Fits l shape s) where
  begins_one : (n : Node) → slice_get l.nodes s.at ≡ Some n → n.op ≡ op.Plain plain.Prolog → (f : Function) × (function_here shape.functions s.at ≡ Some f)
  begins_one n here e =
      let h = ((well_shaped l is.accepted).entries s.at (rw here (rw e refl))).0 in
      let r : RunsIn shape s s.at = subst (IsTopOf l shape s) h fits.top in (r.function, r.here)

  pub steps_why : IsWhy (step l shape addresses s) (why l shape addresses s)
  steps_why =
      let x = node_within l.nodes s.at fits.inside in
      rw x.1 (node_why (text l shape addresses) x.0 s x.0.op refl (formed x.0 x.1) (begins_one x.0 x.1))
