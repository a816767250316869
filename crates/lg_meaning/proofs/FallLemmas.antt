-- The operations that only change registers and the carry, and go on to the next node.
use Rattle.std.proofs.Common.{◌≡◌, ℕ, ◌+◌, Bool, true, false, List, Option, refl}
use Rattle.std.specs.Prelude.{if◌then◌else◌, slice_get}
use Rattle.lg_op.specs.declared.node.Node.{Node}
use Rattle.lg_op.specs.declared.operand.Operand.{Operand}
use Rattle.lg_op.specs.declared.op.Addressing.{Addressing}
use Rattle.lg_op.specs.declared.op.BinaryOp.{BinaryOp}
use Rattle.lg_op.specs.declared.op.LastOperand.{LastOperand}
use Rattle.lg_op.specs.declared.op.Op.TheVariants as op
use Rattle.lg_op.specs.declared.op.UnaryOp.{UnaryOp}
use Rattle.lg_op.specs.declared.op.ValueType.{ValueType}
use Rattle.lg_op.specs.declared.op.WideOp.{WideOp}
use Rattle.lg_op.specs.declared.carry.Carry.{Carry}
use Rattle.lg_op.specs.Operators.{sets_carry, keeps_carry, binary_value, unary_value, carry_in, wide_value, width}
use Rattle.lg_meaning.specs.States.{State, value}
use Rattle.lg_meaning.specs.Steps.{Outcome, Text, slot, operand_at, on, on_with_carry, with_reg, operate, binary_step, carry_step, wide_step, unary_step, movi_step, read, address, load_step, retval_step, getarg_step, va_start_step, va_arg_step, va_end_step, node_step}
use Rattle.lg_meaning.proofs.Outcomes.{OnGoes, need_on}

-- a state at a node that differs in registers, carry and answer alone
pub record Moves (s t : State) (k : ℕ) : Type 0 where
  pub at : t.at ≡ k
  pub frame : t.frame ≡ s.frame
  pub callers : t.callers ≡ s.callers
  pub pushed : t.pushed ≡ s.pushed
  pub variadic : t.variadic ≡ s.variadic
  pub mem : t.mem ≡ s.mem
  pub mark : t.mark ≡ s.mark
  pub data_size : t.data_size ≡ s.data_size
  pub args_size : t.args_size ≡ s.args_size

-- one at the next node
abbrev pub Falls : State → State → Type 0
Falls s t = Moves s t (s.at + 1)

module _ (s : State) where
  pub move : (k : ℕ) (regs : ℕ → Option ℕ) (carry : Carry) (answer : Option ℕ) → Moves s (record s { at = k; regs = regs; carry = carry; answer = answer }) k
  move k regs carry answer = record { at = refl; frame = refl; callers = refl; pushed = refl; variadic = refl; mem = refl; mark = refl; data_size = refl; args_size = refl }

  fall : (regs : ℕ → Option ℕ) (carry : Carry) (answer : Option ℕ) → Falls s (record s { at = s.at + 1; regs = regs; carry = carry; answer = answer })
  fall regs carry answer = move (s.at + 1) regs carry answer

  pub operate_falls : (d : Operand) (r : Option ℕ) → OnGoes (Falls s) (operate s d r)
  operate_falls d r = need_on (Falls s) r _ (λ v e. fall _ _ _)

  binary_falls : (A : List ℕ) (n : Node) (f : ℕ → ℕ → Option ℕ) → OnGoes (Falls s) (binary_step A n f s)
  binary_falls A n f = need_on (Falls s) (value A s (operand_at n 1)) _ (λ a e. need_on (Falls s) (value A s (operand_at n 2)) _ (λ b g. operate_falls (operand_at n 0) (f a b)))

  carried_falls : (A : List ℕ) (n : Node) (o : BinaryOp) → OnGoes (Falls s) (carry_step A n o s)
  carried_falls A n o = need_on (Falls s) (value A s (operand_at n 1)) _ (λ a e. need_on (Falls s) (value A s (operand_at n 2)) _ (λ b g. need_on (Falls s) (carry_in o s.carry) _ (λ bit h. fall _ _ _)))

  on_either : (t : Bool) (x y : Outcome) → OnGoes (Falls s) x → OnGoes (Falls s) y → OnGoes (Falls s) (if t then x else y)
  on_either true x y h k = h
  on_either false x y h k = k

  pub binary_node_falls : (t : Text) (n : Node) (o : BinaryOp) (last : LastOperand) → OnGoes (Falls s) (node_step t n (op.Binary o last) s)
  binary_node_falls t n o last = on_either (sets_carry o) (carry_step t.addresses n o s) (binary_step t.addresses n (binary_value o) s) (carried_falls t.addresses n o) (binary_falls t.addresses n (binary_value o))

  pub wide_falls : (A : List ℕ) (n : Node) (o : WideOp) → OnGoes (Falls s) (wide_step A n o s)
  wide_falls A n o = need_on (Falls s) (value A s (operand_at n 2)) _ (λ a e. need_on (Falls s) (value A s (operand_at n 3)) _ (λ b g. need_on (Falls s) (wide_value o a b) _ (λ p h. fall _ _ _)))

  one_of_two : (t : Bool) (u v : State) → Falls s u → Falls s v → Falls s (if t then u else v)
  one_of_two true u v h k = h
  one_of_two false u v h k = k

  pub unary_falls : (A : List ℕ) (n : Node) (o : UnaryOp) → OnGoes (Falls s) (unary_step A n o s)
  unary_falls A n o = need_on (Falls s) (value A s (operand_at n 1)) _ (λ a e. one_of_two (keeps_carry o) (on_with_carry (with_reg s (operand_at n 0) (unary_value o a))) (on (with_reg s (operand_at n 0) (unary_value o a))) (fall _ _ _) (fall _ _ _))

  pub movi_falls : (A : List ℕ) (n : Node) → OnGoes (Falls s) (movi_step A n s)
  movi_falls A n = need_on (Falls s) (value A s (operand_at n 1)) _ (λ a e. fall _ _ _)

  pub load_falls : (A : List ℕ) (n : Node) (t : ValueType) (at : Addressing) → OnGoes (Falls s) (load_step A n t at s)
  load_falls A n t at = need_on (Falls s) (address A s at n 1) _ (λ a e. need_on (Falls s) (read s a (width t)) _ (λ v g. fall _ _ _))

  pub retval_falls : (n : Node) (t : ValueType) → OnGoes (Falls s) (retval_step n t s)
  retval_falls n t = need_on (Falls s) s.answer _ (λ v e. fall _ _ _)

  pub getarg_falls : (n : Node) (t : ValueType) → OnGoes (Falls s) (getarg_step n t s)
  getarg_falls n t = need_on (Falls s) (slice_get s.frame.args (slot (operand_at n 1))) _ (λ v e. fall _ _ _)

  pub va_start_falls : (A : List ℕ) (n : Node) → OnGoes (Falls s) (va_start_step A n s)
  va_start_falls A n = operate_falls (operand_at n 0) (value A s (operand_at n 1))

  pub va_arg_falls : (A : List ℕ) (n : Node) → OnGoes (Falls s) (va_arg_step A n s)
  va_arg_falls A n = need_on (Falls s) (value A s (operand_at n 1)) _ (λ i e. need_on (Falls s) (slice_get s.frame.args i) _ (λ v h. fall _ _ _))

  pub va_end_falls : (A : List ℕ) (n : Node) → OnGoes (Falls s) (va_end_step A n s)
  va_end_falls A n = need_on (Falls s) (value A s (operand_at n 0)) _ (λ i e. fall _ _ _)

  pub passing_falls : Falls s (on s)
  passing_falls = fall _ _ _
