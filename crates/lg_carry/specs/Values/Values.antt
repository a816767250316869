-- The nodes that compute values: what is asked of their code, and that it is code that computes the node.
use Rattle.std.specs.Prelude.{◌≡◌, ◌≢◌, ℕ, ◌^◌, ◌<◌, Bool, true, false, List, [], ◌∷◌, Some, ⊤}
use Rattle.lg_base.specs.Flags.{carry_of}
use Rattle.lg_base.specs.Conventions.{result_register, carry_register}
use Rattle.lg_base.specs.declared.target.Target.{Target}
use Rattle.lg_op.specs.declared.op.BinaryOp.{BinaryOp}
use Rattle.lg_op.specs.declared.op.LastOperand.{LastOperand}
use Rattle.lg_op.specs.declared.op.UnaryOp.{UnaryOp}
use Rattle.lg_op.specs.declared.op.ValueType.{ValueType}
use Rattle.lg_op.specs.declared.op.WideOp.{WideOp}
use Rattle.lg_op.specs.declared.operand.Operand.{Operand}
use Rattle.lg_op.specs.declared.operand.Reg.{Reg}
use Rattle.lg_op.specs.declared.operand.Reg.TheVariants.{Fp}
use Rattle.lg_op.specs.declared.carry.Carry.{Carry}
use Rattle.lg_op.specs.Operators.{binary_value, sets_carry, carry_in, value_with_carry, carry_made, wide_value, unary_value, keeps_carry, extended_by_type}
use Rattle.lg_meaning.specs.States.{State, value}
use Rattle.lg_meaning.specs.Steps.{bit_word}
use Rattle.lg_temp.specs.Abis.{register_of}
use Rattle.lg_temp.specs.declared.choice.Choice.{Choice}
use Rattle.lg_carry.specs.FinalNodes.{Code}
use Rattle.lg_carry.specs.Registers.{HoldsCarry}
use Rattle.lg_carry.specs.TextNodes.{IsInText}
use Rattle.lg_carry.specs.Nodes.Straight.{is_taken}
use Rattle.lg_carry.specs.Values.Computers.{Held, Computer, all_compute, computed, HeldRead, ComputingNode}
use Rattle.lg_carry.specs.Values.ValueNodes.{binary_node, wide_node, unary_node, movi_node, va_start_node, retval_node}

-- ---- the code
-- a register that corresponds to none of these portable ones
abbrev pub StandsForNone : Target → List Reg → ℕ → Type 0
StandsForNone target [] x = ⊤
StandsForNone target (d ∷ ds) x = (x ≢ register_of target d) × StandsForNone target ds x

-- code that computes, and keeps each register but those of these results, temporaries, scratch registers and that of the carry
pub record ComputesInto {Q I : Type 0} (M : Computer Q I) (scratch : ℕ → Bool) (results : List Reg) (choices : List Choice) (body : List I) : Type 0 where
  pub computes : all_compute M.computes body ≡ true
  pub keeps : (w : Held) (x : ℕ) → StandsForNone M.rows.processor.target results x → is_taken choices x ≡ false → scratch x ≡ false
      → carry_register M.rows.processor.target ≢ Some x → (computed M.computed_by body w).registers x ≡ w.registers x

-- the carry is after it what it was before
abbrev pub KeepsCarry : {Q I : Type 0} → Computer Q I → List I → Type 0
KeepsCarry M body =
    (w : Held) (k : Carry) → HoldsCarry M.rows.processor.target w.registers (carry_of w.flags) k
    → HoldsCarry M.rows.processor.target (computed M.computed_by body w).registers (carry_of (computed M.computed_by body w).flags) k

-- what is held after the code of an operation that sets the carry, for the bit that it takes
pub record HoldsWithCarry (target : Target) (o : BinaryOp) (d x y c : ℕ) (u : Held) : Type 0 where
  pub value : u.registers d ≡ value_with_carry o x y c
  pub carry : HoldsCarry target u.registers (carry_of u.flags) (carry_made o x y c)

-- two words are in their registers
pub record HoldsPair (d e : ℕ) (p : ℕ × ℕ) (u : ℕ → ℕ) : Type 0 where
  pub first : u d ≡ p.0
  pub second : u e ≡ p.1

-- ---- the nodes
-- the code makes the word of the operation from the two words that are given
abbrev pub BinaryNodesCompute : {Q I : Type 0} → Computer Q I → Type 0
BinaryNodesCompute {Q} {I} M =
    (scratch : ℕ → Bool) (c : Code) (i : ℕ) (o : BinaryOp) (last : LastOperand) (d a : Reg) (x : Operand) (line : ℕ) (choices : List Choice) (body : List I)
    → sets_carry o ≡ false → d ≢ Fp → IsInText c i (binary_node o last d a x line) → ComputesInto M scratch (d ∷ []) choices body
    → ((s : State) (w : Held) (m k z : ℕ) → HeldRead M.rows.processor.target (binary_node o last d a x line) s w
    → w.registers (register_of M.rows.processor.target a) ≡ m → value c.addresses s x ≡ Some k → binary_value o m k ≡ Some z
    → (computed M.computed_by body w).registers (register_of M.rows.processor.target d) ≡ z)
    → ComputingNode M scratch c i (binary_node o last d a x line) choices body

-- and the carry, where the operation sets it
abbrev pub CarryNodesCompute : {Q I : Type 0} → Computer Q I → Type 0
CarryNodesCompute {Q} {I} M =
    (scratch : ℕ → Bool) (c : Code) (i : ℕ) (o : BinaryOp) (last : LastOperand) (d a : Reg) (x : Operand) (line : ℕ) (choices : List Choice) (body : List I)
    → sets_carry o ≡ true → d ≢ Fp → IsInText c i (binary_node o last d a x line) → ComputesInto M scratch (d ∷ []) choices body
    → ((s : State) (w : Held) (m k : ℕ) (bit : Bool) → HeldRead M.rows.processor.target (binary_node o last d a x line) s w
    → w.registers (register_of M.rows.processor.target a) ≡ m → value c.addresses s x ≡ Some k → carry_in o s.carry ≡ Some bit
    → HoldsWithCarry M.rows.processor.target o (register_of M.rows.processor.target d) m k (bit_word bit) (computed M.computed_by body w))
    → ComputingNode M scratch c i (binary_node o last d a x line) choices body

-- two words from two
abbrev pub WideNodesCompute : {Q I : Type 0} → Computer Q I → Type 0
WideNodesCompute {Q} {I} M =
    (scratch : ℕ → Bool) (c : Code) (i : ℕ) (o : WideOp) (last : LastOperand) (d e a : Reg) (x : Operand) (line : ℕ) (choices : List Choice) (body : List I)
    → d ≢ Fp → e ≢ Fp → d ≢ e → IsInText c i (wide_node o last d e a x line) → ComputesInto M scratch (d ∷ e ∷ []) choices body
    → ((s : State) (w : Held) (m k : ℕ) (p : ℕ × ℕ) → HeldRead M.rows.processor.target (wide_node o last d e a x line) s w
    → w.registers (register_of M.rows.processor.target a) ≡ m → value c.addresses s x ≡ Some k → wide_value o m k ≡ Some p
    → HoldsPair (register_of M.rows.processor.target d) (register_of M.rows.processor.target e) p (computed M.computed_by body w).registers)
    → ComputingNode M scratch c i (wide_node o last d e a x line) choices body

-- one word from one; a move keeps the carry
abbrev pub UnaryNodesCompute : {Q I : Type 0} → Computer Q I → Type 0
UnaryNodesCompute {Q} {I} M =
    (scratch : ℕ → Bool) (c : Code) (i : ℕ) (o : UnaryOp) (d a : Reg) (line : ℕ) (choices : List Choice) (body : List I)
    → d ≢ Fp → IsInText c i (unary_node o d a line) → ComputesInto M scratch (d ∷ []) choices body → (keeps_carry o ≡ true → KeepsCarry M body)
    → ((s : State) (w : Held) (m : ℕ) → HeldRead M.rows.processor.target (unary_node o d a line) s w
    → w.registers (register_of M.rows.processor.target a) ≡ m
    → (computed M.computed_by body w).registers (register_of M.rows.processor.target d) ≡ unary_value o m)
    → ComputingNode M scratch c i (unary_node o d a line) choices body

-- a word of the text, which keeps the carry too
abbrev pub MoviNodesCompute : {Q I : Type 0} → Computer Q I → Type 0
MoviNodesCompute {Q} {I} M =
    (scratch : ℕ → Bool) (c : Code) (i : ℕ) (d : Reg) (x : Operand) (v line : ℕ) (choices : List Choice) (body : List I)
    → d ≢ Fp → ((s : State) → value c.addresses s x ≡ Some v) → IsInText c i (movi_node d x line) → ComputesInto M scratch (d ∷ []) choices body
    → KeepsCarry M body → ((w : Held) → (computed M.computed_by body w).registers (register_of M.rows.processor.target d) ≡ v)
    → ComputingNode M scratch c i (movi_node d x line) choices body

-- the number of the first variable argument
abbrev pub VaStartNodesCompute : {Q I : Type 0} → Computer Q I → Type 0
VaStartNodesCompute {Q} {I} M =
    (scratch : ℕ → Bool) (c : Code) (i : ℕ) (d : Reg) (k line : ℕ) (choices : List Choice) (body : List I)
    → d ≢ Fp → IsInText c i (va_start_node d k line) → ComputesInto M scratch (d ∷ []) choices body
    → ((w : Held) → (computed M.computed_by body w).registers (register_of M.rows.processor.target d) ≡ k)
    → ComputingNode M scratch c i (va_start_node d k line) choices body

-- the result of a call, by its type
abbrev pub RetvalNodesCompute : {Q I : Type 0} → Computer Q I → Type 0
RetvalNodesCompute {Q} {I} M =
    (scratch : ℕ → Bool) (c : Code) (i : ℕ) (t : ValueType) (d : Reg) (line : ℕ) (choices : List Choice) (body : List I)
    → d ≢ Fp → IsInText c i (retval_node t d line) → ComputesInto M scratch (d ∷ []) choices body
    → ((w : Held) → ((r : ℕ) → w.registers r < 2 ^ 64)
    → (computed M.computed_by body w).registers (register_of M.rows.processor.target d)
    ≡ extended_by_type t (w.registers (result_register M.rows.processor.target)))
    → ComputingNode M scratch c i (retval_node t d line) choices body
