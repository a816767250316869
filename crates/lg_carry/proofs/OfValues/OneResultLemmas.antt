-- Nodes of two words into one register, on any target.
use Rattle.std.proofs.Common.{◌≡◌, ◌≢◌, ℕ, ◌⊎◌, inl, inr, Bool, true, false, List, [], ◌∷◌, Some, refl, ap, ◌∙◌}
use Rattle.std.specs.Prelude.{if◌then◌else◌}
use Rattle.lg_op.specs.declared.op.BinaryOp.{BinaryOp}
use Rattle.lg_op.specs.declared.op.LastOperand.{LastOperand}
use Rattle.lg_op.specs.declared.op.LastOperand.TheVariants as last_operand
use Rattle.lg_op.specs.declared.node.Node.{Node}
use Rattle.lg_op.specs.declared.operand.Reg.{Reg}
use Rattle.lg_op.specs.declared.operand.Reg.TheVariants.{Fp}
use Rattle.lg_op.specs.declared.operand.Operand.{Operand}
use Rattle.lg_op.specs.declared.operand.Operand.TheVariants as operand
use Rattle.lg_op.specs.Operators.{binary_value, sets_carry, carry_in, value_with_carry, carry_made}
use Rattle.lg_live.specs.Registers.{is_same}
use Rattle.lg_live.specs.Uses.{is_read, is_written}
use Rattle.lg_meaning.specs.States.{State, reg, value}
use Rattle.lg_meaning.specs.Steps.{Undefined, on, with_reg, bit_word, goes_with_carry, binary_step, carry_step}
use Rattle.lg_meaning.specs.Texts.{step}
use Rattle.lg_temp.specs.Abis.{register_of}
use Rattle.lg_carry.specs.FinalNodes.{Code}
use Rattle.lg_temp.specs.declared.choice.Choice.{Choice}
use Rattle.lg_carry.specs.TextNodes.{IsInText}
use Rattle.lg_carry.specs.Values.ValueNodes.{binary_node}
use Rattle.lg_carry.specs.Values.Computers.{Held, Computer, computed, HeldRead, HeldTo, ComputingNode}
use Rattle.lg_carry.proofs.OfNodes.RegisterLemmas.{same-self}
use Rattle.lg_carry.specs.Values.Values.{ComputesInto, HoldsWithCarry, BinaryNodesCompute, CarryNodesCompute}
use Rattle.lg_carry.proofs.OfValues.ResultLemmas.{or-false, or-middle, step-is, TwoGiven, two-given, holds-one, kept-apart}

-- ---- the step
plain-step : (c : Code) (o : BinaryOp) (s : State) (n : Node) → sets_carry o ≡ false → (if sets_carry o then carry_step c.addresses n o s else binary_step c.addresses n (binary_value o) s) ≡ binary_step c.addresses n (binary_value o) s
plain-step c o s n plain = ap (λ z. if z then carry_step c.addresses n o s else binary_step c.addresses n (binary_value o) s) plain

-- a node whose code makes the word of the operation from the two words that are given
module _ {Q I : Type 0} (M : Computer Q I) (scratch : ℕ → Bool) (c : Code) (i : ℕ) (o : BinaryOp) (last : LastOperand) (d a : Reg) (x : Operand) (line : ℕ) (plain : sets_carry o ≡ false) (named : d ≢ Fp) (t : IsInText c i (binary_node o last d a x line))
    (choices : List Choice) (body : List I) (into : ComputesInto M scratch (d ∷ []) choices body)
    (makes : (s : State) (w : Held) (m k z : ℕ) → HeldRead M.rows.processor.target (binary_node o last d a x line) s w → w.registers (register_of M.rows.processor.target a) ≡ m → value c.addresses s x ≡ Some k → binary_value o m k ≡ Some z
    → (computed M.computed_by body w).registers (register_of M.rows.processor.target d) ≡ z) where
  abbrev n : Node
  n = binary_node o last d a x line

  abbrev Given : State → Type 0
  Given s = TwoGiven (reg s a) (value c.addresses s x) (binary_value o) (λ m k v. on (with_reg s (operand.Reg d) v)) (step c.nodes c.shape c.addresses s)

  writes : (q : Reg) → is_written n q ≡ is_same d q
  writes q = by last
    where
      by : (l : LastOperand) → is_written (binary_node o l d a x line) q ≡ is_same d q
      by last_operand.Register = or-false (is_same d q)
      by last_operand.Immediate = or-false (is_same d q)

  reads-first : a ≢ Fp → is_read n a ≡ true
  reads-first ne = or-middle _ (is_same a a) false (same-self a ne)

  pub binary-computes : ComputingNode M scratch c i n choices body
  binary-computes = record {
    computes = into.computes;
    keeps = λ w r k. into.keeps w r (kept-apart M.rows.processor.target n d named writes scratch choices r k, tt) k.taken k.spoilt k.carry;
    steps = λ s w at h. by s w h (two-given (reg s a) (value c.addresses s x) (binary_value o) (λ m k v. on (with_reg s (operand.Reg d) v)) (step c.nodes c.shape c.addresses s) (step-is c i n s t at ∙ plain-step c o s n plain));
  }
    where
      by : (s : State) (w : Held) → HeldRead M.rows.processor.target n s w → (step c.nodes c.shape c.addresses s ≡ Undefined) ⊎ Given s → (step c.nodes c.shape c.addresses s ≡ Undefined) ⊎ HeldTo M.rows.processor.target c n s (computed M.computed_by body w)
      by s w h (inl e) = inl e
      by s w h (inr g) = inr record {
        to = on (with_reg s (operand.Reg d) g.v);
        goes = g.goes;
        on = record { at = refl; frame = refl; callers = refl; pushed = refl; mem = refl; mark = refl; data_size = refl; args_size = refl; answer = refl };
        holds = holds-one M.rows.processor.target n d named writes s (on (with_reg s (operand.Reg d) g.v)) g.v (computed M.computed_by body w) refl (makes s w g.x g.y g.v h (h.registers a g.x reads-first g.first) g.second g.third) tt;
      }

-- ---- operations that set the carry
only-carried : (c : Code) (o : BinaryOp) (s : State) (n : Node) → sets_carry o ≡ true → (if sets_carry o then carry_step c.addresses n o s else binary_step c.addresses n (binary_value o) s) ≡ carry_step c.addresses n o s
only-carried c o s n h = ap (λ z. if z then carry_step c.addresses n o s else binary_step c.addresses n (binary_value o) s) h

module _ {Q I : Type 0} (M : Computer Q I) (scratch : ℕ → Bool) (c : Code) (i : ℕ) (o : BinaryOp) (last : LastOperand) (d a : Reg) (x : Operand) (line : ℕ) (carries : sets_carry o ≡ true) (named : d ≢ Fp) (t : IsInText c i (binary_node o last d a x line))
    (choices : List Choice) (body : List I) (into : ComputesInto M scratch (d ∷ []) choices body)
    (makes : (s : State) (w : Held) (m k : ℕ) (bit : Bool) → HeldRead M.rows.processor.target (binary_node o last d a x line) s w → w.registers (register_of M.rows.processor.target a) ≡ m → value c.addresses s x ≡ Some k → carry_in o s.carry ≡ Some bit
    → HoldsWithCarry M.rows.processor.target o (register_of M.rows.processor.target d) m k (bit_word bit) (computed M.computed_by body w)) where
  abbrev cn : Node
  cn = binary_node o last d a x line

  abbrev reached : State → ℕ → ℕ → Bool → State
  reached s m k bit = goes_with_carry s (operand.Reg d) (value_with_carry o m k (bit_word bit)) (carry_made o m k (bit_word bit))

  abbrev CarriedGiven : State → Type 0
  CarriedGiven s = TwoGiven (reg s a) (value c.addresses s x) (λ m k. carry_in o s.carry) (reached s) (step c.nodes c.shape c.addresses s)

  carried-writes : (q : Reg) → is_written cn q ≡ is_same d q
  carried-writes q = by last
    where
      by : (l : LastOperand) → is_written (binary_node o l d a x line) q ≡ is_same d q
      by last_operand.Register = or-false (is_same d q)
      by last_operand.Immediate = or-false (is_same d q)

  carried-reads : a ≢ Fp → is_read cn a ≡ true
  carried-reads ne = or-middle _ (is_same a a) false (same-self a ne)

  pub carried-computes : ComputingNode M scratch c i cn choices body
  carried-computes = record {
    computes = into.computes;
    keeps = λ w r k. into.keeps w r (kept-apart M.rows.processor.target cn d named carried-writes scratch choices r k, tt) k.taken k.spoilt k.carry;
    steps = λ s w at h. by s w h (two-given (reg s a) (value c.addresses s x) (λ m k. carry_in o s.carry) (reached s) (step c.nodes c.shape c.addresses s) (step-is c i cn s t at ∙ only-carried c o s cn carries));
  }
    where
      by : (s : State) (w : Held) → HeldRead M.rows.processor.target cn s w → (step c.nodes c.shape c.addresses s ≡ Undefined) ⊎ CarriedGiven s → (step c.nodes c.shape c.addresses s ≡ Undefined) ⊎ HeldTo M.rows.processor.target c cn s (computed M.computed_by body w)
      by s w h (inl e) = inl e
      by s w h (inr g) =
          let m = makes s w g.x g.y g.v h (h.registers a g.x carried-reads g.first) g.second g.third in
          inr record {
            to = reached s g.x g.y g.v;
            goes = g.goes;
            on = record { at = refl; frame = refl; callers = refl; pushed = refl; mem = refl; mark = refl; data_size = refl; args_size = refl; answer = refl };
            holds = holds-one M.rows.processor.target cn d named carried-writes s (reached s g.x g.y g.v) (value_with_carry o g.x g.y (bit_word g.v)) (computed M.computed_by body w) refl m.value m.carry;
          }

pub binary-nodes-compute : {Q I : Type 0} (M : Computer Q I) → BinaryNodesCompute M
binary-nodes-compute M scratch c i o last d a x line choices body plain named t into makes =
    binary-computes M scratch c i o last d a x line plain named t choices body into makes

pub carried-nodes-compute : {Q I : Type 0} (M : Computer Q I) → CarryNodesCompute M
carried-nodes-compute M scratch c i o last d a x line choices body carries named t into makes =
    carried-computes M scratch c i o last d a x line carries named t choices body into makes
