-- Nodes of one word, on any target: the carry is gone after them, or stays.
use Rattle.std.proofs.Common.{◌≡◌, ◌≢◌, ℕ, ◌⊎◌, inl, inr, Bool, true, false, List, [], ◌∷◌, Option, Some, refl, sym, ap, ◌∙◌}
use Rattle.std.specs.Prelude.{◌||◌, if◌then◌else◌}
use Rattle.lg_op.specs.declared.op.UnaryOp.{UnaryOp}
use Rattle.lg_op.specs.declared.node.Node.{Node}
use Rattle.lg_op.specs.declared.operand.Reg.{Reg}
use Rattle.lg_op.specs.declared.operand.Reg.TheVariants.{Fp}
use Rattle.lg_op.specs.declared.operand.Operand.TheVariants as operand
use Rattle.lg_op.specs.Operators.{extended_by_type, unary_value, keeps_carry}
use Rattle.lg_live.specs.Registers.{is_same}
use Rattle.lg_live.specs.Uses.{is_written}
use Rattle.lg_meaning.specs.States.{State, reg, value}
use Rattle.lg_meaning.specs.Steps.{Undefined, need, quiet, on, on_with_carry, with_reg}
use Rattle.lg_meaning.specs.Texts.{step}
use Rattle.lg_temp.specs.Abis.{register_of}
use Rattle.lg_temp.specs.declared.choice.Choice.{Choice}
use Rattle.lg_base.specs.Flags.{carry_of}
use Rattle.lg_carry.specs.FinalNodes.{Code}
use Rattle.lg_carry.specs.Registers.{HoldsCarry}
use Rattle.lg_carry.specs.TextNodes.{IsInText}
use Rattle.lg_carry.specs.Nodes.Straight.{IsKept}
use Rattle.lg_carry.specs.Values.Computers.{Held, Computer, computed, HeldRead, HeldTo, ComputingNode}
use Rattle.lg_carry.proofs.OfNodes.RegisterLemmas.{same-self, some-same}
use Rattle.lg_carry.specs.Values.ValueNodes.{unary_node, movi_node, va_start_node, retval_node}
use Rattle.lg_carry.specs.Values.Values.{ComputesInto, KeepsCarry, UnaryNodesCompute, MoviNodesCompute, VaStartNodesCompute, RetvalNodesCompute}
use Rattle.lg_carry.proofs.OfValues.ResultLemmas.{or-false, step-is, OneGiven, one-given, holds-one, kept-apart}

module _ {Q I : Type 0} (M : Computer Q I) (scratch : ℕ → Bool) (c : Code) (i : ℕ) (n : Node) (d : Reg) (named : d ≢ Fp) (writes : (q : Reg) → is_written n q ≡ is_same d q) (choices : List Choice) (body : List I)
    (into : ComputesInto M scratch (d ∷ []) choices body)
    (given : State → Option ℕ) (value : ℕ → ℕ)
    (makes : (s : State) (w : Held) (m : ℕ) → HeldRead M.rows.processor.target n s w → given s ≡ Some m → (computed M.computed_by body w).registers (register_of M.rows.processor.target d) ≡ value m) where
  keeps-all : (w : Held) (r : ℕ) → IsKept M.rows.processor.target scratch n choices r → (computed M.computed_by body w).registers r ≡ w.registers r
  keeps-all w r k = into.keeps w r (kept-apart M.rows.processor.target n d named writes scratch choices r k, tt) k.taken k.spoilt k.carry

  pub one-word : ((s : State) → s.at ≡ i → step c.nodes c.shape c.addresses s ≡ need (given s) (λ m. quiet (on (with_reg s (operand.Reg d) (value m))))) → ComputingNode M scratch c i n choices body
  one-word steps_so = record { computes = into.computes; keeps = keeps-all; steps = λ s w at h. by s w h (one-given (given s) (λ m. on (with_reg s (operand.Reg d) (value m))) (step c.nodes c.shape c.addresses s) (steps_so s at)) }
    where
      by : (s : State) (w : Held) → HeldRead M.rows.processor.target n s w → (step c.nodes c.shape c.addresses s ≡ Undefined) ⊎ OneGiven (given s) (λ m. on (with_reg s (operand.Reg d) (value m))) (step c.nodes c.shape c.addresses s)
          → (step c.nodes c.shape c.addresses s ≡ Undefined) ⊎ HeldTo M.rows.processor.target c n s (computed M.computed_by body w)
      by s w h (inl e) = inl e
      by s w h (inr g) = inr record {
        to = on (with_reg s (operand.Reg d) (value g.x));
        goes = g.goes;
        on = record { at = refl; frame = refl; callers = refl; pushed = refl; mem = refl; mark = refl; data_size = refl; args_size = refl; answer = refl };
        holds = holds-one M.rows.processor.target n d named writes s (on (with_reg s (operand.Reg d) (value g.x))) (value g.x) (computed M.computed_by body w) refl (makes s w g.x h g.first) tt;
      }

  pub one-word-kept : ((s : State) (w : Held) → HeldRead M.rows.processor.target n s w → HoldsCarry M.rows.processor.target (computed M.computed_by body w).registers (carry_of (computed M.computed_by body w).flags) s.carry)
      → ((s : State) → s.at ≡ i → step c.nodes c.shape c.addresses s ≡ need (given s) (λ m. quiet (on_with_carry (with_reg s (operand.Reg d) (value m))))) → ComputingNode M scratch c i n choices body
  one-word-kept carries steps_so = record { computes = into.computes; keeps = keeps-all; steps = λ s w at h. by s w h (one-given (given s) (λ m. on_with_carry (with_reg s (operand.Reg d) (value m))) (step c.nodes c.shape c.addresses s) (steps_so s at)) }
    where
      by : (s : State) (w : Held) → HeldRead M.rows.processor.target n s w → (step c.nodes c.shape c.addresses s ≡ Undefined) ⊎ OneGiven (given s) (λ m. on_with_carry (with_reg s (operand.Reg d) (value m))) (step c.nodes c.shape c.addresses s)
          → (step c.nodes c.shape c.addresses s ≡ Undefined) ⊎ HeldTo M.rows.processor.target c n s (computed M.computed_by body w)
      by s w h (inl e) = inl e
      by s w h (inr g) = inr record {
        to = on_with_carry (with_reg s (operand.Reg d) (value g.x));
        goes = g.goes;
        on = record { at = refl; frame = refl; callers = refl; pushed = refl; mem = refl; mark = refl; data_size = refl; args_size = refl; answer = refl };
        holds = holds-one M.rows.processor.target n d named writes s (on_with_carry (with_reg s (operand.Reg d) (value g.x))) (value g.x) (computed M.computed_by body w) refl (makes s w g.x h g.first) (carries s w h);
      }

-- ---- the nodes
module _ {Q I : Type 0} (M : Computer Q I) (scratch : ℕ → Bool) (c : Code) (i : ℕ) (o : UnaryOp) (d a : Reg) (line : ℕ) (named : d ≢ Fp) (t : IsInText c i (unary_node o d a line))
    (choices : List Choice) (body : List I) (into : ComputesInto M scratch (d ∷ []) choices body) (moves : keeps_carry o ≡ true → KeepsCarry M body)
    (makes : (s : State) (w : Held) (m : ℕ) → HeldRead M.rows.processor.target (unary_node o d a line) s w → w.registers (register_of M.rows.processor.target a) ≡ m
    → (computed M.computed_by body w).registers (register_of M.rows.processor.target d) ≡ unary_value o m) where
  abbrev n : Node
  n = unary_node o d a line

  abbrev to : State → ℕ → State
  to s m = with_reg s (operand.Reg d) (unary_value o m)

  made : (s : State) (w : Held) (m : ℕ) → HeldRead M.rows.processor.target n s w → reg s a ≡ Some m → (computed M.computed_by body w).registers (register_of M.rows.processor.target d) ≡ unary_value o m
  made s w m h e = makes s w m h (h.registers a m (λ ne. ap (λ z. z || false) (same-self a ne)) e)

  step-so : (b : Bool) → keeps_carry o ≡ b → (s : State) → s.at ≡ i → step c.nodes c.shape c.addresses s ≡ need (reg s a) (λ m. quiet (if b then on_with_carry (to s m) else on (to s m)))
  step-so b e s at = step-is c i n s t at ∙ ap (λ z. need (reg s a) (λ m. quiet (if z then on_with_carry (to s m) else on (to s m)))) e

  unary-computes : ComputingNode M scratch c i n choices body
  unary-computes = by (keeps_carry o) refl
    where
      by : (b : Bool) → keeps_carry o ≡ b → ComputingNode M scratch c i n choices body
      by true e = one-word-kept M scratch c i n d named (λ q. or-false (is_same d q)) choices body into (λ s. reg s a) (unary_value o) made (λ s w h. moves e w s.carry h.carry) (step-so true e)
      by false e = one-word M scratch c i n d named (λ q. or-false (is_same d q)) choices body into (λ s. reg s a) (unary_value o) made (step-so false e)

pub unary-nodes-compute : {Q I : Type 0} (M : Computer Q I) → UnaryNodesCompute M
unary-nodes-compute M scratch c i o d a line choices body named t into moves makes = unary-computes M scratch c i o d a line named t choices body into moves makes

pub movi-nodes-compute : {Q I : Type 0} (M : Computer Q I) → MoviNodesCompute M
movi-nodes-compute M scratch c i d x v line choices body named given t into carries makes =
    one-word-kept M scratch c i (movi_node d x line) d named (λ q. or-false (is_same d q)) choices body into (λ s. value c.addresses s x) (λ m. m)
    (λ s w m h e. makes w ∙ some-same v m (sym (given s) ∙ e)) (λ s w h. carries w s.carry h.carry) (λ s at. step-is c i (movi_node d x line) s t at)

-- the number of the text
pub va-start-nodes-compute : {Q I : Type 0} (M : Computer Q I) → VaStartNodesCompute M
va-start-nodes-compute M scratch c i d k line choices body named t into makes =
    one-word M scratch c i (va_start_node d k line) d named (λ q. or-false (is_same d q)) choices body into (λ s. Some k) (λ m. m)
    (λ s w m h e. makes w ∙ some-same k m e) (λ s at. step-is c i (va_start_node d k line) s t at)

-- the word of the result register, by its type
pub retval-nodes-compute : {Q I : Type 0} (M : Computer Q I) → RetvalNodesCompute M
retval-nodes-compute M scratch c i t d line choices body named x into makes =
    one-word M scratch c i (retval_node t d line) d named (λ q. or-false (is_same d q)) choices body into (λ s. s.answer) (extended_by_type t)
    (λ s w m h e. makes w h.words ∙ ap (extended_by_type t) (h.result.is m e)) (λ s at. step-is c i (retval_node t d line) s x at)
