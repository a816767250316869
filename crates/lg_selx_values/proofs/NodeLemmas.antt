-- Nodes whose code gives registers the words of their operations.
use Rattle.std.proofs.Common.{◌≡◌, ◌≢◌, ℕ, ◌+◌, ◌-◌, ◌≤◌, ◌⊎◌, inl, inr, Bool, true, false, List, Some, refl, ap, ◌∙◌, arith}
use Rattle.std.specs.Prelude.{if◌then◌else◌}
use Rattle.lg_base.specs.Layout.{frame_pointer}
use Rattle.lg_base.specs.Words.{add_words}
use Rattle.lg_base.specs.declared.target.Target.TheVariants.{X86_64}
use Rattle.lg_op.specs.declared.op.BinaryOp.{BinaryOp}
use Rattle.lg_op.specs.declared.op.LastOperand.{LastOperand}
use Rattle.lg_op.specs.declared.op.LastOperand.TheVariants as last_operand
use Rattle.lg_op.specs.declared.node.Node.{Node}
use Rattle.lg_op.specs.declared.operand.Reg.{Reg}
use Rattle.lg_op.specs.declared.operand.Reg.TheVariants.{Fp}
use Rattle.lg_op.specs.declared.operand.Operand.{Operand}
use Rattle.lg_op.specs.declared.operand.Operand.TheVariants as operand
use Rattle.lg_op.specs.Operators.{binary_value, sets_carry, carry_in, value_with_carry, carry_made}
use Rattle.lg_live.specs.Registers.{is_same}
use Rattle.lg_live.specs.Uses.{is_read, is_written}
use Rattle.lg_meaning.specs.States.{State, reg, value}
use Rattle.lg_meaning.specs.Steps.{Undefined, on, with_reg, bit_word, goes_with_carry, binary_step, carry_step}
use Rattle.lg_meaning.specs.Texts.{step}
use Rattle.lg_temp.specs.Abis.{register_of}
use Rattle.lg_temp.specs.declared.choice.Choice.{Choice}
use Rattle.lg_carry.specs.FinalNodes.{Code}
use Rattle.lg_carry.specs.Processors.{Seen}
use Rattle.lg_carry.specs.TextNodes.{IsInText}
use Rattle.lg_carry.specs.Nodes.Straight.{HoldsRead}
use Rattle.lg_carry.proofs.OfNodes.RegisterLemmas.{same-self}
use Rattle.lg_carry.specs.Values.Computers.{Held}
use Rattle.lg_carry.specs.Values.ValueNodes.{binary_node}
use Rattle.lg_carry.proofs.OfValues.ResultLemmas.{or-false, or-middle, step-is, TwoGiven, two-given, holds-one, kept-apart}
use Rattle.lg_x86.specs.declared.instruction.Instr.{Instr}
use Rattle.lg_selx_values.specs.Processor.MakingNodes.{StepsBy, MakesNode}
use Rattle.lg_selx_values.specs.Processor.X86Computers.{x86_scratch}
use Rattle.lg_selx_values.specs.WordLaws.{IsInFrame, MakesWithCarry}
use Rattle.lg_selx_values.specs.Words.{MakesWord}

-- ---- what is seen
abbrev pub holding : Seen → Held
holding q = record { registers = q.registers; flags = q.flags }

pointer-sum : (sp frame fp : ℕ) → fp ≡ frame_pointer (sp + frame) → 272 ≤ frame → 0x3FF00010 ≤ sp → sp + frame ≤ 0x40000000 → add_words sp (frame - 16) ≡ fp
pointer-sum sp frame fp e a b c = grind (arith, e, a, b, c)

pub in-frame : (n : Node) (frame : ℕ) (s : State) (q : Seen) → HoldsRead X86_64 n frame s q → IsInFrame frame (holding q)
in-frame n frame s q h = record { words = h.in_frame.seen.words; pointer = pointer-sum (q.registers 4) frame (q.registers 5) h.in_frame.pointer h.in_frame.large h.in_frame.low h.in_frame.high }

-- ---- the step
plain-step : (c : Code) (o : BinaryOp) (s : State) (n : Node) → sets_carry o ≡ false → (if sets_carry o then carry_step c.addresses n o s else binary_step c.addresses n (binary_value o) s) ≡ binary_step c.addresses n (binary_value o) s
plain-step c o s n plain = ap (λ z. if z then carry_step c.addresses n o s else binary_step c.addresses n (binary_value o) s) plain

only-carried : (c : Code) (o : BinaryOp) (s : State) (n : Node) → sets_carry o ≡ true → (if sets_carry o then carry_step c.addresses n o s else binary_step c.addresses n (binary_value o) s) ≡ carry_step c.addresses n o s
only-carried c o s n h = ap (λ z. if z then carry_step c.addresses n o s else binary_step c.addresses n (binary_value o) s) h

-- ---- two words into one register
module _ (c : Code) (i frame : ℕ) (o : BinaryOp) (last : LastOperand) (d a : Reg) (x : Operand) (line : ℕ) (named : d ≢ Fp) (t : IsInText c i (binary_node o last d a x line)) (choices : List Choice) (body : List Instr) where
  abbrev n : Node
  n = binary_node o last d a x line

  pub writes : (q : Reg) → is_written n q ≡ is_same d q
  writes q = by last
    where
      by : (l : LastOperand) → is_written (binary_node o l d a x line) q ≡ is_same d q
      by last_operand.Register = or-false (is_same d q)
      by last_operand.Immediate = or-false (is_same d q)

  reads-first : a ≢ Fp → is_read n a ≡ true
  reads-first ne = or-middle _ (is_same a a) false (same-self a ne)

  abbrev Given : State → Type 0
  Given s = TwoGiven (reg s a) (value c.addresses s x) (binary_value o) (λ m k v. on (with_reg s (operand.Reg d) v)) (step c.nodes c.shape c.addresses s)

  pub binary-makes : sets_carry o ≡ false
      → ((s : State) (q : Seen) (m k z : ℕ) → HoldsRead X86_64 n frame s q → q.registers (register_of X86_64 a) ≡ m → value c.addresses s x ≡ Some k → binary_value o m k ≡ Some z → MakesWord choices body (register_of X86_64 d) z (holding q))
      → MakesNode c i n frame choices body
  binary-makes plain word = record {
    steps = λ s q at h. by s q h (two-given (reg s a) (value c.addresses s x) (binary_value o) (λ m k v. on (with_reg s (operand.Reg d) v)) (step c.nodes c.shape c.addresses s) (step-is c i n s t at ∙ plain-step c o s n plain));
  }
    where
      by : (s : State) (q : Seen) → HoldsRead X86_64 n frame s q → (step c.nodes c.shape c.addresses s ≡ Undefined) ⊎ Given s → (step c.nodes c.shape c.addresses s ≡ Undefined) ⊎ StepsBy c n choices body s q
      by s q h (inl e) = inl e
      by s q h (inr g) =
          let m = word s q g.x g.y g.v h (h.registers a g.x reads-first g.first) g.second g.third in
          inr record {
            to = on (with_reg s (operand.Reg d) g.v);
            goes = g.goes;
            on = record { at = refl; frame = refl; callers = refl; pushed = refl; mem = refl; mark = refl; data_size = refl; args_size = refl; answer = refl };
            end = m.registers;
            flags = m.flags;
            makes_it = λ bytes. m.makes_it bytes;
            keeps = λ r k. m.keeps r (kept-apart X86_64 n d named writes x86_scratch choices r k) k.taken;
            holds = holds-one X86_64 n d named writes s (on (with_reg s (operand.Reg d) g.v)) g.v record { registers = m.registers; flags = m.flags } refl m.value tt;
          }

  -- and the carry
  abbrev reached : State → ℕ → ℕ → Bool → State
  reached s m k bit = goes_with_carry s (operand.Reg d) (value_with_carry o m k (bit_word bit)) (carry_made o m k (bit_word bit))

  abbrev CarriedGiven : State → Type 0
  CarriedGiven s = TwoGiven (reg s a) (value c.addresses s x) (λ m k. carry_in o s.carry) (reached s) (step c.nodes c.shape c.addresses s)

  pub carried-makes : sets_carry o ≡ true
      → ((s : State) (q : Seen) (m k : ℕ) (bit : Bool) → HoldsRead X86_64 n frame s q → q.registers (register_of X86_64 a) ≡ m → value c.addresses s x ≡ Some k → carry_in o s.carry ≡ Some bit
      → MakesWithCarry o body (register_of X86_64 d) m k (bit_word bit) (holding q)) → MakesNode c i n frame choices body
  carried-makes carries word = record {
    steps = λ s q at h. by s q h (two-given (reg s a) (value c.addresses s x) (λ m k. carry_in o s.carry) (reached s) (step c.nodes c.shape c.addresses s) (step-is c i n s t at ∙ only-carried c o s n carries));
  }
    where
      by : (s : State) (q : Seen) → HoldsRead X86_64 n frame s q → (step c.nodes c.shape c.addresses s ≡ Undefined) ⊎ CarriedGiven s → (step c.nodes c.shape c.addresses s ≡ Undefined) ⊎ StepsBy c n choices body s q
      by s q h (inl e) = inl e
      by s q h (inr g) =
          let m = word s q g.x g.y g.v h (h.registers a g.x reads-first g.first) g.second g.third in
          inr record {
            to = reached s g.x g.y g.v;
            goes = g.goes;
            on = record { at = refl; frame = refl; callers = refl; pushed = refl; mem = refl; mark = refl; data_size = refl; args_size = refl; answer = refl };
            end = m.word.registers;
            flags = m.word.flags;
            makes_it = λ bytes. m.word.makes_it bytes;
            keeps = λ r k. m.word.keeps r (kept-apart X86_64 n d named writes x86_scratch choices r k) refl;
            holds = holds-one X86_64 n d named writes s (reached s g.x g.y g.v) (value_with_carry o g.x g.y (bit_word g.v)) record { registers = m.word.registers; flags = m.word.flags } refl m.word.value m.holds;
          }
