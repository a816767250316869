-- Nodes with two results.
use Rattle.std.proofs.Common.{◌≡◌, ◌≢◌, ℕ, ◌<◌, ◌⊎◌, inl, inr, Bool, true, false, List, [], ◌∷◌, Some, refl, sym, ◌∙◌, arith}
use Rattle.std.specs.Prelude.{◌==◌, ◌||◌}
use Rattle.std.proofs.lemmas.Bool.{or_left, or_right, or_cases}
use Rattle.lg_base.specs.declared.target.Target.TheVariants.{X86_64}
use Rattle.lg_op.specs.declared.op.WideOp.{WideOp}
use Rattle.lg_op.specs.declared.op.LastOperand.{LastOperand}
use Rattle.lg_op.specs.declared.op.LastOperand.TheVariants as last_operand
use Rattle.lg_op.specs.declared.node.Node.{Node}
use Rattle.lg_op.specs.declared.operand.Reg.{Reg}
use Rattle.lg_op.specs.declared.operand.Reg.TheVariants.{Fp}
use Rattle.lg_op.specs.declared.operand.Operand.{Operand}
use Rattle.lg_op.specs.declared.operand.Operand.TheVariants as operand
use Rattle.lg_op.specs.Operators.{wide_value}
use Rattle.lg_live.specs.Registers.{is_same}
use Rattle.lg_live.specs.Uses.{is_read, is_written}
use Rattle.lg_meaning.specs.States.{State, reg, value}
use Rattle.lg_meaning.specs.Steps.{Undefined, on, with_reg}
use Rattle.lg_meaning.specs.Texts.{step}
use Rattle.lg_temp.specs.Abis.{register_of}
use Rattle.lg_temp.specs.Chosen.{around, is_named}
use Rattle.lg_temp.specs.Choices.{AreFor}
use Rattle.lg_temp.specs.declared.choice.Need.TheVariants.{Only}
use Rattle.lg_temp.specs.declared.choice.Choice.{Choice}
use Rattle.lg_carry.specs.FinalNodes.{Code}
use Rattle.lg_carry.specs.Processors.{Seen}
use Rattle.lg_carry.specs.TextNodes.{IsInText}
use Rattle.lg_carry.specs.Nodes.Straight.{HoldsRead, is_taken}
use Rattle.lg_carry.proofs.OfNodes.RegisterLemmas.{same-self}
use Rattle.lg_carry.specs.Values.ValueNodes.{wide_node}
use Rattle.lg_carry.proofs.OfValues.ResultLemmas.{or-false, step-is, TwoGiven, two-given}
use Rattle.lg_x86.specs.declared.instruction.Instr.{Instr}
use Rattle.lg_selx_values.specs.Processor.MakingNodes.{StepsBy, MakesNode}
use Rattle.lg_selx_values.specs.RegisterNodes.{wide_registers, WideRegistersCarry, WideNumbersCarry}
use Rattle.lg_selx_values.specs.WideCode.{wide_code, wide_number_code}
use Rattle.lg_selx_values.specs.Words.{MakesPair}
use Rattle.lg_selx_values.proofs.NeedLemmas.{named-apart, same-register}
use Rattle.lg_selx_values.proofs.NodeLemmas.{holding, in-frame}
use Rattle.lg_carry.proofs.OfValues.TwoResultLemmas.{registers-apart, holds-two, writes-first, writes-second}
use Rattle.lg_selx_values.proofs.RegisterLemmas.{register-portable, register-not-frame}
use Rattle.lg_selx_values.proofs.RegisterNodeLemmas.{two-named, chosen-carries}
use Rattle.lg_selx_values.proofs.WideCodeLemmas.{some-same, wide-pairs-are-made}
use Rattle.lg_selx_values.proofs.WideNumberLemmas.{wide-numbers-are-made}

both-written : (o : WideOp) (last : LastOperand) (d e a : Reg) (x : Operand) (line : ℕ) (q : Reg) → is_written (wide_node o last d e a x line) q ≡ (is_same e q || is_same d q)
both-written o last_operand.Register d e a x line q = or-false (is_same e q || is_same d q)
both-written o last_operand.Immediate d e a x line q = or-false (is_same e q || is_same d q)

module _ (c : Code) (i frame : ℕ) (o : WideOp) (last : LastOperand) (d e a : Reg) (x : Operand) (line : ℕ) (nd : d ≢ Fp) (ne : e ≢ Fp) (apart : d ≢ e) (t : IsInText c i (wide_node o last d e a x line)) (choices : List Choice) (body : List Instr)
    (pair : (s : State) (q : Seen) (m k : ℕ) (p : ℕ × ℕ) → HoldsRead X86_64 (wide_node o last d e a x line) frame s q → q.registers (register_of X86_64 a) ≡ m → value c.addresses s x ≡ Some k → wide_value o m k ≡ Some p
    → MakesPair choices body (register_of X86_64 d) (register_of X86_64 e) p (holding q)) where
  abbrev n : Node
  n = wide_node o last d e a x line

  abbrev to : State → ℕ × ℕ → State
  to s p = on (with_reg (with_reg s (operand.Reg d) p.0) (operand.Reg e) p.1)

  abbrev Given : State → Type 0
  Given s = TwoGiven (reg s a) (value c.addresses s x) (wide_value o) (λ m k p. to s p) (step c.nodes c.shape c.addresses s)

  writes : (q : Reg) → is_written n q ≡ (is_same e q || is_same d q)
  writes q = both-written o last d e a x line q

  reads-first : a ≢ Fp → is_read n a ≡ true
  reads-first k = or_left _ false (or_left _ false (or_right _ (is_same a a) (same-self a k)))

  wide-makes : MakesNode c i n frame choices body
  wide-makes = record {
    steps = λ s q at h. by s q h (two-given (reg s a) (value c.addresses s x) (wide_value o) (λ m k p. to s p) (step c.nodes c.shape c.addresses s) (step-is c i n s t at));
  }
    where
      by : (s : State) (q : Seen) → HoldsRead X86_64 n frame s q → (step c.nodes c.shape c.addresses s ≡ Undefined) ⊎ Given s → (step c.nodes c.shape c.addresses s ≡ Undefined) ⊎ StepsBy c n choices body s q
      by s q h (inl k) = inl k
      by s q h (inr g) =
          let m = pair s q g.x g.y g.v h (h.registers a g.x reads-first g.first) g.second g.third in
          let two = holds-two X86_64 n d e nd ne apart writes s (to s g.v) g.v m.registers refl record { first = m.first; second = m.second } in
          inr record {
            to = to s g.v;
            goes = g.goes;
            on = record { at = refl; frame = refl; callers = refl; pushed = refl; mem = refl; mark = refl; data_size = refl; args_size = refl; answer = refl };
            end = m.registers;
            flags = m.flags;
            makes_it = λ bytes. m.makes_it bytes;
            keeps = λ r k. m.keeps r (k.written d nd (writes-first X86_64 n d e nd ne apart writes)) (k.written e ne (writes-second X86_64 n d e nd ne apart writes)) k.taken;
            holds = record { written = two.0; others = two.1; carry = tt };
          }

needs-small : (r : ℕ) → is_named (Only 0 ∷ Only 2 ∷ []) r ≡ true → r < 3
needs-small r e = grind (arith, e)

-- a register that is neither of the node's own nor taken is not spoilt
kept : (o : WideOp) (last : LastOperand) (d e a : Reg) (x : Operand) (line : ℕ) (live : Reg → Bool) (staged : List Bool) (choices : List Choice)
    → AreFor (around X86_64 (wide_node o last d e a x line) live staged) (Only 0 ∷ Only 2 ∷ []) [] (Only 0 ∷ Only 2 ∷ []) choices
    → (r : ℕ) → is_taken choices r ≡ false → r ≢ register_of X86_64 d → r ≢ register_of X86_64 e → (z : Bool) → ((r == 0) || (r == 2)) ≡ z → z ≡ false
kept o last d e a x line live staged choices chosen r free f g false z = refl
kept o last d e a x line live staged choices chosen r free f g true z =
    let s = named-apart (wide_node o last d e a x line) live staged (Only 0 ∷ Only 2 ∷ []) choices r (λ q. is_same e q || is_same d q) (both-written o last d e a x line) chosen (two-named r z) free in
    absurd (apart_of s.register s.is (or_cases (is_same e s.register) (is_same d s.register) s.among))
  where
    apart_of : (p : Reg) → register_of X86_64 p ≡ r → (is_same e p ≡ true) ⊎ (is_same d p ≡ true) → ⊥
    apart_of p is (inl h) = g (sym (same-register e p h ∙ is))
    apart_of p is (inr h) = f (sym (same-register d p h ∙ is))

pub wide-registers-carry : WideRegistersCarry
wide-registers-carry code trash c i frame o d e a b line live choices nd ne apart k =
    let n = wide_registers o d e a b line in
    let rd = register_of X86_64 d in
    let re = register_of X86_64 e in
    let ra = register_of X86_64 a in
    let rb = register_of X86_64 b in
    let body = wide_code o frame rd re ra rb in
    let pd = register-portable d in
    let pe = register-portable e in
    chosen-carries code trash c i frame n live choices body refl refl needs-small (omega arith) k
    (wide-makes c i frame o last_operand.Register d e a (operand.Reg b) line nd ne apart k.in_text choices body
    (λ s q x y p h ex ey ep.
    let eb : q.registers rb ≡ y = h.registers b y (λ z. or_left _ false (or_left _ false (or_left _ (is_same a b) (same-self b z)))) ey in
    let same : wide_value o (q.registers ra) (q.registers rb) ≡ wide_value o x y = (λ j. wide_value o (ex j) (eb j)) in
    wide-pairs-are-made choices frame rd re ra rb (holding q) (registers-apart X86_64 d e nd ne apart) pd.no_rdx pe.no_rdx (register-not-frame d nd) (register-not-frame e ne) pd.no_stack pe.no_stack (register-portable a).no_rdx (in-frame n frame s q h)
    (λ r free f g. kept o last_operand.Register d e a (operand.Reg b) line live k.staged choices k.chosen r free f g ((r == 0) || (r == 2)) refl) o p (same ∙ ep)))

pub wide-numbers-carry : WideNumbersCarry
wide-numbers-carry code trash c i frame o d e a x v line live choices nd ne apart small given k =
    let n = wide_node o last_operand.Immediate d e a x line in
    let rd = register_of X86_64 d in
    let re = register_of X86_64 e in
    let ra = register_of X86_64 a in
    let body = wide_number_code o frame rd re ra v in
    let pd = register-portable d in
    let pe = register-portable e in
    chosen-carries code trash c i frame n live choices body refl refl needs-small (omega arith) k
    (wide-makes c i frame o last_operand.Immediate d e a x line nd ne apart k.in_text choices body
    (λ s q m y p h em ey ep.
    let z : v ≡ y = some-same v y (sym (given s) ∙ ey) in
    let same : wide_value o (q.registers ra) v ≡ wide_value o m y = (λ j. wide_value o (em j) (z j)) in
    wide-numbers-are-made choices frame rd re ra v (holding q) (registers-apart X86_64 d e nd ne apart) pd.no_rdx pe.no_rdx (register-not-frame d nd) (register-not-frame e ne) pd.no_stack pe.no_stack small (in-frame n frame s q h)
    (λ r free f g. kept o last_operand.Immediate d e a x line live k.staged choices k.chosen r free f g ((r == 0) || (r == 2)) refl) o p (same ∙ ep)))
