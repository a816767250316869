-- Nodes with two results, on any target.
use Rattle.std.proofs.Common.{◌≡◌, ◌≢◌, ℕ, zero, suc, ◌<◌, ◌⊎◌, inl, inr, Bool, true, false, List, [], ◌∷◌, Option, Some, refl, sym, ap, ◌∙◌, arith}
use Rattle.std.specs.Prelude.{◌||◌}
use Rattle.std.proofs.lemmas.Bool.{or_left, or_right, or_cases}
use Rattle.lg_base.specs.Conventions.{portable_register}
use Rattle.lg_base.specs.declared.target.Target.{Target}
use Rattle.lg_op.specs.declared.op.WideOp.{WideOp}
use Rattle.lg_op.specs.declared.op.LastOperand.{LastOperand}
use Rattle.lg_op.specs.declared.op.LastOperand.TheVariants as last_operand
use Rattle.lg_op.specs.declared.node.Node.{Node}
use Rattle.lg_op.specs.declared.operand.Reg.{Reg}
use Rattle.lg_op.specs.declared.operand.Reg.TheVariants.{R0, R1, R2, V0, V1, V2, Fp}
use Rattle.lg_op.specs.declared.operand.Operand.{Operand}
use Rattle.lg_op.specs.declared.operand.Operand.TheVariants as operand
use Rattle.lg_op.specs.Operators.{wide_value}
use Rattle.lg_live.specs.Registers.{is_same}
use Rattle.lg_live.specs.Uses.{is_read, is_written}
use Rattle.lg_op.specs.Operands.{number_of}
use Rattle.lg_meaning.specs.States.{State, reg, value}
use Rattle.lg_meaning.specs.Steps.{Undefined, on, with_reg, with_word}
use Rattle.lg_meaning.specs.Texts.{step}
use Rattle.lg_temp.specs.Abis.{register_of}
use Rattle.lg_carry.specs.FinalNodes.{Code}
use Rattle.lg_carry.specs.NodeCode.{numbered}
use Rattle.lg_carry.proofs.RegistersApartLemmas.{conventions-apart}
use Rattle.lg_temp.specs.declared.choice.Choice.{Choice}
use Rattle.lg_carry.specs.TextNodes.{IsInText}
use Rattle.lg_carry.specs.Values.ValueNodes.{wide_node}
use Rattle.lg_carry.specs.Values.Computers.{Held, Computer, computed, HeldRead, HeldTo, ComputingNode}
use Rattle.lg_carry.proofs.OfNodes.RegisterLemmas.{stands-for, number-few, numbered-at, same-self, only-number, some-same}
use Rattle.lg_carry.specs.Values.Values.{ComputesInto, HoldsPair, WideNodesCompute}
use Rattle.lg_carry.proofs.OfValues.ResultLemmas.{or-false, step-is, TwoGiven, two-given}

-- ---- two registers are written
register-at : ℕ → Reg
register-at zero = R0
register-at (suc zero) = R1
register-at (suc (suc zero)) = R2
register-at (suc (suc (suc zero))) = V0
register-at (suc (suc (suc (suc zero)))) = V1
register-at (suc (suc (suc (suc (suc zero))))) = V2
register-at r = Fp

numbered-back : (d : Reg) → register-at (number_of d) ≡ d
unfolding register-at
numbered-back R0 = refl
numbered-back _ = refl

number-apart : (d e : Reg) → d ≢ e → number_of d ≢ number_of e
number-apart d e ne = λ z. ne (sym (numbered-back d) ∙ ap register-at z ∙ numbered-back e)

pub registers-apart : (target : Target) (d e : Reg) → d ≢ Fp → e ≢ Fp → d ≢ e → register_of target d ≢ register_of target e
registers-apart target d e nd ne apart = λ z. number-apart d e apart ((conventions-apart target).portable (number_of d) (number_of e) (number-few d nd) (number-few e ne) (sym (stands-for target d nd) ∙ z ∙ stands-for target e ne))

numbered-or : (f g : Reg → Bool) (r : ℕ) → numbered (λ q. f q || g q) r ≡ (numbered f r || numbered g r)
numbered-or f g (suc (suc (suc (suc (suc (suc r)))))) = refl
numbered-or f g _ = refl

clash : {b : Bool} → b ≡ true → b ≡ false → ⊥
clash e h = cc

with-same : (regs : ℕ → Option ℕ) (a b v : ℕ) → a ≡ b → with_word regs b v a ≡ Some v
with-same regs a b v e = grind (arith, e)

with-other : (regs : ℕ → Option ℕ) (a b v : ℕ) → a ≢ b → with_word regs b v a ≡ regs a
with-other regs a b v ne = grind (arith, ne)

module _ (target : Target) (n : Node) (d e : Reg) (nd : d ≢ Fp) (ne : e ≢ Fp) (apart : d ≢ e) (writes : (q : Reg) → is_written n q ≡ (is_same e q || is_same d q)) where
  set-is : is_written n ≡ (λ q. is_same e q || is_same d q)
  set-is = λ i. λ q. writes q i

  pub writes-first : is_written n d ≡ true
  writes-first = writes d ∙ or_right (is_same e d) (is_same d d) (same-self d nd)

  pub writes-second : is_written n e ≡ true
  writes-second = writes e ∙ or_left (is_same e e) (is_same d e) (same-self e ne)

  pub holds-two : (s t : State) (p : ℕ × ℕ) (u : ℕ → ℕ) → t.regs ≡ with_word (with_word s.regs (number_of d) p.0) (number_of e) p.1 → HoldsPair (register_of target d) (register_of target e) p u → (written : (r x : ℕ) → r < 6 → numbered (is_written n) r ≡ true → t.regs r ≡ Some x → u (portable_register target r) ≡ x) × ((r : ℕ) → r < 6 → numbered (is_written n) r ≡ false → t.regs r ≡ s.regs r)
  holds-two s t p u regs h = (written, others)
    where
      at-first : (r x : ℕ) → r ≡ number_of d → t.regs r ≡ Some x → u (portable_register target r) ≡ x
      at-first r x z k =
          let m : r ≢ number_of e = λ y. number-apart d e apart (sym z ∙ y) in
          let v : p.0 ≡ x = some-same p.0 x (sym (ap (λ f. f r) regs ∙ with-other (with_word s.regs (number_of d) p.0) r (number_of e) p.1 m ∙ with-same s.regs r (number_of d) p.0 z) ∙ k) in
          ap (λ y. u (portable_register target y)) z ∙ ap u (sym (stands-for target d nd)) ∙ h.first ∙ v

      at-second : (r x : ℕ) → r ≡ number_of e → t.regs r ≡ Some x → u (portable_register target r) ≡ x
      at-second r x z k =
          let v : p.1 ≡ x = some-same p.1 x (sym (ap (λ f. f r) regs ∙ with-same (with_word s.regs (number_of d) p.0) r (number_of e) p.1 z) ∙ k) in
          ap (λ y. u (portable_register target y)) z ∙ ap u (sym (stands-for target e ne)) ∙ h.second ∙ v

      written : (r x : ℕ) → r < 6 → numbered (is_written n) r ≡ true → t.regs r ≡ Some x → u (portable_register target r) ≡ x
      written r x lt on k = by (or_cases (numbered (is_same e) r) (numbered (is_same d) r) (sym (numbered-or (is_same e) (is_same d) r) ∙ ap (λ set. numbered set r) (sym set-is) ∙ on))
        where
          by : (numbered (is_same e) r ≡ true) ⊎ (numbered (is_same d) r ≡ true) → u (portable_register target r) ≡ x
          by (inl z) = at-second r x (only-number e r z) k
          by (inr z) = at-first r x (only-number d r z) k

      others : (r : ℕ) → r < 6 → numbered (is_written n) r ≡ false → t.regs r ≡ s.regs r
      others r lt off =
          let md : r ≢ number_of d = λ z. clash (ap (numbered (is_written n)) z ∙ numbered-at (is_written n) d nd ∙ writes-first) off in
          let me : r ≢ number_of e = λ z. clash (ap (numbered (is_written n)) z ∙ numbered-at (is_written n) e ne ∙ writes-second) off in
          ap (λ f. f r) regs ∙ with-other (with_word s.regs (number_of d) p.0) r (number_of e) p.1 me ∙ with-other s.regs r (number_of d) p.0 md

-- ---- the nodes
-- the code makes the two words from the two that are given
module _ {Q I : Type 0} (M : Computer Q I) (scratch : ℕ → Bool) (c : Code) (i : ℕ) (o : WideOp) (last : LastOperand) (d e a : Reg) (x : Operand) (line : ℕ) (nd : d ≢ Fp) (ne : e ≢ Fp) (apart : d ≢ e) (t : IsInText c i (wide_node o last d e a x line))
    (choices : List Choice) (body : List I) (into : ComputesInto M scratch (d ∷ e ∷ []) choices body)
    (makes : (s : State) (w : Held) (m k : ℕ) (p : ℕ × ℕ) → HeldRead M.rows.processor.target (wide_node o last d e a x line) s w → w.registers (register_of M.rows.processor.target a) ≡ m → value c.addresses s x ≡ Some k → wide_value o m k ≡ Some p
    → HoldsPair (register_of M.rows.processor.target d) (register_of M.rows.processor.target e) p (computed M.computed_by body w).registers) where
  abbrev n : Node
  n = wide_node o last d e a x line

  abbrev to : State → ℕ × ℕ → State
  to s p = on (with_reg (with_reg s (operand.Reg d) p.0) (operand.Reg e) p.1)

  abbrev Given : State → Type 0
  Given s = TwoGiven (reg s a) (value c.addresses s x) (wide_value o) (λ m k p. to s p) (step c.nodes c.shape c.addresses s)

  writes : (q : Reg) → is_written n q ≡ (is_same e q || is_same d q)
  writes q = by last
    where
      by : (l : LastOperand) → is_written (wide_node o l d e a x line) q ≡ (is_same e q || is_same d q)
      by last_operand.Register = or-false (is_same e q || is_same d q)
      by last_operand.Immediate = or-false (is_same e q || is_same d q)

  reads-first : a ≢ Fp → is_read n a ≡ true
  reads-first k = or_left _ false (or_left _ false (or_right _ (is_same a a) (same-self a k)))

  pub wide-computed : ComputingNode M scratch c i n choices body
  wide-computed = record {
    computes = into.computes;
    keeps = λ w r k. into.keeps w r (k.written d nd (writes-first M.rows.processor.target n d e nd ne apart writes), (k.written e ne (writes-second M.rows.processor.target n d e nd ne apart writes), tt)) k.taken k.spoilt k.carry;
    steps = λ s w at h. by s w h (two-given (reg s a) (value c.addresses s x) (wide_value o) (λ m k p. to s p) (step c.nodes c.shape c.addresses s) (step-is c i n s t at));
  }
    where
      by : (s : State) (w : Held) → HeldRead M.rows.processor.target n s w → (step c.nodes c.shape c.addresses s ≡ Undefined) ⊎ Given s → (step c.nodes c.shape c.addresses s ≡ Undefined) ⊎ HeldTo M.rows.processor.target c n s (computed M.computed_by body w)
      by s w h (inl k) = inl k
      by s w h (inr g) =
          let two = holds-two M.rows.processor.target n d e nd ne apart writes s (to s g.v) g.v (computed M.computed_by body w).registers refl (makes s w g.x g.y g.v h (h.registers a g.x reads-first g.first) g.second g.third) in
          inr record {
            to = to s g.v;
            goes = g.goes;
            on = record { at = refl; frame = refl; callers = refl; pushed = refl; mem = refl; mark = refl; data_size = refl; args_size = refl; answer = refl };
            holds = record { written = two.0; others = two.1; carry = tt };
          }

pub wide-nodes-compute : {Q I : Type 0} (M : Computer Q I) → WideNodesCompute M
wide-nodes-compute M scratch c i o last d e a x line choices body nd ne apart t into makes =
    wide-computed M scratch c i o last d e a x line nd ne apart t choices body into makes
