-- Nodes with two results.
use Rattle.std.proofs.Common.{◌≡◌, ◌≢◌, ℕ, false, List, [], ◌∷◌, ◌++◌, Some, sym, ap, ◌∙◌, subst, arith}
use Rattle.std.proofs.lemmas.Bool.{or_left}
use Rattle.lg_base.specs.declared.target.Target.TheVariants.{Riscv64}
use Rattle.lg_op.specs.declared.op.WideOp.{WideOp}
use Rattle.lg_op.specs.declared.op.LastOperand.TheVariants as last_operand
use Rattle.lg_op.specs.declared.operand.Reg.{Reg}
use Rattle.lg_op.specs.declared.operand.Reg.TheVariants.{Fp}
use Rattle.lg_op.specs.declared.operand.Operand.{Operand}
use Rattle.lg_op.specs.declared.operand.Operand.TheVariants as operand
use Rattle.lg_op.specs.Operators.{wide_value}
use Rattle.lg_live.specs.Registers.{is_same}
use Rattle.lg_rv.specs.declared.instruction.Instr.{Instr}
use Rattle.lg_cpu.specs.HostSteps.{put}
use Rattle.lg_cpu.specs.RvStep.{read}
use Rattle.lg_meaning.specs.States.{State, value}
use Rattle.lg_temp.specs.Abis.{register_of}
use Rattle.lg_carry.specs.FinalNodes.{Code}
use Rattle.lg_carry.specs.TextNodes.{IsInText}
use Rattle.lg_selr_values.specs.Processor.Computations.{computed}
use Rattle.lg_selr_values.specs.Processor.RvComputers.{rv_scratch, rv_computer, IsComputed}
use Rattle.lg_selr_values.proofs.OfProcessor.ComputerLemmas.{registers-computed, into}
use Rattle.lg_selr_values.proofs.OfProcessor.ComputationLemmas.{computed-append, all-compute-append, read-other, put-other}
use Rattle.lg_selr_values.proofs.OfProcessor.RegisterLemmas.{read-of, register-apart}
use Rattle.lg_carry.proofs.OfNodes.RegisterLemmas.{same-self}
use Rattle.lg_selr_values.specs.WideCode.{wide_code}
use Rattle.lg_carry.specs.Values.ValueNodes.{wide_node}
use Rattle.lg_selr_values.proofs.LoadCodeLemmas.{some-same, LoadsWord, put-small}
use Rattle.lg_selr_values.proofs.WideCodeLemmas.{wide-value, wide-keeps, wide-computes}
use Rattle.lg_carry.proofs.OfValues.TwoResultLemmas.{registers-apart, wide-nodes-compute}
use Rattle.lg_carry.specs.Values.Values.{HoldsPair}

module _ (c : Code) (i : ℕ) (o : WideOp) (d e a : Reg) (line : ℕ) (nd : d ≢ Fp) (ne : e ≢ Fp) (apart : d ≢ e) where
  abbrev rd : ℕ
  rd = register_of Riscv64 d

  abbrev re : ℕ
  re = register_of Riscv64 e

  abbrev ra : ℕ
  ra = register_of Riscv64 a

  pub wide-registers : (b : Reg) → IsInText c i (wide_node o last_operand.Register d e a (operand.Reg b) line) → IsComputed c i (wide_node o last_operand.Register d e a (operand.Reg b) line) [] (wide_code o rd re ra (register_of Riscv64 b))
  wide-registers b t code trash =
      let rb = register_of Riscv64 b in
      let body = wide_code o rd re ra rb in
      wide-nodes-compute (rv_computer code trash) rv_scratch c i o last_operand.Register d e a (operand.Reg b) line [] body nd ne apart t
      (into code trash (d ∷ e ∷ []) [] body record { computes = wide-computes o rd re ra rb; keeps = λ w r off taken link carry. wide-keeps o rd re ra rb w r off.0 off.1.0 link })
      (λ s w m k p h em ek ez.
      let ea : read w.registers ra ≡ m = read-of w.registers a ∙ em in
      let eb : read w.registers rb ≡ k = read-of w.registers b ∙ h.registers b k (λ z. or_left _ false (or_left _ false (or_left _ (is_same a b) (same-self b z)))) ek in
      let same : wide_value o (read w.registers ra) (read w.registers rb) ≡ wide_value o m k = (λ j. wide_value o (ea j) (eb j)) in
      subst (HoldsPair rd re p) (sym (registers-computed body w))
      (wide-value rd re ra rb (register-apart d).0 (register-apart e).0 (registers-apart Riscv64 d e nd ne apart) (register-apart a).0 (register-apart b).0 w.registers h.words p o (same ∙ ez)))

  -- a word that the text gives, loaded into the register of the carry
  pub wide-loaded : (x : Operand) (v : ℕ) → ((s : State) → value c.addresses s x ≡ Some v) → (load : List Instr) → LoadsWord load 31 v
      → IsInText c i (wide_node o last_operand.Immediate d e a x line) → IsComputed c i (wide_node o last_operand.Immediate d e a x line) [] (load ++ wide_code o rd re ra 31)
  wide-loaded x v given load l t code trash =
      let body = load ++ wide_code o rd re ra 31 in
      wide-nodes-compute (rv_computer code trash) rv_scratch c i o last_operand.Immediate d e a x line [] body nd ne apart t
      (into code trash (d ∷ e ∷ []) [] body record {
        computes = all-compute-append load (wide_code o rd re ra 31) l.computes (wide-computes o rd re ra 31);
        keeps = λ w r off taken link carry. ap (λ u. u r) (before w) ∙ wide-keeps o rd re ra 31 (put w 31 v) r off.0 off.1.0 link ∙ put-other w 31 v r carry;
      })
      (λ s w m k p h em ek ez.
      let w1 = put w.registers 31 v in
      let ea : read w1 ra ≡ m = read-other w.registers 31 v ra (register-apart a).1 ∙ read-of w.registers a ∙ em in
      let ev : v ≡ k = some-same v k (sym (given s) ∙ ek) in
      let same : wide_value o (read w1 ra) v ≡ wide_value o m k = (λ j. wide_value o (ea j) (ev j)) in
      subst (HoldsPair rd re p) (sym (registers-computed body w ∙ before w.registers))
      (wide-value rd re ra 31 (register-apart d).0 (register-apart e).0 (registers-apart Riscv64 d e nd ne apart) (register-apart a).0 (λ z. absurd (omega (arith, z))) w1 (put-small w.registers 31 v l.small h.words) p o (same ∙ ez)))
    where
      before : (w : ℕ → ℕ) → computed (load ++ wide_code o rd re ra 31) w ≡ computed (wide_code o rd re ra 31) (put w 31 v)
      before w = computed-append load (wide_code o rd re ra 31) w ∙ ap (computed (wide_code o rd re ra 31)) (l.value w)
