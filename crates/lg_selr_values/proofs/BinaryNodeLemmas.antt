-- Nodes of two words into one register that set no carry.
use Rattle.std.proofs.Common.{◌≡◌, ◌≢◌, ℕ, ◌^◌, ◌<◌, false, List, [], ◌∷◌, ◌++◌, Some, sym, ap, ◌∙◌}
use Rattle.std.specs.Prelude.{◌||◌}
use Rattle.lg_base.specs.declared.target.Target.TheVariants.{Riscv64}
use Rattle.lg_op.specs.declared.op.BinaryOp.{BinaryOp}
use Rattle.lg_op.specs.declared.op.LastOperand.TheVariants as last_operand
use Rattle.lg_op.specs.declared.operand.Reg.{Reg}
use Rattle.lg_op.specs.declared.operand.Reg.TheVariants.{Fp}
use Rattle.lg_op.specs.declared.operand.Operand.{Operand}
use Rattle.lg_op.specs.declared.operand.Operand.TheVariants as operand
use Rattle.lg_op.specs.Operators.{binary_value, sets_carry}
use Rattle.lg_live.specs.Registers.{is_same}
use Rattle.lg_rv.specs.declared.instruction.Instr.{Instr}
use Rattle.lg_cpu.specs.RvStep.{read}
use Rattle.lg_meaning.specs.States.{State, value}
use Rattle.lg_temp.specs.Abis.{register_of}
use Rattle.lg_carry.specs.FinalNodes.{Code}
use Rattle.lg_carry.specs.TextNodes.{IsInText}
use Rattle.lg_selr_values.specs.Processor.RvComputers.{rv_scratch, rv_computer, IsComputed}
use Rattle.lg_selr_values.proofs.OfProcessor.ComputerLemmas.{held-at, into}
use Rattle.lg_selr_values.proofs.OfProcessor.ComputationLemmas.{all-compute-append}
use Rattle.lg_selr_values.proofs.OfProcessor.RegisterLemmas.{register-apart, register-nonzero, read-of}
use Rattle.lg_carry.proofs.OfNodes.RegisterLemmas.{same-self}
use Rattle.lg_selr_values.specs.BinaryCode.{register_code, number_form_code}
use Rattle.lg_carry.specs.Values.ValueNodes.{binary_node}
use Rattle.lg_selr_values.proofs.LoadCodeLemmas.{some-same, LoadsWord}
use Rattle.lg_selr_values.proofs.BinaryCodeLemmas.{register-value, register-keeps, register-computes, loaded-value, loaded-keeps, number-value, number-keeps, number-computes}
use Rattle.lg_carry.proofs.OfValues.OneResultLemmas.{binary-nodes-compute}

-- ---- two registers
module _ (c : Code) (i : ℕ) (o : BinaryOp) (d a b : Reg) (line : ℕ) (plain : sets_carry o ≡ false) (named : d ≢ Fp) (t : IsInText c i (binary_node o last_operand.Register d a (operand.Reg b) line)) where
  abbrev rd : ℕ
  rd = register_of Riscv64 d

  abbrev ra : ℕ
  ra = register_of Riscv64 a

  abbrev rb : ℕ
  rb = register_of Riscv64 b

  pub registers-compute : IsComputed c i (binary_node o last_operand.Register d a (operand.Reg b) line) [] (register_code o rd ra rb)
  registers-compute code trash =
      let body = register_code o rd ra rb in
      binary-nodes-compute (rv_computer code trash) rv_scratch c i o last_operand.Register d a (operand.Reg b) line [] body plain named t
      (into code trash (d ∷ []) [] body record { computes = register-computes o rd ra rb; keeps = λ w r apart taken link carry. register-keeps o rd ra rb w r apart.0 })
      (λ s w m k z h em ek ez.
      let ea : read w.registers ra ≡ m = read-of w.registers a ∙ em in
      let eb : read w.registers rb ≡ k = read-of w.registers b ∙ h.registers b k (λ ne. ap (λ z. (z || is_same a b) || false) (same-self b ne)) ek in
      let same : binary_value o (read w.registers ra) (read w.registers rb) ≡ binary_value o m k = (λ j. binary_value o (ea j) (eb j)) in
      held-at body w rd z (register-value rd ra rb (register-nonzero d) w.registers h.words z o plain (same ∙ ez)))

-- ---- a register and a word that the text gives
module _ (c : Code) (i : ℕ) (o : BinaryOp) (d a : Reg) (x : Operand) (v line : ℕ) (plain : sets_carry o ≡ false) (named : d ≢ Fp) (given : (s : State) → value c.addresses s x ≡ Some v)
    (t : IsInText c i (binary_node o last_operand.Immediate d a x line)) where
  abbrev to : ℕ
  to = register_of Riscv64 d

  abbrev from : ℕ
  from = register_of Riscv64 a

  same-value : (s : State) (w : ℕ → ℕ) (m k z : ℕ) → w from ≡ m → value c.addresses s x ≡ Some k → binary_value o m k ≡ Some z → binary_value o (read w from) v ≡ Some z
  same-value s w m k z em ek ez =
      let ea : read w from ≡ m = read-of w a ∙ em in
      let e : v ≡ k = some-same v k (sym (given s) ∙ ek) in
      let same : binary_value o (read w from) v ≡ binary_value o m k = (λ j. binary_value o (ea j) (e j)) in
      same ∙ ez

  -- a number
  pub number-computed : v < 2 ^ 64 → IsComputed c i (binary_node o last_operand.Immediate d a x line) [] (number_form_code o to from v)
  number-computed small code trash =
      let body = number_form_code o to from v in
      binary-nodes-compute (rv_computer code trash) rv_scratch c i o last_operand.Immediate d a x line [] body plain named t
      (into code trash (d ∷ []) [] body record { computes = number-computes o to from v small; keeps = λ w r apart taken link carry. number-keeps o to from v small w r apart.0 link })
      (λ s w m k z h em ek ez. held-at body w to z (number-value to from v (register-nonzero d) (register-apart a).0 small w.registers h.words o z plain (same-value s w.registers m k z em ek ez)))

  -- any other word, which is loaded into the link
  pub loaded-computed : (load : List Instr) → LoadsWord load 1 v → IsComputed c i (binary_node o last_operand.Immediate d a x line) [] (load ++ register_code o to from 1)
  loaded-computed load l code trash =
      let body = load ++ register_code o to from 1 in
      binary-nodes-compute (rv_computer code trash) rv_scratch c i o last_operand.Immediate d a x line [] body plain named t
      (into code trash (d ∷ []) [] body record {
        computes = all-compute-append load (register_code o to from 1) l.computes (register-computes o to from 1);
        keeps = λ w r apart taken link carry. loaded-keeps load v l to from w o r apart.0 link;
      })
      (λ s w m k z h em ek ez. held-at body w to z (loaded-value load v l to from w.registers o (register-nonzero d) (register-apart a).0 h.words z plain (same-value s w.registers m k z em ek ez)))
