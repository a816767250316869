-- Nodes with two results.
use Rattle.std.proofs.Common.{◌≡◌, ◌≢◌, ℕ, false, List, [], ◌∷◌, ◌++◌, Some, sym, ap, ◌∙◌, subst}
use Rattle.std.proofs.lemmas.Bool.{or_left}
use Rattle.lg_base.specs.declared.target.Target.TheVariants.{Aarch64}
use Rattle.lg_op.specs.declared.op.WideOp.{WideOp}
use Rattle.lg_op.specs.declared.op.LastOperand.TheVariants as last_operand
use Rattle.lg_op.specs.declared.operand.Reg.{Reg}
use Rattle.lg_op.specs.declared.operand.Reg.TheVariants.{Fp}
use Rattle.lg_op.specs.declared.operand.Operand.{Operand}
use Rattle.lg_op.specs.declared.operand.Operand.TheVariants as operand
use Rattle.lg_op.specs.Operators.{wide_value}
use Rattle.lg_live.specs.Registers.{is_same}
use Rattle.lg_meaning.specs.States.{State, value}
use Rattle.lg_a64.specs.declared.instruction.Instr.{Instr}
use Rattle.lg_cpu.specs.HostSteps.{put}
use Rattle.lg_temp.specs.Abis.{register_of}
use Rattle.lg_carry.specs.FinalNodes.{Code}
use Rattle.lg_carry.specs.TextNodes.{IsInText}
use Rattle.lg_carry.proofs.OfNodes.RegisterLemmas.{same-self}
use Rattle.lg_carry.specs.Values.Computers.{Held}
use Rattle.lg_carry.specs.Values.ValueNodes.{wide_node}
use Rattle.lg_carry.specs.Values.Values.{HoldsPair}
use Rattle.lg_carry.proofs.OfValues.ComputationLemmas.{computed-append}
use Rattle.lg_carry.proofs.OfValues.TwoResultLemmas.{registers-apart, wide-nodes-compute}
use Rattle.lg_sela_values.specs.Processor.A64Computers.{a64_scratch, a64_computer, IsComputed}
use Rattle.lg_sela_values.specs.Processor.A64Rows.{link}
use Rattle.lg_sela_values.specs.Processor.Computations.{holding, computed_by, computed}
use Rattle.lg_sela_values.proofs.OfProcessor.ComputerLemmas.{into}
use Rattle.lg_sela_values.proofs.OfProcessor.HeldLemmas.{put-same, put-other}
use Rattle.lg_sela_values.proofs.OfProcessor.RegisterLemmas.{register-small, register-off-link}
use Rattle.lg_sela_values.specs.WideCode.{wide_code, wide_by_link}
use Rattle.lg_sela_values.proofs.BinaryCodeLemmas.{some-same}
use Rattle.lg_sela_values.proofs.LoadCodeLemmas.{LoadsWord, put-small, all-compute-append}
use Rattle.lg_sela_values.proofs.WideCodeLemmas.{wide-value, wide-keeps, wide-computes}
use Rattle.lg_sela_values.proofs.WideLinkLemmas.{link-value, link-keeps, link-computes}

module _ (c : Code) (i : ℕ) (o : WideOp) (d e a : Reg) (line : ℕ) (nd : d ≢ Fp) (ne : e ≢ Fp) (apart : d ≢ e) where
  abbrev rd : ℕ
  rd = register_of Aarch64 d

  abbrev re : ℕ
  re = register_of Aarch64 e

  abbrev ra : ℕ
  ra = register_of Aarch64 a

  pub wide-registers : (b : Reg) → IsInText c i (wide_node o last_operand.Register d e a (operand.Reg b) line)
      → IsComputed c i (wide_node o last_operand.Register d e a (operand.Reg b) line) [] (wide_code o rd re ra (register_of Aarch64 b))
  wide-registers b t code trash =
      let rb = register_of Aarch64 b in
      let body = wide_code o rd re ra rb in
      wide-nodes-compute (a64_computer code trash) a64_scratch c i o last_operand.Register d e a (operand.Reg b) line [] body nd ne apart t
      (into code trash (d ∷ e ∷ []) [] body record { computes = wide-computes o rd re ra rb; keeps = λ w r x taken off. wide-keeps o rd re ra rb w r x.0 x.1.0 off })
      (λ s w m k p h em ek ez.
      let eb : w.registers rb ≡ k = h.registers b k (λ z. or_left _ false (or_left _ false (or_left _ (is_same a b) (same-self b z)))) ek in
      let same : wide_value o (w.registers ra) (w.registers rb) ≡ wide_value o m k = (λ j. wide_value o (em j) (eb j)) in
      wide-value rd re ra rb (register-small d) (register-small e) (registers-apart Aarch64 d e nd ne apart) (register-small a) (register-small b) w (h.words ra) (h.words rb) o p (same ∙ ez))

  -- a word that the text gives, loaded into the link
  pub wide-loaded : (x : Operand) (v : ℕ) → ((s : State) → value c.addresses s x ≡ Some v) → (load : List Instr) → LoadsWord load link v
      → IsInText c i (wide_node o last_operand.Immediate d e a x line) → IsComputed c i (wide_node o last_operand.Immediate d e a x line) [] (load ++ wide_by_link o rd re ra)
  wide-loaded x v given load l t code trash =
      let body = load ++ wide_by_link o rd re ra in
      wide-nodes-compute (a64_computer code trash) a64_scratch c i o last_operand.Immediate d e a x line [] body nd ne apart t
      (into code trash (d ∷ e ∷ []) [] body record {
        computes = all-compute-append load (wide_by_link o rd re ra) l.computes (link-computes o rd re ra);
        keeps = λ w r x taken off. ap (λ u. u.registers r) (before w) ∙ link-keeps o rd re ra (holding (put w.registers link v) w.flags) r x.0 x.1.0 off ∙ put-other w.registers link v r off;
      })
      (λ s w m k p h em ek ez.
      let w1 = holding (put w.registers link v) w.flags in
      let ea : w1.registers ra ≡ m = put-other w.registers link v ra (register-off-link a) ∙ em in
      let ev : w1.registers link ≡ k = put-same w.registers link v ∙ some-same v k (sym (given s) ∙ ek) in
      let same : wide_value o (w1.registers ra) (w1.registers link) ≡ wide_value o m k = (λ j. wide_value o (ea j) (ev j)) in
      subst (λ u. HoldsPair rd re p u.registers) (sym (before w))
      (link-value rd re ra (register-small d) (register-small e) (registers-apart Aarch64 d e nd ne apart) (register-small a) w1
      (put-small w.registers link v l.small h.words ra) (put-small w.registers link v l.small h.words link) o p (same ∙ ez)))
    where
      before : (w : Held) → computed (load ++ wide_by_link o rd re ra) w ≡ computed (wide_by_link o rd re ra) (holding (put w.registers link v) w.flags)
      before w = computed-append computed_by load (wide_by_link o rd re ra) w ∙ ap (computed (wide_by_link o rd re ra)) (l.value w)
