-- The nodes that compute values are carried by their items.
use Rattle.std.proofs.Common.{◌≡◌, ◌≢◌, ℕ, ◌⊎◌, inl, inr, true, false, sym, subst}
use Rattle.std.proofs.lemmas.Bool.{cases_Bool}
use Rattle.lg_op.specs.Forms.{last_form, admits}
use Rattle.lg_op.specs.declared.op.BinaryOp.{BinaryOp}
use Rattle.lg_op.specs.declared.op.WideOp.{WideOp}
use Rattle.lg_op.specs.declared.op.LastOperand.{LastOperand}
use Rattle.lg_op.specs.declared.op.LastOperand.TheVariants as last_operand
use Rattle.lg_op.specs.declared.operand.Reg.{Reg}
use Rattle.lg_op.specs.declared.operand.Reg.TheVariants.{Fp}
use Rattle.lg_op.specs.declared.operand.Operand.{Operand}
use Rattle.lg_carry.specs.Values.ValueNodes.{binary_node, wide_node}
use Rattle.lg_carry.proofs.OfValues.ValueNodeLemmas.{value-nodes}
use Rattle.lg_sela_values.specs.ValueLaws.{ValueNodesCarry}
use Rattle.lg_carry.proofs.OfValues.FormLemmas.{is-source}
use Rattle.lg_sela_values.proofs.SettledLemmas.{IsCarried}
use Rattle.lg_sela_values.proofs.PlainItemLemmas.{unary-carried, movi-carried, va-start-carried, retval-carried, registers-carried, immediate-carried, wide-registers-carried, wide-immediate-carried}
use Rattle.lg_sela_values.proofs.TemporaryItemLemmas.{temporary-carried}
use Rattle.lg_sela_values.proofs.BinaryItemLemmas.{is_remainder}

binary-carried : (o : BinaryOp) (last : LastOperand) (d a : Reg) (x : Operand) (line : ℕ) → d ≢ Fp → admits (last_form last) x ≡ true → IsCarried (binary_node o last d a x line)
binary-carried o last_operand.Register d a x line named h =
    let b = is-source x h in
    subst (λ y. IsCarried (binary_node o last_operand.Register d a y line)) (sym b.is) (registers-carried o d a b.register line named)
binary-carried o last_operand.Immediate d a x line named h = by (cases_Bool (is_remainder o))
  where
    by : (is_remainder o ≡ true) ⊎ (is_remainder o ≡ false) → IsCarried (binary_node o last_operand.Immediate d a x line)
    by (inl e) = temporary-carried o d a x line e named h
    by (inr e) = immediate-carried o d a x line e named h

wide-carried : (o : WideOp) (last : LastOperand) (d e a : Reg) (x : Operand) (line : ℕ) → d ≢ Fp → e ≢ Fp → d ≢ e → admits (last_form last) x ≡ true → IsCarried (wide_node o last d e a x line)
wide-carried o last_operand.Register d e a x line nd ne apart h = let b = is-source x h in subst (λ y. IsCarried (wide_node o last_operand.Register d e a y line)) (sym b.is) (wide-registers-carried o d e a b.register line nd ne apart)
wide-carried o last_operand.Immediate d e a x line nd ne apart h = wide-immediate-carried o d e a x line nd ne apart h

pub value-nodes-carry : ValueNodesCarry
value-nodes-carry code trash c i n live staged choices value words chosen pushes t k = value-nodes IsCarried binary-carried wide-carried unary-carried movi-carried va-start-carried retval-carried n (t.formed n t.here) value code trash c i live staged choices words chosen pushes t k
