-- The nodes that compute values are carried by their items.
use Rattle.std.proofs.Common.{◌≡◌, ◌≢◌, ℕ, ◌⊎◌, inl, inr, true, false, refl, sym, ◌∙◌, subst}
use Rattle.std.proofs.lemmas.Bool.{cases_Bool}
use Rattle.lg_op.specs.Forms.{last_form, admits}
use Rattle.lg_op.specs.declared.op.BinaryOp.{BinaryOp}
use Rattle.lg_op.specs.declared.op.BinaryOp.TheVariants as binary
use Rattle.lg_op.specs.declared.op.WideOp.{WideOp}
use Rattle.lg_op.specs.declared.op.LastOperand.{LastOperand}
use Rattle.lg_op.specs.declared.op.LastOperand.TheVariants as last_operand
use Rattle.lg_op.specs.declared.operand.Reg.{Reg}
use Rattle.lg_op.specs.declared.operand.Reg.TheVariants.{Fp}
use Rattle.lg_op.specs.declared.operand.Operand.{Operand}
use Rattle.lg_op.specs.declared.operand.Operand.TheVariants as operand
use Rattle.lg_op.specs.Operators.{sets_carry}
use Rattle.lg_live.specs.Registers.{is_same}
use Rattle.lg_live.specs.Uses.{is_read, is_written}
use Rattle.lg_meaning.specs.States.{value}
use Rattle.lg_carry.proofs.OfNodes.RegisterLemmas.{same-self}
use Rattle.lg_carry.specs.Values.ValueNodes.{binary_node, wide_node}
use Rattle.lg_carry.proofs.OfValues.ValueNodeLemmas.{value-nodes}
use Rattle.lg_selr_values.specs.ValueLaws.{ValueNodesCarry}
use Rattle.lg_carry.proofs.OfValues.FormLemmas.{is-source}
use Rattle.lg_selr_values.proofs.SettledLemmas.{IsCarried}
use Rattle.lg_selr_values.proofs.PlainItemLemmas.{unary-carried, movi-carried, va-start-carried, retval-carried, registers-carried, immediate-carried, wide-registers-carried, wide-immediate-carried}
use Rattle.lg_selr_values.proofs.CarryItemLemmas.{HasForm, register-second, immediate-second, sum-carried, temporary-carried}
use Rattle.lg_carry.proofs.OfValues.ResultLemmas.{or-false, or-middle}

writes : (o : BinaryOp) (last : LastOperand) (d a : Reg) (x : Operand) (line : ℕ) → d ≢ Fp → is_written (binary_node o last d a x line) d ≡ true
writes o last_operand.Register d a x line named = or-false (is_same d d) ∙ same-self d named
writes o last_operand.Immediate d a x line named = or-false (is_same d d) ∙ same-self d named

reads : (o : BinaryOp) (last : LastOperand) (d a : Reg) (x : Operand) (line : ℕ) → a ≢ Fp → is_read (binary_node o last d a x line) a ≡ true
reads o last d a x line ne = or-middle _ (is_same a a) false (same-self a ne)

carry-carried : (o : BinaryOp) (last : LastOperand) (d a : Reg) (x : Operand) (line : ℕ) → sets_carry o ≡ true → d ≢ Fp → HasForm o last d a x line → IsCarried (binary_node o last d a x line)
carry-carried binary.Addc last d a x line h named form = sum-carried binary.Addc last d a x line refl refl tt (λ r. tt) named form
carry-carried binary.Subc last d a x line h named form = sum-carried binary.Subc last d a x line refl refl tt (λ r. tt) named form
carry-carried binary.Addx last d a x line h named form =
    temporary-carried binary.Addx last d a x line refl refl (λ u t. t) (λ u r ne. ne) named (writes binary.Addx last d a x line named) (reads binary.Addx last d a x line) form
carry-carried binary.Subx last d a x line h named form =
    temporary-carried binary.Subx last d a x line refl refl (λ u t. t) (λ u r ne. ne) named (writes binary.Subx last d a x line named) (reads binary.Subx last d a x line) form
carry-carried o last d a x line h named form = cc

binary-carried : (o : BinaryOp) (last : LastOperand) (d a : Reg) (x : Operand) (line : ℕ) → d ≢ Fp → admits (last_form last) x ≡ true → IsCarried (binary_node o last d a x line)
binary-carried o last_operand.Register d a x line named h =
    let b = is-source x h in
    subst (λ y. IsCarried (binary_node o last_operand.Register d a y line)) (sym b.is) (by b.register (cases_Bool (sets_carry o)))
  where
    by : (b : Reg) → (sets_carry o ≡ true) ⊎ (sets_carry o ≡ false) → IsCarried (binary_node o last_operand.Register d a (operand.Reg b) line)
    by b (inl e) = carry-carried o last_operand.Register d a (operand.Reg b) line e named (λ c small. register-second c o d a b line)
    by b (inr e) = registers-carried o d a b line e named
binary-carried o last_operand.Immediate d a x line named h = by (cases_Bool (sets_carry o))
  where
    by : (sets_carry o ≡ true) ⊎ (sets_carry o ≡ false) → IsCarried (binary_node o last_operand.Immediate d a x line)
    by (inl e) = carry-carried o last_operand.Immediate d a x line e named (λ c small. immediate-second c o d a x line h small)
    by (inr e) = immediate-carried o d a x line e named h

wide-carried : (o : WideOp) (last : LastOperand) (d e a : Reg) (x : Operand) (line : ℕ) → d ≢ Fp → e ≢ Fp → d ≢ e → admits (last_form last) x ≡ true → IsCarried (wide_node o last d e a x line)
wide-carried o last_operand.Register d e a x line nd ne apart h = let b = is-source x h in subst (λ y. IsCarried (wide_node o last_operand.Register d e a y line)) (sym b.is) (wide-registers-carried o d e a b.register line nd ne apart)
wide-carried o last_operand.Immediate d e a x line nd ne apart h = wide-immediate-carried o d e a x line nd ne apart h

pub value-nodes-carry : ValueNodesCarry
value-nodes-carry code trash c i n live staged choices value words chosen pushes t k = value-nodes IsCarried binary-carried wide-carried unary-carried movi-carried va-start-carried retval-carried n (t.formed n t.here) value code trash c i live staged choices words chosen pushes t k
