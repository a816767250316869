-- What holds of the nodes that compute values, by their operations, holds of each such node.
use Rattle.std.proofs.Common.{◌≡◌, ◌≢◌, ℕ, true, [], ◌∷◌, refl, sym, ap, ◌∙◌, subst}
use Rattle.lg_op.specs.Forms.{last_form, admits, forms_of, admit}
use Rattle.lg_op.specs.Nodes.{InForm, IsApart}
use Rattle.lg_op.specs.declared.form.Form.TheVariants.{Write, Read, Immediate, ArgumentCount}
use Rattle.lg_op.specs.declared.op.Op.{Op}
use Rattle.lg_op.specs.declared.op.Op.TheVariants as op
use Rattle.lg_op.specs.declared.op.BinaryOp.{BinaryOp}
use Rattle.lg_op.specs.declared.op.WideOp.{WideOp}
use Rattle.lg_op.specs.declared.op.UnaryOp.{UnaryOp}
use Rattle.lg_op.specs.declared.op.ValueType.{ValueType}
use Rattle.lg_op.specs.declared.op.ValueType.TheVariants as value_type
use Rattle.lg_op.specs.declared.op.PlainOp.TheVariants as plain
use Rattle.lg_op.specs.declared.op.LastOperand.{LastOperand}
use Rattle.lg_op.specs.declared.node.Node.{Node}
use Rattle.lg_op.specs.declared.operand.Reg.{Reg}
use Rattle.lg_op.specs.declared.operand.Reg.TheVariants.{Fp}
use Rattle.lg_op.specs.declared.operand.Operand.{Operand}
use Rattle.lg_op.specs.declared.operand.Operand.TheVariants as operand
use Rattle.lg_carry.specs.Values.ValueNodes.{is_value, binary_node, wide_node, unary_node, movi_node, va_start_node, retval_node, TypesExtend}
use Rattle.lg_carry.proofs.OfValues.FormLemmas.{is-target, is-source, is-count, one-operand, two-operands, three-operands, four-operands}

-- a type extends a word as its operation does
pub extends : TypesExtend
extends value_type.Char x = refl
extends other x = refl

module _ (IsCarried : Node → Type 0)
    (binary : (o : BinaryOp) (last : LastOperand) (d a : Reg) (x : Operand) (line : ℕ) → d ≢ Fp → admits (last_form last) x ≡ true
    → IsCarried (binary_node o last d a x line))
    (wide : (o : WideOp) (last : LastOperand) (d e a : Reg) (x : Operand) (line : ℕ) → d ≢ Fp → e ≢ Fp → d ≢ e → admits (last_form last) x ≡ true
    → IsCarried (wide_node o last d e a x line))
    (unary : (o : UnaryOp) (d a : Reg) (line : ℕ) → d ≢ Fp → IsCarried (unary_node o d a line))
    (movi : (d : Reg) (x : Operand) (line : ℕ) → d ≢ Fp → admits Immediate x ≡ true → IsCarried (movi_node d x line))
    (va-start : (d : Reg) (k line : ℕ) → d ≢ Fp → IsCarried (va_start_node d k line))
    (retval : (t : ValueType) (d : Reg) (line : ℕ) → d ≢ Fp → IsCarried (retval_node t d line)) where
  module _ (n : Node) (form : InForm n) where
    admitted : (o : Op) → n.op ≡ o → admit (forms_of o) n.operands ≡ true
    admitted o e = ap (λ p. admit (forms_of p) n.operands) (sym e) ∙ form.forms

    by-operation : (o : Op) → n.op ≡ o → is_value o ≡ true → IsCarried n
    by-operation (op.Binary o last) e h =
        let m = three-operands Write Read (last_form last) n.operands (admitted (op.Binary o last) e) in
        let d = is-target m.x m.first in
        let a = is-source m.y m.second in
        let are : n.operands ≡ operand.Reg d.register ∷ operand.Reg a.register ∷ m.z ∷ [] = m.are ∙ (λ j. d.is j ∷ a.is j ∷ m.z ∷ []) in
        let same : n ≡ binary_node o last d.register a.register m.z n.line = λ j. record { op = e j; operands = are j; line = n.line } in
        subst IsCarried (sym same) (binary o last d.register a.register m.z n.line d.named m.third)
    by-operation (op.Wide o last) e h =
        let m = four-operands Write Write Read (last_form last) n.operands (admitted (op.Wide o last) e) in
        let d = is-target m.x m.first in
        let f = is-target m.y m.second in
        let a = is-source m.z m.third in
        let are : n.operands ≡ operand.Reg d.register ∷ operand.Reg f.register ∷ operand.Reg a.register ∷ m.w ∷ [] = m.are ∙ (λ j. d.is j ∷ f.is j ∷ a.is j ∷ m.w ∷ []) in
        let same : n ≡ wide_node o last d.register f.register a.register m.w n.line = λ j. record { op = e j; operands = are j; line = n.line } in
        let apart : operand.Reg d.register ≢ operand.Reg f.register = subst (λ p. IsApart p.op p.operands) same form.apart in
        subst IsCarried (sym same) (wide o last d.register f.register a.register m.w n.line d.named f.named (λ z. apart (ap operand.Reg z)) m.fourth)
    by-operation (op.Unary o) e h =
        let m = two-operands Write Read n.operands (admitted (op.Unary o) e) in
        let d = is-target m.x m.first in
        let a = is-source m.y m.second in
        let are : n.operands ≡ operand.Reg d.register ∷ operand.Reg a.register ∷ [] = m.are ∙ (λ j. d.is j ∷ a.is j ∷ []) in
        let same : n ≡ unary_node o d.register a.register n.line = λ j. record { op = e j; operands = are j; line = n.line } in
        subst IsCarried (sym same) (unary o d.register a.register n.line d.named)
    by-operation (op.Plain plain.Movi) e h =
        let m = two-operands Write Immediate n.operands (admitted (op.Plain plain.Movi) e) in
        let d = is-target m.x m.first in
        let are : n.operands ≡ operand.Reg d.register ∷ m.y ∷ [] = m.are ∙ (λ j. d.is j ∷ m.y ∷ []) in
        let same : n ≡ movi_node d.register m.y n.line = λ j. record { op = e j; operands = are j; line = n.line } in
        subst IsCarried (sym same) (movi d.register m.y n.line d.named m.second)
    by-operation (op.Plain plain.VaStart) e h =
        let m = two-operands Write ArgumentCount n.operands (admitted (op.Plain plain.VaStart) e) in
        let d = is-target m.x m.first in
        let k = is-count m.y m.second in
        let are : n.operands ≡ operand.Reg d.register ∷ operand.Number k.count ∷ [] = m.are ∙ (λ j. d.is j ∷ k.is j ∷ []) in
        let same : n ≡ va_start_node d.register k.count n.line = λ j. record { op = e j; operands = are j; line = n.line } in
        subst IsCarried (sym same) (va-start d.register k.count n.line d.named)
    by-operation (op.Retval t) e h =
        let m = one-operand Write n.operands (admitted (op.Retval t) e) in
        let d = is-target m.x m.first in
        let are : n.operands ≡ operand.Reg d.register ∷ [] = m.are ∙ (λ j. d.is j ∷ []) in
        let same : n ≡ retval_node t d.register n.line = λ j. record { op = e j; operands = are j; line = n.line } in
        subst IsCarried (sym same) (retval t d.register n.line d.named)
    by-operation o e h = cc

  pub value-nodes : (n : Node) → InForm n → is_value n.op ≡ true → IsCarried n
  value-nodes n form is = by-operation n form n.op refl is
