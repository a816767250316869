-- The operands of nodes: their numbers, and where labels stand.
use Rattle.std.proofs.Common.{◌≡◌, ℕ, zero, suc, ◌^◌, ◌<◌, Bool, true, false, List, [], ◌∷◌, refl, sym, ◌∙◌, arith}
use Rattle.std.specs.Prelude.{slice_index_or}
use Rattle.std.specs.List.{list_any}
use Rattle.std.proofs.lemmas.Bool.{and_parts, or_from, or_parts}
use Rattle.lg_carry.specs.FinalNodes.{Code}
use Rattle.lg_carry.specs.TextNodes.{IsInText}
use Rattle.lg_op.specs.Forms.{admits, admit, address_forms, store_forms, control_forms, forms_of, last_form}
use Rattle.lg_op.specs.declared.form.Form.{Form}
use Rattle.lg_op.specs.declared.form.Form.TheVariants as form
use Rattle.lg_op.specs.declared.node.Node.{Node}
use Rattle.lg_op.specs.declared.op.Addressing.{Addressing}
use Rattle.lg_op.specs.declared.op.Addressing.TheVariants as addressing
use Rattle.lg_op.specs.declared.op.Op.{Op}
use Rattle.lg_op.specs.declared.op.Op.TheVariants as op
use Rattle.lg_op.specs.declared.op.ControlOp.TheVariants as control
use Rattle.lg_op.specs.declared.op.PlainOp.TheVariants as plain
use Rattle.lg_op.specs.declared.op.LastOperand.{LastOperand}
use Rattle.lg_op.specs.declared.op.LastOperand.TheVariants as last_operand
use Rattle.lg_op.specs.declared.operand.Operand.{Operand}
use Rattle.lg_op.specs.declared.operand.Operand.TheVariants as operand
use Rattle.lg_meaning.specs.Steps.{operand_at}
use Rattle.lg_carry.specs.Nodes.Operands.{HasWord, HaveWords}
use Rattle.lg_sel.specs.Selected.{is_label_for, has_label_for, may_take_label, TakesLabelsWell}
use Rattle.lg_sel.proofs.FamilyLemmas.{node_of}
use Rattle.lg_sel.specs.Control.Control.{is_control, ends_in_label}
use Rattle.lg_carry.specs.Memory.Operands.{is_label, HasWords}

-- ---- numbers
pub word-at : (xs : List Operand) (k : ℕ) → HaveWords xs → HasWord (slice_index_or xs k (operand.Number 0))
word-at [] k words = omega arith
word-at (x ∷ xs) zero words = words.0
word-at (x ∷ xs) (suc k) words = word-at xs k words.1

pub word-is : (x : Operand) (v : ℕ) → x ≡ operand.Number v → HasWord x → v < 2 ^ 64
word-is (operand.Number w) v e word = let same : w ≡ v = cc in omega (arith, same, word)
word-is x v e word = cc

pub has-words : (n : Node) → HaveWords n.operands → HasWords n
has-words n words k v e = word-is (operand_at n k) v e (word-at n.operands k words)

-- ---- labels
-- forms that denote no label but in the place of an immediate
abbrev pub leads_nowhere : List Form → Bool
leads_nowhere [] = true
leads_nowhere (form.Target ∷ fs) = false
leads_nowhere (form.Callee ∷ fs) = false
leads_nowhere (f ∷ fs) = leads_nowhere fs

leads-rest : (f : Form) (fs : List Form) → leads_nowhere (f ∷ fs) ≡ true → leads_nowhere fs ≡ true
leads-rest form.Target fs e = cc
leads-rest form.Callee fs e = cc
leads-rest f fs e = e

no-label-at : (f : Form) (fs : List Form) (x : Operand) → leads_nowhere (f ∷ fs) ≡ true → admits f x ≡ true → is_label_for f x ≡ false → is_label x ≡ false
no-label-at form.Immediate fs (operand.Label l) e a h = cc
no-label-at f fs (operand.Label l) e a h = cc
no-label-at f fs x e a h = refl

pub no-labels : (fs : List Form) (xs : List Operand) → leads_nowhere fs ≡ true → admit fs xs ≡ true → has_label_for fs xs ≡ false → list_any is_label xs ≡ false
no-labels [] [] e a h = refl
no-labels [] (x ∷ xs) e a h = cc
no-labels (f ∷ fs) [] e a h = cc
no-labels (f ∷ fs) (x ∷ xs) e a h =
    let both = and_parts (admits f x) (admit fs xs) a in
    let neither = or_parts (is_label_for f x) (has_label_for fs xs) h in
    or_from (is_label x) (list_any is_label xs) (no-label-at f fs x e both.0 neither.0) (no-labels fs xs (leads-rest f fs e) both.1 neither.1)

true-false : {A : Type 0} → true ≡ false → A
true-false e = cc

-- where no label may be in the place of an immediate, none does
pub unlabelled : (n : Node) → may_take_label n.op ≡ false → TakesLabelsWell n → has_label_for (forms_of n.op) n.operands ≡ false
unlabelled n may takes = by (has_label_for (forms_of n.op) n.operands) refl
  where
    by : (b : Bool) → has_label_for (forms_of n.op) n.operands ≡ b → b ≡ false
    by true e = true-false (sym (takes e) ∙ may)
    by false e = refl

-- a branch compares with no label
branch-ends : (last : LastOperand) (xs : List Operand) → admit (form.Target ∷ form.Read ∷ last_form last ∷ []) xs ≡ true → has_label_for (form.Target ∷ form.Read ∷ last_form last ∷ []) xs ≡ false → ends_in_label xs ≡ false
branch-ends last_operand.Register (x ∷ y ∷ operand.Label l ∷ xs) a h =
    let one = and_parts (admits form.Target x) _ a in let two = and_parts (admits form.Read y) _ one.1 in cc
branch-ends last_operand.Immediate (x ∷ y ∷ operand.Label l ∷ xs) a h = cc
branch-ends last xs a h = refl

-- nor does one that adds or subtracts
sum-ends : (last : LastOperand) (xs : List Operand) → admit (form.Target ∷ form.Update ∷ last_form last ∷ []) xs ≡ true → has_label_for (form.Target ∷ form.Update ∷ last_form last ∷ []) xs ≡ false → ends_in_label xs ≡ false
sum-ends last_operand.Register (x ∷ y ∷ operand.Label l ∷ xs) a h =
    let one = and_parts (admits form.Target x) _ a in let two = and_parts (admits form.Update y) _ one.1 in cc
sum-ends last_operand.Immediate (x ∷ y ∷ operand.Label l ∷ xs) a h = cc
sum-ends last xs a h = refl

-- nor does a node with at most two operands
short-ends : (f g : Form) (xs : List Operand) → admit (f ∷ g ∷ []) xs ≡ true → ends_in_label xs ≡ false
short-ends f g (x ∷ y ∷ operand.Label l ∷ xs) a = let one = and_parts (admits f x) _ a in let two = and_parts (admits g y) _ one.1 in cc
short-ends f g xs a = refl

one-ends : (f : Form) (xs : List Operand) → admit (f ∷ []) xs ≡ true → ends_in_label xs ≡ false
one-ends f (x ∷ y ∷ operand.Label l ∷ xs) a = let one = and_parts (admits f x) _ a in cc
one-ends f xs a = refl

none-ends : (xs : List Operand) → admit [] xs ≡ true → ends_in_label xs ≡ false
none-ends (x ∷ y ∷ operand.Label l ∷ xs) a = cc
none-ends xs a = refl

-- a node with one operand compares with no label
abbrev has_one : List Form → Bool
has_one (f ∷ []) = true
has_one fs = false

single-ends : (fs : List Form) (xs : List Operand) → has_one fs ≡ true → admit fs xs ≡ true → ends_in_label xs ≡ false
single-ends (f ∷ []) xs single a = one-ends f xs a
single-ends [] xs single a = cc
single-ends (f ∷ g ∷ fs) xs single a = cc

-- none of the nodes that branch, jump, call or return, of `prolog`, of `.align` and without code does
pub control-ends : (n : Node) → is_control n.op ≡ true → admit (forms_of n.op) n.operands ≡ true → TakesLabelsWell n → ends_in_label n.operands ≡ false
control-ends n is a takes = by n.op n.operands n.line is a takes
  where
    by : (o : Op) (xs : List Operand) (line : ℕ) → is_control o ≡ true → admit (forms_of o) xs ≡ true → TakesLabelsWell (node_of o xs line) → ends_in_label xs ≡ false
    by (op.Branch o last) xs line is a takes = branch-ends last xs a (unlabelled (node_of (op.Branch o last) xs line) refl takes)
    by (op.BranchSum o last) xs line is a takes = sum-ends last xs a (unlabelled (node_of (op.BranchSum o last) xs line) refl takes)
    by (op.Control o last_operand.Register) xs line is a takes = single-ends (control_forms o last_operand.Register) xs refl a
    by (op.Control control.Jmp last_operand.Immediate) xs line is a takes = single-ends (control_forms control.Jmp last_operand.Immediate) xs refl a
    by (op.Control o last_operand.Immediate) xs line is a takes = single-ends (control_forms o last_operand.Immediate) xs refl a
    by (op.Plain plain.Allocai) xs line is a takes = short-ends form.Size form.NewLocal xs a
    by (op.Plain plain.Movi) xs line is a takes = true-false (sym is)
    by (op.Plain plain.Arg) xs line is a takes = one-ends form.NewArgument xs a
    by (op.Plain plain.Align) xs line is a takes = one-ends form.Alignment xs a
    by (op.Plain plain.VaStart) xs line is a takes = true-false (sym is)
    by (op.Plain plain.VaArg) xs line is a takes = true-false (sym is)
    by (op.Plain plain.VaEnd) xs line is a takes = one-ends form.Read xs a
    by (op.Plain o) xs line is a takes = none-ends xs a
    by o xs line is a takes = true-false (sym is)

-- loads and stores lead nowhere
pub loads-lead : (at : Addressing) → leads_nowhere (form.Write ∷ address_forms at) ≡ true
loads-lead addressing.Register = refl
loads-lead at = refl

pub stores-lead : (at : Addressing) → leads_nowhere (store_forms at) ≡ true
stores-lead addressing.Register = refl
stores-lead at = refl

-- ---- the nodes of a text
-- their operands are those of the operation
pub operands-are : (c : Code) (i : ℕ) (n : Node) → IsInText c i n → admit (forms_of n.op) n.operands ≡ true
operands-are c i n t = (t.formed n t.here).forms
