-- Operands without a label lead nowhere.
use Rattle.std.proofs.Common.{◌≡◌, ℕ, false, List, [], ◌∷◌, Option, None, Some, refl}
use Rattle.std.specs.List.{list_any}
use Rattle.std.proofs.lemmas.Bool.{or_parts, or_from}
use Rattle.lg_op.specs.declared.form.Form.{Form}
use Rattle.lg_op.specs.declared.form.Form.TheVariants as form
use Rattle.lg_op.specs.declared.op.Op.{Op}
use Rattle.lg_op.specs.declared.operand.Operand.{Operand}
use Rattle.lg_op.specs.declared.operand.Operand.TheVariants as operand
use Rattle.lg_node.specs.Nodes.{LabelledNodes}
use Rattle.lg_node.specs.Checks.{is_label, is_astray, any_by_form}

module _ (l : LabelledNodes) (o : Op) where
  -- an operand that is no label does not lead astray, whatever its form
  still : (home : Option ℕ) (f : Form) (x : Operand) → is_label x ≡ false → is_astray l home o f x ≡ false
  still None form.Target (operand.Label y) e = cc
  still (Some p) form.Target (operand.Label y) e = cc
  still home form.Callee (operand.Label y) e = cc
  still home form.Immediate (operand.Label y) e = cc
  still home f x e = refl

  pub none_astray : (home : Option ℕ) (fs : List Form) (xs : List Operand) → list_any is_label xs ≡ false → any_by_form (is_astray l home o) fs xs ≡ false
  none_astray home [] xs e = refl
  none_astray home (f ∷ fs) [] e = refl
  none_astray home (f ∷ fs) (x ∷ xs) e =
      let parts = or_parts (is_label x) (list_any is_label xs) e in
      or_from (is_astray l home o f x) (any_by_form (is_astray l home o) fs xs) (still home f x parts.0) (none_astray home fs xs parts.1)
