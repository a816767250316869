-- Operands none of which is a label.
use Rattle.std.proofs.Common.{◌≡◌, false, List, [], ◌∷◌}
use Rattle.std.specs.List.{list_any}
use Rattle.std.proofs.lemmas.Bool.{or_parts}
use Rattle.lg_op.specs.declared.operand.Operand.{Operand}
use Rattle.lg_op.specs.declared.operand.Operand.TheVariants as operand
use Rattle.lg_carry.specs.Memory.Operands.{is_label}
use Rattle.lg_selx_values.specs.ValueLaws.{IsUnlabelled, AreUnlabelled}

is-unlabelled : (x : Operand) → is_label x ≡ false → IsUnlabelled x
is-unlabelled (operand.Label l) e = cc
is-unlabelled (operand.Number v) e = tt
is-unlabelled x e = tt

pub are-unlabelled : (xs : List Operand) → list_any is_label xs ≡ false → AreUnlabelled xs
are-unlabelled [] e = tt
are-unlabelled (x ∷ xs) e = let h = or_parts (is_label x) (list_any is_label xs) e in (is-unlabelled x h.0, are-unlabelled xs h.1)
