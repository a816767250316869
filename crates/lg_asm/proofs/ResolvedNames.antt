-- Operands without labels stay.
use Rattle.std.proofs.Common.{◌≡◌, false, List, [], ◌∷◌, Option, map, refl, ap}
use Rattle.std.specs.List.{list_any}
use Rattle.lg_node.specs.declared.place.Place.{Place}
use Rattle.lg_op.specs.declared.operand.Operand.{Operand}
use Rattle.lg_op.specs.declared.operand.Operand.TheVariants as operand
use Rattle.lg_op.specs.declared.op.Op.{Op}
use Rattle.lg_op.specs.declared.op.Op.TheVariants as op
use Rattle.lg_op.specs.declared.op.PlainOp.TheVariants as plain
use Rattle.lg_asm.specs.Resolved.{is_name, resolved, resolved_operands}

pub unnamed : (places : List (Option Place)) (xs : List Operand) → list_any is_name xs ≡ false → xs ≡ map (resolved places) xs
unnamed places [] e = refl
unnamed places (operand.Label l ∷ xs) e = cc
unnamed places (operand.Reg r ∷ xs) e = ap (λ ys. operand.Reg r ∷ ys) (unnamed places xs e)
unnamed places (operand.Number n ∷ xs) e = ap (λ ys. operand.Number n ∷ ys) (unnamed places xs e)
unnamed places (operand.Host h ∷ xs) e = ap (λ ys. operand.Host h ∷ ys) (unnamed places xs e)
unnamed places (operand.Slot s ∷ xs) e = ap (λ ys. operand.Slot s ∷ ys) (unnamed places xs e)

-- operands none of which is a label stay as they are in every node
pub unnamed-operands : (places : List (Option Place)) (o : Op) (xs : List Operand) → list_any is_name xs ≡ false → xs ≡ resolved_operands places o xs
unnamed-operands places (op.Plain plain.Allocai) xs e = refl
unnamed-operands places (op.Plain o) xs e = unnamed places xs e
unnamed-operands places o xs e = unnamed places xs e
