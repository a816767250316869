-- What stays of a node whose jump is threaded.
use Rattle.std.proofs.Common.{◌≡◌, List, [], ◌∷◌, refl, ap, inl, inr, ◌∙◌}
use Rattle.std.specs.Prelude.{drop}
use Rattle.lg_op.specs.declared.node.Node.{Node}
use Rattle.lg_op.specs.declared.operand.Label.{Label}
use Rattle.lg_op.specs.declared.operand.Operand.{Operand}
use Rattle.lg_opt.specs.Remaining.{with_first}
use Rattle.lg_opt.specs.Rewritings.{ThreadedNodesStay}

first-alone : (xs : List Operand) (y : Label) → drop 1 (with_first xs y) ≡ drop 1 xs
first-alone [] y = refl
first-alone (x ∷ xs) y = refl

pub threaded-stay : ThreadedNodesStay
threaded-stay old n (inl e) = record {
  op = ap (λ (it : Node). it.op) e;
  line = ap (λ (it : Node). it.line) e;
  others = ap (λ (it : Node). drop 1 it.operands) e;
}
threaded-stay old n (inr h) = let e = h.2 in record {
  op = ap (λ (it : Node). it.op) e;
  line = ap (λ (it : Node). it.line) e;
  others = ap (λ (it : Node). drop 1 it.operands) e ∙ first-alone old.operands h.1;
}
