use Rattle.std.proofs.Common.{List, sym, ap, ◌∙◌}
use Rattle.std.specs.List.{list_any}
use Rattle.lg_op.specs.declared.operand.Operand.{Operand}
use Rattle.lg_asm.specs.Resolved.{is_name}
use Rattle.lg_asm.proofs.ResolvedNames.{unnamed-operands}
use Rattle.lg_asm.proofs.node.resolve.Goals as goal

pub returns-else-name_labels : goal.returns-else-name_labels
returns-else-name_labels c =
    let none = ap (list_any is_name) (sym c.as_slice.ensures.value) ∙ sym c.name_labels.ensures ∙ c.if-name_labels.false in
    ap (λ (xs : List Operand). record c.args.node.now { operands = xs }) (unnamed-operands c.args.list.now.places c.args.node.now.op c.args.node.now.operands none)
