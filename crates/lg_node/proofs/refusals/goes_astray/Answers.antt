use Rattle.std.proofs.Common.{sym, ◌∙◌}
use Rattle.lg_node.proofs.AstrayLemmas.{none_astray}
use Rattle.lg_node.proofs.refusals.goes_astray.Goals as goal

pub returns-else-names_label : goal.returns-else-names_label
returns-else-names_label c =
    c.if-names_label.false
    ∙ sym (none_astray c.args.nodes.now c.args.op c.args.home c.args.forms.now c.args.operands.now (sym c.names_label.ensures ∙ c.if-names_label.false))
