use Rattle.std.proofs.Common.{Some, ap, sym, ◌∙◌}
use Rattle.lg_macro.specs.Pieces.{between}
use Rattle.lg_macro.proofs.DefineLemmas.{params_none, params_some}
use Rattle.lg_macro.proofs.defines.parameters_of.Goals as goal

pub returns-then-no_group : goal.returns-then-no_group
returns-then-no_group c = ap Some c.new.ensures.items ∙ params_none c.in_ok-groups.groups.items (between c.args.from c.args.end c.args.pieces.now) c.in_ok-groups.ensures (rw c.deref.ensures.value at (sym c.no_group.ensures ∙ c.if-no_group.true))

pub returns : goal.returns
returns c = (rw c.deref-2.ensures.value at c.in_ok-names.ensures) ∙ params_some c.in_ok-groups.groups.items (between c.args.from c.args.end c.args.pieces.now) c.in_ok-groups.ensures (rw c.deref.ensures.value at (sym c.no_group.ensures ∙ c.if-no_group.false))
