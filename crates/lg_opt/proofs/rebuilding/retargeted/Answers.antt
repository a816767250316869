use Rattle.std.proofs.Common.{sym, subst}
use Rattle.lg_op.specs.Nodes.{InForm}
use Rattle.lg_opt.proofs.RebuildLemmas.{form-kept}
use Rattle.lg_opt.proofs.rebuilding.retargeted.Goals as goal

pub returns-in-Some-clause-form : goal.returns-in-Some-clause-form
returns-in-Some-clause-form c =
    let n = c.args.node.now in
    subst (λ xs. InForm (record n { operands = xs })) (sym c.with_first.ensures) (form-kept n c.in-Some.label c.requires.form (c.requires.jumps c.in-Some.label c.in-Some.is))
