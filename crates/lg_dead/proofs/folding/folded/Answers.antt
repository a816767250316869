use Rattle.std.proofs.Common.{sym, subst, ◌∙◌}
use Rattle.lg_op.specs.Nodes.{InForm}
use Rattle.lg_dead.specs.Tables.{known_of}
use Rattle.lg_dead.proofs.FoldNodeLemmas.{last-form-is}
use Rattle.lg_dead.proofs.folding.folded.Goals as goal

pub returns-in-Some-last_known-clause-form : goal.returns-in-Some-last_known-clause-form
returns-in-Some-last_known-clause-form c =
    subst InForm (sym c.as_immediate.ensures)
    (last-form-is (known_of c.args.known.now) c.args.node.now c.in-Some-last_known.number c.requires.form (sym c.last_known.ensures ∙ c.in-Some-last_known.is))
