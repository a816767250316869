use Rattle.std.proofs.Common.{ap, ◌∙◌, ⊎_elim}
use Rattle.lg_op.specs.Names.{named, names_from}
use Rattle.lg_op.proofs.NameLemmas.{found, found_named, again, long_again}
use Rattle.lg_op.proofs.op.Op.by_name.Goals as goal

pub returns-clause-found : goal.returns-clause-found
returns-clause-found c = found_named c.named.result c.args.word.now (c.named.ensures ∙ ap (named c.args.word.now) (c.names_from.ensures ∙ ap names_from c.first.ensures))

pub returns-clause-every : goal.returns-clause-every
returns-clause-every c op name = c.named.ensures ∙ ap (named c.args.word.now) (c.names_from.ensures ∙ ap names_from c.first.ensures) ∙ ⊎_elim
    (λ w. ap found w ∙ again op)
    (λ s. ap found s.1 ∙ long_again op s.0)
    name
