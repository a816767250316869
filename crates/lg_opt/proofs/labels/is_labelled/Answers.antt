use Rattle.std.proofs.Common.{◌∙◌}
use Rattle.lg_opt.proofs.LabelTableLemmas.{labelled-by}
use Rattle.lg_opt.proofs.labels.is_labelled.Goals as goal

pub returns : goal.returns
returns c = λ l h. c.is_some.ensures ∙ labelled-by l c.args.labels.now c.args.index c.requires h
