use Rattle.lg_tst.proofs.LabelLemmas.{label_within}
use Rattle.lg_tst.proofs.parser.Parser.label.Goals as goal

pub bind-requires-clause-label : goal.bind-requires-clause-label
bind-requires-clause-label c =
    rw (c.in_ok-label.ensures.number, c.in_ok-label.ensures.ok) (label_within c.self.inside.nodes c.args.word.now)
