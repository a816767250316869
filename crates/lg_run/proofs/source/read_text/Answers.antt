use Rattle.lg_run.proofs.ReadLemmas.{long_text}
use Rattle.lg_run.proofs.source.read_text.Goals as goal

pub returns-in-Ok-select-clause-long : goal.returns-in-Ok-select-clause-long
returns-in-Ok-select-clause-long g c e = long_text (g.T.Texts.held c.args.texts.now) c.args.name.now (g.T.Texts.left c.select.new.self) c.in-Ok-select.ensures.left (c.read_rest.ensures.long e)
