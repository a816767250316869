use Rattle.lg_back.proofs.AnswerLemmas.{given-back, refused-at}
use Rattle.lg_back.proofs.reader.read_back.Goals as goal

pub returns-clause-listing : goal.returns-clause-listing
returns-clause-listing c t bytes is = given-back c.args.text.now c.read_behind.result t bytes c.read_behind.ensures is

pub returns-clause-other : goal.returns-clause-other
returns-clause-other c line bad = refused-at c.args.text.now c.read_behind.result line c.read_behind.ensures bad
