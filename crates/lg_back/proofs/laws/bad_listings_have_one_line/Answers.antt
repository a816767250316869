use Rattle.lg_back.proofs.ListLemmas.{bad-none, bad-one}
use Rattle.lg_back.proofs.laws.bad_listings_have_one_line.Goals as goal

pub returns-clause-none : goal.returns-clause-none
returns-clause-none c line t b bad g = bad-none c.args.text.now line t b bad g

pub returns-clause-one : goal.returns-clause-one
returns-clause-one c line other a b = bad-one c.args.text.now line other a b
