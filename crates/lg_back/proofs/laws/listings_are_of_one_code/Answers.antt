use Rattle.lg_back.proofs.ListLemmas.{back-one}
use Rattle.lg_back.proofs.laws.listings_are_of_one_code.Goals as goal

pub returns : goal.returns
returns c t u b d g h = back-one c.args.text.now t u b d g h
