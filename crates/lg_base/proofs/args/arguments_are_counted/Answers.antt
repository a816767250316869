use Rattle.lg_base.proofs.CountLemmas.{arguments-counted}
use Rattle.lg_base.proofs.args.arguments_are_counted.Goals as goal

pub returns : goal.returns
returns c = arguments-counted
