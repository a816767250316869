use Rattle.lg_run.proofs.ProfileLemmas.{add_up}
use Rattle.lg_run.proofs.laws.profiles_add_up.Goals as goal

pub returns : goal.returns
returns c = add_up c.counts_add_up.ensures c.spent_steps_add_up.ensures
