use Rattle.lg_mean.proofs.FollowLemmas.{steps-follow}
use Rattle.lg_mean.proofs.laws.steps_follow_the_meaning.Goals as goal

pub returns : goal.returns
returns c = steps-follow c.steps_are_those_of_the_meaning.ensures
