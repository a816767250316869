use Rattle.lg_asm.proofs.FollowingLemmas.{calls-follow}
use Rattle.lg_asm.proofs.laws.calls_follow.Goals as goal

pub returns : goal.returns
returns c = calls-follow
