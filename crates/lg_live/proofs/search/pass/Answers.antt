use Rattle.std.proofs.lemmas.Result.{on_ok_weaker}
use Rattle.lg_live.proofs.SearchLemmas.{passed_are_needed}
use Rattle.lg_live.proofs.search.pass.Goals as goal

pub returns-clause-sound : goal.returns-clause-sound
returns-clause-sound c =
    on_ok_weaker c.raise.result
    (λ h. h c.requires.sound (passed_are_needed c.args.points.now c.args.from c.args.to c.args.set c.passing.result c.requires.arc c.requires.wanted c.passing.ensures))
    (c.raise.ensures.sound c.args.points.now)
