use Rattle.std.proofs.Common.{sym, ◌∙◌}
use Rattle.lg_live.specs.Graphs.{set_at, jumps}
use Rattle.lg_live.proofs.SearchLemmas.{passed_are_needed}
use Rattle.lg_live.proofs.search.wanted_by_jump.Goals as goal

pub returns-in-Some-clause-sound : goal.returns-in-Some-clause-sound
returns-in-Some-clause-sound c = λ sound.
    passed_are_needed c.args.points.now c.args.index c.in-Some.target (set_at c.args.sets.now c.in-Some.target) c.passing.result
    (jumps c.args.index c.in-Some.target (sym c.jumps.ensures ∙ c.in-Some.is)) (sound c.in-Some.target) c.passing.ensures
