use Rattle.std.proofs.Common.{◌+◌, refl, sym, ◌∙◌}
use Rattle.lg_live.specs.Graphs.{set_at, falls}
use Rattle.lg_live.proofs.SearchLemmas.{passed_are_needed}
use Rattle.lg_live.proofs.search.wanted_by_fall.Goals as goal

pub returns-then-falls-clause-sound : goal.returns-then-falls-clause-sound
returns-then-falls-clause-sound c = λ sound.
    passed_are_needed c.args.points.now c.args.index (c.args.index + 1) (set_at c.args.sets.now (c.args.index + 1)) c.passing.result
    (falls c.args.index (c.args.index + 1) (sym c.falls.ensures ∙ c.if-falls.true) refl) (sound (c.args.index + 1)) c.passing.ensures
