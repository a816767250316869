use Rattle.std.proofs.Common.{sym, ◌∙◌}
use Rattle.lg_io.proofs.NamedTextLemmas.{text_under-found}
use Rattle.lg_io.proofs.memory_texts.place_of.Goals as goal

pub returns-then-has_name : goal.returns-then-has_name
returns-then-has_name c =
    (c.loop-place-test.true, text_under-found c.args.texts.now c.loop-place.place c.index-texts-place.result c.args.name.now c.loop-place-test.true c.index-texts-place.is (sym c.has_name.ensures ∙ c.if-has_name.true) c.loop-place.invariant)
