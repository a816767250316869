use Rattle.lg_meaning.proofs.GrowLemmas.{steps_grow}
use Rattle.lg_meaning.proofs.laws.steps_take_nothing_out.Goals as goal

pub returns : goal.returns
returns c = λ l shape A s t bytes is. steps_grow l shape A s t bytes (c.accepted_nodes_are_well_shaped.ensures l is.accepted)
