use Rattle.lg_selr_values.proofs.PatchLemmas.{are-holes}
use Rattle.lg_selr_values.proofs.item_laws.items_have_holes.Goals as goal

pub returns : goal.returns
returns c = are-holes
