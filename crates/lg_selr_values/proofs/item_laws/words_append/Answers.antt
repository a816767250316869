use Rattle.lg_selr_values.proofs.ItemLemmas.{words_append}
use Rattle.lg_selr_values.proofs.item_laws.words_append.Goals as goal

pub returns : goal.returns
returns c = words_append
