use Rattle.lg_selr_values.proofs.GoodLemmas.{good-items-are-appendable}
use Rattle.lg_selr_values.proofs.item_laws.good_items_are_appendable.Goals as goal

pub returns : goal.returns
returns c = good-items-are-appendable
