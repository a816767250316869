use Rattle.std.proofs.Common.{sym, subst}
use Rattle.lg_list.specs.Back.{Back}
use Rattle.lg_back.proofs.laws.listings_are_read_back.Goals as goal

pub returns : goal.returns
returns c = c.read_back.ensures.listing c.args.target c.args.code.now.items (subst (λ text. Back text c.args.target c.args.code.now.items) (sym c.requires.text) c.listing_reads_back.ensures)
