use Rattle.std.proofs.Common.{sym, subst}
use Rattle.lg_list.specs.Back.{Back}
use Rattle.lg_run.proofs.listing_laws.code_listings_are_read_back.Goals as goal

pub returns : goal.returns
returns c = c.read_back.ensures.listing c.args.code.now.target c.args.code.now.bytes (subst (λ text. Back text c.args.code.now.target c.args.code.now.bytes) (sym c.requires.text) c.code_listings_read_back.ensures)
