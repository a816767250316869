use Rattle.lg_list.proofs.BackLemmas.{reads_back}
use Rattle.lg_list.proofs.laws.listing_reads_back.Goals as goal

pub returns : goal.returns
returns c = reads_back c.args.target c.args.code.now.items c.args.places.now.items c.args.nodes.now c.args.labels.now c.requires c.lines_are_small.ensures
