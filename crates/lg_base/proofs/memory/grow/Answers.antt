use Rattle.std.proofs.Common.{rules}
use Rattle.lg_base.proofs.HeldLemmas.{grown_index}
use Rattle.lg_base.proofs.memory.grow.Goals as goal

pub returns-clause-same : goal.returns-clause-same
returns-clause-same c =
    grown_index c.args.bytes.now.items c.resize-grown.new.self.items c.args.len c.requires.more (search rules)
