use Rattle.lg_pre.proofs.LineLaws.{line_feeds_are_kept as law}
use Rattle.lg_pre.proofs.laws.line_feeds_are_kept.Goals as goal

pub returns : goal.returns
returns c = law
