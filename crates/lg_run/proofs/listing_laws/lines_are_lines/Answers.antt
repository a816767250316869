use Rattle.lg_run.proofs.FeedLemmas.{head_is, line_is}
use Rattle.lg_run.proofs.listing_laws.lines_are_lines.Goals as goal

pub returns : goal.returns
returns c = record { first = head_is; other = line_is }
