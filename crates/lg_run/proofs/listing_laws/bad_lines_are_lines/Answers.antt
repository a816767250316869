use Rattle.lg_run.proofs.FeedLemmas.{bad_line_is}
use Rattle.lg_run.proofs.listing_laws.bad_lines_are_lines.Goals as goal

pub returns : goal.returns
returns c = bad_line_is
