use Rattle.std.proofs.Common.{refl}
use Rattle.lg_pre.proofs.LineLemmas.{between_whole}
use Rattle.lg_pre.proofs.StopLemmas.{counts_from, counts_bound}
use Rattle.lg_pre.proofs.expander.Expander.feed_lines.Goals as goal

pub returns-in_err-feed : goal.returns-in_err-feed
returns-in_err-feed c = counts_from c.from_residual.result c.in_err-feed.field-0.0 _ _ c.from_residual.ensures.1
    (counts_bound c.in_err-feed.field-0.0 _ _ _ (rw (between_whole c.args.self.now.lines c.len-end.result c.len-end.ensures) at c.in_err-feed.ensures))

pub returns : goal.returns
returns c = let whole = rw (between_whole c.args.self.now.lines c.len-end.result c.len-end.ensures) at c.in_ok-feed.ensures in rw (whole, c.clear.ensures) refl
