use Rattle.std.proofs.Common.{◌∙◌, sym, arith}
use Rattle.lg_replacement.proofs.ExpansionLemmas.{counts_stop, counts_blames}
use Rattle.lg_pre.proofs.LineLemmas.{fed_more, fed_stop, fed_done}
use Rattle.lg_pre.proofs.flush.feed.Goals as goal

pub returns-in_err-feed_one : goal.returns-in_err-feed_one
returns-in_err-feed_one c = counts_stop c.from_residual.result c.in_err-feed_one.field-0.0 _ _ c.from_residual.ensures.1
    (counts_blames c.in_err-feed_one.field-0.0 _ _ _ c.in_err-feed_one.ensures (λ fault e. sym c.pieces.invariant ∙ fed_stop c.args.pieces.now c.pieces.at c.args.end c.pieces.given fault (omega arith) (omega arith) e))

pub pieces-preserved : goal.pieces-preserved
pieces-preserved c = fed_more c.args.pieces.now c.pieces.at c.args.end c.pieces.given c.feed_one.new.given (omega arith) (omega arith) c.in_ok-feed_one.ensures ∙ c.pieces.invariant

pub returns : goal.returns
returns c = sym c.pieces.invariant ∙ fed_done c.args.pieces.now c.pieces.at c.args.end c.pieces.given (omega arith)
