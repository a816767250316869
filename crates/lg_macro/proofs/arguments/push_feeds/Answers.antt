use Rattle.std.proofs.Common.{◌∙◌, arith}
use Rattle.lg_macro.proofs.CallLemmas.{feeds_more}
use Rattle.lg_macro.proofs.arguments.push_feeds.Goals as goal

pub pieces-preserved : goal.pieces-preserved
pieces-preserved c = feeds_more c.args.line c.pieces.at c.args.end c.text.result.now c.args.pieces.now c.pieces.out c.push_feeds_of.new.out (omega arith) (omega arith) c.text.ensures c.in_ok-push_feeds_of.ensures ∙ c.pieces.invariant
