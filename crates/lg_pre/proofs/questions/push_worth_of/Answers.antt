use Rattle.std.proofs.Common.{◌∙◌, sym, arith}
use Rattle.lg_pre.proofs.QuestionLemmas.{worth_more, worth_done}
use Rattle.lg_pre.proofs.questions.push_worth_of.Goals as goal

pub pieces-preserved : goal.pieces-preserved
pieces-preserved c = worth_more c.args.pieces.now c.pieces.at c.pieces.out c.push_worth.new.out (omega arith) c.in_ok-push_worth.ensures ∙ c.pieces.invariant

pub returns : goal.returns
returns c = sym (worth_done c.args.pieces.now c.pieces.at c.pieces.out (omega arith)) ∙ c.pieces.invariant
