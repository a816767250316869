use Rattle.std.proofs.Common.{◌∙◌, sym, ap, arith}
use Rattle.lg_macro.specs.Pieces.{is_white}
use Rattle.lg_pre.proofs.QuestionLemmas.{solid_here, solid_more, solid_none}
use Rattle.lg_pre.proofs.questions.solid_at.Goals as goal

pub returns-then-not-is_white-clause-value : goal.returns-then-not-is_white-clause-value
returns-then-not-is_white-clause-value c = solid_here c.args.pieces.now c.white.at (omega arith) (ap is_white (sym c.kind.ensures) ∙ sym c.is_white.ensures ∙ c.if-not-is_white.true) ∙ c.white.invariant.2

pub white-preserved : goal.white-preserved
white-preserved c = (omega arith, omega arith, solid_more c.args.pieces.now c.white.at (omega arith) (ap is_white (sym c.kind.ensures) ∙ sym c.is_white.ensures ∙ c.if-not-is_white.false) ∙ c.white.invariant.2)

pub returns-clause-value : goal.returns-clause-value
returns-clause-value c = solid_none c.args.pieces.now c.white.at (omega arith) ∙ c.white.invariant.2
