use Rattle.std.proofs.Common.{arith, sym, ap, ◌∙◌}
use Rattle.lg_macro.specs.Pieces.{is_white, is_byte}
use Rattle.lg_macro.proofs.CallLemmas.{opening_more, opening_here, opening_none, opening_end}
use Rattle.lg_macro.proofs.arguments.opening.Goals as goal

pub white-preserved : goal.white-preserved
white-preserved c = (omega arith, c.white.invariant.1, opening_more c.args.pieces.now c.args.from c.white.n c.white.invariant.2 (omega arith) (ap is_white (sym c.kind-kind.ensures) ∙ sym c.is_white.ensures ∙ c.if-not-is_white.false))

pub returns-then-is_byte-clause-value : goal.returns-then-is_byte-clause-value
returns-then-is_byte-clause-value c = opening_here c.args.pieces.now c.args.from c.white.n c.white.invariant.2 (omega arith) (ap is_white (sym c.kind-kind.ensures) ∙ sym c.is_white.ensures ∙ c.if-not-is_white.true) (ap (is_byte 40) (sym c.kind-kind.ensures) ∙ sym c.is_byte.ensures ∙ c.if-is_byte.true)

pub returns-else-is_byte-clause-value : goal.returns-else-is_byte-clause-value
returns-else-is_byte-clause-value c = opening_none c.args.pieces.now c.args.from c.white.n c.white.invariant.2 (omega arith) (ap is_white (sym c.kind-kind.ensures) ∙ sym c.is_white.ensures ∙ c.if-not-is_white.true) (ap (is_byte 40) (sym c.kind-kind.ensures) ∙ sym c.is_byte.ensures ∙ c.if-is_byte.false)

pub returns-clause-value : goal.returns-clause-value
returns-clause-value c = opening_end c.args.pieces.now c.args.from c.white.n c.white.invariant.2 (omega arith)
