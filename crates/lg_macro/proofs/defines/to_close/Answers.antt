use Rattle.std.proofs.Common.{◌∙◌, sym, ap, arith}
use Rattle.lg_macro.specs.Pieces.{is_byte}
use Rattle.lg_macro.proofs.DefineLemmas.{close_here, close_more, close_none}
use Rattle.lg_macro.proofs.defines.to_close.Goals as goal

pub returns-then-is_byte-clause-value : goal.returns-then-is_byte-clause-value
returns-then-is_byte-clause-value c = close_here c.args.pieces.now c.args.from c.inner.n c.inner.invariant.2 (omega arith) (ap (is_byte 41) (sym c.kind.ensures) ∙ sym c.is_byte.ensures ∙ c.if-is_byte.true)

pub inner-preserved : goal.inner-preserved
inner-preserved c = (omega arith, c.inner.invariant.1, close_more c.args.pieces.now c.args.from c.inner.n c.inner.invariant.2 (omega arith) (ap (is_byte 41) (sym c.kind.ensures) ∙ sym c.is_byte.ensures ∙ c.if-is_byte.false))

pub returns-clause-value : goal.returns-clause-value
returns-clause-value c = close_none c.args.pieces.now c.args.from c.inner.n c.inner.invariant.2 (omega arith)
