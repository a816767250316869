use Rattle.std.proofs.Common.{◌==◌, ◌&&◌, arith, sym, ap, ◌∙◌}
use Rattle.lg_macro.specs.Pieces.{is_byte}
use Rattle.lg_macro.proofs.CallLemmas.{closing_here, closing_more, closing_none, depth_low}
use Rattle.lg_macro.specs.Arguments.{depth_after}
use Rattle.lg_macro.specs.declared.pieces.PieceKind.{PieceKind}
use Rattle.lg_macro.proofs.arguments.closing.Goals as goal

pub returns-then-ends-clause-value : goal.returns-then-ends-clause-value
returns-then-ends-clause-value c = closing_here c.args.pieces.now c.args.from c.inner.n c.inner.depth c.inner.invariant.3 (omega arith) (ap (λ (k : PieceKind). is_byte 41 k && (c.inner.depth == 0)) (sym c.kind-kind.ensures) ∙ sym c.ends.ensures ∙ c.if-ends.true)

pub inner-preserved : goal.inner-preserved
inner-preserved c = (omega arith, c.inner.invariant.1, depth_low c.inner.depth c.inner.n c.depth_after-depth.result c.kind-kind.result c.inner.invariant.2 c.depth_after-depth.ensures, closing_more c.args.pieces.now c.args.from c.inner.n c.inner.depth c.depth_after-depth.result c.inner.invariant.3 (omega arith) (ap (λ (k : PieceKind). is_byte 41 k && (c.inner.depth == 0)) (sym c.kind-kind.ensures) ∙ sym c.ends.ensures ∙ c.if-ends.false) (c.depth_after-depth.ensures ∙ ap (depth_after c.inner.depth) c.kind-kind.ensures))

pub returns-clause-value : goal.returns-clause-value
returns-clause-value c = closing_none c.args.pieces.now c.args.from c.inner.n c.inner.depth c.inner.invariant.3 (omega arith)
