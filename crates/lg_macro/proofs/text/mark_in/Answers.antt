use Rattle.std.proofs.Common.{◌∙◌, ◌&&◌, not, sym, ap, arith}
use Rattle.lg_macro.specs.Text.{is_margin, is_comment}
use Rattle.lg_macro.specs.declared.pieces.PieceKind.{PieceKind}
use Rattle.lg_macro.proofs.TextLemmas.{mark_more, mark_here, mark_none, mark_end}
use Rattle.lg_macro.proofs.text.mark_in.Goals as goal

pub margin-preserved : goal.margin-preserved
margin-preserved c = (
  omega arith,
  c.margin.invariant.1,
  mark_more c.args.pieces.now c.margin.fresh c.still_fresh-fresh.result c.args.from c.margin.n c.margin.invariant.2 (omega arith) (ap is_margin (sym c.kind-kind.ensures) ∙ sym c.is_margin.ensures ∙ c.if-not-is_margin.false) (c.still_fresh-fresh.ensures ∙ ap (λ (k : PieceKind). c.margin.fresh && not (is_comment k)) c.kind-kind.ensures),
)

pub returns-then-begins_directive-clause-value : goal.returns-then-begins_directive-clause-value
returns-then-begins_directive-clause-value c = mark_here c.args.pieces.now c.margin.fresh c.args.from c.margin.n c.margin.invariant.2 (omega arith) (ap is_margin (sym c.kind-kind.ensures) ∙ sym c.is_margin.ensures ∙ c.if-not-is_margin.true) (sym c.begins_directive.ensures ∙ c.if-begins_directive.true)

pub returns-else-begins_directive-clause-value : goal.returns-else-begins_directive-clause-value
returns-else-begins_directive-clause-value c = mark_none c.args.pieces.now c.margin.fresh c.args.from c.margin.n c.margin.invariant.2 (omega arith) (ap is_margin (sym c.kind-kind.ensures) ∙ sym c.is_margin.ensures ∙ c.if-not-is_margin.true) (sym c.begins_directive.ensures ∙ c.if-begins_directive.false)

pub returns-clause-value : goal.returns-clause-value
returns-clause-value c = mark_end c.args.pieces.now c.margin.fresh c.args.from c.margin.n c.margin.invariant.2 (omega arith)
