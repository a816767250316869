use Rattle.std.proofs.Common.{◌+◌, ◌∙◌, sym, arith}
use Rattle.lg_macro.proofs.TextLemmas.{line_here, line_more, line_none}
use Rattle.lg_macro.proofs.text.line_len.Goals as goal

pub returns-then-ends_line-clause-value : goal.returns-then-ends_line-clause-value
returns-then-ends_line-clause-value c = line_here c.args.goes_on c.line.slash c.args.pieces.now (c.args.from + c.line.n) c.line.n (omega arith) (sym c.ends_line.ensures ∙ c.if-ends_line.true) ∙ c.line.invariant.2

pub line-preserved : goal.line-preserved
line-preserved c = (
  omega arith,
  c.line.invariant.1,
  line_more c.args.goes_on c.line.slash c.ends_with_slash-slash.result c.args.pieces.now c.args.from c.line.n (omega arith) (sym c.ends_line.ensures ∙ c.if-ends_line.false) (rw c.text.ensures at c.ends_with_slash-slash.ensures) ∙ c.line.invariant.2,
)

pub returns-clause-value : goal.returns-clause-value
returns-clause-value c = line_none c.args.goes_on c.line.slash c.args.pieces.now (c.args.from + c.line.n) c.line.n (omega arith) ∙ c.line.invariant.2
