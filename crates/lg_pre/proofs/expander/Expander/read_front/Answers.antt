use Rattle.std.proofs.Common.{◌≡◌, ◌<◌, true, length, drop, sym, ap, ◌∙◌, arith}
use Rattle.lg_macro.specs.Text.{mark_in}
use Rattle.lg_pre.specs.Windows.{line_end}
use Rattle.lg_pre.proofs.WindowLemmas.{line_goes, line_stops, reads_on_from, stops_on}
use Rattle.lg_pre.proofs.expander.Expander.read_front.Goals as goal

pub returns-in_err-at-clause-reads : goal.returns-in_err-at-clause-reads
returns-in_err-at-clause-reads c =
    let e : line_end c.args.text.now c.lines.at (mark_in true (drop c.lines.at c.args.text.now)) ≡ c.line_end-next.result = ap (line_end c.args.text.now c.lines.at) (sym c.mark_in-mark.ensures.value) ∙ sym c.line_end-next.ensures.value in
    reads_on_from c.from_residual.result c.in_err-at.field-0.0 c.args.text.now c.args.self.now c.line_by.new.self c.from_residual.ensures.1
    (stops_on c.in_err-at.field-0.0 c.args.text.now (drop c.lines.at c.args.text.now) c.args.self.now c.lines.self c.lines.invariant.2
    (line_stops c.in_err-at.field-0.0 c.args.text.now c.lines.self c.line_by.new.self c.lines.at (omega (arith, e)) (omega arith) c.in_err-at.ensures.line))

pub lines-preserved : goal.lines-preserved
lines-preserved c =
    let e : line_end c.args.text.now c.lines.at (mark_in true (drop c.lines.at c.args.text.now)) ≡ c.line_end-next.result = ap (line_end c.args.text.now c.lines.at) (sym c.mark_in-mark.ensures.value) ∙ sym c.line_end-next.ensures.value in (
      c.lines.invariant.0,
      omega (arith, c.in_ok-at.ensures.end),
      λ more. c.lines.invariant.2 more ∙ line_goes c.args.text.now c.lines.self c.line_by.new.self c.lines.at c.in_ok-at.at (omega (arith, e)) (omega arith) (omega (arith, c.in_ok-at.ensures.end)) c.in_ok-at.ensures.line more,
    )
