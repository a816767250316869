use Rattle.std.proofs.Common.{◌≤◌, length, sym, arith}
use Rattle.std.proofs.lemmas.List.{take_all}
use Rattle.lg_explain.specs.Lines.{most_shown}
use Rattle.lg_explain.proofs.line.Shown.front.Goals as goal

pub returns-then-line-lt-MOST_SHOWN-clause-value : goal.returns-then-line-lt-MOST_SHOWN-clause-value
returns-then-line-lt-MOST_SHOWN-clause-value c =
    let short : length c.args.line.now ≤ most_shown = omega (arith, c.if-line-lt-MOST_SHOWN.true) in sym (take_all most_shown c.args.line.now short)
