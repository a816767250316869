use Rattle.std.proofs.Common.{◌≡◌}
use Rattle.lg_explain.specs.Lines.{after_lines}
use Rattle.lg_explain.proofs.line.after_lines.Given as goal

abbrev pub invariant-loop-feed : goal.invariant-loop-feed
invariant-loop-feed l = l.rest ≡ after_lines l._feed l.text
