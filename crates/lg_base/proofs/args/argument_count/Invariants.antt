use Rattle.std.proofs.Common.{◌≡◌, ◌+◌, ◌-◌, ◌*◌, ◌≤◌, drop}
use Rattle.lg_base.specs.Arguments.{words_before_zero, argument_count}
use Rattle.lg_base.proofs.args.argument_count.Given as goal

abbrev pub invariant-loop-count : goal.invariant-loop-count
invariant-loop-count l = record {
  low : l.count ≤ l.words;
  rest : l.count + words_before_zero (l.words - l.count) (drop (8 * l.count) l.args) ≡ argument_count l.args;
}

abbrev pub decreases-loop-count : goal.decreases-loop-count
decreases-loop-count l = l.words - l.count
