use Rattle.std.proofs.Common.{◌≡◌, ◌++◌, drop}
use Rattle.lg_base.specs.Arguments.{texts_of, strings}
use Rattle.lg_base.proofs.args.push_strings.Given as goal

abbrev pub invariant-loop-word : goal.invariant-loop-word
invariant-loop-word l = l.bytes.items ++ strings (texts_of (drop l.word-index l.words.items)) ≡ l.fn.bytes.items ++ strings (texts_of l.words.items)
