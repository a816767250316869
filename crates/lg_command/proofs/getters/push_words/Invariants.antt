use Rattle.std.proofs.Common.{◌≡◌, ◌++◌, drop, map}
use Rattle.lg_base.specs.Arguments.{texts_of}
use Rattle.lg_command.proofs.getters.push_words.Given as goal

abbrev pub invariant-loop-word : goal.invariant-loop-word
invariant-loop-word l = texts_of l.arguments.items ++ map (λ s. s.now) (drop l.word-index l.words) ≡ texts_of l.fn.arguments.items ++ map (λ s. s.now) l.words
