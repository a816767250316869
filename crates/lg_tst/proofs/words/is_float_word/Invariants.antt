use Rattle.std.proofs.Common.{◌≡◌, drop}
use Rattle.lg_tst.specs.Words.{is_float_word}
use Rattle.lg_tst.proofs.words.is_float_word.Given as goal

abbrev pub invariant-loop-i : goal.invariant-loop-i
invariant-loop-i l = is_float_word (drop l.i l.word) ≡ is_float_word l.word
