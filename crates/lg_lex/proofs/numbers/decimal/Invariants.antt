-- The bytes so far are digits, of this value.
use Rattle.lg_lex.proofs.PlainLemmas.{AreDigits}
use Rattle.lg_lex.proofs.numbers.decimal.Given as goal

abbrev pub invariant-loop-i : goal.invariant-loop-i
invariant-loop-i l = AreDigits l.bytes l.i l.value
