-- The bytes so far were passed.
use Rattle.std.proofs.Common.{◌≡◌, ◌+◌, ◌==◌, take, count_by, fold}
use Rattle.lg_lex.specs.Tokens.{with_byte}
use Rattle.lg_lex.proofs.place.passed.Given as goal

abbrev pub invariant-loop-b : goal.invariant-loop-b
invariant-loop-b l =
    (l.line ≡ l.initial.line + count_by (λ b. b == 10) (take l.b-index l.bytes))
    × (l.fresh ≡ fold with_byte l.initial.fresh (take l.b-index l.bytes))
