-- What was skipped so far has left the tokens as they were.
use Rattle.std.proofs.Common.{◌≡◌, ◌-◌, length}
use Rattle.lg_lex.specs.Tokens.{tokens_at, IsPlace}
use Rattle.lg_lex.proofs.lexer.Lexer.any_token.Given as goal

abbrev pub invariant-pieces : goal.invariant-pieces
invariant-pieces l =
    let place = l.self-inside.place in
    IsPlace l.self-inside.text.now place.offset place.line place.fresh
    × (tokens_at l.self-inside.text.now place.offset ≡ l.fn.self)

abbrev pub decreases-pieces : goal.decreases-pieces
decreases-pieces l = length l.self-inside.text.now - l.self-inside.place.offset
