-- The white space so far has left the tokens as they were.
use Rattle.std.proofs.Common.{◌≡◌, ◌-◌, length}
use Rattle.lg_lex.specs.Tokens.{tokens_at, IsPlace}
use Rattle.lg_lex.proofs.lexer.pass_spaces.Given as goal

abbrev pub invariant-spaces : goal.invariant-spaces
invariant-spaces l =
    IsPlace l.text l.place.offset l.place.line l.place.fresh × (tokens_at l.text l.place.offset ≡ tokens_at l.text l.fn.place.offset)

abbrev pub decreases-spaces : goal.decreases-spaces
decreases-spaces l = length l.text - l.place.offset
