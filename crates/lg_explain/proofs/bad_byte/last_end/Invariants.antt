use Rattle.std.proofs.Common.{◌≡◌, length}
use Rattle.lg_lex.specs.Tokens.{tokens_of}
use Rattle.lg_explain.specs.BadBytes.{end_after}
use Rattle.lg_explain.proofs.bad_byte.last_end.Given as goal

abbrev pub decreases-loop-token : goal.decreases-loop-token
decreases-loop-token l = length l.lexer.0

abbrev pub invariant-loop-token : goal.invariant-loop-token
invariant-loop-token l = end_after l.place l.lexer.0 ≡ end_after 0 (tokens_of l.text).0
