-- The comment ends after the bytes so far.
use Rattle.std.proofs.Common.{◌≡◌, drop}
use Rattle.lg_lex.specs.Bytes.{further}
use Rattle.lg_lex.specs.Blanks.{block_rest}
use Rattle.lg_lex.proofs.blanks.block_rest.Given as goal

abbrev pub invariant-loop-i : goal.invariant-loop-i
invariant-loop-i l = further l.i (block_rest (drop l.i l.bytes)) ≡ block_rest l.bytes
