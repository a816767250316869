-- The name so far is at the front of the word.
use Rattle.std.proofs.Common.{◌≡◌, drop}
use Rattle.std.specs.Str.{bytes_eq}
use Rattle.lg_op.proofs.names.is_same.Given as goal

abbrev pub invariant-loop-b : goal.invariant-loop-b
invariant-loop-b l = bytes_eq l.word l.name ≡ bytes_eq l.rest (drop l.b-index l.name)
