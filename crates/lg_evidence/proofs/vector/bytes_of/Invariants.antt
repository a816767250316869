use Rattle.std.proofs.Common.{◌≡◌, ◌*◌, length, take}
use Rattle.lg_evidence.specs.Hex.{hex_of}
use Rattle.lg_evidence.proofs.vector.bytes_of.Given as goal

-- the bytes so far, of the digits so far
abbrev pub invariant-loop-k : goal.invariant-loop-k
invariant-loop-k l = (length l.bytes ≡ l.k) × (hex_of l.bytes ≡ take (2 * l.k) l.digits)
