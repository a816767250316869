-- The value is that of the digits so far, and it fits.
use Rattle.std.proofs.Common.{◌≡◌, ◌<◌, ◌^◌, take}
use Rattle.lg_lex.specs.Numbers.{digits_value}
use Rattle.lg_lex.proofs.numbers.digits_value.Given as goal

abbrev pub invariant-loop-b : goal.invariant-loop-b
invariant-loop-b l = (l.value ≡ digits_value l.radix (take l.b-index l.digits)) × (l.value < 2 ^ 64)
