use Rattle.std.proofs.Common.{◌≡◌, drop, fold}
use Rattle.lg_macro.specs.Defines.{with_plain}
use Rattle.lg_macro.proofs.body.push_plain.Given as goal

abbrev pub invariant-gap : goal.invariant-gap
invariant-gap l = fold with_plain l.marks (drop l._at l.gap) ≡ fold with_plain l.fn.marks l.gap
