use Rattle.std.proofs.Common.{◌≡◌, [], drop}
use Rattle.lg_macro.specs.Substitution.{filled}
use Rattle.lg_macro.proofs.substitution.substituted.Given as goal

abbrev pub invariant-body : goal.invariant-body
invariant-body l = filled l.line (drop l.at l.entry.body) (drop l.at l.entry.marks) l.raw l.full l.done l.now ≡ filled l.line l.entry.body l.entry.marks l.raw l.full [] []
