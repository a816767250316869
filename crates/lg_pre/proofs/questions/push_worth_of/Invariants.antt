use Rattle.std.proofs.Common.{◌≡◌, ◌++◌, drop}
use Rattle.lg_pre.specs.Questions.{worth_of}
use Rattle.lg_pre.proofs.questions.push_worth_of.Given as goal

abbrev pub invariant-pieces : goal.invariant-pieces
invariant-pieces l = l.out ++ worth_of (drop l.at l.pieces) ≡ l.fn.out ++ worth_of l.pieces
