-- The word is none of the names that are passed.
use Rattle.std.proofs.Common.{◌≡◌, length, map}
use Rattle.lg_op.specs.Names.{named}
use Rattle.lg_op.proofs.names.named.Given as goal

abbrev pub invariant-loop-left : goal.invariant-loop-left
invariant-loop-left l = named l.word (map (λ e. (e.0.now, e.1)) l.left) ≡ named l.word (map (λ e. (e.0.now, e.1)) l.names)

abbrev pub decreases-loop-left : goal.decreases-loop-left
decreases-loop-left l = length l.left
