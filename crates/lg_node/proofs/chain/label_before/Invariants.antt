use Rattle.std.proofs.Common.{◌≡◌, ◌<◌, ◌-◌, ℕ, Bool, true, Option}
use Rattle.lg_node.specs.declared.chain.Ends.{Ends}
use Rattle.lg_node.specs.Chains.{IsChain}
use Rattle.lg_node.proofs.chain.label_before.Given as goal

abbrev pub invariant-loop-before : goal.invariant-loop-before
invariant-loop-before l = record {
  below : l.before.0 < l.label.0;
  bound : (at : ℕ → Bool) (ends : Option Ends) → IsChain at l.next ends → at l.fn.first.0 ≡ true → at l.before.0 ≡ true;
}

abbrev pub decreases-loop-before : goal.decreases-loop-before
decreases-loop-before l = l.label.0 - l.before.0
