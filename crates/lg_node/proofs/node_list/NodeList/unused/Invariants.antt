use Rattle.std.proofs.Common.{◌≡◌, ◌<◌, ◌≤◌, ℕ, true, length}
use Rattle.lg_node.specs.Unused.{is_mentioned, numbered}
use Rattle.lg_node.proofs.node_list.NodeList.unused.Given as goal

abbrev pub invariant-loop-number : goal.invariant-loop-number
invariant-loop-number l = record {
  from : length l.self.words ≤ l.number;
  first : (k : ℕ) → length l.self.words ≤ k → k < l.number → is_mentioned l.self.words (numbered k) ≡ true;
}
