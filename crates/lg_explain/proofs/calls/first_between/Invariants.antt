use Rattle.std.proofs.Common.{◌≡◌, None}
use Rattle.lg_node.specs.Preparations.{variadic, varies_before}
use Rattle.lg_explain.specs.Blames.{bad_call_at, first_of, of_node}
use Rattle.lg_explain.proofs.calls.first_between.Given as goal

abbrev pub invariant-loop-index : goal.invariant-loop-index
invariant-loop-index l = record {
  call : l.call ≡ variadic l.nodes.nodes l.index;
  varies : l.varies ≡ varies_before l.nodes.nodes l.index;
  none : first_of (of_node (bad_call_at l.nodes) l.nodes) l.index ≡ None;
}
