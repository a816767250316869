use Rattle.std.proofs.Common.{◌≡◌, None}
use Rattle.lg_explain.specs.Blames.{astray_at, first_of, of_node}
use Rattle.lg_explain.proofs.targets.first_astray.Given as goal

abbrev pub invariant-loop-index : goal.invariant-loop-index
invariant-loop-index l = first_of (of_node (astray_at l.nodes) l.nodes) l.index ≡ None
