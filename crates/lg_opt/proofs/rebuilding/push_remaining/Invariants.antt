use Rattle.std.proofs.Common.{◌≡◌, ◌≤◌, length}
use Rattle.std.specs.Prelude.{slice_get}
use Rattle.std.specs.Option.{option_map}
use Rattle.lg_opt.specs.Remaining.{remaining, retargeted}
use Rattle.lg_opt.specs.Rewritings.{marked, target_in}
use Rattle.lg_opt.proofs.rebuilding.push_remaining.Given as goal

abbrev pub invariant-loop-index : goal.invariant-loop-index
invariant-loop-index l = record {
  list : l.list ≡ record l.fn.list { nodes = remaining (marked l.stays) (λ i. option_map (retargeted (target_in l.targets i)) (slice_get l.nodes.nodes i)) l.index };
  few : length l.list.nodes ≤ l.index;
}
