use Rattle.std.proofs.Common.{◌≡◌, ◌≤◌, length}
use Rattle.lg_node.specs.ShapeLaws.{has_target}
use Rattle.lg_node.specs.Shapes.{IsShapeOf}
use Rattle.lg_opt.specs.Hops.{HasNoIdleJumps, is_jump}
use Rattle.lg_opt.specs.Moves.{HasNoIdleMoves}
use Rattle.lg_opt.specs.Rewritings.{IsOrigin, IsThreadedNode, KeepsOthers, KeepsLabels, CarriesAddresses, RunsAreThreaded, IsThreadedTo}
use Rattle.lg_opt.proofs.ClauseLemmas.{ok-weaker, threaded-origin, threaded-others, threaded-few, threaded-labels, threaded-jumps, threaded-moves, threaded-addresses, threaded-runs}
use Rattle.lg_opt.proofs.threading.with_threaded_jumps.Goals as goal

pub returns : goal.returns
returns c =
    let l = c.args.nodes in
    let s = c.args.shape in
    let formed = c.what_holds.ensures.formed in
    let placed = c.what_holds.ensures.placed in
    let r = c.threaded.result in
    let is = c.threaded.ensures in
    record {
      shape = ok-weaker (λ r. IsThreadedTo l s r.nodes r.shape r.origin.items) (λ r. IsShapeOf r.nodes r.shape) r (λ x d. d.shaped) is;
      taken = ok-weaker (λ r. IsThreadedTo l s r.nodes r.shape r.origin.items) (λ r. r.shape.taken ≡ s.taken) r (λ x d. d.taken) is;
      origin = ok-weaker (λ r. IsThreadedTo l s r.nodes r.shape r.origin.items) (λ r. IsOrigin IsThreadedNode l r.nodes r.origin.items) r (λ x d. threaded-origin l s c.requires formed placed x.nodes x.shape x.origin.items d) is;
      others = ok-weaker (λ r. IsThreadedTo l s r.nodes r.shape r.origin.items) (λ r. KeepsOthers is_jump l r.origin.items) r (λ x d. threaded-others l s c.requires formed placed x.nodes x.shape x.origin.items d) is;
      few = ok-weaker (λ r. IsThreadedTo l s r.nodes r.shape r.origin.items) (λ r. length r.nodes.nodes ≤ length l.nodes) r (λ x d. threaded-few l s c.requires formed placed x.nodes x.shape x.origin.items d) is;
      labels = ok-weaker (λ r. IsThreadedTo l s r.nodes r.shape r.origin.items) (λ r. KeepsLabels l r.nodes r.origin.items) r (λ x d. threaded-labels l s c.requires formed placed x.nodes x.shape x.origin.items d) is;
      jumps = ok-weaker (λ r. IsThreadedTo l s r.nodes r.shape r.origin.items) (λ r. HasNoIdleJumps r.nodes has_target) r (λ x d. threaded-jumps l s c.requires formed placed x.nodes x.shape x.origin.items d) is;
      moves = ok-weaker (λ r. IsThreadedTo l s r.nodes r.shape r.origin.items) (λ r. HasNoIdleMoves l → HasNoIdleMoves r.nodes) r (λ x d. threaded-moves l s c.requires formed placed x.nodes x.shape x.origin.items d) is;
      addresses = ok-weaker (λ r. IsThreadedTo l s r.nodes r.shape r.origin.items) (λ r. CarriesAddresses l r.nodes) r (λ x d. threaded-addresses l s c.requires formed placed x.nodes x.shape x.origin.items d) is;
      runs = ok-weaker (λ r. IsThreadedTo l s r.nodes r.shape r.origin.items) (λ r. RunsAreThreaded l s r.nodes r.shape) r (λ x d. threaded-runs l s c.requires formed placed x.nodes x.shape x.origin.items d) is;
      made = is;
    }
