use Rattle.std.proofs.Common.{◌≡◌, ◌≤◌, length}
use Rattle.lg_node.specs.Shapes.{IsShapeOf}
use Rattle.lg_opt.specs.Moves.{HasNoIdleMoves, is_movr}
use Rattle.lg_opt.specs.Rewritings.{IsOrigin, IsSameNode, KeepsOthers, KeepsLabels, CarriesAddresses, RunsAreDropped, IsDroppedTo}
use Rattle.lg_opt.proofs.ClauseLemmas.{ok-weaker, dropped-origin, dropped-others, dropped-few, dropped-labels, dropped-moves, dropped-addresses, dropped-runs}
use Rattle.lg_opt.proofs.dropping.without_idle_moves.Goals as goal

pub returns : goal.returns
returns c =
    let l = c.args.nodes in
    let s = c.args.shape in
    let formed = c.what_holds.ensures.formed in
    let placed = c.what_holds.ensures.placed in
    let r = c.dropped.result in
    let is = c.dropped.ensures in
    record {
      shape = ok-weaker (λ r. IsDroppedTo l s r.nodes r.shape r.origin.items) (λ r. IsShapeOf r.nodes r.shape) r (λ x d. d.shaped) is;
      taken = ok-weaker (λ r. IsDroppedTo l s r.nodes r.shape r.origin.items) (λ r. r.shape.taken ≡ s.taken) r (λ x d. d.taken) is;
      origin = ok-weaker (λ r. IsDroppedTo l s r.nodes r.shape r.origin.items) (λ r. IsOrigin IsSameNode l r.nodes r.origin.items) r (λ x d. dropped-origin l s c.requires formed placed x.nodes x.shape x.origin.items d) is;
      others = ok-weaker (λ r. IsDroppedTo l s r.nodes r.shape r.origin.items) (λ r. KeepsOthers is_movr l r.origin.items) r (λ x d. dropped-others l s c.requires formed placed x.nodes x.shape x.origin.items d) is;
      few = ok-weaker (λ r. IsDroppedTo l s r.nodes r.shape r.origin.items) (λ r. length r.nodes.nodes ≤ length l.nodes) r (λ x d. dropped-few l s c.requires formed placed x.nodes x.shape x.origin.items d) is;
      labels = ok-weaker (λ r. IsDroppedTo l s r.nodes r.shape r.origin.items) (λ r. KeepsLabels l r.nodes r.origin.items) r (λ x d. dropped-labels l s c.requires formed placed x.nodes x.shape x.origin.items d) is;
      moves = ok-weaker (λ r. IsDroppedTo l s r.nodes r.shape r.origin.items) (λ r. HasNoIdleMoves r.nodes) r (λ x d. dropped-moves l s c.requires formed placed x.nodes x.shape x.origin.items d) is;
      addresses = ok-weaker (λ r. IsDroppedTo l s r.nodes r.shape r.origin.items) (λ r. CarriesAddresses l r.nodes) r (λ x d. dropped-addresses l s c.requires formed placed x.nodes x.shape x.origin.items d) is;
      runs = ok-weaker (λ r. IsDroppedTo l s r.nodes r.shape r.origin.items) (λ r. RunsAreDropped l s r.nodes r.shape r.origin.items) r (λ x d. dropped-runs l s c.requires formed placed x.nodes x.shape x.origin.items d) is;
      made = is;
    }
