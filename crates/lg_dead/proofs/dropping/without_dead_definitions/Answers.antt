use Rattle.std.proofs.Common.{◌≡◌, ◌≤◌, length}
use Rattle.lg_node.specs.Shapes.{IsShapeOf}
use Rattle.lg_opt.specs.Rewritings.{IsOrigin, IsSameNode, KeepsOthers, KeepsLabels, CarriesAddresses, RunsAreDropped}
use Rattle.lg_opt.proofs.ClauseLemmas.{ok-weaker}
use Rattle.lg_dead.specs.Known.{HasNoFolds}
use Rattle.lg_live.specs.Definitions.{defines}
use Rattle.lg_dead.specs.Dropping.{IsDroppedTo}
use Rattle.lg_dead.specs.Dead.{AllAreOfUse}
use Rattle.lg_dead.proofs.ClauseLemmas.{dead-origin, dead-others, dead-few, dead-labels, dead-of-use, dead-folds, dead-addresses, dead-runs}
use Rattle.lg_dead.proofs.dropping.without_dead_definitions.Goals as goal

pub returns : goal.returns
returns c =
    let l = c.args.nodes in
    let s = c.args.shape in
    let formed = c.what_holds.ensures.formed in
    let placed = c.what_holds.ensures.placed in
    let r = c.dropped.result in
    let is = c.dropped.ensures in
    record {
      shape = ok-weaker (λ r. IsDroppedTo l s r.nodes r.shape r.origin.items) (λ r. IsShapeOf r.nodes r.shape) r (λ x d. d.shaped) is;
      taken = ok-weaker (λ r. IsDroppedTo l s r.nodes r.shape r.origin.items) (λ r. r.shape.taken ≡ s.taken) r (λ x d. d.taken) is;
      origin = ok-weaker (λ r. IsDroppedTo l s r.nodes r.shape r.origin.items) (λ r. IsOrigin IsSameNode l r.nodes r.origin.items) r (λ x d. dead-origin l s c.requires formed placed x.nodes x.shape x.origin.items d) is;
      others = ok-weaker (λ r. IsDroppedTo l s r.nodes r.shape r.origin.items) (λ r. KeepsOthers defines l r.origin.items) r (λ x d. dead-others l s c.requires formed placed x.nodes x.shape x.origin.items d) is;
      few = ok-weaker (λ r. IsDroppedTo l s r.nodes r.shape r.origin.items) (λ r. length r.nodes.nodes ≤ length l.nodes) r (λ x d. dead-few l s c.requires formed placed x.nodes x.shape x.origin.items d) is;
      labels = ok-weaker (λ r. IsDroppedTo l s r.nodes r.shape r.origin.items) (λ r. KeepsLabels l r.nodes r.origin.items) r (λ x d. dead-labels l s c.requires formed placed x.nodes x.shape x.origin.items d) is;
      of_use = ok-weaker (λ r. IsDroppedTo l s r.nodes r.shape r.origin.items) (λ r. AllAreOfUse r.nodes r.shape) r (λ x d. dead-of-use l s c.requires formed placed x.nodes x.shape x.origin.items d) is;
      folds = ok-weaker (λ r. IsDroppedTo l s r.nodes r.shape r.origin.items) (λ r. HasNoFolds l → HasNoFolds r.nodes) r (λ x d. dead-folds l s c.requires formed placed x.nodes x.shape x.origin.items d) is;
      addresses = ok-weaker (λ r. IsDroppedTo l s r.nodes r.shape r.origin.items) (λ r. CarriesAddresses l r.nodes) r (λ x d. dead-addresses l s c.requires formed placed x.nodes x.shape x.origin.items d) is;
      runs = ok-weaker (λ r. IsDroppedTo l s r.nodes r.shape r.origin.items) (λ r. RunsAreDropped l s r.nodes r.shape r.origin.items) r (λ x d. dead-runs l s c.requires formed placed x.nodes x.shape x.origin.items d) is;
      made = is;
    }
