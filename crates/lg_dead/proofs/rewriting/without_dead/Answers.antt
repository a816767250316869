use Rattle.std.proofs.Common.{◌≡◌, ◌≤◌, length, arith, ◌∙◌}
use Rattle.lg_live.specs.Definitions.{defines}
use Rattle.lg_opt.specs.Rewritings.{IsOrigin, IsSameNode, KeepsOthers, KeepsLabels, CarriesAddresses, RunIsDropped, RunsAreDropped}
use Rattle.lg_opt.specs.Runs.{AreDropped}
use Rattle.lg_opt.proofs.ClauseLemmas.{ok-weaker, starts-join}
use Rattle.lg_opt.proofs.TwiceLemmas.{twice}
use Rattle.lg_dead.specs.Folds.{IsFoldedNode, ComesFolded}
use Rattle.lg_dead.specs.Known.{HasNoFolds}
use Rattle.lg_dead.specs.Dropping.{IsDroppedTo}
use Rattle.lg_dead.specs.Rewritten.{is_droppable, ComesNeeded, RunsRest}
use Rattle.lg_dead.proofs.JoinLemmas.{folded-origin, folded-others, folded-labels, ok-two}
use Rattle.lg_dead.proofs.rewriting.without_dead.Goals as goal

pub returns : goal.returns
returns c =
    let l = c.args.nodes.now in
    let s = c.args.shape.now in
    let f = c.in_ok-nodes.field-0 in
    let first = c.in_ok-nodes.ensures in
    let to = first.made in
    let r = c.without_dead_definitions.result in
    let e = c.without_dead_definitions.ensures in
    record {
      shape = e.shape;
      taken = ok-weaker (λ r. r.shape.taken ≡ f.shape.taken) (λ r. r.shape.taken ≡ s.taken) r (λ x t. t ∙ first.taken) e.taken;
      origin = ok-weaker (λ r. IsOrigin IsSameNode f.nodes r.nodes r.origin.items) (λ r. IsOrigin IsFoldedNode l r.nodes r.origin.items) r (λ x o. folded-origin l f.nodes x.nodes x.origin.items to o) e.origin;
      folded = ok-weaker (λ r. IsOrigin IsSameNode f.nodes r.nodes r.origin.items) (λ r. ComesFolded IsSameNode l r.nodes r.origin.items) r (λ x o. record { middle = f.nodes; folded = to; from = o }) e.origin;
      others = ok-weaker (λ r. KeepsOthers defines f.nodes r.origin.items) (λ r. KeepsOthers is_droppable l r.origin.items) r (λ x o. folded-others l f.nodes x.nodes x.origin.items to o) e.others;
      few = ok-weaker (λ r. length r.nodes.nodes ≤ length f.nodes.nodes) (λ r. length r.nodes.nodes ≤ length l.nodes) r (λ x o. omega (arith, o, to.count)) e.few;
      labels = ok-weaker (λ r. KeepsLabels f.nodes r.nodes r.origin.items) (λ r. KeepsLabels l r.nodes r.origin.items) r (λ x k. folded-labels l f.nodes x.nodes x.origin.items to k) e.labels;
      folds = ok-weaker (λ r. HasNoFolds f.nodes → HasNoFolds r.nodes) (λ r. HasNoFolds r.nodes) r (λ x h. h first.folds) e.folds;
      of_use = e.of_use;
      addresses = ok-weaker (λ r. CarriesAddresses f.nodes r.nodes) (λ r. CarriesAddresses l r.nodes) r (λ x h. λ size A are. first.addresses size A (h size A are)) e.addresses;
      runs = ok-two (λ r. CarriesAddresses f.nodes r.nodes) (λ r. RunsAreDropped f.nodes f.shape r.nodes r.shape r.origin.items) (λ r. RunsRest l s r.nodes r.shape) r
          (λ x h d. λ size A are. starts-join l f.nodes x.nodes (RunIsDropped l s f.nodes f.shape f.origin.items A) (RunIsDropped f.nodes f.shape x.nodes x.shape x.origin.items A)
          (AreDropped l s x.nodes x.shape A) (λ a b c y z. twice l f.nodes x.nodes s f.shape x.shape A a b c y.0 z.0) (first.runs size A (h size A are)) (d size A are)) e.addresses e.runs;
      made = ok-weaker (λ r. IsDroppedTo f.nodes f.shape r.nodes r.shape r.origin.items) (λ r. ComesNeeded l r.nodes r.shape r.origin.items) r (λ x d. record { middle = f.nodes; middle_shape = f.shape; shaped = first.shape; folded = to; dropped = d }) e.made;
    }
