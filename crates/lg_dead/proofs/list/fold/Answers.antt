use Rattle.std.proofs.Common.{◌≡◌, ◌≤◌, false, length, sym, subst, ◌∙◌}
use Rattle.lg_node.specs.Shapes.{IsShapeOf}
use Rattle.lg_opt.specs.Rewritings.{IsOrigin, KeepsOthers, KeepsLabels, CarriesAddresses, FromEachStart, RunIsDropped, RunsAreDropped}
use Rattle.lg_opt.proofs.ClauseLemmas.{ok-weaker}
use Rattle.lg_dead.specs.Known.{HasNoFolds}
use Rattle.lg_dead.specs.Folds.{IsFoldedNode, IsFoldedTo}
use Rattle.lg_dead.specs.Lists.{IsFoldedList}
use Rattle.lg_dead.proofs.FoldAcceptLemmas.{functions-same}
use Rattle.lg_dead.proofs.FoldClauseLemmas.{fold-origin, fold-others, fold-few, fold-labels, fold-addresses}
use Rattle.lg_dead.proofs.FoldRunLemmas.{folded-follow, no-folds}
use Rattle.lg_dead.proofs.list.fold.Goals as goal

pub returns : goal.returns
returns c =
    let l = c.args.nodes.now in
    let s = c.args.shape.now in
    let formed = c.what_holds.ensures.formed in
    let r = c.folded_list.result in
    let is = c.folded_list.ensures in
    record {
      shape = ok-weaker (λ r. IsFoldedList l s r.nodes r.shape r.origin.items) (λ r. IsShapeOf r.nodes r.shape) r (λ x d. d.shaped) is;
      taken = ok-weaker (λ r. IsFoldedList l s r.nodes r.shape r.origin.items) (λ r. r.shape.taken ≡ s.taken) r (λ x d. d.taken) is;
      origin = ok-weaker (λ r. IsFoldedList l s r.nodes r.shape r.origin.items) (λ r. IsOrigin IsFoldedNode l r.nodes r.origin.items) r (λ x d. fold-origin l x.nodes d.nodes x.origin.items d.from) is;
      others = ok-weaker (λ r. IsFoldedList l s r.nodes r.shape r.origin.items) (λ r. KeepsOthers (λ o. false) l r.origin.items) r (λ x d. fold-others l x.nodes d.nodes x.origin.items d.from) is;
      few = ok-weaker (λ r. IsFoldedList l s r.nodes r.shape r.origin.items) (λ r. length r.nodes.nodes ≤ length l.nodes) r (λ x d. fold-few l x.nodes d.nodes) is;
      labels = ok-weaker (λ r. IsFoldedList l s r.nodes r.shape r.origin.items) (λ r. KeepsLabels l r.nodes r.origin.items) r (λ x d. fold-labels l x.nodes d.nodes c.what_holds.ensures.placed x.origin.items d.from) is;
      folds = ok-weaker (λ r. IsFoldedList l s r.nodes r.shape r.origin.items) (λ r. HasNoFolds r.nodes) r (λ x d. no-folds l x.nodes formed d.nodes) is;
      addresses = ok-weaker (λ r. IsFoldedList l s r.nodes r.shape r.origin.items) (λ r. CarriesAddresses l r.nodes) r (λ x d. fold-addresses l x.nodes d.nodes c.requires.accepted) is;
      runs = ok-weaker (λ r. IsFoldedList l s r.nodes r.shape r.origin.items) (λ r. RunsAreDropped l s r.nodes r.shape r.origin.items) r
          (λ x d. λ size A are. subst (λ o. FromEachStart l x.nodes (RunIsDropped l s x.nodes x.shape o A)) (sym d.from) (folded-follow l x.nodes s x.shape A c.requires formed d.nodes (d.shaped.functions ∙ functions-same l x.nodes c.requires.accepted d.nodes ∙ sym c.requires.functions) d.taken)) is;
      made = ok-weaker (λ r. IsFoldedList l s r.nodes r.shape r.origin.items) (λ r. IsFoldedTo l r.nodes) r (λ x d. d.nodes) is;
    }
