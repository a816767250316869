use Rattle.std.proofs.Common.{arith, map, refl, sym, ◌∙◌, subst}
use Rattle.std.specs.Prelude.{slice_index}
use Rattle.lg_node.specs.Nodes.{LabelledNodes}
use Rattle.lg_opt.specs.Moves.{is_movr}
use Rattle.lg_opt.specs.Rewritings.{IsOrigin, IsSameNode, KeepsOthers, KeepsLabels, RunIsDropped}
use Rattle.lg_opt.specs.Runs.{AreDropped}
use Rattle.lg_opt.proofs.ClauseLemmas.{starts-join, Joined, joined-within, origins-join, others-join, labels-join}
use Rattle.lg_opt.proofs.TwiceLemmas.{twice}
use Rattle.lg_dead.specs.Folds.{IsFoldedNode, ComesFolded}
use Rattle.lg_dead.specs.Known.{HasNoFolds}
use Rattle.lg_dead.specs.Dead.{HasNoDeadButMoves}
use Rattle.lg_dead.specs.Rewritten.{is_droppable, ComesMoved}
use Rattle.lg_dead.proofs.JoinLemmas.{origin-weaker, folded-joins, others-weaker, no-movr, folded-still}
use Rattle.lg_dead.proofs.MovesKeepLemmas.{no-dead-but-moves}
use Rattle.lg_dead.proofs.NoFoldLemmas.{moves-keep}
use Rattle.lg_dead.proofs.rewriting.without_moves.Goals as goal

pub joined-requires-clause-within : goal.joined-requires-clause-within
joined-requires-clause-within c =
    let l = c.args.nodes.now in
    let n = c.in_ok-needed.field-0 in
    let t = c.in_ok-nodes.field-0 in
    joined-within IsFoldedNode IsSameNode l n.nodes t.nodes n.origin.items t.origin.items c.in_ok-needed.ensures.origin c.in_ok-nodes.ensures.origin

pub returns-in-Ok : goal.returns-in-Ok
returns-in-Ok c =
    let l = c.args.nodes.now in
    let s = c.args.shape.now in
    let n = c.in_ok-needed.field-0 in
    let t = c.in_ok-nodes.field-0 in
    let first = c.in_ok-needed.ensures in
    let second = c.in_ok-nodes.ensures in
    let formed = c.what_holds.ensures.formed in
    record {
      shape = second.shape;
      taken = second.taken ∙ first.taken;
      origin = subst (IsOrigin IsFoldedNode l t.nodes) (sym c.in-Ok.ensures)
          (origin-weaker (Joined IsFoldedNode IsSameNode) IsFoldedNode l t.nodes (map (slice_index n.origin.items) t.origin.items) (λ old x j. subst (IsFoldedNode old) (sym j.2) j.1)
          (origins-join IsFoldedNode IsSameNode l n.nodes t.nodes n.origin.items t.origin.items first.origin second.origin));
      folded = subst (ComesFolded IsSameNode l t.nodes) (sym c.in-Ok.ensures) (folded-joins IsSameNode l n.nodes t.nodes n.origin.items t.origin.items first.folded second.origin);
      others = subst (KeepsOthers is_droppable l) (sym c.in-Ok.ensures)
          (others-join IsFoldedNode IsSameNode l n.nodes t.nodes n.origin.items t.origin.items first.origin second.origin is_droppable folded-still first.others (others-weaker is_movr is_droppable n.nodes t.origin.items no-movr second.others));
      few = omega (arith, first.few, second.few);
      labels = subst (KeepsLabels l t.nodes) (sym c.in-Ok.ensures) (labels-join IsFoldedNode IsSameNode l n.nodes t.nodes n.origin.items t.origin.items first.origin second.origin first.labels second.labels);
      moves = second.moves;
      folds = subst HasNoFolds (sym second.made.nodes) (moves-keep n.nodes first.shape.accepted formed first.folds);
      dead = subst (λ (x : LabelledNodes). HasNoDeadButMoves x t.shape) (sym second.made.nodes) (no-dead-but-moves n.nodes n.shape t.shape first.shape formed second.made.taken first.of_use);
      addresses = λ size A are. first.addresses size A (second.addresses size A are);
      runs = λ size A are. starts-join l n.nodes t.nodes (AreDropped l s n.nodes n.shape A) (RunIsDropped n.nodes n.shape t.nodes t.shape t.origin.items A) (AreDropped l s t.nodes t.shape A)
          (λ a b c y z. twice l n.nodes t.nodes s n.shape t.shape A a b c y z.0) (first.runs size A (second.addresses size A are)) (second.runs size A are);
      made = subst (ComesMoved l t.nodes t.shape) (sym c.in-Ok.ensures) (record { middle = n.nodes; middle_shape = n.shape; first = n.origin.items; second = t.origin.items; needed = first.made; dropped = second.made; joined = refl });
    }
