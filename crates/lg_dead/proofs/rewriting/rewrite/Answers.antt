use Rattle.std.proofs.Common.{refl, sym, ◌∙◌, subst}
use Rattle.lg_node.specs.Nodes.{LabelledNodes}
use Rattle.lg_opt.specs.Hops.{is_jump}
use Rattle.lg_opt.specs.Rewritings.{IsOrigin, IsThreadedNode, KeepsOthers, KeepsLabels}
use Rattle.lg_opt.proofs.ClauseLemmas.{starts-join, joined-within, origins-join, others-join, labels-join}
use Rattle.lg_opt.specs.Rewritten.{MeaningIsFollowed}
use Rattle.lg_opt.specs.Runs.{AreDropped, AreThreaded}
use Rattle.lg_opt.proofs.FollowedLemmas.{law}
use Rattle.lg_dead.specs.Folds.{IsFoldedNode, ComesFolded}
use Rattle.lg_dead.specs.Known.{HasNoFolds}
use Rattle.lg_dead.specs.Dead.{HasNoDeadButMoves}
use Rattle.lg_dead.specs.Rewritten.{is_droppable, IsRewrittenNode, ComesThreaded}
use Rattle.lg_dead.proofs.JoinLemmas.{folded-joins, others-weaker, no-jump, folded-still}
use Rattle.lg_dead.proofs.NoFoldLemmas.{threads-keep}
use Rattle.lg_dead.proofs.ThreadLiveLemmas.{threads-keep-no-dead}
use Rattle.lg_dead.proofs.rewriting.rewrite.Goals as goal

pub joined-requires-clause-within : goal.joined-requires-clause-within
joined-requires-clause-within c =
    let l = c.args.nodes.now in
    let m = c.in_ok-moved.field-0 in
    let t = c.in_ok-nodes.field-0 in
    joined-within IsFoldedNode IsThreadedNode l m.nodes t.nodes m.origin.items t.origin.items c.in_ok-moved.ensures.origin c.in_ok-nodes.ensures.origin

pub returns-in-Ok : goal.returns-in-Ok
returns-in-Ok c =
    let l = c.args.nodes.now in
    let s = c.args.shape.now in
    let m = c.in_ok-moved.field-0 in
    let t = c.in_ok-nodes.field-0 in
    let first = c.in_ok-moved.ensures in
    let second = c.in_ok-nodes.ensures in
    let formed = c.what_holds.ensures.formed in
    record {
      taken = second.taken ∙ first.taken;
      rewritten = record {
        shaped = second.shape;
        tidy = record { moves = second.moves first.moves; jumps = second.jumps };
        folds = subst HasNoFolds (sym second.made.nodes) (threads-keep m.nodes second.made.targets first.shape.accepted formed second.made.are first.folds);
        dead = subst (λ (x : LabelledNodes). HasNoDeadButMoves x t.shape) (sym second.made.nodes) (threads-keep-no-dead m.nodes m.shape t.shape second.made.targets first.shape formed second.made.are second.made.taken first.dead);
        from = subst (IsOrigin IsRewrittenNode l t.nodes) (sym c.in-Ok.ensures) (origins-join IsFoldedNode IsThreadedNode l m.nodes t.nodes m.origin.items t.origin.items first.origin second.origin);
        folded = subst (ComesFolded IsThreadedNode l t.nodes) (sym c.in-Ok.ensures) (folded-joins IsThreadedNode l m.nodes t.nodes m.origin.items t.origin.items first.folded second.origin);
        others = subst (KeepsOthers is_droppable l) (sym c.in-Ok.ensures)
            (others-join IsFoldedNode IsThreadedNode l m.nodes t.nodes m.origin.items t.origin.items first.origin second.origin is_droppable folded-still first.others (others-weaker is_jump is_droppable m.nodes t.origin.items no-jump second.others));
        labels = subst (KeepsLabels l t.nodes) (sym c.in-Ok.ensures) (labels-join IsFoldedNode IsThreadedNode l m.nodes t.nodes m.origin.items t.origin.items first.origin second.origin first.labels second.labels);
        made = subst (ComesThreaded l t.nodes t.shape) (sym c.in-Ok.ensures) (record { middle = m.nodes; middle_shape = m.shape; first = m.origin.items; second = t.origin.items; moved = first.made; threaded = second.made; joined = refl });
      };
      addresses = λ size A are. first.addresses size A (second.addresses size A are);
      runs = λ size A are. starts-join l m.nodes t.nodes (AreDropped l s m.nodes m.shape A) (AreThreaded m.nodes m.shape t.nodes t.shape A) (MeaningIsFollowed l s t.nodes t.shape A)
          (law l m.nodes t.nodes s m.shape t.shape A) (first.runs size A (second.addresses size A are)) (second.runs size A are);
    }
