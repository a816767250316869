use Rattle.std.proofs.Common.{Some, length, ap, sym, ◌∙◌, arith}
use Rattle.std.specs.Prelude.{slice_get}
use Rattle.std.specs.Option.{option_map}
use Rattle.lg_opt.specs.Remaining.{remaining, retargeted}
use Rattle.lg_opt.specs.Rewritings.{marked, target_in}
use Rattle.lg_opt.proofs.RebuildLemmas.{remaining-none, remaining-next, push-next, push-few}
use Rattle.lg_opt.proofs.rebuilding.push_remaining.Goals as goal

pub loop-index-init : goal.loop-index-init
loop-index-init c =
    let l = c.args.list.now in
    let none = c.requires.empty ∙ sym (remaining-none (marked c.args.stays.now) (λ i. option_map (retargeted (target_in c.args.targets.now i)) (slice_get c.args.nodes.now.nodes i))) in
    record {
      list = ap (λ ns. record l { nodes = ns }) none;
      few = omega (arith, ap length c.requires.empty);
    }

pub loop-index-preserved : goal.loop-index-preserved
loop-index-preserved c =
    let i = c.loop-index.index in
    let stays = marked c.args.stays.now in
    let targets = target_in c.args.targets.now in
    let nodes = c.args.nodes.now.nodes in
    let n = c.retargeted-node.result in
    let here = ap (option_map (retargeted (targets i))) (sym c.node.ensures.node) ∙ ap Some (sym (c.retargeted-node.ensures.node ∙ ap (λ o. retargeted o c.node.result) c.target_in.ensures)) in
    record {
      list = push-next (stays i) c.loop-index.list c.push_kept.new.list c.args.list.now n (remaining stays (λ k. option_map (retargeted (targets k)) (slice_get nodes k)) i) c.in_ok-push_kept.ensures c.loop-index.invariant.list
          ∙ ap (λ ns. record c.args.list.now { nodes = ns }) (sym (remaining-next stays (λ k. option_map (retargeted (targets k)) (slice_get nodes k)) i n here));
      few = let more = push-few (stays i) c.loop-index.list c.push_kept.new.list n c.in_ok-push_kept.ensures in omega (arith, more, c.loop-index.invariant.few);
    }
