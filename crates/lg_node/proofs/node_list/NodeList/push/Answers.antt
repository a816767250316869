use Rattle.std.proofs.Common.{◌≡◌, ◌<◌, ◌+◌, ◌-◌, take, vec_len, ◌^◌, ◌∷◌, [], List, ap, length, sym, ◌∙◌, subst, arith}
use Rattle.std.proofs.lemmas.List.{take_at}
use Rattle.std.specs.List.{All}
use Rattle.lg_op.specs.Nodes.{InForm}
use Rattle.lg_op.specs.declared.node.Node.{Node}
use Rattle.lg_node.specs.Nodes.{LabelledNodes}
use Rattle.lg_node.specs.Chains.{BoundLabels}
use Rattle.lg_node.proofs.NodeListLemmas.{longer, all_longer}
use Rattle.lg_node.proofs.node_list.NodeList.push.Goals as goal

pub invariant_of-self-in-Ok : goal.invariant_of-self-in-Ok
invariant_of-self-in-Ok c =
    let one = longer c.self.inside.nodes.items c.push.new.self.items c.args.node c.in_ok-push.ensures.items in
    let count = ap (λ (l : LabelledNodes). length l.nodes) c.self.view_is in
    record {
      paired = ap (λ (b : BoundLabels). length b.places) c.in-Ok.ensures.ok ∙ c.self.invariant.paired;
      counted = ap (λ (b : BoundLabels). b.nodes) c.in-Ok.ensures.ok ∙ ap (λ n. n + 1) c.self.invariant.counted ∙ sym one;
      nodes = omega (arith, one, count, c.requires.room);
      labels = c.self.invariant.labels;
      formed = all_longer InForm c.self.inside.nodes.items c.push.new.self.items c.args.node c.in_ok-push.ensures.items c.self.invariant.formed c.requires.form;
      worded = c.self.invariant.worded;
    }

pub invariant_of-self-in-Err : goal.invariant_of-self-in-Err
invariant_of-self-in-Err c =
    let old = c.self.inside.nodes.items in
    let one = longer old c.push.new.self.items c.args.node c.in_ok-push.ensures.items in
    let same : c.pop.new.self.items ≡ old =
    c.pop.ensures.rest ∙ ap (take (vec_len c.push.new.self - 1)) c.in_ok-push.ensures.items ∙ take_at old (c.args.node ∷ []) (vec_len c.push.new.self - 1) (omega (arith, one)) in
    record {
      paired = ap (λ (b : BoundLabels). length b.places) c.in-Err.ensures.err ∙ c.self.invariant.paired;
      counted = ap (λ (b : BoundLabels). b.nodes) c.in-Err.ensures.err ∙ c.self.invariant.counted ∙ sym (ap length same);
      nodes = subst (λ (ns : List Node). length ns < 2 ^ 32) (sym same) c.self.invariant.nodes;
      labels = c.self.invariant.labels;
      formed = subst (λ (ns : List Node). All InForm ns) (sym same) c.self.invariant.formed;
      worded = c.self.invariant.worded;
    }
