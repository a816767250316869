use Rattle.std.proofs.Common.{ℕ, length, get_or, Option, None, List, ap, ◌∙◌, arith}
use Rattle.lg_node.specs.Nodes.{MayStand}
use Rattle.lg_node.specs.Chains.{IsChain, bound_at}
use Rattle.lg_node.specs.Labels.{is_at}
use Rattle.lg_node.specs.declared.chain.Ends.{Ends}
use Rattle.lg_node.specs.declared.place.Place.{Place}
use Rattle.lg_node.proofs.NodeListLemmas.{longer, all_longer}
use Rattle.lg_node.proofs.BindingLemmas.{read-longer, same-chain, longer-chain}
use Rattle.lg_node.proofs.bindings.Bindings.add_label.Goals as goal

pub invariant_of-self-in-Ok : goal.invariant_of-self-in-Ok
invariant_of-self-in-Ok c =
    let old = c.self.inside in
    let i = c.self.invariant in
    let places = c.push-2.new.self.items in
    let next = c.push.new.self.items in
    let chain : (j : ℕ) (ends : Option Ends) → IsChain (bound_at old.places.items j) old.next.items ends → IsChain (bound_at places j) next ends =
    λ j ends chain. same-chain (bound_at old.places.items j) (bound_at places j) next ends (λ k. ap (λ (ps : List (Option Place)). is_at j (get_or ps k None)) c.in-Ok.ensures.items ∙ ap (is_at j) (read-longer old.places.items None k)) (longer-chain (bound_at old.places.items j) old.next.items next ends None c.in_ok-push.ensures.items chain) in
    record {
      paired = omega (arith, longer old.places.items places None c.in-Ok.ensures.items, longer old.next.items next None c.in_ok-push.ensures.items, i.paired);
      placed = all_longer (MayStand (length old.ends.items)) old.places.items places None c.in-Ok.ensures.items i.placed tt;
      nodes = λ j lt. chain j (get_or old.ends.items j None) (i.nodes j lt);
      end = chain (length old.ends.items) old.end i.end;
    }
