use Rattle.std.proofs.Common.{◌≡◌, ◌≤◌, ◌+◌, ◌-◌, vec_len, ◌∷◌, ◌++◌, [], ℕ, length, length-append, take, get_or, Option, None, List, ap, sym, ◌∙◌, arith, subst}
use Rattle.std.proofs.lemmas.List.{take_at, get_or_append_left}
use Rattle.std.specs.List.{All}
use Rattle.lg_node.specs.Nodes.{MayStand}
use Rattle.lg_node.specs.Chains.{BoundLabels, IsChain, bound_at}
use Rattle.lg_node.specs.Labels.{is_at}
use Rattle.lg_node.specs.declared.chain.Ends.{Ends}
use Rattle.lg_node.specs.declared.place.Place.{Place}
use Rattle.lg_node.proofs.BindingLemmas.{read-longer, same-chain}
use Rattle.lg_node.proofs.bindings.Bindings.drop_label.Goals as goal

pub invariant_of-self : goal.invariant_of-self
invariant_of-self c =
    let old = c.self.inside in
    let i = c.self.invariant in
    let before = c.requires.0 in
    let whole : old.places.items ≡ before ++ None ∷ [] = ap (λ (b : BoundLabels). b.places) c.self.view_is ∙ c.requires.1 in
    let count : length old.places.items ≡ length before + 1 = ap length whole ∙ length-append before (None ∷ []) in
    let same : c.pop.new.self.items ≡ before =
    c.pop.ensures.rest ∙ ap (take (vec_len old.places - 1)) whole ∙ take_at before (None ∷ []) (vec_len old.places - 1) (omega (arith, count)) in
    let read : (k : ℕ) → get_or c.pop.new.self.items k None ≡ get_or old.places.items k None =
    λ k. ap (λ (ps : List (Option Place)). get_or ps k None) same ∙ sym (read-longer before None k) ∙ ap (λ (ps : List (Option Place)). get_or ps k None) (sym whole) in
    let chain : (j : ℕ) (ends : Option Ends) → IsChain (bound_at old.places.items j) old.next.items ends → IsChain (bound_at c.pop.new.self.items j) old.next.items ends =
    λ j ends chain. same-chain (bound_at old.places.items j) (bound_at c.pop.new.self.items j) old.next.items ends (λ k. ap (is_at j) (read k)) chain in
    let fewer : length c.pop.new.self.items ≤ length old.places.items = omega (arith, ap length same, count) in
    record {
      paired = omega (arith, fewer, i.paired);
      placed = subst (λ (ps : List (Option Place)). All (MayStand (length old.ends.items)) ps) (sym same)
          (λ k d lt. subst (MayStand (length old.ends.items)) (ap (λ (ps : List (Option Place)). get_or ps k d) whole ∙ get_or_append_left before (None ∷ []) d k lt) (i.placed k d (omega (arith, lt, count))));
      nodes = λ j lt. chain j (get_or old.ends.items j None) (i.nodes j lt);
      end = chain (length old.ends.items) old.end i.end;
    }
