use Rattle.std.proofs.Common.{◌≡◌, ◌∙◌, ap, ℕ, ◌<◌, Some, None, length, sym, subst, arith}
use Rattle.std.proofs.lemmas.List.{get_or_read}
use Rattle.lg_node.specs.Chains.{BoundLabels, IsChain, bound_at}
use Rattle.lg_node.specs.NextLabels.{NextAt}
use Rattle.lg_node.proofs.BindingLemmas.{next-found}
use Rattle.lg_node.proofs.bindings.Bindings.first_at.Goals as goal
use Rattle.lg_node.proofs.bindings.Bindings.first_at.Goals.{then-node-len, else-node-len}

pub returns-in-Some-clause-found : goal.returns-in-Some-clause-found
returns-in-Some-clause-found c =
    let old = c.self.inside in
    let count = ap (λ (b : BoundLabels). b.nodes) c.self.view_is in
    let chain : IsChain (bound_at old.places.items c.args.node) old.next.items (Some c.in-Some.ends) =
    elim c.if-node-len.branch [
      | then-node-len w ↦
          let lt : c.args.node < length old.ends.items = omega arith in
          let read = get_or_read old.ends.items c.args.node w.index.result.now lt w.index.ensures None in
          subst (IsChain (bound_at old.places.items c.args.node) old.next.items) (sym read ∙ sym w.ends-is ∙ c.in-Some.is) (c.self.invariant.nodes c.args.node lt)
      | else-node-len w ↦
          let same : length old.ends.items ≡ c.args.node = omega arith in
          let P : ℕ → Type 0 = λ n. IsChain (bound_at old.places.items n) old.next.items old.end in
          subst (IsChain (bound_at old.places.items c.args.node) old.next.items) (sym w.ends-is ∙ c.in-Some.is) (subst P same c.self.invariant.end)
    ] in
    let Q : BoundLabels → Type 0 = λ b. NextAt b.places c.args.node 0 c.in-Some.ends.first.0 in
    subst Q c.self.view_is (next-found old.places.items c.args.node 0 (Some c.in-Some.ends.first) chain.bounds.0)
