use Rattle.std.proofs.Common.{◌≡◌, true, ℕ, ◌+◌, ap, length, None, sym, subst, arith}
use Rattle.std.specs.Prelude.{IfSome, IfNone, slice_index_or}
use Rattle.std.proofs.lemmas.List.{get_or_read}
use Rattle.lg_node.specs.Labels.{is_at}
use Rattle.lg_node.specs.Chains.{BoundLabels, IsFirst, bound_at}
use Rattle.lg_node.specs.NextLabels.{NextAt, NoneAt}
use Rattle.lg_node.proofs.BindingLemmas.{next-first, next-found, next-none}
use Rattle.lg_node.proofs.bindings.Bindings.next_at.Goals as goal

first : (c : goal.After-result-1) (i : ℕ) → bound_at c.self.inside.places.items i c.args.label.0 ≡ true → IsFirst (bound_at c.self.inside.places.items i) (c.args.label.0 + 1) c.index.result.now
first c i t =
    let count = ap (λ (b : BoundLabels). length b.places) c.self.view_is in
    let read = get_or_read c.self.inside.next.items c.args.label.0 c.index.result.now (omega (arith, count, c.self.invariant.paired)) c.index.ensures None in
    subst (IsFirst (bound_at c.self.inside.places.items i) (c.args.label.0 + 1)) (sym read) (next-first c.self.inside c.self.invariant i c.args.label.0 t)

pub returns-clause-found : goal.returns-clause-found
returns-clause-found c =
    let P : BoundLabels → Type 0 = λ b. (i : ℕ) → is_at i (slice_index_or b.places c.args.label.0 None) ≡ true → IfSome c.index.result.now (λ l. NextAt b.places i (c.args.label.0 + 1) l.0) in
    subst P c.self.view_is (λ i t. next-found c.self.inside.places.items i (c.args.label.0 + 1) c.index.result.now (first c i t))

pub returns-clause-none : goal.returns-clause-none
returns-clause-none c =
    let P : BoundLabels → Type 0 = λ b. (i : ℕ) → is_at i (slice_index_or b.places c.args.label.0 None) ≡ true → IfNone c.index.result.now (NoneAt b.places i (c.args.label.0 + 1)) in
    subst P c.self.view_is (λ i t. next-none c.self.inside.places.items i (c.args.label.0 + 1) c.index.result.now (first c i t))
