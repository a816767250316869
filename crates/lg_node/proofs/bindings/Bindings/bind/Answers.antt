use Rattle.std.proofs.Common.{◌≡◌, ◌<◌, false, length, get_or, Option, Some, None, List, refl, ap, sym, ◌∙◌, arith, subst}
use Rattle.std.proofs.Math.ListN.{set, length-set}
use Rattle.std.specs.Prelude.{slice_get}
use Rattle.std.specs.Vec.{with_items}
use Rattle.std.proofs.lemmas.List.{get_or_read, get_or-set_same, get_or-set_other, with_items_is}
use Rattle.lg_op.specs.declared.operand.Label.{Label}
use Rattle.lg_node.specs.Nodes.{IsWithin}
use Rattle.lg_node.specs.Chains.{BoundLabels, IsChain, bound_at}
use Rattle.lg_node.specs.declared.place.Place.{Place}
use Rattle.lg_node.specs.declared.place.Place.TheVariants as place
use Rattle.lg_node.proofs.BindingLemmas.{joins, was-free, free-is, unbound, bound-somewhere, bound-in-data}
use Rattle.lg_node.proofs.bindings.Bindings.bind.Goals as goal

pub returns-then-node-len-clause-free : goal.returns-then-node-len-clause-free
returns-then-node-len-clause-free c =
    let old = c.self.inside in
    let x = c.args.label.0 in
    let within : x < length old.places.items = omega (arith, ap (λ (b : BoundLabels). length b.places) c.self.view_is, c.requires.label) in
    let free : get_or old.places.items x None ≡ None = unbound old.places.items x c.index.result.now c.index.ensures (sym c.is_some.ensures ∙ c.if-is_some.false) within in
    let is : slice_get c.args.self.now.places x ≡ Some None = subst (λ (b : BoundLabels). slice_get b.places x ≡ Some None) c.self.view_is (free-is old.places.items x within free) in
    (λ _. is, λ _. refl)

pub returns-else-node-len-clause-free : goal.returns-else-node-len-clause-free
returns-else-node-len-clause-free c =
    let old = c.self.inside in
    let x = c.args.label.0 in
    let within : x < length old.places.items = omega (arith, ap (λ (b : BoundLabels). length b.places) c.self.view_is, c.requires.label) in
    let free : get_or old.places.items x None ≡ None = unbound old.places.items x c.index.result.now c.index.ensures (sym c.is_some.ensures ∙ c.if-is_some.false) within in
    let is : slice_get c.args.self.now.places x ≡ Some None = subst (λ (b : BoundLabels). slice_get b.places x ≡ Some None) c.self.view_is (free-is old.places.items x within free) in
    (λ _. is, λ _. refl)

pub returns-in_default-clause-free : goal.returns-in_default-clause-free
returns-in_default-clause-free c =
    let old = c.self.inside in
    let x = c.args.label.0 in
    let within : x < length old.places.items = omega (arith, ap (λ (b : BoundLabels). length b.places) c.self.view_is, c.requires.label) in
    let free : get_or old.places.items x None ≡ None = unbound old.places.items x c.index.result.now c.index.ensures (sym c.is_some.ensures ∙ c.if-is_some.false) within in
    let is : slice_get c.args.self.now.places x ≡ Some None = subst (λ (b : BoundLabels). slice_get b.places x ≡ Some None) c.self.view_is (free-is old.places.items x within free) in
    (λ _. is, λ _. refl)

pub link-ends-requires-clause-chain : goal.link-ends-requires-clause-chain
link-ends-requires-clause-chain c =
    let old = c.self.inside in
    let x = c.args.label.0 in
    let within : x < length old.places.items = omega (arith, ap (λ (b : BoundLabels). length b.places) c.self.view_is, c.requires.label) in
    let free : get_or old.places.items x None ≡ None = unbound old.places.items x c.index.result.now c.index.ensures (sym c.is_some.ensures ∙ c.if-is_some.false) within in
    let n = c.in-Node.node in
    let lt : n < length old.ends.items = omega (arith, c.if-node-len.true, c.len.ensures) in
    let node : c.index-then-node-len.result.now ≡ get_or old.ends.items n None = get_or_read old.ends.items n c.index-then-node-len.result.now lt c.index-then-node-len.ensures None in
    let before : IsChain (bound_at old.places.items n) c.deref_mut.result.now c.index-then-node-len.result.now =
    subst (λ (l : List (Option Label)). IsChain (bound_at old.places.items n) l c.index-then-node-len.result.now) (sym c.deref_mut.ensures.value)
    (subst (IsChain (bound_at old.places.items n) old.next.items) (sym node) (c.self.invariant.nodes n lt)) in
    (bound_at old.places.items n, before, was-free old.places.items x within free n)

pub link-ends-requires-else-node-len-clause-chain : goal.link-ends-requires-else-node-len-clause-chain
link-ends-requires-else-node-len-clause-chain c =
    let old = c.self.inside in
    let x = c.args.label.0 in
    let within : x < length old.places.items = omega (arith, ap (λ (b : BoundLabels). length b.places) c.self.view_is, c.requires.label) in
    let free : get_or old.places.items x None ≡ None = unbound old.places.items x c.index.result.now c.index.ensures (sym c.is_some.ensures ∙ c.if-is_some.false) within in
    let n = length old.ends.items in
    let list = c.deref_mut-else-node-len in
    let before : IsChain (bound_at old.places.items n) list.result.now old.end =
    subst (λ (l : List (Option Label)). IsChain (bound_at old.places.items n) l old.end) (sym list.ensures.value) c.self.invariant.end in
    (bound_at old.places.items n, before, was-free old.places.items x within free n)

pub invariant_of-self : goal.invariant_of-self
invariant_of-self c =
    let old = c.self.inside in
    let x = c.args.label.0 in
    let within : x < length old.places.items = omega (arith, ap (λ (b : BoundLabels). length b.places) c.self.view_is, c.requires.label) in
    let free : get_or old.places.items x None ≡ None = unbound old.places.items x c.index.result.now c.index.ensures (sym c.is_some.ensures ∙ c.if-is_some.false) within in
    let n = c.in-Node.node in
    let lt : n < length old.ends.items = omega arith in
    let node : c.index-then-node-len.result.now ≡ get_or old.ends.items n None = get_or_read old.ends.items n c.index-then-node-len.result.now lt c.index-then-node-len.ensures None in
    let before : IsChain (bound_at old.places.items n) c.deref_mut.result.now c.index-then-node-len.result.now =
    subst (λ (l : List (Option Label)). IsChain (bound_at old.places.items n) l c.index-then-node-len.result.now) (sym c.deref_mut.ensures.value)
    (subst (IsChain (bound_at old.places.items n) old.next.items) (sym node) (c.self.invariant.nodes n lt)) in
    let size : length c.link-ends.new.next ≡ length c.deref_mut.result.now = c.link-ends.auto.next in
    let items : (with_items old.next c.link-ends.new.next).items ≡ c.link-ends.new.next = with_items_is old.next c.link-ends.new.next (omega (arith, size, c.deref_mut.ensures.len)) in
    let off : bound_at old.places.items n x ≡ false = was-free old.places.items x within free n in
    let here = c.link-ends.ensures.chain (bound_at old.places.items n) (bound_at (set old.places.items x (Some (place.Node n))) n) before off (joins old.places.items x within free n) in
    bound-somewhere old _ x n c.self.invariant within free (omega (arith, lt)) (omega (arith, ap length items, size, ap length c.deref_mut.ensures.value))
    (λ k other none. ap (λ (l : List (Option Label)). get_or l k None) items ∙ c.link-ends.ensures.others (bound_at old.places.items n) before off k other none ∙ ap (λ (l : List (Option Label)). get_or l k None) c.deref_mut.ensures.value)
    (ap (λ (p : Place). set old.places.items x (Some p)) c.in-Node.is)
    (length-set old.ends.items n (Some c.link-ends.result))
    (λ i less other. get_or-set_other old.ends.items n i (Some c.link-ends.result) None other)
    (λ other. refl)
    (λ less. subst (λ (l : List (Option Label)). IsChain (bound_at (set old.places.items x (Some (place.Node n))) n) l (get_or (set old.ends.items n (Some c.link-ends.result)) n None)) (sym items)
    (subst (IsChain (bound_at (set old.places.items x (Some (place.Node n))) n) c.link-ends.new.next) (sym (get_or-set_same old.ends.items n (Some c.link-ends.result) None lt)) here))
    (λ e. absurd (omega (arith, e, lt)))

pub invariant_of-self-else-node-len : goal.invariant_of-self-else-node-len
invariant_of-self-else-node-len c =
    let old = c.self.inside in
    let x = c.args.label.0 in
    let within : x < length old.places.items = omega (arith, ap (λ (b : BoundLabels). length b.places) c.self.view_is, c.requires.label) in
    let free : get_or old.places.items x None ≡ None = unbound old.places.items x c.index.result.now c.index.ensures (sym c.is_some.ensures ∙ c.if-is_some.false) within in
    let n = c.in-Node.node in
    let stands : IsWithin c.args.self.now.nodes (place.Node n) = subst (IsWithin c.args.self.now.nodes) c.in-Node.is c.requires.place in
    let count : length old.ends.items ≡ c.args.self.now.nodes = ap (λ (b : BoundLabels). b.nodes) c.self.view_is in
    let same : length old.ends.items ≡ n = omega (arith, stands, count, c.if-node-len.false, c.len.ensures) in
    let link = c.link-ends-else-node-len in
    let list = c.deref_mut-else-node-len in
    let before : IsChain (bound_at old.places.items n) list.result.now old.end =
    subst (λ (l : List (Option Label)). IsChain (bound_at old.places.items n) l old.end) (sym list.ensures.value)
    (subst (λ m. IsChain (bound_at old.places.items m) old.next.items old.end) same c.self.invariant.end) in
    let size : length link.new.next ≡ length list.result.now = link.auto.next in
    let items : (with_items old.next link.new.next).items ≡ link.new.next = with_items_is old.next link.new.next (omega (arith, size, list.ensures.len)) in
    let off : bound_at old.places.items n x ≡ false = was-free old.places.items x within free n in
    let there = link.ensures.chain (bound_at old.places.items n) (bound_at (set old.places.items x (Some (place.Node n))) n) before off (joins old.places.items x within free n) in
    bound-somewhere old _ x n c.self.invariant within free (omega (arith, same)) (omega (arith, ap length items, size, ap length list.ensures.value))
    (λ k other none. ap (λ (l : List (Option Label)). get_or l k None) items ∙ link.ensures.others (bound_at old.places.items n) before off k other none ∙ ap (λ (l : List (Option Label)). get_or l k None) list.ensures.value)
    (ap (λ (p : Place). set old.places.items x (Some p)) c.in-Node.is)
    refl
    (λ i less other. refl)
    (λ other. absurd (other same))
    (λ less. absurd (omega (arith, less, same)))
    (λ e. subst (λ (l : List (Option Label)). IsChain (bound_at (set old.places.items x (Some (place.Node n))) n) l (Some link.result)) (sym items) there)

pub invariant_of-self-in_default : goal.invariant_of-self-in_default
invariant_of-self-in_default c =
    let old = c.self.inside in
    let x = c.args.label.0 in
    let within : x < length old.places.items = omega (arith, ap (λ (b : BoundLabels). length b.places) c.self.view_is, c.requires.label) in
    let free : get_or old.places.items x None ≡ None = unbound old.places.items x c.index.result.now c.index.ensures (sym c.is_some.ensures ∙ c.if-is_some.false) within in
    bound-in-data old _ x c.in_default.field-0 c.self.invariant within free refl refl refl (ap (λ (p : Place). set old.places.items x (Some p)) c.in_default.is)
