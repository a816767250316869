use Rattle.std.proofs.Common.{◌≡◌, ◌∙◌, ap, subst, refl, length, [], Some, None}
use Rattle.std.specs.Prelude.{slice_get}
use Rattle.lg_node.specs.Nodes.{LabelledNodes}
use Rattle.lg_node.specs.Unused.{IsUnused, numbered, with_label}
use Rattle.lg_expression.specs.Units.{start}
use Rattle.lg_expression.proofs.NodeLemmas.{first_number}
use Rattle.lg_expression.proofs.unit.put_format.Goals as goal

pub returns-clause-label : goal.returns-clause-label
returns-clause-label c = c.in_ok-label.ensures.number ∙ ap (λ (l : LabelledNodes). length l.words) c.requires

pub returns-clause-nodes : goal.returns-clause-nodes
returns-clause-nodes c =
    let made = c.in_ok-label.ensures.ok in
    let unused : IsUnused [] made.0 = subst (λ (l : LabelledNodes). IsUnused l.words made.0) c.requires made.1 in
    let labelled : c.fresh.new.self ≡ with_label start (numbered 0) =
    made.2 ∙ ap (λ (l : LabelledNodes). with_label l (numbered made.0)) c.requires ∙ ap (λ n. with_label start (numbered n)) (first_number made.0 unused) in
    let number : c.in_ok-label.label.0 ≡ 0 = c.in_ok-label.ensures.number ∙ ap (λ (l : LabelledNodes). length l.words) c.requires in
    let free : slice_get c.fresh.new.self.places c.in_ok-label.label.0 ≡ Some None = rw (labelled, number) refl in
    c.bind.ensures.bound (c.bind.ensures.free.1 free) ∙ (rw (labelled, number) refl)
