use Rattle.std.proofs.Common.{◌≡◌, ◌<◌, ◌≤◌, ℕ, List, length, Some, ap, sym, subst, ◌∙◌, arith}
use Rattle.std.specs.Prelude.{slice_index}
use Rattle.std.specs.Option.{option_and_then}
use Rattle.std.proofs.lemmas.List.{get_or_read_under}
use Rattle.lg_node.specs.Preparations.{pushed}
use Rattle.lg_op.specs.declared.node.Node.{Node}
use Rattle.lg_asm.specs.Assembled.{Assembled, ArePushed}
use Rattle.lg_asm.specs.NodeChoices.{live_behind, node_choices, choices_at}
use Rattle.lg_live.specs.RegSets.{has}
use Rattle.lg_live.specs.declared.reg_set.RegSet.{RegSet}
use Rattle.lg_asm.proofs.code.Code.choices.Goals as goal

-- the count that is kept of a node
kept : (nodes : List Node) (xs : List ℕ) (i x : ℕ) → ArePushed nodes xs (length nodes) → i < length nodes → x ≡ slice_index xs i → (x ≡ pushed nodes i) × (x ≤ 16)
kept nodes xs i x a lt e = (e ∙ a.each i lt, let f = a.few i lt in omega (arith, e, f))

pub node_choices-requires : goal.node_choices-requires
node_choices-requires c =
    let h : c.args.index < length c.self.inside.nodes.nodes = subst (λ (k : Assembled). c.args.index < length k.nodes.nodes) (sym c.self.view_is) c.requires in
    (kept c.self.inside.nodes.nodes c.self.inside.passed.items c.args.index c.index.result.now c.self.invariant.passed_are h
    (get_or_read_under c.self.inside.passed.items c.args.index (length c.self.inside.nodes.nodes) c.index.result.now 0 c.index.ensures h (sym c.self.invariant.passed_are.counted))).1

pub returns : goal.returns
returns c =
    let h : c.args.index < length c.self.inside.nodes.nodes = subst (λ (k : Assembled). c.args.index < length k.nodes.nodes) (sym c.self.view_is) c.requires in
    let same = (kept c.self.inside.nodes.nodes c.self.inside.passed.items c.args.index c.index.result.now c.self.invariant.passed_are h
    (get_or_read_under c.self.inside.passed.items c.args.index (length c.self.inside.nodes.nodes) c.index.result.now 0 c.index.ensures h (sym c.self.invariant.passed_are.counted))).0 in
    subst (λ (k : Assembled). choices_at k.target k.nodes.nodes k.live c.args.index ≡ Some c.node_choices.result) c.self.view_is
    (ap (option_and_then (node_choices c.self.inside.target (live_behind c.self.inside.live c.args.index) (pushed c.self.inside.nodes.nodes c.args.index))) (sym c.node.ensures.node)
    ∙ (ap (λ k. node_choices c.self.inside.target (live_behind c.self.inside.live c.args.index) k c.node.result) (sym same)
    ∙ (ap (λ (s : RegSet). node_choices c.self.inside.target (has s) c.index.result.now c.node.result) (sym c.set_after-live_after.ensures) ∙ c.node_choices.ensures)))

pub set_after-live_after-requires : goal.set_after-live_after-requires
set_after-live_after-requires c =
    let h : c.args.index < length c.self.inside.nodes.nodes = subst (λ (k : Assembled). c.args.index < length k.nodes.nodes) (sym c.self.view_is) c.requires in
    let e = c.self.invariant.code.live_are.after_count in omega (arith, h, e)
