use Rattle.std.proofs.Common.{◌≡◌, Bool, true, false, Option, None, length, sym, ap, ◌∙◌, subst, arith}
use Rattle.std.specs.Prelude.{if◌then◌else◌}
use Rattle.std.specs.Option.{option_flatten}
use Rattle.lg_node.specs.Preparations.{prepared_before}
use Rattle.lg_node.proofs.WalkLemmas.{varies_start}
use Rattle.lg_explain.specs.Blames.{bad_call_at, first_of, label_at, of_node}
use Rattle.lg_explain.specs.Calls.{variadic_after, varies_by}
use Rattle.lg_explain.proofs.BlameLemmas.{at_node, first_found, first_on, first_start}
use Rattle.lg_explain.proofs.CallLemmas.{bad_gives, bad_here, between_is, variadic_on, variadic_start, varies_next}
use Rattle.lg_explain.proofs.calls.first_between.Goals as goal

pub loop-index-init : goal.loop-index-init
loop-index-init c = record {
  call = sym (variadic_start c.args.nodes.now.nodes);
  varies = sym (varies_start c.args.nodes.now.nodes);
  none = first_start _;
}

pub returns-then-is_some : goal.returns-then-is_some
returns-then-is_some c =
    let l = c.args.nodes.now in
    let i = c.loop-index.index in
    let n = c.node-op.result in
    let h = c.loop-index.invariant in
    let labelled = c.label_at-label.ensures.labelled ∙ sym c.is_some.ensures in
    let bad = bad_here l i n c.loop-index.call c.loop-index.varies _ _ h.call h.varies labelled c.is_bad.ensures ∙ c.if-is_bad.true in
    let found = first_found (of_node (bad_call_at l) l) i (length l.nodes) _ (omega arith) h.none (at_node (bad_call_at l) l i n (sym c.node-op.ensures.node) ∙ bad_gives l i n true bad) in
    let between = between_is (prepared_before l.nodes i) l.places i c.loop-index.call h.call ∙ ap (λ b. if b then label_at l.places i else None) (sym c.is_some-then-is_bad.ensures ∙ c.if-is_some.true) in
    c.label_at-label.ensures.label ∙ sym (ap option_flatten found ∙ between)

pub returns-else-is_some : goal.returns-else-is_some
returns-else-is_some c =
    let l = c.args.nodes.now in
    let i = c.loop-index.index in
    let n = c.node-op.result in
    let h = c.loop-index.invariant in
    let labelled = c.label_at-label.ensures.labelled ∙ sym c.is_some.ensures in
    let bad = bad_here l i n c.loop-index.call c.loop-index.varies _ _ h.call h.varies labelled c.is_bad.ensures ∙ c.if-is_bad.true in
    let found = first_found (of_node (bad_call_at l) l) i (length l.nodes) _ (omega arith) h.none (at_node (bad_call_at l) l i n (sym c.node-op.ensures.node) ∙ bad_gives l i n true bad) in
    let between = between_is (prepared_before l.nodes i) l.places i c.loop-index.call h.call ∙ ap (λ b. if b then label_at l.places i else None) (sym c.is_some-then-is_bad.ensures ∙ c.if-is_some.false) in
    sym (ap option_flatten found ∙ between)

pub loop-index-preserved : goal.loop-index-preserved
loop-index-preserved c =
    let l = c.args.nodes.now in
    let i = c.loop-index.index in
    let n = c.node-op.result in
    let e = sym c.node-op.ensures.node in
    let h = c.loop-index.invariant in
    let labelled = c.label_at-label.ensures.labelled ∙ sym c.is_some.ensures in
    let bad = bad_here l i n c.loop-index.call c.loop-index.varies _ _ h.call h.varies labelled c.is_bad.ensures ∙ c.if-is_bad.false in
    record {
      call = c.variadic_after-call.ensures ∙ ap (λ (o : Option Bool). variadic_after o n.op) h.call ∙ sym (variadic_on l.nodes i n e);
      varies = c.varies_by-varies.ensures ∙ (λ j. varies_by (h.varies j) (h.call j) n.op) ∙ sym (varies_next l.nodes i n e);
      none = first_on (of_node (bad_call_at l) l) i h.none (at_node (bad_call_at l) l i n e ∙ bad_gives l i n false bad);
    }

pub returns : goal.returns
returns c =
    let l = c.args.nodes.now in
    let all : c.loop-index.index ≡ length l.nodes = omega arith in
    sym (ap option_flatten (subst (λ k. first_of (of_node (bad_call_at l) l) k ≡ None) all c.loop-index.invariant.none))
