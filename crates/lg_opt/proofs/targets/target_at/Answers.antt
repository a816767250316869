use Rattle.std.proofs.Common.{◌≡◌, None, true, sym, ap, ◌∙◌, arith, subst, length, ◌<◌}
use Rattle.std.specs.Prelude.{slice_index, slice_index_or}
use Rattle.lg_opt.specs.Hops.{is_jump_at, jump_at}
use Rattle.lg_opt.specs.Targets.{target_node, IsTargetAt}
use Rattle.lg_opt.proofs.TargetLemmas.{target-within}
use Rattle.lg_opt.proofs.LabelTableLemmas.{without, turning, ending}
use Rattle.lg_opt.proofs.targets.target_at.Goals as goal

pub bounds-ends-target : goal.bounds-ends-target
bounds-ends-target c =
    let l = c.args.nodes.now in
    let n = c.node-node.result in
    let t = target-within l c.requires.accepted c.what_holds.ensures.formed c.args.index n (sym c.node-node.ensures.node) (sym c.has_target.ensures ∙ c.if-not-has_target.false) in
    omega (arith, t, c.target_node-target.ensures, c.requires.ends_count)

pub returns-then-not-has_target : goal.returns-then-not-has_target
returns-then-not-has_target c = without c.args.nodes.now c.requires.accepted c.what_holds.ensures.formed c.args.index c.node-node.result (sym c.node-node.ensures.node) (sym c.has_target.ensures ∙ c.if-not-has_target.true)

pub returns-then-is_jump : goal.returns-then-is_jump
returns-then-is_jump c =
    let l = c.args.nodes.now in
    let n = c.node-node.result in
    let here = sym c.node-node.ensures.node in
    let ends = c.args.ends.now in
    let formed = c.what_holds.ensures.formed in
    let t : target_node l n < length ends = let w = target-within l c.requires.accepted formed c.args.index n here (sym c.has_target.ensures ∙ c.if-not-has_target.false) in omega (arith, w, c.requires.ends_count) in
    let jumps : jump_at l (slice_index ends (target_node l n)) ≡ true = ap (λ k. jump_at l (slice_index ends k)) (sym c.target_node-target.ensures) ∙ ap is_jump_at (sym c.node.ensures.node) ∙ sym c.is_jump.ensures ∙ c.if-is_jump.true in
    turning l c.requires.accepted formed c.args.index n here ends c.requires.ends t jumps

pub returns : goal.returns
returns c =
    let l = c.args.nodes.now in
    let n = c.node-node.result in
    let here = sym c.node-node.ensures.node in
    let ends = c.args.ends.now in
    let formed = c.what_holds.ensures.formed in
    let targets = sym c.has_target.ensures ∙ c.if-not-has_target.false in
    let t : target_node l n < length ends = let w = target-within l c.requires.accepted formed c.args.index n here targets in omega (arith, w, c.requires.ends_count) in
    let calm = ap (λ k. jump_at l (slice_index ends k)) (sym c.target_node-target.ensures) ∙ ap is_jump_at (sym c.node.ensures.node) ∙ sym c.is_jump.ensures ∙ c.if-is_jump.false in
    let within : slice_index ends (target_node l n) < length c.args.labels.now = let w = c.requires.within (target_node l n) t in omega (arith, w, c.requires.ends_count, c.requires.labels_count) in
    subst (λ k. IsTargetAt l c.args.index (slice_index_or c.args.labels.now (slice_index ends k) None)) (sym c.target_node-target.ensures)
    (ending l c.requires.accepted formed c.args.index n here ends c.requires.ends t targets calm c.args.labels.now c.requires.labels within)
