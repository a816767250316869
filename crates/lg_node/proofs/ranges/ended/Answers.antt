use Rattle.std.proofs.Common.{refl, ap, sym, ◌∙◌}
use Rattle.lg_node.specs.declared.walk.Walk.{Walk}
use Rattle.lg_node.specs.Functions.{local_size}
use Rattle.lg_node.proofs.WalkLemmas.{home_here, home_sum}
use Rattle.lg_node.proofs.ranges.ended.Goals as goal

pub returns-in-Some : goal.returns-in-Some
returns-in-Some c =
    let nodes = c.args.nodes.now.nodes in
    let here = sym (home_here nodes c.args.index c.args.node.now c.requires.node) ∙ sym c.requires.function ∙ c.in-Some.is in
    let locals = home_sum local_size nodes c.args.index c.in-Some.entry c.args.node.now c.requires.node here in
    rw (c.in-Some.is, sym c.if-is_epilog.ensures, locals, c.local_size.ensures.value, ap (λ (w : Walk). w.locals) c.requires.walk) refl
