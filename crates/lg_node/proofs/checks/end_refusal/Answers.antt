use Rattle.std.proofs.Common.{ap, sym, ◌∙◌, length}
use Rattle.lg_node.specs.declared.walk.Walk.{Walk}
use Rattle.lg_node.proofs.WalkLemmas.{open_below}
use Rattle.lg_node.proofs.checks.end_refusal.Goals as goal

pub node-requires : goal.node-requires
node-requires c = open_below c.args.nodes.now.nodes (length c.args.nodes.now.nodes) c.in-Some.entry (sym (ap (λ (w : Walk). w.function) c.requires) ∙ c.in-Some.is)
