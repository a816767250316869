use Rattle.std.proofs.Common.{refl}
use Rattle.lg_node.proofs.BindingLemmas.{node-added}
use Rattle.lg_node.proofs.bindings.Bindings.add_node.Goals as goal

pub invariant_of-self : goal.invariant_of-self
invariant_of-self c = node-added c.self.inside _ c.self.invariant refl refl c.in-Ok.ensures.items refl
