use Rattle.std.proofs.Common.{◌≡◌, ap, sym, ◌∙◌, length, Some}
use Rattle.std.specs.Prelude.{slice_get}
use Rattle.lg_meaning.specs.Reasons.{why_of}
use Rattle.lg_node.specs.ShapeLaws.{IsWellShaped}
use Rattle.lg_mean.specs.Machines.{state_of}
use Rattle.lg_mean.specs.Portables.{PortableState}
use Rattle.lg_mean.specs.Programs.{KnownText, text_of}
use Rattle.lg_mean.proofs.KnownLemmas.{known}
use Rattle.lg_mean.proofs.portable.Portable.why.Goals as goal

pub why-requires-clause-known : goal.why-requires-clause-known
why-requires-clause-known c =
    let w : IsWellShaped c.args.unit.now.nodes = c.accepted_nodes_are_well_shaped.ensures c.args.unit.now.nodes c.requires.made.shaped.accepted in
    let here : slice_get c.args.unit.now.nodes.nodes c.self.inside.machine.at ≡ Some c.node_at-node.result.now = ap (slice_get c.args.unit.now.nodes.nodes) (sym c.place.ensures.value) ∙ sym c.node_at-node.ensures.node in
    let addresses : length c.self.inside.labels.addresses ≡ length c.args.unit.now.nodes.words = ap (λ (p : PortableState). length p.labels.addresses) c.self.view_is ∙ c.requires.made.same in
    rw c.new-program.ensures (known c.args.unit.now.nodes w c.self.inside.machine.at c.node_at-node.result.now here (length c.self.inside.labels.addresses) (addresses ∙ sym c.what_holds.ensures.places))

pub returns : goal.returns
returns c =
    let here : slice_get c.args.unit.now.nodes.nodes (state_of c.self.inside.machine).at ≡ Some c.node_at-node.result.now = ap (slice_get c.args.unit.now.nodes.nodes) (sym c.place.ensures.value) ∙ sym c.node_at-node.ensures.node in
    let n = c.node_at-node.result.now in
    rw (← c.self.view_is) (rw here (c.why.ensures ∙ ap (λ (p : KnownText). why_of (text_of p) n n.op (state_of c.self.inside.machine)) c.new-program.ensures))
