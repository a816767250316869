use Rattle.std.proofs.Common.{◌≡◌, ap, sym, ◌∙◌, length, Some}
use Rattle.std.specs.Prelude.{slice_get}
use Rattle.lg_meaning.specs.Texts.{text}
use Rattle.lg_node.specs.ShapeLaws.{IsWellShaped}
use Rattle.lg_mean.specs.Machines.{state_of}
use Rattle.lg_mean.specs.Portables.{PortableState}
use Rattle.lg_mean.specs.Programs.{KnownText}
use Rattle.lg_mean.specs.Results.{word_of_return}
use Rattle.lg_mean.proofs.KnownLemmas.{known}
use Rattle.lg_mean.proofs.ResultLemmas.{words_of_returns}
use Rattle.lg_mean.proofs.portable.Portable.result.Goals as goal

pub word_of_return-requires : goal.word_of_return-requires
word_of_return-requires c =
    let w : IsWellShaped c.args.unit.now.nodes = c.accepted_nodes_are_well_shaped.ensures c.args.unit.now.nodes c.requires.made.shaped.accepted in
    let here : slice_get c.args.unit.now.nodes.nodes c.self.inside.machine.at ≡ Some c.node_at-node.result.now = ap (slice_get c.args.unit.now.nodes.nodes) (sym c.place.ensures.value) ∙ sym c.node_at-node.ensures.node in
    let addresses : length c.self.inside.labels.addresses ≡ length c.args.unit.now.nodes.words = ap (λ (p : PortableState). length p.labels.addresses) c.self.view_is ∙ c.requires.made.same in
    rw c.new-program.ensures (known c.args.unit.now.nodes w c.self.inside.machine.at c.node_at-node.result.now here (length c.self.inside.labels.addresses) (addresses ∙ sym c.what_holds.ensures.places))

pub returns : goal.returns
returns c =
    let here : slice_get c.args.unit.now.nodes.nodes (state_of c.self.inside.machine).at ≡ Some c.node_at-node.result.now = ap (slice_get c.args.unit.now.nodes.nodes) (sym c.place.ensures.value) ∙ sym c.node_at-node.ensures.node in
    let n = c.node_at-node.result.now in
    let t = text c.args.unit.now.nodes c.args.shape.now c.self.inside.labels.addresses in
    let s = state_of c.self.inside.machine in
    rw (← c.self.view_is) (rw here (c.word_of_return.ensures ∙ ap (λ (p : KnownText). word_of_return p.labels.addresses n n.op s) c.new-program.ensures
    ∙ sym (words_of_returns t n s n.op)))
