use Rattle.std.proofs.Common.{◌≡◌, ap}
use Rattle.std.proofs.lemmas.Option.{slice_get_within}
use Rattle.lg_node.specs.Functions.{home}
use Rattle.lg_node.specs.Labels.{is_labelled}
use Rattle.lg_node.specs.Preparations.{prepared_before, varies_before}
use Rattle.lg_node.specs.declared.walk.Walk.{Walk}
use Rattle.lg_node.proofs.refusals.refuses.Goals as goal

pub returns-in-TargetOutside : goal.returns-in-TargetOutside
returns-in-TargetOutside c =
    let home : c.home_in-home.result ≡ home c.args.nodes.now.nodes c.args.index = c.home_in-home.ensures c.args.nodes.now.nodes (rw c.deref.ensures.value c.requires.tables.homes) in
    rw c.in-TargetOutside.is (rw (home, c.forms.ensures, c.as_slice-operands.ensures.value) at c.goes_astray.ensures)

pub returns-in-BadCall : goal.returns-in-BadCall
returns-in-BadCall c =
    let labelled : c.is_labelled.result ≡ is_labelled c.args.nodes.now.places c.args.index = c.is_labelled.ensures c.args.nodes.now c.requires.tables (slice_get_within c.args.nodes.now.nodes c.args.index c.args.node.now c.requires.node) in
    let call : c.args.walk.call ≡ prepared_before c.args.nodes.now.nodes c.args.index = ap (λ (w : Walk). w.call) c.requires.walk in
    let varies : c.args.walk.varies ≡ varies_before c.args.nodes.now.nodes c.args.index = ap (λ (w : Walk). w.varies) c.requires.walk in
    rw c.in-BadCall.is (rw (labelled, call, varies) at c.is_bad_call.ensures)
