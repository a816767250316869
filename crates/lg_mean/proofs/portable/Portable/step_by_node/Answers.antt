use Rattle.std.proofs.Common.{◌≡◌, ℕ, ap, sym, ◌∙◌, length, subst, arith, Some}
use Rattle.std.specs.Prelude.{slice_get}
use Rattle.std.proofs.lemmas.Option.{same_Some}
use Rattle.lg_op.specs.Nodes.{InForm}
use Rattle.lg_op.specs.declared.node.Node.{Node}
use Rattle.lg_node.specs.ShapeLaws.{IsWellShaped}
use Rattle.lg_meaning.specs.Fits.{Fits, FitsWell}
use Rattle.lg_meaning.specs.Laws.{IsFormedAt}
use Rattle.lg_meaning.specs.Steps.{node_step}
use Rattle.lg_meaning.specs.Texts.{text}
use Rattle.lg_mean.specs.Says.{Suits, Steps}
use Rattle.lg_mean.specs.Machines.{state_of}
use Rattle.lg_mean.specs.Portables.{PortableState}
use Rattle.lg_mean.specs.Programs.{KnownText, text_of}
use Rattle.lg_mean.proofs.FitLemmas.{fit_kept}
use Rattle.lg_mean.proofs.SuitLemmas.{suits}
use Rattle.lg_mean.proofs.KnownLemmas.{known}
use Rattle.lg_mean.proofs.portable.Portable.step_by_node.Goals as goal

pub step_node-answer-requires-clause-room : goal.step_node-answer-requires-clause-room
step_node-answer-requires-clause-room g c =
    let fits : Fits c.args.unit.now.nodes c.args.shape.now (state_of c.self.inside.machine) = subst (λ (p : PortableState). Fits c.args.unit.now.nodes c.args.shape.now (state_of p.machine)) (sym c.self.view_is) c.requires.fits in
    omega (arith, fits.inside, c.what_holds.ensures.few)

pub step_node-answer-requires-clause-suits : goal.step_node-answer-requires-clause-suits
step_node-answer-requires-clause-suits g c =
    let fits : Fits c.args.unit.now.nodes c.args.shape.now (state_of c.self.inside.machine) = subst (λ (p : PortableState). Fits c.args.unit.now.nodes c.args.shape.now (state_of p.machine)) (sym c.self.view_is) c.requires.fits in
    let w : IsWellShaped c.args.unit.now.nodes = c.accepted_nodes_are_well_shaped.ensures c.args.unit.now.nodes c.requires.made.shaped.accepted in
    let here : slice_get c.args.unit.now.nodes.nodes c.self.inside.machine.at ≡ Some c.node_at-node.result.now = ap (slice_get c.args.unit.now.nodes.nodes) (sym c.place.ensures.value) ∙ sym c.node_at-node.ensures.node in
    rw c.new-program.ensures
    (subst (λ (k : ℕ). Suits c.args.shape.now.functions c.node_at-node.result.now.op (state_of c.self.inside.machine) k) (c.pushed.ensures.pushed ∙ c.pushed.ensures.value) (suits c.args.unit.now.nodes c.args.shape.now w (state_of c.self.inside.machine) c.node_at-node.result.now here fits))

pub step_node-answer-requires-clause-known : goal.step_node-answer-requires-clause-known
step_node-answer-requires-clause-known g c =
    let w : IsWellShaped c.args.unit.now.nodes = c.accepted_nodes_are_well_shaped.ensures c.args.unit.now.nodes c.requires.made.shaped.accepted in
    let here : slice_get c.args.unit.now.nodes.nodes c.self.inside.machine.at ≡ Some c.node_at-node.result.now = ap (slice_get c.args.unit.now.nodes.nodes) (sym c.place.ensures.value) ∙ sym c.node_at-node.ensures.node in
    let addresses : length c.self.inside.labels.addresses ≡ length c.args.unit.now.nodes.words = ap (λ (p : PortableState). length p.labels.addresses) c.self.view_is ∙ c.requires.made.same in
    rw c.new-program.ensures (known c.args.unit.now.nodes w c.self.inside.machine.at c.node_at-node.result.now here (length c.self.inside.labels.addresses) (addresses ∙ sym c.what_holds.ensures.places))

pub returns-clause-fits : goal.returns-clause-fits
returns-clause-fits g c =
    let l = c.args.unit.now.nodes in
    let shape = c.args.shape.now in
    let s = state_of c.self.inside.machine in
    let n = c.node_at-node.result.now in
    let A = c.self.inside.labels.addresses in
    let t = state_of c.step_node-answer.new.self in
    let out = g.O.Sink.taken c.args.out.now in
    let out' = g.O.Sink.taken c.step_node-answer.new.out in
    let faults = g.O.Sink.faults c.args.out.now in
    let faults' = g.O.Sink.faults c.step_node-answer.new.out in
    let fits : Fits l shape s = subst (λ (p : PortableState). Fits l shape (state_of p.machine)) (sym c.self.view_is) c.requires.fits in
    let well : FitsWell l shape s = record { fits = fits; heap = c.place.ensures.heap } in
    let here : slice_get l.nodes s.at ≡ Some n = ap (slice_get l.nodes) (sym c.place.ensures.value) ∙ sym c.node_at-node.ensures.node in
    let formed : IsFormedAt l s.at = λ (m : Node) (e : slice_get l.nodes s.at ≡ Some m). subst InForm (same_Some n m (sym here ∙ e)) c.node_at-node.ensures.form in
    let says : Steps (node_step (text l shape A) n n.op s) n.line s c.step_node-answer.result t out out' faults faults' =
    subst (λ (p : KnownText). Steps (node_step (text_of p) n n.op s) n.line s c.step_node-answer.result t out out' faults faults') c.new-program.ensures c.step_node-answer.ensures.says in
    fit_kept c.steps_keep_the_fit.ensures l shape A s c.requires.made.shaped formed well n.line c.step_node-answer.result t out out' faults faults' (rw here says)
