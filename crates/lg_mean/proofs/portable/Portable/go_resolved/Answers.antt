use Rattle.std.proofs.Common.{◌≡◌, Bool, true, false, ap, sym, refl, ◌∙◌, subst, Some, []}
use Rattle.std.specs.Prelude.{slice_get}
use Rattle.std.proofs.lemmas.Option.{same_Some}
use Rattle.lg_op.specs.Nodes.{InForm}
use Rattle.lg_op.specs.declared.node.Node.{Node}
use Rattle.lg_meaning.specs.States.{State}
use Rattle.lg_meaning.specs.Fits.{Fits, FitsWell}
use Rattle.lg_meaning.specs.Laws.{IsFormedAt}
use Rattle.lg_meaning.specs.Steps.{Goes}
use Rattle.lg_meaning.specs.Texts.{step, line_at}
use Rattle.lg_mean.specs.declared.mean_step.MeanStep.TheVariants as mean
use Rattle.lg_mean.specs.Machines.{state_of}
use Rattle.lg_mean.specs.Portables.{PortableState}
use Rattle.lg_mean.specs.Programs.{IsTableOf}
use Rattle.lg_mean.specs.Resolved.{resolved_step}
use Rattle.lg_mean.proofs.FitLemmas.{fit_kept}
use Rattle.lg_mean.proofs.ResolvedLemmas.{resolved_goes, goes_says, stays_state}
use Rattle.lg_mean.proofs.portable.Portable.go_resolved.Goals as goal

pub returns-clause-goes : goal.returns-clause-goes
returns-clause-goes c =
    let l = c.args.unit.now.nodes in
    let shape = c.args.shape.now in
    let s = state_of c.self.inside.machine in
    let u = state_of c.step_resolved.new.self in
    let n = c.node_at.result.now in
    let q = c.node-node.result.now in
    let made : IsTableOf l shape c.self.inside.labels = subst (λ (p : PortableState). IsTableOf l shape p.labels) (sym c.self.view_is) c.requires.made in
    let here : slice_get l.nodes s.at ≡ Some n = ap (slice_get l.nodes) (sym c.place.ensures.value) ∙ sym c.node_at.ensures.node in
    let found : slice_get c.self.inside.labels.resolved s.at ≡ Some q = ap (slice_get c.self.inside.labels.resolved) (sym c.place-2.ensures.value) ∙ sym c.node-node.ensures in
    λ (goes_on : c.step_resolved.result ≡ true).
    let goes : step l shape c.self.inside.labels.addresses s ≡ Goes u [] = resolved_goes l shape c.self.inside.labels.addresses n q s u c.step_resolved.result here (made.resolved.each s.at n q here found) goes_on c.step_resolved.ensures in
    subst (λ (p : PortableState). step l shape p.labels.addresses (state_of p.machine) ≡ Goes u []) c.self.view_is goes

-- where it does not go so, it stays
pub returns-clause-stays : goal.returns-clause-stays
returns-clause-stays c =
    let s = state_of c.self.inside.machine in
    λ (stays : c.step_resolved.result ≡ false).
    let same : state_of c.step_resolved.new.self ≡ s = stays_state (resolved_step c.node-node.result.now s) s (state_of c.step_resolved.new.self) c.step_resolved.result stays c.step_resolved.ensures in
    same ∙ ap (λ (p : PortableState). state_of p.machine) c.self.view_is

pub returns-clause-fits : goal.returns-clause-fits
returns-clause-fits c = at c.step_resolved.result refl
  where
    at : (b : Bool) → c.step_resolved.result ≡ b → Fits c.args.unit.now.nodes c.args.shape.now (state_of c.step_resolved.new.self)
    at false stays =
        let s = state_of c.self.inside.machine in
        let same : state_of c.step_resolved.new.self ≡ s = stays_state (resolved_step c.node-node.result.now s) s (state_of c.step_resolved.new.self) c.step_resolved.result stays c.step_resolved.ensures in
        let fits : Fits c.args.unit.now.nodes c.args.shape.now s = subst (λ (p : PortableState). Fits c.args.unit.now.nodes c.args.shape.now (state_of p.machine)) (sym c.self.view_is) c.requires.fits in
        subst (λ (x : State). Fits c.args.unit.now.nodes c.args.shape.now x) (sym same) fits
    at true goes_on =
        let l = c.args.unit.now.nodes in
        let shape = c.args.shape.now in
        let A = c.self.inside.labels.addresses in
        let s = state_of c.self.inside.machine in
        let u = state_of c.step_resolved.new.self in
        let n = c.node_at.result.now in
        let q = c.node-node.result.now in
        let made : IsTableOf l shape c.self.inside.labels = subst (λ (p : PortableState). IsTableOf l shape p.labels) (sym c.self.view_is) c.requires.made in
        let here : slice_get l.nodes s.at ≡ Some n = ap (slice_get l.nodes) (sym c.place.ensures.value) ∙ sym c.node_at.ensures.node in
        let found : slice_get c.self.inside.labels.resolved s.at ≡ Some q = ap (slice_get c.self.inside.labels.resolved) (sym c.place-2.ensures.value) ∙ sym c.node-node.ensures in
        let goes : step l shape A s ≡ Goes u [] = resolved_goes l shape A n q s u c.step_resolved.result here (made.resolved.each s.at n q here found) goes_on c.step_resolved.ensures in
        let fits : Fits l shape s = subst (λ (p : PortableState). Fits l shape (state_of p.machine)) (sym c.self.view_is) c.requires.fits in
        let well : FitsWell l shape s = record { fits = fits; heap = c.place.ensures.heap } in
        let formed : IsFormedAt l s.at = λ (m : Node) (e : slice_get l.nodes s.at ≡ Some m). subst InForm (same_Some n m (sym here ∙ e)) c.node_at.ensures.form in
        fit_kept c.steps_keep_the_fit.ensures l shape A s made.shaped formed well (line_at l s) mean.Went u _ _ 0 0 (goes_says l shape A s u (line_at l s) (Some []) 0 goes)
