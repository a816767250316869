-- A machine's step keeps the fit of its state.
use Rattle.std.proofs.Common.{◌≡◌, ℕ, List, Option, refl, sym, subst, inl, inr}
use Rattle.lg_node.specs.Nodes.{LabelledNodes}
use Rattle.lg_node.specs.Shapes.{TextShape, IsShapeOf}
use Rattle.lg_meaning.specs.States.{State}
use Rattle.lg_meaning.specs.Steps.{Outcome, Goes, Ends, Undefined}
use Rattle.lg_meaning.specs.Texts.{step}
use Rattle.lg_meaning.specs.Fits.{Fits, FitsWell}
use Rattle.lg_meaning.specs.Laws.{IsFormedAt, StepsKeepFit}
use Rattle.lg_mean.specs.declared.mean_step.MeanStep.{MeanStep}
use Rattle.lg_mean.specs.Says.{Steps}

module _ (keep : StepsKeepFit) (l : LabelledNodes) (shape : TextShape) (A : List ℕ) (s : State) (is : IsShapeOf l shape) (formed : IsFormedAt l s.at) (fits : FitsWell l shape s) where
  kept_by : (o : Outcome) → step l shape A s ≡ o → (line : ℕ) (answer : MeanStep) (t : State) (out out' : Option (List ℕ)) (faults faults' : ℕ) → Steps o line s answer t out out' faults faults' → Fits l shape t
  kept_by (Goes u bytes) e line answer t out out' faults faults' (inl x) = subst (Fits l shape) (sym x.1) (keep l shape A s u bytes is formed fits e).fits
  kept_by (Goes u bytes) e line answer t out out' faults faults' (inr x) = subst (Fits l shape) (sym x.1) fits.fits
  kept_by (Ends status) e line answer t out out' faults faults' x = subst (Fits l shape) (sym x.1) fits.fits
  kept_by Undefined e line answer t out out' faults faults' x = subst (Fits l shape) (sym x.1) fits.fits

  pub fit_kept : (line : ℕ) (answer : MeanStep) (t : State) (out out' : Option (List ℕ)) (faults faults' : ℕ) → Steps (step l shape A s) line s answer t out out' faults faults' → Fits l shape t
  fit_kept = kept_by (step l shape A s) refl
