-- Runs of the portable meaning are those of a machine, go step by step, and keep the fit.
use Rattle.std.proofs.Common.{◌≡◌, ◌≢◌, ℕ, zero, suc, List, [], Option, refl, sym, ap, ◌∙◌, subst, append-nil, add-one}
use Rattle.std.specs.List.{All}
use Rattle.std.proofs.lemmas.List.Elements.{All-get_or}
use Rattle.std.proofs.lemmas.Option.{slice_get_within, get_or_from_slice_get}
use Rattle.lg_base.specs.Runs.{Status, Running, IsPrefixOf, iter}
use Rattle.lg_op.specs.Nodes.{InForm}
use Rattle.lg_op.specs.declared.operand.Label.{Label}
use Rattle.lg_node.specs.Nodes.{LabelledNodes}
use Rattle.lg_node.specs.Shapes.{TextShape, IsShapeOf}
use Rattle.lg_node.specs.ShapeLaws.{IsWellShaped, HasFunctions}
use Rattle.lg_meaning.specs.States.{State}
use Rattle.lg_meaning.specs.Steps.{Outcome, Goes}
use Rattle.lg_meaning.specs.Texts.{step}
use Rattle.lg_meaning.specs.Fits.{FitsWell}
use Rattle.lg_meaning.specs.Starts.{Entry, MayEnter, begins_at, MayBegin, entered_state}
use Rattle.lg_meaning.specs.Means.{Run, behind, going_on, run_step, mean_from}
use Rattle.lg_meaning.specs.Laws.{IsFormedAt, MeansAreMachines, StepsAreMeans}
use Rattle.lg_meaning.proofs.KeepLemmas.{steps_fit}
use Rattle.lg_meaning.proofs.StartLemmas.{start_fits}

module _ (f : State → Outcome) where
  -- by how the run is
  stays : (r : Run) (status : Status) → r.status ≡ status → status ≢ Running → run_step f r ≡ r
  stays r Running e h = absurd (h refl)
  stays r _ e h = ap (λ t. going_on t (behind r (f r.state)) r) e

  goes : (r : Run) → r.status ≡ Running → run_step f r ≡ behind r (f r.state)
  goes r e = ap (λ t. going_on t (behind r (f r.state)) r) e

  -- by the outcome of a step
  longer : (r : Run) (o : Outcome) → IsPrefixOf r.out (behind r o).out
  longer r (Goes t bytes) = (bytes, refl)
  longer r _ = ([], append-nil r.out)

  silent : (r : Run) (o : Outcome) → (behind r o).status ≢ Running → (behind r o).out ≡ r.out
  silent r (Goes t bytes) h = absurd (h refl)
  silent r _ h = refl

  writes : (r : Run) (status : Status) → r.status ≡ status → IsPrefixOf r.out (run_step f r).out
  writes r Running e = subst (λ (t : Run). IsPrefixOf r.out t.out) (sym (goes r e)) (longer r (f r.state))
  writes r x e = ([], append-nil r.out ∙ sym (ap (λ t. t.out) (stays r x e (λ h. cc))))

  ends_silently : (r : Run) (status : Status) → r.status ≡ status → (run_step f r).status ≢ Running → (run_step f r).out ≡ r.out
  ends_silently r Running e h = ap (λ t. t.out) (goes r e) ∙ silent r (f r.state) (λ g. h (ap (λ t. t.status) (goes r e) ∙ g))
  ends_silently r x e h = ap (λ t. t.out) (stays r x e (λ g. cc))

pub means_are_machines : MeansAreMachines
means_are_machines l shape A = (
  record {
    stays = λ r h. stays (step l shape A) r r.status refl h;
    writes = λ r. writes (step l shape A) r r.status refl;
  },
  record { silent_end = λ r h. ends_silently (step l shape A) r r.status refl h },
)

pub steps_are_means : StepsAreMeans
unfolding iter
steps_are_means l shape A start s out k e = rw add-one (ap (run_step (step l shape A)) e)

-- ---- what each step keeps
module _ (l : LabelledNodes) (shape : TextShape) (A : List ℕ) (P : State → Type 0) (keeps : (s t : State) (bytes : List ℕ) → P s → step l shape A s ≡ Goes t bytes → P t) where
  by_outcome : (r : Run) (o : Outcome) → step l shape A r.state ≡ o → P r.state → P (behind r o).state
  by_outcome r (Goes t bytes) e h = keeps r.state t bytes h e
  by_outcome r _ e h = h

  by_status : (r : Run) (status : Status) → r.status ≡ status → P r.state → P (run_step (step l shape A) r).state
  by_status r Running e h = subst (λ (t : Run). P t.state) (sym (goes (step l shape A) r e)) (by_outcome r (step l shape A r.state) refl h)
  by_status r x e h = subst (λ (t : Run). P t.state) (sym (stays (step l shape A) r x e (λ g. cc))) h

  pub always : (start : State) → P start → (k : ℕ) → P (mean_from l shape A start k).state
  unfolding iter
  always start h zero = h
  always start h (suc k) = by_status (mean_from l shape A start k) (mean_from l shape A start k).status refl (always start h k)

-- ---- the fit
module _ (l : LabelledNodes) (shape : TextShape) (A : List ℕ) (is : IsShapeOf l shape) (w : IsWellShaped l) (has : HasFunctions l) (formed : All InForm l.nodes) where
  pub formed_at : (i : ℕ) → IsFormedAt l i
  formed_at i n e = subst InForm (get_or_from_slice_get l.nodes i n n e) (All-get_or InForm l.nodes i n (slice_get_within l.nodes i n e) formed)

  pub mean_fits : (e : Entry) (b : Option Label) → MayEnter e → MayBegin l b → (k : ℕ) → FitsWell l shape (mean_from l shape A (entered_state e (begins_at l b)) k).state
  mean_fits e b may begins k = always l shape A (FitsWell l shape) (λ s t bytes well f. steps_fit l shape A s t bytes is w has (formed_at s.at) well f) (entered_state e (begins_at l b)) (start_fits l shape is w has e may b begins) k
