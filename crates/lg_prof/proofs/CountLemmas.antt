-- One more step of the meaning, by its outcome.
use Rattle.std.proofs.Common.{◌≡◌, ◌≢◌, ℕ, suc, ◌+◌, ◌<◌, ◌≤◌, true, false, List, [], Option, Some, None, inl, inr, refl, sym, ap, ◌∙◌, add-one, arith}
use Rattle.std.specs.Prelude.{not, ◌&&◌, slice_get}
use Rattle.std.proofs.lemmas.Bool.{cases_lt}
use Rattle.lg_base.specs.Runs.{Status, Running, Ended, Bad}
use Rattle.lg_node.specs.Nodes.{LabelledNodes}
use Rattle.lg_node.specs.Shapes.{TextShape}
use Rattle.lg_meaning.specs.States.{State}
use Rattle.lg_meaning.specs.Means.{Run, machine, mean_from, run_at}
use Rattle.lg_meaning.proofs.MeanLemmas.{means_are_machines}
use Rattle.lg_temp.proofs.Steps.{iter-after}
use Rattle.lg_meaning.specs.Texts.{line_of}
use Rattle.lg_op.specs.declared.node.Node.{Node}
use Rattle.lg_prof.specs.Tallies.{AreBelow}
use Rattle.lg_prof.specs.Counts.{has_meant, is_bad, is_running, meant_line}

module _ (meaning : ℕ → Run) (k : ℕ) where
  made_by : (a b : Status) → (meaning k).status ≡ a → (meaning (k + 1)).status ≡ b → has_meant meaning k ≡ (is_running a && not (is_bad b))
  made_by a b here next =
      ap (λ s. is_running s && not (is_bad (meaning (suc k)).status)) here
      ∙ ap (λ j. is_running a && not (is_bad (meaning j).status)) (sym (add-one k))
      ∙ ap (λ s. is_running a && not (is_bad s)) next

  pub went : (meaning k).status ≡ Running → (meaning (k + 1)).status ≡ Running → has_meant meaning k ≡ true
  went = made_by Running Running

  pub ended : (status : ℕ) → (meaning k).status ≡ Running → (meaning (k + 1)).status ≡ Ended status → has_meant meaning k ≡ true
  ended status = made_by Running (Ended status)

  pub undefined : (meaning k).status ≡ Running → (meaning (k + 1)).status ≡ Bad → has_meant meaning k ≡ false
  undefined = made_by Running Bad

  -- a run that is over makes no step
  pub over : (meaning k).status ≢ Running → has_meant meaning k ≡ false
  over not_running = at (meaning k).status refl
    where
      at : (s : Status) → (meaning k).status ≡ s → has_meant meaning k ≡ false
      at Running e = absurd (not_running e)
      at (Ended status) e = ap (λ s. is_running s && not (is_bad (meaning (suc k)).status)) e
      at Bad e = ap (λ s. is_running s && not (is_bad (meaning (suc k)).status)) e

-- and none later
pub over_later : (l : LabelledNodes) (shape : TextShape) (A : List ℕ) (start : State) (n : ℕ) → (mean_from l shape A start n).status ≢ Running
    → (k : ℕ) → n ≤ k → has_meant (mean_from l shape A start) k ≡ false
over_later l shape A start n not_running k le =
    let stays = iter-after (machine l shape A) (means_are_machines l shape A).0 n k (run_at start []) le not_running in
    over (mean_from l shape A start) k (λ e. not_running (sym (ap (λ (r : Run). r.status) stays) ∙ e))

pub ended_is_over : (s : Status) (status : ℕ) → s ≡ Ended status → s ≢ Running
ended_is_over s status e is = cc

pub bad_is_over : (s : Status) → s ≡ Bad → s ≢ Running
bad_is_over s e is = cc

-- a line of a node is below a number that is above the lines of all
pub meant_below : (l : LabelledNodes) (meaning : ℕ → Run) (top k : ℕ) → 0 < top → AreBelow l.nodes top → meant_line l meaning k < top
meant_below l meaning top k some below = at (slice_get l.nodes (meaning k).state.at) refl
  where
    at : (o : Option Node) → slice_get l.nodes (meaning k).state.at ≡ o → line_of o < top
    at None e = some
    at (Some n) e = below (meaning k).state.at n e

-- an undefined step is not made, and no step after it
pub undefined_later : (l : LabelledNodes) (shape : TextShape) (A : List ℕ) (start : State) (n : ℕ) → (mean_from l shape A start n).status ≡ Running
    → (mean_from l shape A start (n + 1)).status ≡ Bad → (k : ℕ) → n ≤ k → has_meant (mean_from l shape A start) k ≡ false
undefined_later l shape A start n here next k le = elim (cases_lt n k) [
  | inl less ↦ over_later l shape A start (n + 1) (bad_is_over (mean_from l shape A start (n + 1)).status next) k (omega (arith, less))
  | inr other ↦
      let same : k ≡ n = omega (arith, le, other) in
      ap (has_meant (mean_from l shape A start)) same ∙ undefined (mean_from l shape A start) n here next
]
