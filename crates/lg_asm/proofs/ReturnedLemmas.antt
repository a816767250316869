-- A run that has ended with control at the return address has returned.
use Rattle.std.proofs.Common.{◌≡◌, inl, inr, ⊎_elim, ℕ, zero, suc, List, [], Option, Some, refl, sym, ap, ◌∙◌, subst}
use Rattle.lg_base.specs.HostNames.{host_by_address}
use Rattle.lg_base.specs.Layout.{stop_address}
use Rattle.lg_base.specs.declared.host_name.HostName.{HostName}
use Rattle.lg_base.specs.declared.target.Target.{Target}
use Rattle.lg_cpu.specs.States.{CpuState}
use Rattle.lg_cpu.specs.Steps.{Run}
use Rattle.lg_node.specs.Nodes.{LabelledNodes}
use Rattle.lg_node.specs.Shapes.{TextShape}
use Rattle.lg_base.specs.Runs.{Machine, Status, Running, Ended, Bad, iter}
use Rattle.lg_temp.specs.Paces.{EndsAlike}
use Rattle.lg_meaning.specs.Means as mean
use Rattle.lg_meaning.specs.States.{State}
use Rattle.lg_meaning.specs.Steps.{Outcome, Goes, Ends, Undefined, Ending, Exited, Left}
use Rattle.lg_meaning.specs.Texts.{step}
use Rattle.lg_asm.specs.Called.{run_of, HasReturned, EndsAsMeant, ReturnsAsMeant}

-- a run of the meaning that has ended knows how
abbrev KnowsItsEnd : mean.Run → Type 0
KnowsItsEnd r = (status : ℕ) → r.status ≡ Ended status → (e : Ending) × (mean.ending_of r ≡ Some e)

after-outcome : (r : mean.Run) (o : Outcome) → KnowsItsEnd (mean.behind r o)
after-outcome r (Goes t bytes) status e = cc
after-outcome r (Ends end) status e = (end, refl)
after-outcome r Undefined status e = cc

after-step : (f : State → Outcome) (r : mean.Run) → KnowsItsEnd r → KnowsItsEnd (mean.run_step f r)
after-step f r known = by r.status refl
  where
    same : (t : Status) → r.status ≡ t → mean.run_step f r ≡ mean.going_on t (mean.behind r (f r.state)) r
    same t e = ap (λ s. mean.going_on s (mean.behind r (f r.state)) r) e

    by : (t : Status) → r.status ≡ t → KnowsItsEnd (mean.run_step f r)
    by Running e = subst KnowsItsEnd (sym (same Running e)) (after-outcome r (f r.state))
    by (Ended status) e = subst KnowsItsEnd (sym (same (Ended status) e)) known
    by Bad e = subst KnowsItsEnd (sym (same Bad e)) known

module _ (l : LabelledNodes) (shape : TextShape) (addresses : List ℕ) (start : State) where
  abbrev at : ℕ → mean.Run
  at k = iter (mean.machine l shape addresses).step k (mean.run_at start [])

  knows : (k : ℕ) → KnowsItsEnd (at k)
  unfolding iter
  knows zero = at-start
    where
      at-start : KnowsItsEnd (mean.run_at start [])
      at-start status e = cc
  knows (suc k) = after-step (step l shape addresses) (at k) (knows k)

  pub returns-as-meant : (processor : Machine (Run CpuState)) (target : Target) (sp : ℕ) (q : CpuState)
      → EndsAlike (mean.machine l shape addresses) processor (EndsAsMeant target sp q) (mean.run_at start []) (run_of q)
      → ReturnsAsMeant (mean.machine l shape addresses) processor target sp q (mean.run_at start [])
  returns-as-meant processor target sp q ends n status ended here =
      let x = ends n status ended in
      (x.0, ⊎_elim (λ a. inl (by x.0 a.1 (knows x.0 status a.0).0 (knows x.0 status a.0).1)) (λ bad. inr bad) x.1)
    where
      no-host : (name : HostName) → host_by_address stop_address ≡ Some name → ⊥
      no-host name e = cc

      by : (k : ℕ) → EndsAsMeant target sp q (at k) (iter processor.step n (run_of q)) → (e : Ending) → mean.ending_of (at k) ≡ Some e
          → (answer : Option ℕ) × (mean.ending_of (at k) ≡ Some (Left answer)) × HasReturned target sp q answer (iter processor.step n (run_of q)).state
      by k a (Left answer) e = (answer, e, a.returned answer e)
      by k a (Exited s) e = let h = a.exited s e in absurd (no-host h.0 (ap host_by_address (sym here) ∙ h.1))
