-- Whatever changes below the stack pointer between two instructions, the code agrees with the portable meaning.
use Rattle.std.proofs.Common.{◌≡◌, ◌≢◌, ℕ, inl, inr, Bool, List, [], refl, sym, ◌∙◌, ⊎_elim, append-nil}
use Rattle.lg_base.specs.Runs.{Status, Running, Ended, Bad, IsMachine, IsPrefixOf}
use Rattle.lg_carry.proofs.MeaningLemmas.{code-agrees}
use Rattle.lg_carry.specs.Carries.{Leads, Carries}
use Rattle.lg_carry.specs.FinalNodes.{Code}
use Rattle.lg_carry.specs.Places.{ArePassedFew}
use Rattle.lg_carry.specs.Processors.{Processor}
use Rattle.lg_carry.specs.Stands.{Stands}
use Rattle.lg_meaning.specs.States.{State}
use Rattle.lg_meaning.specs.Texts.{step}
use Rattle.lg_carry.specs.Disturbed.{IsDisturber, next_of, disturbed, Patches}
use Rattle.lg_carry.specs.Undisturbed.{HoldsUp, Withstands, DisturbedCodeAgrees}
use Rattle.lg_carry.proofs.DisturbedLemmas.{steady-leads}
use Rattle.lg_carry.proofs.SinkingLemmas.{sinking-leads}

module _ {Q : Type 0} (P : Processor Q) (d : ℕ → Q → Q) (disturbs : IsDisturber P d) where
  -- a run that is over stays, and what is written stays written
  pub disturbed-is-machine : IsMachine P.machine → IsMachine (disturbed P d).machine
  disturbed-is-machine m = record { stays = λ x h. stays x (P.machine.status x.0) refl h; writes = λ x. writes x (P.machine.status x.0) }
    where
      stays : (x : Q × ℕ) (z : Status) → P.machine.status x.0 ≡ z → P.machine.status x.0 ≢ Running → next_of P d z x ≡ x
      stays x Running e h = absurd (h e)
      stays x (Ended status) e h = refl
      stays x Bad e h = refl

      writes : (x : Q × ℕ) (z : Status) → IsPrefixOf (P.machine.out x.0) (P.machine.out (next_of P d z x).0)
      writes x Running = let w = m.writes x.0 in (w.0, w.1 ∙ sym (disturbs x.1 (P.machine.step x.0)).out)
      writes x (Ended status) = ([], append-nil (P.machine.out x.0))
      writes x Bad = ([], append-nil (P.machine.out x.0))

  module _ (c : Code) (before : ℕ → ℕ → Bool) (pt : Patches P) (few : ArePassedFew c.nodes.nodes) where
    pub withstands-carries : (i : ℕ) → Withstands P c before i → Carries (disturbed P d) c before i
    withstands-carries i w = record {
      order = w.order;
      short = w.short;
      carries = λ s out x at st.
          let st' : Stands P c (λ f. before f.back) s out x.0 (before i) = record { runs = st.runs; wrote = st.wrote; state = st.state } in
          ⊎_elim (λ u. inl u) (λ h. inr (leads s out x st' h)) (w.holds s out x.0 at st');
    }
      where
        leads : (s : State) (out : List ℕ) (x : Q × ℕ) → Stands P c (λ f. before f.back) s out x.0 (before i)
            → HoldsUp P c (λ f. before f.back) (λ t. before t.at) i s (before i) out x.0
            → Leads (disturbed P d) c (λ f. before f.back) (λ t. before t.at) i (step c.nodes c.shape c.addresses s) out x
        leads s out x st (inl h) = steady-leads P d c (λ f. before f.back) (λ t. before t.at) i _ out x.0 x.1 disturbs few st.state.seen h.0 h.1
        leads s out x st (inr h) = sinking-leads P d c (λ f. before f.back) (λ t. before t.at) i s (before i) _ out x.1 x.0 pt disturbs few h.0 w.apart st h.1

pub disturbed-agrees : {Q : Type 0} (P : Processor Q) → DisturbedCodeAgrees P
disturbed-agrees P d c before s q k n pt disturbs machine few nodes st =
    code-agrees (disturbed P d) c before s (q, k) n (disturbed-is-machine P d disturbs machine) (λ i lt. withstands-carries P d disturbs c before pt few i (nodes i lt))
    record { runs = st.runs; wrote = st.wrote; state = st.state }
