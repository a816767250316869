-- Nodes some of which were dropped, and then threaded.
use Rattle.std.proofs.Common.{◌≡◌, ℕ, true, [], List, refl, sym, ap, ◌∙◌, append-nil}
use Rattle.std.specs.Prelude.{slice_get}
use Rattle.lg_base.specs.Runs.{Status, Running, Ended, Bad}
use Rattle.lg_node.specs.Nodes.{LabelledNodes}
use Rattle.lg_node.specs.Shapes.{TextShape}
use Rattle.lg_carry.specs.Carries.{leaps_at}
use Rattle.lg_meaning.specs.Means.{ending_in, Run, behind, run_at, run_step, machine}
use Rattle.lg_meaning.specs.Texts.{step}
use Rattle.lg_meaning.proofs.MeanLemmas.{means_are_machines}
use Rattle.lg_opt.specs.Drops.{JumpsQuietly}
use Rattle.lg_opt.proofs.LawLemmas.{followed}
use Rattle.lg_opt.specs.Rewritten.{at, is_loud, memory_in, memory_of}
use Rattle.lg_opt.specs.Hops.{jump_at}
use Rattle.lg_opt.specs.Runs.{DroppedAndThreadedAreFollowed}
use Rattle.lg_opt.proofs.RunLemmas.{goes, stays, stays-bad}
use Rattle.lg_opt.proofs.ThreadRunLemmas.{old-jump}

-- a jump changes neither status nor output
quiet : (l : LabelledNodes) (shape : TextShape) (addresses : List ℕ) → JumpsQuietly (machine l shape addresses) at (jump_at l)
quiet l shape addresses r e = by r.status refl
  where
    by : (t : Status) → r.status ≡ t → ((run_step (step l shape addresses) r).status ≡ r.status) × ((run_step (step l shape addresses) r).out ≡ r.out)
    by Running f =
        let one = goes (step l shape addresses) r f ∙ ap (behind r) (old-jump l shape addresses r.state e) in
        (ap (λ x. x.status) one ∙ sym f, ap (λ x. x.out) one ∙ append-nil r.out)
    by (Ended c) f = let one = stays (step l shape addresses) r c f in (ap (λ x. x.status) one, ap (λ x. x.out) one)
    by Bad f = let one = stays-bad (step l shape addresses) r f in (ap (λ x. x.status) one, ap (λ x. x.out) one)

-- nor the memory
keeps-memory : (l : LabelledNodes) (shape : TextShape) (addresses : List ℕ) (r : Run) → jump_at l (at r) ≡ true → memory_of (run_step (step l shape addresses) r) ≡ memory_of r
keeps-memory l shape addresses r e = by r.status refl
  where
    by : (t : Status) → r.status ≡ t → memory_of (run_step (step l shape addresses) r) ≡ memory_of r
    by Running f = ap memory_of (goes (step l shape addresses) r f ∙ ap (behind r) (old-jump l shape addresses r.state e)) ∙ sym (ap (λ t. (memory_in r.state, ending_in t r.ending)) f)
    by (Ended c) f = ap memory_of (stays (step l shape addresses) r c f)
    by Bad f = ap memory_of (stays-bad (step l shape addresses) r f)

pub law : DroppedAndThreadedAreFollowed
law l m n shape middle_shape new_shape A s0 t0 u0 d t =
    followed (machine l shape A) (machine m middle_shape A) (machine n new_shape A) at at (means_are_machines l shape A).0 (is_loud n) memory_of memory_of memory_of
    (run_at s0 []) (run_at t0 []) (run_at u0 []) d.j t.j d.stays (jump_at m) (λ i. leaps_at (slice_get m.nodes i)) d.to
    d.drops t.threads (quiet m middle_shape A) (keeps-memory m middle_shape A) d.memory t.memory
