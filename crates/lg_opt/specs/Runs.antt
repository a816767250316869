-- What the rewritings promise of runs.
use Rattle.std.specs.Prelude.{◌≡◌, ℕ, Bool, true, List, [], slice_get}
use Rattle.lg_node.specs.Nodes.{LabelledNodes}
use Rattle.lg_node.specs.Shapes.{TextShape}
use Rattle.lg_meaning.specs.Means.{run_at, machine}
use Rattle.lg_meaning.specs.States.{State}
use Rattle.lg_carry.specs.Carries.{leaps_at}
use Rattle.lg_opt.specs.Drops.{Drops, Threads}
use Rattle.lg_opt.specs.Rewritten.{at, is_loud, RemembersAlike, MeaningIsFollowed}
use Rattle.lg_opt.specs.Hops.{jump_at}

-- the run of the new nodes from one state steps where that of the old ones from another is at a node that stays; each branch, jump, call or return stays, as one of them
pub record AreDropped (l : LabelledNodes) (shape : TextShape) (m : LabelledNodes) (new_shape : TextShape) (addresses : List ℕ) (s t : State) : Type 0 where
  pub j : ℕ → ℕ
  pub stays : ℕ → Bool
  pub to : ℕ → ℕ
  pub drops : Drops (machine l shape addresses) (machine m new_shape addresses) (run_at s []) (run_at t [])
      j at at stays to
  pub memory : RemembersAlike l shape m new_shape addresses s t j
  pub leaps : (i : ℕ) → leaps_at (slice_get l.nodes i) ≡ true → (stays i ≡ true) × (leaps_at (slice_get m.nodes (to i)) ≡ true)

-- the run of the new nodes follows that of the old ones and turns with it, and steps at each node that is no jump
pub record AreThreaded (l : LabelledNodes) (shape : TextShape) (m : LabelledNodes) (new_shape : TextShape) (addresses : List ℕ) (s t : State) : Type 0 where
  pub j : ℕ → ℕ
  pub threads : Threads (machine l shape addresses) (machine m new_shape addresses) (run_at s []) (run_at t [])
      j at (jump_at l) (λ i. leaps_at (slice_get l.nodes i)) (is_loud m)
  pub memory : RemembersAlike l shape m new_shape addresses s t j

-- nodes dropped twice are dropped
abbrev pub DroppedTwiceAreDropped : Type 0
DroppedTwiceAreDropped =
    (l m n : LabelledNodes) (shape middle_shape new_shape : TextShape) (addresses : List ℕ) (s t u : State)
    → AreDropped l shape m middle_shape addresses s t → AreDropped m middle_shape n new_shape addresses t u
    → AreDropped l shape n new_shape addresses s u

-- nodes dropped, and then jumps threaded: the run of the last nodes follows that of the first, and turns with it
abbrev pub DroppedAndThreadedAreFollowed : Type 0
DroppedAndThreadedAreFollowed =
    (l m n : LabelledNodes) (shape middle_shape new_shape : TextShape) (addresses : List ℕ) (s t u : State)
    → AreDropped l shape m middle_shape addresses s t → AreThreaded m middle_shape n new_shape addresses t u
    → MeaningIsFollowed l shape n new_shape addresses s u
