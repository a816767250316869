-- Two runs side by side, the second of which rests at some steps of the first.
use Rattle.std.specs.Prelude.{◌≡◌, ℕ, zero, suc, Bool, true, false, cond, List, []}
use Rattle.lg_node.specs.Nodes.{LabelledNodes}
use Rattle.lg_node.specs.Shapes.{TextShape}
use Rattle.lg_meaning.specs.States.{State}
use Rattle.lg_meaning.specs.Steps.{Outcome, Goes, Undefined}
use Rattle.lg_meaning.specs.Texts.{step}
use Rattle.lg_meaning.specs.Means.{mean_from}
use Rattle.lg_opt.specs.Renumbered.{Alike, Meets}

-- two texts with their shapes, and addresses of their labels
pub record Pair : Type 0 where
  pub old : LabelledNodes
  pub old_shape : TextShape
  pub new : LabelledNodes
  pub new_shape : TextShape
  pub addresses : List ℕ

abbrev pub old_step : Pair → State → Outcome
old_step p s = step p.old p.old_shape p.addresses s

abbrev pub new_step : Pair → State → Outcome
new_step p s = step p.new p.new_shape p.addresses s

-- how many steps the new run has made after k steps of the old one, where it moves at these pairs of states
abbrev pub moves_made : Pair → (State → State → Bool) → State → State → ℕ → ℕ
moves_made p moves s m zero = 0
moves_made p moves s m (suc k) =
    let j = moves_made p moves s m k in
    cond (moves (mean_from p.old p.old_shape p.addresses s k).state (mean_from p.new p.new_shape p.addresses m j).state) (suc j) j

-- a step of the old run at which the new one rests is undefined, or leads to a state for which the new one stands
abbrev pub RestsAt : (State → State → Type 0) → Outcome → State → Type 0
RestsAt R (Goes t []) m = R t m
RestsAt R Undefined m = Unit {0}
RestsAt R o m = ⊥

-- states that correspond to each other do so after a step, and after one at which the new run rests; Good holds of the states of the old run
pub record AreStepped (p : Pair) (Good : State → Type 0) (R : State → State → Type 0) (moves : State → State → Bool) : Type 0 where
  pub meets : (s m : State) → Good s → R s m → moves s m ≡ true → Meets R (old_step p s) (new_step p m)
  pub rests : (s m : State) → Good s → R s m → moves s m ≡ false → RestsAt R (old_step p s) m

-- states of nodes some of which were dropped
abbrev pub Dropped : (ℕ → ℕ) → State → State → Type 0
Dropped number = Alike number (λ k n. n ≡ number k)
