-- The last of the labels that have an address, label by label.
use Rattle.std.proofs.Common.{◌≡◌, ℕ, ◌+◌, suc, Bool, List, Option, None, refl, arith}
use Rattle.lg_node.specs.declared.place.Place.{Place}
use Rattle.lg_meaning.specs.Steps.{later, landing, last_landing}

pub last_landing-none : (test : ℕ → ℕ → Bool) (places : List (Option Place)) (A : List ℕ) (w : ℕ) → None ≡ last_landing test places A w 0
unfolding last_landing
last_landing-none test places A w = refl

pub last_landing-next : (test : ℕ → ℕ → Bool) (places : List (Option Place)) (A : List ℕ) (w l : ℕ) → last_landing test places A w (l + 1) ≡ later (landing test places A w l) (last_landing test places A w l)
unfolding last_landing
last_landing-next test places A w l = let e : l + 1 ≡ suc l = omega arith in rw e refl
