-- What holds of runs of rewritten nodes.
use Rattle.std.specs.Prelude.{◌≡◌, ℕ, suc, ◌<◌, ◌&&◌, Bool, true, false}
use Rattle.lg_base.specs.Runs.{Running, Machine, iter}
use Rattle.lg_temp.specs.Agrees.{AgreesAt}
use Rattle.lg_opt.specs.Follows.{Follows, LooksAlike, Turns, IsFollowed}
use Rattle.lg_opt.specs.Drops.{Drops, Threads, Threading, JumpsQuietly}
use Rattle.lg_opt.specs.Loud.{StandsAlike, CarriesLoud}

-- every node that is dropped in the end only fell through, in the old nodes too
pub record FallsThrough {P : Type 0} (old : Machine P) (p : P) (at : P → ℕ) (stays : ℕ → Bool) : Type 0 where
  pub leaps : ℕ → Bool
  pub falls : (k : ℕ) → leaps (at (iter old.step k p)) ≡ false → old.status (iter old.step (suc k) p) ≡ Running
      → at (iter old.step (suc k) p) ≡ suc (at (iter old.step k p))
  pub dropped : (i : ℕ) → stays i ≡ false → leaps i ≡ false

-- nodes dropped twice are dropped
abbrev pub DropsJoin : {P M N : Type 0} → Machine P → Machine M → Machine N → (P → ℕ) → (M → ℕ) → (N → ℕ) → Type 0
DropsJoin {P} {M} {N} old middle new at place last =
    (p : P) (m : M) (n : N) (j1 j2 : ℕ → ℕ) (stays1 stays2 : ℕ → Bool) (to1 to2 : ℕ → ℕ)
    → Drops old middle p m j1 at place stays1 to1 → Drops middle new m n j2 place last stays2 to2
    → FallsThrough old p at (λ i. stays1 i && stays2 (to1 i))
    → Drops old new p n (λ k. j2 (j1 k)) at last (λ i. stays1 i && stays2 (to1 i)) (λ i. to2 (to1 i))

-- runs that look alike, one after the other, look alike
abbrev pub LooksJoin : {P M N A : Type 0} → Machine P → Machine M → Machine N → (P → A) → (M → A) → (N → A) → Type 0
LooksJoin {P} {M} {N} old middle new look view see =
    (p : P) (m : M) (n : N) (j1 j2 : ℕ → ℕ) → Follows old middle p m j1 → LooksAlike old middle p m j1 look view → LooksAlike middle new m n j2 view see
    → LooksAlike old new p n (λ k. j2 (j1 k)) look see

-- nodes dropped, and then jumps threaded: the last run follows the first, and turns with it; and it looks as the first does, where both others do and
-- jumps change nothing that is looked at
abbrev pub DropsAndThreadsAreFollowed : {P M N A : Type 0} → Machine P → Machine M → Machine N → (P → ℕ) → (M → ℕ) → (N → Bool)
    → (P → A) → (M → A) → (N → A) → Type 0
DropsAndThreadsAreFollowed {P} {M} {N} old middle new at place loud look view see =
    (p : P) (m : M) (n : N) (j1 j2 : ℕ → ℕ) (stays jump leap : ℕ → Bool) (to : ℕ → ℕ)
    → Drops old middle p m j1 at place stays to → Threads middle new m n j2 place jump leap loud → JumpsQuietly middle place jump
    → ((x : M) → jump (place x) ≡ true → view (middle.step x) ≡ view x)
    → LooksAlike old middle p m j1 look view → LooksAlike middle new m n j2 view see
    → (followed : IsFollowed old new p n at loud) × LooksAlike old new p n followed.j look see

-- what threading brings step by step makes it turn
abbrev pub ThreadingTurns : {P N : Type 0} → Machine P → Machine N → (P → ℕ) → (N → ℕ) → (N → Bool) → Type 0
ThreadingTurns {P} {N} old new at place loud =
    (p : P) (n : N) (j : ℕ → ℕ) (jump leap turning stays : ℕ → Bool) (to goal depth : ℕ → ℕ)
    → Threading old new p n j at place jump leap turning stays to goal depth loud
    → Turns old new p n j at loud

-- the run of the code of new nodes agrees with that of the old ones, with the number of the old nodes in the bound
abbrev pub FollowedRunsAgree : {P N Q : Type 0} → Machine P → Machine N → Machine Q → (P → ℕ) → (N → Bool) → (N → Q → Type 0) → Type 0
FollowedRunsAgree {P} {N} {Q} old new processor at loud stands =
    (p : P) (n : N) (q : Q) (nodes steps : ℕ)
    → IsFollowed old new p n at loud → ((k : ℕ) → at (iter old.step k p) < nodes)
    → ((m : N) (r : Q) → stands m r → StandsAlike new processor m r)
    → ((m : N) (r : Q) → stands m r → CarriesLoud new processor stands loud m r)
    → old.status p ≡ Running → stands n q
    → AgreesAt old processor nodes p q steps
