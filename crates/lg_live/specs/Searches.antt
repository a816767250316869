-- How a search goes on.
use Rattle.std.specs.Prelude.{◌≡◌, ◌⊎◌, ℕ, ◌+◌, ◌-◌, ◌*◌, ◌<◌, ◌≤◌, true, false, List, Some, None, length, slice_get}
use Rattle.std.specs.List.{sum_by, All}
use Rattle.lg_op.specs.declared.operand.Reg.{Reg}
use Rattle.lg_live.specs.RegSets.{has}
use Rattle.lg_live.specs.declared.reg_set.RegSet.{RegSet}
use Rattle.lg_live.specs.declared.point.Point.{Point}
use Rattle.lg_live.specs.declared.search.Search.{Search}
use Rattle.lg_live.specs.Graphs.{point_at, passes, set_at, IsArc, IsWanted}

-- the sets found so far, and the points whose sets grew, in that order
pub record State : Type 0 where
  pub sets : List RegSet
  pub queue : List ℕ

abbrev pub state_of : Search → State
state_of s = record { sets = s.sets.items; queue = s.queue.items }

-- a point is in a queue at this place or after it
pub record IsQueued (queue : List ℕ) (from point : ℕ) : Type 0 where
  pub place : ℕ
  pub behind : from ≤ place
  pub here : slice_get queue place ≡ Some point

-- how much a search can still do at most
abbrev pub weight : State → ℕ
weight s = 2 * sum_by (λ set. 256 - set.0) s.sets + length s.queue

-- sets grow, the points whose sets grew are queued, and the search comes nearer to its end
pub record Grows (a b : State) : Type 0 where
  pub count : length b.sets ≡ length a.sets
  pub sets : (i : ℕ) (r : Reg) → has (set_at a.sets i) r ≡ true → has (set_at b.sets i) r ≡ true
  pub longer : length a.queue ≤ length b.queue
  pub queue : (j k : ℕ) → slice_get a.queue j ≡ Some k → slice_get b.queue j ≡ Some k
  pub queued : (i : ℕ) → (set_at b.sets i ≡ set_at a.sets i) ⊎ IsQueued b.queue (length a.queue) i
  pub weight : weight b ≤ weight a
  pub within : All (λ k. k < length a.sets) a.queue → All (λ k. k < length a.sets) b.queue

-- only registers that are required are in the sets
abbrev pub IsSound : List Point → State → Type 0
IsSound points s = (i : ℕ) (r : Reg) → has (set_at s.sets i) r ≡ true → IsWanted points r i

-- these registers are required at a point
abbrev pub AreWantedAt : List Point → RegSet → ℕ → Type 0
AreWantedAt points set i = (r : Reg) → has set r ≡ true → IsWanted points r i

-- where only required registers are in the sets, and these are required at a point, only required ones are in these sets
abbrev pub StaysSound : List Point → RegSet → ℕ → State → State → Type 0
StaysSound points more point a b = IsSound points a → AreWantedAt points more point → IsSound points b

-- these registers are in the set of a point, but for those that the point writes
abbrev pub HasPassed : List Point → RegSet → State → ℕ → Type 0
HasPassed points set s i = (r : Reg) → passes (point_at points i) (has set) r ≡ true → has (set_at s.sets i) r ≡ true

-- from these registers of a point those that lead to it have theirs
abbrev pub HasSpread : List Point → ℕ → RegSet → State → Type 0
HasSpread points k set s = (i : ℕ) → IsArc points i k → HasPassed points set s i

-- a search that looks at the points of its queue from this place on: what is required at the others has been passed on
pub record IsSearching (points : List Point) (count from : ℕ) (s : State) : Type 0 where
  pub all : length s.sets ≡ count
  pub sound : IsSound points s
  pub within : All (λ k. k < count) s.queue
  pub reads : (i : ℕ) (r : Reg) → has (point_at points i).reads r ≡ true → has (set_at s.sets i) r ≡ true
  pub settled : (k : ℕ) → IsQueued s.queue from k ⊎ HasSpread points k (set_at s.sets k) s

-- one point leads to another by falling or jumping
abbrev pub IsStep : List Point → ℕ → ℕ → Type 0
IsStep points i k = (((point_at points i).falls ≡ true) × (k ≡ i + 1)) ⊎ ((point_at points i).jumps ≡ Some k)

-- no gate leads to a point, and no point from it on jumps to it
pub record IsUnmet (points : List Point) (k : ℕ) : Type 0 where
  pub joins : (point_at points k).joins ≡ None
  pub jumps : (i : ℕ) → k ≤ i → (point_at points i).jumps ≡ Some k → ⊥

-- nothing is in the set of a point
abbrev pub IsEmptyAt : State → ℕ → Type 0
IsEmptyAt s k = (r : Reg) → has (set_at s.sets k) r ≡ false

-- a search that went from the last point back to this one: what is required at each has been passed on to those, from this one on, that fall or jump to it,
-- and it is queued where others may require it
pub record IsSwept (points : List Point) (count from : ℕ) (s : State) : Type 0 where
  pub all : length s.sets ≡ count
  pub sound : IsSound points s
  pub within : All (λ k. k < count) s.queue
  pub reads : (i : ℕ) (r : Reg) → from ≤ i → has (point_at points i).reads r ≡ true → has (set_at s.sets i) r ≡ true
  pub before : (i : ℕ) → i < from → IsEmptyAt s i
  pub joined : (k i : ℕ) → (point_at points k).joins ≡ Some i → IsQueued s.queue 0 k ⊎ IsEmptyAt s k
  pub settled : (k : ℕ) → IsQueued s.queue 0 k ⊎ ((i : ℕ) → from ≤ i → IsStep points i k → HasPassed points (set_at s.sets k) s i)
