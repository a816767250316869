-- For each point the points that jump to it, from the last to the first.
use Rattle.std.specs.Prelude.{◌≡◌, slice_set, ℕ, zero, suc, ◌<◌, ◌==◌, Bool, false, List, Option, Some, None, length, slice_index_or, if◌then◌else◌}
use Rattle.lg_live.specs.declared.point.Point.{Point}
use Rattle.lg_live.specs.declared.chains.Chains.{Chains}
use Rattle.lg_live.specs.Graphs.{point_at}

abbrev pub is_to : ℕ → Option ℕ → Bool
is_to to None = false
is_to to (Some k) = k == to

-- the last point before this one that jumps to a point
unfoldable pub last_before : List Point → ℕ → ℕ → Option ℕ
last_before points to zero = None
last_before points to (suc i) = if is_to to (point_at points i).jumps then Some i else last_before points to i

-- a point has become the head of the chain of another, and the head before it is given
abbrev pub IsLinked : List (Option ℕ) → List (Option ℕ) → Option ℕ → ℕ → ℕ → Type 0
IsLinked old new before to i = (before ≡ slice_index_or old to None) × (new ≡ slice_set old to (Some i))

pub record AreChains (points : List Point) (count : ℕ) (chains : Chains) : Type 0 where
  pub last : (to : ℕ) → to < count → slice_index_or chains.last.items to None ≡ last_before points to (length points)
  pub earlier : (i to : ℕ) → i < length points → (point_at points i).jumps ≡ Some to → slice_index_or chains.earlier.items i None ≡ last_before points to i
