-- The points of a search: each with the registers that it reads and writes, and where it leads.
use Rattle.std.specs.Prelude.{◌≡◌, ◌⊎◌, ℕ, ◌+◌, ◌<◌, ◌≤◌, Bool, true, false, not, ◌&&◌, ◌||◌, List, Some, None, length, slice_index_or}
use Rattle.lg_op.specs.declared.operand.Reg.{Reg}
use Rattle.lg_op.specs.declared.operand.Reg.TheVariants.{R0, R1, R2, V0, V1, V2}
use Rattle.lg_live.specs.RegSets.{has}
use Rattle.lg_live.specs.declared.reg_set.RegSet.{RegSet}
use Rattle.lg_live.specs.declared.point.Point.{Point}

abbrev pub no_point : Point
no_point = record { reads = record { 0 = 0 }; feeds = record { 0 = 0 }; writes = record { 0 = 0 }; falls = false; jumps = None; joins = None }

-- a point; those after the last only join others
abbrev pub point_at : List Point → ℕ → Point
point_at points i = slice_index_or points i no_point

-- one point leads to another
pub data IsArc (points : List Point) : ℕ → ℕ → Type 0 where
  falls : (i k : ℕ) → (point_at points i).falls ≡ true → k ≡ i + 1 → IsArc points i k
  jumps : (i k : ℕ) → (point_at points i).jumps ≡ Some k → IsArc points i k
  joins : (i k : ℕ) → (point_at points k).joins ≡ Some i → IsArc points i k

-- a register is required at a point where that point reads it; where a register that the point makes of it is required after the point; and where it is
-- required after the point, which does not write it
pub data IsWanted (points : List Point) : Reg → ℕ → Type 0 where
  read_here : (r : Reg) (i : ℕ) → has (point_at points i).reads r ≡ true → IsWanted points r i
  read_for : (r q : Reg) (i k : ℕ) → has (point_at points i).feeds r ≡ true → has (point_at points i).writes q ≡ true → IsArc points i k
      → IsWanted points q k → IsWanted points r i
  kept_to : (r : Reg) (i k : ℕ) → has (point_at points i).writes r ≡ false → IsArc points i k → IsWanted points r k → IsWanted points r i

-- all points are below this number
pub record AreWithin (points : List Point) (count : ℕ) : Type 0 where
  pub few : length points ≤ count
  pub falls : (i : ℕ) → (point_at points i).falls ≡ true → i + 1 < count
  pub jumps : (i k : ℕ) → (point_at points i).jumps ≡ Some k → k < count
  pub joins : (i k : ℕ) → (point_at points k).joins ≡ Some i → i < count

-- whether some register has a property
abbrev pub any_register : (Reg → Bool) → Bool
any_register f = f R0 || (f R1 || (f R2 || (f V0 || (f V1 || f V2))))

-- which registers are required before a point, where these are after it, besides those that it reads in any case
abbrev pub passes : Point → (Reg → Bool) → Reg → Bool
passes p set r = (set r && not (has p.writes r)) || (has p.feeds r && any_register (λ q. set q && has p.writes q))

abbrev pub set_at : List RegSet → ℕ → RegSet
set_at sets i = slice_index_or sets i (record { 0 = 0 })

-- the registers that are required at each point
pub record AreWanted (points : List Point) (count : ℕ) (sets : List RegSet) : Type 0 where
  pub all : length sets ≡ count
  pub sound : (i : ℕ) (r : Reg) → has (set_at sets i) r ≡ true → IsWanted points r i
  pub complete : (i : ℕ) (r : Reg) → IsWanted points r i → has (set_at sets i) r ≡ true

-- a register is required at a point to which one leads by falling or jumping
pub record IsWantedAfter (points : List Point) (r : Reg) (i : ℕ) : Type 0 where
  pub next : ℕ
  pub way : (((point_at points i).falls ≡ true) × (next ≡ i + 1)) ⊎ ((point_at points i).jumps ≡ Some next)
  pub needed : IsWanted points r next
