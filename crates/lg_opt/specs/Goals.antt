-- Which jumps are dropped, and where the others lead.
use Rattle.std.specs.Prelude.{◌≡◌, ℕ, zero, suc, ◌-◌, ◌<◌, ◌≤◌, Bool, false, not, ◌&&◌, nat_lt, nat_le, if◌then◌else◌, List, length, slice_index, slice_index_or}
use Rattle.lg_base.specs.Runs.{iter}
use Rattle.lg_node.specs.Nodes.{LabelledNodes}
use Rattle.lg_opt.specs.Hops.{jump_at, hop}

-- where as many jumps from a node lead as there are nodes: to the end of the jumps, or they turn
abbrev pub lead : LabelledNodes → ℕ → ℕ
lead l i = iter (hop l) (length l.nodes) i

abbrev pub turns : LabelledNodes → ℕ → Bool
turns l i = jump_at l (lead l i)

-- how many jumps there are from a node on, of at most this many
abbrev pub jumps_from : LabelledNodes → ℕ → ℕ → ℕ
jumps_from l zero i = 0
jumps_from l (suc f) i = if jump_at l i then suc (jumps_from l f (hop l i)) else 0

-- the node to which a jump leads when it is threaded: one that turns is left as it is
abbrev pub goal_node : LabelledNodes → ℕ → ℕ
goal_node l i = if turns l i then hop l i else lead l i

-- a jump is dropped where it leads forward, and no farther than to the next node that stays
abbrev pub is_dropped : LabelledNodes → ℕ → ℕ → Bool
is_dropped l i next = jump_at l i && (nat_lt i (goal_node l i) && nat_le (goal_node l i) next)

-- the first node that stays among the last ones, or the place after the last
unfoldable pub next_stays : LabelledNodes → ℕ → ℕ
next_stays l zero = length l.nodes
next_stays l (suc d) = if is_dropped l (length l.nodes - suc d) (next_stays l d) then next_stays l d else length l.nodes - suc d

abbrev pub stays : LabelledNodes → ℕ → Bool
stays l i = not (is_dropped l i (next_stays l (length l.nodes - suc i)))

-- a table has of each node where the jumps from it lead in the end, or a jump where they turn
pub record IsEnd (l : LabelledNodes) (table : List ℕ) (i : ℕ) : Type 0 where
  pub turning : jump_at l (slice_index table i) ≡ turns l i
  pub end : turns l i ≡ false → slice_index table i ≡ lead l i

abbrev pub AreEnds : LabelledNodes → List ℕ → Type 0
AreEnds l table = (i : ℕ) → i < length table → IsEnd l table i

-- a table has of the last nodes whether they stay
abbrev pub AreStays : LabelledNodes → ℕ → List Bool → Type 0
AreStays l from table = (i : ℕ) → from ≤ i → i < length table → slice_index_or table i false ≡ stays l i
