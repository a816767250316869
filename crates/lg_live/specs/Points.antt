-- The points of a text: its nodes, and after them, for the function that begins at node p, a gate at p after the last node, through
-- which its jumps to taken labels go.
use Rattle.std.specs.Prelude.{◌≡◌, ◌↔◌, ◌⊎◌, ℕ, ◌+◌, ◌<◌, nat_lt, Bool, true, false, not, ◌&&◌, if◌then◌else◌, List, Option, Some, None, length, slice_get, slice_index_or}
use Rattle.lg_op.specs.declared.operand.Reg.{Reg}
use Rattle.lg_op.specs.declared.node.Node.{Node}
use Rattle.lg_op.specs.declared.op.Op.{Op}
use Rattle.lg_node.specs.declared.place.Place.{Place}
use Rattle.lg_node.specs.declared.place.Place.TheVariants as place
use Rattle.lg_node.specs.Nodes.{LabelledNodes}
use Rattle.lg_node.specs.Functions.{home}
use Rattle.lg_node.specs.Shapes.{TextShape, Way, Next, Jump, Either, Taken, way_of, target_of, IsTaken}
use Rattle.lg_live.specs.RegSets.{has}
use Rattle.lg_live.specs.Uses.{is_read, is_written}
use Rattle.lg_live.specs.declared.point.Point.{Point}

abbrev pub falls_by : Way → Bool
falls_by Next = true
falls_by Either = true
falls_by w = false

abbrev pub aims_by : Way → Bool
aims_by Jump = true
aims_by Either = true
aims_by w = false

abbrev pub gathers_by : Way → Bool
gathers_by Taken = true
gathers_by w = false

-- the node at which a place is, where it is one of n
abbrev pub node_within : ℕ → Option Place → Option ℕ
node_within count (Some (place.Node k)) = if nat_lt k count then Some k else None
node_within count o = None

abbrev pub gate : LabelledNodes → ℕ → ℕ
gate l p = length l.nodes + p

abbrev pub gate_of : LabelledNodes → Bool → Option ℕ → Option ℕ
gate_of l b None = None
gate_of l b (Some p) = if b then Some (gate l p) else None

-- where a node jumps: to its target, or to the gate of its function
abbrev pub jump_of : LabelledNodes → Option ℕ → Node → Option ℕ
jump_of l home n = if aims_by (way_of n.op) then node_within (length l.nodes) (target_of l.places n.operands) else gate_of l (gathers_by (way_of n.op)) home

-- the gate that leads to a node
abbrev pub join_of : LabelledNodes → Option ℕ → ℕ → Bool → Option ℕ
join_of l None i marked = None
join_of l (Some p) i marked = if marked && nat_lt p i then Some (gate l p) else None

-- a label is taken and bound at a node
pub record IsTakenBy (l : LabelledNodes) (s : TextShape) (k label : ℕ) : Type 0 where
  pub taken : IsTaken s label
  pub place : slice_get l.places label ≡ Some (Some (place.Node k))

-- some label is
pub record IsTakenAt (l : LabelledNodes) (s : TextShape) (k : ℕ) : Type 0 where
  pub label : ℕ
  pub by : IsTakenBy l s k label

abbrev pub IsMarkedAt : LabelledNodes → TextShape → ℕ → Bool → Type 0
IsMarkedAt l s k marked = (marked ≡ true) ↔ IsTakenAt l s k

-- what was marked is marked, and besides exactly this
abbrev pub IsMarkedBesides : List Bool → List Bool → (ℕ → Type 0) → Type 0
IsMarkedBesides old new This = (k : ℕ) → k < length old → (slice_index_or new k false ≡ true) ↔ ((slice_index_or old k false ≡ true) ⊎ This k)

pub record AreMarked (l : LabelledNodes) (s : TextShape) (marks : List Bool) : Type 0 where
  pub count : length marks ≡ length l.nodes
  pub marked : (k : ℕ) → k < length l.nodes → IsMarkedAt l s k (slice_index_or marks k false)

-- the point of a node, where the operations of `feeding` read only for what they write
pub record IsPoint (feeding : Op → Bool) (l : LabelledNodes) (s : TextShape) (i : ℕ) (n : Node) (p : Point) : Type 0 where
  pub reads : (r : Reg) → has p.reads r ≡ (is_read n r && not (feeding n.op))
  pub feeds : (r : Reg) → has p.feeds r ≡ (is_read n r && feeding n.op)
  pub writes : (r : Reg) → has p.writes r ≡ is_written n r
  pub falls : p.falls ≡ (falls_by (way_of n.op) && nat_lt (i + 1) (length l.nodes))
  pub jumps : p.jumps ≡ jump_of l (home l.nodes i) n
  pub marked : Bool
  pub marked_at : IsMarkedAt l s i marked
  pub joins : p.joins ≡ join_of l (home l.nodes i) i marked

pub record ArePoints (feeding : Op → Bool) (l : LabelledNodes) (s : TextShape) (points : List Point) : Type 0 where
  pub count : length points ≡ length l.nodes
  pub each : (i : ℕ) (n : Node) (p : Point) → slice_get l.nodes i ≡ Some n → slice_get points i ≡ Some p → IsPoint feeding l s i n p
